-- What the set of needed species changes in a reading: a tree that lacks one of them is refused by 9 at its `;`, and nothing else.
use Prim.Native.Nat.{ℕ, ◌+◌, ◌-◌, ◌*◌}
use mathlib.Core.Path.{◌≡◌, refl, ap}
use mathlib.Core.Bool.{Bool, true, false}
use mathlib.Core.List.{List, [], ◌∷◌, tail}
use native.Mathlib.Omega.{arith}
use lib.ListN.{length}
use Rattle.clusters.specs.Sets.{within}
use Rattle.clusters.proofs.Sets.{true-within, zero-within}
use Rattle.labels.specs.Bytes.{next_is}
use Rattle.trees.specs.Tree.{Tree, cluster}
use Rattle.tokens.specs.Answers.{Answer, and_then, unexpected}
use Rattle.tokens.specs.Answers.Answer.{parsed, refused}
use Rattle.tokens.specs.Tokens.{blanks, skip}
use Rattle.nodes.specs.Reading.{read_node, complete, ended, read_tree, read_tree_by, read_tree_to_by}

-- a tree that was read up to q, by whether it has the needed species: its `;` is the last byte that was read
abbrev pub unless_lacking : Bool → Tree → List ℕ → ℕ → Answer Tree
unless_lacking true t rest q = parsed t rest q
unless_lacking false t rest q = refused 9 (q - 1)

-- a reading that needs no species, judged for those that are needed
abbrev pub then_needed : ℕ → Answer Tree → Answer Tree
then_needed needed a = and_then a (λ t rest q. unless_lacking (within needed (cluster t)) t rest q)

complete_judges : (b : Bool) (t : Tree) (s : List ℕ) (p : ℕ) → complete b t s p ≡ unless_lacking b t (tail s) (p + 1)
complete_judges true t s p = refl
complete_judges false t s p = let e : p ≡ p + 1 - 1 = omega arith in ap (λ (q : ℕ). refused 9 q) e

unexpected-judged : (needed : ℕ) (s : List ℕ) (p : ℕ) → unexpected s p ≡ then_needed needed (unexpected s p)
unexpected-judged needed [] p = refl
unexpected-judged needed (b ∷ s) p = refl

ended-judged : (b : Bool) (needed : ℕ) (t : Tree) (s : List ℕ) (p : ℕ) → ended b needed t s p ≡ then_needed needed (ended b 0 t s p)
ended-judged true needed t s p =
    rw (true-within 0 (cluster t) (zero-within (cluster t))) (complete_judges (within needed (cluster t)) t s p)
ended-judged false needed t s p = unexpected-judged needed s p

-- reading with needed species is reading without any, and then the judgement
pub read-then-needed : (given : Bool) (names : List (List ℕ)) (most needed : ℕ) (s : List ℕ) (p : ℕ) → read_tree given names most needed s p ≡ then_needed needed (read_tree given names most 0 s p)
unfolding read_tree_by read_tree_to_by
read-then-needed given names most needed s p = go (read_node given (2 * length s + 1) names most 0 s p)
  where
    go : (a : Answer Tree)
        → and_then a (λ t s p. ended (next_is 59 (skip s)) needed t (skip s) (p + blanks s))
        ≡ then_needed needed (and_then a (λ t s p. ended (next_is 59 (skip s)) 0 t (skip s) (p + blanks s)))
    go (parsed t m q) = ended-judged (next_is 59 (skip m)) needed t (skip m) (q + blanks m)
    go (refused n q) = refl
