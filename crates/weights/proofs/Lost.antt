-- Gene trees that lost species (#104): one with no cluster within A adds nothing to the weight of A, any other k - 1; and of A only the species of the gene tree count.
use Prim.Native.Nat.{ℕ, ◌+◌, ◌-◌, ◌≤◌, min}
use mathlib.Core.Path.{◌≡◌, refl, ap, ap₂}
use mathlib.Core.Logic.{◌↔◌}
use mathlib.Core.Bool.{Bool, ◌&&◌}
use mathlib.Core.List.Memᴰ.{head as here}
use mathlib.Core.List.Memᴰ.{tail as there}
use mathlib.Core.List.{List, [], ◌∷◌, ◌++◌}
use native.Mathlib.Omega.{arith}
use lib.ListN.{length}
use lib.Bits.{bit_and}
use Rattle.clusters.specs.Sets.{Within, Apart, within, single}
use Rattle.clusters.proofs.Members.{some_has, has_and, and_has, within_of_has, has_of_within, apart_of_has, has_of_apart}
use Rattle.clusters.proofs.Sets.{single-within}
use Rattle.clusters.proofs.Sizes.{size-zero}
use Rattle.trees.specs.Lists.{Among, some}
use Rattle.trees.specs.Records.{listed, largest, GeneValidFor}
use Rattle.trees.specs.Valid.{among, every}
use Rattle.trees.specs.Drawn.{maximal, children}
use Rattle.trees.proofs.Breadth.{Small}
use Rattle.trees.proofs.ValidTest.{tells_within}
use Rattle.trees.proofs.GeneRecords.{gene-small}
use Rattle.weights.specs.Count.{maximal_within, holds_maximal, k_of, one_or, extra, weight}
use Rattle.weights.specs.declared.Rooting.TheVariants.{Rooted}
use Rattle.weights.proofs.Joining.{keep_same, tells_same}
use Rattle.weights.proofs.Compared.{k_never_more, k_some}
use Rattle.weights.proofs.Bounds.{drawn-le}
use Rattle.weights.proofs.Sums.{weight_cons, weight-anywhere}

-- ---- which clusters lie within A is all that k asks

every_same : (test other : ℕ → Bool) (l : List ℕ) → ((x : ℕ) → Among x l → test x ≡ other x) → every test l ≡ every other l
unfolding every
every_same test other [] h = refl
every_same test other (x ∷ l) h = ap₂ ◌&&◌ (h x (here refl)) (every_same test other l (λ y m. h y (there m)))

-- two sets that hold the same clusters of a list have the same k
pub k_of_same_within : (cs : List ℕ) (a b : ℕ) → ((x : ℕ) → Among x cs → within x a ≡ within x b) → k_of cs a ≡ k_of cs b
unfolding k_of holds_maximal maximal_within
k_of_same_within cs a b h =
    ap₂ one_or (every_same (λ x. within x a) (λ x. within x b) cs h)
    (ap length (keep_same (λ p. holds_maximal cs a p) (λ p. holds_maximal cs b p) cs (λ p m. ap (λ (l : List ℕ). holds p l) tops)))
  where
    holds : ℕ → List ℕ → Bool
    holds p l = some (λ x. among x l) (children cs p)

    tops : maximal_within cs a ≡ maximal_within cs b
    tops = ap maximal (keep_same (λ x. within x a) (λ x. within x b) cs h)

-- ---- a valid gene record

-- no cluster of the gene record lies within A
abbrev pub NoneWithin : List ℕ → ℕ → Type 0
NoneWithin g a = (x : ℕ) → Among x (listed g) → Within x a → ⊥

module _ {b n : ℕ} {g : List ℕ} (few : n ≤ min b 32) (v : GeneValidFor b n g) (a : ℕ) where
  small : Small b (largest g)
  small = gene-small few v

  -- no cluster lies within A exactly when the tree has no species of A
  pub none_within_exactly : NoneWithin g a ↔ Apart a (largest g)
  none_within_exactly = (
    λ none. apart_of_has a (largest g) (λ i m h. none (single i) (v.valid.singles i h) (single-within a i m)),
    λ apart x m w.
        let inside = v.valid.inside x m in
        let i = some_has x inside.0 in
        has_of_apart a (largest g) i.0 apart (has_of_within x a i.0 w i.1) (has_of_within x (largest g) i.0 inside.1 i.1),
  )

  -- then no node is counted
  k_of_none : NoneWithin g a → k_of (listed g) a ≡ 0
  k_of_none none =
      let most = drawn-le v.valid a 0 (λ x t. absurd (none x t.among t.inside)) in
      omega (arith, k_never_more v.valid small a, size-zero)

  -- "A gene tree with no cluster within A adds nothing to A's weight" (#104)
  pub none_within_adds_nothing : NoneWithin g a → extra Rooted g a ≡ 0
  unfolding extra
  none_within_adds_nothing none = omega (arith, k_of_none none)

  pub apart_adds_nothing : Apart a (largest g) → extra Rooted g a ≡ 0
  apart_adds_nothing apart = none_within_adds_nothing (none_within_exactly.1 apart)

  -- "Otherwise #101's count less one" (#104): k is at least 1, so this is no less than 0
  pub met_adds_k_less_one : (Apart a (largest g) → ⊥) → k_of (listed g) a ≡ extra Rooted g a + 1
  unfolding Apart extra
  met_adds_k_less_one met =
      let i = some_has (bit_and a (largest g)) (omega (arith, met)) in
      let both = has_and a (largest g) i.0 i.1 in
      let one = k_some v.valid small a i.0 both.1 both.0 in
      omega arith

  pub some_within_adds_k_less_one : (x : ℕ) → Among x (listed g) → Within x a → k_of (listed g) a ≡ extra Rooted g a + 1
  some_within_adds_k_less_one x m w = met_adds_k_less_one (λ apart. none_within_exactly.1 apart x m w)

  -- ---- a species that a locus lost can be forgotten

  -- of the tree's clusters the same lie within A as within the tree's species of A
  cut-within : (x : ℕ) → Among x (listed g) → within x a ≡ within x (bit_and a (largest g))
  cut-within x m =
      tells_same (tells_within x a) (tells_within x (bit_and a (largest g)))
      (λ w. within_of_has x (bit_and a (largest g)) (λ i h. and_has a (largest g) i (has_of_within x a i w h) (has_of_within x (largest g) i (v.valid.inside x m).1 h)))
      (λ w. within_of_has x a (λ i h. (has_and a (largest g) i (has_of_within x (bit_and a (largest g)) i w h)).0))

  -- k of A is k of A cut to the gene tree's species
  pub k_forgets_lost : k_of (listed g) a ≡ k_of (listed g) (bit_and a (largest g))
  k_forgets_lost = k_of_same_within (listed g) a (bit_and a (largest g)) cut-within

  -- and so are its extra lineages
  pub extra_forgets_lost : extra Rooted g a ≡ extra Rooted g (bit_and a (largest g))
  unfolding extra
  extra_forgets_lost = ap (λ (k : ℕ). k - 1) k_forgets_lost

  -- ---- the weight

  -- a gene tree without species of A can be left out of the weight of A, wherever it stands
  pub weight-without-lost : (before behind : List (List ℕ)) → Apart a (largest g) → weight Rooted (before ++ (g ∷ behind)) a ≡ weight Rooted (before ++ behind) a
  weight-without-lost before behind apart =
      omega (arith, weight-anywhere Rooted before g behind a, weight_cons Rooted g (before ++ behind) a, apart_adds_nothing apart)
