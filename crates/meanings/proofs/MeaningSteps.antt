-- Steps of reading with limits and roster lifted; names on the roster, and sets of species.
use Prim.Native.Nat.{ℕ, suc, ◌-◌, ◌<◌}
use mathlib.Core.Path.{◌≡◌, refl, sym, ◌∙◌}
use mathlib.Core.Bool.{Bool, true, false, not}
use mathlib.Core.List.{List, [], ◌∷◌, ◌++◌, append_cancel_right}
use native.Mathlib.Omega.{arith}
use lib.ListN.{length}
use lib.Bits.{bit_and}
use Rattle.clusters.specs.Sets.{Has, Within, single, apart, within}
use Rattle.clusters.proofs.Members.{has_and, and_has, some_has, within_of_has, has_dec}
use Rattle.clusters.proofs.Sets.{within-false, apart-false, single-apart, minus_some, has_minus}
use Rattle.labels.specs.Bytes.{one_more, next_label}
use Rattle.labels.specs.Labels.{letters, Told, told}
use Rattle.labels.specs.Labels.Told.{ended, faulty}
use Rattle.labels.proofs.LabelFronts.{Front}
use Rattle.trees.specs.Tree.{Tree, Forest}
use Rattle.roster.specs.Roster.{same, position}
use Rattle.roster.proofs.Positions.{same_is}
use Rattle.tokens.specs.Answers.Answer.{parsed}
use Rattle.tokens.specs.Tokens.{name_by, name, inner_name}
use Rattle.nodes.specs.Reading.{read_node, read_forest}
use Rattle.nodes.specs.Grammar.{Rules, strict, lifted, ColonNumber, Numbers, Inner, Node, Children}
use Rattle.nodes.specs.Grammar.ColonNumber.{colon}
use Rattle.nodes.specs.Grammar.Numbers.{nothing, distance, both, support}
use Rattle.nodes.proofs.Answers.{refused-parsed}
use Rattle.nodes.proofs.Fronts.{Then, BlanksAnd, strict-lifted, colon-allowed, inner-allowed, children-allowed, lift_node}
use Rattle.nodes.proofs.Exact.{stopped-label, colon-stops}
use Rattle.meanings.proofs.MeaningContexts.{NodeOf, ChildrenOf}
use Rattle.meanings.proofs.ReadingSteps.{Step, step_as, step-inner, step-node, step-forest}

-- ---- steps of reading, limits and roster lifted

module _ (given : Bool) (names : List (List ℕ)) where
  -- a distance and a second colon
  pub lifted-second :
      {d s m : List ℕ} {p r : ℕ} → Step (Then (ColonNumber (strict given names).distance d) (BlanksAnd 58)) s p m r
      → Step (Then (ColonNumber lifted.distance d) (BlanksAnd 58)) s p m r
  lifted-second {d} x =
      let X = ColonNumber (strict given names).distance d in
      let Y = ColonNumber lifted.distance d in
      step_as (Then X (BlanksAnd 58)) (Then Y (BlanksAnd 58))
      (λ s rest h.
      record {
        mid = h.mid;
        first = colon-allowed (strict given names).distance lifted.distance (strict-lifted given names).distances h.first;
        second = h.second;
      })
      x

  pub lifted-inner : (s : List ℕ) (p : ℕ) {w rest : List ℕ} {q : ℕ} → inner_name s p ≡ parsed w rest q → Step (Inner lifted w) s p rest q
  lifted-inner s p {w} h =
      step_as (Inner (strict given names) w) (Inner lifted w) (λ s rest i. inner-allowed (strict given names) lifted (strict-lifted given names) i)
      (step-inner given names s p h)

  module _ (k room seen : ℕ) (s : List ℕ) (p : ℕ) where
    pub lifted-node : {t : Tree} {rest : List ℕ} {q : ℕ} → read_node given k names room seen s p ≡ parsed t rest q → Step (NodeOf room t) s p rest q
    lifted-node {t} h =
        step_as (λ s rest. Node (strict given names) room s t rest) (NodeOf room t) (λ s rest d. lift_node given names d)
        (step-node given names k room seen s p h)

    pub lifted-forest : {f : Forest} {rest : List ℕ} {q : ℕ} → read_forest given k names room seen s p ≡ parsed f rest q → Step (ChildrenOf room f) s p rest q
    lifted-forest {f} h =
        step_as (λ s rest. Children (strict given names) room s f rest) (ChildrenOf room f)
        (λ s rest d. children-allowed (strict given names) lifted (strict-lifted given names) d) (step-forest given names k room seen s p h)

-- ---- names on the roster

-- known names that stand at one place are the same
pub same_position : (w v : List ℕ) (names : List (List ℕ)) → position w names ≡ position v names → position v names < length names → w ≡ v
unfolding position
same_position w v [] e l = absurd (omega arith)
same_position w v (x ∷ names) e l = go (same w x) refl (same v x) refl e l (same_position w v names)
  where
    go :
        (t : Bool) → same w x ≡ t → (t' : Bool) → same v x ≡ t' → one_more (not t) (position w names) ≡ one_more (not t') (position v names)
        → one_more (not t') (position v names) < suc (length names)
        → (position w names ≡ position v names → position v names < length names → w ≡ v) → w ≡ v
    go true a true b e l h = same_is w x a ∙ sym (same_is v x b)
    go true a false b e l h = absurd (omega arith)
    go false a true b e l h = absurd (omega arith)
    go false a false b e l h = h (omega arith) (omega arith)

pub name-word : (s : List ℕ) (p : ℕ) {w rest : List ℕ} {q : ℕ} → name s p ≡ parsed w rest q → letters s ≡ w
unfolding name
name-word s p {w} {rest} {q} h = go (told s) h
  where
    go : (t : Told) → name_by t s p ≡ parsed w rest q → letters s ≡ w
    go (ended n) h = cc
    go (faulty number d) h = absurd (refused-parsed h)

-- what is not apart from the one species has it
pub has-seen : (i seen : ℕ) → apart (single i) seen ≡ false → Has seen i
has-seen i seen h = go (has_dec seen i)
  where
    go : Dec (Has seen i) → Has seen i
    go (yes has) = has
    go (no lacks) = absurd (apart-false (single i) seen h (single-apart seen i lacks))

pub is_within : (a b : ℕ) → bit_and a b ≡ a → Within a b
unfolding Within
is_within a b e = e

-- what does not lie within has a species that the other lacks
pub lacking : (a b : ℕ) → within a b ≡ false → (i : ℕ) × Has a i × (Has b i → ⊥)
lacking a b h =
    let both = bit_and a b in
    let inside : Within both a = within_of_has both a (λ i m. (has_and a b i m).0) in
    let less : both ≡ a → ⊥ = λ e. within-false a b h (is_within a b e) in
    let some = some_has (a - both) (minus_some inside less) in
    let i = some.0 in
    let left = has_minus a both i inside some.1 in
    (i, left.0, λ m. left.1 (and_has a b i left.0 m))

-- ---- numbers stop a label

pub numbers-stop : {R : Rules} {d b s rest : List ℕ} → Numbers R d b s rest → next_label rest ≡ false → next_label s ≡ false
numbers-stop nothing h = h
numbers-stop (distance (colon bl gap n short)) h = stopped-label (colon-stops bl)
numbers-stop (both (colon bl gap n short) c) h = stopped-label (colon-stops bl)
numbers-stop (support bl c) h = stopped-label (colon-stops bl)

pub same_bytes : {X : List ℕ → List ℕ → Type 0} {s rest : List ℕ} (f : Front X s rest) (x : List ℕ) → s ≡ x ++ rest → f.bytes ≡ x
same_bytes {rest = rest} f x e = append_cancel_right f.bytes x rest (sym f.split ∙ e)
