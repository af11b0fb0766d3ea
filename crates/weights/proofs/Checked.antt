-- What follows for gene records that were checked: where their clusters stand, and how many extra lineages they have.
use Prim.Native.Nat.{ℕ, suc, ◌+◌, ◌-◌, ◌≤◌, ◌<◌}
use mathlib.Core.Path.{◌≡◌, ap, ap₂, ◌∙◌}
use mathlib.Core.List.{List, [], ◌∷◌}
use native.Mathlib.Omega.{arith}
use lib.ListN.{length, take, drop, get_or, length-take, length-drop, drop_of_length-le}
use lib.Seq.{drop-cons, get_or-take, get_or-drop}
use Rattle.clusters.proofs.Sizes.{size-le}
use Rattle.trees.specs.Lists.{Among}
use Rattle.trees.specs.Records.{count, listed, FormFor}
use Rattle.trees.proofs.Breadth.{small_in_breadth}
use Rattle.trees.proofs.Places.{place-among}
use Rattle.weights.specs.Count.{k_drawn, extra}
use Rattle.weights.specs.Work.{CountableFor, Counted}
use Rattle.weights.proofs.Bounds.{drawn-le, extra_lt_all}
use Rattle.weights.specs.declared.Rooting.{Rooting}

-- ---- where the clusters of a record stand

pub listed-fits : {b : ℕ} {g : List ℕ} → FormFor b g → count g ≤ length (drop 1 g)
listed-fits {b} {g} f = let l = f.sized in let k = f.counted in omega (arith, length-drop 1 g)

-- of the first m clusters those from the i-th on, counted from 1 as they stand in the record
pub first_from : {b : ℕ} {g : List ℕ} (m i : ℕ) → FormFor b g → m ≤ count g → 1 ≤ i → i ≤ m → drop (i - 1) (take m (drop 1 g)) ≡ get_or g i 0 ∷ drop (i + 1 - 1) (take m (drop 1 g))
first_from {b} {g} m i f fits one last =
    drop-cons (take m (drop 1 g)) (i - 1) 0 inside ∙ ap₂ (λ (x j : ℕ). x ∷ drop j (take m (drop 1 g))) there next
  where
    inside : i - 1 < length (take m (drop 1 g))
    inside = omega (arith, length-take m (drop 1 g), listed-fits f)

    next : suc (i - 1) ≡ i + 1 - 1
    next = omega arith

    place : 1 + (i - 1) ≡ i
    place = omega arith

    there : get_or (take m (drop 1 g)) (i - 1) 0 ≡ get_or g i 0
    there = get_or-take m (drop 1 g) (i - 1) 0 (omega arith) ∙ get_or-drop 1 g (i - 1) 0 ∙ ap (λ (j : ℕ). get_or g j 0) place

pub first_none : (g : List ℕ) (m i : ℕ) → m < i → drop (i - 1) (take m (drop 1 g)) ≡ []
first_none g m i past = drop_of_length-le (take m (drop 1 g)) {i = i - 1} (omega (arith, length-take m (drop 1 g)))

-- of all clusters
pub listed_from : {b : ℕ} {g : List ℕ} (i : ℕ) → FormFor b g → 1 ≤ i → i ≤ count g → drop (i - 1) (listed g) ≡ get_or g i 0 ∷ drop (i + 1 - 1) (listed g)
listed_from {b} {g} i f one last = first_from (count g) i f (omega arith) one last

pub listed_at : {b : ℕ} {g : List ℕ} (i : ℕ) → FormFor b g → 1 ≤ i → i ≤ count g → Among (get_or g i 0) (listed g)
listed_at {b} {g} i f one last = place-among g (count g) f.sized f.counted i one last

-- the i-th of the clusters that a loop over the record passes
pub listed_item : {b : ℕ} {g : List ℕ} (i : ℕ) → FormFor b g → i < length (take (count g + 1 - 1) (drop 1 g))
    → (i < count g) × (get_or (take (count g + 1 - 1) (drop 1 g)) i 0 ≡ get_or g (i + 1) 0)
listed_item {b} {g} i f inside =
    let all : count g + 1 - 1 ≡ count g = omega arith in
    let place : 1 + i ≡ i + 1 = omega arith in
    let less : i < count g = omega (arith, length-take (count g + 1 - 1) (drop 1 g)) in
    (less, rw all (get_or-take (count g) (drop 1 g) i 0 less ∙ get_or-drop 1 g i 0 ∙ ap (λ (j : ℕ). get_or g j 0) place))

-- and where it ends
pub listed_over : {b : ℕ} {g : List ℕ} {i : ℕ} → FormFor b g → length (take (count g + 1 - 1) (drop 1 g)) ≤ i → count g ≤ i
listed_over {b} {g} f over = omega (arith, length-take (count g + 1 - 1) (drop 1 g), listed-fits f)

-- what can be counted can be counted where its numbers have more bits
pub counted_same : (g wide : List ℕ) → wide ≡ g → Counted g → Counted wide
counted_same g wide same can = rw same can

-- ---- bounds

-- a gene tree has at most as many species as the breadth of its record, and one extra lineage less
pub extra-le : {b : ℕ} (rooting : Rooting) {g : List ℕ} (a : ℕ) → CountableFor b g → extra rooting g a ≤ b - 1
extra-le {b} rooting {g} a can = omega (arith, extra_lt_all can.valid can.small rooting a, size-le b (small_in_breadth b can.small))

-- and 01's count is at most the breadth
pub drawn_few : {b : ℕ} {g : List ℕ} → CountableFor b g → (a : ℕ) → k_drawn (listed g) a ≤ b
drawn_few {b} {g} can a =
    omega (arith, drawn-le can.valid a can.species (λ x t. (can.valid.inside x t.among).1), size-le b (small_in_breadth b can.small))
