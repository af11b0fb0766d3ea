-- Gene records, whose trees may lack species (#104): the largest cluster is the tree's whole set, the test decides exactly, and they are the records of drawn trees on some of the species.
use Prim.Native.Nat.{ℕ, zero, suc, ◌+◌, ◌-◌, ◌^◌, ◌≤◌, ◌<◌, min}
use mathlib.Core.Path.{◌≡◌, sym, ap, ◌∙◌, subst}
use mathlib.Core.Logic.{◌↔◌}
use mathlib.Core.Bool.{true, ◌&&◌}
use mathlib.Core.List.{List, [], ◌∷◌}
use native.Mathlib.Decide.{dec_lt}
use native.Mathlib.Omega.{arith}
use lib.Dec.{leb, ltb}
use lib.ListN.{length, get_or}
use lib.Pow.{pow_mono}
use borrow.Author.Tests.{leb-true, le-leb, ltb-true, lt-ltb}
use Rattle.clusters.specs.Sets.{whole}
use Rattle.clusters.proofs.Sets.{within-le, whole_below, whole_some}
use Rattle.trees.specs.Lists.{Among, Rising}
use Rattle.trees.specs.Tree.{Tree, On, clusters}
use Rattle.trees.specs.Records.{count, listed, record_for, largest, FormFor, ValidFor, SpeciesValid, ClusterOf, GeneValidFor, GeneValid}
use Rattle.trees.specs.Valid.{valid_for, valid_gene_for}
use Rattle.trees.specs.Drawn.{Alike, drawn}
use Rattle.trees.proofs.Breadth.{Small, small_in_breadth, small_of_species}
use Rattle.trees.proofs.Booleans.{both}
use Rattle.trees.proofs.Order.{rising-below}
use Rattle.trees.proofs.Places.{at_among, listed-length, listed-place, place-among, among-place}
use Rattle.trees.proofs.ValidTest.{Tells, valid_decides}
use Rattle.trees.proofs.Drawing.{drawn_on, drawn_record}
use Rattle.trees.proofs.Recorded.{valid_of_drawn}
use Rattle.trees.proofs.Likeness.{alike_of_record}

-- ---- the largest cluster

-- in a rising list what stands at a later place is larger
rising-places : (l : List ℕ) → Rising l → (i j : ℕ) → i < j → j < length l → get_or l i 0 < get_or l j 0
unfolding Rising
rising-places [] r i j p q = absurd (omega arith)
rising-places (x ∷ l) r i zero p q = absurd (omega arith)
rising-places (x ∷ l) r zero (suc j) p q = rising-below l r (at_among l 0 j (omega arith))
rising-places (x ∷ l) r (suc i) (suc j) p q = rising-places l r.1 i j (omega arith) (omega arith)

-- of two clusters of a record the one at the later place is larger
pub places_rise : {b : ℕ} {r : List ℕ} (i j : ℕ) → FormFor b r → 1 ≤ i → i < j → j ≤ count r → get_or r i 0 < get_or r j 0
places_rise {b} {r} i j f one less last =
    let here : i - 1 + 1 ≡ i = omega arith in
    let later : j - 1 + 1 ≡ j = omega arith in
    let rise = rising-places (listed r) f.rising (i - 1) (j - 1) (omega arith) (omega (arith, listed-length r (count r) f.sized f.counted)) in
    let low = listed-place r (count r) f.sized f.counted (i - 1) (omega arith) in
    let high = listed-place r (count r) f.sized f.counted (j - 1) (omega arith) in
    omega (arith, rise, low, high, ap (λ (k : ℕ). get_or r k 0) here, ap (λ (k : ℕ). get_or r k 0) later)

-- and the one at no later place is no larger
pub places-le : {b : ℕ} {r : List ℕ} (i j : ℕ) → FormFor b r → 1 ≤ i → i ≤ j → j ≤ count r → get_or r i 0 ≤ get_or r j 0
places-le {b} {r} i j f one le last = go (dec_lt i j)
  where
    go : Dec (i < j) → get_or r i 0 ≤ get_or r j 0
    go (yes less) = omega (arith, places_rise i j f one less last)
    go (no n) = let same : i ≡ j = omega arith in omega (arith, ap (λ (k : ℕ). get_or r k 0) same)

-- the largest cluster is listed
pub largest-among : {b : ℕ} {r : List ℕ} → FormFor b r → 1 ≤ count r → Among (largest r) (listed r)
largest-among {b} {r} f some = place-among r (count r) f.sized f.counted (count r) some (omega arith)

-- and no other is larger
pub among-le-largest : {b : ℕ} {r : List ℕ} {x : ℕ} → FormFor b r → Among x (listed r) → (1 ≤ count r) × (x ≤ largest r)
among-le-largest {b} {r} {x} f m =
    let p = among-place r (count r) f.sized f.counted x m in
    (omega (arith, p.first, p.last), omega (arith, places-le p.place (count r) f p.first p.last (omega arith), p.there))

-- the cluster at the place before the largest is smaller than it, and all others are no larger than that one
pub next_largest :
    {b : ℕ} {r : List ℕ} → FormFor b r → 2 ≤ count r
    → Among (get_or r (count r - 1) 0) (listed r) × (get_or r (count r - 1) 0 < largest r)
    × ((x : ℕ) → Among x (listed r) → (x ≡ largest r → ⊥) → x ≤ get_or r (count r - 1) 0)
next_largest {b} {r} f two = (
  place-among r (count r) f.sized f.counted (count r - 1) (omega arith) (omega arith),
  places_rise (count r - 1) (count r) f (omega arith) (omega arith) (omega arith),
  λ x m n.
      let p = among-place r (count r) f.sized f.counted x m in
      let last = p.last in
      let not_last : p.place ≡ count r → ⊥ = λ e. n (sym p.there ∙ ap (λ (k : ℕ). get_or r k 0) e) in
      omega (arith, places-le p.place (count r - 1) f p.first (omega (arith, not_last)) (omega arith), p.there),
)

-- the whole set of a valid record is its largest cluster
pub largest_of_valid : {b s : ℕ} {r : List ℕ} → ValidFor b s r → largest r ≡ s
largest_of_valid {b} {s} {r} v =
    let up = among-le-largest v.form v.all in
    let down = within-le (v.inside (largest r) (largest-among v.form up.0)).1 in
    omega (arith, up.1)

-- ---- gene records and species records

-- a record of n species is a gene record with every species, and the other way round
pub gene_of_species : {n : ℕ} {r : List ℕ} → 1 ≤ n → SpeciesValid n r → GeneValid n r
gene_of_species {n} {r} some v =
    let e = largest_of_valid v in
    record {
      of_roster = (omega (arith, whole_some n some), omega (arith, whole_below n));
      valid = subst (λ (s : ℕ). ValidFor 16 s r) (sym e) v;
    }

pub species_of_gene : {n : ℕ} {r : List ℕ} → GeneValid n r → largest r ≡ whole n → SpeciesValid n r
species_of_gene {n} {r} g e = subst (λ (s : ℕ). ValidFor 16 s r) e g.valid

-- a valid record on a set of species of the roster is a gene record
pub gene_of_valid : {b n s : ℕ} {r : List ℕ} → ValidFor b s r → ClusterOf n s → GeneValidFor b n r
gene_of_valid {b} {n} {s} {r} v some =
    let e = largest_of_valid v in
    record { of_roster = subst (λ (s : ℕ). ClusterOf n s) (sym e) some; valid = subst (λ (s : ℕ). ValidFor b s r) (sym e) v }

-- its species are no more bits than its breadth
pub gene-small : {b n : ℕ} {r : List ℕ} → n ≤ min b 32 → GeneValidFor b n r → Small b (largest r)
gene-small {b} few g = small_of_species b few g.of_roster.1

-- each of its clusters is a cluster of n species
pub gene-cluster-below : {b n : ℕ} {r : List ℕ} → GeneValidFor b n r → (x : ℕ) → Among x (listed r) → ClusterOf n x
gene-cluster-below {b} {n} {r} g x m = let k = g.valid.inside x m in (k.0, omega (arith, within-le k.1, g.of_roster.1))

-- ---- the test

-- the test is true exactly when the record is a valid gene record
pub gene_decides : {b n : ℕ} (r : List ℕ) → n ≤ b → Tells (valid_gene_for b n r) (GeneValidFor b n r)
unfolding valid_gene_for
gene_decides {b} {n} r few = record { holds = holds; told = told }
  where
    within_breadth : largest r < 2 ^ n → largest r < 2 ^ b
    within_breadth below = omega (arith, pow_mono {i = n} {j = b} few)

    holds : (leb 1 (largest r) && ltb (largest r) (2 ^ n) && valid_for b (largest r) r) ≡ true → GeneValidFor b n r
    holds e =
        let k = both (leb 1 (largest r) && ltb (largest r) (2 ^ n)) (valid_for b (largest r) r) e in
        let two = both (leb 1 (largest r)) (ltb (largest r) (2 ^ n)) k.0 in
        let below = ltb-true (largest r) (2 ^ n) two.1 in
        record { of_roster = (leb-true 1 (largest r) two.0, below); valid = (valid_decides r (within_breadth below)).holds k.1 }

    told : GeneValidFor b n r → (leb 1 (largest r) && ltb (largest r) (2 ^ n) && valid_for b (largest r) r) ≡ true
    told g =
        rw (le-leb 1 (largest r) g.of_roster.0, lt-ltb (largest r) (2 ^ n) g.of_roster.1)
        ((valid_decides r (within_breadth g.of_roster.1)).told g.valid)

-- ---- drawn trees

-- a gene record is valid exactly when it is the record of a drawn tree on some of the species, at least one; the same of a wide record and individuals (#110)
pub gene_exactly :
    {b n : ℕ} {r : List ℕ} → n ≤ min b 32
    → GeneValidFor b n r ↔ ((s : ℕ) × ClusterOf n s × ((t : Tree) × On s t × (record_for b (clusters t) ≡ r)))
gene_exactly {b} {n} {r} few = (
  λ g. (largest r, g.of_roster, (drawn (listed r) (largest r), drawn_on g.valid (gene-small few g), drawn_record g.valid (gene-small few g))),
  λ k. gene_of_valid
      (subst (λ (r : List ℕ). ValidFor b k.0 r) k.2.2
      (valid_of_drawn k.2.1 (small_in_breadth b (small_of_species b few k.1.1)))) k.1,
)

-- that tree is unique up to the order of children: trees with one record are on the same species, and alike
pub gene-tree-unique :
    {s s' : ℕ} {t u : Tree} (b : ℕ) → s < 2 ^ b → s' < 2 ^ b → On s t → On s' u → record_for b (clusters t) ≡ record_for b (clusters u) → (s ≡ s') × Alike t u
gene-tree-unique {s} {s'} {t} {u} b below below' o q e =
    let same = sym (largest_of_valid (valid_of_drawn {b = b} o below)) ∙ ap largest e ∙ largest_of_valid (valid_of_drawn {b = b} q below') in
    (same, alike_of_record b o (subst (λ (x : ℕ). On x u) (sym same) q) e)
