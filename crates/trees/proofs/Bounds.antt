-- Valid records are the records of drawn trees; how many clusters they list, which are binary, and the one record of one species.
use Prim.Native.Nat.{ℕ, ◌+◌, ◌-◌, ◌*◌, ◌^◌, ◌≤◌, ◌<◌}
use mathlib.Core.Path.{◌≡◌, refl, sym, ap, ap₂, ◌∙◌, subst}
use mathlib.Core.Logic.{◌↔◌}
use mathlib.Core.List.Memᴰ
use mathlib.Core.List.{List, [], ◌∷◌, ◌++◌}
use native.Mathlib.Omega.{arith}
use lib.ListN.{length, replicate}
use Rattle.clusters.specs.Sets.{whole, single, size}
use Rattle.clusters.proofs.Sizes.{size_whole}
use Rattle.trees.specs.Lists.{Among, sorted, insert}
use Rattle.trees.specs.Records.{count, listed, record_for, ValidFor, ValidOn, BinaryOn}
use Rattle.trees.specs.Tree.{Tree, leaves, cluster, clusters, On, Binary}
use Rattle.trees.specs.Tree.Tree.{leaf}
use Rattle.trees.specs.Drawn.{bare, drawn}
use Rattle.trees.proofs.Breadth.{Small, small_in_breadth, whole_small}
use Rattle.trees.proofs.Listing.{none_twice_one}
use Rattle.trees.proofs.Counts.{species-le-clusters, clusters_lt_twice, clusters_of_binary, binary_of_clusters}
use Rattle.trees.proofs.Recorded.{count_record, valid-parts, length-listed, valid_of_drawn}
use Rattle.trees.proofs.Drawing.{drawn_on, drawn_record}

-- "a record is valid exactly when it is the record of a drawn tree on those species"
pub valid_exactly : {b s : ℕ} {r : List ℕ} → Small b s → ValidFor b s r ↔ ((t : Tree) × On s t × (record_for b (clusters t) ≡ r))
valid_exactly {b} {s} {r} small = (
  λ v. (drawn (listed r) s, drawn_on v small, drawn_record v small),
  λ t. subst (λ (r : List ℕ). ValidFor b s r) t.2 (valid_of_drawn t.1 (small_in_breadth b small)),
)

-- the set of at most 16 species is such a set for 01's records
pub whole_below_sixteen : (n : ℕ) → n ≤ 16 → whole n < 2 ^ 16
whole_below_sixteen n few = whole_small 16 n few

-- ---- how many clusters

-- the tree that a valid record draws has as many clusters as the record says
pub count-drawn : {b s : ℕ} {r : List ℕ} → ValidFor b s r → Small b s → length (clusters (drawn (listed r) s)) ≡ count r
count-drawn {b} {s} {r} v small = sym (count_record b (clusters (drawn (listed r) s))) ∙ ap (λ (r : List ℕ). count r) (drawn_record v small)

-- "n ≤ m"
pub species-le-count : {b s : ℕ} {r : List ℕ} → ValidFor b s r → Small b s → size s ≤ count r
species-le-count {b} {s} {r} v small = rw (← count-drawn v small) (species-le-clusters (drawn_on v small))

-- "m ≤ 2n - 1"
pub count_lt_twice : {b s : ℕ} {r : List ℕ} → ValidFor b s r → Small b s → count r + 1 ≤ 2 * size s
count_lt_twice {b} {s} {r} v small = rw (← count-drawn v small) (clusters_lt_twice (drawn_on v small))

-- "m = 2n - 1 exactly when the tree is binary"
pub binary-drawn : {b s : ℕ} {r : List ℕ} → ValidFor b s r → Small b s → BinaryOn s r ↔ Binary (drawn (listed r) s)
binary-drawn {b} {s} {r} v small =
    (λ e. binary_of_clusters (drawn_on v small) (rw (count-drawn v small) e), λ e. rw (← count-drawn v small) (clusters_of_binary (drawn_on v small) e))

-- ---- one species

one_listed : (x : ℕ) (l : List ℕ) → length l ≡ 1 → Among x l → l ≡ x ∷ []
one_listed x [] n h = absurd (Memᴰ.not-nil h)
one_listed x (y ∷ []) n h = ap (λ (z : ℕ). z ∷ []) (sym (Memᴰ.eq_of_singleton h))
one_listed x (y ∷ z ∷ l) n h = absurd (omega arith)

-- "For n = 1 the one record is 1, 1, zeros."
pub one_species : {r : List ℕ} → ValidOn (whole 1) r → r ≡ 1 ∷ 1 ∷ replicate 30 0
unfolding whole
one_species {r} v =
    let n : count r ≡ 1 = omega (arith, species-le-count v tiny, count_lt_twice v tiny, size_whole 1) in
    let e = one_listed (whole 1) (listed r) (length-listed r v.form ∙ n) v.all in
    valid-parts v ∙ ap₂ (λ (n : ℕ) (k : List ℕ). n ∷ (k ++ replicate (31 - n) 0)) n e
  where
    tiny : whole 1 < 2 ^ 16
    tiny = whole_below_sixteen 1 (omega arith)

pub one_species_valid : ValidOn (whole 1) (1 ∷ 1 ∷ replicate 30 0)
unfolding whole single leaves cluster clusters record_for sorted insert
one_species_valid = valid_of_drawn {s = whole 1} {t = leaf 0 bare} (record { once = none_twice_one 0; all = refl }) (whole_below_sixteen 1 (omega arith))
