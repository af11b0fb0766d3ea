-- The clusters of a gene record without a root (#106): which they are, and that they, and what is counted of them, are the same wherever the root was drawn.
use Prim.Native.Nat.{ℕ, zero, suc, ◌-◌, ◌^◌, ◌≤◌, ◌<◌}
use mathlib.Core.Path.{◌≡◌, sym, ap, ap₂, ◌∙◌, subst}
use mathlib.Core.Logic.{◌⊎◌, inl, inr}
use mathlib.Core.Bool.{Bool, true, not, ◌&&◌}
use mathlib.Core.List.Memᴰ
use mathlib.Core.List.{List, [], ◌∷◌}
use native.Mathlib.Omega.{arith}
use lib.Dec.{eqb}
use borrow.Author.Tests.{eqb-true, eqb-false, eq-eqb, ne_eqb, not-true}
use Rattle.trees.specs.Lists.{Among, NoneTwice, keep, some, up_to}
use Rattle.trees.specs.Records.{listed, largest, record_of, FormFor, ValidFor}
use Rattle.trees.specs.Valid.{among}
use Rattle.trees.specs.Tree.{Tree, clusters, On}
use Rattle.trees.specs.Unrooted.{Redrawn}
use Rattle.trees.proofs.Booleans.{both, either, or_left, or_right}
use Rattle.trees.proofs.Listing.{keep-among, among-keep, some_of, of_some, none_twice_append, none_twice_one, none_twice_keep}
use Rattle.trees.proofs.UpTo.{among-up_to, up_to-among}
use Rattle.trees.proofs.ValidTest.{Tells, tells_among}
use Rattle.trees.proofs.Recorded.{among_record, record_among, valid_of_drawn}
use Rattle.trees.proofs.GeneRecords.{among-le-largest, largest_of_valid}
use Rattle.trees.proofs.Redrawing.{WithoutRoot, redrawn-sym, redrawn_on, redrawn-without-root}
use Rattle.weights.specs.Count.{unrooted_has, unrooted_clusters, k_drawn, k_by, one_or, extra}
use Rattle.weights.specs.declared.Rooting.TheVariants.{Unrooted}
use Rattle.weights.proofs.Joining.{keep_same, tells_same}

-- ---- which they are

-- y is not the whole set, and x is its complement
is_rest : ℕ → ℕ → ℕ → Bool
is_rest s x y = not (eqb y s) && eqb x (s - y)

rest-true : (s x y : ℕ) → is_rest s x y ≡ true → (y ≡ s → ⊥) × (x ≡ s - y)
unfolding is_rest
rest-true s x y e = let k = both (not (eqb y s)) (eqb x (s - y)) e in (eqb-false y s (not-true (eqb y s) k.0), eqb-true x (s - y) k.1)

true-rest : (s x y : ℕ) → (y ≡ s → ⊥) → x ≡ s - y → is_rest s x y ≡ true
unfolding is_rest
true-rest s x y d e = rw (ne_eqb y s d, eq-eqb x (s - y) e)

-- a cluster of the record, or the complement of one that is not the whole
abbrev pub OfUnrooted : List ℕ → ℕ → Type 0
OfUnrooted g x = WithoutRoot (largest g) (listed g) x

module _ (g : List ℕ) {x : ℕ} where
  -- the test tells just these
  pub tells_unrooted : Tells (unrooted_has g x) (OfUnrooted g x)
  unfolding unrooted_has is_rest
  tells_unrooted = record { holds = holds; told = told }
    where
      here : (among x (listed g) ≡ true) ⊎ (some (is_rest (largest g) x) (listed g) ≡ true) → OfUnrooted g x
      here (inl e) = inl ((tells_among x (listed g)).holds e)
      here (inr e) =
          let y = of_some (is_rest (largest g) x) (listed g) e in
          let k = rest-true (largest g) x y.0 y.2 in
          inr (record { of = y.0; among = y.1; other = k.0; is = k.1 })

      holds : unrooted_has g x ≡ true → OfUnrooted g x
      holds e = here (either (among x (listed g)) (some (is_rest (largest g) x) (listed g)) e)

      told : OfUnrooted g x → unrooted_has g x ≡ true
      told (inl m) = or_left (among x (listed g)) (some (is_rest (largest g) x) (listed g)) ((tells_among x (listed g)).told m)
      told (inr c) =
          or_right (among x (listed g)) (some (is_rest (largest g) x) (listed g))
          (some_of (is_rest (largest g) x) (listed g) c.among (true-rest (largest g) x c.of c.other c.is))

  -- what is listed without a root is one of these
  pub among_unrooted : Among x (unrooted_clusters g) → OfUnrooted g x
  unfolding unrooted_clusters
  among_unrooted m = tells_unrooted.holds (among-keep (λ x. unrooted_has g x) (up_to (suc (largest g))) m).1

  -- and they are all listed
  pub unrooted_among : {b : ℕ} → FormFor b g → OfUnrooted g x → Among x (unrooted_clusters g)
  unfolding unrooted_clusters
  unrooted_among {b} form w =
      keep-among (λ x. unrooted_has g x) (up_to (suc (largest g))) (up_to-among (suc (largest g)) (omega (arith, low w))) (tells_unrooted.told w)
    where
      low : OfUnrooted g x → x ≤ largest g
      low (inl m) = (among-le-largest form m).1
      low (inr c) = omega (arith, c.is)

up_to-once : (n : ℕ) → NoneTwice (up_to n)
unfolding up_to NoneTwice
up_to-once zero = tt
up_to-once (suc n) = none_twice_append (up_to n) (n ∷ []) (up_to-once n) (none_twice_one n) (λ x m k. omega (arith, among-up_to n m, Memᴰ.eq_of_singleton k))

-- "each once"
pub unrooted_once : (g : List ℕ) → NoneTwice (unrooted_clusters g)
unfolding unrooted_clusters
unrooted_once g = none_twice_keep (λ x. unrooted_has g x) (up_to (suc (largest g))) (up_to-once (suc (largest g)))

-- of a valid record, by its whole set
module _ {b s : ℕ} {g : List ℕ} (v : ValidFor b s g) {x : ℕ} where
  pub without-root : Among x (unrooted_clusters g) → WithoutRoot s (listed g) x
  without-root m = subst (λ (s : ℕ). WithoutRoot s (listed g) x) (largest_of_valid v) (among_unrooted g m)

  pub of_without_root : WithoutRoot s (listed g) x → Among x (unrooted_clusters g)
  of_without_root w = unrooted_among g v.form (subst (λ (s : ℕ). WithoutRoot s (listed g) x) (sym (largest_of_valid v)) w)

-- ---- the same wherever the root was drawn

module _ {s : ℕ} {t u : Tree} (small : s < 2 ^ 16) (o : On s t) (r : Redrawn t u) where
  whole_of : {v : Tree} → On s v → largest (record_of (clusters v)) ≡ s
  whole_of p = largest_of_valid (valid_of_drawn {b = 16} p small)

  -- the drawn clusters for those of the record
  in_record : {v : Tree} {x : ℕ} → On s v → WithoutRoot s (clusters v) x → OfUnrooted (record_of (clusters v)) x
  in_record {v} {x} p w = subst (λ (s : ℕ). WithoutRoot s (listed (record_of (clusters v))) x) (sym (whole_of p)) (go w)
    where
      go : WithoutRoot s (clusters v) x → WithoutRoot s (listed (record_of (clusters v))) x
      go (inl m) = inl (record_among 16 (clusters v) m)
      go (inr c) = inr (record { of = c.of; among = record_among 16 (clusters v) c.among; other = c.other; is = c.is })

  of_record : {v : Tree} {x : ℕ} → On s v → OfUnrooted (record_of (clusters v)) x → WithoutRoot s (clusters v) x
  of_record {v} {x} p w = go (subst (λ (s : ℕ). WithoutRoot s (listed (record_of (clusters v))) x) (whole_of p) w)
    where
      go : WithoutRoot s (listed (record_of (clusters v))) x → WithoutRoot s (clusters v) x
      go (inl m) = inl (among_record 16 (clusters v) m)
      go (inr c) = inr (record { of = c.of; among = among_record 16 (clusters v) c.among; other = c.other; is = c.is })

  -- each set is a cluster of both records without a root, or of neither
  pub redrawn-has : (x : ℕ) → unrooted_has (record_of (clusters t)) x ≡ unrooted_has (record_of (clusters u)) x
  redrawn-has x =
      let p = redrawn_on r o in
      tells_same (tells_unrooted (record_of (clusters t))) (tells_unrooted (record_of (clusters u)))
      (λ w. in_record p (redrawn-without-root o r x (of_record o w))) (λ w. in_record o (redrawn-without-root p (redrawn-sym r) x (of_record p w)))

  redrawn_whole : largest (record_of (clusters t)) ≡ largest (record_of (clusters u))
  redrawn_whole = whole_of o ∙ sym (whole_of (redrawn_on r o))

  -- so the clusters that both show are the same
  pub redrawn-clusters : unrooted_clusters (record_of (clusters t)) ≡ unrooted_clusters (record_of (clusters u))
  unfolding unrooted_clusters
  redrawn-clusters =
      keep_same (λ x. unrooted_has (record_of (clusters t)) x) (λ x. unrooted_has (record_of (clusters u)) x)
      (up_to (suc (largest (record_of (clusters t))))) (λ x m. redrawn-has x)
      ∙ ap (λ (n : ℕ). keep (λ x. unrooted_has (record_of (clusters u)) x) (up_to (suc n))) redrawn_whole

  -- and so is k of every set of species
  pub redrawn_k : (a : ℕ) → k_by Unrooted (record_of (clusters t)) a ≡ k_by Unrooted (record_of (clusters u)) a
  redrawn_k a = ap₂ (λ (n : ℕ) (cs : List ℕ). one_or (eqb a n) (k_drawn cs a)) redrawn_whole redrawn-clusters

  -- "two texts that differ only in where the root was drawn get equal weights for every cluster" (#106): they add the same
  pub redrawn-extra : (a : ℕ) → extra Unrooted (record_of (clusters t)) a ≡ extra Unrooted (record_of (clusters u)) a
  unfolding extra
  redrawn-extra a = ap (λ (k : ℕ). k - 1) (redrawn_k a)
