-- Records that lost clusters (#113): what is left of a valid gene record, singles and the whole set kept, is a valid gene record on the same species; so is what is left of a drawn tree.
use Prim.Native.Nat.{ℕ, ◌^◌, ◌≤◌, ◌<◌}
use mathlib.Core.Path.{◌≡◌, refl, sym, ap, ap₂, ◌∙◌, subst}
use mathlib.Core.Bool.{Bool, true, false, false≢true}
use mathlib.Core.List.Memᴰ
use mathlib.Core.List.Memᴰ.{head as here}
use mathlib.Core.List.{List, [], ◌∷◌, ◌++◌}
use native.Mathlib.Omega.{arith}
use lib.Pow.{pow_mono}
use Rattle.clusters.specs.Sets.{Has, single, union}
use Rattle.trees.specs.Lists.{Among, NoneTwice, Sublist}
use Rattle.trees.specs.Lists.Sublist.{ends, kept, added}
use Rattle.trees.specs.Records.{listed, record_for, largest, ValidFor, GeneValidFor}
use Rattle.trees.specs.Tree.{Tree, Forest, Behind, On, leaves, leaves_of, cluster, cluster_of, clusters, clusters_of}
use Rattle.trees.specs.Tree.Tree.{leaf, node}
use Rattle.trees.specs.Tree.Forest.{last, more}
use Rattle.trees.specs.Thinned.{Thinned, unless_lost, left_below, left_below_of, clusters_left}
use Rattle.trees.proofs.Listing.{append_passes, sublist_append, sublist_same, sublist_among, sublist_once}
use Rattle.trees.proofs.Nodes.{has-leaf, clusters-once, cluster_some}
use Rattle.trees.proofs.LostNodes.{root_left}
use Rattle.trees.proofs.Matched.{fewer-le}
use Rattle.trees.proofs.Recorded.{length-listed, breadth_some, record_form, among_record, record_among, valid_of_drawn}
use Rattle.trees.proofs.GeneRecords.{largest_of_valid, gene_of_valid}

-- ---- what is left of a record

-- some of the clusters of a record on the species of s, each once, with all singles and the whole set
pub record Left (s : ℕ) (r cs : List ℕ) : Type 0 where
  pub once : NoneTwice cs
  pub fewer : (x : ℕ) → Among x cs → Among x (listed r)
  pub singles : (i : ℕ) → Has s i → Among (single i) cs
  pub all : Among s cs

-- their record is valid on the same species
pub left_valid : {b s : ℕ} {r cs : List ℕ} → ValidFor b s r → Left s r cs → ValidFor b s (record_for b cs)
left_valid {b} {s} {r} {cs} v l = record {
  form = record_form cs l.once
      (let most = v.form.counted in omega (arith, breadth_some v, fewer-le cs (listed r) l.once l.fewer, length-listed r v.form));
  singles = λ i h. record_among b cs (l.singles i h);
  all = record_among b cs l.all;
  inside = λ a m. v.inside a (l.fewer a (among_record b cs m));
  nested = λ a c m k. v.nested a c (l.fewer a (among_record b cs m)) (l.fewer c (among_record b cs k));
}

-- and it is the first one thinned
pub left_thinned : {b s : ℕ} {r cs : List ℕ} → ValidFor b s r → Left s r cs → Thinned r (record_for b cs)
left_thinned {b} {s} {r} {cs} v l = record {
  same_species = largest_of_valid (left_valid v l) ∙ sym (largest_of_valid v);
  fewer = λ x m. l.fewer x (among_record b cs m);
}

-- what is left of a valid gene record is a valid gene record
pub gene_left : {b n : ℕ} {r cs : List ℕ} → GeneValidFor b n r → Left (largest r) r cs → GeneValidFor b n (record_for b cs) × Thinned r (record_for b cs)
gene_left g l = (gene_of_valid (left_valid g.valid l) g.of_roster, left_thinned g.valid l)

-- ---- what is left of a drawn tree

module _ (weak weaker : Behind → Bool) (also : (b : Behind) → weak b ≡ true → weaker b ≡ true) where
  -- what is lost at first is lost with more that are weak
  lost_too : (b c : Bool) (x : ℕ) → (b ≡ true → c ≡ true) → Sublist (unless_lost c x) (unless_lost b x)
  lost_too true true x h = ends
  lost_too true false x h = absurd (false≢true (h refl))
  lost_too false true x h = added ends
  lost_too false false x h = kept ends

  mutual
    unfolding left_below left_below_of

    below-fewer : (t : Tree) → Sublist (left_below weaker t) (left_below weak t)
    below-fewer (leaf i b) = sublist_same (single i ∷ [])
    below-fewer (node t f b) =
        sublist_append (sublist_append (below-fewer t) (below_of_fewer f)) (lost_too (weak b) (weaker b) (union (cluster t) (cluster_of f)) (also b))

    below_of_fewer : (f : Forest) → Sublist (left_below_of weaker f) (left_below_of weak f)
    below_of_fewer (last t) = below-fewer t
    below_of_fewer (more t f) = sublist_append (below-fewer t) (below_of_fewer f)

  -- where more nodes are weak, no cluster is left that was lost
  pub left_fewer : (t : Tree) → Sublist (clusters_left weaker t) (clusters_left weak t)
  unfolding clusters_left
  left_fewer (leaf i b) = sublist_same (single i ∷ [])
  left_fewer (node t f b) = sublist_append (sublist_append (below-fewer t) (below_of_fewer f)) (sublist_same (union (cluster t) (cluster_of f) ∷ []))

module _ (weak : Behind → Bool) (never : (b : Behind) → weak b ≡ false) where
  mutual
    unfolding left_below left_below_of clusters clusters_of

    below_all : (t : Tree) → left_below weak t ≡ clusters t
    below_all (leaf i b) = refl
    below_all (node t f b) = rw (never b) (ap₂ (λ (l k : List ℕ). l ++ k ++ (union (cluster t) (cluster_of f) ∷ [])) (below_all t) (below_of-all f))

    below_of-all : (f : Forest) → left_below_of weak f ≡ clusters_of f
    below_of-all (last t) = below_all t
    below_of-all (more t f) = ap₂ ◌++◌ (below_all t) (below_of-all f)

  -- where none is weak, all clusters are left
  pub left_all : (t : Tree) → clusters_left weak t ≡ clusters t
  unfolding clusters_left clusters
  left_all (leaf i b) = refl
  left_all (node t f b) = ap₂ (λ (l k : List ℕ). l ++ k ++ (union (cluster t) (cluster_of f) ∷ [])) (below_all t) (below_of-all f)

module _ (weak : Behind → Bool) where
  mutual
    unfolding leaves leaves_of left_below left_below_of

    below-single : (t : Tree) (i : ℕ) → Among i (leaves t) → Among (single i) (left_below weak t)
    below-single (leaf j b) i h = here (ap single (Memᴰ.eq_of_singleton h))
    below-single (node t f b) i h =
        Memᴰ.append_left (unless_lost (weak b) (union (cluster t) (cluster_of f)))
        (append_passes (leaves t) (leaves_of f) (left_below weak t) (left_below_of weak f) (λ k. below-single t i k) (λ k. below_of_single f i k) h)

    below_of_single : (f : Forest) (i : ℕ) → Among i (leaves_of f) → Among (single i) (left_below_of weak f)
    below_of_single (last t) i h = below-single t i h
    below_of_single (more t f) i h =
        append_passes (leaves t) (leaves_of f) (left_below weak t) (left_below_of weak f) (λ k. below-single t i k) (λ k. below_of_single f i k) h

  -- the root keeps its cluster
  below_in_left : (t : Tree) → Sublist (left_below weak t) (clusters_left weak t)
  unfolding clusters_left left_below
  below_in_left (leaf i b) = sublist_same (single i ∷ [])
  below_in_left (node t f b) =
      sublist_append (sublist_same (left_below weak t ++ left_below_of weak f)) (kept_at_root (weak b) (union (cluster t) (cluster_of f)))
    where
      kept_at_root : (b : Bool) (x : ℕ) → Sublist (unless_lost b x) (x ∷ [])
      kept_at_root true x = added ends
      kept_at_root false x = kept ends

  -- each is a cluster of the tree
  pub left_of_all : (t : Tree) → Sublist (clusters_left weak t) (clusters t)
  left_of_all t = subst (Sublist (clusters_left weak t)) (left_all (λ b. false) (λ b. refl) t) (left_fewer (λ b. false) weak (λ b e. absurd (false≢true e)) t)

  -- the same of a subtree below the root
  pub below_of_all : (t : Tree) → Sublist (left_below weak t) (clusters t)
  below_of_all t = subst (Sublist (left_below weak t)) (below_all (λ b. false) (λ b. refl) t) (below-fewer (λ b. false) weak (λ b e. absurd (false≢true e)) t)

  -- and of the nodes of a list
  pub below_of_of_all : (f : Forest) → Sublist (left_below_of weak f) (clusters_of f)
  below_of_of_all f =
      subst (Sublist (left_below_of weak f)) (below_of-all (λ b. false) (λ b. refl) f) (below_of_fewer (λ b. false) weak (λ b e. absurd (false≢true e)) f)

-- ---- a drawn tree on at most b species

module _ {b n s : ℕ} {t : Tree} (few : n ≤ b) (o : On s t) (below : s < 2 ^ n) where
  drawn-valid : ValidFor b s (record_for b (clusters t))
  drawn-valid = valid_of_drawn o (omega (arith, pow_mono {i = n} {j = b} few))

  drawn_left : (weak : Behind → Bool) → Left s (record_for b (clusters t)) (clusters_left weak t)
  drawn_left weak = record {
    once = sublist_once (left_of_all weak t) (clusters-once t o.once);
    fewer = λ x m. record_among b (clusters t) (sublist_among (left_of_all weak t) x m);
    singles = λ i h. sublist_among (below_in_left weak t) (single i) (below-single weak t i (has-leaf t i (rw o.all h)));
    all = rw (← o.all) (root_left weak t);
  }

  left_on : (weak : Behind → Bool) → ValidFor b s (record_for b (clusters_left weak t))
  left_on weak = left_valid drawn-valid (drawn_left weak)

  -- whatever inner nodes lose their clusters, what is left is a valid gene record
  pub drawn_left_valid : (weak : Behind → Bool) → GeneValidFor b n (record_for b (clusters_left weak t))
  drawn_left_valid weak = gene_of_valid (left_on weak) (rw (← o.all) (cluster_some t), below)

  -- on the tree's species, with some of its clusters
  pub drawn_thinned : (weak : Behind → Bool) → Thinned (record_for b (clusters t)) (record_for b (clusters_left weak t))
  drawn_thinned weak = left_thinned drawn-valid (drawn_left weak)

  -- "never leaves a cluster that a lower one dropped" (#113): where more nodes are weak, the record is thinner
  pub weaker_thinned :
      (weak weaker : Behind → Bool) → ((b : Behind) → weak b ≡ true → weaker b ≡ true)
      → Thinned (record_for b (clusters_left weak t)) (record_for b (clusters_left weaker t))
  weaker_thinned weak weaker also = record {
    same_species = largest_of_valid (left_on weaker) ∙ sym (largest_of_valid (left_on weak));
    fewer = λ x m. record_among b (clusters_left weak t) (sublist_among (left_fewer weak weaker also t) x (among_record b (clusters_left weaker t) m));
  }
