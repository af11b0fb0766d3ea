-- The records of binary trees are the valid binary records, one for each tree, and a tree's score is its record's.
use Prim.Native.Nat.{ℕ, ◌+◌, ◌-◌, ◌*◌, ◌^◌, ◌≤◌, ◌<◌}
use mathlib.Core.Path.{◌≡◌, refl, sym, ap, ap₂, ◌∙◌, subst}
use mathlib.Core.List.Memᴰ.{head as here}
use mathlib.Core.List.{List, map, Memᴰ}
use native.Mathlib.Omega.{arith}
use lib.ListN.{length}
use Rattle.clusters.specs.Sets.{Within, whole, size, lowest}
use Rattle.clusters.proofs.Members.{has_of_within, has_of_apart}
use Rattle.clusters.proofs.Sets.{within_antisym, within-le, within-apart, apart-within, minus_apart}
use Rattle.trees.specs.Lists.{Among, total}
use Rattle.trees.specs.Records.{count, listed, record_of, ValidOn, BinaryOn}
use Rattle.trees.specs.Tree.{Tree, clusters}
use Rattle.trees.specs.Drawn.{drawn}
use Rattle.trees.proofs.Bounds.{whole_below_sixteen}
use Rattle.trees.proofs.Totals.{total-sorted}
use Rattle.trees.proofs.Counts.{binary_of_clusters}
use Rattle.trees.proofs.Recorded.{count_record, listed_record, record_same, among_record, record_among, valid_of_drawn}
use Rattle.trees.proofs.Drawing.{drawn_on, drawn_record}
use Rattle.weights.specs.Count.{weight, score}
use Rattle.splits.specs.BinaryTrees.{Binary, root, clusters_in, trees_on}
use Rattle.splits.specs.BinaryTrees.Binary.{fork}
use Rattle.splits.specs.WellFormed.{LowPart, TreeOn}
use Rattle.splits.specs.WellFormed.TreeOn.{one, two}
use Rattle.splits.specs.Least.{score_of}
use Rattle.splits.proofs.LowParts.{low_some, low-part_two}
use Rattle.splits.proofs.Membership.{tree-clusters, listed_well_formed, well_formed_listed}
use Rattle.splits.proofs.DrawnBinary.{InFork, among-fork, fork-among, tree-inside, tree-once, drawing, drawing_on, drawing-among, among-drawing, low_tree, low_tree_on, low_tree-among, among-low_tree}
use Rattle.splits.proofs.DrawnBinary.InFork.{at_root, in_low, in_other}
use Rattle.weights.specs.declared.Rooting.{Rooting}

-- ---- the record of a binary tree is valid and binary

record_of_drawing : {a : ℕ} {t : Binary} → TreeOn a t → a < 2 ^ 16 → record_of (clusters_in t) ≡ record_of (clusters (drawing t))
record_of_drawing {a} {t} v l =
    let wide : a < 2 ^ 32 = omega arith in
    record_same (clusters_in t) (valid_of_drawn {b = 16} (drawing_on v wide) l) (tree-once v)
    (λ x h. record_among 16 (clusters (drawing t)) (drawing-among v wide h))
    (λ x h. among-drawing v wide (among_record 16 (clusters (drawing t)) h))

pub tree_valid : {a : ℕ} {t : Binary} → TreeOn a t → a < 2 ^ 16 → ValidOn a (record_of (clusters_in t))
tree_valid {a} {t} v l = rw (record_of_drawing v l) (valid_of_drawn (drawing_on v (omega arith)) l)

pub tree-binary : {a : ℕ} {t : Binary} → TreeOn a t → BinaryOn a (record_of (clusters_in t))
tree-binary {a} {t} v = ap (λ n. n + 1) (count_record 16 (clusters_in t)) ∙ tree-clusters v

-- ---- the clusters of a binary tree determine it

-- a cluster of a fork, within its low child and not empty, is one of the low child's
low-only :
    {a x : ℕ} {t u : Binary} → LowPart a (root t) → TreeOn (root t) t → TreeOn (a - root t) u
    → 1 ≤ x → Within x (root t) → Among x (clusters_in (fork a t u)) → Among x (clusters_in t)
low-only {a} {x} {t} {u} p v w s h m = go (among-fork {t = t} {u = u} m)
  where
    go : InFork a t u x → Among x (clusters_in t)
    go (at_root e) = absurd (let l = p.less in omega (arith, within-le h))
    go (in_low k) = k
    go (in_other k) =
        let apart = apart-within x (root t) (a - root t) h (minus_apart a (root t) p.inside) in
        absurd (let e = within-apart (a - root t) (tree-inside w x k).1 apart in omega arith)

other_only :
    {a x : ℕ} {t u : Binary} → LowPart a (root t) → TreeOn (root t) t → TreeOn (a - root t) u
    → 1 ≤ x → Within x (a - root t) → Among x (clusters_in (fork a t u)) → Among x (clusters_in u)
other_only {a} {x} {t} {u} p v w s h m = go (among-fork {t = t} {u = u} m)
  where
    go : InFork a t u x → Among x (clusters_in u)
    go (at_root e) = absurd (omega (arith, low_some p, p.less, within-le h))
    go (in_low k) =
        let apart = apart-within x (root t) (a - root t) (tree-inside v x k).1 (minus_apart a (root t) p.inside) in
        absurd (let e = within-apart (a - root t) h apart in omega arith)
    go (in_other k) = k

-- a low part among the clusters of a fork lies within its low child
low-within-low :
    {a l : ℕ} {t u : Binary} → LowPart a l → LowPart a (root t) → TreeOn (root t) t → TreeOn (a - root t) u
    → Among l (clusters_in (fork a t u)) → Within l (root t)
low-within-low {a} {l} {t} {u} q p v w m = go (among-fork {t = t} {u = u} m)
  where
    go : InFork a t u l → Within l (root t)
    go (at_root e) = absurd (let k = q.less in omega arith)
    go (in_low k) = (tree-inside v l k).1
    go (in_other k) =
        absurd (has_of_apart (root t) (a - root t) (lowest a) (minus_apart a (root t) p.inside) p.holds
        (has_of_within l (a - root t) (lowest a) (tree-inside w l k).1 q.holds))

root-among : {a : ℕ} {t : Binary} → TreeOn a t → Among a (clusters_in t)
unfolding clusters_in
root-among (one e) = here refl
root-among (two p v w) = here refl

low_among : (a : ℕ) {t : Binary} (u : Binary) → TreeOn (root t) t → Among (root t) (clusters_in (fork a t u))
low_among a {t} u v = fork-among {t = t} {u = u} (in_low (root-among v))

pub same_clusters_same_tree : {a : ℕ} {t u : Binary} → TreeOn a t → TreeOn a u → ((x : ℕ) → Among x (clusters_in t) → Among x (clusters_in u))
    → ((x : ℕ) → Among x (clusters_in u) → Among x (clusters_in t)) → t ≡ u
same_clusters_same_tree (one e) (one f) g h = refl
same_clusters_same_tree (one e) (two p v w) g h = absurd (omega (arith, low-part_two p))
same_clusters_same_tree (two p v w) (one e) g h = absurd (omega (arith, low-part_two p))
same_clusters_same_tree {a} (two {t = t} {u = u} p v w) (two {t = t'} {u = u'} p' v' w') g h =
    go (λ x. same_clusters_same_tree v x) (λ x. same_clusters_same_tree w x)
  where
    roots : root t ≡ root t'
    roots =
        within_antisym (low-within-low p p' v' w' (g (root t) (low_among a u v))) (low-within-low p' p v w (h (root t') (low_among a u' v')))

    go :
        (TreeOn (root t) t' → ((x : ℕ) → Among x (clusters_in t) → Among x (clusters_in t'))
        → ((x : ℕ) → Among x (clusters_in t') → Among x (clusters_in t)) → t ≡ t')
        → (TreeOn (a - root t) u' → ((x : ℕ) → Among x (clusters_in u) → Among x (clusters_in u'))
        → ((x : ℕ) → Among x (clusters_in u') → Among x (clusters_in u)) → u ≡ u')
        → fork a t u ≡ fork a t' u'
    go low other =
        ap₂ (fork a)
        (low (subst (λ b. TreeOn b t') (sym roots) v')
        (λ x m. let i = tree-inside v x m in low-only p' v' w' i.0 (subst (Within x) roots i.1) (g x (fork-among {t = t} {u = u} (in_low m))))
        (λ x m. let i = tree-inside v' x m in low-only p v w i.0 (subst (Within x) (sym roots) i.1) (h x (fork-among {t = t'} {u = u'} (in_low m)))))
        (other (subst (λ b. TreeOn (a - b) u') (sym roots) w')
        (λ x m. let i = tree-inside w x m in other_only p' v' w' i.0 (subst (λ b. Within x (a - b)) roots i.1) (g x (fork-among {t = t} {u = u} (in_other m))))
        (λ x m. let i = tree-inside w' x m in other_only p v w i.0 (subst (λ b. Within x (a - b)) (sym roots) i.1) (h x (fork-among {t = t'} {u = u'} (in_other m)))))

-- ---- every valid binary record is the record of one binary tree

-- the tree on s with that record, and there is no other
pub record TreeOfRecord (s : ℕ) (r : List ℕ) : Type 0 where
  pub tree : Binary
  pub on : TreeOn s tree
  pub recorded : record_of (clusters_in tree) ≡ r
  pub only : (u : Binary) → TreeOn s u → record_of (clusters_in u) ≡ r → tree ≡ u

pub same_record_same_tree : {a : ℕ} {t u : Binary} → TreeOn a t → TreeOn a u → record_of (clusters_in t) ≡ record_of (clusters_in u) → t ≡ u
same_record_same_tree {a} {t} {u} v w e =
    same_clusters_same_tree v w
    (λ x h. among_record 16 (clusters_in u) (subst (λ r. Among x (listed r)) e (record_among 16 (clusters_in t) h)))
    (λ x h. among_record 16 (clusters_in t) (subst (λ r. Among x (listed r)) (sym e) (record_among 16 (clusters_in u) h)))

pub tree_of_record : {s : ℕ} {r : List ℕ} → s < 2 ^ 16 → ValidOn s r → BinaryOn s r → TreeOfRecord s r
tree_of_record {s} {r} l v b =
    let d : Tree = drawn (listed r) s in
    let o = drawn_on v l in
    let e = drawn_record v l in
    let full : length (clusters d) + 1 ≡ 2 * size s = ap (λ n. n + 1) (sym (count_record 16 (clusters d)) ∙ ap count e) ∙ b in
    let two_ways = binary_of_clusters o full in
    let low = subst (λ a. TreeOn a (low_tree d)) o.all (low_tree_on d two_ways o.once (subst (λ a. a < 2 ^ 32) (sym o.all) (omega arith))) in
    let same : record_of (clusters_in (low_tree d)) ≡ r = record_same (clusters_in (low_tree d)) v (tree-once low)
    (λ x h. subst (λ q. Among x (listed q)) e (record_among 16 (clusters d) (among-low_tree d two_ways x h)))
    (λ x h. low_tree-among d two_ways x (among_record 16 (clusters d) (subst (λ q. Among x (listed q)) (sym e) h))) in
    record { tree = low_tree d; on = low; recorded = same; only = λ u w k. same_record_same_tree low w (same ∙ sym k) }

-- ---- the score of a tree is the score of its record

-- for any weights of clusters
pub total_of_record : (w : ℕ → ℕ) (t : Binary) → total (map w (listed (record_of (clusters_in t)))) ≡ score_of w t
unfolding score_of
total_of_record w t = ap (λ l. total (map w l)) (listed_record 16 (clusters_in t)) ∙ total-sorted w (clusters_in t)

pub score_of_record : (rooting : Rooting) (genes : List (List ℕ)) (t : Binary) → score rooting genes (record_of (clusters_in t)) ≡ score_of (weight rooting genes) t
unfolding score score_of
score_of_record rooting genes t = total_of_record (λ a. weight rooting genes a) t

-- ---- the same for n species

-- the record of a tree of the list is valid and binary
pub listed-valid : {n : ℕ} → n ≤ 16 → (t : Binary) → Memᴰ t (trees_on (whole n)) → ValidOn (whole n) (record_of (clusters_in t))
listed-valid {n} h t m = tree_valid (listed_well_formed t (whole n) m) (whole_below_sixteen n h)

pub listed-binary : (n : ℕ) (t : Binary) → Memᴰ t (trees_on (whole n)) → BinaryOn (whole n) (record_of (clusters_in t))
listed-binary n t m = tree-binary (listed_well_formed t (whole n) m)

-- every valid binary record is the record of exactly one tree of the list
pub record_listed : {n : ℕ} {r : List ℕ} → n ≤ 16 → ValidOn (whole n) r → BinaryOn (whole n) r
    → (t : Binary) × Memᴰ t (trees_on (whole n)) × (record_of (clusters_in t) ≡ r)
    × ((u : Binary) → Memᴰ u (trees_on (whole n)) → record_of (clusters_in u) ≡ r → t ≡ u)
record_listed {n} h v b =
    let t = tree_of_record (whole_below_sixteen n h) v b in
    (t.tree, well_formed_listed t.on, t.recorded, λ u m e. t.only u (listed_well_formed u (whole n) m) e)
