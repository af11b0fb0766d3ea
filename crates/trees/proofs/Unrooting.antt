-- Every branch of a tree without a root may hold it (#106): for each there is a drawing of the tree, binary, with the root on that branch.
use Prim.Native.Nat.{ℕ}
use mathlib.Core.Path.{◌≡◌, sym, ap}
use mathlib.Core.List.Memᴰ
use mathlib.Core.List.{[], ◌∷◌, ◌++◌, Memᴰ}
use Rattle.trees.specs.Tree.{Tree, Forest, Behind, cluster, On, Binary, OneBinary}
use Rattle.trees.specs.Tree.Tree.{leaf, node}
use Rattle.trees.specs.Tree.Forest.{last, more}
use Rattle.trees.specs.Thinned.{all_nodes, all_nodes_of, below_root}
use Rattle.trees.specs.Unrooted.{OneOrTwo, RootedAnyhow, Redrawn, RootOn}
use Rattle.trees.specs.Unrooted.Redrawn.{reordered, moved_over, on_branch, and_then}
use Rattle.trees.specs.Unrooted.RootOn.{above}
use Rattle.trees.proofs.RedrawingOrder.{alike_refl, alike_two, alike_first, alike-three}
use Rattle.trees.proofs.Redrawing.{either_side, redrawn_on}

-- a drawing of the tree t, binary, with its root on the branch above x
record Rerooted (t : Tree) (x : ℕ) : Type 0 where
  drawing : Tree
  redrawn : Redrawn t drawing
  root : RootOn x drawing
  binary : Binary drawing

-- what was drawn elsewhere first
rerooted_then : {t u : Tree} {x : ℕ} → Redrawn t u → Rerooted u x → Rerooted t x
rerooted_then p r = record { drawing = r.drawing; redrawn = and_then p r.redrawn; root = r.root; binary = r.binary }

-- the root on the branch where it is
here_rooted : (a z : Tree) (b : Behind) (v : Tree) → Binary a → Binary z → v ≡ a → Rerooted (node a (last z) b) (cluster v)
unfolding Binary
here_rooted a z b v p q e = record {
  drawing = node a (last z) b;
  redrawn = reordered (alike_refl (node a (last z) b));
  root = above (sym (ap cluster e));
  binary = (p, q);
}

-- over a node of two children onto the branch to the first, and from there on
over_first :
    (x : Tree) (f : Forest) (z : Tree) (b c : Behind) {e : ℕ} → OneBinary f → Binary z → ((w : Tree) → Binary w → Rerooted (node x (last w) b) e)
    → Rerooted (node (node x f c) (last z) b) e
unfolding Binary OneBinary
over_first x (last y) z b c p q on = rerooted_then (moved_over {d = b} {e = b}) (on (node y (last z) b) (p, q))
over_first x (more y f) z b c p q on = absurd p

mutual
  unfolding all_nodes all_nodes_of Binary OneBinary

  -- from the branch between a and z the root goes down onto each branch of a
  goes_down : (a z : Tree) (b : Behind) (v : Tree) → Binary a → Binary z → Memᴰ v (all_nodes a) → Rerooted (node a (last z) b) (cluster v)
  goes_down (leaf i c) z b v p q m = here_rooted (leaf i c) z b v p q (Memᴰ.eq_of_singleton m)
  goes_down (node x f c) z b v p q m =
      either_side (all_nodes x ++ all_nodes_of f) (node x f c ∷ [])
      (either_side (all_nodes x) (all_nodes_of f) (λ h. over_first x f z b c p.1 q (λ w r. goes_down x w b v p.0 r h))
      (λ h. goes_behind f x z b c v p.0 p.1 q h))
      (λ h. here_rooted (node x f c) z b v p q (Memᴰ.eq_of_singleton h)) m

  goes_behind :
      (f : Forest) (x z : Tree) (b c : Behind) (v : Tree) → Binary x → OneBinary f → Binary z → Memᴰ v (all_nodes_of f)
      → Rerooted (node (node x f c) (last z) b) (cluster v)
  goes_behind (last y) x z b c v p q r m =
      rerooted_then (reordered (alike_first {c = b} (alike_two {c = b} (alike_refl x) (alike_refl y))))
      (over_first y (last x) z b b p r (λ w o. goes_down y w b v q o m))
  goes_behind (more y f) x z b c v p q r m = absurd q

-- from a root of three children it goes onto each branch of the last
to_last : (x y z : Tree) (b : Behind) (v : Tree) → Binary x → Binary y → Binary z → Memᴰ v (all_nodes z) → Rerooted (node x (more y (last z)) b) (cluster v)
unfolding Binary
to_last x y z b v p q r m =
    rerooted_then (on_branch {c = b} {d = b}) (rerooted_then (reordered (alike_two {c = b} (alike_refl (node x (last y) b)) (alike_refl z)))
    (goes_down z (node x (last y) b) b v r (p, q) m))

below_root_lem : (t : Tree) → RootedAnyhow t → (v : Tree) → Memᴰ v (below_root t) → Rerooted t (cluster v)
unfolding below_root all_nodes RootedAnyhow OneOrTwo
below_root_lem (leaf i b) h v m = absurd (Memᴰ.not-nil m)
below_root_lem (node x (last y) b) h v m =
    either_side (all_nodes x) (all_nodes y) (goes_down x y b v h.0 h.1)
    (λ k. rerooted_then (reordered (alike_two {c = b} (alike_refl x) (alike_refl y))) (goes_down y x b v h.1 h.0 k)) m
below_root_lem (node x (more y (last z)) b) h v m =
    either_side (all_nodes x) (all_nodes y ++ all_nodes z)
    (λ k. rerooted_then (reordered (alike-three {c = b})) (to_last y z x b v h.1.0 h.1.1 h.0 k))
    (either_side (all_nodes y) (all_nodes z)
    (λ k. rerooted_then (reordered (alike-three {c = b})) (rerooted_then (reordered (alike-three {c = b})) (to_last z x y b v h.1.1 h.0 h.1.0 k)))
    (λ k. to_last x y z b v h.0 h.1.0 h.1.1 k)) m
below_root_lem (node x (more y (more z f)) b) h v m = absurd h.1

-- for each node below the root the tree can be drawn, binary, with the root on the branch above that node
pub root-anywhere :
    {s : ℕ} {t : Tree} → On s t → RootedAnyhow t → (v : Tree) → Memᴰ v (below_root t) → (u : Tree) × Redrawn t u × RootOn (cluster v) u × On s u × Binary u
root-anywhere {s} {t} o h v m = let r = below_root_lem t h v m in (r.drawing, r.redrawn, r.root, redrawn_on r.redrawn o, r.binary)
