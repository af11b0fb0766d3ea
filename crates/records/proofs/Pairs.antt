-- Any two clusters of a record are disjoint or one holds the other, pair of places by pair of places.
use Prim.Native.Nat.{ℕ, suc, ◌<◌}
use mathlib.Core.Path.{◌≡◌, sym, ◌∙◌, subst}
use mathlib.Core.Logic.{inl, inr, ⊎_elim}
use mathlib.Core.Bool.{Bool}
use mathlib.Core.List.{List}
use native.Mathlib.Omega.{arith}
use native.Mathlib.Decide.{dec_le}
use lib.ListN.{length, get_or}
use Rattle.clusters.specs.Sets.{Apart, Within, within}
use Rattle.clusters.proofs.Sets.{within-refl, within-true, within-false}
use Rattle.trees.specs.Decides.{Decides}
use Rattle.trees.specs.Lists.{Among}
use Rattle.trees.specs.Records.{Nested}
use Rattle.records.proofs.Deciding.{decides_by}
use Rattle.trees.proofs.Nodes.{nested-sym}
use Rattle.trees.proofs.Places.{at_among, among_at}

-- ---- two clusters

-- the last of the three tests decides, where the first two fail
pub last_test : (a b : ℕ) (t : Bool) → (Apart a b → ⊥) → (Within a b → ⊥) → t ≡ within b a → Decides t (Nested a b)
last_test a b t f g e =
    decides_by t (λ yes. inr (inr (within-true b a (sym e ∙ yes))))
    (λ no. ⊎_elim f (⊎_elim g (within-false b a (sym e ∙ no))))

-- ---- all pairs

module _ (cs : List ℕ) where
  -- the cluster at place x agrees with all that stand behind it
  abbrev pub AgreesBehind : ℕ → Type 0
  AgreesBehind x = (y : ℕ) → x < y → y < length cs → Nested (get_or cs x 0) (get_or cs y 0)

  -- where each agrees with those behind it, any two clusters do
  pub all_agree : ((x : ℕ) → x < length cs → AgreesBehind x) → (a b : ℕ) → Among a cs → Among b cs → Nested a b
  all_agree f a b p q =
      let u = among_at 0 p in
      let v = among_at 0 q in
      subst (λ (x : ℕ). Nested x b) u.there
      (subst (λ (x : ℕ). Nested (get_or cs u.place 0) x) v.there
      (at u.place v.place u.before_end v.before_end (dec_le (suc u.place) v.place) (dec_le (suc v.place) u.place)))
    where
      at : (x y : ℕ) → x < length cs → y < length cs → Dec (x < y) → Dec (y < x) → Nested (get_or cs x 0) (get_or cs y 0)
      at x y last last' (yes l) k = f x last y l last'
      at x y last last' (no l) (yes k) = nested-sym _ _ (f y last' x k last)
      at x y last last' (no l) (no k) =
          subst (λ (z : ℕ). Nested (get_or cs x 0) (get_or cs z 0)) (omega arith) (inr (inl (within-refl (get_or cs x 0))))

  -- where two places clash, not all clusters agree
  pub clash : (x y : ℕ) → x < y → y < length cs → (Nested (get_or cs x 0) (get_or cs y 0) → ⊥)
      → ((a b : ℕ) → Among a cs → Among b cs → Nested a b) → ⊥
  clash x y less last f g =
      f (g (get_or cs x 0) (get_or cs y 0) (at_among cs 0 x (omega arith)) (at_among cs 0 y last))
