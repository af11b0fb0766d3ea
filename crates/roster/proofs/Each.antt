-- What holds of each of a list of names.
use Prim.Native.Nat.{ℕ, zero, suc, ◌<◌, zero-le, suc-le-suc}
use native.Mathlib.Nat.{not-suc-le-zero, le_of_suc-le-suc}
use mathlib.Core.List.{List, [], ◌∷◌, ◌++◌}
use lib.ListN.{length, get_or}

unfoldable pub Each : (List ℕ → Type 0) → List (List ℕ) → Type 0
Each P [] = Unit {0}
Each P (w ∷ ns) = P w × Each P ns

module _ (P : List ℕ → Type 0) where
  pub each_none : Each P []
  unfolding Each
  each_none = tt

  pub each_more : (ns : List (List ℕ)) (w : List ℕ) → Each P ns → P w → Each P (ns ++ (w ∷ []))
  unfolding Each
  each_more [] w all p = (p, tt)
  each_more (v ∷ ns) w all p = (all.0, each_more ns w all.1 p)

  pub each_at : (ns : List (List ℕ)) (i : ℕ) → Each P ns → i < length ns → P (get_or ns i [])
  unfolding Each
  each_at [] i all h = absurd (not-suc-le-zero h)
  each_at (w ∷ ns) zero all h = all.0
  each_at (w ∷ ns) (suc i) all h = each_at ns i all.1 (le_of_suc-le-suc h)

pub each_still : (P Q : List ℕ → Type 0) → ((w : List ℕ) → P w → Q w) → (ns : List (List ℕ)) → Each P ns → Each Q ns
unfolding Each
each_still P Q f [] all = tt
each_still P Q f (w ∷ ns) all = (f w all.0, each_still P Q f ns all.1)

pub each_both : (P Q : List ℕ → Type 0) (ns : List (List ℕ)) → Each P ns → Each Q ns → Each (λ w. P w × Q w) ns
unfolding Each
each_both P Q [] p q = tt
each_both P Q (w ∷ ns) p q = ((p.0, q.0), each_both P Q ns p.1 q.1)

pub each_of : (P : List ℕ → Type 0) (ns : List (List ℕ)) → ((i : ℕ) → i < length ns → P (get_or ns i [])) → Each P ns
unfolding Each
each_of P [] all = tt
each_of P (w ∷ ns) all = (all 0 (suc-le-suc zero-le), each_of P ns (λ i h. all (suc i) (suc-le-suc h)))
