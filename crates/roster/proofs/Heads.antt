-- What stands at a place, where it is known what the rest of the text begins with.
use Prim.Native.Nat.{ℕ, suc, ◌<◌}
use native.Mathlib.Omega.{arith}
use mathlib.Core.Path.{◌≡◌, ap, ◌∙◌}
use mathlib.Core.List.{List, [], ◌∷◌, ◌++◌}
use lib.ListN.{length, get_or, take, drop, length-drop}
use lib.Seq.{take-suc, drop-cons}

module _ (s : List ℕ) (k b : ℕ) (t : List ℕ) (head : drop k s ≡ b ∷ t) where
  pub head-within : k < length s
  head-within = let l = length-drop k s in let m = ap (length {A = ℕ}) head in omega arith

  pub head_byte : get_or s k 0 ≡ b
  head_byte = let c = drop-cons s k 0 head-within in cc

  pub head-rest : drop (suc k) s ≡ t
  head-rest = let c = drop-cons s k 0 head-within in cc

  pub head-taken : take (suc k) s ≡ take k s ++ (b ∷ [])
  head-taken = take-suc s k 0 head-within ∙ ap (λ (x : ℕ). take k s ++ (x ∷ [])) head_byte
