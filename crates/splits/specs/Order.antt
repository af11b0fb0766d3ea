-- 01's comparison of two trees on the same species.
use Rattle.std.specs.Prelude.{ℕ, ◌<◌, ◌≡◌}
use mathlib.Core.List.{List, [], ◌∷◌, Memᴰ}
use Rattle.splits.specs.BinaryTrees.{Binary, root}
use Rattle.splits.specs.BinaryTrees.Binary.{fork}

-- "Two trees on the same species are compared by the low part at the root, the smaller number first; then by the trees of their low children;
-- then by those of the other children"
pub data Earlier : Binary → Binary → Type 0 where
  by_low_part : {a : ℕ} {t u t' u' : Binary} → root t < root t' → Earlier (fork a t u) (fork a t' u')
  by_low_child : {a : ℕ} {t u t' u' : Binary} → root t ≡ root t' → Earlier t t' → Earlier (fork a t u) (fork a t' u')
  by_other_child : {a : ℕ} {t u u' : Binary} → Earlier u u' → Earlier (fork a t u) (fork a t u')

-- each of the list stands in the relation to all behind it
unfoldable pub Ordered : {A : Type 0} → (A → A → Type 0) → List A → Type 0
Ordered R [] = Unit {0}
Ordered R (x ∷ l) = ((y : _) → Memᴰ y l → R x y) × Ordered R l
