-- Whether a place stands within quotes: the parity of the quotes before it.
use Prim.Native.Nat.{ℕ, suc, ◌+◌}
use mathlib.Core.Path.{◌≡◌, refl, ap, ◌∙◌}
use mathlib.Core.Bool.{Bool, true, false}
use mathlib.Core.List.{List, [], ◌∷◌, ◌++◌}
use lib.ListN.{take, drop}
use lib.Seq.{take-add}
use lib.Dec.{eqb}
use Rattle.roster.specs.Roster.{turned_if, in_quotes}
use Rattle.roster.proofs.Heads.{head-taken}

turned-twice : (a b c : Bool) → turned_if a (turned_if b c) ≡ turned_if (turned_if a b) c
turned-twice true true true = refl
turned-twice true true false = refl
turned-twice true false c = refl
turned-twice false b c = refl

pub quotes_append : (u v : List ℕ) → in_quotes (u ++ v) ≡ turned_if (in_quotes u) (in_quotes v)
unfolding in_quotes
quotes_append [] v = refl
quotes_append (b ∷ u) v = rw (quotes_append u v) (turned-twice (eqb b 39) (in_quotes u) (in_quotes v))

-- one byte more
pub quotes_more : (s : List ℕ) (k b : ℕ) (t : List ℕ) → drop k s ≡ b ∷ t → in_quotes (take (suc k) s) ≡ turned_if (in_quotes (take k s)) (turned_if (eqb b 39) false)
unfolding in_quotes
quotes_more s k b t head = ap in_quotes (head-taken s k b t head) ∙ quotes_append (take k s) (b ∷ [])

-- from a place outside quotes on, the quotes are those from there on
pub quotes-beyond : (line : List ℕ) (at k : ℕ) → in_quotes (take at line) ≡ false → in_quotes (take (at + k) line) ≡ in_quotes (take k (drop at line))
quotes-beyond line at k even = ap in_quotes (take-add at k line) ∙ quotes_append (take at line) (take k (drop at line)) ∙ rw even
