-- Supports and the threshold (#113).
use Rattle.std.specs.Prelude.{ℕ, ◌-◌, Bool, true, false, ◌&&◌, List, length, ltb, Option, None, Some}
use Rattle.trees.specs.Tree.{Behind}
use Rattle.tokens.specs.Answers.{Answer, and_then}
use Rattle.tokens.specs.Answers.Answer.{parsed, refused}
use Rattle.tokens.specs.Tokens.{numbers}
use Rattle.tokens.specs.Values.{Value, too_fine, thousandths}

-- "Reading may be given a threshold" (#113), in whole thousandths
abbrev pub Threshold : Type 0
Threshold = Option ℕ

-- a threshold is given
abbrev pub is_given : Threshold → Bool
is_given None = false
is_given (Some amount) = true

-- "18, only where a threshold is given, for a support with more than three decimals" (#113)
abbrev pub refuses_fine : Bool → List ℕ → Bool
refuses_fine given b = given && too_fine b

-- "place its first byte, met when its run ends" (#113): p is the place behind it
abbrev pub unless_fine : Bool → Behind → List ℕ → ℕ → Answer Behind
unless_fine true b s p = refused 18 (p - length b.support)
unless_fine false b s p = parsed b s p

-- what stands behind a node, and then its support is judged, where a threshold is given; w is the name that stood before
unfoldable pub supported : Bool → List ℕ → List ℕ → ℕ → Answer Behind
supported given w s p = and_then (numbers w s p) (λ b s p. unless_fine (refuses_fine given b.support) b s p)

-- "support strictly below the threshold"; "without support it stays" (#113)
abbrev pub below : Threshold → Value → Bool
below None v = false
below (Some amount) None = false
below (Some amount) (Some n) = ltb n amount

-- whether what stands behind an inner node makes it lose its cluster
abbrev pub weak : Threshold → Behind → Bool
weak threshold b = below threshold (thousandths b.support)
