-- What the functions that look for the best split ask of one another.
use Rattle.std.specs.Prelude.{ℕ, ◌+◌, ◌-◌, ◌*◌, ◌≤◌, ◌<◌, ◌≡◌, ◌⊎◌, Bool, true, false, ◌||◌, get_or, eqb, leb, Option, Some, None, IfSome}
use Rattle.std.proofs.Math.Option.{none}
use mathlib.Core.List.{List, map, foldr}
use Rattle.clusters.specs.Sets.{size}
use Rattle.trees.specs.Lists.{total}
use Rattle.splits.specs.BinaryTrees.{lows}
use Rattle.splits.specs.WellFormed.{LowPart}
use Rattle.splits.specs.Least.{best, no_tree, score_entry, split_entry}
use Rattle.splits.specs.Ties.{tree_count}
use Rattle.splits.specs.declared.Split.{Split}

-- ---- weights and scores stay far below the no-tree mark

-- no weight passes 131,072
abbrev pub Light : (ℕ → ℕ) → Type 0
Light w = (b : ℕ) → w b ≤ 131072

-- each entry of the score table below a is the mark, or a score that can be added to
abbrev pub Scored : ℕ → List ℕ → Type 0
Scored a scores = (b : ℕ) → b < a → (get_or scores b 0 ≡ no_tree) ⊎ (get_or scores b 0 < 8388608)

-- a split has a score that can be added to, and its low part is no more than a
pub record Small (a : ℕ) (s : Split) : Type 0 where
  pub score : s.score < 16777216
  pub low : s.low ≤ a

-- ---- the split of one cluster

-- the first split where a part has no tree, else the other
abbrev pub split_unless : Bool → Split → Split → Split
split_unless true s other = s
split_unless false s other = other

-- the new split where it scores no more, else the one found before
abbrev pub lesser_split : Bool → ℕ → ℕ → Split → Split
lesser_split true sum low s = record { score = sum; low = low }
lesser_split false sum low s = s

-- of a split so far and one at a low part, whose parts have the entries x and y: the second where both are scores and their sum is no more
unfoldable pub better_split : ℕ → ℕ → ℕ → Split → Split
better_split x y low s = split_unless (eqb x no_tree || eqb y no_tree) s (lesser_split (leb (x + y) s.score) (x + y) low s)

-- no split yet: the mark, and no low part
abbrev pub no_split : Split
no_split = record { score = no_tree; low = 0 }

-- a split that was found, or none yet
abbrev pub split_or : Option Split → Split
split_or None = no_split
split_or (Some s) = s

-- the split at a low part of a, where it is better than the one so far; e gives the entries of the score table
abbrev pub consider : (ℕ → ℕ) → ℕ → ℕ → Split → Split
consider e a low s = better_split (e low) (e (a - low)) low s

-- of the low parts of a for which both parts have scores, the one with the least sum, and of equals the smallest
unfoldable pub least_split : (ℕ → ℕ) → ℕ → Split
least_split e a = foldr (consider e a) no_split (lows a)

-- the score table below a holds the entries of the best trees for these weights and this allowed set
abbrev pub ScoresBelow : (ℕ → ℕ) → (ℕ → Bool) → ℕ → List ℕ → Type 0
ScoresBelow w ok a scores = (b : ℕ) → b < a → get_or scores b 0 ≡ score_entry w (best w ok b)

-- the split is that of the best tree on a: its low part, and the scores of both its children
pub record SplitOfBest (w : ℕ → ℕ) (ok : ℕ → Bool) (a : ℕ) (s : Split) : Type 0 where
  pub low : s.low ≡ split_entry (best w ok a)
  pub missing : s.score ≡ no_tree → best w ok a ≡ none
  pub score : (s.score ≡ no_tree → ⊥) → score_entry w (best w ok a) ≡ w a + s.score

-- the best split of a cluster of two or more species by a score table, if there is one, whatever the weights and the allowed set that the entries below it come from
pub record BestSplit (scores : List ℕ) (a : ℕ) (r : Option Split) : Type 0 where
  pub least : split_or r ≡ least_split (λ b. get_or scores b 0) a
  pub small : IfSome r (Small a)
  pub of_best : (w : ℕ → ℕ) (ok : ℕ → Bool) → Light w → ok a ≡ true → ScoresBelow w ok a scores → SplitOfBest w ok a (split_or r)

-- ---- the ties of one cluster

-- the number where the test holds, else 0
abbrev pub only : Bool → ℕ → ℕ
only true n = n
only false n = 0

-- what the split of a at a low part adds to the ties of a: each tree of the one part with each of the other, where their scores add up to the least sum;
-- e gives the entries of the score table, ties those of the third
abbrev pub tied_at : (ℕ → ℕ) → (ℕ → ℕ) → ℕ → ℕ → ℕ → ℕ
tied_at e ties a least low = only (eqb (e low + e (a - low)) least) (ties low * ties (a - low))

-- the ties over all low parts of a
unfoldable pub ties_over : (ℕ → ℕ) → (ℕ → ℕ) → ℕ → ℕ → ℕ
ties_over e ties a least = total (map (tied_at e ties a least) (lows a))

-- each entry of the third table below a is at most the number of all trees
abbrev pub Counted : ℕ → List ℕ → Type 0
Counted a ties = (b : ℕ) → b < a → get_or ties b 0 ≤ tree_count (size b)

-- a low part of a, and room for the ties of the split there beside those that were counted
pub record Room (a low count : ℕ) (ties : List ℕ) : Type 0 where
  pub part : LowPart a low
  pub few : a < 65536
  pub counted : Counted a ties
  pub sum : count + get_or ties low 0 * get_or ties (a - low) 0 ≤ tree_count 16
