-- The input taken apart by offsets: its two first lines, and the part that holds the trees.
use Prim.Native.Nat.{ℕ, ◌+◌, ◌-◌, ◌≤◌}
use mathlib.Core.Path.{◌≡◌, sym, ap, ◌∙◌}
use mathlib.Core.Bool.{Bool, true, false, not}
use mathlib.Core.List.{List}
use native.Mathlib.Omega.{arith}
use lib.ListN.{length, take, drop, length-drop}
use lib.Seq.{take_all}
use lib.Dec.{eqb}
use Rattle.labels.proofs.Runs.{run-within}
use borrow.Author.Tests.{le-leb, lt-leb}
use Rattle.roster.specs.Roster.{names}
use Rattle.printing.specs.declared.Report.{Report}
use Rattle.gather.specs.GeneTrees.{gather}
use Rattle.weights.specs.declared.Rooting.{Rooting}
use Rattle.report.specs.Input.{line_length, first_line, behind_line, ends_in_feed, mode_place, trees_place}
use Rattle.report.specs.Program.{Mode, mode_of, on_mode, on_species}
use Rattle.std.proofs.Common.{Option, Some, None}
use Rattle.outcomes.specs.Outcome.{on_trees}
use Rattle.outcomes.specs.Outcome.Outcome.{refused}
use Rattle.outcomes.specs.Work.{told}

-- a line lies within its text
pub line-within : (s : List ℕ) → line_length s ≤ length s
unfolding line_length
line-within s = run-within (λ b. not (eqb b 10)) s

-- what is lent from a place on
abbrev pub from : ℕ → List ℕ → List ℕ
from a s = take (length s - a) (drop a s)

pub from_is : (a : ℕ) (s : List ℕ) → from a s ≡ drop a s
from_is a s = take_all (length s - a) (drop a s) (omega (arith, length-drop a s))

pub from_length : (a : ℕ) (s : List ℕ) → length (from a s) ≡ length s - a
from_length a s = ap length (from_is a s) ∙ length-drop a s

-- a line ends in a line feed, or with the text
feed_there : (s : List ℕ) {n : ℕ} → n ≡ line_length s → (n ≡ length s → ⊥) → ends_in_feed s ≡ true
unfolding ends_in_feed
feed_there s e f = le-leb (line_length s + 1) (length s) (omega (arith, line-within s))

feed_missing : (s : List ℕ) {n : ℕ} → n ≡ line_length s → n ≡ length s → ends_in_feed s ≡ false
unfolding ends_in_feed
feed_missing s e f = lt-leb (line_length s + 1) (length s) (omega arith)

module _ (input : List ℕ) {end : ℕ} (first : end ≡ line_length input) where
  pub first_line_lem : take end input ≡ first_line input
  unfolding first_line
  first_line_lem = rw first

  pub first_within : end ≤ length input
  first_within = omega (arith, line-within input)

  behind_first : from (end + 1) input ≡ behind_line input
  unfolding behind_line
  behind_first = from_is (end + 1) input ∙ rw first

  -- "Each of the first two lines ends in a line feed"
  pub no_first_feed : end ≡ length input → refused 10 (length input) ≡ on_species true input
  no_first_feed h = rw (feed_missing input first h)

  module _ (more : end ≡ length input → ⊥) {size : ℕ} (second : size ≡ line_length (from (end + 1) input)) where
    second-line : size ≡ line_length (behind_line input)
    second-line = second ∙ ap line_length behind_first

    pub no_second_feed : size ≡ length (from (end + 1) input) → refused 10 (length input) ≡ on_species true input
    no_second_feed h =
        rw (feed_there input first more, feed_missing (behind_line input) second-line (h ∙ ap length behind_first))

    pub second-within : size ≤ length input - (end + 1)
    second-within = omega (arith, line-within (from (end + 1) input), from_length (end + 1) input)

    module _ (feed : size ≡ length (from (end + 1) input) → ⊥) where
      -- the trees begin behind the second line feed
      pub trees-within : end + 1 + size + 1 ≤ length input
      trees-within = omega (arith, second-within, from_length (end + 1) input, feed, first_within, more)

      second_word : first_line (behind_line input) ≡ take size (from (end + 1) input)
      unfolding first_line
      second_word = rw (← second-line, ← behind_first)

      judged : {mode : Option Mode} → mode ≡ mode_of (take size (from (end + 1) input)) → on_species true input ≡ on_mode mode input
      judged is =
          let there : ends_in_feed (behind_line input) ≡ true = feed_there (behind_line input) second-line (λ h. feed (h ∙ ap length (sym behind_first))) in
          rw (feed_there input first more, there, second_word, ← is)

      -- "Places are offsets in the input": where the trees begin
      trees-place : end + 1 + size + 1 ≡ trees_place input
      unfolding trees_place mode_place
      trees-place = omega (arith, first, second-line)

      trees-part : from (end + 1 + size + 1) input ≡ drop (trees_place input) input
      trees-part = from_is (end + 1 + size + 1) input ∙ ap (λ (k : ℕ). drop k input) trees-place

      -- the report of what the trees give in a mode
      pub trees-mode :
          {n : ℕ} (all : Bool) (rooting : Rooting) → n ≡ length (names (first_line input)) → {r : Report} → Some (all, rooting)
          ≡ mode_of (take size (from (end + 1) input))
          → r
          ≡ told (names (take end input))
          (on_trees (gather (take end input) (from (end + 1 + size + 1) input)) (take end input) (from (end + 1 + size + 1) input)
          (end + 1 + size + 1) all rooting n)
          → r ≡ told (names (first_line input)) (on_species true input)
      trees-mode all rooting named is e = e ∙ rw (judged is, first_line_lem, trees-part, trees-place, named)

      -- "Another mode word gives 3 at its first byte"
      pub other_mode : None ≡ mode_of (take size (from (end + 1) input)) → refused 3 (end + 1) ≡ on_species true input
      unfolding mode_place
      other_mode is = rw (judged is, first)
