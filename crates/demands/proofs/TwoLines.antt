-- The two lines in front of the gene trees: an input with two line feeds is two lines and what is behind them, in one way.
use Prim.Native.Nat.{ℕ, suc, ◌+◌, ◌<◌}
use mathlib.Core.Path.{◌≡◌, refl, sym, ap, ◌∙◌}
use mathlib.Core.Bool.{Bool, true, false, not}
use mathlib.Core.List.{List, [], ◌∷◌, ◌++◌}
use native.Mathlib.Omega.{arith}
use lib.ListN.{length, get_or, take, drop, length-append}
use lib.Seq.{take-append_seam, drop-append-add, drop-drop, split_at}
use lib.Dec.{eqb, leb}
use borrow.Author.Tests.{leb-true, leb-false, le-leb, eqb-true}
use native.Mathlib.Numerals.{add-one}
use Rattle.labels.specs.Bytes.{one_more, run}
use Rattle.roster.specs.Roster.{faulty, fault_at, same}
use Rattle.roster.specs.Judged.{species_most}
use Rattle.trees.proofs.Booleans.{never_both}
use Rattle.roster.proofs.Faults.{no_fault_lem}
use Rattle.roster.proofs.Positions.{same_is, same_self}
use Rattle.roster.proofs.Places.{stray-unprintable, fault-stray}
use Rattle.weights.specs.declared.Rooting.{Rooting}
use Rattle.weights.specs.declared.Rooting.TheVariants.{Rooted, Unrooted}
use Rattle.report.specs.Input.{line_length, first_line, behind_line, ends_in_feed, mode_place, trees_place, mode_word}
use Rattle.report.specs.Program.{mode_by, mode_of}
use Rattle.report.specs.Program.{Mode}
use Rattle.std.proofs.Common.{Option, Some, None}
use Rattle.report.proofs.InputParts.{line-within}

-- ---- where a run ends

-- the byte behind a run does not pass
run-stops : (test : ℕ → Bool) (s : List ℕ) → run test s < length s → test (get_or s (run test s) 0) ≡ false
unfolding run
run-stops test [] h = absurd (omega arith)
run-stops test (b ∷ s) h = go (test b) refl h (run-stops test s)
  where
    go :
        (c : Bool) → test b ≡ c → one_more c (run test s) < suc (length s) → (run test s < length s → test (get_or s (run test s) 0) ≡ false)
        → test (get_or (b ∷ s) (one_more c (run test s)) 0) ≡ false
    go true e h later = later (omega arith)
    go false e h later = e

-- ---- a line feed behind a line

-- the list has no line feed
abbrev OneLine : List ℕ → Type 0
OneLine a = line_length a ≡ length a

line_ends : (a rest : List ℕ) → OneLine a → line_length (a ++ (10 ∷ rest)) ≡ length a
unfolding line_length run
line_ends [] rest h = refl
line_ends (b ∷ a) rest h = go (not (eqb b 10)) refl h (line_ends a rest)
  where
    go :
        (c : Bool) → not (eqb b 10) ≡ c → one_more c (line_length a) ≡ suc (length a) → (OneLine a → line_length (a ++ (10 ∷ rest)) ≡ length a)
        → one_more c (line_length (a ++ (10 ∷ rest))) ≡ suc (length a)
    go true e h later = ap suc (later (omega arith))
    go false e h later = absurd (omega arith)

module _ (a rest : List ℕ) (one : OneLine a) where
  pub line_first : first_line (a ++ (10 ∷ rest)) ≡ a
  unfolding first_line
  line_first = ap (λ (n : ℕ). take n (a ++ (10 ∷ rest))) (line_ends a rest one) ∙ take-append_seam a (10 ∷ rest)

  pub line-behind : behind_line (a ++ (10 ∷ rest)) ≡ rest
  unfolding behind_line
  line-behind = ap (λ (n : ℕ). drop (n + 1) (a ++ (10 ∷ rest))) (line_ends a rest one) ∙ drop-append-add a (10 ∷ rest) 1

  pub line_feed_there : ends_in_feed (a ++ (10 ∷ rest)) ≡ true
  unfolding ends_in_feed
  line_feed_there = le-leb (line_length (a ++ (10 ∷ rest)) + 1) (length (a ++ (10 ∷ rest))) (omega (arith, line_ends a rest one, length-append a (10 ∷ rest)))

turned : (b : Bool) → not b ≡ false → b ≡ true
turned true h = refl
turned false h = absurd (never_both true refl h)

-- where the line ends before the text, a line feed stands
feed_byte : (s : List ℕ) → line_length s < length s → get_or s (line_length s) 0 ≡ 10
unfolding line_length
feed_byte s h = eqb-true (get_or s (line_length s) 0) 10 (turned (eqb (get_or s (line_length s) 0) 10) (run-stops (λ b. not (eqb b 10)) s h))

-- a text that has a line feed is the line in front of it, the feed, and what is behind
pub feed_splits : (s : List ℕ) → ends_in_feed s ≡ true → s ≡ first_line s ++ (10 ∷ behind_line s)
unfolding ends_in_feed first_line behind_line
feed_splits s e =
    let there : line_length s < length s = let h = leb-true (line_length s + 1) (length s) e in omega arith in
    split_at s (line_length s) 0 there ∙ rw (feed_byte s there, add-one)

-- ---- the lines that the program takes

-- a line feed is a byte that no good roster has
pub good-line : (line : List ℕ) → faulty species_most line ≡ false → OneLine line
good-line line good = go (leb (length line) (line_length line)) refl
  where
    go : (b : Bool) → leb (length line) (line_length line) ≡ b → OneLine line
    go true e = let h = leb-true (length line) (line_length line) e in omega (arith, line-within line)
    go false e =
        let p = line_length line in
        let h : p < length line = leb-false (length line) p e in
        let feed = feed_byte line h in
        let stray = stray-unprintable line p h (rw feed refl) in
        absurd (never_both (fault_at species_most line p) (fault-stray line p species_most stray) (no_fault_lem species_most line good p (omega arith)))

-- a mode's word has no line feed
pub mode-line : (all : Bool) (rooting : Rooting) → OneLine (mode_word all rooting)
unfolding line_length run
mode-line true Rooted = refl
mode-line false Rooted = refl
mode-line true Unrooted = refl
mode-line false Unrooted = refl

-- ---- the mode that a line asks for

-- what is known of a line by its mode: it is the mode's word, or none of the four
abbrev pub ModeTold : List ℕ → Option Mode → Type 0
ModeTold w (Some (all, rooting)) = w ≡ mode_word all rooting
ModeTold w None = (all : Bool) (rooting : Rooting) → w ≡ mode_word all rooting → ⊥

-- a line is known by the mode that it asks for
pub mode-told : (w : List ℕ) → ModeTold w (mode_of w)
unfolding mode_of
mode-told w =
    go (same w (mode_word true Rooted)) (same w (mode_word false Rooted)) (same w (mode_word true Unrooted)) (same w (mode_word false Unrooted)) refl refl refl refl
  where
    other : (v : List ℕ) → same w v ≡ false → w ≡ v → ⊥
    other v p e = never_both (same v v) (same_self v) (ap (λ (u : List ℕ). same u v) (sym e) ∙ p)

    go :
        (a b c d : Bool) → same w (mode_word true Rooted) ≡ a → same w (mode_word false Rooted) ≡ b → same w (mode_word true Unrooted) ≡ c
        → same w (mode_word false Unrooted) ≡ d → ModeTold w (mode_by a b c d)
    go true b c d p q r s = same_is w (mode_word true Rooted) p
    go false true c d p q r s = same_is w (mode_word false Rooted) q
    go false false true d p q r s = same_is w (mode_word true Unrooted) r
    go false false false true p q r s = same_is w (mode_word false Unrooted) s
    go false false false false p q r s = none
      where
        none : (all : Bool) (rooting : Rooting) → w ≡ mode_word all rooting → ⊥
        none true Rooted = other (mode_word true Rooted) p
        none false Rooted = other (mode_word false Rooted) q
        none true Unrooted = other (mode_word true Unrooted) r
        none false Unrooted = other (mode_word false Unrooted) s

-- each of the four words asks for its own mode
pub mode_of_word : (all : Bool) (rooting : Rooting) → mode_of (mode_word all rooting) ≡ Some (all, rooting)
unfolding mode_of same
mode_of_word true Rooted = refl
mode_of_word false Rooted = refl
mode_of_word true Unrooted = refl
mode_of_word false Unrooted = refl

-- ---- what is behind both

-- the trees begin behind the second line feed
pub trees-behind : (input : List ℕ) → drop (trees_place input) input ≡ behind_line (behind_line input)
unfolding trees_place mode_place behind_line
trees-behind input = sym (drop-drop (line_length (behind_line input) + 1) (line_length input + 1) input)
