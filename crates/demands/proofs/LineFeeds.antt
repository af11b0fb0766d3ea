-- Where two lines with a line feed behind each stand in front of an input, both line feeds are found.
use Prim.Native.Nat.{ℕ, suc, ◌+◌, ◌≤◌}
use mathlib.Core.Path.{◌≡◌, sym, ap, ◌∙◌}
use mathlib.Core.Bool.{Bool, true, false, not}
use mathlib.Core.List.{List, [], ◌∷◌, ◌++◌, append_assoc}
use native.Mathlib.Omega.{arith}
use lib.ListN.{length, drop, length-append}
use lib.Seq.{drop-append-le}
use lib.Dec.{eqb}
use borrow.Author.Tests.{le-leb}
use Rattle.labels.specs.Bytes.{one_more, run}
use Rattle.report.specs.Input.{line_length, behind_line, ends_in_feed}

-- a line ends at the first line feed, so at no later one
line_shorter : (a rest : List ℕ) → line_length (a ++ (10 ∷ rest)) ≤ length a
unfolding line_length run
line_shorter [] rest = omega arith
line_shorter (b ∷ a) rest = go (not (eqb b 10)) (line_shorter a rest)
  where
    go : (c : Bool) → line_length (a ++ (10 ∷ rest)) ≤ length a → one_more c (line_length (a ++ (10 ∷ rest))) ≤ suc (length a)
    go true h = omega arith
    go false h = omega arith

-- a line feed that stands anywhere is found
pub feed_found : (a rest : List ℕ) → ends_in_feed (a ++ (10 ∷ rest)) ≡ true
unfolding ends_in_feed
feed_found a rest =
    le-leb (line_length (a ++ (10 ∷ rest)) + 1) (length (a ++ (10 ∷ rest))) (omega (arith, line_shorter a rest, length-append a (10 ∷ rest)))

-- and so is one that stands behind it
pub second_feed_found : (a b rest : List ℕ) → ends_in_feed (behind_line (a ++ (10 ∷ (b ++ (10 ∷ rest))))) ≡ true
unfolding behind_line
second_feed_found a b rest =
    let later = b ++ (10 ∷ rest) in
    let n = line_length (a ++ (10 ∷ later)) + 1 in
    let behind : drop n (a ++ (10 ∷ later)) ≡ drop n (a ++ (10 ∷ [])) ++ later =
    ap (drop n) (sym (append_assoc a (10 ∷ []) later))
    ∙ drop-append-le n (a ++ (10 ∷ [])) later (omega (arith, line_shorter a later, length-append a (10 ∷ [])))
    in
    ap ends_in_feed (behind ∙ sym (append_assoc (drop n (a ++ (10 ∷ []))) b (10 ∷ rest))) ∙ feed_found (drop n (a ++ (10 ∷ [])) ++ b) rest
