-- A text of 543 bytes: none is longer (`Lengths.text-longest`).
use Prim.Native.Nat.{ℕ, zero, suc, ◌<◌}
use native.Mathlib.Nat.{not-suc-le-zero, le_of_suc-le-suc}
use native.Mathlib.Omega.{arith}
use mathlib.Core.Path.{◌≡◌, refl, sym, ap, ◌∙◌}
use mathlib.Core.Bool.{true}
use mathlib.Core.List.{List, [], ◌∷◌, map}
use lib.ListN.{length, get_or, replicate}
use lib.Count.{ones, count_trailing_zeros}
use Rattle.clusters.specs.Sets.{single, has, within, apart, size, lowest}
use Rattle.labels.specs.Labels.{doubled}
use Rattle.labels.specs.Bytes.{is_printable}
use Rattle.labels.specs.Writing.{Name, may_be_bare, label_of}
use Rattle.trees.specs.Lists.{keep, some, up_to}
use Rattle.trees.specs.Valid.{every, among, rising, singles_from, nested, valid_for, valid_gene_for, valid_gene}
use Rattle.trees.specs.Drawn.{properly, maximal, placed, by_lowest, children, drawn_to, drawn}
use Rattle.trees.proofs.Booleans.{both}
use Rattle.trees.proofs.UpTo.{map-up_to}
use Rattle.roster.specs.Roster.{same, position}
use Rattle.roster.proofs.Each.{Each}
use Rattle.roster.proofs.Positions.{Distinct}
use Rattle.texts.specs.Writing.{written}

-- one name of fifteen quotes, and fifteen of a letter and fourteen quotes
abbrev quoted_names : List (List ℕ)
quoted_names = replicate 15 39 ∷ map (λ b. b ∷ replicate 14 39) (97 ∷ 98 ∷ 99 ∷ 100 ∷ 101 ∷ 102 ∷ 103 ∷ 104 ∷ 105 ∷ 106 ∷ 107 ∷ 108 ∷ 109 ∷ 110 ∷ 111 ∷ [])

-- the tree that adds one species after the other, fifteen parentheses deep
abbrev one_by_one : List ℕ
one_by_one =
    31 ∷ 1 ∷ 2 ∷ 3 ∷ 4 ∷ 7 ∷ 8 ∷ 15 ∷ 16 ∷ 31 ∷ 32 ∷ 63 ∷ 64 ∷ 127 ∷ 128 ∷ 255 ∷ 256 ∷ 511 ∷ 512 ∷ 1023 ∷ 1024 ∷ 2047 ∷ 2048 ∷ 4095 ∷ 4096 ∷ 8191 ∷ 8192 ∷ 16383 ∷ 16384 ∷ 32767 ∷ 32768 ∷ 65535 ∷ []

place : ℕ → ℕ
place i = position (get_or quoted_names i []) quoted_names

places : map place (up_to 16) ≡ map (λ i. i) (up_to 16)
unfolding place position same up_to
places = refl

-- no two are equal
pub quoted-names-distinct : Distinct quoted_names
unfolding place
quoted-names-distinct i h = sym (map-up_to place 16 i h) ∙ ap (λ (l : List ℕ). get_or l i 0) places ∙ map-up_to (λ i. i) 16 i h

-- and each is a name
quotes-printable : (n k : ℕ) → k < n → is_printable (get_or (replicate n 39) k 0) ≡ true
quotes-printable zero k h = absurd (not-suc-le-zero h)
quotes-printable (suc n) zero h = refl
quotes-printable (suc n) (suc k) h = quotes-printable n k (le_of_suc-le-suc h)

behind-quotes : (b : ℕ) → is_printable b ≡ true → Name (b ∷ replicate 14 39)
behind-quotes b is = record { some = omega arith; short = omega arith; printable = at }
  where
    at : (k : ℕ) → k < 15 → is_printable (get_or (b ∷ replicate 14 39) k 0) ≡ true
    at zero h = is
    at (suc k) h = quotes-printable 14 k (le_of_suc-le-suc h)

all_behind : (l : List ℕ) → every is_printable l ≡ true → Each Name (map (λ b. b ∷ replicate 14 39) l)
unfolding Each every
all_behind [] all = tt
all_behind (b ∷ l) all = let h = both (is_printable b) (every is_printable l) all in (behind-quotes b h.0, all_behind l h.1)

pub quoted-names-named : Each Name quoted_names
unfolding Each every
quoted-names-named = (behind-quotes 39 refl, all_behind (97 ∷ 98 ∷ 99 ∷ 100 ∷ 101 ∷ 102 ∷ 103 ∷ 104 ∷ 105 ∷ 106 ∷ 107 ∷ 108 ∷ 109 ∷ 110 ∷ 111 ∷ []) refl)

pub one_by_one_valid : valid_gene 16 one_by_one ≡ true
unfolding valid_gene_for valid_for every among some rising singles_from nested has within apart single
one_by_one_valid = refl

pub longest-reached : length (written quoted_names one_by_one) ≡ 543
unfolding written drawn drawn_to children by_lowest placed maximal properly keep some size lowest within ones count_trailing_zeros label_of may_be_bare doubled
longest-reached = refl
