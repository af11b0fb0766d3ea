-- Where neither quotes nor underscores stand, labels are runs of letters and digits, as in 01.
use Prim.Native.Nat.{ℕ}
use mathlib.Core.Path.{◌≡◌, refl, sym, ap, ◌∙◌}
use mathlib.Core.Bool.{Bool, true, false, not, ◌&&◌, false≢true, or-false}
use mathlib.Core.List.{List, ◌∷◌, map}
use lib.ListN.{take, length, get_or}
use lib.Dec.{eqb, leb}
use Rattle.labels.specs.Bytes.{is_name, is_bare, run, next_is, next_label}
use Rattle.labels.specs.Spelling.{Run, unwritten, Spells}
use Rattle.labels.specs.Spelling.Spells.{bare, quoted}
use Rattle.labels.specs.Labels.{label_bytes, letters, limited, told}
use Rattle.labels.specs.Labels.Told.{ended}
use Rattle.labels.proofs.Bytewise.{All, all_first, all_take, all_left, all_of}
use Rattle.labels.proofs.Bytewise.All.{no_byte, a_byte}
use Rattle.labels.proofs.RunRules.{run-splits, run_all, run_by}
use Rattle.labels.proofs.Telling.{letters-bare, told-bare, bare-length}
use borrow.Author.Tests.{ne_eqb}
use Rattle.labels.specs.Base.{Unmarked, word}

-- neither a quote nor an underscore
abbrev pub is_other : ℕ → Bool
is_other b = not (eqb b 39) && not (eqb b 95)

-- no quote and no underscore stands in s
abbrev pub Unquoted : List ℕ → Type 0
Unquoted s = All is_other s

-- which is said of a text by its places
pub unquoted_of : (s : List ℕ) → Unmarked s → Unquoted s
unquoted_of s none = all_of s (λ k l. rw (ne_eqb (get_or s k 0) 39 (none k l).0, ne_eqb (get_or s k 0) 95 (none k l).1) refl)

other_no_quote : (b : ℕ) → is_other b ≡ true → eqb b 39 ≡ false
other_no_quote b is = by (eqb b 39) is
  where
    by : (t : Bool) → (not t && not (eqb b 95)) ≡ true → t ≡ false
    by true is = absurd (false≢true is)
    by false is = refl

other_no_score : (b : ℕ) → is_other b ≡ true → eqb b 95 ≡ false
other_no_score b is = by (eqb b 39) (eqb b 95) is
  where
    by : (t u : Bool) → (not t && not u) ≡ true → u ≡ false
    by true u is = absurd (false≢true is)
    by false true is = absurd (false≢true is)
    by false false is = refl

-- such a byte is one of a bare label where it is a letter or a digit, and it stands for itself
pub bare_is_name : (b : ℕ) → eqb b 95 ≡ false → is_bare b ≡ is_name b
bare_is_name b e = rw e (or-false (is_name b))

other_bare : (b : ℕ) → is_other b ≡ true → is_bare b ≡ is_name b
other_bare b is = bare_is_name b (other_no_score b is)

other_itself : (b : ℕ) → is_other b ≡ true → unwritten b ≡ b
other_itself b is = rw (other_no_score b is)

other_run : {s : List ℕ} → Unquoted s → run is_bare s ≡ run is_name s
unfolding run
other_run no_byte = refl
other_run (a_byte {b = b} is all) = rw (other_bare b is, other_run all)

other_letters : {s : List ℕ} → Unquoted s → map unwritten s ≡ s
other_letters no_byte = refl
other_letters (a_byte {b = b} is all) = rw (other_itself b is, other_letters all)

pub unquoted_no_quote : {s : List ℕ} → Unquoted s → next_is 39 s ≡ false
unfolding next_is
unquoted_no_quote no_byte = refl
unquoted_no_quote (a_byte {b = b} is all) = other_no_quote b is

-- ---- the laws

module _ (s : List ℕ) (all : Unquoted s) where
  -- "A name here is a whole run of letters and digits": the letters of a label are the run's bytes
  pub unquoted_letters : letters s ≡ word s
  unfolding word
  unquoted_letters =
      letters-bare s (unquoted_no_quote all)
      ∙ (ap (λ (n : ℕ). map unwritten (take n s)) (other_run all) ∙ other_letters (all_take (run is_name s) all))

  pub unquoted_length : length (letters s) ≡ run is_name s
  unquoted_length = bare-length s (unquoted_no_quote all) ∙ other_run all

  -- it ends where the run does, or it is too long at its sixteenth byte
  pub unquoted_told : told s ≡ limited (leb (run is_name s) label_bytes) label_bytes (ended (run is_name s))
  unquoted_told = told-bare s (unquoted_no_quote all) ∙ rw (other_run all) refl

-- a label begins where a letter or a digit stands
pub unquoted_next : (b : ℕ) (s : List ℕ) → Unquoted (b ∷ s) → next_label (b ∷ s) ≡ is_name b
unfolding next_label
unquoted_next b s all = let is = all_first all in rw (other_no_quote b is) (or-false (is_bare b) ∙ other_bare b is)

-- and by the rules a label is a run of letters and digits
pub unquoted_run : {w s rest : List ℕ} → Unquoted s → Spells w s rest → Run is_name w s rest
unquoted_run all (bare {v = v} {s = s} {rest = rest} r) =
    let others : Unquoted v = all_left v rest (rw (run-splits r) at all) in
    rw (other_letters others) (run_by r (names (run_all r) others))
  where
    names : {v : List ℕ} → All is_bare v → Unquoted v → All is_name v
    names no_byte no_byte = no_byte
    names (a_byte {b = b} is all) (a_byte other others) = a_byte (sym (other_bare b other) ∙ is) (names all others)
unquoted_run all (quoted q) = absurd (false≢true (all_first all))

pub unquoted_spells : {w s rest : List ℕ} → Unquoted s → Run is_name w s rest → Spells w s rest
unquoted_spells {w} {s} {rest} all r =
    let others : Unquoted w = all_left w rest (rw (run-splits r) at all) in
    let b : Spells (map unwritten w) s rest = bare (run_by r (bares (run_all r))) in
    rw (other_letters others) at b
  where
    bares : {v : List ℕ} → All is_name v → All is_bare v
    bares no_byte = no_byte
    bares (a_byte {b = b} is all) = a_byte {b = b} (rw is refl) (bares all)
