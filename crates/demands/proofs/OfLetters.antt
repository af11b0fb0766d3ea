-- Rosters and texts of the base, which have no quotes and underscores, are judged and read exactly as by 01 (#103).
use Prim.Native.Nat.{ℕ}
use mathlib.Core.Path.{◌≡◌, refl, sym, ap, ◌∙◌}
use mathlib.Core.Bool.{Bool, true, false}
use mathlib.Core.List.{List}
use lib.ListN.{length, drop}
use lib.Dec.{leb}
use Rattle.labels.specs.Base.{Unmarked}
use Rattle.labels.proofs.Bytewise.{all_drop}
use Rattle.labels.proofs.Unquoted.{unquoted_of}
use Rattle.roster.specs.Roster.{faulty}
use Rattle.roster.specs.Judged.{species_most, judged_by, Judged}
use Rattle.roster.specs.Letters.{base_names}
use Rattle.roster.specs.declared.Reply.{Reply}
use Rattle.roster.proofs.OfLetters.{first_fault_same, faulty_same, names_same}
use Rattle.std.proofs.Common.{None}
use Rattle.nodes.proofs.OfLetters.{read_as_by_letters}
use Rattle.nodes.specs.Reading.{open_most}
use Rattle.reader.specs.Promise.{narrow, text_most, needed, from_start, in_limit, on_roster, answer_within, answer_to, reading_of, Reads}
use Rattle.reader.specs.declared.Kind.{Kind}
use Rattle.reader.specs.declared.Reading.{Reading}
use Rattle.demands.specs.Letters.{base_judged, base_judged_by, base_from_start, base_in_limit, base_on_roster, base_answer_to}

-- a line without quotes and underscores is judged as by 01, whatever other bytes it has
pub judged_as_by_01 : (line : List ℕ) (r : Reply) → Unmarked line → Judged line r → r ≡ base_judged line
unfolding Judged
judged_as_by_01 line r none p =
    p ∙ (by (faulty species_most line) refl ∙ ap (λ (t : Bool). base_judged_by t line) (faulty_same species_most line none))
  where
    by : (t : Bool) → faulty species_most line ≡ t → judged_by t species_most line ≡ base_judged_by t line
    by true f = rw (first_fault_same species_most line none) refl
    by false good = rw (names_same species_most line none good) refl

module _ (kind : Kind) (line text : List ℕ) (start : ℕ) (plain-line : Unmarked line) (plain-text : Unmarked text) where
  started_same : (ns : List (List ℕ)) (t : Bool) → from_start narrow kind None t ns text start ≡ base_from_start kind t ns text start
  started_same ns true = sym (read_as_by_letters ns open_most (needed kind (length ns)) (drop start text) start (all_drop start (unquoted_of text plain-text)))
  started_same ns false = refl

  limited_same : (ns : List (List ℕ)) (t : Bool) → in_limit narrow kind None t ns text start ≡ base_in_limit kind t ns text start
  limited_same ns true = started_same ns (leb start (length text))
  limited_same ns false = refl

  -- a text without quotes and underscores, on such a roster, is answered as by 01: the same tree, or the same number and place
  pub answered_as_by_01 : answer_to kind None line text start ≡ base_answer_to kind line text start
  unfolding answer_within
  answered_as_by_01 = by (faulty species_most line) refl ∙ ap (λ (t : Bool). base_on_roster kind t line text start) (faulty_same species_most line plain-line)
    where
      by : (t : Bool) → faulty species_most line ≡ t → on_roster narrow kind None t line text start ≡ base_on_roster kind t line text start
      by true f = rw (first_fault_same species_most line plain-line) refl
      by false good = rw (names_same species_most line plain-line good) (limited_same (base_names line) (leb (length text) text_most))

  pub read_as_by_01 : (r : Reading) → Reads kind None line text start r → r ≡ reading_of None start (base_answer_to kind line text start)
  unfolding Reads
  read_as_by_01 r p = p ∙ ap (reading_of None start) answered_as_by_01
