-- What goes on alike: where nothing that is put behind a place goes on with a label.
use Prim.Native.Nat.{ℕ}
use mathlib.Core.Path.{◌≡◌, refl, sym, ◌∙◌}
use mathlib.Core.Bool.{Bool, true, false, false≢true}
use mathlib.Core.List.{List, [], ◌∷◌}
use lib.Dec.{eqb}
use Rattle.labels.specs.Bytes.{is_digit, is_bare, is_label, next_label}
use Rattle.labels.proofs.Spelled.{no_label_no_bare, no_label_no_quote}
use Rattle.nodes.specs.Deciding.{next_digit, GoesOnAlike}

-- a digit is a byte of a bare label
digit-bare : (b : ℕ) → is_digit b ≡ true → is_bare b ≡ true
digit-bare b is = rw is refl

digit-label : (b : ℕ) → is_digit b ≡ true → is_label b ≡ true
digit-label b is = rw is refl

-- what begins with no byte of a label begins with no digit
no_label_no_digit : (rest : List ℕ) → next_label rest ≡ false → next_digit rest ≡ false
unfolding next_label next_digit
no_label_no_digit [] stops = refl
no_label_no_digit (b ∷ rest) stops = by (is_digit b) refl
  where
    by : (t : Bool) → is_digit b ≡ t → t ≡ false
    by true is = absurd (false≢true (sym stops ∙ digit-label b is))
    by false is = refl

-- what begins with no byte of a label goes on with none
pub stops-alike : (before : ℕ) (rest behind : List ℕ) → next_label rest ≡ false → GoesOnAlike before rest behind
stops-alike before rest behind stops =
    record {
      label = record {
        bare = λ is e. absurd (false≢true (sym (no_label_no_bare rest stops) ∙ e));
        quote = λ is e. absurd (false≢true (sym (no_label_no_quote rest stops) ∙ e));
      };
      digits = λ is e. absurd (false≢true (sym (no_label_no_digit rest stops) ∙ e));
    }

-- behind a byte that ends no label, anything does
pub other_alike : (before : ℕ) (rest behind : List ℕ) → is_bare before ≡ false → eqb before 39 ≡ false → GoesOnAlike before rest behind
other_alike before rest behind other quote =
    record {
      label = record { bare = λ is e. absurd (false≢true (sym other ∙ is)); quote = λ is e. absurd (false≢true (sym quote ∙ is)) };
      digits = λ is e. absurd (false≢true (sym other ∙ digit-bare before is));
    }
