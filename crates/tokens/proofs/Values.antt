-- What a number is worth, for each way that its bytes are read; and the laws of it.
use Prim.Native.Nat.{ℕ, zero, suc, ◌+◌, ◌*◌, ◌^◌, ◌≤◌, ◌<◌}
use native.Mathlib.Decide.{dec_lt}
use native.Mathlib.Omega.{arith}
use mathlib.Core.Path.{◌≡◌, refl, sym, ap, ◌∙◌}
use mathlib.Core.Bool.{Bool, true, false, false≢true}
use mathlib.Core.List.{List, [], ◌∷◌, ◌++◌, append-nil}
use lib.ListN.{length, take, drop, drop_of_length-le, length-append, replicate}
use lib.Seq.{length-take-le, take-length, take-append_seam, drop-append_seam, drop-drop}
use lib.Dec.{ltb}
use borrow.Author.Tests.{ltb-false, lt-ltb, le-ltb}
use Rattle.labels.specs.Bytes.{is_digit, run}
use Rattle.labels.proofs.Runs.{run-within}
use Rattle.labels.proofs.Bytewise.{All}
use Rattle.labels.proofs.Bytewise.All.{no_byte, a_byte}
use Rattle.tokens.proofs.DigitValues.{filled_none, filled_zero, filled-behind, filled-below, written-zero, written_below, tens_rise}
use Rattle.tokens.specs.Values.{leading, decimals, written_behind, written, filled, too_fine, value_unless, value_by, thousandths}
use Rattle.std.proofs.Common.{None, Some}
use Rattle.std.proofs.lemmas.Option.{none-some, same_Some}

-- a number that is written
value_some : (fine : Bool) (w ds : List ℕ) → 0 < length w → value_by fine w ds ≡ value_unless fine (1000 * written w + written (filled ds))
value_some fine [] ds h = absurd (omega arith)
value_some fine (d ∷ w) ds h = refl

pub no_value : {n : ℕ} → None ≡ Some n → ⊥
no_value {n} e = none-some n e

-- no bytes have no value, and are not too fine
pub no_bytes : (None ≡ thousandths []) × (too_fine [] ≡ false)
unfolding thousandths too_fine decimals leading run
no_bytes = (refl, refl)

-- bytes with `whole` digits in front, and `part` behind the byte that ends them
module _ (bytes : List ℕ) (whole : ℕ) (first : whole ≡ run is_digit bytes) where
  leading_is : leading bytes ≡ take whole bytes
  unfolding leading
  leading_is = rw first

  leading_many : length (leading bytes) ≡ whole
  leading_many = rw leading_is (length-take-le whole bytes (omega (arith, run-within is_digit bytes)))

  pub valued_none : whole ≡ 0 → None ≡ thousandths bytes
  unfolding thousandths
  valued_none none = let e : leading bytes ≡ [] = rw none at leading_is in rw e

  module _ (some : 0 < whole) (part : ℕ) (second : part ≡ run is_digit (drop (whole + 1) bytes)) where
    decimals-are : decimals bytes ≡ take part (drop (whole + 1) bytes)
    unfolding decimals leading
    decimals-are = rw (← first, ← second)

    pub decimals-count : part ≡ length (take part (drop (whole + 1) bytes))
    decimals-count = sym (length-take-le part (drop (whole + 1) bytes) (omega (arith, run-within is_digit (drop (whole + 1) bytes))))

    decimals_many : length (decimals bytes) ≡ part
    decimals_many = rw decimals-are (sym decimals-count)

    value_is : thousandths bytes ≡ value_unless (ltb 3 part) (1000 * written (leading bytes) + written (filled (decimals bytes)))
    unfolding thousandths too_fine
    value_is = rw (← decimals_many) (value_some (ltb 3 (length (decimals bytes))) (leading bytes) (decimals bytes) (omega (arith, leading_many)))

    pub valued-fine : 3 < part → None ≡ thousandths bytes
    valued-fine h = rw (value_is, lt-ltb 3 part h)

    pub valued :
        (units thousands : ℕ) → part ≤ 3 → units ≡ written (take whole bytes) → thousands ≡ written (filled (take part (drop (whole + 1) bytes)))
        → Some (1000 * units + thousands) ≡ thousandths bytes
    valued units thousands h u t = rw (value_is, le-ltb 3 part h, leading_is, decimals-are, ← u, ← t)

-- ---- the value of digits, and of digits, a point and digits

digits-counted : {v : List ℕ} → All is_digit v → (rest : List ℕ) → run is_digit rest ≡ 0 → run is_digit (v ++ rest) ≡ length v
unfolding run
digits-counted no_byte rest e = e
digits-counted (a_byte is all) rest e = rw (is, digits-counted all rest e)

pub digits-begin : {v : List ℕ} → All is_digit v → 0 < length v → (rest : List ℕ) → 0 < run is_digit (v ++ rest)
unfolding run
digits-begin no_byte some rest = absurd (omega arith)
digits-begin (a_byte is all) some rest = rw is (omega arith)

-- digits w alone
module _ (w : List ℕ) (all : All is_digit w) (some : 0 < length w) where
  whole_counted : length w ≡ run is_digit w
  unfolding run
  whole_counted = sym (rw (append-nil w) at (digits-counted all [] refl))

  nothing-behind : 0 ≡ run is_digit (drop (length w + 1) w)
  unfolding run
  nothing-behind =
      let l : length w ≤ length w + 1 = omega arith in
      let end : drop (length w + 1) w ≡ [] = drop_of_length-le w l in
      rw end

  -- "digits times 1000"
  pub whole_value : thousandths w ≡ Some (1000 * written w)
  whole_value =
      let v = valued w (length w) whole_counted some 0 nothing-behind (written w) 0 (omega arith) (rw (take-length w)) (sym filled_none) in
      sym v ∙ ap Some (omega arith)

  pub whole_not_fine : too_fine w ≡ false
  unfolding too_fine
  whole_not_fine = rw (decimals_many w (length w) whole_counted some 0 nothing-behind)

-- digits v, a point and decimals w
module _ (v w : List ℕ) (before : All is_digit v) (some : 0 < length v) (behind : All is_digit w) where
  counted : length v ≡ run is_digit (v ++ 46 ∷ w)
  unfolding run
  counted = sym (digits-counted before (46 ∷ w) refl)

  behind-point : drop (length v + 1) (v ++ 46 ∷ w) ≡ w
  behind-point = sym (drop-drop 1 (length v) (v ++ 46 ∷ w)) ∙ ap (λ (l : List ℕ). drop 1 l) (drop-append_seam v (46 ∷ w))

  counted-behind : length w ≡ run is_digit (drop (length v + 1) (v ++ 46 ∷ w))
  unfolding run
  counted-behind = rw behind-point (sym (rw (append-nil w) at (digits-counted behind [] refl)))

  -- "and the decimals as thousandths"
  pub decimal-value : length w ≤ 3 → thousandths (v ++ 46 ∷ w) ≡ Some (1000 * written v + written (filled w))
  decimal-value few =
      sym
      (valued (v ++ 46 ∷ w) (length v) counted some (length w) counted-behind (written v) (written (filled w)) few
      (rw (take-append_seam v (46 ∷ w)))
      (rw (behind-point, take-length w)))

  -- "a longer one no value" (#113)
  pub decimal_too_fine : 3 < length w → thousandths (v ++ 46 ∷ w) ≡ None
  decimal_too_fine fine = sym (valued-fine (v ++ 46 ∷ w) (length v) counted some (length w) counted-behind fine)

  pub fine_by_decimals : too_fine (v ++ 46 ∷ w) ≡ ltb 3 (length w)
  unfolding too_fine
  fine_by_decimals = rw (decimals_many (v ++ 46 ∷ w) (length v) counted some (length w) counted-behind)

  -- in a second way: the digits without the point, filled up to three decimals, write the thousandths
  pub point_left_out : length w ≤ 3 → thousandths (v ++ 46 ∷ w) ≡ Some (written (v ++ filled w))
  point_left_out few = decimal-value few ∙ ap Some (sym (filled-behind v w few))

zero-digits : {w : List ℕ} → All is_digit w → All is_digit (w ++ (48 ∷ []))
zero-digits no_byte = a_byte refl no_byte
zero-digits (a_byte is all) = a_byte is (zero-digits all)

-- a zero behind fewer than three decimals changes nothing
pub zero-behind :
    (v w : List ℕ) → All is_digit v → 0 < length v → All is_digit w → length w < 3 → thousandths (v ++ 46 ∷ (w ++ (48 ∷ []))) ≡ thousandths (v ++ 46 ∷ w)
zero-behind v w before some behind few =
    decimal-value v (w ++ (48 ∷ [])) before some (zero-digits behind) (omega (arith, length-append w (48 ∷ [])))
    ∙ (ap (λ (ds : List ℕ). Some (1000 * written v + written ds)) (filled_zero w few)
    ∙ sym (decimal-value v w before some behind (omega arith)))

-- ---- a number has no value exactly where it is too fine

-- bytes that begin with a digit have the value of their digits, unless they are too fine
pub number-value : (bytes : List ℕ) → 0 < run is_digit bytes → thousandths bytes ≡ value_unless (too_fine bytes) (1000 * written (leading bytes) + written (filled (decimals bytes)))
unfolding thousandths
number-value bytes some = value_some (too_fine bytes) (leading bytes) (decimals bytes) (omega (arith, leading_many bytes (run is_digit bytes) refl))

pub record NoneWhereFine (w : List ℕ) : Type 0 where
  pub too_fine_lem : too_fine w ≡ true → thousandths w ≡ None
  pub none : thousandths w ≡ None → too_fine w ≡ true

pub none_where_fine : (bytes : List ℕ) → 0 < run is_digit bytes → NoneWhereFine bytes
none_where_fine bytes some = by_fine (too_fine bytes) refl (number-value bytes some)
  where
    by_fine :
        (fine : Bool) → too_fine bytes ≡ fine
        → thousandths bytes ≡ value_unless (too_fine bytes) (1000 * written (leading bytes) + written (filled (decimals bytes))) → NoneWhereFine bytes
    by_fine true t is = record { too_fine_lem = λ e. rw e at is; none = λ e. t }
    by_fine false t is = record { too_fine_lem = λ e. absurd (false≢true (sym t ∙ e)); none = λ e. absurd (no_value (sym e ∙ rw t at is)) }

-- ---- zeros in front

zero-counted : (w : List ℕ) → run is_digit (48 ∷ w) ≡ suc (run is_digit w)
unfolding run
zero-counted w = refl

leading-zero : (w : List ℕ) → leading (48 ∷ w) ≡ 48 ∷ leading w
unfolding leading run
leading-zero w = refl

decimals-zero : (w : List ℕ) → decimals (48 ∷ w) ≡ decimals w
unfolding decimals run
decimals-zero w = let e : suc (run is_digit w) + 1 ≡ suc (run is_digit w + 1) = omega arith in rw e

-- a zero in front changes nothing, with a point or without
pub zero_in_front : (w : List ℕ) → 0 < run is_digit w → thousandths (48 ∷ w) ≡ thousandths w
unfolding thousandths too_fine
zero_in_front w some =
    let ds = decimals w in
    let fine = ltb 3 (length ds) in
    let h : 0 < length (leading w) = omega (arith, leading_many w (run is_digit w) refl) in
    rw (leading-zero w, decimals-zero w)
    (ap (λ (n : ℕ). value_unless fine (1000 * n + written (filled ds))) (written-zero (leading w)) ∙ sym (value_some fine (leading w) ds h))

-- nor do more of them
pub zeros_in_front : (n : ℕ) (w : List ℕ) → 0 < run is_digit w → thousandths (replicate n 48 ++ w) ≡ thousandths w
zeros_in_front zero w some = refl
zeros_in_front (suc n) w some = zero_in_front (replicate n 48 ++ w) (digits_first n) ∙ zeros_in_front n w some
  where
    digits_first : (n : ℕ) → 0 < run is_digit (replicate n 48 ++ w)
    digits_first zero = some
    digits_first (suc n) = let e = zero-counted (replicate n 48 ++ w) in omega arith

-- ---- how large it can be

-- twelve bytes are worth less than 10 ^ 15 thousandths
pub value-below : (bytes : List ℕ) (n : ℕ) → length bytes ≤ 12 → thousandths bytes ≡ Some n → n < 10 ^ 15
value-below bytes n few is = by_whole (dec_lt 0 (run is_digit bytes))
  where
    whole : ℕ
    whole = run is_digit bytes

    rest : List ℕ
    rest = drop (whole + 1) bytes

    by_fine : 0 < whole → (part : ℕ) → part ≡ run is_digit rest → (fine : Bool) → ltb 3 part ≡ fine
        → value_unless fine (1000 * written (leading bytes) + written (filled (decimals bytes))) ≡ Some n → n < 10 ^ 15
    by_fine some part second true t e = absurd (no_value e)
    by_fine some part second false t e =
        let same : 1000 * written (leading bytes) + written (filled (decimals bytes)) ≡ n = same_Some _ n e in
        let l : written (leading bytes) < 10 ^ whole = rw (leading_is bytes whole refl) (written_below bytes whole (omega arith)) in
        let m : written (decimals bytes) < 10 ^ part = rw (decimals-are bytes whole refl some part second) (written_below rest part (omega arith)) in
        let k = filled-below part (decimals bytes) (sym (decimals_many bytes whole refl some part second)) (ltb-false 3 part t) m in
        omega (arith, tens_rise whole 12 (omega (arith, run-within is_digit bytes)))

    by_whole : Dec (0 < whole) → n < 10 ^ 15
    by_whole (yes some) = by_fine some (run is_digit rest) refl (ltb 3 (run is_digit rest)) refl (sym (value_is bytes whole refl some (run is_digit rest) refl) ∙ is)
    by_whole (no none) = absurd (no_value (valued_none bytes whole refl (omega arith) ∙ is))

-- ---- computed: `7`, `0.5`, `1.250`, `07`, `7.0`, `7.000`, `1.2345`, and the largest number of twelve bytes
pub worked_values :
    (thousandths (55 ∷ []) ≡ Some 7000) × (thousandths (48 ∷ 46 ∷ 53 ∷ []) ≡ Some 500)
    × (thousandths (49 ∷ 46 ∷ 50 ∷ 53 ∷ 48 ∷ []) ≡ Some 1250) × (thousandths (48 ∷ 55 ∷ []) ≡ Some 7000)
    × (thousandths (55 ∷ 46 ∷ 48 ∷ []) ≡ Some 7000) × (thousandths (55 ∷ 46 ∷ 48 ∷ 48 ∷ 48 ∷ []) ≡ Some 7000)
    × (thousandths (49 ∷ 46 ∷ 50 ∷ 51 ∷ 52 ∷ 53 ∷ []) ≡ None) × (too_fine (49 ∷ 46 ∷ 50 ∷ 51 ∷ 52 ∷ 53 ∷ []) ≡ true)
    × (thousandths (replicate 12 57) ≡ Some 999999999999000) × (thousandths [] ≡ None)
unfolding thousandths too_fine decimals leading run filled written written_behind
worked_values = (refl, refl, refl, refl, refl, refl, refl, refl, refl, refl)
