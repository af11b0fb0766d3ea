-- The count behind a node: a number of digits alone, and its value; "zeros in front change nothing" (#114).
use Prim.Native.Nat.compare
use Prim.Native.Nat.{ℕ, zero, suc, ◌+◌, ◌-◌, ◌*◌, ◌≤◌, ◌<◌, min}
use native.Mathlib.Omega.{arith}
use mathlib.Core.Path.{◌≡◌, refl, sym, ap, ◌∙◌, subst}
use mathlib.Core.Bool.{Bool, true, false, ◌&&◌, false≢true}
use mathlib.Core.List.{List, [], ◌∷◌, ◌++◌}
use lib.ListN.{length, take, drop, length-take, length-drop, length-append, replicate}
use lib.Seq.{take-length}
use lib.Dec.{compare_is_eq, eqb, ltb}
use borrow.Author.Tests.{eqb-true, eq-eqb, ne_eqb, ltb-true, lt-ltb, le-ltb}
use Rattle.std.proofs.Common.{Some, Option, None, get_or, option_map, ◌/◌}
use native.Mathlib.Decide.{dec_lt}
use Rattle.labels.proofs.Runs.{run-within, run-byte, run-behind}
use Rattle.labels.specs.Bytes.{is_digit, one_more, run}
use Rattle.labels.proofs.Bytewise.{All}
use Rattle.labels.proofs.RunRules.{run-bytes, run_take}
use Rattle.trees.specs.Tree.{Behind}
use Rattle.tokens.specs.Says.{between, Valued}
use Rattle.tokens.specs.Values.{written, written_behind, thousandths}
use Rattle.tokens.specs.declared.answer.Figure.{Figure}
use Rattle.tokens.proofs.Values.{whole_value}
use Rattle.branches.specs.Ends.{is_count, count_by, count_in}

-- ---- a number whose bytes stand in a text

module _ (text : List ℕ) (f : Figure) (valued : Valued text f) where
  many : length (between text f) ≡ f.to - f.from
  many = omega (arith, valued.1)

  -- its bytes stand within the text
  pub within_text : f.from < f.to → f.to ≤ length text
  within_text h =
      let l = valued.1 in
      let t : length (between text f) ≡ min (f.to - f.from) (length (drop f.from text)) = length-take (f.to - f.from) (drop f.from text) in
      let d = length-drop f.from text in
      omega arith

  digits_are : run is_digit (between text f) ≡ min (f.to - f.from) (run is_digit (drop f.from text))
  digits_are = run_take is_digit (f.to - f.from) (drop f.from text)

  -- a byte of it is no digit
  pub other_byte : (i : ℕ) → f.from ≤ i → i < f.to → run is_digit (drop f.from text) ≡ i - f.from → false ≡ is_count (between text f)
  unfolding is_count
  other_byte i low high ends =
      let fewer : run is_digit (between text f) ≡ length (between text f) → ⊥ = λ e. omega (arith, many, digits_are) in
      rw (lt-ltb 0 (length (between text f)) (omega (arith, many)), ne_eqb (run is_digit (between text f)) (length (between text f)) fewer)

-- a number is a count where all of its bytes are digits
pub all_digits :
    (d : List ℕ) (r : Bool) → 0 < length d → (r ≡ true → (i : ℕ) → i < length d → is_digit (get_or d i 0) ≡ true)
    → (r ≡ false → (i : ℕ) × (i < length d) × (is_digit (get_or d i 0) ≡ false)) → r ≡ is_count d
unfolding is_count
all_digits d true some all other =
    let whole : run is_digit d ≡ length d = by (dec_lt (run is_digit d) (length d)) in
    rw (lt-ltb 0 (length d) some, eq-eqb (run is_digit d) (length d) whole)
  where
    by : Dec (run is_digit d < length d) → run is_digit d ≡ length d
    by (yes less) = absurd (false≢true (sym (run-behind is_digit refl d) ∙ all refl (run is_digit d) less))
    by (no most) = omega (arith, run-within is_digit d)
all_digits d false some all other =
    let off = other refl in
    let fewer : run is_digit d ≡ length d → ⊥ = λ e. false≢true (sym off.2 ∙ run-byte is_digit d off.0 (rw e off.1)) in
    rw (lt-ltb 0 (length d) some, ne_eqb (run is_digit d) (length d) fewer)

-- and none where it has no bytes
pub no_digits : (text : List ℕ) (f : Figure) → Valued text f → f.to ≤ f.from → false ≡ is_count (between text f)
unfolding is_count
no_digits text f valued none = rw (le-ltb 0 (length (between text f)) (omega (arith, valued.1)))

-- a number with bytes has them within the text
pub some_digits : (text : List ℕ) (f : Figure) → Valued text f → f.from < f.to → 0 < length (between text f)
some_digits text f valued some = omega (arith, valued.1)

-- ---- the value of a count

is_both : (a b : Bool) → (a && b) ≡ true → (a ≡ true) × (b ≡ true)
is_both true b e = (refl, e)
is_both false b e = absurd (false≢true e)

-- a count is written, in digits alone
pub record Digits (d : List ℕ) : Type 0 where
  pub some_byte : 0 < length d
  pub all : All is_digit d

pub count-digits : (d : List ℕ) → is_count d ≡ true → Digits d
unfolding is_count
count-digits d is =
    let h = is_both (ltb 0 (length d)) (eqb (run is_digit d) (length d)) is in
    let whole : run is_digit d ≡ length d = eqb-true (run is_digit d) (length d) h.1 in
    let same : take (run is_digit d) d ≡ d = rw whole (take-length d) in
    record { some_byte = ltb-true 0 (length d) h.0; all = subst (λ (l : List ℕ). All is_digit l) same (run-bytes is_digit d) }

-- the whole part of its value is the number that it writes
pub count-value : (d : List ℕ) → is_count d ≡ true → option_map (λ amount. amount / 1000) (thousandths d) ≡ Some (written d)
count-value d is =
    let c = count-digits d is in
    rw (whole_value d c.all c.some_byte) (ap Some (omega arith))

-- a count is None, or there is one
pub some_none : {a : ℕ} → ◌≡◌ {A = Option ℕ} (Some a) None → ⊥
some_none e = let z : ◌≡◌ {A = ℕ} 0 1 = cc in omega arith

-- where a node has a count, it is written in digits, and no second number stands behind it
pub counted_as_lem : (t : Bool) (d b : List ℕ) {n : ℕ} → count_by t d b ≡ Some n → (t ≡ true) × (b ≡ []) × (written d ≡ n)
counted_as_lem true d [] {n} e =
    let same : written d ≡ n = cc in
    (refl, refl, same)
counted_as_lem true d (x ∷ b) e = absurd (some_none (sym e))
counted_as_lem false d b e = absurd (some_none (sym e))

-- a count is so many whole thousandths, as every number that is read (#113)
pub counted-value : (b : Behind) (w : ℕ) → count_in b ≡ Some w → thousandths b.distance ≡ Some (1000 * w)
unfolding count_in
counted-value b w is =
    let h = counted_as_lem (is_count b.distance) b.distance b.support is in
    let c = count-digits b.distance h.0 in
    whole_value b.distance c.all c.some_byte ∙ ap (λ (n : ℕ). Some (1000 * n)) h.2

-- ---- which numbers are counts

-- "digits without a point" (#114)
digits-before-point : (v w : List ℕ) → run is_digit (v ++ 46 ∷ w) ≤ length v
unfolding run
digits-before-point [] w = omega arith
digits-before-point (b ∷ v) w = go (is_digit b) (digits-before-point v w)
  where
    go : (t : Bool) → run is_digit (v ++ 46 ∷ w) ≤ length v → one_more t (run is_digit (v ++ 46 ∷ w)) ≤ suc (length v)
    go true h = omega arith
    go false h = omega arith

pub point_no_count : (v w : List ℕ) → is_count (v ++ 46 ∷ w) ≡ false
unfolding is_count
point_no_count v w =
    let long : length (v ++ 46 ∷ w) ≡ length v + suc (length w) = length-append v (46 ∷ w) in
    rw (
      lt-ltb 0 (length (v ++ 46 ∷ w)) (omega arith),
      ne_eqb (run is_digit (v ++ 46 ∷ w)) (length (v ++ 46 ∷ w)) (λ e. omega (arith, digits-before-point v w)),
    )

-- "zeros in front change nothing" (#114)
zero-counts : (d : List ℕ) → 0 < length d → is_count (48 ∷ d) ≡ is_count d
unfolding is_count run
zero-counts d h = rw (lt-ltb 0 (length d) h, lt-ltb 0 (suc (length d)) (omega arith)) (ap compare_is_eq (compare.suc-suc (run is_digit d) (length d)))

zero_same : (t : Bool) (d b : List ℕ) → count_by t (48 ∷ d) b ≡ count_by t d b
unfolding written written_behind
zero_same true d [] = refl
zero_same true d (x ∷ b) = refl
zero_same false d b = refl

pub zeros_same :
    (k : ℕ) (w d b : List ℕ) → 0 < length d
    → count_in (record { name = w; distance = replicate k 48 ++ d; support = b }) ≡ count_in (record { name = w; distance = d; support = b })
unfolding count_in
zeros_same zero w d b h = refl
zeros_same (suc k) w d b h =
    let rest = replicate k 48 ++ d in
    let long : 0 < length rest = omega (arith, length-append (replicate k 48) d) in
    ap (λ (t : Bool). count_by t (48 ∷ rest) b) (zero-counts rest long) ∙ zero_same (is_count rest) rest b ∙ zeros_same k w d b h
