-- A number read from a place of the text, for each way that it ends.
use Prim.Native.Nat.{ℕ, zero, suc, ◌+◌, ◌-◌, ◌≤◌, ◌<◌}
use native.Mathlib.Omega.{arith}
use mathlib.Core.Path.{◌≡◌, refl, sym, ap, ◌∙◌}
use mathlib.Core.Bool.{Bool, true, false}
use mathlib.Core.List.{List}
use lib.ListN.{length, drop, length-drop}
use lib.Seq.{drop-drop, length-take-le}
use borrow.Author.Tests.{le-leb, lt-leb}
use Rattle.labels.specs.Bytes.{is_digit, run, next_is}
use Rattle.labels.proofs.Runs.{run_left}
use Rattle.tokens.specs.Tokens.{numeral, pointed, digits, number}
use Rattle.tokens.specs.Says.{refusal, between, stray_at}
use Rattle.tokens.specs.Values.{Value}
use Rattle.faults.specs.declared.Refusal.{Refusal}
use Rattle.tokens.proofs.Places.{stray-unexpected}

module _ (text : List ℕ) (at n : ℕ) where
  -- where the text has n bytes from there on, they stand between the two places
  pub numeral-within : (v : Value) → at + n ≤ length text → at + n ≡ at + length (between text (record { from = at; to = at + n; value = v }))
  numeral-within v h =
      let e : at + n - at ≡ n = omega arith in
      rw e (ap (λ (l : ℕ). at + l) (sym (length-take-le n (drop at text) (omega (arith, length-drop at text)))))

module _ (s : List ℕ) (p : ℕ) where
  -- no digit
  pub number_none : run is_digit s ≡ 0 → refusal (stray_at s p) ≡ number s p
  unfolding number
  number_none e = rw e (stray-unexpected s p)

  -- d digits, and no point
  pub number_whole : (d : ℕ) → d ≡ run is_digit s → 0 < d → next_is 46 (drop d s) ≡ false → numeral d s p ≡ number s p
  unfolding number
  number_whole zero e h t = absurd (omega arith)
  number_whole (suc d) e h t = rw (← e, t)

  module _ (d : ℕ) (whole : d ≡ run is_digit s) (some : 0 < d) (point : next_is 46 (drop d s) ≡ true) where
    -- d digits and a point
    pub number-point : pointed d (run is_digit (drop (d + 1) s)) s p ≡ number s p
    unfolding number
    number-point = by_count d whole some point
      where
        by_count : (d : ℕ) → d ≡ run is_digit s → 0 < d → next_is 46 (drop d s) ≡ true → pointed d (run is_digit (drop (d + 1) s)) s p ≡ digits (run is_digit s) s p
        by_count zero e h t = absurd (omega arith)
        by_count (suc d) e h t = rw (← e, t)

    -- no digit behind it, where there was room for one, or not
    pub number_open : run is_digit (drop (d + 1) s) ≡ 0 → d < 12 → refusal (stray_at (drop (d + 1) s) (p + (d + 1))) ≡ number s p
    number_open e h =
        let l : d + 1 ≤ 12 = omega arith in
        stray-unexpected (drop (d + 1) s) (p + (d + 1)) ∙ rw (e, le-leb (d + 1) 12 l) at number-point

    pub number-full : run is_digit (drop (d + 1) s) ≡ 0 → 12 ≤ d → numeral (d + 1) s p ≡ number s p
    number-full e h =
        let l : 12 < d + 1 = omega arith in
        rw (lt-leb (d + 1) 12 l) (rw (e, lt-leb (d + 1) 12 l) at number-point)

    -- more digits behind it
    pub number-decimal : (e : ℕ) → e ≡ run is_digit (drop (d + 1) s) → 0 < e → numeral (d + 1 + e) s p ≡ number s p
    number-decimal zero q h = absurd (omega arith)
    number-decimal (suc e) q h = rw (← q) at number-point

-- the same from a place of a text on: d digits stand there
module _ (text : List ℕ) (at d : ℕ) (whole : d ≡ run is_digit (drop at text)) where
  -- they lie within the text
  pub digits-within : d ≤ length text - at
  digits-within = run_left is_digit text at d whole

  behind-digits : (b : Bool) → next_is 46 (drop (at + d) text) ≡ b → next_is 46 (drop d (drop at text)) ≡ b
  behind-digits b t = rw (drop-drop d at text) t

  pub no_digits : (e : Refusal) → e ≡ stray_at (drop at text) at → d ≡ 0 → refusal e ≡ number (drop at text) at
  no_digits e f z = rw f (number_none (drop at text) at (sym whole ∙ z))

  module _ (some : 0 < d) where
    pub whole_number : next_is 46 (drop (at + d) text) ≡ false → numeral d (drop at text) at ≡ number (drop at text) at
    whole_number t = number_whole (drop at text) at d whole some (behind-digits false t)

    module _ (point : next_is 46 (drop (at + d) text) ≡ true) (e : ℕ) (part : e ≡ run is_digit (drop (at + d + 1) text)) where
      part-digits : e ≡ run is_digit (drop (d + 1) (drop at text))
      part-digits = let a : at + d + 1 ≡ at + (d + 1) = omega arith in rw (drop-drop (d + 1) at text, ← a) part

      pub part-within : e ≤ length text - (at + d + 1)
      part-within = run_left is_digit text (at + d + 1) e part

      pub open_point : (f : Refusal) → f ≡ stray_at (drop (at + d + 1) text) (at + d + 1) → e ≡ 0 → d < 12 → refusal f ≡ number (drop at text) at
      open_point f g z h =
          let a : at + d + 1 ≡ at + (d + 1) = omega arith in
          rw (g, a, ← drop-drop (d + 1) at text)
          (number_open (drop at text) at d whole some (behind-digits true point) (sym part-digits ∙ z) h)

      pub point_too_long : e ≡ 0 → 12 ≤ d → numeral (d + 1) (drop at text) at ≡ number (drop at text) at
      point_too_long z h = number-full (drop at text) at d whole some (behind-digits true point) (sym part-digits ∙ z) h

      pub decimal-number : 0 < e → numeral (d + 1 + e) (drop at text) at ≡ number (drop at text) at
      decimal-number h = number-decimal (drop at text) at d whole some (behind-digits true point) e part-digits h

      -- digits behind it, or no room for one
      pub past_point : (e ≡ 0 → 12 ≤ d) → numeral (d + 1 + e) (drop at text) at ≡ number (drop at text) at
      past_point full = by e refl
        where
          by : (k : ℕ) → e ≡ k → numeral (d + 1 + e) (drop at text) at ≡ number (drop at text) at
          by zero z =
              let n : d + 1 + e ≡ d + 1 = omega arith in
              rw n (point_too_long z (full z))
          by (suc k) z = decimal-number (omega arith)
