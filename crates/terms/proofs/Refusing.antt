-- The byte at which an allowed set is refused, and the answer of a refusal.
use Rattle.std.specs.Prelude.{ℕ, zero, suc, ◌^◌, ◌≤◌, ◌<◌, ◌≡◌, ◌⊎◌, true, false, not, Bool, cond, ltb, List, [], ◌∷◌, get_or, take, length, leb, nat_lt, Option, Some, None, MatchOption, Err}
use Rattle.std.specs.List.{position, prefix_len}
use Rattle.std.proofs.Common.{refl, ◌∙◌, arith, inl, inr, zero-le, length-take-le}
use Rattle.std.proofs.lemmas.List.{get_or-take}
use Rattle.std.proofs.lemmas.List.Sums.{prefix_len_passes, prefix_len_stops, prefix_len-le-length, position_or_len_is}
use Rattle.std.proofs.lemmas.Bool.Decides.{nat_tests}
use native.Mathlib.Nat.{eq-or-lt_of_le}
use borrow.Author.Tests.{lt-ltb, le-ltb}
use Rattle.faults.specs.declared.Refusal.{Refusal}
use Rattle.clusters.specs.Sets.{single}
use Rattle.roster.specs.Roster.{least}
use Rattle.roster.specs.Verdict.{verdict_by, verdict}
use Rattle.roster.proofs.Least.{least_is, least_none}
use Rattle.terms.specs.Allowed.{first_strange, allowed_test}
use Rattle.terms.specs.Answers.{without, found_or}
use Rattle.terms.specs.declared.Found.{Found}

-- ---- 13

module _ (n : ℕ) (allowed : List ℕ) {strange : ℕ} (found : strange ≡ first_strange n allowed) where
  pub byte-refused : strange < 2 ^ n → verdict (allowed_test n allowed ∷ []) ≡ record { number = 13; place = strange }
  unfolding verdict allowed_test
  byte-refused l = rw (lt-ltb (first_strange n allowed) (2 ^ n) (omega arith), found)

  pub bytes-passed : 2 ^ n ≤ strange → verdict (allowed_test n allowed ∷ []) ≡ record { number = 0; place = 0 }
  unfolding verdict allowed_test
  bytes-passed l = rw (le-ltb (first_strange n allowed) (2 ^ n) (omega arith))

-- the first place of all whose byte is over 1 is what `position` says
pub strange_first :
    (bytes : List ℕ) (r : Option ℕ)
    → MatchOption r ((k : ℕ) → 0 ≤ k → k < length bytes → nat_lt 1 (get_or bytes k 0) ≡ false)
    (λ place. (0 ≤ place) × (place < length bytes) × (nat_lt 1 (get_or bytes place 0) ≡ true) × ((k : ℕ) → 0 ≤ k → k < place → nat_lt 1 (get_or bytes k 0) ≡ false))
    → r ≡ position (λ byte. nat_lt 1 byte) bytes
strange_first bytes None none =
    rw (position_or_len_is (λ byte. nat_lt 1 byte) bytes (length bytes) 0 (omega arith) (λ k l. none k zero-le l) (λ l. absurd (omega arith))) (grind (arith, nat_tests))
strange_first bytes (Some place) found =
    rw (position_or_len_is (λ byte. nat_lt 1 byte) bytes place 0 (omega arith) (λ k l. found.3 k zero-le l) (λ l. found.2)) (grind (arith, nat_tests))

-- what the code looks for is the definition's first strange byte
strange-at : (xs : List ℕ) (n : ℕ) → n ≤ length xs → least (λ a. not (leb (get_or xs a 0) 1)) 0 n ≡ prefix_len (λ x. not (nat_lt 1 x)) (take n xs)
strange-at xs n l =
    by (prefix_len (λ x. not (nat_lt 1 x)) (take n xs)) (eq-or-lt_of_le most) before at
  where
    long : length (take n xs) ≡ n
    long = length-take-le n xs l

    most : prefix_len (λ x. not (nat_lt 1 x)) (take n xs) ≤ n
    most = omega (arith, long, prefix_len-le-length (λ x. not (nat_lt 1 x)) (take n xs))

    before : (q : ℕ) → 0 ≤ q → q < prefix_len (λ x. not (nat_lt 1 x)) (take n xs) → not (leb (get_or xs q 0) 1) ≡ false
    before q z m =
        let passes = prefix_len_passes (λ x. not (nat_lt 1 x)) (take n xs) q 0 m in
        let same = get_or-take n xs q 0 (omega (arith, most)) in
        grind (arith, nat_tests)

    at : prefix_len (λ x. not (nat_lt 1 x)) (take n xs) < n → not (leb (get_or xs (prefix_len (λ x. not (nat_lt 1 x)) (take n xs)) 0) 1) ≡ true
    at m =
        let stops = prefix_len_stops (λ x. not (nat_lt 1 x)) (take n xs) 0 (omega (arith, long)) in
        let same = get_or-take n xs (prefix_len (λ x. not (nat_lt 1 x)) (take n xs)) 0 m in
        grind (arith, nat_tests)

    by : (p : ℕ) → (p ≡ n) ⊎ (p < n) → ((q : ℕ) → 0 ≤ q → q < p → not (leb (get_or xs q 0) 1) ≡ false) → (p < n → not (leb (get_or xs p 0) 1) ≡ true)
        → least (λ a. not (leb (get_or xs a 0) 1)) 0 n ≡ p
    by p (inl e) none some = least_none (λ a. not (leb (get_or xs a 0) 1)) n 0 (λ q z m. none q z (omega arith)) ∙ omega arith
    by p (inr m) none some = least_is (λ a. not (leb (get_or xs a 0) 1)) n 0 p (omega arith) (omega arith) (some m) none

module _ (n : ℕ) (allowed : List ℕ) (long : 2 ^ n ≤ length allowed) where
  strange_is : first_strange n allowed ≡ prefix_len (λ x. not (nat_lt 1 x)) (take (2 ^ n) allowed)
  unfolding first_strange
  strange_is = strange-at allowed (2 ^ n) long

  lent : length (take (2 ^ n) allowed) ≡ 2 ^ n
  lent = length-take-le (2 ^ n) allowed long

  -- where it stands, if it is one of the entries
  strange-place : position (λ x. nat_lt 1 x) (take (2 ^ n) allowed) ≡ cond (ltb (first_strange n allowed) (2 ^ n)) (Some (first_strange n allowed)) None
  strange-place = rw (strange_is, lent)

  -- the verdict on what the code finds among so many entries
  abbrev pub Judges : Option ℕ → Type 0
  Judges r = MatchOption r (verdict (allowed_test n allowed ∷ []) ≡ record { number = 0; place = 0 }) (λ place. verdict (allowed_test n allowed ∷ []) ≡ record { number = 13; place = place })

  pub judged : {entries : ℕ} {r : Option ℕ} → entries ≡ single n → r ≡ position (λ x. nat_lt 1 x) (take entries allowed) → Judges r
  unfolding verdict allowed_test single
  judged p e = rw (e, p, strange-place) (by (ltb (first_strange n allowed) (2 ^ n)) (first_strange n allowed))
    where
      by : (b : Bool) (place : ℕ) → let said = verdict_by b (record { fault = b; number = 13; place = place }) (record { number = 0; place = 0 }) in
          MatchOption (cond b (Some place) None) (said ≡ record { number = 0; place = 0 }) (λ q. said ≡ record { number = 13; place = q })
      by true place = refl
      by false place = refl

-- ---- refusals

-- a refusal answers no tree
pub refused-told : (k place : ℕ) → (k ≡ 0 → ⊥) → (found : Found) → without k place ≡ found_or k place found
refused-told zero place f found = absurd (f refl)
refused-told (suc k) place f found = refl
