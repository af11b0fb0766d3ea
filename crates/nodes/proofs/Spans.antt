-- What the first bytes of a text decide: numbers by how many bytes they take, and names by what is told of their labels.
use Prim.Native.Nat.{ℕ, zero, suc, ◌+◌, ◌≤◌, ◌<◌}
use mathlib.Core.Path.{◌≡◌, refl, sym, ap, ◌∙◌}
use mathlib.Core.Bool.{Bool, true, false, true≢false}
use mathlib.Core.List.{List, [], ◌∷◌}
use native.Mathlib.Omega.{arith}
use borrow.Author.Tests.{lt-leb, le-leb, leb-true}
use lib.ListN.{length, take, drop}
use lib.Seq.{length-take-le}
use lib.Dec.{leb, ltb}
use Rattle.faults.specs.Faults.{number as fault_number}
use Rattle.faults.specs.declared.Fault.{Fault}
use Rattle.labels.specs.Bytes.{is_digit, run, next_is}
use Rattle.labels.specs.Labels.{letters, told}
use Rattle.labels.specs.Labels.Told.{ended, faulty}
use Rattle.labels.proofs.Runs.{run-within}
use Rattle.labels.proofs.RunRules.{run-bytes}
use Rattle.roster.specs.Roster.{position}
use Rattle.tokens.specs.Answers.{Answer, unexpected}
use Rattle.tokens.specs.Answers.Answer.{parsed, refused}
use Rattle.tokens.specs.Tokens.{numeral, limited, pointed, fraction, digits, number, name}
use Rattle.tokens.specs.Values.{too_fine}
use Rattle.tokens.proofs.Values.{whole_not_fine}
use Rattle.nodes.specs.Reading.{leaf_known, leaf_at, leaf_by}
use Rattle.nodes.specs.Deciding.{fraction_length, number_length}
use Rattle.nodes.proofs.Answers.{refused-parsed, unexpected-parsed}
use Rattle.nodes.proofs.Rests.{tail-drop, number_advances}

pub unexpected_first : {A : Type 0} (s s' : List ℕ) (p : ℕ) → take 1 s ≡ take 1 s' → ◌≡◌ {A = Answer A} (unexpected s p) (unexpected s' p)
unexpected_first [] [] p h = refl
unexpected_first [] (c ∷ s') p h = absurd (let z : ◌≡◌ {A = ℕ} 0 1 = cc in omega arith)
unexpected_first (c ∷ s) [] p h = absurd (let z : ◌≡◌ {A = ℕ} 0 1 = cc in omega arith)
unexpected_first (c ∷ s) (c' ∷ s') p h = refl

-- ---- a number by its counts: d digits, whether a point follows, f digits behind it

unfoldable pub number_with : ℕ → Bool → ℕ → List ℕ → ℕ → Answer (List ℕ)
number_with zero b f s p = unexpected s p
number_with (suc d) false f s p = numeral (suc d) s p
number_with (suc d) true f s p = pointed (suc d) f s p

unfoldable pub span_with : ℕ → Bool → ℕ → ℕ
span_with zero b f = zero
span_with (suc d) false f = suc d
span_with (suc d) true f = suc d + 1 + f

pub number_with_lem : (s : List ℕ) (p : ℕ) → number s p ≡ number_with (run is_digit s) (next_is 46 (drop (run is_digit s) s)) (run is_digit (drop (run is_digit s + 1) s)) s p
unfolding number number_with
number_with_lem s p = go (run is_digit s)
  where
    go : (d : ℕ) → digits d s p ≡ number_with d (next_is 46 (drop d s)) (run is_digit (drop (d + 1) s)) s p
    go zero = refl
    go (suc d) = by (next_is 46 (drop (suc d) s))
      where
        by : (b : Bool) → fraction b (suc d) s p ≡ number_with (suc d) b (run is_digit (drop (suc d + 1) s)) s p
        by true = refl
        by false = refl

numeral-long : (c : ℕ) (s : List ℕ) (p : ℕ) → 12 < c → numeral c s p ≡ refused 4 (p + 12)
numeral-long c s p l = rw (lt-leb c 12 l) refl

number_with-long : (d : ℕ) (b : Bool) (f : ℕ) (s : List ℕ) (p : ℕ) → 12 < span_with d b f → number_with d b f s p ≡ refused 4 (p + 12)
unfolding number_with span_with
number_with-long zero b f s p l = absurd (omega arith)
number_with-long (suc d) false f s p l = numeral-long (suc d) s p l
number_with-long (suc d) true zero s p l = rw (lt-leb (suc d + 1) 12 (omega arith)) refl
number_with-long (suc d) true (suc f) s p l = numeral-long (suc d + 1 + suc f) s p l

-- how many bytes the number at the front takes
unfoldable pub span_of : List ℕ → ℕ
span_of s = span_with (run is_digit s) (next_is 46 (drop (run is_digit s) s)) (run is_digit (drop (run is_digit s + 1) s))

pub run-le_span : (s : List ℕ) → run is_digit s ≤ span_of s
unfolding span_of span_with
run-le_span s = go (run is_digit s) (next_is 46 (drop (run is_digit s) s)) (run is_digit (drop (run is_digit s + 1) s))
  where
    go : (d : ℕ) (b : Bool) (f : ℕ) → d ≤ span_with d b f
    go zero b f = omega arith
    go (suc d) false f = omega arith
    go (suc d) true f = omega arith

pub number-long : (s : List ℕ) (p : ℕ) → 12 < span_of s → number s p ≡ refused 4 (p + 12)
unfolding span_of
number-long s p l =
    number_with_lem s p ∙ number_with-long (run is_digit s) (next_is 46 (drop (run is_digit s) s)) (run is_digit (drop (run is_digit s + 1) s)) s p l

-- ---- a number that is read, by the bytes it takes

-- a number that begins with a digit takes as many bytes by either count
pub span_length : (s : List ℕ) → 0 < run is_digit s → span_of s ≡ number_length s
unfolding span_of span_with number_length
span_length s some = go (run is_digit s) (next_is 46 (drop (run is_digit s) s)) some
  where
    go : (d : ℕ) (t : Bool) → 0 < d → span_with d t (run is_digit (drop (d + 1) s)) ≡ d + fraction_length t (drop d s)
    go zero t some = absurd (omega arith)
    go (suc d) false some = omega arith
    go (suc d) true some = rw (tail-drop (suc d) s) (omega arith)

-- the number at the front is digits, a point and digits
pub record Decimal (s : List ℕ) : Type 0 where
  pub whole : 0 < run is_digit s
  pub point : next_is 46 (drop (run is_digit s) s) ≡ true
  pub part : 0 < run is_digit (drop (run is_digit s + 1) s)

-- it takes these and the point
pub decimal-length : {s : List ℕ} → Decimal s → number_length s ≡ run is_digit s + 1 + run is_digit (drop (run is_digit s + 1) s)
unfolding number_length
decimal-length {s} h = rw (h.point, tail-drop (run is_digit s) s) (omega arith)

-- the c bytes at the front are read as a number
record Taken (c : ℕ) (s : List ℕ) (p : ℕ) (b rest : List ℕ) (q : ℕ) : Type 0 where
  short : c ≤ 12
  bytes : b ≡ take c s
  left : rest ≡ drop c s
  place : q ≡ p + c

numeral-taken : (c : ℕ) (s : List ℕ) (p : ℕ) {b rest : List ℕ} {q : ℕ} → numeral c s p ≡ parsed b rest q → Taken c s p b rest q
numeral-taken c s p {b} {rest} {q} h = by (leb c 12) refl h
  where
    by : (t : Bool) → leb c 12 ≡ t → limited t p (parsed (take c s) (drop c s) (p + c)) ≡ parsed b rest q → Taken c s p b rest q
    by true is h = record { short = leb-true c 12 is; bytes = cc; left = cc; place = cc }
    by false is h = absurd (refused-parsed h)

with_taken :
    (d : ℕ) (t : Bool) (f : ℕ) (s : List ℕ) (p : ℕ) {b rest : List ℕ} {q : ℕ} → number_with d t f s p ≡ parsed b rest q
    → Taken (span_with d t f) s p b rest q × (0 < d) × (t ≡ true → 0 < f)
unfolding number_with span_with
with_taken zero t f s p h = absurd (unexpected-parsed s p h)
with_taken (suc d) false f s p h = (numeral-taken (suc d) s p h, omega arith, λ is. absurd (true≢false (sym is)))
with_taken (suc d) true zero s p {b} {rest} {q} h = absurd (by (leb (suc d + 1) 12) h)
  where
    by : (t : Bool) → limited t p (unexpected (drop (suc d + 1) s) (p + (suc d + 1))) ≡ parsed b rest q → ⊥
    by true h = unexpected-parsed (drop (suc d + 1) s) (p + (suc d + 1)) h
    by false h = refused-parsed h
with_taken (suc d) true (suc f) s p h = (numeral-taken (suc d + 1 + suc f) s p h, omega arith, λ is. omega arith)

number_with-pointed : (d f : ℕ) (s : List ℕ) (p : ℕ) → 0 < d → 0 < f → number_with d true f s p ≡ numeral (d + 1 + f) s p
unfolding number_with
number_with-pointed zero f s p whole part = absurd (omega arith)
number_with-pointed (suc d) zero s p whole part = absurd (omega arith)
number_with-pointed (suc d) (suc f) s p whole part = refl

-- digits alone are not too fine
fine-decimal :
    (s : List ℕ) → 0 < run is_digit s → (next_is 46 (drop (run is_digit s) s) ≡ true → 0 < run is_digit (drop (run is_digit s + 1) s))
    → too_fine (take (number_length s) s) ≡ true → Decimal s
unfolding number_length
fine-decimal s some part fine = by (next_is 46 (drop (run is_digit s) s)) refl
  where
    by : (t : Bool) → next_is 46 (drop (run is_digit s) s) ≡ t → Decimal s
    by true point = record { whole = some; point = point; part = part point }
    by false none =
        let d = run is_digit s in
        let n : number_length s ≡ d = rw none (omega arith) in
        let size = length-take-le d s (run-within is_digit s) in
        absurd (true≢false (sym fine ∙ rw n (whole_not_fine (take d s) (run-bytes is_digit s) (omega arith))))

-- what is read as a number is the bytes that it takes, 12 at the most; it is too fine only with digits behind a point
pub record Spanned (s : List ℕ) (p : ℕ) (b rest : List ℕ) (q : ℕ) : Type 0 where
  pub some : 0 < run is_digit s
  pub short : number_length s ≤ 12
  pub bytes : b ≡ take (number_length s) s
  pub size : length b ≡ number_length s
  pub left : rest ≡ drop (number_length s) s
  pub place : q ≡ p + number_length s
  pub fine : too_fine b ≡ true → Decimal s

-- so it is with every number that is read
pub number-spanned : (s : List ℕ) (p : ℕ) {b rest : List ℕ} {q : ℕ} → number s p ≡ parsed b rest q → Spanned s p b rest q
unfolding span_of
number-spanned s p {b} {rest} {q} h =
    let d = run is_digit s in
    let r = with_taken d (next_is 46 (drop d s)) (run is_digit (drop (d + 1) s)) s p (sym (number_with_lem s p) ∙ h) in
    let n = number_length s in
    let taken : Taken n s p b rest q = rw (span_length s r.1) at r.0 in
    let moved = (number_advances s p h).moves in
    record {
      some = r.1;
      short = taken.short;
      bytes = taken.bytes;
      size = ap length taken.bytes ∙ length-take-le n s (omega (arith, moved.fits, moved.place, taken.place));
      left = taken.left;
      place = taken.place;
      fine = λ is. fine-decimal s r.1 r.2 (rw taken.bytes at is);
    }

-- a number with digits behind its point, of 12 bytes at the most, is read
pub decimal-read :
    {s : List ℕ} → Decimal s → number_length s ≤ 12 → (p : ℕ) → number s p ≡ parsed (take (number_length s) s) (drop (number_length s) s) (p + number_length s)
decimal-read {s} h short p =
    number_with_lem s p ∙ rw (h.point, number_with-pointed (run is_digit s) (run is_digit (drop (run is_digit s + 1) s)) s p h.whole h.part, ← decimal-length h)
    (rw (le-leb (number_length s) 12 short) refl)

-- ---- a name by what is told of its label

module _ (s : List ℕ) (p : ℕ) where
  pub name-ended : (n : ℕ) → told s ≡ ended n → name s p ≡ parsed (letters s) (drop n s) (p + n)
  unfolding name
  name-ended n e = rw e refl

  pub name-faulty : (fault : Fault) (d : ℕ) → told s ≡ faulty fault d → name s p ≡ refused (fault_number fault) (p + d)
  unfolding name
  name-faulty fault d e = rw e refl

  pub leaf-ended :
      (given : Bool) (names : List (List ℕ)) (seen n : ℕ) → told s ≡ ended n
      → leaf_at given names seen s p ≡ leaf_known given (ltb (position (letters s) names) (length names)) (position (letters s) names) seen p (drop n s) (p + n)
  unfolding leaf_by
  leaf-ended given names seen n e = rw (name-ended n e) refl

  pub leaf-faulty : (given : Bool) (names : List (List ℕ)) (seen : ℕ) (fault : Fault) (d : ℕ) → told s ≡ faulty fault d → leaf_at given names seen s p ≡ refused (fault_number fault) (p + d)
  unfolding leaf_by
  leaf-faulty given names seen fault d e = rw (name-faulty fault d e) refl
