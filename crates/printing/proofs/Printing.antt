-- Texts put into the output, one behind the other.
use Prim.Native.Nat.{ℕ, ◌+◌, ◌-◌, ◌/◌, ◌%◌, ◌^◌, ◌≤◌, ◌<◌}
use mathlib.Core.Path.{◌≡◌, refl, sym, ap, ap₂, ◌∙◌}
use mathlib.Core.List.{List, [], ◌∷◌, ◌++◌, append_assoc}
use native.Mathlib.Omega.{arith}
use borrow.Rule.Slice.PartMut.{put_mid, Post-is}
use lib.ListN.{length, drop, set, replicate, length-append, length-replicate, replicate-append-replicate}
use lib.Seq.{sets, sets-eq, length-sets, drop_at}
use Rattle.trees.proofs.Stores.{sets_append, sets-front}
use Rattle.printing.specs.Words.{newline, decimal}
use Rattle.printing.specs.Texts.{report_bytes, report_of, refusal_text, counts_text}
use Rattle.printing.specs.Work.{Put}
use Rattle.printing.specs.declared.Report.{Report}
use Rattle.printing.proofs.Digits.{decimal_one, decimal_more, decimal-length}

-- a byte
pub put_byte : (l : List ℕ) (at b : ℕ) → Put l at (b ∷ []) (at + 1) (set l at b)
put_byte l at b = record { ended = refl; stored = refl }

-- a text copied into its part of the bytes
pub put_part : (l w : List ℕ) (at : ℕ) → at + length w ≤ length l → Put l at w (at + length w) (put_mid at (at + length w - at) l w)
put_part l w at h = record {
  ended = refl;
  stored = rw (Post-is at (at + length w) l (omega arith), sets-eq w l at h, append_assoc);
}

-- what is stored behind a text is stored as one run with it
pub put_rest :
    {l m a : List ℕ} {at mid : ℕ} (b : List ℕ) → Put l at a mid m
    → (sets m mid b ≡ sets l at (a ++ b)) × (mid + length b ≡ at + length (a ++ b))
put_rest {l} {m} {a} {at} {mid} b p =
    (rw (p.stored, p.ended) (sets_append l at a b), omega (arith, p.ended, length-append a b))

-- a text, and another behind it
pub put_then :
    {l m r a b : List ℕ} {at mid end : ℕ}
    → Put l at a mid m → Put m mid b end r → Put l at (a ++ b) end r
put_then {b = b} p q = let both = put_rest b p in record { ended = q.ended ∙ both.1; stored = q.stored ∙ both.0 }

-- a text, and two behind it that are put as one
pub put-then_both :
    {l m r x : List ℕ} {at mid end : ℕ} (a b : List ℕ)
    → Put l at x mid m → Put m mid (a ++ b) end r → Put l at (x ++ a ++ b) end r
put-then_both {x = x} a b p q = rw (append_assoc x a b) (put_then p q)

-- a text, and three behind it that are put as one
pub put-then-three :
    {l m r x : List ℕ} {at mid end : ℕ} (a b c : List ℕ)
    → Put l at x mid m → Put m mid (a ++ b ++ c) end r → Put l at (x ++ a ++ b ++ c) end r
put-then-three {x = x} a b c p q = rw (append_assoc x a b) (put-then_both (a ++ b) c p q)

pub put-length : {l r t : List ℕ} {at end : ℕ} → Put l at t end r → length r ≡ length l
put-length {l} {r} {t} {at} p = ap length p.stored ∙ length-sets l at t

-- ---- a number

module _ (x : ℕ) where
  pub put-digit : (l : List ℕ) (at : ℕ) → x < 10 → Put l at (decimal x) (at + 1) (set l at (48 + x))
  put-digit l at h = rw (decimal_one x h) (put_byte l at (48 + x))

  pub put-digits :
      {l m : List ℕ} {at mid : ℕ} → 10 ≤ x → x < 10 ^ 20 → Put l at (decimal (x / 10)) mid m
      → Put l at (decimal x) (mid + 1) (set m mid (48 + x % 10))
  put-digits {l} {m} {at} {mid} h k p = rw (decimal_more x h k) (put_then p (put_byte m mid (48 + x % 10)))

  -- one digit, or one more than the tenth has
  pub one_digit : x < 10 → length (decimal x) ≡ 1
  one_digit h = ap length (decimal_one x h)

  pub one_digit_more : 10 ≤ x → x < 10 ^ 20 → length (decimal x) ≡ length (decimal (x / 10)) + 1
  one_digit_more h k = ap length (decimal_more x h k) ∙ length-append (decimal (x / 10)) ((48 + x % 10) ∷ [])

-- ---- the whole output

abbrev zeros : ℕ → List ℕ
zeros n = replicate n 0

drop-zeros : (n k : ℕ) → k ≤ n → drop k (zeros n) ≡ zeros (n - k)
drop-zeros n k h =
    let e : k + (n - k) ≡ n = omega arith in
    ap (λ (m : ℕ). drop k (zeros m)) (sym e)
    ∙ (ap (λ (l : List ℕ). drop k l) (sym (replicate-append-replicate {A = ℕ} k (n - k) 0)) ∙ drop_at (zeros k) (zeros (n - k)) k (length-replicate {A = ℕ} k 0))

-- a text put to the front of zeros has zeros behind it
pub put_front : (n : ℕ) {t r : List ℕ} {end : ℕ} → length t ≤ n → Put (replicate n 0) 0 t end r → r ≡ t ++ replicate (n - length t) 0
put_front n {t} {r} h p =
    let l : length t ≤ length (zeros n) = rw (length-replicate {A = ℕ} n 0) h in
    p.stored ∙ (sets-front (zeros n) t l ∙ ap (λ (k : List ℕ). t ++ k) (drop-zeros n (length t) h))

-- so it is a report
pub put_report : {t r : List ℕ} {end : ℕ} → length t ≤ report_bytes → Put (replicate report_bytes 0) 0 t end r → ◌≡◌ {A = Report} (record { len = end; text = r }) (report_of t)
unfolding report_of
put_report {t} {r} {end} h p =
    let e : end ≡ length t = omega (arith, p.ended) in
    ap₂ {C = Report} (λ (n : ℕ) (l : List ℕ). record { len = n; text = l }) e (put_front report_bytes h p)

-- ---- how long the outputs are

pub refused-length : (number place : ℕ) → length (refusal_text number place) ≤ 53
refused-length number place =
    let a = decimal-length number in
    let b = decimal-length place in
    simp length-append (omega arith)

pub counts-length : (n m score ties : ℕ) → length (counts_text n m score ties) ≤ 106
counts-length n m score ties =
    let a = decimal-length n in
    let b = decimal-length m in
    let c = decimal-length score in
    let d = decimal-length ties in
    simp length-append (omega arith)

pub answer-length : (n m score ties : ℕ) (text : List ℕ) → length text ≤ 558 → length (counts_text n m score ties ++ text ++ newline) ≤ report_bytes
answer-length n m score ties text h =
    let a = counts-length n m score ties in
    let b = length-append (counts_text n m score ties ++ text) newline in
    let c = length-append (counts_text n m score ties) text in
    omega arith

-- ---- room for what is put next

-- the bytes of a report, of which at most `most` are in use
pub record Room (most at : ℕ) (l : List ℕ) : Type 0 where
  pub bytes : length l ≡ report_bytes
  pub used : at ≤ most

pub room_within : {l r t : List ℕ} {end : ℕ} (most : ℕ) → length l ≡ report_bytes → length t ≤ most → Put l 0 t end r → Room most end r
room_within most e h p = record { bytes = put-length p ∙ e; used = omega (arith, p.ended) }

pub room_all : {l : List ℕ} → length l ≡ report_bytes → Room 0 0 l
room_all e = record { bytes = e; used = omega arith }

-- a word and a number behind it take the word's bytes and twenty at the most
pub room-labelled :
    {l r : List ℕ} {most at end : ℕ} (w : List ℕ) (x : ℕ) → Room most at l → Put l at (w ++ decimal x) end r → Room (most + length w + 20) end r
room-labelled w x o p = record {
  bytes = put-length p ∙ o.bytes;
  used = omega (arith, p.ended, o.used, length-append w (decimal x), decimal-length x);
}
