-- Numbers that are still open: with nothing or a digit behind them they are numbers by the rules; where a number is refused, or read, it is open.
use Prim.Native.Nat.{ℕ, zero, suc, ◌+◌, ◌-◌, ◌≤◌, ◌<◌}
use native.Mathlib.Decide.{dec_lt}
use native.Mathlib.Omega.{arith}
use native.Mathlib.Numerals.{add-one}
use mathlib.Core.Path.{◌≡◌, refl, sym, ap, ◌∙◌}
use mathlib.Core.Logic.{◌⊎◌, inl, inr, ⊎_elim}
use mathlib.Core.Bool.{Bool, true, false, false≢true}
use mathlib.Core.List.{List, [], ◌∷◌, ◌++◌, append_assoc}
use lib.ListN.{length, get_or, take, drop, length-drop}
use lib.Seq.{take-suc, take-add, take-append_seam, drop-drop}
use lib.Dec.{eqb, leb}
use borrow.Author.Tests.{eqb-true, leb-true, leb-false}
use Rattle.labels.specs.Bytes.{is_digit, run, next_is}
use Rattle.labels.specs.Spelling.{Run}
use Rattle.labels.specs.Spelling.Run.{one}
use Rattle.labels.proofs.Runs.{run-within, run-byte}
use Rattle.labels.proofs.LabelFronts.{front-elsewhere}
use Rattle.labels.proofs.OpenLabels.{run-cut}
use Rattle.labels.proofs.FirstBytes.{next_here, next_within}
use Rattle.roster.specs.Roster.{byte_before}
use Rattle.tokens.specs.Answers.{Answer, unexpected}
use Rattle.tokens.specs.Answers.Answer.{parsed, refused}
use Rattle.tokens.specs.Tokens.{number_bytes, limited, numeral, pointed, fraction, digits, number}
use Rattle.nodes.specs.Grammar.{Number}
use Rattle.nodes.specs.Grammar.Number.{whole, decimal}
use Rattle.nodes.proofs.Answers.{parsed-refused}
use Rattle.nodes.proofs.Rests.{tail-drop}
use Rattle.nodes.proofs.Sound.{next_is_cons, number_read}
use Rattle.nodes.proofs.Fronts.{number-front}
use Rattle.meanings.proofs.KeptRules.{number-splits, number_size}

-- the first j bytes of s are an open number: with an end behind them they are one by the rules
pub record OpenNumber (s : List ℕ) (j : ℕ) : Type 0 where
  pub within : j ≤ length s
  pub word : List ℕ
  pub end : List ℕ
  pub derives : (rest : List ℕ) → Number word (take j s ++ (end ++ rest)) rest

-- the last of them is a point: a digit has to follow
pub record OpenPoint (s : List ℕ) (j : ℕ) : Type 0 where
  pub within : j ≤ length s
  pub some : 1 ≤ j
  pub point : byte_before s j ≡ 46
  pub word : List ℕ
  pub derives : (rest : List ℕ) → Number word (take j s ++ 48 ∷ rest) rest

point_open : {s : List ℕ} {j : ℕ} → OpenPoint s j → OpenNumber s j
point_open o = record { within = o.within; word = o.word; end = 48 ∷ []; derives = o.derives }

-- some bytes of a run
run-part : (test : ℕ → Bool) (s : List ℕ) (i : ℕ) → i < run test s → (rest : List ℕ) → Run test (take (suc i) s) (take (suc i) s ++ rest) rest
run-part test s i l rest =
    let inside : i < length s = omega (arith, run-within test s) in
    let b = get_or s i 0 in
    let bytes : take (suc i) s ≡ take i s ++ b ∷ [] = take-suc s i 0 inside in
    let r : Run test (take i s ++ b ∷ []) (take i s ++ b ∷ rest) rest = run-cut test b (run-byte test s i l) i s (omega arith) rest in
    rw (bytes, append_assoc (take i s) (b ∷ []) rest) r

-- digits
open_digits : (s : List ℕ) (j : ℕ) → 1 ≤ j → j ≤ run is_digit s → OpenNumber s j
open_digits s zero some l = absurd (omega arith)
open_digits s (suc i) some l =
    record {
      within = omega (arith, run-within is_digit s);
      word = take (suc i) s;
      end = [];
      derives = λ rest. whole (run-part is_digit s i (omega arith) rest);
    }

pub point-behind : (d : ℕ) (s : List ℕ) → next_is 46 (drop d s) ≡ true → drop d s ≡ 46 ∷ drop (d + 1) s
point-behind d s point = next_is_cons 46 (drop d s) point ∙ ap (λ (l : List ℕ). 46 ∷ l) (tail-drop d s)

-- digits, a point, and what stands behind it
module _ (s : List ℕ) (d : ℕ) (all : run is_digit s ≡ suc d) (point : next_is 46 (drop (suc d) s) ≡ true) where
  abbrev mid : List ℕ
  mid = drop (suc d + 1) s

  digits-part : (rest : List ℕ) → Run is_digit (take (suc d) s) (take (suc d) s ++ rest) rest
  digits-part rest = run-part is_digit s d (omega arith) rest

  point-bytes : take (suc d + 1) s ≡ take (suc d) s ++ 46 ∷ []
  point-bytes = take-add (suc d) 1 s ∙ ap (λ (l : List ℕ). take (suc d) s ++ take 1 l) (point-behind (suc d) s point)

  inside : suc d < length s
  inside = next_within 46 s (suc d) point

  point-byte : byte_before s (suc d + 1) ≡ 46
  point-byte = rw (add-one (suc d)) (eqb-true (get_or s (suc d) 0) 46 (sym (next_here 46 s (suc d) inside) ∙ point))

  open_point : OpenPoint s (suc d + 1)
  open_point =
      record {
        within = omega (arith, inside);
        some = omega arith;
        point = point-byte;
        word = take (suc d) s ++ 46 ∷ 48 ∷ [];
        derives = λ rest. rw (point-bytes, append_assoc (take (suc d) s) (46 ∷ []) (48 ∷ rest)) (decimal (digits-part (46 ∷ 48 ∷ rest)) (one refl));
      }

  open_decimal : (e : ℕ) → e < run is_digit mid → OpenNumber s (suc d + 1 + suc e)
  open_decimal e l =
      let v = take (suc e) mid in
      let bytes : take (suc d + 1 + suc e) s ≡ take (suc d) s ++ 46 ∷ v =
      take-add (suc d + 1) (suc e) s ∙ (ap (λ (l : List ℕ). l ++ v) point-bytes ∙ append_assoc (take (suc d) s) (46 ∷ []) v)
      in
      record {
        within = omega (arith, run-within is_digit mid, length-drop (suc d + 1) s);
        word = take (suc d) s ++ 46 ∷ v;
        end = [];
        derives = λ rest.
            rw (bytes, append_assoc (take (suc d) s) (46 ∷ v) rest) (decimal (digits-part (46 ∷ (v ++ rest))) (run-part is_digit mid e l rest));
      }

-- ---- where a number is refused

-- too long by its thirteenth byte, which is no quote, and with which it is open still; no digit stands where one has to; none stands behind the point
pub data NumberFault (s : List ℕ) (p n q : ℕ) : Type 0 where
  too_long : OpenNumber s (suc number_bytes) → next_is 39 (drop number_bytes s) ≡ false → n ≡ 4 → q ≡ p + number_bytes → NumberFault s p n q
  none_yet : ◌≡◌ {A = Answer (List ℕ)} (unexpected s p) (refused n q) → NumberFault s p n q
  pointed_only :
      (j : ℕ) → OpenPoint s j → j ≤ number_bytes → ◌≡◌ {A = Answer (List ℕ)} (unexpected (drop j s) (p + j)) (refused n q) → NumberFault s p n q

-- a number refused for its length
record TooLong (c p n q : ℕ) : Type 0 where
  long : number_bytes < c
  number : n ≡ 4
  place : q ≡ p + number_bytes

limited-refused :
    {A : Type 0} (c p : ℕ) (a : Answer A) {n q : ℕ} → limited (leb c number_bytes) p a ≡ refused n q → TooLong c p n q ⊎ ((c ≤ number_bytes) × (a ≡ refused n q))
limited-refused {A} c p a {n} {q} h = go (leb c number_bytes) refl h
  where
    go : (t : Bool) → leb c number_bytes ≡ t → limited t p a ≡ refused n q → TooLong c p n q ⊎ ((c ≤ number_bytes) × (a ≡ refused n q))
    go true is h = inr (leb-true c number_bytes is, h)
    go false is h = inl (record { long = leb-false c number_bytes is; number = cc; place = cc })

numeral-refused : (c : ℕ) (s : List ℕ) (p : ℕ) {n q : ℕ} → numeral c s p ≡ refused n q → TooLong c p n q
numeral-refused c s p h = ⊎_elim (λ l. l) (λ e. absurd (parsed-refused e.1)) (limited-refused c p (parsed (take c s) (drop c s) (p + c)) h)

-- a digit is no quote
digit_no_quote : (b : ℕ) → is_digit b ≡ true → eqb b 39 ≡ false
digit_no_quote b is = by (eqb b 39) refl
  where
    by : (q : Bool) → eqb b 39 ≡ q → q ≡ false
    by true e = absurd (false≢true (rw (eqb-true b 39 e) at is))
    by false e = refl

digit_follows : (s : List ℕ) (k : ℕ) → k < run is_digit s → next_is 39 (drop k s) ≡ false
digit_follows s k l = next_here 39 s k (omega (arith, run-within is_digit s)) ∙ digit_no_quote (get_or s k 0) (run-byte is_digit s k l)

module _ (s : List ℕ) (p : ℕ) {n q : ℕ} where
  long-digits : (d : ℕ) → run is_digit s ≡ d → TooLong d p n q → NumberFault s p n q
  long-digits d all l =
      too_long (open_digits s (suc number_bytes) (omega arith) (omega (arith, l.long)))
      (digit_follows s number_bytes (omega (arith, l.long))) l.number l.place

  long-pointed :
      (d e : ℕ) → run is_digit s ≡ suc d → next_is 46 (drop (suc d) s) ≡ true → run is_digit (drop (suc d + 1) s) ≡ e → TooLong (suc d + 1 + e) p n q
      → NumberFault s p n q
  unfolding next_is
  long-pointed d e all point digits l = go (dec_lt number_bytes (suc d)) (dec_lt (suc d) number_bytes)
    where
      behind : (k : ℕ) → suc d + 1 + k ≡ number_bytes → NumberFault s p n q
      behind k sum =
          let there : drop k (drop (suc d + 1) s) ≡ drop number_bytes s = drop-drop k (suc d + 1) s ∙ ap (λ (n : ℕ). drop n s) sum in
          let more : suc d + 1 + suc k ≡ suc number_bytes = omega arith in
          too_long (rw more at (open_decimal s d all point k (omega (arith, l.long))))
          (rw there at (digit_follows (drop (suc d + 1) s) k (omega (arith, l.long)))) l.number l.place

      go : Dec (number_bytes < suc d) → Dec (suc d < number_bytes) → NumberFault s p n q
      go (yes more) b = long-digits (suc d) all (record { long = more; number = l.number; place = l.place })
      go (no few) (yes less) = behind (number_bytes - (suc d + 1)) (omega arith)
      go (no few) (no less) =
          let same : suc d ≡ number_bytes = omega arith in
          let there : drop number_bytes s ≡ 46 ∷ drop (suc d + 1) s = ap (λ (n : ℕ). drop n s) (sym same) ∙ point-behind (suc d) s point in
          let more : suc d + 1 ≡ suc number_bytes = omega arith in
          too_long (rw more at (point_open (open_point s d all point))) (rw there refl) l.number l.place

  pointed-fault :
      (d e : ℕ) → run is_digit s ≡ suc d → next_is 46 (drop (suc d) s) ≡ true → run is_digit (drop (suc d + 1) s) ≡ e → pointed (suc d) e s p ≡ refused n q
      → NumberFault s p n q
  pointed-fault d zero all point digits h =
      ⊎_elim
      (λ l. long-pointed d 0 all point digits (record { long = omega (arith, l.long); number = l.number; place = l.place }))
      (λ r. pointed_only (suc d + 1) (open_point s d all point) r.0 r.1)
      (limited-refused (suc d + 1) p (unexpected (drop (suc d + 1) s) (p + (suc d + 1))) h)
  pointed-fault d (suc e) all point digits h = long-pointed d (suc e) all point digits (numeral-refused (suc d + 1 + suc e) s p h)

  digits-fault : (d : ℕ) → run is_digit s ≡ d → digits d s p ≡ refused n q → NumberFault s p n q
  digits-fault zero all h = none_yet h
  digits-fault (suc d) all h = go (next_is 46 (drop (suc d) s)) refl h
    where
      go : (t : Bool) → next_is 46 (drop (suc d) s) ≡ t → fraction t (suc d) s p ≡ refused n q → NumberFault s p n q
      go true point h = pointed-fault d (run is_digit (drop (suc d + 1) s)) all point refl h
      go false point h = long-digits (suc d) all (numeral-refused (suc d) s p h)

  pub number-fault : number s p ≡ refused n q → NumberFault s p n q
  unfolding number
  number-fault h = digits-fault (run is_digit s) refl h

-- ---- where a number is read

-- it is open up to its end
pub number_open : (s : List ℕ) (p : ℕ) {w rest : List ℕ} {q : ℕ} → number s p ≡ parsed w rest q → OpenNumber s (length w)
number_open s p {w} {rest} h =
    let n = (number_read s p h).derives in
    let split : s ≡ w ++ rest = number-splits n in
    let front : take (length w) s ≡ w = ap (take (length w)) split ∙ take-append_seam w rest in
    record {
      within = omega (arith, number_size n);
      word = w;
      end = [];
      derives = λ behind. rw front (front-elsewhere (Number w) w rest behind (number-front (rw split at n)));
    }
