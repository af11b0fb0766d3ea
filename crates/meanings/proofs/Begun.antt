-- Labels and numbers that have begun: how each may go on, and that the machine stays within them.
use Prim.Native.Nat.{ℕ, zero, suc, ◌+◌, ◌-◌, ◌≤◌}
use mathlib.Core.Path.{◌≡◌, refl, sym, ap, ◌∙◌, subst}
use mathlib.Core.Bool.{Bool, true, false, ◌||◌}
use mathlib.Core.List.{List, [], ◌∷◌, ◌++◌, map, tail, append_assoc, append-nil}
use native.Mathlib.Decide.{dec_le}
use native.Mathlib.Omega.{arith}
use lib.ListN.{length, get_or, take, drop, length-append, take-append-drop}
use lib.Seq.{length-take-le, take-append-le, take-append-add, take-append_seam, get_or-append_seam, take-take}
use lib.Dec.{eqb}
use Rattle.labels.specs.Bytes.{is_digit, is_bare, is_printable, run, next_is, next_label}
use Rattle.labels.specs.Spelling.{Run, unwritten, Quoted, Spells}
use Rattle.labels.specs.Spelling.Run.{one, next}
use Rattle.labels.specs.Spelling.Quoted.{closes, plain, twice}
use Rattle.labels.specs.Spelling.Spells.{bare, quoted}
use Rattle.labels.specs.Labels.{letters_from, doubled, letters, raw_to, told}
use Rattle.labels.specs.Labels.Told.{ended}
use Rattle.labels.proofs.Runs.{run-within}
use Rattle.labels.proofs.Bytewise.{All, all_left, all_append, all_tail, all_take, all_weaker}
use Rattle.labels.proofs.Bytewise.All.{no_byte, a_byte}
use Rattle.labels.proofs.RunRules.{run-splits, run_all, run-bytes}
use Rattle.labels.proofs.QuotedLetters.{doubled-joins, letters-front, behind_letters, quoted_of}
use Rattle.labels.proofs.Spelled.{told_sound}
use Rattle.labels.proofs.LabelFronts.{Front, front-elsewhere, spells-front}
use Rattle.labels.proofs.ByteKinds.{plain_no_quote, plain-printable}
use Rattle.labels.proofs.Letters.{letters_from_printable}
use Rattle.labels.proofs.Telling.{raw-bare, raw-quoted, bare-length, letters-quoted}
use Rattle.nodes.specs.Grammar.{Number}
use Rattle.nodes.specs.Grammar.Number.{whole, decimal}
use Rattle.nodes.proofs.Sound.{next_is_cons}
use Rattle.meanings.proofs.KeptRules.{number-splits}
use Rattle.meanings.proofs.States.{State, onward, from, Open, bare-enters, quote-enters}
use Rattle.meanings.proofs.States.State.{fresh, closed, valued, in-name, in-number, in-quotes, at-quote, spaced, ended as over, halted}

-- ---- bytes

-- bytes that pass are a run, if there are some
pub all_run : {test : ℕ → Bool} {u : List ℕ} → All test u → 1 ≤ length u → Run test u u []
all_run no_byte some = absurd (omega arith)
all_run (a_byte is no_byte) some = one is
all_run (a_byte is (a_byte is' a)) some = next is (all_run (a_byte is' a) (omega arith))

-- a byte of a number
abbrev pub is_numeral : ℕ → Bool
is_numeral b = is_digit b || eqb b 46

digit-numeral : (b : ℕ) → is_digit b ≡ true → is_numeral b ≡ true
digit-numeral b is = rw is

pub number_numerals : {w s rest : List ℕ} → Number w s rest → All is_numeral w
number_numerals (whole r) = all_weaker digit-numeral (run_all r)
number_numerals (decimal r u) = all_append (all_weaker digit-numeral (run_all r)) (a_byte refl (all_weaker digit-numeral (run_all u)))

-- ---- the machine within a token

-- a label or a number goes on, or may end there
abbrev pub tokens : State → Bool
tokens fresh = false
tokens closed = false
tokens valued = false
tokens in-name = true
tokens in-number = true
tokens in-quotes = true
tokens at-quote = true
tokens spaced = false
tokens over = false
tokens halted = false

-- the machine stays within y over bytes of one kind
all_stay : {test : ℕ → Bool} (y : State) → ((b : ℕ) → test b ≡ true → onward y b ≡ y) → {u : List ℕ} → All test u → from y u ≡ y
unfolding from
all_stay y stays no_byte = refl
all_stay y stays (a_byte {b = b} {s = s} is a) = ap (λ (z : State). from z s) (stays b is) ∙ all_stay y stays a

quoted-within : {w s rest : List ℕ} → Quoted w s rest → (j : ℕ) → j + length rest ≤ length s → tokens (from in-quotes (take j s)) ≡ true
unfolding from
quoted-within d zero l = refl
quoted-within closes (suc zero) l = refl
quoted-within closes (suc (suc j)) l = absurd (omega arith)
quoted-within (plain {b = b} {s = s} is d) (suc j) l =
    let e : onward in-quotes b ≡ in-quotes = rw (plain_no_quote b is, plain-printable b is) in
    ap (λ (z : State). tokens (from z (take j s))) e ∙ quoted-within d j (omega arith)
quoted-within (twice d) (suc zero) l = refl
quoted-within (twice d) (suc (suc j)) l = quoted-within d j (omega arith)

bare-within : {x : State} → Open x → {u : List ℕ} → All is_bare u → (j : ℕ) → 1 ≤ j → j ≤ length u → from x (take j u) ≡ in-name
unfolding from
bare-within o no_byte j some l = absurd (omega arith)
bare-within o (a_byte is a) zero some l = absurd (omega arith)
bare-within o (a_byte {b = b} {s = s} is a) (suc j) some l =
    ap (λ (z : State). from z (take j s)) (bare-enters o b is) ∙ all_stay in-name (λ c h. rw h) (all_take j a)

pub label-within : {x : State} → Open x → {w s : List ℕ} → Spells w s [] → (j : ℕ) → 1 ≤ j → j ≤ length s → tokens (from x (take j s)) ≡ true
unfolding from
label-within {x} o {s = s} (bare {v = v} r) j some l =
    let e : s ≡ v = run-splits r ∙ append-nil v in
    ap tokens (bare-within o (rw e (run_all r)) j some l)
label-within o (quoted d) zero some l = absurd (omega arith)
label-within {x} o (quoted {s = s} d) (suc j) some l =
    ap (λ (z : State). tokens (from z (take j s))) (quote-enters o) ∙ quoted-within d j (omega arith)

-- a number begins with a digit
record DigitFirst (s : List ℕ) : Type 0 where
  digit : ℕ
  behind : List ℕ
  is : is_digit digit ≡ true
  first : s ≡ digit ∷ behind

run_first : {w s rest : List ℕ} → Run is_digit w s rest → DigitFirst s
run_first (one {b = b} {rest = rest} is) = record { digit = b; behind = rest; is = is; first = refl }
run_first (next {b = b} {s = s} is r) = record { digit = b; behind = s; is = is; first = refl }

number_first : {w s rest : List ℕ} → Number w s rest → DigitFirst s
number_first (whole r) = run_first r
number_first (decimal r u) = run_first r

numerals_within : (b : ℕ) {s : List ℕ} → is_digit b ≡ true → All is_numeral s → (j : ℕ) → 1 ≤ j → from valued (take j (b ∷ s)) ≡ in-number
unfolding from
numerals_within b is a zero some = absurd (omega arith)
numerals_within b {s} is a (suc j) some =
    let e : onward valued b ≡ in-number = rw is in
    ap (λ (z : State). from z (take j s)) e ∙ all_stay in-number (λ c h. rw h) (all_take j a)

pub number-within : {w s : List ℕ} → Number w s [] → (j : ℕ) → 1 ≤ j → tokens (from valued (take j s)) ≡ true
number-within {w} {s} d j some =
    let f = number_first d in
    let all : All is_numeral s = rw (number-splits d ∙ append-nil w) (number_numerals d) in
    rw f.first (ap tokens (numerals_within f.digit f.is (all_tail (rw f.first at all)) j some))

-- ---- a label that has begun

-- the first m bytes of x begin a label, which may end so: whatever is put behind them begins with no label
pub record LabelPart (x : List ℕ) (m : ℕ) : Type 0 where
  pub some : 1 ≤ m
  pub fits : m ≤ length x
  pub name : List ℕ
  pub more : List ℕ
  pub spelled : Spells name (take m x ++ more) []
  pub apart : next_label more ≡ false

-- a label that has ended
pub ended-part : (x : List ℕ) (n : ℕ) → next_label x ≡ true → told x ≡ ended n → LabelPart x n
unfolding next_label
ended-part x n begins ends =
    let e = told_sound x n begins ends in
    let f = subst (λ (l : List ℕ). Front (Spells (letters x)) l (drop n x)) (sym (take-append-drop n x)) (spells-front e.whole.spelled) in
    record {
      some = e.some;
      fits = e.within;
      name = letters x;
      more = [];
      spelled = front-elsewhere (Spells (letters x)) (take n x) (drop n x) [] f;
      apart = refl;
    }

-- the first k letters of a bare label
bare-part : (x : List ℕ) (k : ℕ) → next_is 39 x ≡ false → 1 ≤ k → k ≤ length (letters x) → LabelPart x k
unfolding next_label
bare-part x k is some l =
    let r = run is_bare x in
    let l₁ : k ≤ r = omega (arith, bare-length x is) in
    let l₂ : k ≤ length x = omega (arith, run-within is_bare x) in
    let all : All is_bare (take k x) = rw (take-take k r x l₁) at (all_take k (run-bytes is_bare x)) in
    record {
      some = some;
      fits = l₂;
      name = map unwritten (take k x);
      more = [];
      spelled = rw append-nil (bare (all_run all (omega (arith, length-take-le k x l₂))));
      apart = refl;
    }

quoted_some : (w : List ℕ) {s rest : List ℕ} → 1 ≤ length w → Quoted w s rest → Spells w (39 ∷ s) rest
quoted_some [] some d = absurd (omega arith)
quoted_some (b ∷ w) some d = quoted d

-- the raw bytes of the first k letters behind a first quote
letters-bytes : (t : List ℕ) (k : ℕ) → t ≡ doubled (take k (letters_from false t)) ++ (doubled (drop k (letters_from false t)) ++ behind_letters t)
letters-bytes t k =
    let w = letters_from false t in
    let a = doubled (take k w) in
    let b = doubled (drop k w) in
    let e : doubled w ≡ a ++ b = ap doubled (sym (take-append-drop k w)) ∙ doubled-joins (take k w) (drop k w) in
    letters-front t ∙ (ap (λ (l : List ℕ). l ++ behind_letters t) e ∙ append_assoc a b (behind_letters t))

-- letters of a quoted label, which may go on with a blank
quoted-bytes-part : (t v r : List ℕ) → t ≡ doubled v ++ r → All is_printable v → 1 ≤ length v → LabelPart (39 ∷ t) (suc (length (doubled v)))
unfolding next_label doubled
quoted-bytes-part t v r split all some =
    let z = doubled v in
    let w = v ++ 32 ∷ [] in
    let front : take (length z) t ≡ z = ap (take (length z)) split ∙ take-append_seam z r in
    let bytes : doubled w ++ 39 ∷ [] ≡ take (length z) t ++ 32 ∷ 39 ∷ [] =
    ap (λ (l : List ℕ). l ++ 39 ∷ []) (doubled-joins v (32 ∷ []))
    ∙ (append_assoc z (32 ∷ []) (39 ∷ []) ∙ ap (λ (l : List ℕ). l ++ 32 ∷ 39 ∷ []) (sym front))
    in
    record {
      some = omega arith;
      fits = omega (arith, ap length split, length-append z r);
      name = w;
      more = 32 ∷ 39 ∷ [];
      spelled = quoted_some w (omega (arith, length-append v (32 ∷ [])))
          (subst (λ (l : List ℕ). Quoted w l []) bytes (quoted_of (all_append all (a_byte refl no_byte)) []));
      apart = refl;
    }

-- the first k letters of a label
pub letters-part : (x : List ℕ) (k : ℕ) → 1 ≤ k → k ≤ length (letters x) → LabelPart x (raw_to k x)
letters-part x k some l = by (next_is 39 x) refl
  where
    by : (t : Bool) → next_is 39 x ≡ t → LabelPart x (raw_to k x)
    by false is = rw (raw-bare k x is) (bare-part x k is some l)
    by true is =
        let t = tail x in
        let e = next_is_cons 39 x is in
        let w = letters_from false t in
        let l' : k ≤ length w = omega (arith, ap length (ap letters e ∙ letters-quoted t)) in
        subst (λ (y : List ℕ). LabelPart y (raw_to k y)) (sym e)
        (rw (raw-quoted k t)
        (quoted-bytes-part t (take k w) (doubled (drop k w) ++ behind_letters t) (letters-bytes t k) (all_take k (letters_from_printable false t))
        (omega (arith, length-take-le k w l'))))

-- ---- a number that has begun

pub run_over : {test : ℕ → Bool} {w s rest : List ℕ} (y : List ℕ) → Run test w s rest → Run test w (w ++ y) y
run_over y (one is) = one is
run_over y (next is r) = next is (run_over y r)

-- bytes that begin a number are one, or end in its point
pub data NumberPart (v : List ℕ) : Type 0 where
  whole_part : Number v v [] → NumberPart v
  point_part : (n : ℕ) → length v ≡ suc n → get_or v n 0 ≡ 46 → NumberPart v

pub number-part : (v more : List ℕ) {w : List ℕ} → 1 ≤ length v → Number w (v ++ more) [] → NumberPart v
number-part v more {w} some d = by d refl
  where
    digits-part : All is_digit v → NumberPart v
    digits-part all = whole_part (whole (all_run all some))

    -- digits a, a point and digits b
    pointed-part : {a b mid : List ℕ} → v ++ more ≡ a ++ 46 ∷ mid → Run is_digit a (v ++ more) (46 ∷ mid) → Run is_digit b mid [] → NumberPart v
    pointed-part {a} {b} {mid} e r u = go (dec_le (length v) (length a)) (dec_le (length v) (suc (length a)))
      where
        front : v ≡ take (length v) (a ++ 46 ∷ mid)
        front = sym (take-append_seam v more) ∙ ap (take (length v)) e

        go : Dec (length v ≤ length a) → Dec (length v ≤ suc (length a)) → NumberPart v
        go (yes l) h = digits-part (rw (front ∙ take-append-le (length v) a (46 ∷ mid) l) (all_take (length v) (run_all r)))
        go (no l) (yes h) =
            let n : length v ≡ length a + 1 = omega arith in
            let is : v ≡ a ++ 46 ∷ [] = front ∙ (ap (λ (k : ℕ). take k (a ++ 46 ∷ mid)) n ∙ take-append-add a (46 ∷ mid) 1) in
            point_part (length a) (omega arith) (ap (λ (l : List ℕ). get_or l (length a) 0) is ∙ get_or-append_seam a 46 [] 0)
        go (no l) (no h) =
            let j = length v - suc (length a) in
            let n : length v ≡ length a + suc j = omega arith in
            let is : v ≡ a ++ 46 ∷ take j mid = front ∙ (ap (λ (k : ℕ). take k (a ++ 46 ∷ mid)) n ∙ take-append-add a (46 ∷ mid) (suc j)) in
            let all : All is_digit mid = rw (run-splits u ∙ append-nil b) (run_all u) in
            let fits : j ≤ length mid = omega (arith, ap length e, length-append v more, length-append a (46 ∷ mid)) in
            let z : Run is_digit (take j mid) (take j mid) [] = all_run (all_take j all) (omega (arith, length-take-le j mid fits)) in
            whole_part (subst (λ (l : List ℕ). Number l l []) (sym is) (decimal (run_over (46 ∷ take j mid) r) z))

    by : {w s : List ℕ} → Number w s [] → s ≡ v ++ more → NumberPart v
    by {w} (whole r) e = digits-part (all_left v more (rw (sym e ∙ (run-splits r ∙ append-nil w)) (run_all r)))
    by (decimal r u) e = pointed-part (sym e ∙ run-splits r) (rw e at r) u
