-- A refusal is decided by the bytes up to its border: reading two texts that agree so far answers the same; where the refusal asks for it,
-- they go on alike with a label or a number there.
use Prim.Native.Nat.{ℕ, zero, suc, ◌+◌, ◌-◌, ◌*◌, ◌≤◌, ◌<◌, min}
use mathlib.Core.Path.{◌≡◌, refl, sym, ap, ◌∙◌}
use mathlib.Core.Bool.{Bool, true, false, ◌&&◌, ◌||◌, false≢true, and-eq-true_iff}
use mathlib.Core.List.{List, [], ◌∷◌, ◌++◌, tail, append_cancel_left}
use native.Mathlib.Nat.{add-zero, add_assoc, add-sub_cancel_left}
use native.Mathlib.Decide.{dec_le, dec_lt}
use native.Mathlib.Numerals.{add-one}
use native.Mathlib.Omega.{arith}
use borrow.Author.Tests.{le-leb}
use lib.ListN.{length, get_or, take, drop}
use lib.Seq.{drop-drop, take-add, get_or-drop}
use lib.Dec.{eqb, ltb}
use Rattle.clusters.specs.Sets.{single, union, apart, within}
use Rattle.faults.specs.Faults.{number as fault_number}
use Rattle.faults.specs.declared.Fault.{Fault}
use Rattle.faults.specs.declared.Fault.TheVariants.{StrayByte, LongWord}
use Rattle.labels.specs.Bytes.{is_digit, is_bare, is_blank, run, next_is, next_bare, next_label}
use Rattle.labels.specs.Spelling.{goes_on_by}
use Rattle.labels.specs.Labels.{letters, Told, told}
use Rattle.labels.specs.Labels.Told.{ended as ends_at, faulty}
use Rattle.labels.proofs.Runs.{run-byte, run-behind}
use Rattle.labels.proofs.RunRules.{run_take}
use Rattle.labels.proofs.FirstBytes.{FirstByte, next_is_first, next_bare_first, next_label_first, agree_less}
use Rattle.labels.proofs.Spelled.{told_sound, told_none, letters_none, label_last}
use Rattle.labels.proofs.FaultyLabels.{AtFault, told-fault, letter_end, three-again, four-again, ended-again}
use Rattle.labels.proofs.FaultyLabels.AtFault.{long as too_long, stray, empty, unclosed}
use Rattle.trees.specs.Tree.{Tree, Forest, Behind, cluster}
use Rattle.trees.specs.Tree.Tree.{leaf, node}
use Rattle.trees.specs.Tree.Forest.{last, more}
use Rattle.roster.specs.Roster.{position, byte_before}
use Rattle.tokens.specs.Answers.{Answer, and_then, unexpected}
use Rattle.tokens.specs.Answers.Answer.{parsed, refused}
use Rattle.tokens.specs.Tokens.{blanks, skip, numeral, number, number_behind, second_number, first_number, numbers_by, numbers, name, inner_name_by, inner_name}
use Rattle.tokens.specs.Values.{leading, decimals, too_fine}
use Rattle.tokens.specs.Supports.{refuses_fine, unless_fine, supported}
use Rattle.nodes.specs.Reading.{leaf_new, leaf_known, leaf_at, closing, after_first, opened, node_by, after_child, read_node, read_forest, complete, ended, read_tree_to, read_tree, closing_by, read_forest_by, read_node_by, read_tree_to_by}
use Rattle.nodes.specs.Deciding.{bytes_of, next_digit, number_length, border_by, border, LabelAlike, DigitsAlike, GoesOnAlike, asks_label, AlikeWhereAsked}
use Rattle.nodes.proofs.Answers.{refused-parsed, and_then-parsed, and_then-assoc, unexpected-parsed}
use Rattle.nodes.proofs.Rests.{Moves, tail-drop, skip-drop, number_advances, name-moves, leaf_at_advances}
use Rattle.nodes.proofs.Fuel.{never-out}
use Rattle.nodes.proofs.Spans.{unexpected_first, number_with, span_with, number_with_lem, span_of, run-le_span, number-long}
use Rattle.nodes.proofs.Spans.{Decimal, decimal-length, number-spanned, decimal-read, name-ended, name-faulty, leaf-ended, leaf-faulty}

-- by the number: how many bytes, from the one at fault on, decide a refusal; t begins with that byte
abbrev pub deciding_by : Bool → Bool → Bool → List ℕ → ℕ
deciding_by true number twice t = bytes_of (told t)
deciding_by false true twice t = number_length t
deciding_by false false true t = 2
deciding_by false false false t = 1

-- how many bytes decide a refusal by this number
abbrev pub deciding : ℕ → List ℕ → ℕ
deciding number t = deciding_by (eqb number 5 || eqb number 6) (eqb number 18) (eqb number 4 && next_is 39 t) t

-- the border stands as many bytes behind the byte at fault
pub border-deciding : (number : ℕ) (s : List ℕ) (d : ℕ) → border number s d ≡ d + deciding number (drop d s)
unfolding border
border-deciding number s d = by (eqb number 5 || eqb number 6) (eqb number 18) (eqb number 4 && next_is 39 (drop d s))
  where
    by : (name support twice : Bool) → border_by name support twice d s ≡ d + deciding_by name support twice (drop d s)
    by true support twice = refl
    by false true twice = refl
    by false false true = omega arith
    by false false false = omega arith

-- it is a byte at the least, but for a name or a support
pub deciding_some : (number : ℕ) (t : List ℕ) → (eqb number 5 || eqb number 6) ≡ false → eqb number 18 ≡ false → 1 ≤ deciding number t
deciding_some number t name support = rw (name, support) (by (eqb number 4 && next_is 39 t))
  where
    by : (twice : Bool) → 1 ≤ deciding_by false false twice t
    by true = omega arith
    by false = omega arith

-- a label at fault is decided by a byte at the least
fault_some : {s : List ℕ} {fault : Fault} {d : ℕ} → AtFault s fault d → (t : List ℕ) → 1 ≤ deciding (fault_number fault) t
fault_some (too_long l) t = deciding_some 4 t refl refl
fault_some (stray w b rest split all short non) t = omega arith
fault_some (empty rest split over) t = omega arith
fault_some (unclosed w split all short) t = omega arith

-- the byte at the front, by two tests
front-quote : (t : List ℕ) → next_is 39 t ≡ true → eqb (get_or t 0 0) 39 ≡ true
unfolding next_is
front-quote [] e = absurd (false≢true e)
front-quote (b ∷ t) e = e

front-bare : (t : List ℕ) → next_bare t ≡ true → is_bare (get_or t 0 0) ≡ true
unfolding next_bare
front-bare [] e = absurd (false≢true e)
front-bare (b ∷ t) e = e

front-digit : (t : List ℕ) → next_digit t ≡ is_digit (get_or t 0 0)
unfolding next_digit
front-digit [] = refl
front-digit (b ∷ t) = refl

front-drop : (m : ℕ) (s : List ℕ) → get_or (drop m s) 0 0 ≡ get_or s m 0
front-drop m s = get_or-drop m s 0 0 ∙ ap (λ (n : ℕ). get_or s n 0) (add-zero m)

-- texts that agree so far agree behind their first n bytes
pub agree-behind : (n m : ℕ) (s s' : List ℕ) → take (n + m) s ≡ take (n + m) s' → take m (drop n s) ≡ take m (drop n s')
agree-behind n m s s' h =
    append_cancel_left (take n s) (take m (drop n s)) (take m (drop n s'))
    (sym (take-add n m s)
    ∙ (h ∙ (take-add n m s' ∙ ap (λ (x : List ℕ). x ++ take m (drop n s')) (sym (agree_less n (n + m) s s' (omega arith) h)))))

-- what follows a label in the second text does not go on with it, as it does not in the first
still_over :
    (t : Bool) (m : ℕ) (s s' : List ℕ) → LabelAlike (get_or s m 0) (drop (suc m) s') (drop (suc m) s) → goes_on_by t (drop m s) ≡ true
    → goes_on_by t (drop (suc m) s) ≡ false → goes_on_by t (drop (suc m) s') ≡ false
still_over t m s s' alike final over = by t (goes_on_by t (drop (suc m) s')) refl final over
  where
    by : (t b : Bool) → goes_on_by t (drop (suc m) s') ≡ b → goes_on_by t (drop m s) ≡ true → goes_on_by t (drop (suc m) s) ≡ false → b ≡ false
    by t false on final over = refl
    by true true on final over =
        absurd (false≢true (sym over ∙ alike.quote (ap (λ (b : ℕ). eqb b 39) (sym (front-drop m s)) ∙ front-quote (drop m s) final) on))
    by false true on final over = absurd (false≢true (sym over ∙ alike.bare (ap is_bare (sym (front-drop m s)) ∙ front-bare (drop m s) final) on))

-- a label that ends is the same in a second text that has its bytes and goes on alike behind them
pub label-again :
    (n : ℕ) (s s' : List ℕ) → next_label s ≡ true → told s ≡ ends_at n → take n s' ≡ take n s → LabelAlike (byte_before s n) (drop n s') (drop n s)
    → (told s' ≡ ends_at n) × (letters s' ≡ letters s)
label-again zero s s' begins is agree alike = absurd (omega (arith, (told_sound s 0 begins is).some))
label-again (suc m) s s' begins is agree alike =
    ended-again s s' (suc m) begins is agree (still_over (next_is 39 s) m s s' alike (label_last s m is) (told_sound s (suc m) begins is).whole.over)

-- texts that agree in m bytes have the same runs there
agree-runs : (test : ℕ → Bool) (m : ℕ) (s s' : List ℕ) → take m s ≡ take m s' → min m (run test s) ≡ min m (run test s')
agree-runs test m s s' h = sym (run_take test m s) ∙ (ap (run test) h ∙ run_take test m s')

-- digits that end are as many in a second text that has them and goes on alike behind them
digits-again :
    (m : ℕ) (s s' : List ℕ) → run is_digit s ≡ suc m → take (suc m) s' ≡ take (suc m) s → DigitsAlike (get_or s m 0) (drop (suc m) s') (drop (suc m) s)
    → run is_digit s' ≡ suc m
digits-again m s s' is agree alike = by (dec_lt (suc m) (run is_digit s'))
  where
    digit_at : (l : List ℕ) → next_digit (drop (suc m) l) ≡ is_digit (get_or l (suc m) 0)
    digit_at l = front-digit (drop (suc m) l) ∙ ap is_digit (front-drop (suc m) l)

    by : Dec (suc m < run is_digit s') → run is_digit s' ≡ suc m
    by (yes longer) =
        let on = alike (run-byte is_digit s m (omega arith)) (digit_at s' ∙ run-byte is_digit s' (suc m) longer) in
        let over : is_digit (get_or s (suc m) 0) ≡ false = rw is at (run-behind is_digit refl s) in
        absurd (false≢true (sym over ∙ (sym (digit_at s) ∙ on)))
    by (no short) = omega (arith, agree-runs is_digit (suc m) s' s agree)

-- a number with digits behind its point is one of as many bytes in a second text that has its bytes and goes on alike behind them
pub decimal-again :
    (n : ℕ) (s s' : List ℕ) → Decimal s → number_length s ≡ n → take n s' ≡ take n s → DigitsAlike (byte_before s n) (drop n s') (drop n s)
    → Decimal s' × (number_length s' ≡ n)
decimal-again n s s' h is agree alike =
    let d = run is_digit s in
    let f = run is_digit (drop (d + 1) s) in
    let all : n ≡ d + 1 + f = sym is ∙ decimal-length h in
    let whole : run is_digit s' ≡ d = omega (arith, agree-runs is_digit (suc d) s' s (agree_less (suc d) n s' s (omega (arith, h.part)) agree)) in
    let same : take (d + 1) s' ≡ take (d + 1) s = agree_less (d + 1) n s' s (omega arith) agree in
    let point : next_is 46 (drop d s') ≡ true = next_is_first 46 (drop d s') (drop d s) (agree-behind d 1 s' s same) ∙ h.point in
    let part : run is_digit (drop (d + 1) s') ≡ f = by f refl h.part all in
    let again : Decimal s' = record { whole = rw whole h.whole; point = rw whole point; part = rw (whole, part) h.part } in
    (again, decimal-length again ∙ (rw (whole, part) (sym all)))
  where
    by : (f : ℕ) → run is_digit (drop (run is_digit s + 1) s) ≡ f → 0 < f → n ≡ run is_digit s + 1 + f → run is_digit (drop (run is_digit s + 1) s') ≡ f
    by zero is some all = absurd (omega arith)
    by (suc m) is some all =
        let d = run is_digit s in
        let last : n ≡ suc (d + 1 + m) = omega arith in
        let before : byte_before s n ≡ get_or (drop (d + 1) s) m 0 = ap (byte_before s) last ∙ sym (get_or-drop (d + 1) s m 0) in
        let left : (l : List ℕ) → drop n l ≡ drop (suc m) (drop (d + 1) l) = λ l. ap (λ (k : ℕ). drop k l) all ∙ sym (drop-drop (suc m) (d + 1) l) in
        digits-again m (drop (d + 1) s) (drop (d + 1) s') is (agree-behind (d + 1) (suc m) s' s (rw all at agree))
        (rw (before, left s', left s) at alike)

-- whether a digit stands first is told by the first byte
next_digit_first : FirstByte next_digit
unfolding next_digit
next_digit_first s s' h = first s ∙ (ap next_digit h ∙ sym (first s'))
  where
    first : (l : List ℕ) → next_digit l ≡ next_digit (take 1 l)
    first [] = refl
    first (b ∷ l) = refl

-- texts that agree in one byte more go on alike
pub further-alike : (before n : ℕ) (s s' : List ℕ) → take (suc n) s' ≡ take (suc n) s → GoesOnAlike before (drop n s') (drop n s)
further-alike before n s s' agree =
    let first = agree-behind n 1 s s' (rw add-one (sym agree)) in
    record {
      label = record {
        bare = λ is on. next_bare_first (drop n s) (drop n s') first ∙ on;
        quote = λ is on. next_is_first 39 (drop n s) (drop n s') first ∙ on;
      };
      digits = λ is on. next_digit_first (drop n s) (drop n s') first ∙ on;
    }

-- ---- two texts that agree before the place e: text_at q is the first from the place q on, before the byte before e in it; behind is the second from e on,
-- and goes on alike there, with a label where Label is asked, with a number where Digits is

module _ (e : ℕ) (text_at : ℕ → List ℕ) (before : ℕ) (behind : List ℕ) (Label Digits : Type 0)
    (alike : (Label → LabelAlike before behind (text_at e)) × (Digits → DigitsAlike before behind (text_at e))) where
  -- s stands at place p of the first text
  record At (p : ℕ) (s : List ℕ) : Type 0 where
    text : (n : ℕ) → text_at (p + n) ≡ drop n s
    final : (m : ℕ) → p + suc m ≡ e → get_or s m 0 ≡ before

  -- s and s', both at place p, agree before the place e
  record Agree (p : ℕ) (s s' : List ℕ) : Type 0 where
    front : (m : ℕ) → p + m ≤ e → take m s ≡ take m s'
    rest : (m : ℕ) → p + m ≡ e → drop m s' ≡ behind

  -- an answer that is decided before the place e: after a reading, the next byte that is no blank stands before it;
  -- of a refusal, the bytes that decide it do, and what it asks behind them is asked
  abbrev Early : {A : Type 0} → Answer A → Type 0
  Early (parsed a s q) = q + blanks s < e
  Early (refused k q) = (q + deciding k (text_at q) ≤ e) × (3 ≤ k) × (k ≡ 10 → ⊥) × (asks_label k (text_at q) ≡ true → Label) × (k ≡ 18 → Digits)

  -- a label or a number that ends at q has ended: before the place e, or there where that is asked
  abbrev Over : Type 0 → ℕ → Type 0
  Over Asked q = (q ≤ e) × (q ≡ e → Asked)

  -- the same answer on both texts
  data Same {A : Type 0} : Answer A → Answer A → Type 0 where
    read : {a : A} {s s' : List ℕ} {q : ℕ} → At q s → Agree q s s' → Same (parsed a s q) (parsed a s' q)
    stays : {k q : ℕ} → Same (refused k q) (refused k q)

  at_drop : (n p : ℕ) (s : List ℕ) → At p s → At (p + n) (drop n s)
  at_drop n p s h = record {
    text = λ m. rw add_assoc (h.text (n + m) ∙ sym (drop-drop m n s));
    final = λ m l. get_or-drop n s m 0 ∙ h.final (n + m) (omega arith);
  }

  agree-drop : (n p : ℕ) (s s' : List ℕ) → Agree p s s' → Agree (p + n) (drop n s) (drop n s')
  agree-drop n p s s' h = record {
    front = λ m l. agree-behind n m s s' (h.front (n + m) (omega arith));
    rest = λ m l. drop-drop m n s' ∙ h.rest (n + m) (omega arith);
  }

  agree-run : (test : ℕ → Bool) (m p : ℕ) (s s' : List ℕ) → Agree p s s' → p + m ≤ e → min m (run test s) ≡ min m (run test s')
  agree-run test m p s s' h l = agree-runs test m s s' (h.front m l)

  same_run : (test : ℕ → Bool) (p : ℕ) (s s' : List ℕ) → Agree p s s' → p + run test s < e → run test s' ≡ run test s
  same_run test p s s' h l = omega (arith, agree-run test (suc (run test s)) p s s' h (omega arith))

  -- a piece of reading whose answer is never decided before the byte at hand, or before the next that is no blank
  abbrev Here : {A : Type 0} → (List ℕ → ℕ → Answer A) → Type 0
  Here f = (s : List ℕ) (p : ℕ) → At p s → Early (f s p) → p < e

  abbrev Past : {A : Type 0} → (List ℕ → ℕ → Answer A) → Type 0
  Past f = (s : List ℕ) (p : ℕ) → At p s → Early (f s p) → p + blanks s < e

  -- that answers the same on both texts, once it is decided
  abbrev Steady : {A : Type 0} → (List ℕ → ℕ → Answer A) → Type 0
  Steady f = (s s' : List ℕ) (p : ℕ) → At p s → Agree p s s' → Early (f s p) → Same (f s p) (f s' p)

  -- and that leaves what stands at its place
  abbrev Keeps : {A : Type 0} → (List ℕ → ℕ → Answer A) → Type 0
  Keeps {A} f = (s : List ℕ) (p : ℕ) → At p s → (x : A) (t : List ℕ) (q : ℕ) → f s p ≡ parsed x t q → At q t

  record Ready {A : Type 0} (f : List ℕ → ℕ → Answer A) : Type 0 where
    here : Here f
    steady : Steady f
    keeps : Keeps f

  record Local {A : Type 0} (f : List ℕ → ℕ → Answer A) : Type 0 where
    past : Past f
    steady : Steady f
    keeps : Keeps f

  keeps-moved : {s t : List ℕ} {p q : ℕ} → Moves s p t q → At p s → At q t
  keeps-moved {s} {t} {p} {q} m at = rw (m.left, m.place) (at_drop m.count p s at)

  local_parsed : {A : Type 0} (a : A) → Local (λ s p. parsed a s p)
  local_parsed a = record {
    past = λ s p at l. l;
    steady = λ s s' p at agree l. read at agree;
    keeps = λ s p at x t q h. let f : s ≡ t = cc in let g : p ≡ q = cc in rw (← f, ← g) at;
  }

  module _ {A B : Type 0} (f : List ℕ → ℕ → Answer A) (next : A → List ℕ → ℕ → Answer B) (lf : Local f) (ln : (a : A) → Local (next a)) where
    then-early : (s : List ℕ) (p : ℕ) → At p s → (r : Answer A) → f s p ≡ r → Early (and_then r next) → Early r
    then-early s p at (parsed a t q) is h = (ln a).past t q (lf.keeps s p at a t q is) h
    then-early s p at (refused k q) is h = h

    then_same : (r r' : Answer A) → Same r r' → Early (and_then r next) → Same (and_then r next) (and_then r' next)
    then_same r r' (read {a = a} {s = s} {s' = s'} {q = q} at agree) h = (ln a).steady s s' q at agree h
    then_same r r' stays h = stays

    local_then : Local (λ s p. and_then (f s p) next)
    local_then = record {
      past = λ s p at h. lf.past s p at (then-early s p at (f s p) refl h);
      steady = λ s s' p at agree h. then_same (f s p) (f s' p) (lf.steady s s' p at agree (then-early s p at (f s p) refl h)) h;
      keeps = λ s p at x t q h.
          let r = and_then-parsed (f s p) next h in
          (ln r.value).keeps r.left r.place (lf.keeps s p at r.value r.left r.place r.first) x t q r.after;
    }

  -- one byte further, behind blanks, or both
  at_tail : (p : ℕ) (s : List ℕ) → At p s → At (p + 1) (tail s)
  at_tail p s at = rw (tail-drop 0 s) (at_drop 1 p s at)

  ready_tail : {A : Type 0} (f : List ℕ → ℕ → Answer A) → Local f → Ready (λ s p. f (tail s) (p + 1))
  ready_tail f lf = record {
    here = λ s p at h. omega (arith, lf.past (tail s) (p + 1) (at_tail p s at) h);
    steady = λ s s' p at agree h. lf.steady (tail s) (tail s') (p + 1) (at_tail p s at) (rw (tail-drop 0 s, tail-drop 0 s') (agree-drop 1 p s s' agree)) h;
    keeps = λ s p at x t q h. lf.keeps (tail s) (p + 1) (at_tail p s at) x t q h;
  }

  same_blanks : (p : ℕ) (s s' : List ℕ) → Agree p s s' → p + blanks s < e → blanks s' ≡ blanks s
  unfolding blanks
  same_blanks p s s' agree l = same_run is_blank p s s' agree l

  at_skip : (p : ℕ) (s : List ℕ) → At p s → At (p + blanks s) (skip s)
  at_skip p s at = rw skip-drop (at_drop (blanks s) p s at)

  agree-skip : (p : ℕ) (s s' : List ℕ) → Agree p s s' → p + blanks s < e → Agree (p + blanks s) (skip s) (skip s')
  agree-skip p s s' agree l =
      let b = same_blanks p s s' agree l in
      let k : skip s' ≡ drop (blanks s) s' = skip-drop s' ∙ ap (λ (n : ℕ). drop n s') b in
      rw (skip-drop s, k) (agree-drop (blanks s) p s s' agree)

  local_skip : {A : Type 0} (f : List ℕ → ℕ → Answer A) → Ready f → Local (λ s p. f (skip s) (p + blanks s))
  local_skip f rf = record {
    past = λ s p at h. rf.here (skip s) (p + blanks s) (at_skip p s at) h;
    steady = λ s s' p at agree h.
        let l = rf.here (skip s) (p + blanks s) (at_skip p s at) h in
        let b = same_blanks p s s' agree l in
        rw b (rf.steady (skip s) (skip s') (p + blanks s) (at_skip p s at) (agree-skip p s s' agree l) h);
    keeps = λ s p at x t q h. rf.keeps (skip s) (p + blanks s) (at_skip p s at) x t q h;
  }

  local_behind : {A : Type 0} (f : List ℕ → ℕ → Answer A) → Local f → Local (λ s p. f (tail (skip s)) (p + blanks s + 1))
  local_behind f lf = local_skip (λ s p. f (tail s) (p + 1)) (ready_tail f lf)

  -- by the byte at hand, of which a piece of reading may know what the test says, or by the next that is no blank
  record ReadyWhere {A : Type 0} (test : List ℕ → Bool) (b : Bool) (f : List ℕ → ℕ → Answer A) : Type 0 where
    here : (s : List ℕ) (p : ℕ) → test s ≡ b → At p s → Early (f s p) → p < e
    steady : (s s' : List ℕ) (p : ℕ) → test s ≡ b → At p s → Agree p s s' → Early (f s p) → Same (f s p) (f s' p)
    keeps : (s : List ℕ) (p : ℕ) → test s ≡ b → At p s → (x : A) (t : List ℕ) (q : ℕ) → f s p ≡ parsed x t q → At q t

  anyway : {A : Type 0} (test : List ℕ → Bool) (b : Bool) (f : List ℕ → ℕ → Answer A) → Ready f → ReadyWhere test b f
  anyway test b f rf = record {
    here = λ s p is at h. rf.here s p at h;
    steady = λ s s' p is at agree h. rf.steady s s' p at agree h;
    keeps = λ s p is at x t q h. rf.keeps s p at x t q h;
  }

  ready_where : {A : Type 0} (test : List ℕ → Bool) (f : Bool → List ℕ → ℕ → Answer A) → FirstByte test → ((b : Bool) → ReadyWhere test b (f b))
      → Ready (λ s p. f (test s) s p)
  ready_where test f first rf = record {
    here = λ s p at h. (rf (test s)).here s p refl at h;
    steady = λ s s' p at agree h.
        let l = (rf (test s)).here s p refl at h in
        let t : test s ≡ test s' = first s s' (agree.front 1 (omega arith)) in
        rw (← t) ((rf (test s)).steady s s' p refl at agree h);
    keeps = λ s p at x t q h. (rf (test s)).keeps s p refl at x t q h;
  }

  ready_by : {A : Type 0} (test : List ℕ → Bool) (f : Bool → List ℕ → ℕ → Answer A) → FirstByte test → ((b : Bool) → Ready (f b)) → Ready (λ s p. f (test s) s p)
  ready_by test f first rf = ready_where test f first (λ b. anyway test b (f b) (rf b))

  local_by : {A : Type 0} (test : List ℕ → Bool) (f : Bool → List ℕ → ℕ → Answer A) → FirstByte test → ((b : Bool) → Local (f b)) → Local (λ s p. f (test (skip s)) s p)
  local_by test f first lf = record {
    past = λ s p at h. (lf (test (skip s))).past s p at h;
    steady = λ s s' p at agree h.
        let l = (lf (test (skip s))).past s p at h in
        let t : test (skip s) ≡ test (skip s') = first (skip s) (skip s') ((agree-skip p s s' agree l).front 1 (omega arith)) in
        rw (← t) ((lf (test (skip s))).steady s s' p at agree h);
    keeps = λ s p at x t q h. (lf (test (skip s))).keeps s p at x t q h;
  }

  -- a refusal that the byte at hand decides
  ready_refused : {A : Type 0} (k : ℕ) → (eqb k 5 || eqb k 6) ≡ false → eqb k 18 ≡ false → Ready {A = A} (λ s p. refused k p)
  ready_refused k name support = record {
    here = λ s p at h. omega (arith, deciding_some k (text_at p) name support);
    steady = λ s s' p at agree h. stays;
    keeps = λ s p at x t q h. absurd (refused-parsed h);
  }

  unexpected_here : (A : Type 0) (s : List ℕ) (p : ℕ) → Early {A = A} (unexpected s p) → p < e
  unexpected_here A [] p h = absurd (h.2 refl)
  unexpected_here A (b ∷ s) p h = omega arith

  same_refl : {A : Type 0} (s : List ℕ) (p : ℕ) → Same {A = A} (unexpected s p) (unexpected s p)
  same_refl [] p = stays
  same_refl (b ∷ s) p = stays

  unexpected_same : {A : Type 0} (s s' : List ℕ) (p : ℕ) → Agree p s s' → p < e → Same {A = A} (unexpected s p) (unexpected s' p)
  unexpected_same {A} s s' p agree l = rw (← unexpected_first {A = A} s s' p (agree.front 1 (omega arith))) (same_refl s p)

  ready_unexpected : {A : Type 0} → Ready {A = A} (λ s p. unexpected s p)
  ready_unexpected {A} = record {
    here = λ s p at h. unexpected_here A s p h;
    steady = λ s s' p at agree h. unexpected_same s s' p agree (unexpected_here A s p h);
    keeps = λ s p at x t q h. absurd (unexpected-parsed s p h);
  }

  -- ---- numbers

  numeral-late : (c : ℕ) (s : List ℕ) (p : ℕ) → c ≤ 12 → Early (numeral c s p) → p + c < e
  numeral-late c s p l h = let k : p + c + blanks (drop c s) < e = rw (le-leb c 12 l) at h in omega arith

  numeral_same : (c : ℕ) (s s' : List ℕ) (p : ℕ) → At p s → Agree p s s' → p + c < e → c ≤ 12 → Same (numeral c s p) (numeral c s' p)
  numeral_same c s s' p at agree l fits =
      rw (le-leb c 12 fits, ← agree.front c (omega arith)) (read (at_drop c p s at) (agree-drop c p s s' agree))

  with_late : (d : ℕ) (b : Bool) (f : ℕ) (s : List ℕ) (p : ℕ) → span_with d b f ≤ 12 → Early (number_with d b f s p) → p + span_with d b f < e
  unfolding number_with span_with
  with_late zero b f s p fits h = omega (arith, unexpected_here (List ℕ) s p h)
  with_late (suc d) false f s p fits h = numeral-late (suc d) s p fits h
  with_late (suc d) true zero s p fits h =
      let k : Early {A = List ℕ} (unexpected (drop (suc d + 1) s) (p + (suc d + 1))) = rw (le-leb (suc d + 1) 12 (omega arith)) at h in
      omega (arith, unexpected_here (List ℕ) (drop (suc d + 1) s) (p + (suc d + 1)) k)
  with_late (suc d) true (suc f) s p fits h = numeral-late (suc d + 1 + suc f) s p fits h

  with_same : (d : ℕ) (b : Bool) (f : ℕ) (s s' : List ℕ) (p : ℕ) → span_with d b f ≤ 12 → p + span_with d b f < e → At p s → Agree p s s'
      → Same (number_with d b f s p) (number_with d b f s' p)
  unfolding number_with span_with
  with_same zero b f s s' p fits l at agree = unexpected_same s s' p agree (omega arith)
  with_same (suc d) false f s s' p fits l at agree = numeral_same (suc d) s s' p at agree l fits
  with_same (suc d) true zero s s' p fits l at agree =
      rw (le-leb (suc d + 1) 12 (omega arith))
      (unexpected_same (drop (suc d + 1) s) (drop (suc d + 1) s') (p + (suc d + 1)) (agree-drop (suc d + 1) p s s' agree) (omega arith))
  with_same (suc d) true (suc f) s s' p fits l at agree = numeral_same (suc d + 1 + suc f) s s' p at agree l fits

  point_same : (d p : ℕ) (s s' : List ℕ) → Agree p s s' → p + d < e → next_is 46 (drop d s) ≡ next_is 46 (drop d s')
  point_same d p s s' agree l = next_is_first 46 (drop d s) (drop d s') ((agree-drop d p s s' agree).front 1 (omega arith))

  -- the counts of a number that ends before the place e are the same in both texts
  fraction-again : (d : ℕ) (b : Bool) (s s' : List ℕ) (p : ℕ) → Agree p s s' → p + span_with d b (run is_digit (drop (d + 1) s)) < e
      → number_with d b (run is_digit (drop (d + 1) s')) s' p ≡ number_with d b (run is_digit (drop (d + 1) s)) s' p
  unfolding number_with span_with
  fraction-again zero b s s' p agree l = refl
  fraction-again (suc d) false s s' p agree l = refl
  fraction-again (suc d) true s s' p agree l =
      rw (same_run is_digit (p + (suc d + 1)) (drop (suc d + 1) s) (drop (suc d + 1) s') (agree-drop (suc d + 1) p s s' agree) (omega arith)) refl

  number-again : (s s' : List ℕ) (p : ℕ) → Agree p s s' → p + span_of s < e
      → number s' p ≡ number_with (run is_digit s) (next_is 46 (drop (run is_digit s) s)) (run is_digit (drop (run is_digit s + 1) s)) s' p
  unfolding span_of
  number-again s s' p agree l =
      let k : p + run is_digit s < e = omega (arith, run-le_span s) in
      number_with_lem s' p ∙ rw (same_run is_digit p s s' agree k, ← point_same (run is_digit s) p s s' agree k)
      (fraction-again (run is_digit s) (next_is 46 (drop (run is_digit s) s)) s s' p agree l)

  fraction-long : (d : ℕ) (b : Bool) (s s' : List ℕ) (p : ℕ) → Agree p s s' → p + 12 < e → d ≤ 12
      → 12 < span_with d b (run is_digit (drop (d + 1) s)) → 12 < span_with d b (run is_digit (drop (d + 1) s'))
  unfolding span_with
  fraction-long zero b s s' p agree l fits h = h
  fraction-long (suc d) false s s' p agree l fits h = h
  fraction-long (suc d) true s s' p agree l fits h =
      omega (arith, agree-run is_digit (12 - suc d) (p + (suc d + 1)) (drop (suc d + 1) s) (drop (suc d + 1) s') (agree-drop (suc d + 1) p s s' agree) (omega arith))

  span_long : (s s' : List ℕ) (p : ℕ) → Agree p s s' → p + 12 < e → 12 < span_of s → 12 < span_of s'
  unfolding span_of
  span_long s s' p agree l h = go (dec_le (run is_digit s) 12)
    where
      go : Dec (run is_digit s ≤ 12) → 12 < span_of s'
      go (yes fits) =
          rw (same_run is_digit p s s' agree (omega arith), ← point_same (run is_digit s) p s s' agree (omega arith))
          (fraction-long (run is_digit s) (next_is 46 (drop (run is_digit s) s)) s s' p agree l fits h)
      go (no long) = omega (arith, run-le_span s', agree-run is_digit 13 p s s' agree (omega arith))

  number-late : (s : List ℕ) (p : ℕ) → span_of s ≤ 12 → Early (number s p) → p + span_of s < e
  unfolding span_of
  number-late s p fits h =
      with_late (run is_digit s) (next_is 46 (drop (run is_digit s) s)) (run is_digit (drop (run is_digit s + 1) s)) s p fits (rw number_with_lem at h)

  number_same : (s s' : List ℕ) (p : ℕ) → At p s → Agree p s s' → span_of s ≤ 12 → p + span_of s < e → Same (number s p) (number s' p)
  unfolding span_of
  number_same s s' p at agree fits l =
      rw (number-again s s' p agree l, number_with_lem s p)
      (with_same (run is_digit s) (next_is 46 (drop (run is_digit s) s)) (run is_digit (drop (run is_digit s + 1) s)) s s' p fits l at agree)

  long-late : (s : List ℕ) (p : ℕ) → 12 < span_of s → Early (number s p) → p + 12 < e
  long-late s p long h =
      let k : Early {A = List ℕ} (refused 4 (p + 12)) = rw (number-long s p long) at h in
      omega (arith, k.0, deciding_some 4 (text_at (p + 12)) refl refl)

  ready_number : Ready number
  ready_number = record {
    here = λ s p at h. here s p h (dec_le (span_of s) 12);
    steady = λ s s' p at agree h. steady s s' p at agree h (dec_le (span_of s) 12);
    keeps = λ s p at x t q h. keeps-moved (number_advances s p h).moves at;
  }
    where
      here : (s : List ℕ) (p : ℕ) → Early (number s p) → Dec (span_of s ≤ 12) → p < e
      here s p h (yes fits) = omega (arith, number-late s p fits h)
      here s p h (no long) = omega (arith, long-late s p (omega arith) h)

      steady : (s s' : List ℕ) (p : ℕ) → At p s → Agree p s s' → Early (number s p) → Dec (span_of s ≤ 12) → Same (number s p) (number s' p)
      steady s s' p at agree h (yes fits) = number_same s s' p at agree fits (number-late s p fits h)
      steady s s' p at agree h (no long) =
          let l : 12 < span_of s = omega arith in
          rw (number-long s p l, number-long s' p (span_long s s' p agree (long-late s p l h) l)) stays

  local_number_behind : Local number_behind
  unfolding number_behind
  local_number_behind = local_skip number ready_number

  -- ---- names

  -- behind a byte before the place e, or there where that is asked, the second text goes on alike
  alike-behind :
      (Alike : ℕ → List ℕ → List ℕ → Type 0) (of : (b : ℕ) (more left : List ℕ) → GoesOnAlike b more left → Alike b more left)
      (Asked : Type 0) (there : Asked → Alike before behind (text_at e)) (m p : ℕ) (s s' : List ℕ)
      → At p s → Agree p s s' → Over Asked (p + suc m) → Alike (get_or s m 0) (drop (suc m) s') (drop (suc m) s)
  alike-behind Alike of Asked there m p s s' at agree over = by (dec_lt (p + suc m) e)
    where
      by : Dec (p + suc m < e) → Alike (get_or s m 0) (drop (suc m) s') (drop (suc m) s)
      by (yes k) = of (get_or s m 0) (drop (suc m) s') (drop (suc m) s) (further-alike (get_or s m 0) (suc m) s s' (sym (agree.front (suc (suc m)) (omega arith))))
      by (no k) =
          let l : p + suc m ≡ e = omega (arith, over.0) in
          let text : text_at e ≡ drop (suc m) s = ap text_at (sym l) ∙ at.text (suc m) in
          rw (at.final m l, agree.rest (suc m) l, ← text) (there (over.1 l))

  label-behind : (m p : ℕ) (s s' : List ℕ) → At p s → Agree p s s' → Over Label (p + suc m) → LabelAlike (get_or s m 0) (drop (suc m) s') (drop (suc m) s)
  label-behind = alike-behind LabelAlike (λ b more left g. g.label) Label alike.0

  digits-behind : (m p : ℕ) (s s' : List ℕ) → At p s → Agree p s s' → Over Digits (p + suc m) → DigitsAlike (get_or s m 0) (drop (suc m) s') (drop (suc m) s)
  digits-behind = alike-behind DigitsAlike (λ b more left g. g.digits) Digits alike.1

  -- a label that has ended is the same in both
  label_same : (n p : ℕ) (s s' : List ℕ) → At p s → Agree p s s' → next_label s ≡ true → told s ≡ ends_at n → Over Label (p + n)
      → (told s' ≡ ends_at n) × (letters s' ≡ letters s)
  label_same zero p s s' at agree begins is over = absurd (omega (arith, (told_sound s 0 begins is).some))
  label_same (suc m) p s s' at agree begins is over =
      label-again (suc m) s s' begins is (sym (agree.front (suc m) over.0)) (label-behind m p s s' at agree over)

  -- and where none begins, none does
  none_same : (n p : ℕ) (s s' : List ℕ) → Agree p s s' → next_label s ≡ false → told s ≡ ends_at n → p < e → (told s' ≡ ends_at n) × (letters s' ≡ letters s)
  none_same n p s s' agree non is l =
      let non' : next_label s' ≡ false = next_label_first s' s (sym (agree.front 1 (omega arith))) ∙ non in
      (told_none s' non' ∙ (sym (told_none s non) ∙ is), letters_none s' non' ∙ sym (letters_none s non))

  -- a label at fault that is decided before the place e is at fault alike in the second text
  three_same : (d p : ℕ) (s s' : List ℕ) → At p s → Agree p s s' → told s ≡ faulty StrayByte d → p + suc d ≤ e
      → (asks_label 3 (text_at (p + d)) ≡ true → Label) → told s' ≡ faulty StrayByte d
  three_same d p s s' at agree is l asked =
      three-again s s' d is (sym (agree.front (suc d) l))
      (λ quote on. (label-behind d p s s' at agree (l, λ there. asked (ap (next_is 39) (at.text d) ∙ quote))
      ).quote (ap (λ (b : ℕ). eqb b 39) (sym (front-drop d s)) ∙ front-quote (drop d s) quote) on)

  four_same : (d p : ℕ) (s s' : List ℕ) → At p s → Agree p s s' → told s ≡ faulty LongWord d → p + d + deciding 4 (text_at (p + d)) ≤ e → told s' ≡ faulty LongWord d
  four_same d p s s' at agree is l = four-again s s' d is (sym (agree.front (letter_end (next_is 39 (drop d s)) d) (by (next_is 39 (drop d s)) (rw (at.text d) at l))))
    where
      by : (t : Bool) → p + d + deciding_by false false t (drop d s) ≤ e → p + letter_end t d ≤ e
      by true l = omega arith
      by false l = omega arith

  fault_same : (fault : Fault) (d p : ℕ) (s s' : List ℕ) → At p s → Agree p s s' → told s ≡ faulty fault d → Early {A = List ℕ} (refused (fault_number fault) (p + d))
      → told s' ≡ faulty fault d
  fault_same fault d p s s' at agree is h = by (told-fault s fault d is) is h
    where
      by : {fault : Fault} {d : ℕ} → AtFault s fault d → told s ≡ faulty fault d → Early {A = List ℕ} (refused (fault_number fault) (p + d)) → told s' ≡ faulty fault d
      by (too_long l) is h = four_same _ p s s' at agree is h.0
      by (stray w b rest split all short non) is h = three_same _ p s s' at agree is (omega arith) h.3
      by (empty rest split over) is h = three_same _ p s s' at agree is (omega arith) h.3
      by (unclosed w split all short) is h = absurd (h.2 refl)

  fault_here : (fault : Fault) (d p : ℕ) (s : List ℕ) → told s ≡ faulty fault d → Early {A = List ℕ} (refused (fault_number fault) (p + d)) → p < e
  fault_here fault d p s is h = omega (arith, h.0, fault_some (told-fault s fault d is) (text_at (p + d)))

  ended_same : (n p : ℕ) (s s' : List ℕ) → At p s → Agree p s s' → told s ≡ ends_at n → p + n < e → (told s' ≡ ends_at n) × (letters s' ≡ letters s)
  ended_same n p s s' at agree is l = by (next_label s) refl
    where
      by : (t : Bool) → next_label s ≡ t → (told s' ≡ ends_at n) × (letters s' ≡ letters s)
      by true begins = label_same n p s s' at agree begins is (omega arith, λ there. absurd (omega arith))
      by false non = none_same n p s s' agree non is (omega arith)

  ready_name : Ready name
  ready_name = record {
    here = λ s p at h. here s p (told s) refl h;
    steady = λ s s' p at agree h. steady s s' p at agree (told s) refl h;
    keeps = λ s p at x t q h. keeps-moved (name-moves s p h) at;
  }
    where
      ended_here : (s : List ℕ) (p n : ℕ) → told s ≡ ends_at n → Early (name s p) → p + n < e
      ended_here s p n is h = let k : Early (parsed (letters s) (drop n s) (p + n)) = rw (name-ended s p n is) at h in omega arith

      here : (s : List ℕ) (p : ℕ) (t : Told) → told s ≡ t → Early (name s p) → p < e
      here s p (ends_at n) is h = omega (arith, ended_here s p n is h)
      here s p (faulty fault d) is h = fault_here fault d p s is (rw (name-faulty s p fault d is) at h)

      steady : (s s' : List ℕ) (p : ℕ) → At p s → Agree p s s' → (t : Told) → told s ≡ t → Early (name s p) → Same (name s p) (name s' p)
      steady s s' p at agree (ends_at n) is h =
          let same = ended_same n p s s' at agree is (ended_here s p n is h) in
          rw (name-ended s p n is, name-ended s' p n same.0, same.1) (read (at_drop n p s at) (agree-drop n p s s' agree))
      steady s s' p at agree (faulty fault d) is h =
          let same = fault_same fault d p s s' at agree is (rw (name-faulty s p fault d is) at h) in
          rw (name-faulty s p fault d is, name-faulty s' p fault d same) stays

  local_inner_name_by : (b : Bool) → Local (λ s p. inner_name_by b s p)
  local_inner_name_by false = local_parsed []
  local_inner_name_by true = local_skip name ready_name

  local_inner_name : Local inner_name
  unfolding inner_name
  local_inner_name = local_by next_label (λ b s p. inner_name_by b s p) next_label_first local_inner_name_by

  -- ---- supports, judged where their number ends

  -- a piece of reading that answers as another does
  local_as : {A : Type 0} (f g : List ℕ → ℕ → Answer A) → ((s : List ℕ) (p : ℕ) → f s p ≡ g s p) → Local g → Local f
  local_as f g same lg = record {
    past = λ s p at h. lg.past s p at (rw (same s p) at h);
    steady = λ s s' p at agree h. rw (same s p, same s' p) (lg.steady s s' p at agree (rw (same s p) at h));
    keeps = λ s p at x t q h. lg.keeps s p at x t q (sym (same s p) ∙ h);
  }

  module _ (given : Bool) where
    -- what was read, unless its support is too fine
    abbrev judge : Behind → List ℕ → ℕ → Answer Behind
    judge b s p = unless_fine (refuses_fine given b.support) b s p

    -- without a support, nothing is refused
    none_fine : refuses_fine given [] ≡ false
    unfolding too_fine decimals leading run
    none_fine = by given
      where
        by : (given : Bool) → refuses_fine given [] ≡ false
        by true = refl
        by false = refl

    local_unsupported : (w d : List ℕ) → Local (λ s p. judge (record { name = w; distance = d; support = [] }) s p)
    local_unsupported w d =
        let b : Behind = record { name = w; distance = d; support = [] } in
        local_as (λ s p. judge b s p) (λ s p. parsed b s p) (λ s p. rw none_fine refl) (local_parsed b)

    -- whether what was read is refused as a support
    abbrev refused_as : Answer (List ℕ) → Bool
    refused_as (parsed b s q) = refuses_fine given b
    refused_as (refused k q) = false

    -- a support that is refused: its number has ended
    record Fine (s : List ℕ) (p : ℕ) : Type 0 where
      decimal : Decimal s
      short : number_length s ≤ 12
      size : length (take (number_length s) s) ≡ number_length s
      judged : refuses_fine given (take (number_length s) s) ≡ true
      over : Over Digits (p + number_length s)

    fine-parts : (b : List ℕ) → refuses_fine given b ≡ true → too_fine b ≡ true
    fine-parts b is = ((and-eq-true_iff given (too_fine b)).0 is).1

    module _ (w d : List ℕ) where
      abbrev support_of : List ℕ → Behind
      support_of b = record { name = w; distance = d; support = b }

      abbrev next : List ℕ → List ℕ → ℕ → Answer Behind
      next b s p = judge (support_of b) s p

      plain-early : (r : Answer (List ℕ)) → refused_as r ≡ false → Early (and_then r next) → Early r
      plain-early (parsed b s q) plain h = rw plain at h
      plain-early (refused k q) plain h = h

      plain_same : (r r' : Answer (List ℕ)) → Same r r' → refused_as r ≡ false → Same (and_then r next) (and_then r' next)
      plain_same r r' (read at agree) plain = rw plain (read at agree)
      plain_same r r' stays plain = stays

      fine_here : (s : List ℕ) (p : ℕ) → At p s → (r : Answer (List ℕ)) → number s p ≡ r → refused_as r ≡ true → Early (and_then r next) → Fine s p
      fine_here s p at (refused k q) is fine h = absurd (false≢true fine)
      fine_here s p at (parsed b t q) is fine h =
          let n = number_length s in
          let k = number-spanned s p is in
          let decided : Early {A = Behind} (refused 18 (q - length b)) = rw fine at h in
          let begun : q - length b ≡ p = omega (arith, k.place, k.size) in
          let text : text_at p ≡ s = rw add-zero at (at.text 0) in
          let ends : p + n ≤ e = rw (begun, text) at decided.0 in
          record {
            decimal = k.fine (fine-parts b fine);
            short = k.short;
            size = ap length (sym k.bytes) ∙ k.size;
            judged = rw k.bytes at fine;
            over = (ends, λ there. decided.4 refl);
          }

      -- a support too fine is refused at its first byte
      fine-refused :
          (s : List ℕ) (p n : ℕ) → Decimal s → number_length s ≡ n → n ≤ 12 → length (take n s) ≡ n → refuses_fine given (take n s) ≡ true
          → and_then (number s p) next ≡ refused 18 p
      fine-refused s p n decimal is short size judged =
          let reads : number s p ≡ parsed (take n s) (drop n s) (p + n) = rw is at (decimal-read decimal (omega arith) p) in
          rw (reads, judged, size) (ap (λ (q : ℕ). refused 18 q) (omega arith))

      -- in the second text it is refused alike
      fine_same : (s s' : List ℕ) (p : ℕ) → At p s → Agree p s s' → Fine s p → Same (and_then (number s p) next) (and_then (number s' p) next)
      fine_same s s' p at agree fine = by (number_length s) refl fine.short fine.size fine.judged fine.over
        where
          by : (n : ℕ) → number_length s ≡ n → n ≤ 12 → length (take n s) ≡ n → refuses_fine given (take n s) ≡ true → Over Digits (p + n)
              → Same (and_then (number s p) next) (and_then (number s' p) next)
          by zero is short size judged over = absurd (omega (arith, decimal-length fine.decimal))
          by (suc m) is short size judged over =
              let same : take (suc m) s' ≡ take (suc m) s = sym (agree.front (suc m) over.0) in
              let again = decimal-again (suc m) s s' fine.decimal is same (digits-behind m p s s' at agree over) in
              rw (
                fine-refused s p (suc m) fine.decimal is short size judged,
                fine-refused s' p (suc m) again.0 again.1 short (ap length same ∙ size) (ap (λ (b : List ℕ). refuses_fine given b) same ∙ judged),
              ) stays

      ready_support : Ready (λ s p. and_then (number s p) next)
      ready_support = record {
        here = λ s p at h. here s p at h (refused_as (number s p)) refl;
        steady = λ s s' p at agree h. steady s s' p at agree h (refused_as (number s p)) refl;
        keeps = λ s p at x t q h.
            let r = and_then-parsed (number s p) next h in
            keeps r.value r.left r.place (refuses_fine given r.value) x t q r.after
            (ready_number.keeps s p at r.value r.left r.place r.first);
      }
        where
          here : (s : List ℕ) (p : ℕ) → At p s → Early (and_then (number s p) next) → (t : Bool) → refused_as (number s p) ≡ t → p < e
          here s p at h false plain = ready_number.here s p at (plain-early (number s p) plain h)
          here s p at h true fine = let k = fine_here s p at (number s p) refl fine h in omega (arith, k.over.0, decimal-length k.decimal)

          steady : (s s' : List ℕ) (p : ℕ) → At p s → Agree p s s' → Early (and_then (number s p) next) → (t : Bool) → refused_as (number s p) ≡ t
              → Same (and_then (number s p) next) (and_then (number s' p) next)
          steady s s' p at agree h false plain =
              plain_same (number s p) (number s' p) (ready_number.steady s s' p at agree (plain-early (number s p) plain h)) plain
          steady s s' p at agree h true fine = fine_same s s' p at agree (fine_here s p at (number s p) refl fine h)

          keeps : (b m : List ℕ) (r : ℕ) (t : Bool) (x : Behind) (rest : List ℕ) (q : ℕ) → unless_fine t (support_of b) m r ≡ parsed x rest q → At r m → At q rest
          keeps b m r true x rest q h at = absurd (refused-parsed h)
          keeps b m r false x rest q h at = (local_parsed (support_of b)).keeps m r at x rest q h

      local_support : Local (λ s p. and_then (number_behind s p) next)
      unfolding number_behind
      local_support = local_skip (λ s p. and_then (number s p) next) ready_support

    local_second_number : (b : Bool) (w d : List ℕ) → Local (λ s p. and_then (second_number b w d s p) judge)
    local_second_number false w d = local_unsupported w d
    local_second_number true w d =
        let made : List ℕ → List ℕ → ℕ → Answer Behind = λ b s p. parsed (record { name = w; distance = d; support = b }) s p in
        local_behind (λ s p. and_then (and_then (number_behind s p) made) judge)
        (local_as (λ s p. and_then (and_then (number_behind s p) made) judge) (λ s p. and_then (number_behind s p) (next w d))
        (λ s p. and_then-assoc (number_behind s p) made judge) (local_support w d))

    local_first_number : (b : Bool) (w : List ℕ) → Local (λ s p. and_then (first_number b w s p) judge)
    local_first_number true w = local_second_number true w []
    local_first_number false w =
        let second : List ℕ → List ℕ → ℕ → Answer Behind = λ d s p. second_number (next_is 58 (skip s)) w d s p in
        local_as (λ s p. and_then (and_then (number_behind s p) second) judge) (λ s p. and_then (number_behind s p) (λ d s p. and_then (second d s p) judge))
        (λ s p. and_then-assoc (number_behind s p) second judge)
        (local_then number_behind (λ d s p. and_then (second d s p) judge) local_number_behind
        (λ d. local_by (next_is 58) (λ b s p. and_then (second_number b w d s p) judge) (next_is_first 58) (λ b. local_second_number b w d)))

    local_numbers_by : (b : Bool) (w : List ℕ) → Local (λ s p. and_then (numbers_by b w s p) judge)
    local_numbers_by false w = local_unsupported w []
    local_numbers_by true w =
        local_behind (λ s p. and_then (first_number (next_is 58 (skip s)) w s p) judge)
        (local_by (next_is 58) (λ b s p. and_then (first_number b w s p) judge) (next_is_first 58) (λ b. local_first_number b w))

    local_supported : (w : List ℕ) → Local (supported given w)
    unfolding supported numbers
    local_supported w = local_by (next_is 58) (λ b s p. and_then (numbers_by b w s p) judge) (next_is_first 58) (λ b. local_numbers_by b w)

  local_closing : (given : Bool) (t : Tree) (f : Forest) → Local (closing given t f)
  unfolding closing_by
  local_closing given t f =
      local_then inner_name (λ w s p. and_then (supported given w s p) (λ b s p. parsed (node t f b) s p)) local_inner_name
      (λ w. local_then (supported given w) (λ b s p. parsed (node t f b) s p) (local_supported given w) (λ b. local_parsed (node t f b)))

  -- ---- leaves

  local_leaf : (given : Bool) (i : ℕ) → Local (λ s p. and_then (supported given [] s p) (λ b s p. parsed (leaf i b) s p))
  local_leaf given i = local_then (supported given []) (λ b s p. parsed (leaf i b) s p) (local_supported given []) (λ b. local_parsed (leaf i b))

  -- begun is the place of a label of n bytes that ends at q
  known_over : (given b : Bool) (i seen begun n : ℕ) (s : List ℕ) (q : ℕ) → bytes_of (told (text_at begun)) ≡ n → begun + n ≡ q → At q s
      → Early (leaf_known given b i seen begun s q) → Over Label q
  known_over given false i seen begun n s q width ends at h = (omega arith, λ there. h.3 refl)
  known_over given true i seen begun n s q width ends at h = go (apart (single i) seen) h
    where
      go : (b : Bool) → Early (leaf_new given b i begun s q) → Over Label q
      go false h = (omega arith, λ there. h.3 refl)
      go true h = let l = (local_leaf given i).past s q at h in (omega arith, λ there. absurd (omega arith))

  known_same : (given b : Bool) (i seen begun : ℕ) (s s' : List ℕ) (q : ℕ) → At q s → Agree q s s'
      → Early (leaf_known given b i seen begun s q) → Same (leaf_known given b i seen begun s q) (leaf_known given b i seen begun s' q)
  known_same given false i seen begun s s' q at agree h = stays
  known_same given true i seen begun s s' q at agree h = go (apart (single i) seen) h
    where
      go : (b : Bool) → Early (leaf_new given b i begun s q) → Same (leaf_new given b i begun s q) (leaf_new given b i begun s' q)
      go false h = stays
      go true h = (local_leaf given i).steady s s' q at agree h

  module _ (given : Bool) (names : List (List ℕ)) where
    leaf_over : (seen : ℕ) (s : List ℕ) (p n : ℕ) → At p s → told s ≡ ends_at n → Early (leaf_at given names seen s p) → Over Label (p + n)
    leaf_over seen s p n at is h =
        let text : text_at p ≡ s = rw add-zero at (at.text 0) in
        known_over given (ltb (position (letters s) names) (length names)) (position (letters s) names) seen p n (drop n s) (p + n)
        (ap (λ (l : List ℕ). bytes_of (told l)) text ∙ ap bytes_of is) refl (at_drop n p s at) (rw (leaf-ended s p given names seen n is) at h)

    leaf_same : (seen : ℕ) (s s' : List ℕ) (p n : ℕ) → At p s → Agree p s s' → next_label s ≡ true → told s ≡ ends_at n → Early (leaf_at given names seen s p)
        → Same (leaf_at given names seen s p) (leaf_at given names seen s' p)
    leaf_same seen s s' p n at agree begins is h =
        let same = label_same n p s s' at agree begins is (leaf_over seen s p n at is h) in
        rw (leaf-ended s p given names seen n is, leaf-ended s' p given names seen n same.0, same.1)
        (known_same given (ltb (position (letters s) names) (length names)) (position (letters s) names) seen p (drop n s) (drop n s') (p + n)
        (at_drop n p s at) (agree-drop n p s s' agree) (rw (leaf-ended s p given names seen n is) at h))

    leaf_here : (seen : ℕ) (s : List ℕ) (p : ℕ) → At p s → next_label s ≡ true → Early (leaf_at given names seen s p) → p < e
    leaf_here seen s p at begins h = by (told s) refl
      where
        by : (t : Told) → told s ≡ t → p < e
        by (ends_at n) is = omega (arith, (leaf_over seen s p n at is h).0, (told_sound s n begins is).some)
        by (faulty fault d) is = fault_here fault d p s is (rw (leaf-faulty s p given names seen fault d is) at h)

    leaf-steady : (seen : ℕ) (s s' : List ℕ) (p : ℕ) → At p s → Agree p s s' → next_label s ≡ true → Early (leaf_at given names seen s p)
        → Same (leaf_at given names seen s p) (leaf_at given names seen s' p)
    leaf-steady seen s s' p at agree begins h = by (told s) refl
      where
        by : (t : Told) → told s ≡ t → Same (leaf_at given names seen s p) (leaf_at given names seen s' p)
        by (ends_at n) is = leaf_same seen s s' p n at agree begins is h
        by (faulty fault d) is =
            let same = fault_same fault d p s s' at agree is (rw (leaf-faulty s p given names seen fault d is) at h) in
            rw (leaf-faulty s p given names seen fault d is, leaf-faulty s' p given names seen fault d same) stays

    -- ---- nodes

    ready_after_first : (b c : Bool) (others : ℕ → List ℕ → ℕ → Answer Forest) (seen : ℕ) (t : Tree) → ((x : ℕ) → Local (others x))
        → Ready (λ s p. after_first given b c others seen t s p)
    ready_after_first true c others seen t lo =
        ready_tail (λ s p. and_then (others (union seen (cluster t)) s p) (λ f s p. closing given t f s p))
        (local_then (others (union seen (cluster t))) (λ f s p. closing given t f s p) (lo (union seen (cluster t))) (λ f. local_closing given t f))
    ready_after_first false true others seen t lo = ready_refused 7 refl refl
    ready_after_first false false others seen t lo = ready_unexpected

    local_first : (others : ℕ → List ℕ → ℕ → Answer Forest) (seen : ℕ) (t : Tree) → ((x : ℕ) → Local (others x))
        → Local (λ s p. after_first given (next_is 44 (skip s)) (next_is 41 (skip s)) others seen t (skip s) (p + blanks s))
    local_first others seen t lo =
        local_skip (λ s p. after_first given (next_is 44 s) (next_is 41 s) others seen t s p)
        (ready_by (next_is 44) (λ b s p. after_first given b (next_is 41 s) others seen t s p) (next_is_first 44)
        (λ b. ready_by (next_is 41) (λ c s p. after_first given b c others seen t s p) (next_is_first 41) (λ c. ready_after_first b c others seen t lo)))

    ready_opened : (first : ℕ → ℕ → List ℕ → ℕ → Answer Tree) (others : ℕ → ℕ → List ℕ → ℕ → Answer Forest) (room seen : ℕ)
        → ((r x : ℕ) → Local (first r x)) → ((r x : ℕ) → Local (others r x)) → Ready (λ s p. opened given first others room seen s p)
    ready_opened first others zero seen lf lo = ready_refused 8 refl refl
    ready_opened first others (suc room) seen lf lo =
        ready_tail
        (λ s p. and_then (first room seen s p)
        (λ t s p. after_first given (next_is 44 (skip s)) (next_is 41 (skip s)) (λ x s p. others room x s p) seen t (skip s) (p + blanks s)))
        (local_then (first room seen)
        (λ t s p. after_first given (next_is 44 (skip s)) (next_is 41 (skip s)) (λ x s p. others room x s p) seen t (skip s) (p + blanks s))
        (lf room seen) (λ t. local_first (λ x s p. others room x s p) seen t (λ x. lo room x)))

    leaf_ready : (seen : ℕ) → ReadyWhere next_label true (leaf_at given names seen)
    leaf_ready seen = record {
      here = λ s p begins at h. leaf_here seen s p at begins h;
      steady = λ s s' p begins at agree h. leaf-steady seen s s' p at agree begins h;
      keeps = λ s p begins at x t q h. keeps-moved (leaf_at_advances given names seen s p begins h).moves at;
    }

    -- a node that begins with no label
    ready_inner : (c : Bool) (first : ℕ → ℕ → List ℕ → ℕ → Answer Tree) (others : ℕ → ℕ → List ℕ → ℕ → Answer Forest) (room seen : ℕ)
        → ((r x : ℕ) → Local (first r x)) → ((r x : ℕ) → Local (others r x)) → Ready (λ s p. node_by given false c names first others room seen s p)
    ready_inner true first others room seen lf lo = ready_opened first others room seen lf lo
    ready_inner false first others room seen lf lo = ready_unexpected

    ready_node_by : (b : Bool) (first : ℕ → ℕ → List ℕ → ℕ → Answer Tree) (others : ℕ → ℕ → List ℕ → ℕ → Answer Forest) (room seen : ℕ)
        → ((r x : ℕ) → Local (first r x)) → ((r x : ℕ) → Local (others r x))
        → ReadyWhere next_label b (λ s p. node_by given b (next_is 40 s) names first others room seen s p)
    ready_node_by true first others room seen lf lo = leaf_ready seen
    ready_node_by false first others room seen lf lo =
        anyway next_label false (λ s p. node_by given false (next_is 40 s) names first others room seen s p)
        (ready_by (next_is 40) (λ c s p. node_by given false c names first others room seen s p) (next_is_first 40)
        (λ c. ready_inner c first others room seen lf lo))

    local_node : (first : ℕ → ℕ → List ℕ → ℕ → Answer Tree) (others : ℕ → ℕ → List ℕ → ℕ → Answer Forest) (room seen : ℕ)
        → ((r x : ℕ) → Local (first r x)) → ((r x : ℕ) → Local (others r x))
        → Local (λ s p. node_by given (next_label (skip s)) (next_is 40 (skip s)) names first others room seen (skip s) (p + blanks s))
    local_node first others room seen lf lo =
        local_skip (λ s p. node_by given (next_label s) (next_is 40 s) names first others room seen s p)
        (ready_where next_label (λ b s p. node_by given b (next_is 40 s) names first others room seen s p) next_label_first
        (λ b. ready_node_by b first others room seen lf lo))

    ready_after_child : (b c : Bool) (others : ℕ → List ℕ → ℕ → Answer Forest) (seen : ℕ) (t : Tree) → ((x : ℕ) → Local (others x))
        → Ready (λ s p. after_child b c others seen t s p)
    ready_after_child true c others seen t lo =
        ready_tail (λ s p. and_then (others (union seen (cluster t)) s p) (λ f s p. parsed (more t f) s p))
        (local_then (others (union seen (cluster t))) (λ f s p. parsed (more t f) s p) (lo (union seen (cluster t))) (λ f. local_parsed (more t f)))
    ready_after_child false true others seen t lo = ready_tail (λ s p. parsed (last t) s p) (local_parsed (last t))
    ready_after_child false false others seen t lo = ready_unexpected

    local_child : (others : ℕ → List ℕ → ℕ → Answer Forest) (seen : ℕ) (t : Tree) → ((x : ℕ) → Local (others x))
        → Local (λ s p. after_child (next_is 44 (skip s)) (next_is 41 (skip s)) others seen t (skip s) (p + blanks s))
    local_child others seen t lo =
        local_skip (λ s p. after_child (next_is 44 s) (next_is 41 s) others seen t s p)
        (ready_by (next_is 44) (λ b s p. after_child b (next_is 41 s) others seen t s p) (next_is_first 44)
        (λ b. ready_by (next_is 41) (λ c s p. after_child b c others seen t s p) (next_is_first 41) (λ c. ready_after_child b c others seen t lo)))

    local_zero : {A : Type 0} → Local {A = A} (λ s p. refused 0 0)
    local_zero = record {
      past = λ s p at h. absurd (omega arith);
      steady = λ s s' p at agree h. stays;
      keeps = λ s p at x t q h. absurd (refused-parsed h);
    }

    mutual
      unfolding read_node_by read_forest_by

      local_read_node : (k room seen : ℕ) → Local (read_node given k names room seen)
      local_read_node zero room seen = local_zero
      local_read_node (suc k) room seen =
          local_node (λ r x s p. read_node given k names r x s p) (λ r x s p. read_forest given k names r x s p) room seen
          (λ r x. local_read_node k r x) (λ r x. local_read_forest k r x)

      local_read_forest : (k room seen : ℕ) → Local (read_forest given k names room seen)
      local_read_forest zero room seen = local_zero
      local_read_forest (suc k) room seen =
          local_then (read_node given k names room seen)
          (λ t s p. after_child (next_is 44 (skip s)) (next_is 41 (skip s)) (λ x s p. read_forest given k names room x s p) seen t (skip s) (p + blanks s))
          (local_read_node k room seen)
          (λ t. local_child (λ x s p. read_forest given k names room x s p) seen t (λ x. local_read_forest k room x))

    ready_complete : (b : Bool) (t : Tree) → Ready (λ s p. complete b t s p)
    ready_complete true t = ready_tail (λ s p. parsed t s p) (local_parsed t)
    ready_complete false t = ready_refused 9 refl refl

    ready_ended : (b : Bool) (needed : ℕ) (t : Tree) → Ready (λ s p. ended b needed t s p)
    ready_ended true needed t = ready_complete (within needed (cluster t)) t
    ready_ended false needed t = ready_unexpected

    local_read_tree_to : (k most needed : ℕ) → Local (read_tree_to given k names most needed)
    unfolding read_tree_to_by
    local_read_tree_to k most needed =
        local_then (read_node given k names most 0) (λ t s p. ended (next_is 59 (skip s)) needed t (skip s) (p + blanks s)) (local_read_node k most 0)
        (λ t. local_skip (λ s p. ended (next_is 59 s) needed t s p)
        (ready_by (next_is 59) (λ b s p. ended b needed t s p) (next_is_first 59) (λ b. ready_ended b needed t)))

module _ (e : ℕ) (text_at : ℕ → List ℕ) (before : ℕ) (behind : List ℕ) (Label Digits : Type 0)
    (alike : (Label → LabelAlike before behind (text_at e)) × (Digits → DigitsAlike before behind (text_at e))) where
  same_refused : {A : Type 0} {k q : ℕ} {r : Answer A} → Same e text_at before behind Label Digits alike (refused k q) r → r ≡ refused k q
  same_refused stays = refl

-- texts that agree in the n bytes that decide a refusal of the first, and go on alike behind them where that is asked
module _
    (given : Bool) (names : List (List ℕ)) (most needed : ℕ) (s s' : List ℕ) (p n : ℕ) (agree : take n s ≡ take n s') (Label Digits : Type 0)
    (alike : (Label → LabelAlike (byte_before s n) (drop n s') (drop n s)) × (Digits → DigitsAlike (byte_before s n) (drop n s') (drop n s)))
  where
    abbrev text_from : ℕ → List ℕ
    text_from q = drop (q - p) s

    alike_there :
        (Label → LabelAlike (byte_before s n) (drop n s') (text_from (p + n))) × (Digits → DigitsAlike (byte_before s n) (drop n s') (text_from (p + n)))
    alike_there = rw (add-sub_cancel_left p n) alike

    at_start : At (p + n) text_from (byte_before s n) (drop n s') Label Digits alike_there p s
    at_start = record {
      text = λ m. rw (add-sub_cancel_left p m) refl;
      final = λ m l. let k : n ≡ suc m = omega arith in rw k refl;
    }

    agree_start : Agree (p + n) text_from (byte_before s n) (drop n s') Label Digits alike_there p s s'
    agree_start = record {
      front = λ m l. agree_less m n s s' (omega arith) agree;
      rest = λ m l. let k : n ≡ m = omega arith in rw k refl;
    }

    decided-alike :
        (d number : ℕ) → read_tree given names most needed s p ≡ refused number (p + d) → 3 ≤ number → (number ≡ 10 → ⊥) → d + deciding number (drop d s) ≤ n
        → (asks_label number (drop d s) ≡ true → Label) → (number ≡ 18 → Digits) → read_tree given names most needed s' p ≡ refused number (p + d)
    decided-alike d number h low byte decided label digits =
        let k = 2 * length s + 2 * length s' + 1 in
        let h' : read_tree_to given k names most needed s p ≡ refused number (p + d) = never-out given k names most needed s p (omega arith) ∙ h in
        let from = add-sub_cancel_left p d in
        sym (never-out given k names most needed s' p (omega arith))
        ∙ same_refused (p + n) text_from (byte_before s n) (drop n s') Label Digits alike_there
        (rw h' at ((local_read_tree_to (p + n) text_from (byte_before s n) (drop n s') Label Digits alike_there given names k most needed).steady s s' p at_start agree_start
        (rw h' ((rw from (omega arith)), low, byte, (rw from label), digits))))

-- what goes on alike does so as far as any refusal asks
pub alike-asked :
    {number before : ℕ} {t more behind : List ℕ} → GoesOnAlike before more behind → AlikeWhereAsked number t before more behind
alike-asked alike = record { label = λ asked. alike.label; digits = λ is. alike.digits }

-- "Reading goes from the left and stops at the first fault met": whatever follows the bytes that decide a refusal, it stays,
-- where it goes on alike as far as the refusal asks: with a label for 5, 6 and 3 at a quote, with a number for 18
pub locality :
    (given : Bool) (names : List (List ℕ)) (most needed : ℕ) (s s' : List ℕ) (p d number : ℕ)
    → read_tree given names most needed s p ≡ refused number (p + d) → 3 ≤ number → (number ≡ 10 → ⊥)
    → take (border number s d) s' ≡ take (border number s d) s
    → AlikeWhereAsked number (drop d s) (byte_before s (border number s d)) (drop (border number s d) s') (drop (border number s d) s)
    → read_tree given names most needed s' p ≡ refused number (p + d)
locality given names most needed s s' p d number h low byte agree alike =
    decided-alike given names most needed s s' p (border number s d) (sym agree) (asks_label number (drop d s) ≡ true) (number ≡ 18)
    (alike.label, alike.digits) d number h low byte (omega (arith, border-deciding number s d)) (λ asked. asked) (λ is. is)

-- so it does where one byte more is the same
pub locality-further :
    (given : Bool) (names : List (List ℕ)) (most needed : ℕ) (s s' : List ℕ) (p d number : ℕ)
    → read_tree given names most needed s p ≡ refused number (p + d) → 3 ≤ number → (number ≡ 10 → ⊥)
    → take (suc (border number s d)) s' ≡ take (suc (border number s d)) s → read_tree given names most needed s' p ≡ refused number (p + d)
locality-further given names most needed s s' p d number h low byte agree =
    let n = border number s d in
    locality given names most needed s s' p d number h low byte (agree_less n (suc n) s' s (omega arith) agree)
    (alike-asked (further-alike (byte_before s n) n s s' agree))

-- the byte refused by 3 is the last that counts, but for whether a quote follows a closing one
pub border-three : (s : List ℕ) (d : ℕ) → border 3 s d ≡ suc d
unfolding border
border-three s d = refl

-- a support refused by 18 is decided when its number ends
pub border-eighteen : (s : List ℕ) (d : ℕ) → border 18 s d ≡ d + number_length (drop d s)
unfolding border
border-eighteen s d = refl
