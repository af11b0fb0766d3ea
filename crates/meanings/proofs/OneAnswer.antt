-- The meanings alone: for one text at most one number has its meaning at one place, where the fault is the first met.
use Prim.Native.Nat.{ℕ, suc, ◌+◌, ◌-◌, ◌≤◌, ◌<◌}
use mathlib.Core.Path.{◌≡◌, refl, sym, ap, ◌∙◌, subst}
use mathlib.Core.Bool.{Bool, true, false}
use mathlib.Core.List.{List, [], ◌∷◌, ◌++◌, append_assoc, append-nil}
use native.Mathlib.Decide.{dec_le, dec_lt}
use native.Mathlib.Numerals.{add-one}
use native.Mathlib.Omega.{arith}
use borrow.Author.Tests.{lt-ltb, le-ltb}
use lib.ListN.{length, get_or, take, drop, length-append, length-drop, get_or-append}
use lib.Seq.{take-add, take-take, take-append-le, take-append_seam, length-take-le, take-suc, drop-cons, drop-drop, get_or-take, get_or-drop}
use lib.Dec.{ltb}
use Rattle.labels.specs.Bytes.{next_is, next_label}
use Rattle.labels.specs.Labels.{label_bytes, letters, raw_to, Told, told}
use Rattle.labels.proofs.Bytewise.{all_at}
use Rattle.labels.proofs.FaultyLabels.{letter_end, raw_next}
use Rattle.labels.proofs.Spelled.{told_sound}
use Rattle.labels.proofs.LabelFronts.{front-elsewhere}
use Rattle.labels.proofs.FirstBytes.{next_here}
use Rattle.roster.specs.Roster.{position, byte_before}
use Rattle.tokens.specs.Tokens.{number_bytes}
use Rattle.nodes.specs.Grammar.{lifted, loosest, Number}
use Rattle.nodes.specs.Grammar.Blanks.{none}
use Rattle.nodes.specs.Deciding.{border, bytes_of, border_by, GoesOnAlike}
use Rattle.nodes.proofs.Fronts.{number-front, lift_text, loosen-text}
use Rattle.nodes.proofs.Spans.{decimal-length}
use Rattle.nodes.proofs.Locality.{border-eighteen}
use Rattle.meanings.specs.Meaning.{IsText, NodeMayStand, NameMayStand, NumberMayStand, CouldBegin, FirstMet, ByteAt, LongName, LongNumber, LeafAt}
use Rattle.meanings.specs.Meaning.{UnknownName, RepeatedName, SingleChild, TooDeep, Missing, FineSupport, Means}
use Rattle.meanings.specs.Meaning.Means.{stray, long_name, long_number, unknown_name, repeated_name, single_child, too_deep, missing, ends_first, fine_support}
use Rattle.meanings.proofs.Alike.{stops-alike, other_alike}
use Rattle.meanings.proofs.States.{State, onward, from, state, from_append, Open, marked, closing, node-fresh, name_open, number-valued, node-leads, text-ended, over_blanks}
use Rattle.meanings.proofs.States.State.{fresh, closed, valued, in-name, in-number, in-quotes, at-quote, spaced, ended as over, halted}
use Rattle.meanings.proofs.States.Open.{open_fresh, open_closed}
use Rattle.meanings.proofs.MeaningCounts.{differ}
use Rattle.meanings.proofs.KeptRules.{number-splits, number_size}
use Rattle.meanings.proofs.NumberSpans.{fine-decimal, fine-length}
use Rattle.meanings.proofs.MeaningContexts.{ends_apart, lifted_free, name-node, support-number, opening-node}
use Rattle.meanings.proofs.Begun.{is_numeral, number_numerals, tokens, label-within, number-within, LabelPart, ended-part, letters-part, NumberPart, number-part}
use Rattle.meanings.proofs.Begun.NumberPart.{whole_part, point_part}

-- ---- bytes that could stand

clash : {A : Type 0} → ◌≡◌ {A = Bool} true false → A
clash e = absurd (let z : ◌≡◌ {A = ℕ} 0 1 = cc in omega arith)

loosen : {s : List ℕ} → IsText lifted s → IsText loosest s
loosen t = (t.0, t.1, loosen-text 1 t.2)

module _ (s : List ℕ) where
  -- the m bytes behind c, with more and an end behind them, make a text
  could_with :
      (c m : ℕ) (more end : List ℕ) → GoesOnAlike (byte_before s (c + m)) (more ++ end) (drop (c + m) s)
      → IsText lifted (take c s ++ (take m (drop c s) ++ more) ++ end) → CouldBegin s (c + m)
  could_with c m more end alike t =
      let e : take c s ++ (take m (drop c s) ++ more) ++ end ≡ take (c + m) s ++ (more ++ end) =
      rw (take-add c m s) (simp append_assoc)
      in
      record { more = more ++ end; alike = alike; text = loosen (rw e at t) }

  -- a label that has begun
  label-could : (c m : ℕ) → NameMayStand (take c s) → LabelPart (drop c s) m → CouldBegin s (c + m)
  label-could c m may part =
      could_with c m part.more may.end
      (stops-alike (byte_before s (c + m)) (part.more ++ may.end) (drop (c + m) s) (ends_apart part.more may.end part.apart may.apart))
      (may.text (take m (drop c s) ++ part.more) (part.name, _, none, part.spelled))

  -- a name may stand where a node may
  node-name : {u : List ℕ} → NodeMayStand u → NameMayStand u
  node-name may =
      record { end = may.end; apart = may.apart; text = λ v p. may.text v (name-node lifted v [] (lifted_free (length v) 2) p) }

  -- ---- the token that stands open, or ends, at a place

  -- from c on a label or a number goes on up to e
  record Token (c e : ℕ) : Type 0 where
    before : c ≤ e
    begun : tokens (state (take c s)) ≡ false
    goes_on_lem : (i : ℕ) → c < i → i ≤ e → tokens (state (take i s)) ≡ true

  one_token : {c c' e : ℕ} → Token c e → Token c' e → c ≡ c'
  one_token {c} {c'} a b = go (dec_le c c') (dec_le c' c)
    where
      go : Dec (c ≤ c') → Dec (c' ≤ c) → c ≡ c'
      go (yes l) (yes l') = omega arith
      go (no l) h = clash (sym (b.goes_on_lem c (omega arith) a.before) ∙ a.begun)
      go (yes l) (no l') = clash (sym (a.goes_on_lem c' (omega arith) b.before) ∙ b.begun)

  token_at :
      (c m : ℕ) → tokens (state (take c s)) ≡ false → ((j : ℕ) → 1 ≤ j → j ≤ m → tokens (from (state (take c s)) (take j (drop c s))) ≡ true)
      → Token c (c + m)
  token_at c m begun within =
      record {
        before = omega arith;
        begun = begun;
        goes_on_lem = λ i l l'.
            let e : i ≡ c + (i - c) = omega arith in
            let f : state (take i s) ≡ from (state (take c s)) (take (i - c) (drop c s)) =
            ap (λ (k : ℕ). state (take k s)) e ∙ (ap state (take-add c (i - c) s) ∙ from_append fresh (take c s) (take (i - c) (drop c s)))
            in
            ap tokens f ∙ within (i - c) (omega arith) (omega arith);
      }

  -- the first m bytes of what begins at c, with more behind them
  part-take : (c m j : ℕ) (more : List ℕ) → m ≤ length (drop c s) → j ≤ m → take j (take m (drop c s) ++ more) ≡ take j (drop c s)
  part-take c m j more fits l =
      let x = drop c s in
      take-append-le j (take m x) more (omega (arith, length-take-le m x fits)) ∙ take-take j m x l

  part_length : (c m : ℕ) (more : List ℕ) → m ≤ length (drop c s) → m ≤ length (take m (drop c s) ++ more)
  part_length c m more fits = omega (arith, length-append (take m (drop c s)) more, length-take-le m (drop c s) fits)

  open_none : {x : State} → Open x → tokens x ≡ false
  open_none open_fresh = refl
  open_none open_closed = refl

  label_token : (c m : ℕ) → Open (state (take c s)) → LabelPart (drop c s) m → Token c (c + m)
  label_token c m o part =
      token_at c m (open_none o)
      (λ j some l.
      rw (part-take c m j part.more part.fits l) at
      (label-within o part.spelled j some (omega (arith, part_length c m part.more part.fits))))

  number_token :
      (c m : ℕ) (more : List ℕ) {w : List ℕ} → state (take c s) ≡ valued → m ≤ length (drop c s) → Number w (take m (drop c s) ++ more) []
      → Token c (c + m)
  number_token c m more at fits d =
      token_at c m (ap tokens at) (λ j some l. rw at (rw (part-take c m j more fits l) at (number-within d j some)))

-- ---- what is told of a place behind which the fault is decided

-- a number may stand
abbrev values : State → Bool
values fresh = false
values closed = false
values valued = true
values in-name = false
values in-number = false
values in-quotes = false
values at-quote = false
values spaced = false
values over = false
values halted = false

open_no_value : {x : State} → Open x → values x ≡ false
open_no_value open_fresh = refl
open_no_value open_closed = refl

-- the number of a `)`, a `(` or a `;`, by the state behind it
abbrev marks : State → ℕ
marks fresh = 8
marks closed = 7
marks valued = 0
marks in-name = 0
marks in-number = 0
marks in-quotes = 0
marks at-quote = 0
marks spaced = 0
marks over = 9
marks halted = 0

-- by whether a token goes on there, and then whether it is a number, and too long, or a label too long, or a known one; else by the mark that stands before
abbrev number_by : Bool → ℕ → Bool → Bool → Bool → Bool → ℕ
number_by false mark value many long known = mark
number_by true mark true true long known = 4
number_by true mark true false long known = 18
number_by true mark false many true known = 4
number_by true mark false many false true = 6
number_by true mark false many false false = 5

abbrev place_by : Bool → ℕ → Bool → Bool → Bool → ℕ → ℕ → ℕ
place_by false e value many long c raw = e - 1
place_by true e true true long c raw = c + 12
place_by true e true false long c raw = c
place_by true e false many true c raw = c + raw
place_by true e false many false c raw = c

module _ (given : Bool) (names : List (List ℕ)) (s : List ℕ) where
  -- the number at the border e, of a token that begins at c
  number_at : ℕ → ℕ → ℕ
  number_at e c =
      number_by (tokens (state (take e s))) (marks (state (take e s))) (values (state (take c s))) (ltb number_bytes (e - c))
      (ltb label_bytes (length (letters (drop c s)))) (ltb (position (letters (drop c s)) names) (length names))

  place_at : ℕ → ℕ → ℕ
  place_at e c =
      place_by (tokens (state (take e s))) e (values (state (take c s))) (ltb number_bytes (e - c)) (ltb label_bytes (length (letters (drop c s)))) c
      (raw_to label_bytes (drop c s))

  -- a refusal that is decided by the bytes before e
  data Verdict (e : ℕ) : ℕ → ℕ → Type 0 where
    no_text : {d : ℕ} → e ≡ suc d → d < length s → (CouldBegin s e → ⊥) → Verdict e 3 d
    told_by :
        {n d : ℕ} (c : ℕ) → CouldBegin s e → e ≤ length s → (tokens (state (take e s)) ≡ true → Token s c e) → number_at e c ≡ n → place_at e c ≡ d
        → Verdict e n d
    beyond : {d : ℕ} → e ≡ suc d → d ≡ length s → Verdict e 10 d

  -- what is told of a token depends on where it begins, and that is one place
  one_told :
      (e c c' : ℕ) (t : Bool) → tokens (state (take e s)) ≡ t → (tokens (state (take e s)) ≡ true → Token s c e)
      → (tokens (state (take e s)) ≡ true → Token s c' e) → (number_at e c ≡ number_at e c') × (place_at e c ≡ place_at e c')
  unfolding number_at place_at
  one_told e c c' true is a b = let h = one_token s (a is) (b is) in rw h (refl, refl)
  one_told e c c' false is a b = rw is (refl, refl)

  one_verdict : {e n n' d d' : ℕ} → Verdict e n d → Verdict e n' d' → (n ≡ n') × (d ≡ d')
  one_verdict (no_text a l f) (no_text a' l' f') = (refl, omega arith)
  one_verdict (no_text a l f) (told_by c could l' t n d) = absurd (f could)
  one_verdict (no_text a l f) (beyond a' b) = absurd (omega arith)
  one_verdict (told_by c could l t n d) (no_text a l' f) = absurd (f could)
  one_verdict {e} (told_by c could l t n d) (told_by c' could' l' t' n' d') =
      let h = one_told e c c' (tokens (state (take e s))) refl t t' in
      (sym n ∙ (h.0 ∙ n'), sym d ∙ (h.1 ∙ d'))
  one_verdict (told_by c could l t n d) (beyond a b) = absurd (omega arith)
  one_verdict (beyond a b) (no_text a' l f) = absurd (omega arith)
  one_verdict (beyond a b) (told_by c could l t n d) = absurd (omega arith)
  one_verdict (beyond a b) (beyond a' b') = (refl, omega arith)

  -- ---- each meaning has its verdict

  -- a label that has begun at c, m bytes of it before the border
  label-verdict :
      (c m : ℕ) {n d : ℕ} (long known : Bool) → NameMayStand (take c s) → LabelPart (drop c s) m
      → ltb label_bytes (length (letters (drop c s))) ≡ long → ltb (position (letters (drop c s)) names) (length names) ≡ known
      → ((many : Bool) → number_by true (marks (state (take (c + m) s))) false many long known ≡ n)
      → ((many : Bool) → place_by true (c + m) false many long c (raw_to label_bytes (drop c s)) ≡ d) → Verdict (c + m) n d
  unfolding number_at place_at
  label-verdict c m {n} {d} long known may part l k is at =
      let o = name_open may in
      let t = label_token s c m o part in
      let go : tokens (state (take (c + m) s)) ≡ true = t.goes_on_lem (c + m) (omega (arith, part.some)) (omega arith) in
      let v = open_no_value o in
      told_by {n = n} {d = d} c (label-could s c m may part) (omega (arith, part.fits, part.some, length-drop c s)) (λ h. t)
      (rw (go, v, l, k) (is (ltb number_bytes (c + m - c)))) (rw (go, v, l) (at (ltb number_bytes (c + m - c))))

  long-name-verdict : {d : ℕ} → LongName s d → Verdict (border 4 s d) 4 d
  unfolding border
  long-name-verdict {d} r =
      let c = r.c in
      let x = drop c s in
      let raw = raw_to label_bytes x in
      let e : border_by false false (next_is 39 (drop d s)) d s ≡ c + raw_to 16 x =
      ap (λ (k : ℕ). border_by false false (next_is 39 (drop k s)) k s) r.sixteenth
      ∙ (ap (λ (l : List ℕ). border_by false false (next_is 39 l) (c + raw) s) (sym (drop-drop raw c s))
      ∙ (shifted (next_is 39 (drop raw x)) c raw ∙ ap (λ (k : ℕ). c + k) (sym (raw_next x label_bytes r.long))))
      in
      subst (λ (k : ℕ). Verdict k 4 d) (sym e)
      (label-verdict c (raw_to 16 x) true (ltb (position (letters x) names) (length names)) r.allowed (letters-part x 16 (omega arith) r.long)
      (lt-ltb label_bytes (length (letters x)) r.long) refl (λ many. refl) (λ many. sym r.sixteenth))
    where
      shifted : (t : Bool) (c k : ℕ) → border_by false false t (c + k) s ≡ c + letter_end t k
      shifted true c k = omega arith
      shifted false c k = omega arith

  -- a leaf's label, which has ended
  leaf-verdict : (known : Bool) {n d : ℕ} (l : LeafAt s d) → ltb (position (letters (drop d s)) names) (length names) ≡ known
      → ((many : Bool) → number_by true (marks (state (take (d + l.bytes) s))) false many false known ≡ n) → Verdict (d + bytes_of (told (drop d s))) n d
  leaf-verdict known {n} {d} l k is =
      let x = drop d s in
      let short = (told_sound x l.bytes l.begins l.ends).short in
      let e : d + bytes_of (told x) ≡ d + l.bytes = ap (λ (t : Told). d + bytes_of t) l.ends in
      subst (λ (k : ℕ). Verdict k n d) (sym e)
      (label-verdict d l.bytes false known (node-name s l.allowed) (ended-part x l.bytes l.begins l.ends)
      (le-ltb label_bytes (length (letters x)) short) k is (λ many. refl))

  unknown-verdict : {d : ℕ} → UnknownName names s d → Verdict (border 5 s d) 5 d
  unfolding border
  unknown-verdict {d} r = leaf-verdict false r.leaf (le-ltb (position (letters (drop d s)) names) (length names) (omega (arith, r.unknown))) (λ many. refl)

  repeated-verdict : {d : ℕ} → RepeatedName names s d → Verdict (border 6 s d) 6 d
  unfolding border
  repeated-verdict {d} r = leaf-verdict true r.leaf (lt-ltb (position (letters (drop d s)) names) (length names) r.known) (λ many. refl)

  -- thirteen bytes of a number, which begins at c
  module _ {d : ℕ} (r : LongNumber s d) where
    digits : List ℕ
    digits = take 13 (drop r.c s)

    thirteen : 13 ≤ length (drop r.c s)
    thirteen = omega (arith, length-drop r.c s, r.inside, r.thirteenth)

    thirteen-length : length digits ≡ 13
    unfolding digits
    thirteen-length = length-take-le 13 (drop r.c s) thirteen

    -- its last byte
    last_byte : get_or digits 12 0 ≡ get_or s d 0
    unfolding digits
    last_byte =
        get_or-take 13 (drop r.c s) 12 0 (omega arith) ∙ (get_or-drop r.c s 12 0 ∙ ap (λ (k : ℕ). get_or s k 0) (sym r.thirteenth))

    last_numeral : is_numeral (get_or s d 0) ≡ true
    unfolding digits
    last_numeral =
        let v = digits in
        let n = thirteen-length in
        let all = number_numerals r.all_number in
        let at : get_or (v ++ r.more) 12 0 ≡ get_or s d 0 = get_or-append v r.more 0 12 (omega arith) ∙ last_byte in
        rw at at (all_at all 12 (omega (arith, length-append v r.more)))

    number-border : border 4 s d ≡ r.c + 13
    unfolding border
    number-border =
        let e : next_is 39 (drop d s) ≡ false = next_here 39 s d r.inside ∙ differ is_numeral 39 (get_or s d 0) refl last_numeral in
        rw e (omega (arith, r.thirteenth))

    number-could : CouldBegin s (r.c + 13)
    unfolding digits
    number-could = by (number-part digits r.more (omega (arith, thirteen-length)) r.all_number)
      where
        by : NumberPart digits → CouldBegin s (r.c + 13)
        by (whole_part n) =
            could_with s r.c 13 [] r.allowed.end (stops-alike _ r.allowed.end _ r.allowed.apart)
            (r.allowed.text (digits ++ []) (rw append-nil (digits, digits, none, n)))
        by (point_part k l point) =
            let e : k ≡ 12 = omega (arith, thirteen-length) in
            let next : r.c + 13 ≡ suc d = omega (arith, r.thirteenth) in
            let at : byte_before s (r.c + 13) ≡ 46 =
            ap (byte_before s) next ∙ (sym last_byte ∙ (ap (λ (k : ℕ). get_or digits k 0) (sym e) ∙ point))
            in
            could_with s r.c 13 r.more r.allowed.end (other_alike _ _ _ (rw at refl) (rw at refl))
            (r.allowed.text (digits ++ r.more) (_, _, none, r.all_number))

    long-number-verdict : Verdict (border 4 s d) 4 d
    unfolding number_at place_at digits
    long-number-verdict =
        let at = number-valued r.allowed in
        let t = number_token s r.c 13 r.more at thirteen r.all_number in
        let go : tokens (state (take (r.c + 13) s)) ≡ true = t.goes_on_lem (r.c + 13) (omega arith) (omega arith) in
        let many : ltb number_bytes (r.c + 13 - r.c) ≡ true = lt-ltb number_bytes (r.c + 13 - r.c) (omega arith) in
        subst (λ (k : ℕ). Verdict k 4 d) (sym number-border)
        (told_by {n = 4} {d = d} r.c number-could (omega (arith, thirteen, length-drop r.c s)) (λ h. t) (rw (go, at, many) refl)
        (rw (go, at, many) (sym r.thirteenth)))

  -- a support, whose number has ended
  module _ {d : ℕ} (r : FineSupport s d) where
    abbrev size : ℕ
    size = length r.bytes

    may : NumberMayStand (take d s)
    may = support-number r.allowed

    support-border : border 18 s d ≡ d + size
    support-border = border-eighteen s d ∙ ap (λ (k : ℕ). d + k) (fine-length r.number r.ends r.fine)

    fits : size ≤ length (drop d s)
    fits = omega (arith, number_size r.number)

    some : 1 ≤ size
    some = omega (arith, decimal-length (fine-decimal r.number r.fine), fine-length r.number r.ends r.fine)

    whole_number : Number r.bytes (take size (drop d s) ++ []) []
    whole_number =
        let b = r.bytes in
        let split : drop d s ≡ b ++ r.rest = number-splits r.number in
        let front : take (length b) (drop d s) ≡ b = ap (take (length b)) split ∙ take-append_seam b r.rest in
        rw front (front-elsewhere (Number b) b r.rest [] (number-front (subst (λ (l : List ℕ). Number b l r.rest) split r.number)))

    fine-verdict : Verdict (border 18 s d) 18 d
    unfolding number_at place_at
    fine-verdict =
        let at = number-valued may in
        let t = number_token s d size [] at fits whole_number in
        let go : tokens (state (take (d + size) s)) ≡ true = t.goes_on_lem (d + size) (omega (arith, some)) (omega arith) in
        let few : ltb number_bytes (d + size - d) ≡ false = le-ltb number_bytes (d + size - d) (omega (arith, r.short)) in
        let text = may.text (take size (drop d s) ++ []) (_, _, none, whole_number) in
        let could = could_with s d size [] may.end (stops-alike _ may.end _ may.apart) text in
        subst (λ (k : ℕ). Verdict k 18 d) (sym support-border)
        (told_by {n = 18} {d = d} d could (omega (arith, fits, some, length-drop d s)) (λ h. t) (rw (go, at, few) refl) (rw (go, at, few) refl))

  -- `)`, `(` or `;`
  mark_verdict : {n d : ℕ} (x : State) → d < length s → CouldBegin s (suc d) → state (take (suc d) s) ≡ x → tokens x ≡ false → marks x ≡ n → Verdict (suc d) n d
  unfolding number_at place_at
  mark_verdict {n} {d} x within could at outside is =
      told_by {n = n} {d = d} 0 could within (λ h. clash (sym h ∙ (ap tokens at ∙ outside))) (rw (at, outside) is) (rw (at, outside) (omega arith))

  -- one more byte
  state-byte : (b : ℕ) {d : ℕ} {x : State} → ByteAt s d b → state (take d s) ≡ x → state (take (suc d) s) ≡ onward x b
  unfolding from
  state-byte b {d} {x} at is = rw (take-suc s d 0 at.0, at.1, from_append fresh (take d s) (b ∷ []), is) refl

  -- behind a `)` that closes a single child
  single-state : {d : ℕ} → SingleChild s d → state (take (suc d) s) ≡ closed
  unfolding from
  single-state {d} r =
      let a = node-leads r.one in
      let b = over_blanks a.over r.gap in
      let e : state (take d s) ≡ b.to =
      ap state r.opened
      ∙ (from_append fresh r.before (40 ∷ r.within) ∙ (ap (λ (x : State). from x (40 ∷ r.within)) (node-fresh r.allowed) ∙ (a.leads ∙ b.leads)))
      in
      state-byte 41 r.closes e ∙ marked 41 closing b.over

  single-verdict : {d : ℕ} → SingleChild s d → Verdict (border 7 s d) 7 d
  unfolding border
  single-verdict r = mark_verdict closed r.closes.0 r.could (single-state r) refl refl

  deep_verdict : {most d : ℕ} → TooDeep most s d → Verdict (border 8 s d) 8 d
  unfolding border
  deep_verdict {d = d} r =
      let may = r.allowed in
      let y : List ℕ = 97 ∷ 44 ∷ 97 ∷ 41 ∷ [] in
      let byte : take 1 (drop d s) ≡ 40 ∷ [] = rw (drop-cons s d 0 r.opening.0, r.opening.1) refl in
      let before : byte_before s (d + 1) ≡ 40 = ap (byte_before s) (add-one d) ∙ r.opening.1 in
      let could = could_with s d 1 y may.end (other_alike _ _ _ (rw before refl) (rw before refl)) (rw byte (may.text (40 ∷ y) opening-node)) in
      mark_verdict fresh r.opening.0 (rw add-one at could) (state-byte 40 r.opening (node-fresh may)) refl refl

  missing-verdict : {most needed d : ℕ} → Missing given names most needed s d → Verdict (border 9 s d) 9 d
  unfolding border next_label
  missing-verdict {most = most} {d = d} r =
      let t = loosen (most, r.tree, lift_text given names r.drawn) in
      let could : CouldBegin s (suc d) = record { more = []; alike = stops-alike _ [] _ refl; text = rw append-nil t } in
      mark_verdict over r.ends.0 could (text-ended r.drawn) refl refl

  -- where a number has its meaning
  verdict : {most needed n d : ℕ} → Means given names most needed s d n → Verdict (border n s d) n d
  unfolding border
  verdict (stray r) = no_text refl r.inside r.not_allowed
  verdict (long_name r) = long-name-verdict r
  verdict (long_number r) = long-number-verdict r
  verdict (unknown_name r) = unknown-verdict r
  verdict (repeated_name r) = repeated-verdict r
  verdict (single_child r) = single-verdict r
  verdict (too_deep r) = deep_verdict r
  verdict (missing r) = missing-verdict r
  verdict (ends_first r) = beyond refl r.end
  verdict (fine_support is r) = fine-verdict r

-- but for 10, the bytes that decide are bytes of the text
pub border-within :
    (given : Bool) {names : List (List ℕ)} {most needed : ℕ} {s : List ℕ} {n d : ℕ} → Means given names most needed s d n → (n ≡ 10 → ⊥) → border n s d ≤ length s
border-within given {names} {s = s} m other = by (verdict given names s m) other
  where
    by : {e n d : ℕ} → Verdict given names s e n d → (n ≡ 10 → ⊥) → e ≤ length s
    by (no_text a l f) h = omega arith
    by (told_by c could l t n d) h = l
    by (beyond a b) h = absurd (h refl)

-- ---- the first fault met

-- the border behind which something is at fault is one
one_border : (given : Bool) {names : List (List ℕ)} {most : ℕ} {s : List ℕ} {e e' : ℕ} → FirstMet given names most s e → FirstMet given names most s e' → e ≡ e'
one_border given {e = e} {e' = e'} a b = go (dec_lt e e') (dec_lt e' e)
  where
    go : Dec (e < e') → Dec (e' < e) → e ≡ e'
    go (yes l) h = absurd (a.lost (b.kept e l))
    go (no l) (yes h) = absurd (b.lost (a.kept e' h))
    go (no l) (no h) = omega arith

-- behind the end of a text only 9 has a meaning
pub ended-nine :
    (given : Bool) {names : List (List ℕ)} {most needed : ℕ} {s : List ℕ} {n d : ℕ}
    → Means given names most needed s d n → CouldBegin s (border n s d) → border n s d ≤ length s → state (take (border n s d) s) ≡ over → n ≡ 9
unfolding number_at
ended-nine given {names} {s = s} m could l ends = by (verdict given names s m) could l ends
  where
    by : {e n d : ℕ} → Verdict given names s e n d → CouldBegin s e → e ≤ length s → state (take e s) ≡ over → n ≡ 9
    by (no_text a l f) could within ends = absurd (f could)
    by (told_by c could l t is at) could' within ends = sym is ∙ rw ends refl
    by (beyond a b) could within ends = absurd (omega arith)

-- for one text at most one number has its meaning, and at one place
pub one_answer :
    (given : Bool) {names : List (List ℕ)} {most needed : ℕ} {s : List ℕ} {n n' d d' : ℕ}
    → Means given names most needed s d n → FirstMet given names most s (border n s d) → Means given names most needed s d' n' → FirstMet given names most s (border n' s d')
    → (n ≡ n') × (d ≡ d')
one_answer given {names} {s = s} {n' = n'} {d' = d'} m f m' f' =
    let e = one_border given f f' in
    one_verdict given names s (verdict given names s m) (subst (λ (k : ℕ). Verdict given names s k n' d') (sym e) (verdict given names s m'))
