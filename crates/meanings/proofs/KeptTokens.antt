-- A refused name, number or support: nothing is at fault before the last of the bytes that decide it.
use Prim.Native.Nat.{ℕ, suc, ◌+◌, ◌-◌, ◌≤◌}
use native.Mathlib.Omega.{arith}
use mathlib.Core.Path.{◌≡◌, refl, ap, ◌∙◌}
use mathlib.Core.Logic.{⊎_elim}
use mathlib.Core.Bool.{Bool, true, false, ◌||◌}
use mathlib.Core.List.{List, [], ◌∷◌, ◌++◌, append_assoc}
use lib.ListN.{length, take, drop, length-append, length-take, length-drop}
use lib.Seq.{take-add}
use lib.Dec.{eqb}
use Rattle.faults.specs.Faults.{number as fault_number}
use Rattle.faults.specs.declared.Fault.{Fault}
use Rattle.labels.specs.Bytes.{next_is, next_label}
use Rattle.labels.specs.Labels.{label_bytes, raw_to, Told, told}
use Rattle.labels.specs.Labels.Told.{ended, faulty}
use Rattle.labels.proofs.FaultyLabels.{AtFault, told-fault}
use Rattle.labels.proofs.FaultyLabels.AtFault.{long, stray, empty, unclosed}
use Rattle.labels.proofs.Spelled.{told_sound}
use Rattle.labels.proofs.LabelFronts.{Front}
use Rattle.labels.proofs.OpenLabels.{Open, fault_open, sixteenth_open, ended_open}
use Rattle.trees.specs.Tree.{Tree, Forest}
use Rattle.trees.specs.Tree.Tree.{node}
use Rattle.roster.specs.Roster.{byte_before}
use Rattle.tokens.specs.Answers.{and_then}
use Rattle.tokens.specs.Answers.Answer.{parsed, refused}
use Rattle.tokens.specs.Tokens.{number_bytes, skip, number, number_behind, name_by, name, inner_name_by, inner_name}
use Rattle.tokens.specs.Supports.{supported}
use Rattle.nodes.specs.Reading.{closing, closing_by}
use Rattle.nodes.specs.Grammar.{strict, Blanks, ColonNumber, Inner}
use Rattle.nodes.specs.Deciding.{border}
use Rattle.nodes.proofs.Answers.{Reached, parsed-refused, and_then-refused, unexpected-refused}
use Rattle.nodes.proofs.Fronts.{Then, BlanksAnd}
use Rattle.nodes.proofs.Spans.{run-le_span, span_length, number-spanned}
use Rattle.nodes.proofs.Locality.{border-deciding}
use Rattle.meanings.specs.Meaning.{Kept}
use Rattle.meanings.proofs.Alike.{other_alike}
use Rattle.meanings.proofs.KeptRules.{goes_on_itself}
use Rattle.meanings.proofs.ReadingSteps.{step_skip, step-inner, SupportRefused, BehindRefused, supported-refused, Stands, stands_on}
use Rattle.meanings.proofs.ReadingSteps.BehindRefused.{behind_colon, behind_colons, behind_distance}
use Rattle.meanings.proofs.KeptContexts.{MayFollow, NumbersIn, ClosingIn, NameIn, NumberIn, stand_on, closing-name, closing-numbers, blanks-number, colon-number, colons-number}
use Rattle.meanings.proofs.KeptContexts.{second_number_lem}
use Rattle.meanings.proofs.KeptPlaces.{number-kept, open_name_kept, number_here}
use Rattle.meanings.proofs.OpenNumbers.{OpenNumber, OpenPoint, NumberFault, number-fault, number_open}
use Rattle.meanings.proofs.OpenNumbers.NumberFault.{too_long, none_yet, pointed_only}
use Rattle.meanings.proofs.KeptTill.{byte_left, border-byte, border-four, KeptTill, till_at, byte-till, unexpected-till}

-- the label at the front of s, refused by this number f bytes on, is open before the last of the bytes that decide it
pub record OpenTill (n : ℕ) (s : List ℕ) (f : ℕ) : Type 0 where
  pub some : 1 ≤ border n s f
  pub label : Open s (border n s f - 1)

open_byte : (n : ℕ) (s : List ℕ) (f : ℕ) → border n s f ≡ suc f → Open s f → OpenTill n s f
open_byte n s f is o =
    let here : border n s f - 1 ≡ f = omega arith in
    record { some = omega arith; label = rw here o }

pub fault-till : {fault : Fault} {s : List ℕ} {f : ℕ} → AtFault s fault f → OpenTill (fault_number fault) s f
fault-till {s = s} (long l) = by (next_is 39 (drop (raw_to label_bytes s) s)) refl
  where
    by : (t : Bool) → next_is 39 (drop (raw_to label_bytes s) s) ≡ t → OpenTill 4 s (raw_to label_bytes s)
    by false is = open_byte 4 s (raw_to label_bytes s) (border-four s (raw_to label_bytes s) false is) (fault_open (long l))
    by true is =
        let f = raw_to label_bytes s in
        let two = border-four s f true is in
        let half : border 4 s f - 1 ≡ suc f = omega arith in
        record { some = omega arith; label = rw half (sixteenth_open s l is) }
fault-till {s = s} {f = f} (stray w b rest split all short other) =
    open_byte 3 s f (border-byte 3 s f refl refl refl) (fault_open (stray w b rest split all short other))
fault-till {s = s} {f = f} (empty rest split over) = open_byte 3 s f (border-byte 3 s f refl refl refl) (fault_open (empty rest split over))
fault-till {s = s} {f = f} (unclosed w split all short) = open_byte 10 s f (border-byte 10 s f refl refl refl) (fault_open (unclosed w split all short))

-- a leaf's label that ends, refused by 5 or 6 at its first byte
pub ended-till : (n : ℕ) (s : List ℕ) (r : ℕ) → (eqb n 5 || eqb n 6) ≡ true → next_label s ≡ true → told s ≡ ended r → OpenTill n s 0
unfolding border
ended-till n s r judged is e =
    let all : border n s 0 ≡ r = rw (judged, e) (omega arith) in
    record { some = omega (arith, (told_sound s r is e).some); label = rw all (ended_open s r is e) }

module _ (given : Bool) {names : List (List ℕ)} {most : ℕ} {s₀ : List ℕ} {p₀ : ℕ} where
  -- a label at fault, or a leaf's that is judged: where an open one is kept
  pub label-till :
      {u s : List ℕ} {p n q : ℕ} (f : ℕ) → Stands s₀ p₀ u s p → ((j : ℕ) → Open s j → Kept given names most s₀ (length u + j)) → OpenTill n s f → q ≡ p + f
      → KeptTill given names most s₀ p₀ n q
  label-till {s = s} {n = n} f st kept o at = till_at given f st at o.some (kept (border n s f - 1) o.label)

  pub name-till :
      {u s : List ℕ} {p n q : ℕ} → Stands s₀ p₀ u s p → ((j : ℕ) → Open s j → Kept given names most s₀ (length u + j)) → name s p ≡ refused n q
      → KeptTill given names most s₀ p₀ n q
  unfolding name
  name-till {u} {s} {p} {n} {q} st kept h = by (told s) refl h
    where
      by : (t : Told) → told s ≡ t → name_by t s p ≡ refused n q → KeptTill given names most s₀ p₀ n q
      by (ended r) e h = absurd (parsed-refused h)
      by (faulty fault f) e h =
          let same : fault_number fault ≡ n = cc in
          label-till f st kept (rw same at (fault-till (told-fault s fault f e))) (cc)

  -- ---- numbers

  module _ {u s : List ℕ} {p : ℕ} (st : Stands s₀ p₀ u s p) (may : MayFollow given names most (NumberIn given) u) where
    -- a number that is open one byte further on: that byte goes on with it
    inside-kept : (j : ℕ) → OpenNumber s (suc j) → j ≤ number_bytes → Kept given names most s₀ (length u + j)
    inside-kept j o short =
        let byte = take 1 (drop j s) in
        let with_more : suc j ≡ j + 1 = omega arith in
        let bytes : take (suc j) s ≡ take j s ++ byte = ap (λ (n : ℕ). take n s) with_more ∙ take-add j 1 s in
        let behind : 1 ≤ length (drop j s) = simp length-drop (omega (arith, o.within)) in
        number-kept given names st.left may j o.word (byte ++ o.end) (simp (length-append, length-take) (omega arith)) (omega (arith, o.within)) short
        (λ rest. rw (append_assoc byte o.end rest, ← append_assoc (take j s) byte (o.end ++ rest), ← bytes) (o.derives rest))
        (rw (append_assoc byte o.end may.end) (goes_on_itself (byte_before s₀ (length u + j)) 0 (drop j s) (o.end ++ may.end) behind))

    -- a number whose last byte before the place is its point
    point-kept : (j : ℕ) → OpenPoint s j → j ≤ number_bytes → Kept given names most s₀ (length u + j)
    point-kept j o short =
        number-kept given names st.left may j o.word (48 ∷ []) (omega arith) o.within short o.derives
        (rw (byte_left j o.some st.left, o.point) (other_alike 46 (48 ∷ may.end) (drop j s) refl refl))

    number-till : {n q : ℕ} → number s p ≡ refused n q → KeptTill given names most s₀ p₀ n q
    number-till {n} {q} h = by (number-fault s p h)
      where
        by : NumberFault s p n q → KeptTill given names most s₀ p₀ n q
        by (too_long o other four at) =
            rw four (byte-till given number_bytes st at (border-four s number_bytes false other) (inside-kept number_bytes o (omega arith)))
        by (none_yet e) = unexpected-till given st (List ℕ) (number_here given names may) e
        by (pointed_only j o short e) =
            ⊎_elim (λ r. rw r.number (byte-till given j st r.place (border-byte 10 s j refl refl refl) (point-kept j o short)))
            (λ r. rw r.number (byte-till given j st r.place (border-byte 3 s j refl refl refl) (point-kept j o short)))
            (unexpected-refused (drop j s) (p + j) e)

    -- a number that is read, refused by 18 at its first byte
    judged-number-till : {w rest : List ℕ} {r : ℕ} → number s p ≡ parsed w rest r → KeptTill given names most s₀ p₀ 18 (r - length w)
    judged-number-till {w} {r = r} h =
        let spanned = number-spanned s p h in
        let all = border-deciding 18 s 0 in
        let some : 1 ≤ length w = omega (arith, run-le_span s, span_length s spanned.some, spanned.some, spanned.size) in
        let last : border 18 s 0 - 1 ≡ length w - 1 = omega (arith, spanned.size) in
        let whole : length w ≡ suc (length w - 1) = omega arith in
        till_at given 0 st (omega (arith, spanned.place, spanned.size)) (omega (arith, spanned.size))
        (rw last (inside-kept (length w - 1) (rw whole at (number_open s p h)) (omega (arith, spanned.short, spanned.size))))

  -- the same behind blanks
  module _ {u s : List ℕ} {p : ℕ} (st : Stands s₀ p₀ u s p) (may : MayFollow given names most (NumberIn given) u) where
    gap_may : MayFollow given names most (NumberIn given) (u ++ (step_skip s p).front.bytes)
    gap_may = stand_on given names (NumberIn given) (NumberIn given) Blanks (blanks-number given names) may (step_skip s p).front

    number_behind-till : {n q : ℕ} → number_behind s p ≡ refused n q → KeptTill given names most s₀ p₀ n q
    unfolding number_behind
    number_behind-till h = number-till (stands_on st (step_skip s p)) gap_may h

    judged-behind-till : {w rest : List ℕ} {r : ℕ} → number_behind s p ≡ parsed w rest r → KeptTill given names most s₀ p₀ 18 (r - length w)
    unfolding number_behind
    judged-behind-till h = judged-number-till (stands_on st (step_skip s p)) gap_may h

  -- the support of a node
  support-till :
      {u s : List ℕ} {p n q : ℕ} → Stands s₀ p₀ u s p → MayFollow given names most (NumberIn given) u → SupportRefused given s p n q
      → KeptTill given names most s₀ p₀ n q
  support-till st may r =
      ⊎_elim (λ e. number_behind-till st may e) (λ f. rw (f.number, f.place) (judged-behind-till st may f.read)) r

  -- what stands behind a node, refused for a number, or by 18 for its support
  pub supported-till :
      {u s : List ℕ} {p n q : ℕ} (w : List ℕ) → Stands s₀ p₀ u s p → MayFollow given names most (NumbersIn given names) u → supported given w s p ≡ refused n q
      → KeptTill given names most s₀ p₀ n q
  supported-till {u = u} {s = s} {p = p} {n = n} {q = q} w st may h = by (supported-refused given names w s p h)
    where
      number_may :
          (X : List ℕ → List ℕ → Type 0) {rest : List ℕ}
          → ((m : ℕ) (s v rest : List ℕ) → X s v → NumberIn given m v rest → NumbersIn given names m s rest) → (f : Front X s rest)
          → MayFollow given names most (NumberIn given) (u ++ f.bytes)
      number_may X made f = stand_on given names (NumbersIn given names) (NumberIn given) X made may f

      by : BehindRefused given names s p n q → KeptTill given names most s₀ p₀ n q
      by (behind_colon x e) = number_behind-till (stands_on st x) (number_may (BlanksAnd 58) (colon-number given names) x.front) e
      by (behind_colons x r) =
          support-till (stands_on st x) (number_may (Then (BlanksAnd 58) (BlanksAnd 58)) (colons-number given names) x.front) r
      by (behind_distance d x r) =
          support-till (stands_on st x)
          (number_may (Then (ColonNumber (strict given names).distance d) (BlanksAnd 58)) (second_number_lem given names d) x.front) r

  -- ---- behind a closing parenthesis

  inner_name-till :
      {u s : List ℕ} {p n q : ℕ} → Stands s₀ p₀ u s p → MayFollow given names most (ClosingIn given names) u → inner_name s p ≡ refused n q → KeptTill given names most s₀ p₀ n q
  unfolding inner_name
  inner_name-till {u} {s} {p} {n} {q} st may h = by (next_label (skip s)) h
    where
      by : (t : Bool) → inner_name_by t s p ≡ refused n q → KeptTill given names most s₀ p₀ n q
      by false h = absurd (parsed-refused h)
      by true h =
          let x = step_skip s p in
          let there = stands_on st x in
          let may-name = stand_on given names (ClosingIn given names) (NameIn names) Blanks (closing-name given names) may x.front in
          name-till there (λ j o. open_name_kept given names there.left may-name o) h

  pub closing-till :
      {u s : List ℕ} {p n q : ℕ} (t : Tree) (f : Forest) → Stands s₀ p₀ u s p → MayFollow given names most (ClosingIn given names) u
      → closing given t f s p ≡ refused n q → KeptTill given names most s₀ p₀ n q
  unfolding closing_by
  closing-till {u} {s} {p} {n} {q} t f st may h =
      ⊎_elim (λ e. inner_name-till st may e) named
      (and_then-refused (inner_name s p) (λ w s p. and_then (supported given w s p) (λ b s p. parsed (node t f b) s p)) h)
    where
      named : Reached (inner_name s p) (λ w s p. and_then (supported given w s p) (λ b s p. parsed (node t f b) s p)) (refused n q) → KeptTill given names most s₀ p₀ n q
      named r =
          let w = r.value in
          let x = step-inner given names s p r.first in
          ⊎_elim
          (λ e.
          supported-till w (stands_on st x)
          (stand_on given names (ClosingIn given names) (NumbersIn given names) (Inner (strict given names) w) (closing-numbers given names w) may x.front) e)
          (λ a. absurd (parsed-refused a.after))
          (and_then-refused (supported given w r.left r.place) (λ b s p. parsed (node t f b) s p) r.after)
