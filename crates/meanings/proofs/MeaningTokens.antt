-- What a refused token says of the text: the meaning of a refusal met in a name or a number.
use Prim.Native.Nat.{ℕ, suc, ◌+◌, ◌-◌, ◌≤◌, ◌<◌, zero-le}
use mathlib.Core.Path.{◌≡◌, refl, sym, ap, ◌∙◌, subst}
use mathlib.Core.Logic.{⊎_elim}
use mathlib.Core.Bool.{Bool, true, false, false≢true}
use mathlib.Core.List.{List, [], ◌∷◌, ◌++◌, append-nil}
use native.Mathlib.Omega.{arith}
use lib.ListN.{length, take, drop, length-append, length-drop}
use lib.Seq.{drop-drop}
use Rattle.faults.specs.Faults.{number as fault_number}
use Rattle.faults.specs.declared.Fault.{Fault}
use Rattle.labels.specs.Bytes.{is_digit, one_more, run, next_label}
use Rattle.labels.specs.Labels.{label_bytes, doubled, raw_to, Told, told}
use Rattle.labels.specs.Labels.Told.{ended, faulty}
use Rattle.labels.proofs.FaultyLabels.{AtFault, told-fault}
use Rattle.labels.proofs.FaultyLabels.AtFault.{long as long-in, stray as stray-in, empty, unclosed}
use Rattle.trees.specs.Tree.{Tree, Forest}
use Rattle.trees.specs.Tree.Tree.{node}
use Rattle.tokens.specs.Answers.{Answer, and_then, unexpected}
use Rattle.tokens.specs.Answers.Answer.{parsed, refused}
use Rattle.tokens.specs.Tokens.{number_bytes, skip, number, number_behind, name_by, name, inner_name_by, inner_name}
use Rattle.tokens.specs.Values.{too_fine}
use Rattle.tokens.specs.Supports.{refuses_fine, supported}
use Rattle.nodes.specs.Reading.{closing, closing_by}
use Rattle.nodes.specs.Grammar.{lifted, Blanks, Number, Inner}
use Rattle.nodes.specs.Deciding.{next_digit, number_length}
use Rattle.nodes.proofs.Answers.{Reached, parsed-refused, and_then-refused, unexpected-refused}
use Rattle.nodes.proofs.Sound.{number_read}
use Rattle.nodes.proofs.Spans.{number-spanned, decimal-length}
use Rattle.meanings.specs.Meaning.{NumberMayStand, SupportMayStand, Means, CouldBegin}
use Rattle.meanings.specs.Meaning.Means.{stray, long_name, long_number, ends_first, fine_support}
use Rattle.meanings.proofs.MeaningContexts.{Stand, NameIn, NumbersIn, ClosingIn, stand_on, inner-name-stand, closing-numbers, blanks-name, name_may, distance_may}
use Rattle.meanings.proofs.MeaningContexts.{SupportIn, blanks-support, colons-stand, second-stand, support_may, support-number, number-behind-blanks}
use Rattle.meanings.proofs.ReadingSteps.{step_skip, SupportRefused, BehindRefused, supported-refused, front, back, all_length, Stands, stands_on}
use Rattle.meanings.proofs.ReadingSteps.BehindRefused.{behind_colon, behind_colons, behind_distance}
use Rattle.meanings.proofs.KeptRules.{number-splits}
use Rattle.meanings.proofs.OpenNumbers.{OpenNumber, NumberFault, number-fault}
use Rattle.meanings.proofs.OpenNumbers.NumberFault.{too_long, none_yet, pointed_only}
use Rattle.meanings.proofs.MeaningSteps.{lifted-second, lifted-inner}

-- the number has its meaning at place q of the text s₀, which begins at place p₀
pub record Said (given : Bool) (names : List (List ℕ)) (most needed : ℕ) (s₀ : List ℕ) (p₀ number q : ℕ) : Type 0 where
  pub byte : ℕ
  pub place : q ≡ p₀ + byte
  pub means : Means given names most needed s₀ byte number

-- a refusal by this number at place q has its meaning, if with a byte at fault for 3 no text could begin
abbrev pub SaysOf : Bool → List (List ℕ) → ℕ → ℕ → List ℕ → ℕ → ℕ → ℕ → Type 0
SaysOf given names most needed s₀ p₀ number q =
    (number ≡ 3 → (d : ℕ) → q ≡ p₀ + d → d < length s₀ → CouldBegin s₀ (suc d) → ⊥) → Said given names most needed s₀ p₀ number q

-- ---- supports

-- a support is refused where a threshold is given, for its decimals
fine-given : (given : Bool) (b : List ℕ) → refuses_fine given b ≡ true → (given ≡ true) × (too_fine b ≡ true)
fine-given true b is = (refl, is)
fine-given false b is = absurd (false≢true is)

-- behind the digits at the front no digit follows
digits_over : (s : List ℕ) → next_digit (drop (run is_digit s) s) ≡ false
unfolding next_digit run
digits_over [] = refl
digits_over (b ∷ s) = go (is_digit b) refl (digits_over s)
  where
    go : (t : Bool) → is_digit b ≡ t → next_digit (drop (run is_digit s) s) ≡ false → next_digit (drop (one_more t (run is_digit s)) (b ∷ s)) ≡ false
    go true is h = h
    go false is h = is

-- nor behind the decimals of a number that is read
fine_ends : (s : List ℕ) (p : ℕ) {b rest : List ℕ} {q : ℕ} → number s p ≡ parsed b rest q → too_fine b ≡ true → next_digit rest ≡ false
fine_ends s p h fine =
    let x = number-spanned s p h in
    let d = run is_digit s in
    let e : drop (number_length s) s ≡ drop (run is_digit (drop (d + 1) s)) (drop (d + 1) s) =
    ap (λ (k : ℕ). drop k s) (decimal-length (x.fine fine)) ∙ sym (drop-drop (run is_digit (drop (d + 1) s)) (d + 1) s)
    in
    ap next_digit (x.left ∙ e) ∙ digits_over (drop (d + 1) s)

-- ---- tokens

module _ (given : Bool) {names : List (List ℕ)} {most needed : ℕ} {s₀ : List ℕ} {p₀ : ℕ} where
  pub says_here : {u s : List ℕ} {p q n : ℕ} → Stands s₀ p₀ u s p → q ≡ p → Means given names most needed s₀ (length u) n → SaysOf given names most needed s₀ p₀ n q
  says_here {u} st e m forbidden = record { byte = length u; place = e ∙ st.place; means = m }

  -- k bytes behind where reading stands the text ends, or a byte stands that may not
  end_says : {u s : List ℕ} {p n q : ℕ} (k : ℕ) → Stands s₀ p₀ u s p → n ≡ 10 → q ≡ p + k → k ≡ length s → SaysOf given names most needed s₀ p₀ n q
  end_says {u} k st number at over =
      rw number
      (λ forbidden.
      record { byte = length u + k; place = omega (arith, st.place); means = ends_first (record { end = omega (arith, all_length st.left) }) })

  byte-says : {u s : List ℕ} {p n q : ℕ} (k : ℕ) → Stands s₀ p₀ u s p → n ≡ 3 → q ≡ p + k → k < length s → SaysOf given names most needed s₀ p₀ n q
  byte-says {u} {p = p} {q = q} k st number at within =
      let inside : length u + k < length s₀ = omega (arith, all_length st.left) in
      let place : q ≡ p₀ + (length u + k) = omega (arith, st.place) in
      rw number
      (λ forbidden.
      record { byte = length u + k; place = place; means = stray (record { inside = inside; not_allowed = forbidden refl (length u + k) place inside }) })

  -- nothing that may stand k bytes on does
  further-says :
      (A : Type 0) {u s : List ℕ} {p n q : ℕ} (k : ℕ) → k ≤ length s → Stands s₀ p₀ u s p
      → ◌≡◌ {A = Answer A} (unexpected (drop k s) (p + k)) (refused n q) → SaysOf given names most needed s₀ p₀ n q
  further-says A {s = s} {p = p} k fits st h =
      ⊎_elim (λ e. end_says k st e.number e.place (omega (arith, ap length e.ends, length-drop k s)))
      (λ e. byte-says k st e.number e.place (omega (arith, ap length e.stands, length-drop k s)))
      (unexpected-refused (drop k s) (p + k) h)

  pub unexpected-says :
      (A : Type 0) {u s : List ℕ} {p n q : ℕ} → Stands s₀ p₀ u s p → ◌≡◌ {A = Answer A} (unexpected s p) (refused n q) → SaysOf given names most needed s₀ p₀ n q
  unexpected-says A {s = s} {p = p} {n = n} {q = q} st h =
      let here : p + 0 ≡ p = omega arith in
      further-says A 0 zero-le st (rw here h)

  -- ---- numbers

  -- thirteen bytes that begin a number
  long-number-says :
      {u s : List ℕ} {p q : ℕ} → Stands s₀ p₀ u s p → NumberMayStand u → OpenNumber s (suc number_bytes) → q ≡ p + number_bytes
      → SaysOf given names most needed s₀ p₀ 4 q
  long-number-says {u} {s} st may o at forbidden =
      let v = take (suc number_bytes) s ++ (o.end ++ []) in
      let d : Number v v [] = subst (λ (w : List ℕ). Number w v []) (sym (number-splits (o.derives []) ∙ append-nil o.word)) (o.derives []) in
      record {
        byte = length u + number_bytes;
        place = omega (arith, st.place);
        means = long_number (record {
          c = length u;
          thirteenth = refl;
          inside = omega (arith, o.within, all_length st.left);
          allowed = rw (front st.left) may;
          more = o.end ++ [];
          all_number = rw (back st.left) d;
        });
      }

  number-says : {u s : List ℕ} {p n q : ℕ} → Stands s₀ p₀ u s p → NumberMayStand u → number s p ≡ refused n q → SaysOf given names most needed s₀ p₀ n q
  number-says {s = s} {p = p} {n = n} {q = q} st may h = by (number-fault s p h)
    where
      by : NumberFault s p n q → SaysOf given names most needed s₀ p₀ n q
      by (too_long o other four at) = rw four (long-number-says st may o at)
      by (none_yet e) = unexpected-says (List ℕ) st e
      by (pointed_only j o short e) = further-says (List ℕ) j o.within st e

  number_behind-says : {u s : List ℕ} {p n q : ℕ} → Stands s₀ p₀ u s p → NumberMayStand u → number_behind s p ≡ refused n q → SaysOf given names most needed s₀ p₀ n q
  unfolding number_behind
  number_behind-says {s = s} {p = p} st may h =
      let x = step_skip s p in
      number-says (stands_on st x) (number-behind-blanks may x.front) h

  -- a support that is read and refused when its number ends
  fine-says :
      {u s : List ℕ} {p : ℕ} {b rest : List ℕ} {r : ℕ} → Stands s₀ p₀ u s p → SupportMayStand u → number s p ≡ parsed b rest r → refuses_fine given b ≡ true
      → SaysOf given names most needed s₀ p₀ 18 (r - length b)
  fine-says {s = s} {p = p} {b = b} {rest = rest} {r = r} st may h judged =
      let x = number-spanned s p h in
      let y = number_read s p h in
      let fine = fine-given given b judged in
      says_here st (omega (arith, x.place, x.size))
      (fine_support fine.0
      (record {
        allowed = rw (front st.left) may;
        bytes = b;
        rest = rest;
        number = rw (back st.left) y.derives;
        ends = fine_ends s p h fine.1;
        short = y.short;
        fine = fine.1;
      }))

  support-says : {u s : List ℕ} {p n q : ℕ} → Stands s₀ p₀ u s p → Stand SupportIn u → SupportRefused given s p n q → SaysOf given names most needed s₀ p₀ n q
  unfolding number_behind
  support-says {s = s} {p = p} st may r =
      let x = step_skip s p in
      ⊎_elim (λ e. number_behind-says st (support-number (support_may may)) e)
      (λ f.
      rw (f.number, f.place)
      (fine-says (stands_on st x) (support_may (stand_on SupportIn SupportIn Blanks blanks-support may x.front)) f.read f.fine)) r

  -- a refusal of the numbers behind a node says what it means, 18 for a support too fine among them
  pub supported-says :
      {u s : List ℕ} {p n q : ℕ} (w : List ℕ) → Stands s₀ p₀ u s p → Stand NumbersIn u → supported given w s p ≡ refused n q
      → SaysOf given names most needed s₀ p₀ n q
  supported-says {s = s} {p = p} {n = n} {q = q} w st may h = by (supported-refused given names w s p h)
    where
      by : BehindRefused given names s p n q → SaysOf given names most needed s₀ p₀ n q
      by (behind_colon x e) = number_behind-says (stands_on st x) (distance_may may x.front) e
      by (behind_colons x r) = support-says (stands_on st x) (colons-stand may x.front) r
      by (behind_distance d x r) = let y = lifted-second given names x in support-says (stands_on st y) (second-stand d may y.front) r

  -- ---- names

  -- a label's fault: a sixteenth letter, a byte that may not stand within quotes, quotes around nothing, quotes that never close
  label-says : {u s : List ℕ} {p q k : ℕ} {fault : Fault} → Stands s₀ p₀ u s p → Stand NameIn u → q ≡ p + k → AtFault s fault k
      → SaysOf given names most needed s₀ p₀ (fault_number fault) q
  label-says {u} {s} {p} {q = q} st may at (long-in l) =
      let here = back st.left in
      λ forbidden. record {
        byte = length u + raw_to label_bytes s;
        place = omega (arith, st.place);
        means = long_name (record {
          c = length u;
          sixteenth = rw here refl;
          allowed = rw (front st.left) (name_may may);
          long = rw here l;
        });
      }
  label-says {k = k} st may at (stray-in w b rest split all short non) =
      byte-says k st refl at (omega (arith, ap length split, length-append (doubled w) (b ∷ rest)))
  label-says {k = k} st may at (empty rest split over) = byte-says k st refl at (omega (arith, ap length split))
  label-says {k = k} st may at (unclosed w split all short) = end_says k st refl at (sym (ap length split))

  pub name-says : {u s : List ℕ} {p n q : ℕ} → Stands s₀ p₀ u s p → Stand NameIn u → name s p ≡ refused n q → SaysOf given names most needed s₀ p₀ n q
  unfolding name
  name-says {u} {s} {p} {n} {q} st may h = go (told s) refl h
    where
      go : (t : Told) → told s ≡ t → name_by t s p ≡ refused n q → SaysOf given names most needed s₀ p₀ n q
      go (ended k) is h = absurd (parsed-refused h)
      go (faulty fault k) is h =
          let e : fault_number fault ≡ n = cc in
          let at : q ≡ p + k = cc in
          rw (← e) (label-says st may at (told-fault s fault k is))

  inner_name-says : {u s : List ℕ} {p n q : ℕ} → Stands s₀ p₀ u s p → Stand ClosingIn u → inner_name s p ≡ refused n q → SaysOf given names most needed s₀ p₀ n q
  unfolding inner_name
  inner_name-says {u} {s} {p} {n} {q} st may h = go (next_label (skip s)) h
    where
      go : (t : Bool) → inner_name_by t s p ≡ refused n q → SaysOf given names most needed s₀ p₀ n q
      go false h = absurd (parsed-refused h)
      go true h =
          let x = step_skip s p in
          name-says (stands_on st x) (stand_on NameIn NameIn Blanks blanks-name (inner-name-stand may) x.front) h

  pub closing-says :
      {u s : List ℕ} {p n q : ℕ} (t : Tree) (f : Forest) → Stands s₀ p₀ u s p → Stand ClosingIn u → closing given t f s p ≡ refused n q
      → SaysOf given names most needed s₀ p₀ n q
  unfolding closing_by
  closing-says {u} {s} {p} {n} {q} t f st may h =
      ⊎_elim (λ e. inner_name-says st may e) named
      (and_then-refused (inner_name s p) (λ w s p. and_then (supported given w s p) (λ b s p. parsed (node t f b) s p)) h)
    where
      named :
          Reached (inner_name s p) (λ w s p. and_then (supported given w s p) (λ b s p. parsed (node t f b) s p)) (refused n q)
          → SaysOf given names most needed s₀ p₀ n q
      named r =
          let w = r.value in
          let x = lifted-inner given names s p r.first in
          ⊎_elim
          (λ e.
          supported-says w (stands_on st x)
          (stand_on ClosingIn NumbersIn (Inner lifted w) (closing-numbers w) may x.front) e)
          (λ a. absurd (parsed-refused a.after))
          (and_then-refused (supported given w r.left r.place) (λ b s p. parsed (node t f b) s p) r.after)
