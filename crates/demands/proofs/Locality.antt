-- Which bytes decide how a text is read: "bytes behind that are not looked at", and "Reading goes from the left and stops at the first fault met".
use Prim.Native.Nat.{ℕ, ◌+◌, ◌-◌, ◌≤◌, ◌<◌}
use mathlib.Core.Path.{◌≡◌, refl, sym, ap, ◌∙◌, subst}
use mathlib.Core.Bool.{Bool, true, false}
use mathlib.Core.List.{List, ◌++◌}
use native.Mathlib.Decide.{ℕ_discrete}
use native.Mathlib.Omega.{arith}
use borrow.Author.Tests.{le-leb}
use lib.ListN.{length, take, drop, take-append-drop, length-append, length-take, length-drop}
use lib.Seq.{drop-drop, length-take-le}
use lib.Dec.{leb}
use Rattle.trees.specs.Tree.{Tree}
use Rattle.roster.specs.Roster.{names, faulty}
use Rattle.roster.specs.Judged.{species_most}
use Rattle.tokens.specs.Supports.{is_given}
use Rattle.tokens.specs.Supports.{Threshold}
use Rattle.tokens.specs.Answers.{Answer}
use Rattle.tokens.specs.Answers.Answer.{parsed, refused}
use Rattle.nodes.specs.Reading.{open_most, read_tree}
use Rattle.nodes.specs.Grammar.{strict, Text}
use Rattle.nodes.specs.Deciding.{border}
use Rattle.nodes.proofs.Fronts.{strict_placeless, text-elsewhere}
use Rattle.nodes.proofs.Locality.{locality}
use Rattle.meanings.proofs.Refusals.{refusal-before, refusal-inside, refusal-numbers}
use Rattle.reader.specs.Promise.{narrow, text_most, needed, reading_of, from_start, in_limit, on_roster, answer_within, answer_to, Reads}
use Rattle.reader.specs.Accepted.{Draws, JustBehind}
use Rattle.reader.specs.declared.Kind.{Kind}
use Rattle.reader.specs.declared.Reading.{Reading}
use Rattle.reader.proofs.Accepts.{accepted-derives, derives-accepted}
use Rattle.demands.specs.Deciding.{SameBytes, SameBefore, Agree}
use Rattle.demands.specs.TextFaults.{TextFault}
use Rattle.demands.specs.TextFaults.TextFaultWithin.{of_roster, too_long, beyond, as_met}
use Rattle.demands.proofs.TextFaults.{fault_of_refusal, refusal_of_fault}

-- a refusal met while reading (3 to 9, and 18) is decided by the bytes from start up to its border, and as far as it asks, by whether a label or a number goes on there:
-- a text of at most 65,536 bytes that agrees so far is refused alike
pub answer_is_local :
    (kind : Kind) (threshold : Threshold) (line text text' : List ℕ) (start d number : ℕ)
    → answer_to kind threshold line text start ≡ refused number (start + d) → 3 ≤ number → (number ≡ 10 → ⊥) → length text' ≤ text_most → start ≤ length text'
    → SameBefore text text' start number d
    → answer_to kind threshold line text' start ≡ refused number (start + d)
unfolding answer_within
answer_is_local kind threshold line text text' start d number h low byte short inside agree = judged (faulty species_most line) h
  where
    started :
        (b : Bool) → from_start narrow kind threshold b (names line) text start ≡ refused number (start + d)
        → read_tree (is_given threshold) (names line) open_most (needed kind (length (names line))) (drop start text') start ≡ refused number (start + d)
    started true e =
        locality (is_given threshold) (names line) open_most (needed kind (length (names line))) (drop start text) (drop start text') start
        d number e low byte agree.bytes agree.alike
    started false e = absurd (let z : number ≡ 10 = cc in byte z)

    limited :
        (b : Bool) → in_limit narrow kind threshold b (names line) text start ≡ refused number (start + d)
        → read_tree (is_given threshold) (names line) open_most (needed kind (length (names line))) (drop start text') start ≡ refused number (start + d)
    limited true e = started (leb start (length text)) e
    limited false e = absurd (let z : number ≡ 2 = cc in omega arith)

    judged :
        (b : Bool) → on_roster narrow kind threshold b line text start ≡ refused number (start + d)
        → on_roster narrow kind threshold b line text' start ≡ refused number (start + d)
    judged true e = absurd (let z : number ≡ 1 = cc in omega arith)
    judged false e =
        rw (le-leb (length text') text_most short, le-leb start (length text') inside) (limited (leb (length text) text_most) e)

-- the bytes of a tree, from start up to the offset just after its `;`, stand before what is left of its text, and before what follows them in a text that has them too
pub before_the_rests :
    (text text' : List ℕ) (start : ℕ) {rest : List ℕ} {next : ℕ} → JustBehind text start rest next → SameBytes text text' start (next - start)
    → (drop start text ≡ take (next - start) (drop start text) ++ rest)
    × (drop start text' ≡ take (next - start) (drop start text) ++ drop (next - start) (drop start text'))
before_the_rests text text' start {rest} {next} place agree =
    let n = next - start in
    let s = drop start text in
    let s' = drop start text' in
    let at : next ≡ start + n = omega (arith, place.after) in
    let left : rest ≡ drop n s = place.left ∙ (ap (λ (k : ℕ). drop k text) at ∙ sym (drop-drop n start text)) in (
      sym (take-append-drop n s) ∙ ap (λ (l : List ℕ). take n s ++ l) (sym left),
      sym (take-append-drop n s') ∙ ap (λ (l : List ℕ). l ++ drop n s') agree,
    )

-- a tree is decided by the bytes from start up to the offset just after its `;`
pub tree_is_local :
    (kind : Kind) (threshold : Threshold) (line text text' : List ℕ) (start : ℕ) {t : Tree} {rest : List ℕ} {next : ℕ}
    → answer_to kind threshold line text start ≡ parsed t rest next → length text' ≤ text_most → SameBytes text text' start (next - start)
    → (rest' : List ℕ) × (answer_to kind threshold line text' start ≡ parsed t rest' next)
tree_is_local kind threshold line text text' start {t} {rest} {next} h short agree =
    let a = accepted-derives kind threshold line text start h in
    let n = next - start in
    let s = drop start text in
    let s' = drop start text' in
    let rest' = drop n s' in
    let before = before_the_rests text text' start a.place agree in
    let bytes : length (take n s) ≡ n = length-take-le n s (omega (arith, length-drop start text, a.place.within, a.draws.inside)) in
    let all : length s' ≡ n + length rest' = ap length before.1 ∙ (length-append (take n s) rest' ∙ ap (λ (k : ℕ). k + length rest') bytes) in
    let inside : start ≤ length text' = omega (arith, length-drop start text', all, a.place.after) in
    let Drawn : List ℕ → List ℕ → Type 0 = λ l left. Text (strict (is_given threshold) (names line)) open_most l t left in
    let derives : Drawn (take n s ++ rest) rest = subst (λ (l : List ℕ). Drawn l rest) before.0 a.draws.derives in
    let drawn : Draws kind threshold line text' start t rest' =
    record {
      good = a.draws.good;
      short = short;
      inside = inside;
      derives = subst (λ (l : List ℕ). Drawn l rest') (sym before.1)
          (text-elsewhere (strict (is_given threshold) (names line)) (strict_placeless (is_given threshold) (names line)) (take n s) rest rest' derives);
      once = a.draws.once;
      species = a.draws.species;
    }
    in
    let place : length text' - length rest' ≡ next = omega (arith, length-drop start text', all, a.place.after, inside) in
    (rest', derives-accepted kind threshold line text' start drawn ∙ ap (λ (q : ℕ). parsed t rest' q) place)

-- a text that agrees on bytes of which there are some is not empty
reaches_into : (s s' : List ℕ) (b : ℕ) → 0 < b → 0 < length s → take b s' ≡ take b s → 0 < length s'
reaches_into s s' b some inside same = omega (arith, length-take b s, length-take b s', ap length same)

-- ---- the call

module _ (kind : Kind) (threshold : Threshold) (line text text' : List ℕ) (start : ℕ) (short : length text ≤ text_most) (short' : length text' ≤ text_most) where
  -- an answer that the bytes decide is given again: the same tree with the same offset, or the same refusal
  abbrev Again : Answer Tree → Type 0
  Again a = reading_of threshold start a ≡ reading_of threshold start (answer_to kind threshold line text' start)

  ends_again : faulty species_most line ≡ false → drop start text' ≡ drop start text → length text' ≡ length text
      → answer_to kind threshold line text start ≡ answer_to kind threshold line text' start
  unfolding answer_within
  ends_again good same_end same_length =
      rw (good, same_length, le-leb (length text) text_most short, same_length) (started (leb start (length text)))
    where
      started : (b : Bool) → from_start narrow kind threshold b (names line) text start ≡ from_start narrow kind threshold b (names line) text' start
      started true = rw same_end refl
      started false = rw same_length refl

  fault-again : {number place : ℕ} → answer_to kind threshold line text start ≡ refused number place → TextFault kind threshold line text start number place
      → Agree text text' start (reading_of threshold start (refused number place)) → Again (refused number place)
  unfolding answer_within
  fault-again h (of_roster f) agree = ap (reading_of threshold start) (sym (refusal_of_fault (of_roster f)))
  fault-again h (too_long good l) agree = absurd (omega arith)
  fault-again h (beyond good l b) agree =
      ap (reading_of threshold start) (sym h ∙ ends_again good (agree.end refl).0 (agree.end refl).1)
  fault-again {number} {place} h (as_met good l inside r) agree = go (ℕ_discrete number 10)
    where
      go : Dec (number ≡ 10) → Again (refused number place)
      go (yes ten) = ap (reading_of threshold start) (sym h ∙ ends_again good (agree.end ten).0 (agree.end ten).1)
      go (no other) =
          let low = (refusal-numbers (is_given threshold) r.means).0 in
          let byte : place - start ≡ r.byte = omega (arith, r.place) in
          let b = border number (drop start text) r.byte in
          let same : SameBefore text text' start number r.byte = rw byte at (agree.fault low other) in
          let at : ◌≡◌ {A = Answer Tree} (refused number place) (refused number (start + r.byte)) = rw r.place in
          let goes_on_lem =
          reaches_into (drop start text) (drop start text') b
          (omega (arith, refusal-before (is_given threshold) r.means)) (omega (arith, refusal-inside (is_given threshold) r.means other)) same.bytes
          in
          let again =
          answer_is_local kind threshold line text text' start r.byte number (h ∙ at) low other short' (omega (arith, length-drop start text')) same
          in
          ap (reading_of threshold start) (at ∙ sym again)

  answer-again : (a : Answer Tree) → answer_to kind threshold line text start ≡ a → Agree text text' start (reading_of threshold start a) → Again a
  answer-again (parsed t rest next) h agree =
      let again = tree_is_local kind threshold line text text' start h short' (agree.tree refl) in
      sym (ap (reading_of threshold start) again.1)
  answer-again (refused number place) h agree = fault-again h (fault_of_refusal kind threshold line text start number place h) agree

-- bytes that do not decide are not looked at: texts of at most 65,536 bytes that agree from start on the bytes that decide a reading are read alike
pub reading_is_local :
    (kind : Kind) (threshold : Threshold) (line text text' : List ℕ) (start : ℕ) (r r' : Reading) → length text ≤ text_most → length text' ≤ text_most
    → Reads kind threshold line text start r → Reads kind threshold line text' start r' → Agree text text' start r → r ≡ r'
unfolding Reads
reading_is_local kind threshold line text text' start r r' short short' p q agree =
    p ∙ (answer-again kind threshold line text text' start short short'
    (answer_to kind threshold line text start) refl (subst (Agree text text' start) p agree) ∙ sym q)

-- "The reader .. returns the record and the offset just after `;`; bytes behind that are not looked at"
pub bytes-behind_not_looked_at :
    (kind : Kind) (threshold : Threshold) (line text text' : List ℕ) (start : ℕ) (r r' : Reading) → length text ≤ text_most → length text' ≤ text_most
    → Reads kind threshold line text start r → Reads kind threshold line text' start r' → r.number ≡ 0 → SameBytes text text' start (r.next - start) → r ≡ r'
bytes-behind_not_looked_at kind threshold line text text' start r r' short short' p q done same =
    reading_is_local kind threshold line text text' start r r' short short' p q
    (record { tree = λ e. same; fault = λ low other. absurd (omega arith); end = λ ten. absurd (omega arith) })
