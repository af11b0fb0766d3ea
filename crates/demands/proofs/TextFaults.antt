-- A text is refused by a number at a place exactly where it has that fault: the faults alone determine what is answered.
use Prim.Native.Nat.{ℕ, ◌≤◌}
use mathlib.Core.Path.{◌≡◌, refl, sym, ap, ◌∙◌, subst}
use mathlib.Core.Logic.{◌⊎◌, inl, inr}
use mathlib.Core.Bool.{Bool, true, false, false≢true}
use mathlib.Core.List.{List}
use native.Mathlib.Omega.{arith}
use lib.ListN.{length, drop}
use lib.Dec.{leb}
use borrow.Author.Tests.{le-leb, lt-leb, leb-true, leb-false}
use Rattle.clusters.proofs.Members.{has-zero}
use Rattle.trees.specs.Tree.{Tree}
use Rattle.roster.specs.Roster.{names, faulty, first_fault}
use Rattle.tokens.specs.Supports.{is_given}
use Rattle.tokens.specs.Supports.{Threshold}
use Rattle.std.proofs.Common.{None}
use Rattle.tokens.specs.Answers.{Answer}
use Rattle.tokens.specs.Answers.Answer.{parsed, refused}
use Rattle.nodes.proofs.Answers.{refused-parsed}
use Rattle.reader.specs.declared.Limits.{Limits}
use Rattle.reader.specs.Promise.{text_most, needed, from_start, in_limit, on_roster, answer_within}
use Rattle.reader.specs.declared.Kind.{Kind}
use Rattle.reader.specs.declared.Kind.TheVariants.{Gene}
use Rattle.meanings.specs.Meaning.{Means}
use Rattle.meanings.proofs.Refusals.{refusal-numbers, says_9, says_18}
use Rattle.meanings.proofs.MeaningsDecide.{refusal-means, means-refusal}
use Rattle.demands.specs.TextFaults.{TextFaultWithin}
use Rattle.demands.specs.TextFaults.TextFaultWithin.{of_roster, too_long, beyond, as_met}
use Rattle.demands.specs.CallFaults.{RosterFaultOf}
use Rattle.demands.specs.CallFaults.RosterFaultOf.{faulty_roster}
use Rattle.demands.proofs.TestFaults.{roster-found, roster-only}

pub fault_of_refusal :
    {limits : Limits} (kind : Kind) (threshold : Threshold) (line text : List ℕ) (start number place : ℕ) → answer_within limits kind threshold line text start ≡ refused number place
    → TextFaultWithin limits kind threshold line text start number place
unfolding answer_within
fault_of_refusal {limits} kind threshold line text start number place = judged (faulty limits.most line) refl
  where
    started :
        (b : Bool) → leb start (length text) ≡ b → faulty limits.most line ≡ false → length text ≤ text_most
        → from_start limits kind threshold b (names line) text start ≡ refused number place → TextFaultWithin limits kind threshold line text start number place
    started true is good short e =
        as_met good short (leb-true start (length text) is)
        (refusal-means (is_given threshold) (names line) limits.room (needed kind (length (names line))) (drop start text) start e)
    started false is good short e =
        let k : 10 ≡ number = cc in
        let q : length text ≡ place = cc in
        rw (← k, ← q) (beyond good short (leb-false start (length text) is))

    limited :
        (b : Bool) → leb (length text) text_most ≡ b → faulty limits.most line ≡ false
        → in_limit limits kind threshold b (names line) text start ≡ refused number place → TextFaultWithin limits kind threshold line text start number place
    limited true is good e = started (leb start (length text)) refl good (leb-true (length text) text_most is) e
    limited false is good e =
        let k : 2 ≡ number = cc in
        let q : text_most ≡ place = cc in
        rw (← k, ← q) (too_long good (leb-false (length text) text_most is))

    judged :
        (b : Bool) → faulty limits.most line ≡ b → on_roster limits kind threshold b line text start ≡ refused number place
        → TextFaultWithin limits kind threshold line text start number place
    judged true is e =
        let k : 1 ≡ number = cc in
        let q : first_fault limits.most line ≡ place = cc in
        rw (← k, ← q) (of_roster (roster-found limits.most line is))
    judged false is e = limited (leb (length text) text_most) refl is e

pub roster-number : {most : ℕ} {line : List ℕ} {number place : ℕ} → RosterFaultOf most line number place → number ≡ 1
roster-number (faulty_roster inside stands earlier) = refl

-- the numbers are those from 1 to 10, and "18, only where a threshold is given" (#113)
pub fault-numbers :
    {limits : Limits} {kind : Kind} {threshold : Threshold} {line text : List ℕ} {start number place : ℕ} → TextFaultWithin limits kind threshold line text start number place
    → (1 ≤ number) × ((number ≤ 10) ⊎ ((number ≡ 18) × (is_given threshold ≡ true)))
fault-numbers (of_roster f) = let k = roster-number f in (omega arith, inl (omega arith))
fault-numbers (too_long g l) = (omega arith, inl (omega arith))
fault-numbers (beyond g l b) = (omega arith, inl (omega arith))
fault-numbers {limits} {kind} {threshold} {line} {text} {start} {number} (as_met g l b r) =
    let k = refusal-numbers (is_given threshold) r.means in (omega (arith, k.0), by k.1)
  where
    by : (number ≤ 10) ⊎ (number ≡ 18) → (number ≤ 10) ⊎ ((number ≡ 18) × (is_given threshold ≡ true))
    by (inl few) = inl few
    by (inr e) =
        let Says : ℕ → Type 0 = λ k. Means (is_given threshold) (names line) limits.room (needed kind (length (names line))) (drop start text) r.byte k in
        inr (e, (says_18 (is_given threshold) (subst Says e r.means)).0)

-- without a threshold they are those from 1 to 10
pub plain-fault-numbers :
    {limits : Limits} {kind : Kind} {line text : List ℕ} {start number place : ℕ} → TextFaultWithin limits kind None line text start number place → (1 ≤ number) × (number ≤ 10)
plain-fault-numbers {number = number} f = let k = fault-numbers f in (k.0, by k.1)
  where
    by : (number ≤ 10) ⊎ ((number ≡ 18) × (false ≡ true)) → number ≤ 10
    by (inl few) = few
    by (inr h) = absurd (false≢true h.1)

-- "9 is shown never to occur for gene trees" (#104): it is no fault of one
pub gene-fault_not_nine :
    {limits : Limits} {threshold : Threshold} {line text : List ℕ} {start number place : ℕ} → TextFaultWithin limits Gene threshold line text start number place → number ≡ 9 → ⊥
gene-fault_not_nine (of_roster f) nine = let k = roster-number f in omega arith
gene-fault_not_nine (too_long g l) nine = omega arith
gene-fault_not_nine (beyond g l b) nine = omega arith
gene-fault_not_nine {limits} {threshold} {line} {text} {start} (as_met g l b r) nine =
    let m = says_9 (is_given threshold) (subst (λ (k : ℕ). Means (is_given threshold) (names line) limits.room 0 (drop start text) r.byte k) nine r.means) in
    has-zero m.species m.wanted

-- a refusal's number, and its place
abbrev number_of : Answer Tree → ℕ
number_of (parsed t rest q) = 0
number_of (refused number place) = number

abbrev place_of : Answer Tree → ℕ
place_of (parsed t rest q) = 0
place_of (refused number place) = place

module _ {limits : Limits} {kind : Kind} {threshold : Threshold} {line text : List ℕ} {start : ℕ} where
  -- the fault that a text has is what is answered
  pub refusal_of_fault :
      {number place : ℕ} → TextFaultWithin limits kind threshold line text start number place → answer_within limits kind threshold line text start ≡ refused number place
  unfolding answer_within
  refusal_of_fault (of_roster f) = let h = roster-only limits.most line f in rw (h.0, h.1, h.2) refl
  refusal_of_fault (too_long good long) = rw (good, lt-leb (length text) text_most long) refl
  refusal_of_fault (beyond good short out) = rw (good, le-leb (length text) text_most short, lt-leb start (length text) out) refl
  refusal_of_fault (as_met good short inside r) =
      rw (good, le-leb (length text) text_most short, le-leb start (length text) inside)
      (means-refusal (is_given threshold) (names line) limits.room (needed kind (length (names line))) (drop start text) start r)

  -- a text has one fault at the most, by number and place
  pub fault_one :
      {number number' place place' : ℕ} → TextFaultWithin limits kind threshold line text start number place → TextFaultWithin limits kind threshold line text start number' place'
      → (number ≡ number') × (place ≡ place')
  fault_one f f' =
      let e = sym (refusal_of_fault f) ∙ refusal_of_fault f' in
      (ap number_of e, ap place_of e)

  -- and one that is read has none
  pub read-has_none :
      {number place : ℕ} {t : Tree} {rest : List ℕ} {q : ℕ} → answer_within limits kind threshold line text start ≡ parsed t rest q
      → TextFaultWithin limits kind threshold line text start number place → ⊥
  read-has_none h f = refused-parsed (sym (refusal_of_fault f) ∙ h)
