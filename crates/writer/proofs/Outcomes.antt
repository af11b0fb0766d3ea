-- What `write` answers on each way: the refusals in their order, and the text.
use Prim.Native.Nat.{ℕ, suc, ◌≤◌, ◌<◌}
use mathlib.Core.Path.{◌≡◌, refl, sym, ap, ◌∙◌}
use mathlib.Core.Bool.{Bool, true, false}
use mathlib.Core.List.{List, ◌++◌}
use native.Mathlib.Omega.{arith}
use lib.ListN.{length, drop}
use lib.Dec.{ltb}
use borrow.Author.Tests.{lt-ltb, le-ltb, ltb-true, ltb-false}
use Rattle.trees.specs.Valid.{valid_gene}
use Rattle.trees.specs.Records.{GeneValid}
use Rattle.trees.proofs.GeneRecords.{gene_decides}
use Rattle.roster.specs.Roster.{names, faulty, first_fault}
use Rattle.roster.specs.Judged.{species_most, done, refusal}
use Rattle.roster.specs.Verdict.{Verdict, verdict, length_test}
use Rattle.roster.specs.declared.Reply.{Reply}
use Rattle.texts.specs.Writing.{written}
use Rattle.writer.specs.Promise.{roster_test, record_test, write_tests, Writes}
use Rattle.writer.specs.Work.{fits, Puts}
use Rattle.writer.proofs.RosterNames.{good-names}

-- ---- a text that is put into lent bytes

-- one outcome
pub puts-once : {text out : List ℕ} {p p' : Reply} {after after' : List ℕ} → Puts text out p after → Puts text out p' after' → (p ≡ p') × (after ≡ after')
puts-once w w' = (w.answer ∙ sym w'.answer, w.bytes ∙ sym w'.bytes)

module _ (text out : List ℕ) where
  short-fits : length out < length text → fits text out ≡ record { number = 12; place = 0 }
  unfolding fits verdict length_test
  short-fits s = rw (lt-ltb (length out) (length text) s)

  done_fits : length text ≤ length out → fits text out ≡ record { number = 0; place = 0 }
  unfolding fits verdict length_test
  done_fits s = rw (le-ltb (length out) (length text) s)

  pub puts-short : {p : Reply} {after : List ℕ} → length out < length text → p ≡ refusal 12 0 → after ≡ out → Puts text out p after
  puts-short s a b = let e = short-fits s in record { answer = a ∙ rw e; bytes = b ∙ rw e }

  pub puts_done : {p : Reply} {after : List ℕ} → length text ≤ length out → p ≡ done (length text) → after ≡ text ++ drop (length text) out → Puts text out p after
  puts_done s a b = let e = done_fits s in record { answer = a ∙ rw e; bytes = b ∙ rw e }

  -- a text that was put, and not refused
  pub record Stands (p : Reply) (after : List ℕ) : Type 0 where
    pub room : length text ≤ length out
    pub value : p.value ≡ length text
    pub bytes : after ≡ text ++ drop (length text) out

  pub puts-zero : {p : Reply} {after : List ℕ} → Puts text out p after → p.number ≡ 0 → Stands p after
  puts-zero {p} {after} w z = roomy (ltb (length out) (length text)) refl
    where
      roomy : (t : Bool) → ltb (length out) (length text) ≡ t → Stands p after
      roomy true e =
          let k = ap (λ (a : Reply). a.number) w.answer in
          let l = ap (λ (a : Verdict). a.number) (short-fits (ltb-true (length out) (length text) e)) in
          absurd (omega arith)
      roomy false e =
          let l = ltb-false (length out) (length text) e in
          let d = done_fits l in
          record { room = l; value = ap (λ (a : Reply). a.value) w.answer ∙ rw d; bytes = w.bytes ∙ rw d }

-- ---- the call

-- the promise admits one outcome
pub writes_once : {line r out : List ℕ} {p p' : Reply} {after after' : List ℕ} → Writes line r out p after → Writes line r out p' after' → (p ≡ p') × (after ≡ after')
writes_once w w' = (w.answer ∙ sym w'.answer, w.bytes ∙ sym w'.bytes)

module _ (line r out : List ℕ) where
  -- the length of the text
  abbrev size : ℕ
  size = length (written (names line) r)

  -- ---- the verdict of the tests

  faulty-verdict : faulty species_most line ≡ true → verdict (write_tests line r out) ≡ record { number = 1; place = first_fault species_most line }
  unfolding verdict write_tests roster_test
  faulty-verdict f = rw f

  invalid_verdict : faulty species_most line ≡ false → valid_gene (length (names line)) r ≡ false → verdict (write_tests line r out) ≡ record { number = 15; place = 0 }
  unfolding verdict write_tests roster_test record_test
  invalid_verdict f v = rw (f, v)

  -- behind both it is whether the text fits
  checked-verdict : faulty species_most line ≡ false → valid_gene (length (names line)) r ≡ true → verdict (write_tests line r out) ≡ fits (written (names line) r) out
  unfolding verdict write_tests roster_test record_test fits
  checked-verdict f v = rw (f, v)

  -- ---- the ways

  module _ {p : Reply} {after : List ℕ} {n q : ℕ} (e : verdict (write_tests line r out) ≡ record { number = suc n; place = q }) where
    refused_by : p ≡ refusal (suc n) q → after ≡ out → Writes line r out p after
    refused_by a b = record { answer = a ∙ rw e; bytes = b ∙ rw e }

  pub writes_faulty : {p : Reply} {after : List ℕ} → faulty species_most line ≡ true → p ≡ refusal 1 (first_fault species_most line) → after ≡ out → Writes line r out p after
  writes_faulty f = refused_by (faulty-verdict f)

  pub writes_invalid :
      {p : Reply} {after : List ℕ} → faulty species_most line ≡ false → valid_gene (length (names line)) r ≡ false → p ≡ refusal 15 0 → after ≡ out
      → Writes line r out p after
  writes_invalid f v = refused_by (invalid_verdict f v)

  module _ {p : Reply} {after : List ℕ} (f : faulty species_most line ≡ false) (v : valid_gene (length (names line)) r ≡ true) where
    pub writes_put : Puts (written (names line) r) out p after → Writes line r out p after
    writes_put w = let e = checked-verdict f v in record { answer = w.answer ∙ rw e; bytes = w.bytes ∙ rw e }

    put_writes : Writes line r out p after → Puts (written (names line) r) out p after
    put_writes w = let e = checked-verdict f v in record { answer = w.answer ∙ rw e; bytes = w.bytes ∙ rw e }

    pub writes_done : size ≤ length out → p ≡ done size → after ≡ written (names line) r ++ drop size out → Writes line r out p after
    writes_done s a b = writes_put (puts_done (written (names line) r) out s a b)

-- ---- number 0

-- a text was written
pub record Wrote (line r out : List ℕ) (p : Reply) (after : List ℕ) : Type 0 where
  pub good : faulty species_most line ≡ false
  pub valid : GeneValid (length (names line)) r
  pub room : length (written (names line) r) ≤ length out
  pub value : p.value ≡ length (written (names line) r)
  pub bytes : after ≡ written (names line) r ++ drop (length (written (names line) r)) out

pub writes_zero : {line r out : List ℕ} {p : Reply} {after : List ℕ} → Writes line r out p after → p.number ≡ 0 → Wrote line r out p after
writes_zero {line} {r} {out} {p} {after} w z = judged (faulty species_most line) refl
  where
    other : {n q : ℕ} → verdict (write_tests line r out) ≡ record { number = suc n; place = q } → ⊥
    other e = let k = ap (λ (a : Reply). a.number) w.answer in let l = ap (λ (a : Verdict). a.number) e in omega arith

    checked : (t : Bool) → valid_gene (length (names line)) r ≡ t → faulty species_most line ≡ false → Wrote line r out p after
    checked true v f =
        let s = puts-zero (written (names line) r) out (put_writes line r out f v w) z in
        record { good = f; valid = (gene_decides r (good-names line f).few).holds v; room = s.room; value = s.value; bytes = s.bytes }
    checked false v f = absurd (other (invalid_verdict line r out f v))

    judged : (t : Bool) → faulty species_most line ≡ t → Wrote line r out p after
    judged true f = absurd (other (faulty-verdict line r out f))
    judged false f = checked (valid_gene (length (names line)) r) refl f
