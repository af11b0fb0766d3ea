-- `check` has one outcome, and these numbers may occur: 0, the reader's own 1 to 10 for species text, 11, 12, 16, 15 and 23.
use Prim.Native.Nat.{ℕ, ◌<◌}
use native.Mathlib.Omega.{arith}
use native.Mathlib.Decide.{ℕ_discrete}
use mathlib.Core.Path.{◌≡◌, refl, sym, ap, ◌∙◌}
use mathlib.Core.Logic.{◌⊎◌, inl, inr}
use Rattle.std.proofs.Common.{Option, Some, None}
use mathlib.Core.List.{List, [], ◌∷◌, ◌++◌}
use lib.ListN.{length}
use Rattle.trees.specs.Tree.{Tree, clusters}
use Rattle.trees.specs.Records.{record_of}
use Rattle.roster.specs.Roster.{names}
use Rattle.roster.specs.Verdict.{Verdict, verdict, length_test}
use Rattle.roster.specs.declared.Reply.{Reply}
use Rattle.tokens.specs.Answers.{Answer}
use Rattle.tokens.specs.Answers.Answer.{parsed, refused}
use Rattle.reader.specs.Promise.{answer_to}
use Rattle.reader.specs.declared.Kind.TheVariants.{Species}
use Rattle.lineages.specs.Checks.{count_test, records_test}
use Rattle.lineages.proofs.Verdicts.{NoneGives, verdict-never}
use Rattle.counts.specs.Promise.{counts_test, check_verdict, Checks}
use Rattle.counts.specs.Work.{call_tests}
use Rattle.counts.proofs.CallFaults.{drawn_tests}
use Rattle.counts.proofs.Checking.{said_of, wrong_in, said_as}
use Rattle.counts.proofs.DrawnBinary.{text-refused}
use Rattle.counts.proofs.Yes.{number-said}

-- "it is proved that the promise admits a single outcome": the reply and both tables
pub checks_once :
    {line text : List ℕ} {start : ℕ} {genes : List ℕ} {count : ℕ} {scores splits : List ℕ} {r r' : Reply} {s s' p p' : List ℕ}
    → Checks line text start genes count scores splits r s p → Checks line text start genes count scores splits r' s' p' → (r ≡ r') × (s ≡ s') × (p ≡ p')
checks_once c c' = (c.reply ∙ sym c'.reply, c.score_table ∙ sym c'.score_table, c.split_table ∙ sym c'.split_table)

-- ---- the numbers

counts-number : (o : Option ℕ) → (counts_test o).number ≡ 23
counts-number (Some place) = refl
counts-number None = refl

-- a number over 12 that no test of a text that is read has
read-never :
    (n : ℕ) (genes : List ℕ) (count : ℕ) (numbers scores splits : List ℕ) (o : Option ℕ) (m : ℕ)
    → 12 < m → (m ≡ 15 → ⊥) → (m ≡ 16 → ⊥) → (m ≡ 23 → ⊥) → (verdict (drawn_tests n genes count numbers scores splits ++ (counts_test o ∷ []))).number ≡ m → ⊥
unfolding call_tests count_test length_test records_test NoneGives
read-never n genes count numbers scores splits o m over no-15 no-16 no-23 e =
    verdict-never m (drawn_tests n genes count numbers scores splits ++ (counts_test o ∷ [])) (λ z. omega arith) (
      λ z. omega arith,
      (
        λ z. omega arith,
        (λ z. omega arith, (λ z. omega arith, (λ z. no-16 (sym z), (λ z. no-15 (sym z), (λ z. no-23 (sym z ∙ counts-number o), tt))))),
      ),
    )
    e

module _ (line text : List ℕ) (start : ℕ) (genes : List ℕ) (count : ℕ) (scores splits : List ℕ) where
  said-numbers :
      (m : ℕ) → (said_of line text start genes count scores splits).number ≡ m → 12 < m → (m ≡ 15 → ⊥) → (m ≡ 16 → ⊥) → (m ≡ 23 → ⊥) → ⊥
  unfolding check_verdict
  said-numbers m is over no-15 no-16 no-23 = by (answer_to Species None line text start) refl
    where
      by : (a : Answer Tree) → answer_to Species None line text start ≡ a → ⊥
      by (refused n p) e = let few = text-refused line text start e in let same : n ≡ m = rw e at is in omega arith
      by (parsed t rest next) e =
          read-never (length (names line)) genes count (record_of (clusters t)) scores splits (wrong_in text start genes count t) m over no-15 no-16 no-23
          (sym (ap (λ (v : Verdict). v.number) (said_as line text start genes count scores splits e)) ∙ is)

  -- a number over 12 is 15, 16 or 23; "the reader's own" are 1 to 10
  pub check_numbers :
      {r : Reply} {s p : List ℕ} → Checks line text start genes count scores splits r s p → 12 < r.number
      → (r.number ≡ 15) ⊎ ((r.number ≡ 16) ⊎ (r.number ≡ 23))
  check_numbers {r} c over = go (ℕ_discrete r.number 15) (ℕ_discrete r.number 16) (ℕ_discrete r.number 23)
    where
      go : Dec (r.number ≡ 15) → Dec (r.number ≡ 16) → Dec (r.number ≡ 23) → (r.number ≡ 15) ⊎ ((r.number ≡ 16) ⊎ (r.number ≡ 23))
      go (yes a) b d = inl a
      go (no a) (yes b) d = inr (inl b)
      go (no a) (no b) (yes d) = inr (inr d)
      go (no a) (no b) (no d) = absurd (said-numbers r.number (sym (number-said line text start genes count scores splits c)) over a b d)
