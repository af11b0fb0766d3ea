-- What the promises admit: one outcome, and one that entries beyond the need do not change.
use Prim.Native.Nat.{ℕ, ◌*◌}
use mathlib.Core.Path.{◌≡◌, sym, ap, ◌∙◌}
use mathlib.Core.Bool.{Bool}
use mathlib.Core.List.{List}
use lib.ListN.{length, take}
use lib.Dec.{ltb}
use Rattle.roster.specs.declared.Reply.{Reply}
use Rattle.trees.specs.Records.{records_in}
use Rattle.roster.specs.Verdict.{length_test}
use Rattle.lineages.specs.Checks.{weight_tests, score_tests, mark_tests}
use Rattle.lineages.specs.Promise.{Weighs, Scores, Marks}
use Rattle.trees.proofs.Lent.{records-needed, short-needed}
use Rattle.weights.specs.declared.Rooting.{Rooting}

-- ---- one outcome

pub weighs_once : (rooting : Rooting) (n : ℕ) (genes : List ℕ) (count a : ℕ) {r q : Reply} → Weighs rooting n genes count a r → Weighs rooting n genes count a q → r ≡ q
unfolding Weighs
weighs_once rooting n genes count a p q = p ∙ sym q

pub scores-once : (rooting : Rooting) (n : ℕ) (genes : List ℕ) (count : ℕ) (species : List ℕ) {r q : Reply} → Scores rooting n genes count species r
    → Scores rooting n genes count species q → r ≡ q
unfolding Scores
scores-once rooting n genes count species p q = p ∙ sym q

pub marks-once :
    {rooting : Rooting} {n : ℕ} {genes : List ℕ} {count : ℕ} {out : List ℕ} {r q : Reply} {after behind : List ℕ} → Marks rooting n genes count out r after
    → Marks rooting n genes count out q behind → (r ≡ q) × (after ≡ behind)
marks-once p q = (p.reply ∙ sym q.reply, p.bytes ∙ sym q.bytes)

-- ---- entries beyond the need

module _ (rooting : Rooting) (count : ℕ) (genes others : List ℕ) (alike : take (32 * count) genes ≡ take (32 * count) others) where
  records-alike : records_in count genes ≡ records_in count others
  records-alike = sym (records-needed count genes) ∙ ap (λ (l : List ℕ). records_in count l) alike ∙ records-needed count others

  short-alike : ltb (length genes) (32 * count) ≡ ltb (length others) (32 * count)
  short-alike =
      sym (short-needed (32 * count) genes) ∙ ap (λ (l : List ℕ). ltb (length l) (32 * count)) alike ∙ short-needed (32 * count) others

  length-alike : length_test (length genes) (32 * count) ≡ length_test (length others) (32 * count)
  unfolding length_test
  length-alike = ap (λ (b : Bool). record { fault = b; number = 12; place = 0 }) short-alike

  -- two calls whose needed entries are alike have the same reply
  pub weighs_needs_only : (n a : ℕ) (r : Reply) → Weighs rooting n genes count a r → Weighs rooting n others count a r
  unfolding Weighs weight_tests
  weighs_needs_only n a r p = rw (← length-alike, ← records-alike) p

  pub scores-needs-only : (n : ℕ) (species : List ℕ) (r : Reply) → Scores rooting n genes count species r → Scores rooting n others count species r
  unfolding Scores score_tests
  scores-needs-only n species r p = rw (← length-alike, ← records-alike) p

  pub marks-needs-only : {n : ℕ} {out after : List ℕ} {r : Reply} → Marks rooting n genes count out r after → Marks rooting n others count out r after
  unfolding mark_tests
  marks-needs-only p = record { reply = rw (← length-alike, ← records-alike) p.reply; bytes = rw (← length-alike, ← records-alike) p.bytes }
