-- What a threshold changes in a reading (#113): a text that draws a tree is refused by 18 where a support of it is too fine; no answer changes but to 18.
use Prim.Native.Nat.{ℕ}
use mathlib.Core.Path.{◌≡◌, refl, sym, ◌∙◌}
use mathlib.Core.Bool.{Bool, true, false, false≢true}
use mathlib.Core.List.{List}
use Rattle.trees.specs.Tree.{Tree, Behind}
use Rattle.tokens.specs.Answers.{Answer, and_then}
use Rattle.tokens.specs.Answers.Answer.{parsed, refused}
use Rattle.tokens.specs.Tokens.{numbers}
use Rattle.tokens.specs.Values.{too_fine}
use Rattle.tokens.specs.Supports.{unless_fine, refuses_fine, supported}
use Rattle.nodes.specs.Reading.{labelled, read_tree}
use Rattle.nodes.specs.Worth.{NoneFine}
use Rattle.nodes.proofs.Answers.{refused-parsed, parsed-refused, parsed_same}
use Rattle.nodes.proofs.Scanners.{Beside, Simulates, read-beside}
use Rattle.nodes.proofs.Scanners.Beside.{both_read, both_refused, excused}

-- the one refusal that judging adds
abbrev By18 : ℕ → Type 0
By18 n = n ≡ 18

abbrev Coarse : Behind → Type 0
Coarse b = too_fine b.support ≡ false

-- what stands behind a node, judged and not
judged-beside : (w s : List ℕ) (p : ℕ) → Beside By18 Coarse (supported true w s p) (supported false w s p)
unfolding supported
judged-beside w s p = by (numbers w s p)
  where
    fine : (t : Bool) (b : Behind) (s : List ℕ) (p : ℕ) → too_fine b.support ≡ t → Beside By18 Coarse (unless_fine t b s p) (parsed b s p)
    fine true b s p is =
        excused refl (λ x rest r e coarse. let same : b ≡ x = parsed_same e in false≢true (sym coarse ∙ (rw (← same) is)))
    fine false b s p is = both_read is

    by : (a : Answer Behind)
        → Beside By18 Coarse (and_then a (λ b s p. unless_fine (refuses_fine true b.support) b s p))
        (and_then a (λ b s p. unless_fine (refuses_fine false b.support) b s p))
    by (parsed b s p) = fine (too_fine b.support) b s p refl
    by (refused n q) = both_refused

judged_simulates : Simulates (labelled true) (λ s. Unit {0}) By18 Coarse
judged_simulates = record {
  begins_same = λ s fair. refl;
  leaf_same = λ s p fair. refl;
  inner_same = λ s p fair. refl;
  behind_beside = judged-beside;
  fair_drop = λ n s fair. tt;
}

module _ (names : List (List ℕ)) (most needed : ℕ) (s : List ℕ) (p : ℕ) where
  beside : Beside By18 NoneFine (read_tree true names most needed s p) (read_tree false names most needed s p)
  beside = read-beside (labelled true) (λ s. Unit {0}) By18 Coarse judged_simulates names most needed s p tt

  -- what is read with a threshold is read without one, and no support of it is too fine
  pub judged-read :
      {t : Tree} {rest : List ℕ} {q : ℕ} → read_tree true names most needed s p ≡ parsed t rest q → (read_tree false names most needed s p ≡ parsed t rest q) × NoneFine t
  judged-read {t} {rest} {q} is = by beside is
    where
      by : {a b : Answer Tree} → Beside By18 NoneFine a b → a ≡ parsed t rest q → (b ≡ parsed t rest q) × NoneFine t
      by (both_read {x = x} none) e = (e, let same : x ≡ t = parsed_same e in rw (← same) none)
      by both_refused e = absurd (refused-parsed e)
      by (excused n never) e = absurd (refused-parsed e)

  -- what is read without a threshold is read with one, where no support of it is too fine
  pub unjudged-read :
      {t : Tree} {rest : List ℕ} {q : ℕ} → read_tree false names most needed s p ≡ parsed t rest q → NoneFine t → read_tree true names most needed s p ≡ parsed t rest q
  unjudged-read {t} {rest} {q} is none = by beside is
    where
      by : {a b : Answer Tree} → Beside By18 NoneFine a b → b ≡ parsed t rest q → a ≡ parsed t rest q
      by (both_read fits) e = e
      by both_refused e = e
      by (excused n never) e = absurd (never t rest q e none)

  -- every refusal but 18 is the same without a threshold
  pub judged-refused : {n q : ℕ} → read_tree true names most needed s p ≡ refused n q → (n ≡ 18 → ⊥) → read_tree false names most needed s p ≡ refused n q
  judged-refused {n} {q} is other = by beside is
    where
      by : {a b : Answer Tree} → Beside By18 NoneFine a b → a ≡ refused n q → b ≡ refused n q
      by (both_read fits) e = absurd (parsed-refused e)
      by both_refused e = e
      by (excused {n = m} eighteen never) e = let same : m ≡ n = cc in absurd (other (sym same ∙ eighteen))
