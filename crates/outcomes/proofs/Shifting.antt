-- A refusal of the gene trees, at its place in the input.
use Rattle.std.proofs.Common.{ℕ, ◌+◌, ◌≡◌, sym, ◌∙◌, refl, Result, Ok, Err}
use Rattle.std.specs.Result.{result_map_both}
use Rattle.faults.specs.declared.Refusal.{Refusal}
use Rattle.std.proofs.lemmas.Result.{MatchResult-at_ok, MatchResult-at_err}

abbrev pub shifted : ℕ → Refusal → Refusal
shifted shift e = record { fault = e.fault; place = shift + e.place }

module _ (shift : ℕ) {r : Result ℕ Refusal} where
  -- a refusal was one
  pub shifted-err :
      (g : Result ℕ Refusal) {x : Refusal} → r ≡ result_map_both (λ s. s) (λ e. shifted shift e) g → r ≡ Err x
      → (e : Refusal) × (g ≡ Err e) × (x ≡ shifted shift e)
  shifted-err (Ok n) {x} m is = absurd (MatchResult-at_ok (λ _. ⊥) (λ _. Unit {0}) n m (rw is (tt {0})))
  shifted-err (Err e) {x} m is = (e, refl, MatchResult-at_err (λ _. Unit {0}) (λ y. y ≡ shifted shift e) x is (rw m refl))

  -- and a count was
  pub shifted-ok : (g : Result ℕ Refusal) {n : ℕ} → r ≡ result_map_both (λ s. s) (λ e. shifted shift e) g → r ≡ Ok n → g ≡ Ok n
  shifted-ok (Ok m) e is = sym e ∙ is
  shifted-ok (Err e) {n} m is = absurd (MatchResult-at_ok (λ _. ⊥) (λ _. Unit {0}) n is (rw m (tt {0})))
