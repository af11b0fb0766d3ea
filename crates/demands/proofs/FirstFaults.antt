-- Tests in order say exactly the first fault: one law for a test, one for a test with others behind it.
use Prim.Native.Nat.{ℕ, zero, suc}
use mathlib.Core.Path.{◌≡◌, refl, sym, ◌∙◌, subst₂}
use mathlib.Core.Logic.{◌↔◌}
use mathlib.Core.Bool.{Bool, true, false, true≢false}
use mathlib.Core.List.{List, [], ◌∷◌, ◌++◌}
use native.Mathlib.Omega.{arith}
use Rattle.roster.specs.Verdict.{Test, Verdict, verdict, verdict_by}
use Rattle.trees.proofs.Booleans.{unless}
use Rattle.lineages.proofs.Verdicts.{NoneGives}
use Rattle.demands.specs.CallFaults.{◌before◌}
use Rattle.demands.specs.CallFaults.◌before◌.{first, later}

-- no fault of F stands
abbrev pub NoFault : (ℕ → ℕ → Type 0) → Type 0
NoFault F = (k p : ℕ) → F k p → ⊥

-- ---- what is said is the first fault

-- R is what is said, by number and place: it is said exactly where F has that fault
pub record Names (R F : ℕ → ℕ → Type 0) : Type 0 where
  pub found : {k p : ℕ} → R k p → F k p
  pub only : {k p : ℕ} → F k p → R k p

module _ {R F : ℕ → ℕ → Type 0} where
  -- the one thing that is said is the one fault
  pub names_one :
      {k p : ℕ} → R k p → ((j q : ℕ) → R j q → (j ≡ k) × (q ≡ p)) → F k p → ((j q : ℕ) → F j q → (j ≡ k) × (q ≡ p)) → Names R F
  names_one r said f one = record {
    found = λ {k = j} {p = q} s. let h = said j q s in subst₂ F (sym h.0) (sym h.1) f;
    only = λ {k = j} {p = q} g. let h = one j q g in subst₂ R (sym h.0) (sym h.1) r;
  }

  -- the first kind has a fault, and others do not matter
  pub names_first : {G : ℕ → ℕ → Type 0} (k p : ℕ) → F k p → Names R F → Names R (F before G)
  names_first {G} k p f s = record { found = λ r. first (s.found r); only = only }
    where
      only : {j q : ℕ} → (F before G) j q → R j q
      only (first g) = s.only g
      only (later free g) = absurd (free k p f)

  -- the first kind has none, and the others decide
  pub names_later : {G : ℕ → ℕ → Type 0} → NoFault F → Names R G → Names R (F before G)
  names_later {G} free s = record { found = λ r. later free (s.found r); only = only }
    where
      only : {j q : ℕ} → (F before G) j q → R j q
      only {j} {q} (first f) = absurd (free j q f)
      only (later h g) = s.only g

-- ---- tests

-- what a verdict says: its number and place, where the number is not 0
pub record SaidBy (said : Verdict) (k p : ℕ) : Type 0 where
  pub numbered : k ≡ said.number
  pub placed : p ≡ said.place
  pub some : k ≡ 0 → ⊥

-- the verdict names a fault of F where its number is not 0, and F has no other
abbrev pub Exact : Verdict → (ℕ → ℕ → Type 0) → Type 0
Exact said F = Names (SaidBy said) F

-- a number that is not 0 is said at a place, and that is F's one fault
pub exact_one : {F : ℕ → ℕ → Type 0} {k p : ℕ} → (k ≡ 0 → ⊥) → F k p → ((j q : ℕ) → F j q → (j ≡ k) × (q ≡ p)) → Exact (record { number = k; place = p }) F
exact_one some f one = names_one (record { numbered = refl; placed = refl; some = some }) (λ j q s. (s.numbered, s.placed)) f one

-- nothing is said, and F has no fault
pub exact_none : {F : ℕ → ℕ → Type 0} {p : ℕ} → NoFault F → Exact (record { number = 0; place = p }) F
exact_none none = record { found = λ s. absurd (s.some s.numbered); only = λ {k} {p} f. absurd (none k p f) }

-- the test finds a fault exactly where F has one, and that is its only one
pub record Meets (t : Test) (F : ℕ → ℕ → Type 0) : Type 0 where
  pub numbered : t.number ≡ 0 → ⊥
  pub found : t.fault ≡ true → F t.number t.place
  pub only : {k p : ℕ} → F k p → (t.fault ≡ true) × (k ≡ t.number) × (p ≡ t.place)

-- a test passes exactly where none of its faults stands
module _ {t : Test} {F : ℕ → ℕ → Type 0} (m : Meets t F) where
  pub passed_none : t.fault ≡ false → NoFault F
  passed_none e k p f = true≢false (sym (m.only f).0 ∙ e)

  pub none_passed : NoFault F → t.fault ≡ false
  none_passed none = unless t.fault (λ e. none t.number t.place (m.found e))

  -- where it does not, it says its fault
  met : t.fault ≡ true → Exact (record { number = t.number; place = t.place }) F
  met e = exact_one m.numbered (m.found e) (λ j q f. let h = m.only f in (h.1, h.2))

-- the last test
pub exact_last : {t : Test} {F : ℕ → ℕ → Type 0} → Meets t F → Exact (verdict (t ∷ [])) F
unfolding verdict
exact_last {t} {F} m = go t.fault refl
  where
    go : (b : Bool) → t.fault ≡ b → Exact (verdict_by b t (verdict [])) F
    go true e = met m e
    go false e = exact_none (passed_none m e)

-- a test, and those behind it
pub exact_next :
    {t : Test} (l : List Test) {F G : ℕ → ℕ → Type 0} → Meets t F → (t.fault ≡ false → Exact (verdict l) G) → Exact (verdict (t ∷ l)) (F before G)
unfolding verdict
exact_next {t} l {F} {G} m rest = go t.fault refl
  where
    go : (b : Bool) → t.fault ≡ b → Exact (verdict_by b t (verdict l)) (F before G)
    go true e = names_first t.number t.place (m.found e) (met m e)
    go false e = names_later (passed_none m e) (rest e)

-- ---- what follows for a reply with that number and place

module _ {said : Verdict} {F : ℕ → ℕ → Type 0} (exact : Exact said F) where
  -- refused with a number at a place exactly where that fault stands
  pub refused_at_lem : {number place : ℕ} → number ≡ said.number → place ≡ said.place → (k p : ℕ)
      → ((number ≡ k) × (place ≡ p) × (k ≡ 0 → ⊥)) ↔ F k p
  refused_at_lem {number} {place} e e' k p = (
    λ h. exact.found (record { numbered = sym h.0 ∙ e; placed = sym h.1 ∙ e'; some = h.2 }),
    λ f. let o = exact.only f in (e ∙ sym o.numbered, e' ∙ sym o.placed, o.some),
  )

  -- at most one number and place has a fault
  pub one_fault : {k p k' p' : ℕ} → F k p → F k' p' → (k ≡ k') × (p ≡ p')
  one_fault f f' = let o = exact.only f in let o' = exact.only f' in (o.numbered ∙ sym o'.numbered, o.placed ∙ sym o'.placed)

-- ---- no fault at all

-- none in an order of faults is none of each kind
module _ {F G : ℕ → ℕ → Type 0} where
  pub none_first : NoFault (F before G) → NoFault F
  none_first h k p f = h k p (first f)

  pub none_later : NoFault (F before G) → NoFault G
  none_later h k p g = h k p (later (none_first h) g)

  pub none_of_both : NoFault F → NoFault G → NoFault (F before G)
  none_of_both f g k p (first h) = f k p h
  none_of_both f g k p (later none h) = g k p h

-- number 0 exactly where none stands
pub none_exactly : {said : Verdict} {F : ℕ → ℕ → Type 0} → Exact said F → (said.number ≡ 0) ↔ NoFault F
none_exactly {said} {F} exact = (λ z k p f. let o = exact.only f in o.some (o.numbered ∙ z), λ none. go said.number refl none)
  where
    go : (n : ℕ) → said.number ≡ n → NoFault F → n ≡ 0
    go zero e none = refl
    go (suc n) e none = absurd (none said.number said.place (exact.found (record { numbered = refl; placed = refl; some = λ z. omega arith })))

-- ---- tests behind others

-- where the first tests pass, the others decide
pub behind-passed : (l k : List Test) → NoneGives 0 l → (verdict l).number ≡ 0 → verdict (l ++ k) ≡ verdict k
unfolding verdict NoneGives
behind-passed [] k h z = refl
behind-passed (t ∷ l) k h z = go t.fault z (behind-passed l k h.1)
  where
    go : (b : Bool) → (verdict_by b t (verdict l)).number ≡ 0 → ((verdict l).number ≡ 0 → verdict (l ++ k) ≡ verdict k) → verdict_by b t (verdict (l ++ k)) ≡ verdict k
    go true z ih = absurd (h.0 z)
    go false z ih = ih z
