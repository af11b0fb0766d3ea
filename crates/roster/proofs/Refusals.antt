-- What a verdict says of an answer: 0 stands for a value alone, and no two refusals have one verdict.
use Prim.Native.Nat.{ℕ, zero, suc, ◌≤◌}
use native.Mathlib.Omega.{arith}
use mathlib.Core.Path.{◌≡◌, sym, ap, ap₂, ◌∙◌}
use mathlib.Core.List.{List, [], ◌∷◌}
use lib.ListN.{get_or}
use Rattle.std.proofs.Common.{Result, Ok, Err, IfOk, refl, lit≤}
use Rattle.faults.specs.Faults.{number}
use Rattle.faults.specs.declared.Fault.{Fault}
use Rattle.faults.specs.declared.Fault.TheVariants.{FaultyRoster, LongText, StrayByte, LongWord, UnknownName, RepeatedName, SingleChild, TooDeep, MissingSpecies, TextEnds, GeneCount, ShortSlice, NoCluster, NoTree, BadRecord, BadSpeciesRecord, TooLarge, TooFine, Unresolved, FaultyMapping, WrongCount}
use Rattle.faults.specs.declared.Refusal.{Refusal}
use Rattle.roster.specs.Verdict.{Verdict, said_by, value_by, reply_of}
use Rattle.roster.specs.Judged.{reply_to}

-- the fault at the place of its number
abbrev by_number : List Fault
by_number = FaultyRoster ∷ FaultyRoster ∷ LongText ∷ StrayByte ∷ LongWord ∷ UnknownName ∷ RepeatedName ∷ SingleChild ∷ TooDeep ∷ MissingSpecies ∷ TextEnds ∷ GeneCount ∷ ShortSlice ∷ NoCluster ∷ NoTree ∷ BadRecord ∷ BadSpeciesRecord ∷ TooLarge ∷ TooFine ∷ Unresolved ∷ FaultyMapping ∷ FaultyRoster ∷ FaultyRoster ∷ WrongCount ∷ []

number-finds : (f : Fault) → get_or by_number (number f) FaultyRoster ≡ f
number-finds FaultyRoster = refl
number-finds LongText = refl
number-finds StrayByte = refl
number-finds LongWord = refl
number-finds UnknownName = refl
number-finds RepeatedName = refl
number-finds SingleChild = refl
number-finds TooDeep = refl
number-finds MissingSpecies = refl
number-finds TextEnds = refl
number-finds GeneCount = refl
number-finds ShortSlice = refl
number-finds NoCluster = refl
number-finds NoTree = refl
number-finds BadRecord = refl
number-finds BadSpeciesRecord = refl
number-finds TooLarge = refl
number-finds TooFine = refl
number-finds Unresolved = refl
number-finds FaultyMapping = refl
number-finds WrongCount = refl

-- no two faults have one number
pub same_number : (f g : Fault) → number f ≡ number g → f ≡ g
same_number f g e = sym (number-finds f) ∙ ap (λ (n : ℕ). get_or by_number n FaultyRoster) e ∙ number-finds g

-- and none has 0
pub number-some : (f : Fault) → 1 ≤ number f
number-some FaultyRoster = lit≤ tt
number-some LongText = lit≤ tt
number-some StrayByte = lit≤ tt
number-some LongWord = lit≤ tt
number-some UnknownName = lit≤ tt
number-some RepeatedName = lit≤ tt
number-some SingleChild = lit≤ tt
number-some TooDeep = lit≤ tt
number-some MissingSpecies = lit≤ tt
number-some TextEnds = lit≤ tt
number-some GeneCount = lit≤ tt
number-some ShortSlice = lit≤ tt
number-some NoCluster = lit≤ tt
number-some NoTree = lit≤ tt
number-some BadRecord = lit≤ tt
number-some BadSpeciesRecord = lit≤ tt
number-some TooLarge = lit≤ tt
number-some TooFine = lit≤ tt
number-some Unresolved = lit≤ tt
number-some FaultyMapping = lit≤ tt
number-some WrongCount = lit≤ tt

module _ {A : Type 0} where
  -- 0 is said of a value alone
  pub said-value : (r : Result A Refusal) → (said_by r).number ≡ 0 → (v : A) × (r ≡ Ok v)
  said-value (Ok v) e = (v, refl)
  said-value (Err f) e = let some = number-some f.fault in absurd (omega arith)

  -- and a refusal by its number and place
  pub said-refusal : (r : Result A Refusal) (e : Refusal) → said_by r ≡ record { number = number e.fault; place = e.place } → r ≡ Err e
  said-refusal (Ok v) e is =
      let some = number-some e.fault in
      let none = ap (λ (s : Verdict). s.number) is in
      absurd (omega arith)
  said-refusal (Err f) e is =
      let fault = same_number f.fault e.fault (ap (λ (s : Verdict). s.number) is) in
      let place = ap (λ (s : Verdict). s.place) is in
      ap₂ (λ (x : Fault) (p : ℕ). Err (record { fault = x; place = p })) fault place

-- ---- the reply of an answer, by what tests say

no_value : (n v : ℕ) → 1 ≤ n → value_by n v ≡ 0
no_value zero v h = absurd (omega arith)
no_value (suc n) v h = refl

-- an answer that has the verdict of the tests, and this value where it has one, is replied as the tests say
pub reply-said : (r : Result ℕ Refusal) (said : Verdict) (v : ℕ) → said_by r ≡ said → IfOk r (λ x. x ≡ v) → reply_to r ≡ reply_of said v
reply-said (Ok x) said v is value = rw (← is, value) refl
reply-said (Err e) said v is value = rw (← is, no_value (number e.fault) v (number-some e.fault)) refl
