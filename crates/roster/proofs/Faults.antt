-- The first fault of a roster line: what the number means, and how it is found.
use Prim.Native.Nat.{ℕ, suc, ◌+◌, ◌≤◌, ◌<◌, zero-le}
use native.Mathlib.Omega.{arith}
use mathlib.Core.Path.{◌≡◌}
use mathlib.Core.Bool.{true, false}
use mathlib.Core.List.{List}
use lib.ListN.{length}
use Rattle.std.specs.Prelude.{Ok, Err}
use Rattle.faults.specs.declared.Fault.TheVariants.{FaultyRoster}
use borrow.Author.Tests.{le-leb, lt-leb, leb-true, leb-false}
use Rattle.roster.specs.Roster.{fault_at, first_fault, faulty, names}
use Rattle.roster.specs.Table.{table}
use Rattle.roster.specs.Judged.{roster_of}
use Rattle.roster.proofs.Least.{least_is, least_none, least_first}

module _ (most : ℕ) (line : List ℕ) where
  -- no fault stands before p
  abbrev pub Clean : ℕ → Type 0
  Clean p = (q : ℕ) → q < p → fault_at most line q ≡ false

  -- what the place of a faulty roster is: a fault stands there, and none before it
  pub first_fault_lem : faulty most line ≡ true → (fault_at most line (first_fault most line) ≡ true) × Clean (first_fault most line)
  unfolding faulty first_fault
  first_fault_lem e =
      let found = least_first (fault_at most line) (suc (length line)) 0 in
      let near = leb-true (first_fault most line) (length line) e in
      (found.0 (omega arith), (λ q l. found.1 q zero-le l))

  -- and it lies within the line, or right behind it
  pub fault-within : faulty most line ≡ true → first_fault most line ≤ length line
  unfolding faulty
  fault-within e = leb-true (first_fault most line) (length line) e

  -- a good roster has no fault
  pub no_fault_lem : faulty most line ≡ false → (q : ℕ) → q ≤ length line → fault_at most line q ≡ false
  unfolding faulty first_fault
  no_fault_lem e q l =
      let found = least_first (fault_at most line) (suc (length line)) 0 in
      let far = leb-false (first_fault most line) (length line) e in
      found.1 q zero-le (omega arith)

  fault_first : (p : ℕ) → p ≤ length line → fault_at most line p ≡ true → Clean p → first_fault most line ≡ p
  unfolding first_fault
  fault_first p l e clean = least_is (fault_at most line) (suc (length line)) 0 p zero-le (omega arith) e (λ q z. clean q)

  -- the roster where the first fault stands at p
  pub faulty_roster : (p : ℕ) → p ≤ length line → fault_at most line p ≡ true → Clean p
      → Err (record { fault = FaultyRoster; place = p }) ≡ roster_of most line
  unfolding roster_of faulty
  faulty_roster p l e clean =
      let at = fault_first p l e clean in
      rw (le-leb (first_fault most line) (length line) (rw at l), at)

  -- the roster where none does
  pub roster_good : Clean (suc (length line)) → Ok (record { count = length (names line); table = table (names line) }) ≡ roster_of most line
  unfolding roster_of faulty first_fault
  roster_good clean =
      let none = least_none (fault_at most line) (suc (length line)) 0 (λ q z l. clean q (omega arith)) in
      rw (none, lt-leb (0 + suc (length line)) (length line) (omega arith))
