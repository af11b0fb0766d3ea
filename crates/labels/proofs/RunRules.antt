-- Runs by the rules are the runs that are counted.
use Prim.Native.Nat.{ℕ, zero, suc, ◌<◌, min}
use native.Mathlib.Omega.{arith}
use mathlib.Core.Path.{◌≡◌, refl, ap}
use mathlib.Core.Bool.{Bool, true, false}
use mathlib.Core.List.{List, [], ◌∷◌, ◌++◌}
use lib.ListN.{length, take, drop}
use Rattle.labels.specs.Bytes.{one_more, run}
use Rattle.labels.specs.Spelling.{Run}
use Rattle.labels.specs.Spelling.Run.{one, next}
use Rattle.labels.proofs.Bytewise.{All}
use Rattle.labels.proofs.Bytewise.All.{no_byte, a_byte}

pub run_some : {test : ℕ → Bool} {w s rest : List ℕ} → Run test w s rest → 0 < length w
run_some (one is) = omega arith
run_some (next is h) = omega arith

pub run-splits : {test : ℕ → Bool} {w s rest : List ℕ} → Run test w s rest → s ≡ w ++ rest
run-splits (one is) = refl
run-splits (next {b = b} is h) = ap (λ (l : List ℕ). b ∷ l) (run-splits h)

pub run_all : {test : ℕ → Bool} {w s rest : List ℕ} → Run test w s rest → All test w
run_all (one is) = a_byte is no_byte
run_all (next is h) = a_byte is (run_all h)

-- a run that stops where it ends is as long as the one that is counted
pub run-exact : {test : ℕ → Bool} {w s rest : List ℕ} → Run test w s rest → run test rest ≡ 0 → run test s ≡ length w
unfolding run
run-exact (one is) e = rw (is, e)
run-exact (next is h) e = rw (is, run-exact h e)

-- a run that is counted is one by the rules
pub run-derives : (test : ℕ → Bool) (s : List ℕ) → 0 < run test s → Run test (take (run test s) s) s (drop (run test s) s)
unfolding run
run-derives test [] l = absurd (omega arith)
run-derives test (b ∷ s) l = go (test b) (run test s) refl l (λ m. run-derives test s m)
  where
    go :
        (t : Bool) (n : ℕ) → test b ≡ t → 0 < one_more t n → (0 < n → Run test (take n s) s (drop n s))
        → Run test (take (one_more t n) (b ∷ s)) (b ∷ s) (drop (one_more t n) (b ∷ s))
    go true zero is m h = one is
    go true (suc n) is m h = next is (h (omega arith))
    go false n is m h = absurd (omega arith)

-- bytes that pass another test make a run by it
pub run_by : {test test' : ℕ → Bool} {w s rest : List ℕ} → Run test w s rest → All test' w → Run test' w s rest
run_by (one is) (a_byte ok all) = one ok
run_by (next is h) (a_byte ok all) = next ok (run_by h all)

-- the bytes that are counted pass
pub run-bytes : (test : ℕ → Bool) (s : List ℕ) → All test (take (run test s) s)
unfolding run
run-bytes test [] = no_byte
run-bytes test (b ∷ s) = by (test b) refl (run-bytes test s)
  where
    by : (t : Bool) → test b ≡ t → All test (take (run test s) s) → All test (take (one_more t (run test s)) (b ∷ s))
    by true is all = a_byte is all
    by false is all = no_byte

-- the run in the first m bytes
pub run_take : (test : ℕ → Bool) (m : ℕ) (s : List ℕ) → run test (take m s) ≡ min m (run test s)
unfolding run
run_take test zero s = omega arith
run_take test (suc m) [] = omega arith
run_take test (suc m) (b ∷ s) = go (test b) (run_take test m s)
  where
    go : (t : Bool) → run test (take m s) ≡ min m (run test s) → one_more t (run test (take m s)) ≡ min (suc m) (one_more t (run test s))
    go true h = omega arith
    go false h = omega arith
