-- Runs of bytes that pass a test, read off byte by byte.
use Prim.Native.Nat.{ℕ, zero, suc, ◌+◌, ◌-◌, ◌≤◌, ◌<◌, zero-le}
use native.Mathlib.Nat.{not-suc-le-zero, le_of_suc-le-suc}
use native.Mathlib.Omega.{arith}
use native.Mathlib.Numerals.{add-one, one-add}
use mathlib.Core.Path.{◌≡◌, refl, ap}
use Rattle.std.specs.List.{prefix_len}
use mathlib.Core.Bool.{Bool, true, false, cond}
use mathlib.Core.List.{List, [], ◌∷◌}
use lib.ListN.{length, get_or, take, drop, drop_of_length-le, length-drop}
use lib.Seq.{drop-cons}
use Rattle.labels.specs.Bytes.{run, one_more}

module _ (test : ℕ → Bool) where
  -- a byte that passes lengthens the run behind it by one
  pub run_on : (s : List ℕ) (i : ℕ) → i < length s → test (get_or s i 0) ≡ true → run test (drop i s) ≡ suc (run test (drop (i + 1) s))
  unfolding run
  run_on s i h e = rw (add-one, drop-cons s i 0, e)

  -- a byte that does not pass ends it
  pub run-off : (s : List ℕ) (i : ℕ) → i < length s → test (get_or s i 0) ≡ false → run test (drop i s) ≡ 0
  unfolding run
  run-off s i h e = rw (drop-cons s i 0, e)

  -- so does the end
  pub run_end : (s : List ℕ) (i : ℕ) → length s ≤ i → run test (drop i s) ≡ 0
  unfolding run
  run_end s i h = rw (drop_of_length-le s h)

  -- as the library counts them
  pub run_counted : (s : List ℕ) → length (take (prefix_len test s) s) ≡ run test s
  unfolding run
  run_counted [] = refl
  run_counted (b ∷ s) = by (test b) (run_counted s)
    where
      by : (t : Bool) → length (take (prefix_len test s) s) ≡ run test s → length (take (cond t (1 + prefix_len test s) 0) (b ∷ s)) ≡ one_more t (run test s)
      by true h = rw one-add (ap suc h)
      by false h = refl

  -- a run is no longer than the bytes
  pub run-within : (s : List ℕ) → run test s ≤ length s
  unfolding run
  run-within [] = zero-le
  run-within (b ∷ s) = by_byte (test b) (run-within s)
    where
      by_byte : (t : Bool) → run test s ≤ length s → one_more t (run test s) ≤ suc (length s)
      by_byte true h = omega arith
      by_byte false h = zero-le

  -- a run from a place on ends within the text
  pub run_left : (s : List ℕ) (at n : ℕ) → n ≡ run test (drop at s) → n ≤ length s - at
  run_left s at n e = let h = run-within (drop at s) in rw (e, ← length-drop at s) h

  -- each byte of a run passes
  pub run-byte : (s : List ℕ) (k : ℕ) → k < run test s → test (get_or s k 0) ≡ true
  unfolding run
  run-byte [] k h = absurd (not-suc-le-zero h)
  run-byte (b ∷ s) k h = by_byte (test b) refl k h (run-byte s)
    where
      by_byte : (t : Bool) → test b ≡ t → (k : ℕ) → k < one_more t (run test s) → ((j : ℕ) → j < run test s → test (get_or s j 0) ≡ true)
          → test (get_or (b ∷ s) k 0) ≡ true
      by_byte true e zero l later = e
      by_byte true e (suc k) l later = later k (le_of_suc-le-suc l)
      by_byte false e k l later = absurd (not-suc-le-zero l)

  -- the byte behind a run does not, nor does the 0 that stands for no byte
  pub run-behind : test 0 ≡ false → (s : List ℕ) → test (get_or s (run test s) 0) ≡ false
  unfolding run
  run-behind z [] = z
  run-behind z (b ∷ s) = by_byte (test b) refl (run-behind z s)
    where
      by_byte : (t : Bool) → test b ≡ t → test (get_or s (run test s) 0) ≡ false → test (get_or (b ∷ s) (one_more t (run test s)) 0) ≡ false
      by_byte true e later = later
      by_byte false e later = e
