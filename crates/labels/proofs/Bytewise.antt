-- Lists whose every byte passes a test.
use Prim.Native.Nat.{ℕ, zero, suc, ◌<◌, suc-le-suc}
use native.Mathlib.Nat.{not-suc-le-zero, le_of_suc-le-suc}
use native.Mathlib.Omega.{arith}
use mathlib.Core.Path.{◌≡◌}
use mathlib.Core.Bool.{Bool, true}
use mathlib.Core.List.{List, [], ◌∷◌, ◌++◌}
use lib.ListN.{length, get_or, take, drop}

-- every byte of the list passes the test
pub data All (test : ℕ → Bool) : List ℕ → Type 0 where
  no_byte : All test []
  a_byte : {b : ℕ} {s : List ℕ} → test b ≡ true → All test s → All test (b ∷ s)

module _ {test : ℕ → Bool} where
  pub all_first : {b : ℕ} {s : List ℕ} → All test (b ∷ s) → test b ≡ true
  all_first (a_byte is all) = is

  pub all_tail : {b : ℕ} {s : List ℕ} → All test (b ∷ s) → All test s
  all_tail (a_byte is all) = all

  pub all_drop : (n : ℕ) {s : List ℕ} → All test s → All test (drop n s)
  all_drop zero all = all
  all_drop (suc n) no_byte = no_byte
  all_drop (suc n) (a_byte is all) = all_drop n all

  pub all_take : (n : ℕ) {s : List ℕ} → All test s → All test (take n s)
  all_take zero all = no_byte
  all_take (suc n) no_byte = no_byte
  all_take (suc n) (a_byte is all) = a_byte is (all_take n all)

  pub all_left : (u v : List ℕ) → All test (u ++ v) → All test u
  all_left [] v all = no_byte
  all_left (b ∷ u) v (a_byte is all) = a_byte is (all_left u v all)

  pub all_append : {u v : List ℕ} → All test u → All test v → All test (u ++ v)
  all_append no_byte all = all
  all_append (a_byte is all) more = a_byte is (all_append all more)

  pub all_at : {s : List ℕ} → All test s → (k : ℕ) → k < length s → test (get_or s k 0) ≡ true
  all_at no_byte k l = absurd (not-suc-le-zero l)
  all_at (a_byte is all) zero l = is
  all_at (a_byte is all) (suc k) l = all_at all k (le_of_suc-le-suc l)

  -- place by place
  pub all_of : (s : List ℕ) → ((k : ℕ) → k < length s → test (get_or s k 0) ≡ true) → All test s
  all_of [] each = no_byte
  all_of (b ∷ s) each = a_byte (each zero (omega arith)) (all_of s (λ k l. each (suc k) (suc-le-suc l)))

-- what passes one test passes another
pub all_weaker : {test test' : ℕ → Bool} → ((b : ℕ) → test b ≡ true → test' b ≡ true) → {s : List ℕ} → All test s → All test' s
all_weaker weaker no_byte = no_byte
all_weaker weaker (a_byte {b = b} is all) = a_byte (weaker b is) (all_weaker weaker all)
