-- How large the whole set of a record may be: of no more species than its breadth, and than the 32 digits of a set (`clusters`).
use Prim.Native.Nat.{ℕ, ◌^◌, ◌≤◌, ◌<◌, min}
use native.Mathlib.Omega.{arith}
use lib.Pow.{pow_mono}
use Rattle.clusters.specs.Sets.{whole}
use Rattle.clusters.proofs.Sets.{whole_below}

-- for 01's records `s < 2 ^ 16`, for wide ones `s < 2 ^ 32`
abbrev pub Small : ℕ → ℕ → Type 0
Small b s = s < 2 ^ min b 32

pub small_of_breadth : {s : ℕ} (b : ℕ) → b ≤ 32 → s < 2 ^ b → Small b s
small_of_breadth {s} b narrow below = omega (arith, pow_mono {i = b} {j = min b 32} (omega arith))

pub small_in_breadth : {s : ℕ} (b : ℕ) → Small b s → s < 2 ^ b
small_in_breadth {s} b small = omega (arith, pow_mono {i = min b 32} {j = b} (omega arith))

pub small_of_digits : {s : ℕ} (b : ℕ) → Small b s → s < 2 ^ 32
small_of_digits {s} b small = omega (arith, pow_mono {i = min b 32} {j = 32} (omega arith))

-- a set of n species
pub small_of_species : {n s : ℕ} (b : ℕ) → n ≤ min b 32 → s < 2 ^ n → Small b s
small_of_species {n} {s} b few below = omega (arith, pow_mono {i = n} {j = min b 32} few)

-- all n species
pub whole_small : (b n : ℕ) → n ≤ min b 32 → Small b (whole n)
whole_small b n few = small_of_species b few (whole_below n)
