-- `clusters::whole` meets its contract: no digit is shifted out of 64, and one less than a power of two up to 2^32 has 32 digits.
use Prim.Native.Nat.{ℕ, ◌*◌, ◌%◌, ◌^◌, ◌≤◌}
use mathlib.Core.Path.{◌≡◌, ◌∙◌}
use native.Mathlib.Nat.{one-mul}
use native.Mathlib.Omega.{arith}
use lib.Pow.{pow_pos, pow_mono, shl_exact}
use Rattle.clusters.specs.Sets.{whole}
use Rattle.clusters.proofs.whole.Goals as goal

shifted : (n : ℕ) → n ≤ 32 → (1 * 2 ^ n) % 2 ^ 64 ≡ 2 ^ n
shifted n few = shl_exact 1 n 64 (omega arith) (omega arith) ∙ one-mul (2 ^ n)

pub overflow_sub-result : goal.overflow_sub-result
overflow_sub-result c =
    omega (arith, shifted c.args.n c.requires, pow_pos c.args.n)

pub overflow_cast-result : goal.overflow_cast-result
overflow_cast-result c =
    record { fits = omega (arith, shifted c.args.n c.requires, pow_mono {i = c.args.n} {j = 32} c.requires) }

pub returns : goal.returns
unfolding whole
returns c =
    omega (arith, shifted c.args.n c.requires)
