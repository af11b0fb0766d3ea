-- `records::binary` meets its contract: a set of 32 bits has at most 32 species, so nothing wraps, and the test is the definition.
use Prim.Native.Nat.{◌+◌, ◌*◌}
use borrow.Author.Rules.{rules}
use borrow.Author.Tests.{eqb-true, eqb-false}
use native.Mathlib.Omega.{arith}
use lib.Dec.{eqb}
use Rattle.clusters.proofs.Sizes.{size-le}
use Rattle.records.proofs.Deciding.{decides_by}
use Rattle.records.proofs.binary.Goals as goal

pub overflow_mul-result : goal.overflow_mul-result
overflow_mul-result c =
    omega (arith, size-le {a = c.args.s} 32 (search rules))

pub returns : goal.returns
returns c =
    let m = c.from.result + 1 in
    let n = 2 * c.size.result in
    decides_by (eqb m n) (λ t. let e = eqb-true m n t in omega arith) (λ t q. eqb-false m n t (omega arith))
