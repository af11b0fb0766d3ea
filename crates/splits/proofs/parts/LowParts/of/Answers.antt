-- `splits::parts::LowParts::of` meets its contract: the lowest species is one of the cluster's.
use Rattle.std.proofs.Common.{arith, rules}
use Rattle.splits.proofs.FallingParts.{lowest_lt, lowest-le}
use Rattle.splits.proofs.parts.LowParts.of.Goals as goal

pub single-low-requires : goal.single-low-requires
single-low-requires c =
    omega (arith, c.lowest.ensures, lowest_lt {a = c.args.a} (search rules) c.requires)

pub overflow_sub-rest : goal.overflow_sub-rest
overflow_sub-rest c =
    let alone = rw c.lowest.ensures at c.single-low.ensures in
    omega (arith, lowest-le {a = c.args.a} (search rules) c.requires)
