-- `plain::numbering::trees_on` meets its contract: the table has the number of trees for each size.
use borrow.Author.Rules.{rules}
use native.Mathlib.Omega.{arith}
use Rattle.clusters.proofs.Sizes.{size_some, size-le}
use Rattle.plain.proofs.TreeTable.{counts-table, trees_in_table}
use Rattle.plain.proofs.numbering.trees_on.Goals as goal

pub overflow_sub-result : goal.overflow_sub-result
overflow_sub-result c =
    omega (arith, c.size.ensures, size_some {a = c.args.a} (search rules))

pub bounds-size : goal.bounds-size
bounds-size c =
    omega (arith, c.size.ensures, size-le {a = c.args.a} 16 (search rules))

pub returns : goal.returns
returns c =
    rw c.size.ensures (trees_in_table counts-table c.args.a (search rules) (search rules))
