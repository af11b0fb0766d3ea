-- What is copied into its part stands behind the first `count`.
use Prim.Native.Nat.{◌+◌, ◌*◌}
use mathlib.Core.Path.{◌≡◌}
use mathlib.Core.List.{append_assoc}
use native.Mathlib.Omega.{arith}
use borrow.Rule.Slice.PartMut.{Post-is}
use lib.ListN.{length}
use lib.Seq.{sets-eq}
use Rattle.gather.proofs.put.Goals as goal

pub returns : goal.returns
returns c =
    let at = 32 * c.args.count in
    let genes = c.args.genes.now in
    let long : length c.args.numbers ≡ 32 = omega arith in
    (long, rw (c.copy_from_slice.ensures.after, Post-is at (at + 32) genes (omega arith), sets-eq c.args.numbers genes at (omega arith), append_assoc, long))
