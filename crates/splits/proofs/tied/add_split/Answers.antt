-- `splits::tied::add_split` meets its contract: a least split, and any other.
use Prim.Native.Nat.{◌-◌}
use native.Mathlib.Omega.{arith}
use lib.ListN.{get_or}
use Rattle.splits.proofs.LowParts.{low_some}
use Rattle.splits.proofs.TieWalk.{room_small, tied_least, tied_other}
use Rattle.splits.proofs.tied.add_split.Goals as goal

pub overflow_cast-sum : goal.overflow_cast-sum
overflow_cast-sum c =
    omega (arith, c.type_inv.scores c.args.low)

pub bounds-scores-rest : goal.bounds-scores-rest
bounds-scores-rest c =
    omega (arith, low_some c.requires.room.part)

pub overflow_cast-sum-2 : goal.overflow_cast-sum-2
overflow_cast-sum-2 c =
    let args = c.args in omega (arith, c.type_inv.scores (args.a - args.low))

pub overflow_add-sum : goal.overflow_add-sum
overflow_add-sum c =
    let args = c.args in
    let score = c.type_inv.scores in
    omega (arith, score args.low, score (args.a - args.low))

pub bounds-ties-rest : goal.bounds-ties-rest
bounds-ties-rest c =
    omega (arith, low_some c.requires.room.part)

pub with_split-requires : goal.with_split-requires
with_split-requires c =
    let small = room_small c.requires.room in omega arith

pub returns-then-sum-least : goal.returns-then-sum-least
returns-then-sum-least c =
    let args = c.args in
    omega (
      arith,
      c.with_split.ensures,
      tied_least (λ b. get_or args.scores.now b 0) (λ b. get_or args.ties.now b 0) args.a args.least args.low (omega arith),
    )

pub returns : goal.returns
returns c =
    let args = c.args in
    omega (arith, tied_other (λ b. get_or args.scores.now b 0) (λ b. get_or args.ties.now b 0) args.a args.least args.low (λ e. omega arith))
