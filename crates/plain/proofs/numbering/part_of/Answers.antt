use Prim.Native.Nat.{◌*◌}
use mathlib.Core.Path.{sym, ap₂, ◌∙◌}
use borrow.Author.Rules.{rules}
use native.Mathlib.Omega.{arith}
use Rattle.splits.specs.WellFormed.{LowPart}
use Rattle.splits.proofs.LowParts.{low_some}
use Rattle.plain.proofs.TreeTable.{trees_few}
use Rattle.plain.proofs.PartWalk.{low_part, part_few, tried_start, tried_end, tried_other, tried_met, tried_behind}
use Rattle.plain.proofs.numbering.part_of.Goals.{Then-is_low, then-is_low+else-left-with_low, else-is_low}
use Rattle.plain.proofs.numbering.part_of.Goals as goal

part_there : (c : Then-is_low) → LowPart c.args.a c.loop-low.low
part_there c = low_part (sym c.is_low.ensures ∙ c.if-is_low.true) (search rules)

pub loop-low-init : goal.loop-low-init
loop-low-init c =
    tried_start c.requires.numbered c.requires.bound

pub is_low-requires : goal.is_low-requires
is_low-requires c =
    c.requires.numbered.some

pub trees_on-requires : goal.trees_on-requires
trees_on-requires c =
    let few = c.requires.numbered.few in
    record {
      le_a = low_some (part_there (goal.at.trees_on-requires c).Then-is_low);
      a_bound = omega arith;
    }

pub trees_on-requires-then-is_low : goal.trees_on-requires-then-is_low
trees_on-requires-then-is_low c =
    let few = c.requires.numbered.few in record {
      le_a = omega arith;
      a_bound = omega arith;
    }

pub overflow_mul-with_low : goal.overflow_mul-with_low
overflow_mul-with_low c =
    let product = ap₂ ◌*◌ c.trees_on.ensures c.trees_on-then-is_low.ensures in
    record { fits = omega (arith, product, part_few (part_there (goal.at.overflow_mul-with_low c).Then-is_low), trees_few c.args.a c.requires.numbered.few) }

pub returns-then-left-with_low : goal.returns-then-left-with_low
returns-then-left-with_low c =
    tried_met c.loop-low.invariant (part_there (goal.at.returns-then-left-with_low c).Then-is_low) c.trees_on.ensures c.trees_on-then-is_low.ensures (search rules)

pub loop-low-preserved : goal.loop-low-preserved
loop-low-preserved c =
    let tried = c.loop-low.invariant in
    let told = sym c.is_low.ensures in
    elim c.if-is_low.branch [
      | then-is_low+else-left-with_low w ↦ tried_behind tried (low_part (told ∙ w.if-is_low.true) (search rules)) w.trees_on.ensures w.trees_on-then-is_low.ensures
          (omega (arith, w.if-left-with_low.false)) (omega arith) w.left-is
      | else-is_low w ↦ rw w.left-is (tried_other tried (search rules) (told ∙ w.if-is_low.false) (omega arith))
    ]

pub returns : goal.returns
returns c =
    absurd (tried_end c.loop-low.invariant (search rules))
