-- `wide::read_stand` meets its contract: a refusal is passed on, and the clusters of a tree, few enough, are sorted into its wide record.
use Prim.Native.Nat.{ℕ}
use native.Mathlib.Omega.{arith}
use mathlib.Core.List.{List}
use lib.ListN.{replicate, length-replicate}
use Rattle.std.proofs.Common.{None}
use Rattle.reader.specs.WidePromise.{wide}
use Rattle.reader.specs.declared.Kind.TheVariants.{Gene}
use Rattle.reader.proofs.Recording.{Stored, answer-refused, stored-front, wide-refused, wide-recorded}
use Rattle.reader.proofs.wide.read_stand.Goals.{In-Ok}
use Rattle.reader.proofs.wide.read_stand.Goals as goal

-- the table that is lent
abbrev lent : List ℕ
lent = replicate 64 0

-- the clusters stand at the front of the table
stored :
    (c : In-Ok)
    → let found = c.answered.new.found in
    Stored wide Gene None c.args.individuals.now c.args.text.now c.args.start found c.in-Ok.tree.next
stored c =
    let found = c.answered.new.found in
    stored-front wide Gene None c.args.individuals.now c.args.text.now c.args.start lent found c.answered.result c.answered.ensures _
    c.in-Ok.is (omega (arith, length-replicate {A = ℕ} 64 0))

pub returns-in-Err : goal.returns-in-Err
returns-in-Err c =
    let found = c.answered.new.found in
    wide-refused c.args.individuals.now c.args.text.now c.args.start _ _
    (answer-refused wide Gene None c.args.individuals.now c.args.text.now c.args.start lent found
    c.answered.result c.answered.ensures _ c.in-Err.is)
    (rw c.number.ensures)

pub record_of-requires : goal.record_of-requires
record_of-requires c =
    let s = stored (goal.at.record_of-requires c).In-Ok in record {
      count_bound = omega (arith, s.few);
      count_in_bounds = s.within;
    }

pub returns-in-Ok : goal.returns-in-Ok
returns-in-Ok c =
    wide-recorded c.args.individuals.now c.args.text.now c.args.start _ _ (stored (goal.at.returns-in-Ok c).In-Ok)
    c.record_of.result.numbers c.record_of.ensures
