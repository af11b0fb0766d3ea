use Rattle.std.proofs.Common.{◌≡◌, arith}
use Rattle.labels.specs.Bytes.{is_bare}
use Rattle.labels.proofs.Runs.{run_left}
use Rattle.labels.proofs.Words.{nothing_written, decoded_more, decoded_all}
use Rattle.labels.proofs.padded.Goals as goal

pub loop-i-init : goal.loop-i-init
loop-i-init c = nothing_written

pub overflow_add-at : goal.overflow_add-at
overflow_add-at c =
    let left = run_left is_bare c.args.text.now c.args.at c.args.n c.requires.1 in omega arith

pub bounds-text-at : goal.bounds-text-at
bounds-text-at c =
    let left = run_left is_bare c.args.text.now c.args.at c.args.n c.requires.1 in omega arith

pub loop-i-preserved : goal.loop-i-preserved
loop-i-preserved c =
    let left = run_left is_bare c.args.text.now c.args.at c.args.n c.requires.1 in
    decoded_more c.args.text.now c.args.at c.loop-i.i c.loop-i.name c.unwritten.result (omega arith) (omega arith)
    c.unwritten.ensures c.loop-i.invariant

pub returns : goal.returns
returns c =
    let n : c.loop-i.i ≡ c.args.n = omega arith in
    decoded_all c.args.text.now c.args.at c.loop-i.i c.loop-i.name (cc c.requires.1) c.loop-i.invariant
