use Prim.Native.Nat.{ℕ, ◌+◌, ◌≤◌}
use mathlib.Core.Path.{◌≡◌, ap}
use native.Mathlib.Numerals.{add-one}
use native.Mathlib.Omega.{arith}
use borrow.Author.Rules.{rules}
use lib.ListN.{length}
use Rattle.clusters.specs.Sets.{single, within}
use Rattle.texts.specs.Writing.{label}
use Rattle.texts.specs.Work.{name_in, names_in, bytes_if, labels_in}
use Rattle.texts.proofs.TableNames.{labels_none, labels_more, label-short}
use Rattle.texts.proofs.label.text_length.Goals.{After-label_length-total}
use Rattle.texts.proofs.label.text_length.Goals as goal

label-taken : (c : After-label_length-total) → c.label_length-total.result ≤ 34
label-taken c =
    let i = c.loop-i.i in
    let s = label-short c.args.table.now i (omega arith) (within (single i) c.args.set) in
    let e = c.label_length-total.ensures in
    omega arith

pub loop-i-init : goal.loop-i-init
loop-i-init c =
    let e = labels_none (names_in c.args.n c.args.table.now) c.args.set in (omega arith, omega arith, omega arith)

pub label_length-total-requires : goal.label_length-total-requires
label_length-total-requires c =
    (omega arith, omega arith)

pub overflow_add-total : goal.overflow_add-total
overflow_add-total c =
    let t = label-taken (goal.at.overflow_add-total c).After-label_length-total in search rules

pub loop-i-preserved : goal.loop-i-preserved
loop-i-preserved c =
    let table = c.args.table.now in
    let n = c.args.n in
    let set = c.args.set in
    let i = c.loop-i.i in
    let t = label-taken (goal.at.loop-i-preserved c).After-label_length-total in
    let e = c.label_length-total.ensures in
    let l : labels_in (names_in n table) set (i + 1) ≡ labels_in (names_in n table) set i + bytes_if (within (single i) set) (length (label (name_in table i))) =
    rw add-one (labels_more n table set i (omega arith))
    in
    (omega arith, omega arith, omega arith)

pub overflow_sub-result : goal.overflow_sub-result
overflow_sub-result c =
    let s = c.size.ensures in omega arith

pub returns : goal.returns
returns c =
    let n = c.args.n in
    let e : c.loop-i.i ≡ n = omega arith in
    let l = ap (λ (k : ℕ). labels_in (names_in n c.args.table.now) c.args.set k) e in
    let s = c.size.ensures in
    omega arith
