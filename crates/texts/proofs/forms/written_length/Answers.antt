-- `texts::forms::written_length` meets its contract, by whether the name may be bare.
use mathlib.Core.Path.{sym, ◌∙◌}
use native.Mathlib.Omega.{arith}
use borrow.Author.Rules.{rules}
use Rattle.labels.proofs.Written.{label-twice}
use Rattle.texts.proofs.TwoForms.{bare-length, quoted-length}
use Rattle.texts.proofs.forms.written_length.Goals as goal

pub returns-then-may_be_bare : goal.returns-then-may_be_bare
returns-then-may_be_bare c =
    sym (bare-length c.args.name.now (sym c.may_be_bare.ensures ∙ c.if-may_be_bare.true))

pub overflow_add-result : goal.overflow_add-result
overflow_add-result c =
    let name = c.args.name.now in
    let l = quoted-length name (sym c.may_be_bare.ensures ∙ c.if-may_be_bare.false) in
    let t = label-twice name in
    let d = c.doubled_length.ensures in
    search rules

pub returns-else-may_be_bare : goal.returns-else-may_be_bare
returns-else-may_be_bare c =
    let l = quoted-length c.args.name.now (sym c.may_be_bare.ensures ∙ c.if-may_be_bare.false) in
    let d = c.doubled_length.ensures in
    omega arith
