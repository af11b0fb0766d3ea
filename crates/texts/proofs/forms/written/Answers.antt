-- `texts::forms::written` meets its contract, by whether the name may be bare.
use mathlib.Core.Path.{sym, ◌∙◌}
use native.Mathlib.Omega.{arith}
use Rattle.labels.proofs.Written.{label-bare, label-quoted}
use Rattle.texts.proofs.TwoForms.{bare-length, quoted-length}
use Rattle.texts.proofs.forms.written.Goals as goal

pub bare-requires : goal.bare-requires
bare-requires c =
    let l = bare-length c.args.name.now (sym c.may_be_bare.ensures ∙ c.if-may_be_bare.true) in
    omega arith

pub returns-then-may_be_bare : goal.returns-then-may_be_bare
returns-then-may_be_bare c =
    rw (label-bare c.args.name.now (sym c.may_be_bare.ensures ∙ c.if-may_be_bare.true))
    c.bare.ensures

pub quoted-requires : goal.quoted-requires
quoted-requires c =
    let l = quoted-length c.args.name.now (sym c.may_be_bare.ensures ∙ c.if-may_be_bare.false) in
    omega arith

pub returns-else-may_be_bare : goal.returns-else-may_be_bare
returns-else-may_be_bare c =
    rw (label-quoted c.args.name.now (sym c.may_be_bare.ensures ∙ c.if-may_be_bare.false))
    c.quoted.ensures
