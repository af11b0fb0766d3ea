-- Each quote is counted once more.
use mathlib.Core.Path.{◌≡◌}
use native.Mathlib.Omega.{arith}
use borrow.Author.Rules.{rules}
use Rattle.std.specs.Prelude.{◌==◌, count_by}
use Rattle.texts.proofs.TwoForms.{doubled_count}
use Rattle.texts.proofs.forms.doubled_length.Goals as goal

pub returns : goal.returns
returns c =
    let name = c.args.name.now in
    let quotes : c.count.result ≡ count_by (λ b. b == 39) name = search rules in
    let d = doubled_count name in
    omega arith
