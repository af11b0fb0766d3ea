-- `next_is`: the byte at the place, or the text's end.
use Rattle.std.proofs.Common.{arith}
use Rattle.std.proofs.lemmas.Option.{gets}
use Rattle.std.proofs.lemmas.Bool.Decides.{nat_tests}
use Rattle.labels.proofs.FirstBytes.{next_here, next_end_lem}
use Rattle.labels.proofs.next_is.Goals as goal

pub returns : goal.returns
returns c =
    let here = next_here c.args.b c.args.text.now c.args.at in
    let end = next_end_lem c.args.b c.args.text.now c.args.at in
    grind (arith, gets, nat_tests)
