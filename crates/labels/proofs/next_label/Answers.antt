-- `next_label`: the byte at the place, or the text's end.
use Rattle.std.proofs.Common.{arith}
use Rattle.std.proofs.lemmas.Option.{gets}
use Rattle.labels.proofs.FirstBytes.{label_here, label_end}
use Rattle.labels.proofs.next_label.Goals as goal

pub returns : goal.returns
returns c =
    let here = label_here c.args.text.now c.args.at in
    let end = label_end c.args.text.now c.args.at in
    grind (arith, gets)
