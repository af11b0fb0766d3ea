-- `behind`: the numbers, judged.
use Rattle.std.proofs.Common.{drop}
use Rattle.labels.proofs.Exits.{passed_on}
use Rattle.tokens.specs.Supports.{is_given}
use Rattle.tokens.proofs.FineSupports.{judged-valued, judged-supported, refused-supported}
use Rattle.tokens.proofs.behind.behind.Goals as goal

pub returns-in_err-figures : goal.returns-in_err-figures
returns-in_err-figures c =
    rw (passed_on c.from_residual.result c.from_residual.ensures.1)
    (record {
      by_index = λ w. refused-supported c.args.text.now w (drop c.args.at c.args.text.now) c.args.at (is_given c.args.threshold) _ (c.in_err-figures.ensures.by_index w);
      behind_valued = tt;
    })

pub returns : goal.returns
returns c =
    let text = c.args.text.now in
    let figures = c.in_ok-figures.figures in
    let valued = c.in_ok-figures.ensures.behind_valued in
    record {
      by_index = λ w. rw c.judged.ensures (judged-supported text w (drop c.args.at text) c.args.at c.args.threshold figures valued (c.in_ok-figures.ensures.by_index w));
      behind_valued = rw c.judged.ensures (judged-valued text c.args.threshold figures valued);
    }
