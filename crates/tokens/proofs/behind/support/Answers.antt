-- `support`: the number behind the colon is the support.
use mathlib.Core.Path.{refl}
use Rattle.labels.proofs.Exits.{passed_on}
use Rattle.tokens.specs.Answers.Answer.{parsed}
use Rattle.tokens.specs.Says.{between}
use Rattle.tokens.proofs.Pieces.{number-refused, number_read}
use Rattle.tokens.proofs.BehindNodes.{number_behind_lem}
use Rattle.tokens.proofs.behind.support.Goals as goal

pub returns-in_err-support : goal.returns-in_err-support
returns-in_err-support c =
    let text = c.args.text.now in
    rw (passed_on c.from_residual.result c.from_residual.ensures.1)
    (record {
      by_index = λ w.
          rw (number_behind_lem text c.args.at c.blanks.result c.blanks.ensures)
          (number-refused text c.number.result _ c.number.ensures.result_value _ _ c.in_err-support.was);
      behind_valued = tt;
    })

pub returns : goal.returns
returns c =
    let text = c.args.text.now in record {
      by_index = λ w.
          rw (number_behind_lem text c.args.at c.blanks.result c.blanks.ensures)
          (number_read text c.number.result _ c.number.ensures.result_value
          (λ b s p. parsed (record { name = w; distance = between text c.args.distance; support = b }) s p)
          _
          c.in_ok-support.was);
      behind_valued = (c.requires, c.in_ok-support.ensures.number_valued, refl);
    }
