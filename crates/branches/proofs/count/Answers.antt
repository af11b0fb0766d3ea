-- `count` meets its contract: a number of digits alone, with no second one behind it, is so many whole thousandths.
use mathlib.Core.Path.{◌≡◌, sym, ◌∙◌}
use Rattle.std.proofs.Common.{rules, ◌/◌}
use Rattle.std.specs.Prelude.{option_map}
use Rattle.branches.proofs.EndWays.{count_way}
use Rattle.branches.proofs.count.Goals as goal

pub returns : goal.returns
returns c =
    let m : c.map.result ≡ option_map (λ amount. amount / 1000) c.args.figures.distance.value = search rules in
    m ∙ count_way c.args.text.now c.args.figures c.requires c.if-second.false (sym c.is_count.ensures ∙ c.if-not-is_count.false)
