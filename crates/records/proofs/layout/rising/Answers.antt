-- `records::layout::rising` meets its contract.
use borrow.Author.Rules.{rules}
use lib.Dec.{ltb}
use Rattle.std.proofs.Common.{tests}
use Rattle.std.proofs.lemmas.List.Sorted.{answers_always}
use Rattle.records.proofs.Deciding.{decides_rising}
use Rattle.records.proofs.layout.rising.Goals as goal

pub returns : goal.returns
returns c =
    decides_rising c.args.clusters.now c.is_sorted_by.result
    (c.is_sorted_by.ensures.cases ltb (answers_always _ _ _ (λ f a r g h. search (rules, tests))))
