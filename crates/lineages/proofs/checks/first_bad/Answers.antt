-- `lineages::checks::first_bad` meets its contract: the reply that decides is the test.
use Rattle.std.proofs.Common.{not, arith, rules}
use Rattle.std.proofs.lemmas.Iterator.Search.{position_from_yields_List}
use Rattle.trees.specs.Valid.{valid_gene}
use Rattle.weights.proofs.Chunks.{pieces_yielded}
use Rattle.lineages.proofs.Told.{fault-told}
use Rattle.lineages.proofs.checks.first_bad.Goals as goal

pub returns : goal.returns
returns c =
    let s = c.args in
    position_from_yields_List (λ g. not (valid_gene s.n g)) _ _ _ c.position.ensures.ran
    (pieces_yielded 32 (omega arith) s.count s.genes.now c.chunks_exact.ensures.size c.chunks_exact.ensures.rest c.requires.count_in_bounds)
    (λ x b q k. let few = c.requires.n_bound in (search rules, search (rules, fault-told)))
