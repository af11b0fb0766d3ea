-- `lineages::checks::first_unresolved` meets its contract: each record that is asked was judged.
use Rattle.std.proofs.Common.{not, arith, rules}
use Rattle.std.proofs.lemmas.Iterator.Adapters.{serves_from_places}
use Rattle.std.proofs.lemmas.Iterator.Search.{position_from_yields_List}
use Rattle.trees.specs.Unrooted.{may_unroot}
use Rattle.trees.specs.Records.{records_in}
use Rattle.trees.proofs.Places.{at_among}
use Rattle.weights.proofs.Chunks.{pieces_yielded}
use Rattle.lineages.proofs.checks.first_unresolved.Goals as goal

pub position-requires-clause-callable : goal.position-requires-clause-callable
position-requires-clause-callable c =
    let s = c.args in
    serves_from_places
    (pieces_yielded 32 (omega arith) s.count s.genes.now c.chunks_exact.ensures.size c.chunks_exact.ensures.rest c.requires.count_in_bounds)
    (λ x q k. search rules)
    (λ x k l is. let among = at_among (records_in s.count s.genes.now) x.now k l in let valid = c.requires.all_valid x.now (rw is among) in search rules)

pub returns : goal.returns
returns c =
    let s = c.args in
    position_from_yields_List (λ g. not (may_unroot s.n g)) _ _ _ c.position.ensures.ran
    (pieces_yielded 32 (omega arith) s.count s.genes.now c.chunks_exact.ensures.size c.chunks_exact.ensures.rest c.requires.count_in_bounds)
    (λ x b q k. search rules)
