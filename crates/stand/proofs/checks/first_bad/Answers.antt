-- `stand::checks::first_bad` meets its contract: the reply that decides is the test.
use Rattle.std.proofs.Common.{not, arith, rules}
use Rattle.std.proofs.lemmas.Iterator.Search.{position_from_yields_List}
use Rattle.trees.specs.Valid.{valid_gene_for}
use Rattle.weights.proofs.Chunks.{pieces_yielded}
use Rattle.stand.proofs.Replies.{wide-told}
use Rattle.stand.proofs.checks.first_bad.Goals as goal

pub returns : goal.returns
returns c =
    let s = c.args in
    position_from_yields_List (λ g. not (valid_gene_for 32 s.m g)) _ _ _ c.position.ensures.ran
    (pieces_yielded 64 (omega arith) s.count s.genes.now c.chunks_exact.ensures.size c.chunks_exact.ensures.rest c.requires.count_in_bounds)
    (λ x b q k. let few = c.requires.m_bound in (search rules, search (rules, wide-told)))
