-- `weights::wide::weigh` meets its contract: a sum over the gene trees.
use Rattle.std.proofs.Common.{◌≡◌, sym, ◌∙◌, arith, rules}
use Rattle.std.specs.Slice.Iter.{chunks_exact_size}
use Rattle.std.proofs.lemmas.Iterator.{YieldsList-from_map}
use Rattle.std.proofs.lemmas.Iterator.Adapters.{serves_from_places}
use Rattle.std.proofs.lemmas.Iterator.Consumers.{sum_by_from_yields_List, fits_by_from_yields_list}
use Rattle.trees.specs.Records.{wide_records_in}
use Rattle.trees.proofs.EqualPieces.{pieces-length}
use Rattle.trees.proofs.Places.{at_among}
use Rattle.weights.specs.Count.{extra}
use Rattle.weights.specs.Work.{Counted}
use Rattle.weights.specs.declared.Rooting.TheVariants.{Rooted}
use Rattle.weights.proofs.Chunks.{pieces_yielded}
use Rattle.weights.proofs.RunningSums.{weight_sum}
use Rattle.weights.proofs.Sums.{weight_most}
use Rattle.weights.proofs.wide.weigh.Goals as goal

pub sum-requires-clause-can : goal.sum-requires-clause-can
sum-requires-clause-can c =
    let s = c.args in
    let size : chunks_exact_size c.map.result.iter ≡ 64 = cc in
    let all = pieces_yielded 64 (omega arith) s.count s.genes.now {s = c.map.result.iter} size (cc) c.requires.count_in_bounds in (
      omega arith,
      serves_from_places all
          (λ x q k. search rules)
          (λ x k l is. let among = at_among (wide_records_in s.count s.genes.now) x.now k l in let can = c.requires.all_countable_for x.now (rw is among) in
          let counted : Counted x.now = record { breadth = 32; can = can; narrow = omega arith } in search rules),
    )

pub sum-requires-clause-fits : goal.sum-requires-clause-fits
sum-requires-clause-fits c =
    let s = c.args in
    let genes = wide_records_in s.count s.genes.now in
    let few = c.requires.count_bound in
    let small = weight_most Rooted genes s.a (omega (arith, pieces-length 64 s.count s.genes.now)) c.requires.all_countable_for in
    fits_by_from_yields_list (λ g. extra Rooted g s.a) genes c.map.result _
    (YieldsList-from_map {s = c.map.result} _ (λ g. extra Rooted g s.a)
    (pieces_yielded 64 (omega arith) s.count s.genes.now {s = c.map.result.iter} (cc) (cc) c.requires.count_in_bounds)
    c.map.ensures.closure (λ x r q k. search rules)) (omega (arith, weight_sum Rooted genes s.a))

pub returns : goal.returns
returns c =
    let s = c.args in
    let genes = wide_records_in s.count s.genes.now in
    sum_by_from_yields_List (λ g. extra Rooted g s.a) genes c.map.result _ c.sum.ensures.ran
    (YieldsList-from_map {s = c.map.result} _ (λ g. extra Rooted g s.a)
    (pieces_yielded 64 (omega arith) s.count s.genes.now {s = c.map.result.iter} (cc) (cc) c.requires.count_in_bounds)
    c.map.ensures.closure (λ x r q k. search rules))
    ∙ sym (weight_sum Rooted genes s.a)
