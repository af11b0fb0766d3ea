-- `weights::adding::weigh` meets its contract: a sum over the gene trees.
use Rattle.std.proofs.Common.{◌≡◌, sym, ap, ◌∙◌, arith, rules}
use Rattle.std.specs.Slice.Iter.{chunks_exact_rest, chunks_exact_size}
use Rattle.std.proofs.lemmas.Iterator.{YieldsList-from_map}
use Rattle.std.proofs.lemmas.Iterator.Adapters.{serves_from_places}
use Rattle.std.proofs.lemmas.Iterator.Consumers.{sum_by_from_yields_List, fits_by_from_yields_list}
use Rattle.trees.specs.Records.{records_in}
use Rattle.trees.proofs.Places.{at_among}
use Rattle.weights.specs.Count.{extra}
use Rattle.weights.specs.Work.{Counted}
use Rattle.weights.proofs.Checked.{counted_same}
use Rattle.weights.proofs.Chunks.{pieces_lent}
use Rattle.weights.proofs.RunningSums.{weight_sum, weight-small}
use Rattle.weights.proofs.adding.weigh.Goals as goal

pub sum-requires-clause-can : goal.sum-requires-clause-can
sum-requires-clause-can c =
    let s = c.args in
    let size : chunks_exact_size c.map.result.iter ≡ 32 = ap chunks_exact_size c.map.ensures.source ∙ c.chunks_exact.ensures.size in
    let all =
    pieces_lent 32 (omega arith) s.count s.genes.now _ {s = c.map.result.iter} size
    (ap chunks_exact_rest c.map.ensures.source ∙ c.chunks_exact.ensures.rest) (omega arith) c.requires.count_in_bounds in (
      omega arith,
      serves_from_places all
          (λ x q k. search rules)
          (λ x k l is. let among = at_among (records_in s.count s.genes.now) x.now k l in let can = c.requires.all_countable x.now (rw is among) in
          let long = can.valid.form.sized in let counted : Counted x.now = record { breadth = 16; can = can; narrow = omega arith } in search (rules, counted_same)),
    )

pub sum-requires-clause-fits : goal.sum-requires-clause-fits
sum-requires-clause-fits c =
    let s = c.args in
    let genes = records_in s.count s.genes.now in
    let small = weight-small s.rooting s.genes.now s.a c.requires.count_bound c.requires.all_countable in
    fits_by_from_yields_list (λ g. extra s.rooting g s.a) genes c.map.result _
    (YieldsList-from_map {s = c.map.result} _ (λ g. extra s.rooting g s.a)
    (pieces_lent 32 (omega arith) s.count s.genes.now _ {s = c.map.result.iter} (ap chunks_exact_size c.map.ensures.source ∙ c.chunks_exact.ensures.size)
    (ap chunks_exact_rest c.map.ensures.source ∙ c.chunks_exact.ensures.rest) (omega arith) c.requires.count_in_bounds)
    c.map.ensures.closure (λ x r q k. search rules)) (omega (arith, weight_sum s.rooting genes s.a))

pub returns : goal.returns
returns c =
    let s = c.args in
    let genes = records_in s.count s.genes.now in
    sum_by_from_yields_List (λ g. extra s.rooting g s.a) genes c.map.result _ c.sum.ensures.ran
    (YieldsList-from_map {s = c.map.result} _ (λ g. extra s.rooting g s.a)
    (pieces_lent 32 (omega arith) s.count s.genes.now _ {s = c.map.result.iter} (ap chunks_exact_size c.map.ensures.source ∙ c.chunks_exact.ensures.size)
    (ap chunks_exact_rest c.map.ensures.source ∙ c.chunks_exact.ensures.rest) (omega arith) c.requires.count_in_bounds)
    c.map.ensures.closure (λ x r q k. search rules))
    ∙ sym (weight_sum s.rooting genes s.a)
