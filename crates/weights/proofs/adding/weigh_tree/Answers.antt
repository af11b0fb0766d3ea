-- `weights::adding::weigh_tree` meets its contract: a sum over the clusters of the species record.
use Rattle.std.proofs.Common.{◌≡◌, ◌+◌, ◌-◌, take, drop, sym, ap, ◌∙◌, arith, rules}
use Rattle.std.specs.Slice.Iter.{iter_rest}
use Rattle.std.proofs.lemmas.Iterator.{YieldsList-from_slice, YieldsList-from_map}
use Rattle.std.proofs.lemmas.Iterator.Consumers.{sum_by_from_yields_List, fits_by_from_yields_list}
use Rattle.trees.specs.Records.{count, listed, records_in}
use Rattle.trees.proofs.Lent.{length-records_in}
use Rattle.weights.specs.Count.{weight, score}
use Rattle.weights.proofs.RunningSums.{total_sum}
use Rattle.weights.proofs.Sums.{score-bound}
use Rattle.weights.proofs.adding.weigh_tree.Goals as goal

pub sum-requires-clause-fits : goal.sum-requires-clause-fits
unfolding score
sum-requires-clause-fits c =
    let s = c.args in
    let genes = records_in s.count s.genes.now in
    let few = c.requires.count_bound in
    let small = score-bound s.rooting genes (omega (arith, length-records_in s.count s.genes.now)) c.requires.all_countable c.requires.form in
    let all : count s.species.now + 1 - 1 ≡ count s.species.now = omega arith in
    let rest : iter_rest c.map.result.iter ≡ take (count s.species.now + 1 - 1) (drop 1 s.species.now) = cc in
    fits_by_from_yields_list (λ a. weight s.rooting genes a) (listed s.species.now) c.map.result _
    (YieldsList-from_map {s = c.map.result} _ (λ a. weight s.rooting genes a) (YieldsList-from_slice _ (rest ∙ ap (λ k. take k (drop 1 s.species.now)) all))
    c.map.ensures.closure (λ x r q k. search rules)) (omega (arith, total_sum (λ a. weight s.rooting genes a) (listed s.species.now)))

pub returns : goal.returns
unfolding score
returns c =
    let s = c.args in
    let genes = records_in s.count s.genes.now in
    let all : count s.species.now + 1 - 1 ≡ count s.species.now = omega arith in
    let rest : iter_rest c.map.result.iter ≡ take (count s.species.now + 1 - 1) (drop 1 s.species.now) = cc in
    sum_by_from_yields_List (λ a. weight s.rooting genes a) (listed s.species.now) c.map.result _ c.sum.ensures.ran
    (YieldsList-from_map {s = c.map.result} _ (λ a. weight s.rooting genes a) (YieldsList-from_slice _ (rest ∙ ap (λ k. take k (drop 1 s.species.now)) all))
    c.map.ensures.closure (λ x r q k. search rules))
    ∙ sym (total_sum (λ a. weight s.rooting genes a) (listed s.species.now))
