-- `weights::wide::weigh_stand` meets its contract: the extra lineages of the individuals.
use Prim.Native.Nat.{ℕ}
use mathlib.Core.Path.{ap, ◌∙◌}
use native.Mathlib.Omega.{arith}
use Rattle.trees.specs.Records.{wide_records_in}
use Rattle.weights.specs.Count.{weight}
use Rattle.weights.specs.Stand.{stand_weight}
use Rattle.weights.specs.declared.Rooting.TheVariants.{Rooted}
use Rattle.weights.proofs.wide.weigh_stand.Goals as goal

pub individuals_of-requires : goal.individuals_of-requires
individuals_of-requires c =
    let stand = c.requires in record {
      n_bound = omega (arith, stand.few_species);
      n_in_bounds = stand.groups_long;
    }

pub weigh-requires : goal.weigh-requires
weigh-requires c =
    let stand = c.requires in record {
      count_bound = stand.few_genes;
      count_in_bounds = stand.genes_long;
      all_countable_for = stand.countable;
    }

pub returns : goal.returns
unfolding stand_weight
returns c =
    c.weigh.ensures ∙ ap (λ (s : ℕ). weight Rooted (wide_records_in c.args.count c.args.genes.now) s) c.individuals_of.ensures
