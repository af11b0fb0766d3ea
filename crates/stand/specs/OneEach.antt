-- "With one individual each and faultless input" (#110): what it is that both modes are given.
use Rattle.std.specs.Prelude.{ℕ, ◌≡◌, List, map, length}
use Rattle.trees.specs.Records.{records_in, wide_records_in}
use Rattle.roster.specs.Roster.{names}
use Rattle.lineages.specs.InOrder.{GenesInOrder}
use Rattle.weights.specs.Stand.{OneEach, on_individuals}
use Rattle.weights.specs.declared.Rooting.TheVariants.{Rooted}
use Rattle.stand.specs.InOrder.{Openable}
use Rattle.stand.specs.Promise.{groups_of}

-- a good stand with one individual each, in whatever order the second roster has them; gene trees on its species that are in order; and the same gene trees on its individuals
pub record SameTrees (line individuals mapping genes wide : List ℕ) (count : ℕ) : Type 0 where
  pub open_to : Openable line individuals mapping wide count
  pub one_each : OneEach (groups_of line individuals mapping)
  pub in_order : GenesInOrder Rooted (length (names line)) genes count
  pub renamed : wide_records_in count wide ≡ map (on_individuals (groups_of line individuals mapping)) (records_in count genes)
