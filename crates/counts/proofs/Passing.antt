-- The gene trees that `judge` has passed.
use Prim.Native.Nat.{ℕ, ◌^◌, ◌≤◌}
use native.Mathlib.Omega.{arith}
use mathlib.Core.Path.{◌≡◌, refl}
use borrow.Author.Tests.{le-ltb}
use mathlib.Core.List.{List}
use lib.ListN.{length}
use Rattle.std.proofs.Common.{None}
use Rattle.trees.specs.Records.{records_in}
use Rattle.roster.specs.Verdict.{verdict}
use Rattle.weights.specs.Work.{AllCountable}
use Rattle.weights.specs.declared.Rooting.TheVariants.{Rooted}
use Rattle.weights.proofs.Sums.{valid-countable}
use Rattle.lineages.specs.Checks.{first_bad, records_test, rooting_test}
use Rattle.lineages.specs.InOrder.{GenesInOrder}
use Rattle.lineages.specs.Work.{genes_tests, said}
use Rattle.lineages.proofs.FirstBad.{all_valid_none_bad, checked_in_order}
use Rattle.solver.specs.Work.{Checked}
use Rattle.counts.specs.declared.judged.GeneTrees.{GeneTrees}

-- of rooted gene trees that are in order neither test finds one at fault
pub none_at_fault : {n : ℕ} {genes : List ℕ} {count : ℕ} → GenesInOrder Rooted n genes count → said 0 0 ≡ verdict (genes_tests Rooted n (records_in count genes))
unfolding genes_tests records_test rooting_test verdict
none_at_fault {n} {genes} {count} o =
    let none = all_valid_none_bad n (records_in count genes) o.shaped.few_species o.valid in
    rw (le-ltb (first_bad n (records_in count genes)) (length (records_in count genes)) (omega arith)) refl

module _ (trees : GeneTrees) where
  -- they are in order
  pub genes_in_order : GenesInOrder Rooted trees.n trees.genes.now trees.count
  genes_in_order = checked_in_order Rooted trees.n trees.genes.now trees.count trees.passed trees.shaped

  -- so they can be counted
  pub all_countable : AllCountable (records_in trees.count trees.genes.now)
  all_countable = valid-countable genes_in_order.shaped.few_species genes_in_order.valid

  -- and with tables that are long enough the search can be run over them
  pub solvable : {scores splits : List ℕ} → 2 ^ trees.n ≤ length scores → 2 ^ trees.n ≤ length splits → Checked Rooted trees.n trees.genes.now trees.count None scores splits
  solvable long also = record {
    some_species = genes_in_order.shaped.some_species;
    weighable = record {
      few_species = genes_in_order.shaped.few_species;
      few_genes = genes_in_order.shaped.few_genes;
      genes_long = genes_in_order.shaped.fits;
      valid = genes_in_order.valid;
      enter = genes_in_order.enter;
    };
    allowed_long = tt;
    scores_long = long;
    splits_long = also;
  }
