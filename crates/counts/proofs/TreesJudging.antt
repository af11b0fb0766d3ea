-- The gene trees and the species record of `write_counts`: what it means that none is at fault behind the roster and before the text.
use Prim.Native.Nat.{ℕ, ◌≤◌}
use native.Mathlib.Omega.{arith}
use mathlib.Core.Path.{◌≡◌, sym, ap}
use mathlib.Core.Bool.{Bool, ◌&&◌}
use mathlib.Core.List.{List, []}
use Rattle.std.proofs.Common.{Result, Ok}
use Rattle.clusters.specs.Sets.{whole}
use Rattle.trees.specs.Records.{SpeciesValid, BinaryOn}
use Rattle.trees.specs.Valid.{valid, binary}
use Rattle.trees.proofs.Booleans.{both}
use Rattle.trees.proofs.ValidTest.{valid_decides, binary_decides}
use Rattle.trees.proofs.Bounds.{whole_below_sixteen}
use Rattle.faults.specs.declared.Refusal.{Refusal}
use Rattle.roster.specs.Verdict.{Test, Verdict, verdict}
use Rattle.weights.specs.declared.Rooting.TheVariants.{Rooted}
use Rattle.lineages.specs.InOrder.{GenesInOrder}
use Rattle.counts.specs.Work.{call_tests, CallJudged}
use Rattle.counts.proofs.CallFaults.{Passed, tests-passed}

-- the gene trees are in order, and the species record is that of a binary tree with every species
pub record TreesInOrder (n : ℕ) (genes : List ℕ) (count : ℕ) (species : List ℕ) : Type 0 where
  pub trees : GenesInOrder Rooted n genes count
  pub tree : SpeciesValid n species
  pub binary : BinaryOn (whole n) species

-- a species record is one of the binary trees on all species
abbrev pub is_tree : ℕ → List ℕ → Bool
is_tree n species = valid (whole n) species && binary (whole n) species

-- what is judged of them, with no tables
abbrev pub tree_tests : ℕ → List ℕ → ℕ → List ℕ → List Test
tree_tests n genes count species = call_tests n genes count 0 [] [] (is_tree n species)

-- the promise of `judge` of them
abbrev pub TreesJudged : ℕ → List ℕ → ℕ → List ℕ → Result (Unit {0}) Refusal → Type 0
TreesJudged n genes count species r = CallJudged n genes count 0 [] [] (is_tree n species) r

module _ {n : ℕ} (some : 1 ≤ n) (few : n ≤ 16) (genes : List ℕ) (count : ℕ) (species : List ℕ) where
  -- where no number is given, all is in order
  pub trees_in_order : (verdict (tree_tests n genes count species)).number ≡ 0 → TreesInOrder n genes count species
  trees_in_order e =
      let p = tests-passed n genes count 0 [] [] (is_tree n species) some few e in
      let tree = both (valid (whole n) species) (binary (whole n) species) p.is_binary in
      record {
        trees = p.in_order;
        tree = (valid_decides species (whole_below_sixteen n few)).holds tree.0;
        binary = (binary_decides (whole n) species).holds tree.1;
      }

  -- so it is where `judge` refuses nothing
  pub judged_in_order : TreesJudged n genes count species (Ok tt) → TreesInOrder n genes count species
  unfolding CallJudged
  judged_in_order told = trees_in_order (sym (ap (λ (v : Verdict). v.number) told))

  -- and where all is in order, all is passed
  pub in_order_passed : TreesInOrder n genes count species → Passed n genes count 0 [] [] (is_tree n species)
  in_order_passed o = record {
    in_order = o.trees;
    scores_fit = omega arith;
    splits_fit = omega arith;
    is_binary = rw ((valid_decides species (whole_below_sixteen n few)).told o.tree, (binary_decides (whole n) species).told o.binary);
  }
