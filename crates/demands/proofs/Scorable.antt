-- When the call that scores a species tree accepts what it is handed.
use Prim.Native.Nat.{ℕ}
use mathlib.Core.Path.{◌≡◌, refl, sym, ap, ◌∙◌}
use mathlib.Core.Logic.{◌↔◌}
use mathlib.Core.Bool.{Bool, true, false}
use mathlib.Core.List.{List}
use Rattle.clusters.specs.Sets.{whole}
use Rattle.trees.specs.Records.{SpeciesValid, BinaryOn, records_in}
use Rattle.trees.specs.Valid.{valid, binary}
use Rattle.trees.proofs.Bounds.{whole_below_sixteen}
use Rattle.trees.proofs.ValidTest.{denied, valid_decides, binary_decides}
use Rattle.roster.specs.Verdict.{verdict}
use Rattle.roster.specs.declared.Reply.{Reply}
use Rattle.weights.specs.Count.{score}
use Rattle.weights.specs.declared.Rooting.{Rooting}
use Rattle.lineages.specs.Checks.{score_tests}
use Rattle.lineages.specs.InOrder.{GenesInOrder}
use Rattle.lineages.specs.Promise.{Scores}
use Rattle.demands.specs.CallFaults.{SpeciesRecordFault, ScoreFault}
use Rattle.demands.specs.CallFaults.SpeciesRecordFault.{not_valid_or_binary}
use Rattle.demands.specs.Scorable.{Scorable}
use Rattle.demands.proofs.FirstFaults.{NoFault, none_first, none_later, none_of_both, none_exactly}
use Rattle.demands.proofs.CallFaults.{score-exact}
use Rattle.demands.proofs.InOrder.{no_fault_in_order, no_species_fault, no_count_fault, no_length_fault, no_records_fault, no_rooting_fault, replied-value}

module _ (rooting : Rooting) (n : ℕ) (genes : List ℕ) (count : ℕ) (species : List ℕ) where
  -- a species record without that fault is valid and binary
  valid_and_binary : GenesInOrder rooting n genes count → NoFault (SpeciesRecordFault n species) → SpeciesValid n species × BinaryOn (whole n) species
  valid_and_binary g h = go (valid (whole n) species) (binary (whole n) species) refl refl
    where
      go : (a b : Bool) → valid (whole n) species ≡ a → binary (whole n) species ≡ b → SpeciesValid n species × BinaryOn (whole n) species
      go true true v w = ((valid_decides species (whole_below_sixteen n g.shaped.few_species)).holds v, (binary_decides (whole n) species).holds w)
      go true false v w = absurd (h 16 0 (not_valid_or_binary (λ b. denied (binary_decides (whole n) species) w b.1)))
      go false b v w = absurd (h 16 0 (not_valid_or_binary (λ b. denied (valid_decides species (whole_below_sixteen n g.shaped.few_species)) v b.0)))

  no_fault_scorable : NoFault (ScoreFault rooting n genes count species) → Scorable rooting n genes count species
  no_fault_scorable h =
      let c = none_later h in
      let l = none_later c in
      let s = none_later l in
      let v = none_later s in
      let g = no_fault_in_order rooting n genes count (none_first h) (none_first c) (none_first l) (none_first v) (none_later v) in
      let t = valid_and_binary g (none_first s) in
      record { in_order = g; species_valid = t.0; species_binary = t.1 }

  scorable_no_fault : Scorable rooting n genes count species → NoFault (ScoreFault rooting n genes count species)
  scorable_no_fault h =
      none_of_both (no_species_fault rooting n genes count g)
      (none_of_both (no_count_fault rooting n genes count g)
      (none_of_both (no_length_fault rooting n genes count g)
      (none_of_both (λ k p f. never f)
      (none_of_both (no_records_fault rooting n genes count g) (no_rooting_fault rooting n genes count g)))))
    where
      g : GenesInOrder rooting n genes count
      g = h.in_order

      never : {k p : ℕ} → SpeciesRecordFault n species k p → ⊥
      never (not_valid_or_binary f) = f (h.species_valid, h.species_binary)

  -- number 0 exactly when all of that holds
  pub scored_exactly : (r : Reply) → Scores rooting n genes count species r → (r.number ≡ 0) ↔ Scorable rooting n genes count species
  unfolding Scores
  scored_exactly r p =
      let e = ap (λ (r : Reply). r.number) p in
      let exactly = none_exactly (score-exact rooting n genes count species) in
      (λ z. no_fault_scorable (exactly.0 (sym e ∙ z)), λ h. e ∙ exactly.1 (scorable_no_fault h))

  -- and then the value is the score
  pub scored-value : (r : Reply) → Scores rooting n genes count species r → r.number ≡ 0 → r.value ≡ score rooting (records_in count genes) species
  unfolding Scores
  scored-value r p z = replied-value (verdict (score_tests rooting n genes count species)) (score rooting (records_in count genes) species) r p z
