-- A sheet of candidate trees (#107): when it is refused, what each entry gets, and which entries a call may touch.
use Prim.Native.Nat.{ℕ, zero, suc, ◌^◌, ◌≤◌, ◌<◌}
use mathlib.Core.Path.{◌≡◌, refl, sym, ap, ◌∙◌}
use mathlib.Core.Logic.{◌↔◌}
use mathlib.Core.List.{List, [], ◌∷◌, map}
use native.Mathlib.Decide.{ℕ_discrete, dec_le, dec_lt}
use native.Mathlib.Omega.{arith}
use lib.ListN.{length, get_or}
use Rattle.roster.specs.declared.Reply.{Reply}
use Rattle.weights.specs.declared.Rooting.{Rooting}
use Rattle.lineages.specs.InOrder.{GenesInOrder}
use Rattle.lineages.specs.Promise.{Scores}
use Rattle.sheet.specs.declared.Entry.{Entry}
use Rattle.sheet.specs.Promise.{Sheets, record_at}
use Rattle.sheet.proofs.Entries.{none_altered, as_many, positions_kept, gets_single, gets_twelve}
use Rattle.demands.specs.CallFaults.{ScoreFault, SheetFault}
use Rattle.demands.specs.CallFaults.◌before◌.{first, later}
use Rattle.demands.specs.CallFaults.SpeciesRecordFault.{not_valid_or_binary}
use Rattle.demands.specs.Handed.{Size}
use Rattle.demands.specs.Sheets.{LiesWithin, IsSpeciesTree, Gets, Told}
use Rattle.demands.specs.Sheets.Gets.{as_the_single_call, not_within}
use Rattle.demands.specs.Sheets.Told.{its_score, no_species_tree, beyond_records}
use Rattle.demands.proofs.FirstFaults.{NoFault, none_first, none_later, none_of_both, none_exactly}
use Rattle.demands.proofs.CallFaults.{sheet_exact, score-refused_at}
use Rattle.demands.proofs.InOrder.{no_fault_in_order, no_species_fault, no_count_fault, no_length_fault, no_records_fault, no_rooting_fault}
use Rattle.demands.proofs.Scorable.{scored_exactly, scored-value}
use Rattle.demands.proofs.OneOutcome.{score-once}
use Rattle.demands.proofs.FirstDemand.{replies-score, score-refused}

-- ---- places of a list

at_position : (l : List Entry) (i : ℕ) (d : Entry) → get_or (map (λ e. e.position) l) i d.position ≡ (get_or l i d).position
at_position [] i d = refl
at_position (e ∷ l) zero d = refl
at_position (e ∷ l) (suc i) d = at_position l i d

beyond : (l : List Entry) (i : ℕ) (d : Entry) → length l ≤ i → get_or l i d ≡ d
beyond [] i d h = refl
beyond (e ∷ l) zero d h = absurd (omega arith)
beyond (e ∷ l) (suc i) d h = beyond l i d (omega arith)

-- ---- what an entry gets, by itself

module _ (rooting : Rooting) (n : ℕ) (genes : List ℕ) (count : ℕ) (records : List ℕ) (position : ℕ) where
  -- one number and one score
  pub gets_once :
      {k v k' v' : ℕ} → Gets rooting n genes count records position k v → Gets rooting n genes count records position k' v' → (k ≡ k') × (v ≡ v')
  gets_once (as_the_single_call s in-s told) (as_the_single_call t in-t told') =
      let e = score-once rooting n genes count (record_at records position) s t told told' in
      (ap (λ (r : Reply). r.number) e, ap (λ (r : Reply). r.value) e)
  gets_once (as_the_single_call s in-s told) (not_within out) = absurd (out in-s)
  gets_once (not_within out) (as_the_single_call t in-t told') = absurd (out in-t)
  gets_once (not_within out) (not_within out') = (refl, refl)

  -- any position may stand in an entry: from 2^59 on no record lies within, so none is found by a product that wraps
  pub far_positions : {k v : ℕ} → Size (length records) → 2 ^ 59 ≤ position → Gets rooting n genes count records position k v → (k ≡ 12) × (v ≡ 0)
  far_positions long far (as_the_single_call s inside told) = absurd (omega arith)
  far_positions long far (not_within out) = (refl, refl)

  -- where the gene trees are in order, the single call answers with a score or with 16, so that an entry gets one of three numbers
  module _ (g : GenesInOrder rooting n genes count) where
    abbrev species : List ℕ
    species = record_at records position

    single-told : (s : Reply) → LiesWithin records position → Scores rooting n genes count species s → Told rooting n genes count records position s.number s.value
    single-told s inside told = go (ℕ_discrete s.number 0)
      where
        fault : (IsSpeciesTree n species → ⊥) → ScoreFault rooting n genes count species 16 0
        fault f =
            later (no_species_fault rooting n genes count g)
            (later (no_count_fault rooting n genes count g) (later (no_length_fault rooting n genes count g) (first (not_valid_or_binary f))))

        go : Dec (s.number ≡ 0) → Told rooting n genes count records position s.number s.value
        go (yes z) =
            let h = (scored_exactly rooting n genes count species s told).0 z in
            rw (z, scored-value rooting n genes count species s told z) (its_score inside (h.species_valid, h.species_binary))
        go (no f) =
            let never : IsSpeciesTree n species → ⊥ =
            λ t. f ((scored_exactly rooting n genes count species s told).1 (record { in_order = g; species_valid = t.0; species_binary = t.1 })) in
            rw (((score-refused_at rooting n genes count species s told 16 0).1 (fault never)).0, (score-refused rooting n genes count species s told f).value)
            (no_species_tree inside never)

    pub gets_told : {k v : ℕ} → Gets rooting n genes count records position k v → Told rooting n genes count records position k v
    gets_told (as_the_single_call s inside told) = single-told s inside told
    gets_told (not_within out) = beyond_records out

-- ---- the sheet

module _ {rooting : Rooting} {n : ℕ} {genes : List ℕ} {count : ℕ} {records : List ℕ} {entries : List Entry} {r : Reply} {after : List Entry}
    (sheets : Sheets rooting n genes count records entries r after) where
  -- number 0 exactly when the gene trees are in order, whatever the records and the entries
  pub sheet_exactly : (r.number ≡ 0) ↔ GenesInOrder rooting n genes count
  sheet_exactly =
      let e = ap (λ (r : Reply). r.number) sheets.reply in
      let exactly = none_exactly (sheet_exact rooting n genes count) in
      (λ z. in_order (exactly.0 (sym e ∙ z)), λ g. e ∙ exactly.1 (no_fault_lem g))
    where
      in_order : NoFault (SheetFault rooting n genes count) → GenesInOrder rooting n genes count
      in_order h =
          let c = none_later h in
          let l = none_later c in
          let v = none_later l in
          no_fault_in_order rooting n genes count (none_first h) (none_first c) (none_first l) (none_first v) (none_later v)

      no_fault_lem : GenesInOrder rooting n genes count → NoFault (SheetFault rooting n genes count)
      no_fault_lem g =
          none_of_both (no_species_fault rooting n genes count g)
          (none_of_both (no_count_fault rooting n genes count g)
          (none_of_both (no_length_fault rooting n genes count g)
          (none_of_both (no_records_fault rooting n genes count g) (no_rooting_fault rooting n genes count g))))

  -- each entry's position is kept, refused or not
  pub position-kept : (i : ℕ) (d : Entry) → (get_or after i d).position ≡ (get_or entries i d).position
  position-kept i d =
      sym (at_position after i d) ∙ ap (λ (l : List ℕ). get_or l i d.position) (positions_kept sheets) ∙ at_position entries i d

  -- which entries a call may touch: those lent, where nothing refuses the whole call, and none beyond them
  pub touched : (i : ℕ) (d : Entry) → (get_or after i d ≡ get_or entries i d → ⊥) → (r.number ≡ 0) × (i < length entries)
  touched i d other = (fine (ℕ_discrete r.number 0), inside (dec_lt i (length entries)))
    where
      fine : Dec (r.number ≡ 0) → r.number ≡ 0
      fine (yes z) = z
      fine (no f) = absurd (other (rw (none_altered sheets f)))

      inside : Dec (i < length entries) → i < length entries
      inside (yes l) = l
      inside (no f) = absurd (other (beyond after i d (omega (arith, f, as_many sheets)) ∙ sym (beyond entries i d (omega (arith, f)))))

  -- "One call is to .. fill each entry's number and score": every entry gets what it is to get, each by itself
  module _ (fine : r.number ≡ 0) (i : ℕ) (here : i < length entries) (d : Entry) where
    abbrev position : ℕ
    position = (get_or entries i d).position

    pub each_gets : Gets rooting n genes count records position (get_or after i d).number (get_or after i d).score
    each_gets = go (dec_le _ _)
      where
        go : Dec (LiesWithin records position) → Gets rooting n genes count records position (get_or after i d).number (get_or after i d).score
        go (yes inside) =
            let single = replies-score rooting n genes count (record_at records position) in
            rw (gets_single sheets fine i here d (omega arith) single.outcome single.meets) (as_the_single_call single.outcome inside single.meets)
        go (no f) = rw (gets_twelve sheets fine i here d (omega (arith, f))) (not_within f)

    -- exactly what the single scoring call gives, whose promise the other reply meets
    pub as_single_call :
        LiesWithin records position → (s : Reply) → Scores rooting n genes count (record_at records position) s
        → ((get_or after i d).number ≡ s.number) × ((get_or after i d).score ≡ s.value)
    as_single_call inside s told = gets_once rooting n genes count records position each_gets (as_the_single_call s inside told)

    -- or 12 and 0
    pub twelve_and_zero : (LiesWithin records position → ⊥) → ((get_or after i d).number ≡ 12) × ((get_or after i d).score ≡ 0)
    twelve_and_zero out = gets_once rooting n genes count records position each_gets (not_within out)

    -- by the three numbers: 0 with its score, 16 for a record that is no species tree, 12 for one that does not lie within
    pub each-told : Told rooting n genes count records position (get_or after i d).number (get_or after i d).score
    each-told = gets_told rooting n genes count records position (sheet_exactly.0 fine) each_gets
