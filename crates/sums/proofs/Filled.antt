-- The table of weights: what the changes, the transform and the end make of two cleared tables.
use Rattle.std.proofs.Common.{◌≡◌, ℕ, zero, suc, ◌+◌, ◌-◌, ◌%◌, ◌^◌, ◌<◌, ◌≤◌, List, [], map, length, get_or, take, replicate, sym, ap, ◌∙◌, arith, length-take, ext_get_or}
use lib.ListN.{length-map, length-replicate, get_or-replicate}
use Rattle.clusters.specs.Sets.{whole}
use Rattle.trees.specs.Lists.{Among, up_to}
use Rattle.trees.specs.Records.{largest, records_in, wide_records_in}
use Rattle.trees.proofs.EqualPieces.{pieces-length}
use Rattle.trees.proofs.Lent.{length-records_in}
use Rattle.trees.proofs.UpTo.{length-map-up_to, map-up_to}
use Rattle.weights.specs.Count.{weight}
use Rattle.weights.specs.Stand.{species_in, stand_weight}
use Rattle.weights.specs.Subsets.{often, modulus, plus_all, minus_all, whole_sets, taken, Differences, zeta}
use Rattle.weights.specs.Work.{AllCountableFor}
use Rattle.weights.specs.declared.Rooting.{Rooting}
use Rattle.weights.specs.declared.Rooting.TheVariants.{Rooted}
use Rattle.weights.proofs.Sums.{valid-countable}
use Rattle.weights.proofs.SumOfWeights.{Summed, summed_told, weights_summed}
use Rattle.weights.proofs.SumOfStand.{stand_summed}
use Rattle.weights.proofs.Zeta.{length-zeta, zeta_at_most}
use Rattle.sums.specs.Work.{Changed, Tallied, AllSummable, AtMost, Told, Weighable, StandWeighable}
use Rattle.sums.proofs.Changes.{often_none}

-- a table of zeros, of so many
pub record Zeros (m : ℕ) (l : List ℕ) : Type 0 where
  pub sized : length l ≡ m
  pub zeros : l ≡ replicate (length l) 0

-- what was cleared
pub zeros_of : {m n : ℕ} {l : List ℕ} → l ≡ replicate m 0 → m ≡ n → Zeros n l
zeros_of {m} {n} {l} e d =
    let long : length l ≡ m = ap length e ∙ length-replicate m 0 in
    record { sized = long ∙ d; zeros = e ∙ ap (λ (k : ℕ). replicate k 0) (sym long) }

-- ---- the tables of three lists of sets

module _ {n : ℕ} {plus minus wholes : List ℕ} {weigh : ℕ → ℕ} (summed : Summed n plus minus wholes weigh) (few : length wholes ≤ 4096)
    {f h cleared cleared_too : List ℕ} (blank : Zeros (2 ^ n) cleared) (blank-too : Zeros (2 ^ n) cleared_too) (changed : Changed plus minus cleared f)
    (tallied : Tallied wholes cleared_too h) where
  none_at : {l : List ℕ} → l ≡ replicate (length l) 0 → (x : ℕ) → x < length l → get_or l x 0 ≡ 0
  none_at {l} e x less = ap (λ (k : List ℕ). get_or k x 0) e ∙ get_or-replicate {A = ℕ} (length l) x 0 0 less

  -- the table of the sets that are counted and taken off
  first : Differences n plus minus f
  first = record {
    sized = changed.same ∙ blank.sized;
    entries = λ x l.
        let less : x < length cleared = omega (arith, blank.sized) in
        changed.entries x less ∙ ap (λ (k : ℕ). (k + often x plus) % modulus) (none_at blank.zeros x less) ∙ ap (λ (k : ℕ). k % modulus) (omega arith);
  }

  counted : (x : ℕ) → x < length h → get_or h x 0 ≡ often x wholes
  counted x l =
      let less : x < length cleared_too = omega (arith, tallied.same) in
      omega (arith, tallied.entries x less, none_at blank-too.zeros x less)

  -- the table of the whole sets
  second : Differences n wholes [] h
  second = record {
    sized = tallied.same ∙ blank-too.sized;
    entries = λ x l. ap (λ (k : ℕ). k % modulus) (omega (arith, counted x (omega (arith, tallied.same, blank-too.sized)), often_none x));
  }

  -- its entries are never more than the gene trees
  pub lost-small : (k : ℕ) → k ≤ n → AtMost 4096 (zeta k h)
  lost-small k l a less = omega (arith, zeta_at_most k wholes h counted below (omega arith) a (omega (arith, length-zeta k h)))
    where
      below : (x : ℕ) → Among x wholes → x < length h
      below x m = omega (arith, tallied.same, blank-too.sized, summed.wholes_below x m)

  -- what both tell in the end is the weight of each set
  pub all_told : {count : ℕ} {after : List ℕ} → length wholes ≡ count → Told count (zeta n f) (zeta n h) after → after ≡ map weigh (up_to (2 ^ n))
  unfolding whole
  all_told {count} {after} trees t =
      ext_get_or 0 after (map weigh (up_to (2 ^ n))) (long ∙ sym (length-map-up_to weigh (2 ^ n)))
      (λ a l. go a (omega (arith, long)) ∙ sym (map-up_to weigh (2 ^ n) a (omega (arith, long))))
    where
      long : length after ≡ 2 ^ n
      long = t.same ∙ length-zeta n f ∙ changed.same ∙ blank.sized

      all : length (zeta n f) - 1 ≡ whole n
      all = ap (λ (k : ℕ). k - 1) (length-zeta n f ∙ changed.same ∙ blank.sized)

      go : (a : ℕ) → a < 2 ^ n → get_or after a 0 ≡ weigh a
      go zero l = t.none ∙ sym summed.none
      go (suc a) l =
          summed_told summed first second (suc a) (get_or after (suc a) 0) (omega arith) l (t.small (suc a) there)
          (ap (λ (k : ℕ). (get_or after (suc a) 0 + k) % modulus) trees ∙ t.entries (suc a) (omega arith) there
          ∙ ap (λ (k : ℕ). (get_or (zeta n f) (suc a) 0 + get_or (zeta n h) (k - suc a) 0) % modulus) all)
        where
          there : suc a < length (zeta n f)
          there = omega (arith, length-zeta n f, changed.same, blank.sized)

-- ---- gene records

module _ {rooting : Rooting} {n : ℕ} {genes : List ℕ} {count : ℕ} (w : Weighable rooting n genes count) where
  -- every record has an entry for each of its sets
  pub all_summable : {entries : ℕ} → entries ≡ 2 ^ n → AllSummable entries (records_in count genes)
  all_summable e g m = record {
    countable = valid-countable w.few_species w.valid g m;
    fits = omega (arith, (w.valid g m).of_roster.1);
  }

  -- they are as many as their whole sets
  pub trees-counted : length (whole_sets (records_in count genes)) ≡ count
  trees-counted = length-map (records_in count genes) largest ∙ length-records_in count genes

  pub trees_few : length (whole_sets (records_in count genes)) ≤ 4096
  trees_few = omega (arith, trees-counted, w.few_genes)

  -- and tell the weights
  pub weighable_summed :
      Summed n (plus_all rooting (records_in count genes)) (minus_all rooting (records_in count genes)) (whole_sets (records_in count genes))
      (λ a. weight rooting (records_in count genes) a)
  weighable_summed =
      weights_summed rooting (records_in count genes) w.few_species w.valid w.enter (omega (arith, w.few_genes, length-records_in count genes))

-- ---- gene records on the individuals of a stand

module _ {n : ℕ} {groups genes : List ℕ} {count : ℕ} (w : StandWeighable n groups genes count) where
  -- as many groups as species
  pub stand-grouped : length (take n groups) ≡ n
  stand-grouped = omega (arith, length-take n groups, w.groups_long)

  pub stand-countable : AllCountableFor 32 (wide_records_in count genes)
  stand-countable = valid-countable w.few_individuals w.valid

  -- the records are as many as their whole sets
  pub stand-trees-counted : length (taken (take n groups) (whole_sets (wide_records_in count genes))) ≡ count
  stand-trees-counted =
      length-map (whole_sets (wide_records_in count genes)) (λ x. species_in (take n groups) x) ∙ length-map (wide_records_in count genes) largest
      ∙ pieces-length 64 count genes

  pub stand-trees_few : length (taken (take n groups) (whole_sets (wide_records_in count genes))) ≤ 4096
  stand-trees_few = omega (arith, stand-trees-counted, w.few_genes)

  -- and tell the weights
  pub stand-weighable_summed :
      Summed n (taken (take n groups) (plus_all Rooted (wide_records_in count genes))) (taken (take n groups) (minus_all Rooted (wide_records_in count genes)))
      (taken (take n groups) (whole_sets (wide_records_in count genes))) (λ a. stand_weight (take n groups) (wide_records_in count genes) a)
  stand-weighable_summed =
      rw stand-grouped at
      (stand_summed (wide_records_in count genes) w.parted w.few_individuals w.valid (omega (arith, w.few_genes, pieces-length 64 count genes)))
