-- "With one individual each" (#110): the sets of individuals are the sets of species under other names, so gene records on species, taken to individuals, are valid, and every weight and
-- score on the stand is that of the gene records on species.
use Prim.Native.Nat.{ℕ, ◌-◌, ◌^◌, ◌≤◌, ◌<◌}
use mathlib.Core.Path.{◌≡◌, refl, sym, ap, ◌∙◌, subst}
use mathlib.Core.Logic.{inl, inr}
use mathlib.Core.List.Memᴰ
use mathlib.Core.List.Memᴰ.{head as here}
use mathlib.Core.List.Memᴰ.{tail as there}
use mathlib.Core.List.{List, [], ◌∷◌, map}
use native.Mathlib.Omega.{arith}
use lib.ListN.{length, get_or, length-map}
use Rattle.clusters.specs.Sets.{Has, Within, Apart, within, apart, single}
use Rattle.clusters.proofs.Members.{has-below, has-single, some_has, has_some, same_members}
use Rattle.clusters.proofs.Sets.{apart-true, true-apart}
use Rattle.clusters.proofs.Sizes.{size_one}
use Rattle.trees.specs.Lists.{Among, NoneTwice, sorted}
use Rattle.trees.specs.Records.{listed, largest, Nested, record_for, ValidFor, GeneValidFor, GeneValid, AllValidFor, AllValid}
use Rattle.trees.proofs.GeneRecords.{gene_of_valid, gene-cluster-below}
use Rattle.trees.proofs.Order.{among-sorted, sorted-among, rising_none_twice, rising-sorted}
use Rattle.trees.proofs.Places.{at_among}
use Rattle.trees.proofs.Recorded.{listed_record, record_form, length-listed, among_record, record_among}
use Rattle.trees.proofs.Totals.{total_same}
use Rattle.weights.specs.Count.{k_of, extra, weight, score}
use Rattle.weights.specs.Stand.{individuals_of, species_in, Parted, stand_weight, stand_score, OneEach, on_individuals}
use Rattle.weights.specs.declared.Rooting.TheVariants.{Rooted}
use Rattle.weights.proofs.Groups.{has-individuals, individuals-has, individuals-below, individuals-single, species-holds, has-species, species-has, only_one, within-species, apart-species}
use Rattle.weights.proofs.Joining.{Clusters, k_same}
use Rattle.weights.proofs.KeptWithin.{KeepsWithin, there_within, once-seen, k_seen}
use Rattle.weights.proofs.StandWeights.{stand-weight}
use Rattle.weights.proofs.Sums.{weight_none, weight_cons}

module _ {m : ℕ} {groups : List ℕ} (parted : Parted m groups) where
  abbrev see : ℕ → ℕ
  see x = individuals_of groups x

  -- each species of a set has an individual among those of the set
  some_of_each : (x i : ℕ) → i < length groups → Has x i → (j : ℕ) × Has (get_or groups i 0) j × Has (see x) j
  some_of_each x i less h =
      let j = some_has (get_or groups i 0) (parted.each_some (get_or groups i 0) (at_among groups 0 i less)) in
      (j.0, j.1, individuals-has groups x i j.0 less h j.1)

  pub individuals_some : (x : ℕ) → x < 2 ^ length groups → 1 ≤ x → 1 ≤ see x
  individuals_some x below some =
      let i = some_has x some in
      let j = some_of_each x i.0 (has-below (length groups) below i.1) i.1 in
      has_some j.0 j.2

  -- the species of the individuals of a set of species are that set
  pub species_of_individuals : (x : ℕ) → x < 2 ^ length groups → species_in groups (see x) ≡ x
  species_of_individuals x below = same_members (species_in groups (see x)) x there back
    where
      there : (i : ℕ) → Has (species_in groups (see x)) i → Has x i
      there i h =
          let j = species-holds groups (see x) i h in
          let k = has-individuals groups x j.0 j.2 in
          subst (λ (n : ℕ). Has x n) (only_one parted k.0 i j.0 k.1 (has-species groups (see x) i h).0 k.3 j.1) k.2

      back : (i : ℕ) → Has x i → Has (species_in groups (see x)) i
      back i h =
          let less = has-below (length groups) below h in
          let j = some_of_each x i less h in
          species-has groups (see x) i j.0 less j.1 j.2

  -- so what lies within what is kept, and what is disjoint
  pub individuals-keep : KeepsWithin (length groups) see
  individuals-keep = record {
    kept = λ x y l. within-species parted (see x) (individuals-below parted x) y ∙ ap (λ (s : ℕ). within s y) (species_of_individuals x l);
  }

  apart-kept : (x y : ℕ) → x < 2 ^ length groups → Apart x y → Apart (see x) (see y)
  apart-kept x y l d =
      apart-true (see x) (see y)
      (apart-species parted (see x) (individuals-below parted x) y ∙ ap (λ (s : ℕ). apart s y) (species_of_individuals x l) ∙ true-apart x y d)

  -- ---- a gene record on the species

  module _ {g : List ℕ} (valid : GeneValid (length groups) g) where
    below : (x : ℕ) → Among x (listed g) → x < 2 ^ length groups
    below x h = (gene-cluster-below valid x h).1

    abbrev seen : List ℕ
    seen = map see (listed g)

    once : NoneTwice seen
    once = once-seen individuals-keep (listed g) below (rising_none_twice (listed g) valid.valid.form.rising)

    nested-kept : (x y : ℕ) → Among x (listed g) → Among y (listed g) → Nested x y → Nested (see x) (see y)
    nested-kept x y h k (inl d) = inl (apart-kept x y (below x h) d)
    nested-kept x y h k (inr (inl w)) = inr (inl (there_within individuals-keep x y (below x h) w))
    nested-kept x y h k (inr (inr w)) = inr (inr (there_within individuals-keep y x (below y k) w))

    nested-seen : (a b : ℕ) → Among a seen → Among b seen → Nested a b
    nested-seen a b h k =
        let x = Memᴰ.of_map see (listed g) h in
        let y = Memᴰ.of_map see (listed g) k in
        subst (λ (c : ℕ). Nested c b) x.2 (subst (λ (d : ℕ). Nested (see x.0) d) y.2 (nested-kept x.0 y.0 x.1 y.1 (valid.valid.nested x.0 y.0 x.1 y.1)))

    inside-seen : (a : ℕ) → Among a seen → (1 ≤ a) × Within a (see (largest g))
    inside-seen a h =
        let x = Memᴰ.of_map see (listed g) h in
        let i = valid.valid.inside x.0 x.1 in
        subst (λ (c : ℕ). (1 ≤ c) × Within c (see (largest g))) x.2
        (individuals_some x.0 (below x.0 x.1) i.0, there_within individuals-keep x.0 (largest g) (below x.0 x.1) i.1)

    clusters-seen : Clusters seen
    clusters-seen = record { some = λ a h. (inside-seen a h).0; nested = nested-seen }

    -- k of A's individuals is k of A
    k_renamed : (a : ℕ) → k_of (listed (on_individuals groups g)) (see a) ≡ k_of (listed g) a
    unfolding on_individuals
    k_renamed a =
        ap (λ (l : List ℕ). k_of l (see a)) (listed_record 32 seen)
        ∙ k_same (sorted seen) seen (see a) clusters-seen (rising_none_twice (sorted seen) (rising-sorted seen once)) once (λ x h. among-sorted seen h) (λ x h. sorted-among seen h)
        ∙ k_seen individuals-keep (listed g) below a (record { some = λ x h. (valid.valid.inside x h).0; nested = valid.valid.nested }) clusters-seen

    pub extra-renamed : (a : ℕ) → extra Rooted (on_individuals groups g) (see a) ≡ extra Rooted g a
    unfolding extra
    extra-renamed a = ap (λ (k : ℕ). k - 1) (k_renamed a)

    -- ---- with one individual each it is a valid record on individuals

    module _ (one : OneEach groups) where
      -- the individual of a species, alone, is the single species under its other name
      single-seen : (j : ℕ) → Has (see (largest g)) j → Among (single j) seen
      single-seen j h =
          let i = has-individuals groups (largest g) j h in
          let alone = size_one (one (get_or groups i.0 0) (at_among groups 0 i.0 i.1)) in
          let is : alone.0 ≡ j = has-single alone.0 j (subst (λ (x : ℕ). Has x j) alone.1 i.3) in
          let name : see (single i.0) ≡ single j = individuals-single parted i.0 i.1 ∙ alone.1 ∙ ap single is in
          subst (λ (x : ℕ). Among x seen) name (Memᴰ.map see (valid.valid.singles i.0 i.2))

      pub renamed-valid : GeneValidFor 32 m (on_individuals groups g)
      unfolding on_individuals
      renamed-valid = gene_of_valid on_whole (individuals_some (largest g) valid.of_roster.1 valid.of_roster.0, individuals-below parted (largest g))
        where
          few : length seen < 64
          few = omega (arith, length-map (listed g) see, length-listed g valid.valid.form, valid.valid.form.counted)

          on_whole : ValidFor 32 (see (largest g)) (record_for 32 seen)
          on_whole = record {
            form = record_form seen once few;
            singles = λ j h. record_among 32 seen (single-seen j h);
            all = record_among 32 seen (Memᴰ.map see valid.valid.all);
            inside = λ a h. inside-seen a (among_record 32 seen h);
            nested = λ a b h k. nested-seen a b (among_record 32 seen h) (among_record 32 seen k);
          }

  -- ---- all gene records

  -- every weight on the stand is that of the gene records on species
  pub weight-renamed :
      (genes : List (List ℕ)) → AllValid (length groups) genes → (a : ℕ) → stand_weight groups (map (on_individuals groups) genes) a ≡ weight Rooted genes a
  weight-renamed genes valid a = stand-weight groups (map (on_individuals groups) genes) a ∙ go genes valid
    where
      go : (l : List (List ℕ)) → AllValid (length groups) l → weight Rooted (map (on_individuals groups) l) (see a) ≡ weight Rooted l a
      go [] v = weight_none Rooted (see a) ∙ sym (weight_none Rooted a)
      go (g ∷ l) v =
          omega (
            arith,
            weight_cons Rooted (on_individuals groups g) (map (on_individuals groups) l) (see a),
            weight_cons Rooted g l a,
            extra-renamed (v g (here refl)) a,
            go l (λ h k. v h (there k)),
          )

  -- and every score
  pub score-renamed :
      (genes : List (List ℕ)) → AllValid (length groups) genes → (species : List ℕ)
      → stand_score groups (map (on_individuals groups) genes) species ≡ score Rooted genes species
  unfolding stand_score score
  score-renamed genes valid species =
      total_same (λ a. stand_weight groups (map (on_individuals groups) genes) a) (λ a. weight Rooted genes a) (listed species) (λ a h. weight-renamed genes valid a)

  pub all_renamed_valid : OneEach groups → (genes : List (List ℕ)) → AllValid (length groups) genes → AllValidFor 32 m (map (on_individuals groups) genes)
  all_renamed_valid one genes valid g h =
      let k = Memᴰ.of_map (on_individuals groups) genes h in
      subst (λ (r : List ℕ). GeneValidFor 32 m r) k.2 (renamed-valid (valid k.0 k.1) one)
