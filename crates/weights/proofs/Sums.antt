-- Weights and scores as sums: over lists of gene trees put together, over their order, and how large they are.
use Prim.Native.Nat.{ℕ, ◌+◌, ◌-◌, ◌*◌, ◌≤◌, ◌<◌, min}
use mathlib.Core.Path.{◌≡◌, refl}
use mathlib.Core.List.Memᴰ.{head as here}
use mathlib.Core.List.Memᴰ.{tail as there}
use mathlib.Core.List.{List, [], ◌∷◌, ◌++◌, map, Memᴰ}
use native.Mathlib.Nat.{mul-suc, mul-le-mul_left}
use native.Mathlib.Omega.{arith}
use lib.ListN.{length, drop, length-take}
use Rattle.clusters.specs.Sets.{whole, single}
use Rattle.clusters.proofs.Sets.{within_whole}
use Rattle.clusters.proofs.Sizes.{size-zero}
use Rattle.trees.specs.Records.{count, listed, largest, Form, SpeciesValid, AllValidFor, AllValid}
use Rattle.trees.specs.Lists.{total, InAnyOrder}
use Rattle.trees.specs.Lists.InAnyOrder.{nothing, put}
use Rattle.trees.proofs.GeneRecords.{gene-small}
use Rattle.weights.specs.Count.{extra, weight, score}
use Rattle.weights.specs.Work.{AllCountableFor, AllCountable}
use Rattle.weights.proofs.Bounds.{extra_lt_size, extra_of_single, extra_of_holder}
use Rattle.weights.proofs.Checked.{extra-le}
use Rattle.weights.specs.declared.Rooting.{Rooting}

-- ---- the weight of a cluster

pub weight_none : (rooting : Rooting) (a : ℕ) → weight rooting [] a ≡ 0
unfolding weight
weight_none rooting a = refl

pub weight_cons : (rooting : Rooting) (g : List ℕ) (l : List (List ℕ)) (a : ℕ) → weight rooting (g ∷ l) a ≡ extra rooting g a + weight rooting l a
unfolding weight
weight_cons rooting g l a = refl

-- the weight over two lists of gene trees is the sum of both
pub weight_append : (rooting : Rooting) (g h : List (List ℕ)) (a : ℕ) → weight rooting (g ++ h) a ≡ weight rooting g a + weight rooting h a
weight_append rooting [] h a = omega (arith, weight_none rooting a)
weight_append rooting (x ∷ g) h a = omega (arith, weight_cons rooting x (g ++ h) a, weight_cons rooting x g a, weight_append rooting g h a)

-- ---- the score: the weights of a list of clusters, added up

unfoldable pub weights : Rooting → List (List ℕ) → List ℕ → ℕ
weights rooting genes cs = total (map (λ a. weight rooting genes a) cs)

pub score-weights : (rooting : Rooting) (genes : List (List ℕ)) (species : List ℕ) → score rooting genes species ≡ weights rooting genes (listed species)
unfolding score weights
score-weights rooting genes species = refl

pub weights_none : (rooting : Rooting) (genes : List (List ℕ)) → weights rooting genes [] ≡ 0
unfolding weights total
weights_none rooting genes = refl

pub weights_cons : (rooting : Rooting) (genes : List (List ℕ)) (a : ℕ) (cs : List ℕ) → weights rooting genes (a ∷ cs) ≡ weight rooting genes a + weights rooting genes cs
unfolding weights total
weights_cons rooting genes a cs = refl

pub weights_append : (rooting : Rooting) (g h : List (List ℕ)) (cs : List ℕ) → weights rooting (g ++ h) cs ≡ weights rooting g cs + weights rooting h cs
weights_append rooting g h [] = omega (arith, weights_none rooting (g ++ h), weights_none rooting g, weights_none rooting h)
weights_append rooting g h (a ∷ cs) =
    omega (arith, weights_cons rooting (g ++ h) a cs, weights_cons rooting g a cs, weights_cons rooting h a cs, weight_append rooting g h a, weights_append rooting g h cs)

-- the score over two lists of gene trees is the sum of both
pub score_append : (rooting : Rooting) (g h : List (List ℕ)) (species : List ℕ) → score rooting (g ++ h) species ≡ score rooting g species + score rooting h species
score_append rooting g h species =
    omega (
      arith,
      score-weights rooting (g ++ h) species,
      score-weights rooting g species,
      score-weights rooting h species,
      weights_append rooting g h (listed species),
    )

-- ---- the order of the gene trees

-- a gene tree in the middle counts as one at the front
pub weight-anywhere : (rooting : Rooting) (g : List (List ℕ)) (x : List ℕ) (h : List (List ℕ)) (a : ℕ)
    → weight rooting (g ++ (x ∷ h)) a ≡ extra rooting x a + weight rooting (g ++ h) a
weight-anywhere rooting g x h a = omega (arith, weight_append rooting g (x ∷ h) a, weight_cons rooting x h a, weight_append rooting g h a)

-- the weight does not depend on the order
pub weight-reordered : (rooting : Rooting) {l k : List (List ℕ)} (a : ℕ) → InAnyOrder l k → weight rooting l a ≡ weight rooting k a
weight-reordered rooting a nothing = refl
weight-reordered rooting a (put {x = x} {l = l} front behind o) = omega
    (arith, weight_cons rooting x l a, weight-reordered rooting a o, weight-anywhere rooting front x behind a)

pub weights-reordered : (rooting : Rooting) {l k : List (List ℕ)} (cs : List ℕ) → InAnyOrder l k → weights rooting l cs ≡ weights rooting k cs
weights-reordered rooting {l} {k} [] r = omega (arith, weights_none rooting l, weights_none rooting k)
weights-reordered rooting {l} {k} (a ∷ cs) r =
    omega (arith, weights_cons rooting l a cs, weights_cons rooting k a cs, weight-reordered rooting a r, weights-reordered rooting cs r)

-- nor does the score
pub score-reordered : (rooting : Rooting) {l k : List (List ℕ)} (species : List ℕ) → InAnyOrder l k → score rooting l species ≡ score rooting k species
score-reordered rooting {l} {k} species r = omega (arith, score-weights rooting l species, score-weights rooting k species, weights-reordered rooting (listed species) r)

-- ---- what weighs nothing

weight_of_nothing : (rooting : Rooting) (genes : List (List ℕ)) (a : ℕ) → ((g : List ℕ) → Memᴰ g genes → extra rooting g a ≡ 0) → weight rooting genes a ≡ 0
weight_of_nothing rooting [] a f = weight_none rooting a
weight_of_nothing rooting (g ∷ l) a f = omega (arith, weight_cons rooting g l a, f g (here refl), weight_of_nothing rooting l a (λ h m. f h (there m)))

-- "single species and the whole set weigh 0"
pub singles_weigh_nothing : {b : ℕ} (rooting : Rooting) (n i : ℕ) (genes : List (List ℕ)) → n ≤ min b 32 → AllValidFor b n genes → weight rooting genes (single i) ≡ 0
singles_weigh_nothing rooting n i genes few v =
    weight_of_nothing rooting genes (single i) (λ g m. extra_of_single (v g m).valid (gene-small few (v g m)) rooting i)

pub whole_weighs_nothing : {b : ℕ} (rooting : Rooting) (n : ℕ) (genes : List (List ℕ)) → AllValidFor b n genes → weight rooting genes (whole n) ≡ 0
whole_weighs_nothing rooting n genes v = weight_of_nothing rooting genes (whole n)
    (λ g m. extra_of_holder (v g m).valid rooting (whole n) (within_whole n (v g m).of_roster.1))

-- no species weigh nothing
pub none_weigh_nothing : {b n : ℕ} (rooting : Rooting) (genes : List (List ℕ)) → n ≤ min b 32 → AllValidFor b n genes → weight rooting genes 0 ≡ 0
none_weigh_nothing rooting genes few v =
    weight_of_nothing rooting genes 0 (λ g m. omega (arith, extra_lt_size (v g m).valid (gene-small few (v g m)) rooting 0, size-zero))

-- ---- bounds

weight-le : (rooting : Rooting) (b : ℕ) (genes : List (List ℕ)) (a : ℕ) → ((g : List ℕ) → Memᴰ g genes → extra rooting g a ≤ b)
    → weight rooting genes a ≤ b * length genes
weight-le rooting b [] a f = omega (arith, weight_none rooting a)
weight-le rooting b (g ∷ l) a f =
    omega (arith, weight_cons rooting g l a, f g (here refl), weight-le rooting b l a (λ h m. f h (there m)), mul-suc b (length l))

-- a gene tree adds at most one less to a weight than its record has room for species
pub weight-bound : {b : ℕ} (rooting : Rooting) (genes : List (List ℕ)) (a : ℕ) → AllCountableFor b genes → weight rooting genes a ≤ (b - 1) * length genes
weight-bound {b} rooting genes a can = weight-le rooting (b - 1) genes a (λ g m. extra-le rooting a (can g m))

-- inside the limits: 61,440 for 01's records and 126,976 for wide ones
pub weight_most :
    {b : ℕ} (rooting : Rooting) (genes : List (List ℕ)) (a : ℕ) → length genes ≤ 4096 → AllCountableFor b genes → weight rooting genes a ≤ (b - 1) * 4096
weight_most {b} rooting genes a few can = omega (arith, weight-bound rooting genes a can, mul-le-mul_left (b - 1) few)

-- a sum of numbers none of which is large
total-le : (weigh : ℕ → ℕ) (most : ℕ) (cs : List ℕ) → ((a : ℕ) → weigh a ≤ most) → total (map weigh cs) ≤ most * length cs
unfolding total
total-le weigh most [] f = omega arith
total-le weigh most (a ∷ cs) f = omega (arith, f a, total-le weigh most cs f, mul-suc most (length cs))

-- a species record has at most 31 clusters
pub total_of_record : (weigh : ℕ → ℕ) (most : ℕ) {species : List ℕ} → ((a : ℕ) → weigh a ≤ most) → Form species → total (map weigh (listed species)) ≤ most * 31
total_of_record weigh most {species} f form =
    let few : length (listed species) ≤ 31 = omega (arith, form.counted, length-take (count species) (drop 1 species)) in
    omega (arith, total-le weigh most (listed species) f, mul-le-mul_left most few)

-- inside the limits a score is at most 31 times 61,440
pub score-bound : (rooting : Rooting) (genes : List (List ℕ)) {species : List ℕ} → length genes ≤ 4096 → AllCountable genes → Form species
    → score rooting genes species ≤ 31 * 61440
unfolding score
score-bound rooting genes {species} few can form =
    omega (arith, total_of_record (λ a. weight rooting genes a) 61440 (λ a. omega (arith, weight_most rooting genes a few can)) form)

-- valid gene records can be counted
pub valid-countable : {b n : ℕ} {genes : List (List ℕ)} → n ≤ min b 32 → AllValidFor b n genes → AllCountableFor b genes
valid-countable few all g m = let v = all g m in record { species = largest g; valid = v.valid; small = gene-small few v }

-- so no score is the mark of a cluster without a tree
pub no_score_reaches_the_mark :
    (rooting : Rooting) {n : ℕ} (genes : List (List ℕ)) (species : List ℕ) → n ≤ 16 → length genes ≤ 4096 → AllValid n genes → SpeciesValid n species
    → score rooting genes species < 4294967295
no_score_reaches_the_mark rooting genes species l few v s = omega (arith, score-bound rooting genes few (valid-countable l v) s.form)
