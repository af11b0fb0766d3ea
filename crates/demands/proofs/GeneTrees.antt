-- The count over gene records is the count over the gene trees as drawn.
use Prim.Native.Nat.{ℕ, ◌-◌, ◌^◌, ◌≤◌, ◌<◌}
use mathlib.Core.Path.{◌≡◌, refl, sym, ap, ap₂, ◌∙◌, subst}
use mathlib.Core.Logic.{◌⊎◌, inl, inr, ◌↔◌}
use mathlib.Core.Bool.{true}
use mathlib.Core.List.Memᴰ
use mathlib.Core.List.Memᴰ.{head as here}
use mathlib.Core.List.Memᴰ.{tail as there}
use mathlib.Core.List.{List, [], ◌∷◌, map, map-map, Memᴰ}
use Rattle.clusters.specs.Sets.{whole}
use Rattle.trees.specs.Tree.{Tree, On, cluster, clusters}
use Rattle.trees.specs.Drawn.{drawn}
use Rattle.trees.specs.Records.{listed, record_of, largest, ClusterOf, GeneValid, ValidOn}
use lib.Pow.{pow_mono}
use native.Mathlib.Omega.{arith}
use Rattle.trees.specs.Unrooted.{RootedAnyhow, may_unroot}
use Rattle.trees.proofs.Drawing.{drawn_on, drawn_record}
use Rattle.trees.proofs.GeneRecords.{gene-small, largest_of_valid}
use Rattle.trees.proofs.Bounds.{whole_below_sixteen}
use Rattle.trees.proofs.Recorded.{valid_of_drawn}
use Rattle.trees.proofs.Likeness.{alike_of_record}
use Rattle.trees.proofs.RedrawingOrder.{alike-rooted}
use Rattle.trees.proofs.MayUnroot.{may_unroot_exactly}
use Rattle.trees.proofs.Totals.{total_same}
use Rattle.trees.specs.Lists.{total}
use Rattle.weights.specs.declared.Rooting.{Rooting}
use Rattle.weights.specs.declared.Rooting.TheVariants.{Rooted, Unrooted}
use Rattle.weights.specs.Count.{k_of, extra, weight, score}
use Rattle.weights.specs.Lineages.{lineages}
use Rattle.weights.proofs.CountedDown.{k_counted_down, k_of_record}
use Rattle.demands.specs.GeneTrees.{OnSome, RecordsOf, Enters, MayEnter, k_in, score_over}

-- ---- valid gene records have drawn trees

-- a gene tree is a tree on its own species
pub on_own : {n : ℕ} {t : Tree} → OnSome n t → On (cluster t) t
on_own o = record { once = o.once; all = refl }

-- the tree that a valid gene record draws
drawn_on_some : {n : ℕ} {g : List ℕ} → n ≤ 16 → GeneValid n g → OnSome n (drawn (listed g) (largest g))
drawn_on_some {n} {g} few v =
    let o = drawn_on v.valid (gene-small few v) in
    record {
      once = o.once;
      species = subst (λ (s : ℕ). ClusterOf n s) (sym o.all) v.of_roster;
    }

pub gene_trees : (n : ℕ) (genes : List (List ℕ)) → n ≤ 16 → ((g : List ℕ) → Memᴰ g genes → GeneValid n g) → (trees : List Tree) × RecordsOf n genes trees
gene_trees n [] few valid = ([], record { records = refl; on = λ t m. absurd (Memᴰ.not-nil m) })
gene_trees n (g ∷ genes) few valid = go (gene_trees n genes few (λ x m. valid x (there m)))
  where
    here_valid : GeneValid n g
    here_valid = valid g (here refl)

    go : (trees : List Tree) × RecordsOf n genes trees → (trees : List Tree) × RecordsOf n (g ∷ genes) trees
    go (trees, r) = (
      drawn (listed g) (largest g) ∷ trees,
      record {
        records = ap₂ ◌∷◌ (sym (drawn_record here_valid.valid (gene-small few here_valid))) r.records;
        on = λ t m. each t (Memᴰ.cases_cons m);
      },
    )
      where
        each : (t : Tree) → (t ≡ drawn (listed g) (largest g)) ⊎ Memᴰ t trees → OnSome n t
        each t (inl e) = subst (OnSome n) (sym e) (drawn_on_some few here_valid)
        each t (inr m) = r.on t m

-- ---- which gene trees may be counted without a root

-- sixteen species have numbers of sixteen bits
pub cluster-small : {n a : ℕ} → n ≤ 16 → ClusterOf n a → a < 2 ^ 16
cluster-small few c = let b = c.1 in omega (arith, pow_mono {j = 16} few)

-- the record of a gene tree is valid
drawn-valid : {n : ℕ} {t : Tree} → n ≤ 16 → OnSome n t → GeneValid n (record_of (clusters t))
drawn-valid {n} {t} few o =
    let v = valid_of_drawn {b = 16} (on_own o) (cluster-small few o.species) in
    let e = largest_of_valid v in
    record {
      of_roster = subst (λ (s : ℕ). ClusterOf n s) (sym e) o.species;
      valid = subst (λ (s : ℕ). ValidOn s (record_of (clusters t))) (sym e) v;
    }

-- so are those of all gene trees
pub all_drawn_valid : {n : ℕ} {genes : List (List ℕ)} {trees : List Tree} → n ≤ 16 → RecordsOf n genes trees → (g : List ℕ) → Memᴰ g genes → GeneValid n g
all_drawn_valid {n} {genes} {trees} few r g m =
    go (Memᴰ.of_map (λ (t : Tree). record_of (clusters t)) trees (subst (λ (l : List (List ℕ)). Memᴰ g l) r.records m))
  where
    go : (t : Tree) × Memᴰ t trees × (record_of (clusters t) ≡ g) → GeneValid n g
    go (t, k, e) = subst (GeneValid n) e (drawn-valid few (r.on t k))

-- "Only complete trees enter, binary save that the root may have three children" (#106): the test of a record says so of the tree
pub enters_exactly : {n : ℕ} {t : Tree} → n ≤ 16 → OnSome n t → (may_unroot n (record_of (clusters t)) ≡ true) ↔ Enters n t
enters_exactly {n} {t} few o = (λ e. go ((may_unroot_exactly few).0 (drawn-valid few o, e)), λ h. ((may_unroot_exactly few).1 (t, h.complete, h.resolved, refl)).1)
  where
    go : (u : Tree) × On (whole n) u × RootedAnyhow u × (record_of (clusters u) ≡ record_of (clusters t)) → Enters n t
    go (u, on, rooted, same) =
        let all : cluster t ≡ whole n =
        sym (largest_of_valid (valid_of_drawn {b = 16} (on_own o) (cluster-small few o.species))) ∙ ap largest (sym same)
        ∙ largest_of_valid (valid_of_drawn {b = 16} on (whole_below_sixteen n few))
        in
        let complete : On (whole n) t = record { once = o.once; all = all } in
        record { complete = complete; resolved = alike-rooted (alike_of_record 16 on complete same) rooted }

-- the records may all be counted without a root exactly when all trees may
pub trees-enter :
    {n : ℕ} {genes : List (List ℕ)} {trees : List Tree} → n ≤ 16 → RecordsOf n genes trees
    → ((g : List ℕ) → Memᴰ g genes → may_unroot n g ≡ true) ↔ ((t : Tree) → Memᴰ t trees → Enters n t)
trees-enter {n} {genes} {trees} few r = (
  λ h t m. (enters_exactly few (r.on t m)).0
      (h (record_of (clusters t))
      (subst (λ (l : List (List ℕ)). Memᴰ (record_of (clusters t)) l) (sym r.records) (Memᴰ.map (λ (t : Tree). record_of (clusters t)) m))),
  λ h g m. back h g (Memᴰ.of_map (λ (t : Tree). record_of (clusters t)) trees (subst (λ (l : List (List ℕ)). Memᴰ g l) r.records m)),
)
  where
    back : ((t : Tree) → Memᴰ t trees → Enters n t) → (g : List ℕ) → (t : Tree) × Memᴰ t trees × (record_of (clusters t) ≡ g) → may_unroot n g ≡ true
    back h g (t, m, e) = subst (λ (g : List ℕ). may_unroot n g ≡ true) e ((enters_exactly few (r.on t m)).1 (h t m))

-- the same of a record
pub may_enter_exactly : {n : ℕ} {g : List ℕ} → n ≤ 16 → (GeneValid n g × (may_unroot n g ≡ true)) ↔ MayEnter n g
may_enter_exactly few = (
  λ k. let t = (may_unroot_exactly few).0 k in record { tree = t.0; enters = record { complete = t.1; resolved = t.2 }; records = t.3 },
  λ h. (may_unroot_exactly few).1 (h.tree, h.enters.complete, h.enters.resolved, h.records),
)

-- ---- the weight and the score

-- what a gene tree adds to a weight
extra-drawn : (rooting : Rooting) {n : ℕ} {t : Tree} (a : ℕ) → OnSome n t → extra rooting (record_of (clusters t)) a ≡ k_in rooting t a - 1
unfolding extra
extra-drawn Rooted a o = ap (λ (k : ℕ). k - 1) (k_of_record 16 a (on_own o) ∙ sym (k_counted_down a (on_own o)))
extra-drawn Unrooted a o = refl

module _ {n : ℕ} {genes : List (List ℕ)} {trees : List Tree} (r : RecordsOf n genes trees) where
  weight-drawn : (rooting : Rooting) (a : ℕ) → weight rooting genes a ≡ total (map (λ (t : Tree). k_in rooting t a - 1) trees)
  unfolding weight
  weight-drawn rooting a =
      ap (λ (l : List (List ℕ)). total (map (λ (g : List ℕ). extra rooting g a) l)) r.records
      ∙ ap total (map-map (λ (g : List ℕ). extra rooting g a) (λ (t : Tree). record_of (clusters t)) trees)
      ∙ total_same (λ (t : Tree). extra rooting (record_of (clusters t)) a) (λ (t : Tree). k_in rooting t a - 1) trees (λ t m. extra-drawn rooting a (r.on t m))

  -- the score over the records is the score over the trees
  pub score-drawn : (rooting : Rooting) (species : List ℕ) → score rooting genes species ≡ score_over rooting trees species
  unfolding score score_over
  score-drawn rooting species =
      total_same (weight rooting genes) (λ (a : ℕ). total (map (λ (t : Tree). k_in rooting t a - 1) trees)) (listed species) (λ a m. weight-drawn rooting a)

  -- "as in the paper of Yu, Warnow and Nakhleh": k is the number of lineages counted down the tree
  pub score_down :
      (species : List ℕ) → score_over Rooted trees species ≡ total (map (λ (a : ℕ). total (map (λ (t : Tree). lineages a t - 1) trees)) (listed species))
  unfolding score_over
  score_down species =
      total_same (λ (a : ℕ). total (map (λ (t : Tree). k_of (clusters t) a - 1) trees)) (λ (a : ℕ). total (map (λ (t : Tree). lineages a t - 1) trees)) (listed species)
      (λ a m.
      total_same (λ (t : Tree). k_of (clusters t) a - 1) (λ (t : Tree). lineages a t - 1) trees
      (λ t k. ap (λ (x : ℕ). x - 1) (k_counted_down a (on_own (r.on t k)))))
