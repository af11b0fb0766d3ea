-- Clusters that are dropped (#113): where gene records lose some of theirs, k of no set of species rises, so no extra lineages, no weight and no score do.
use Prim.Native.Nat.{ℕ, zero, suc, ◌≤◌}
use mathlib.Core.Path.{◌≡◌, refl, sym, subst}
use mathlib.Core.Logic.{inl, inr}
use mathlib.Core.List.Memᴰ.{head as here}
use mathlib.Core.List.Memᴰ.{tail as there}
use mathlib.Core.List.{List}
use native.Mathlib.Decide.{ℕ_discrete}
use native.Mathlib.Omega.{arith}
use Rattle.clusters.specs.Sets.{Within, within, size}
use Rattle.clusters.proofs.Sets.{within-refl, within_trans, within-apart, apart-within, within_dec}
use Rattle.clusters.proofs.Sizes.{size_some, size-within_lt}
use Rattle.trees.specs.Lists.{Among, keep}
use Rattle.trees.specs.Records.{listed, Nested, GeneValid, AllValid}
use Rattle.trees.specs.Valid.{every}
use Rattle.trees.specs.Thinned.{Thinned, AllThinned}
use Rattle.trees.specs.Thinned.AllThinned.{no_records, beside}
use Rattle.trees.proofs.Listing.{keep-among, among-keep, none_twice_keep}
use Rattle.trees.proofs.Matched.{matched_le}
use Rattle.trees.proofs.Totals.{total-le}
use Rattle.trees.proofs.Children.{Hierarchy, Child, hierarchy_of_valid, among-children, within-child}
use Rattle.trees.proofs.ValidTest.{tells_every, tells_within}
use Rattle.trees.proofs.GeneRecords.{gene-small}
use Rattle.weights.specs.Count.{holds_maximal, k_of, extra, weight, score}
use Rattle.weights.specs.declared.Rooting.TheVariants.{Rooted}
use Rattle.weights.proofs.Joining.{Joins, Clusters, tells_joins, tells_same, joining, k_either}
use Rattle.weights.proofs.Compared.{le_one_or}
use Rattle.weights.proofs.Sums.{weight_cons}

-- ---- a node that is counted

-- a node counted among cs between x and p
record Between (cs : List ℕ) (a x p q : ℕ) : Type 0 where
  among : Among q cs
  counted : Joins cs a q
  holds : Within x q
  inside : Within q p

hierarchy_clusters : {s : ℕ} {cs : List ℕ} → Hierarchy s cs → Clusters cs
hierarchy_clusters h = record { some = λ x m. (h.inside x m).0; nested = h.nested }

module _ {s : ℕ} {cs : List ℕ} (h : Hierarchy s cs) (a x : ℕ) (listed_x : Among x cs) (x-inside : Within x a) where
  -- from a cluster within A up to one that holds it and does not lie there, some node is counted
  counted-between : (n p : ℕ) → Among p cs → Within x p → (Within p a → ⊥) → size p ≤ n → (q : ℕ) × Between cs a x p q
  counted-between zero p m v outside l = absurd (omega (arith, size_some (h.inside p m).0))
  counted-between (suc n) p m v outside l =
      let c = within-child h listed_x v (λ e. outside (subst (λ (z : ℕ). Within z a) e x-inside)) in
      let child = among-children cs p c.1 in
      go c.0 child c.2 (within_dec c.0 a)
      (λ d. counted-between n c.0 child.among c.2 d (omega (arith, size-within_lt c.0 p child.inside child.other)))
    where
      go :
          (c : ℕ) → Child cs p c → Within x c → Dec (Within c a) → ((Within c a → ⊥) → (q : ℕ) × Between cs a x c q) → (q : ℕ) × Between cs a x p q
      go c child w (yes i) lower =
          (p, record { among = m; counted = record { outside = outside; held = c; child = child; inside = i }; holds = v; inside = within-refl p })
      go c child w (no d) lower =
          let q = lower d in
          let b = q.1 in
          (q.0, record { among = b.among; counted = b.counted; holds = b.holds; inside = within_trans q.0 c p b.inside child.inside })

-- ---- one for each that is counted of what is left

-- q is counted among cs, and lies between p and the child of p within A
record Stands (cs ds : List ℕ) (a p q : ℕ) : Type 0 where
  among : Among p ds
  joins : Joins ds a p
  between : Between cs a joins.held p q

module _ {s : ℕ} {cs ds : List ℕ} (h : Hierarchy s cs) (k : Hierarchy s ds) (fewer : (x : ℕ) → Among x ds → Among x cs) (a : ℕ) where
  stands : (p : ℕ) → Among p ds → Joins ds a p → (q : ℕ) × Stands cs ds a p q
  stands p m j =
      let q = counted-between h a j.held (fewer j.held j.child.among) j.inside (size p) p (fewer p m) j.child.inside j.outside (omega arith) in
      (q.0, record { among = m; joins = j; between = q.1 })

  -- of two that one stands for, neither lies within the other
  not_below : (p o q : ℕ) → Stands cs ds a p q → Stands cs ds a o q → Within p o → (p ≡ o → ⊥) → ⊥
  not_below p o q u v w differ =
      let child = v.joins.child in
      let held_below = within_trans v.joins.held q p v.between.holds u.between.inside in
      let same = child.greatest p u.among w differ held_below in
      u.joins.outside (subst (λ (z : ℕ). Within z a) same v.joins.inside)

  stands_for_one : (p o q : ℕ) → Stands cs ds a p q → Stands cs ds a o q → p ≡ o
  stands_for_one p o q u v = go (ℕ_discrete p o) (k.nested p o u.among v.among)
    where
      go : Dec (p ≡ o) → Nested p o → p ≡ o
      go (yes e) n = e
      go (no d) (inl n) =
          let none = within-apart o v.between.inside (apart-within q p o u.between.inside n) in
          absurd (omega (arith, (h.inside q u.between.among).0))
      go (no d) (inr (inl w)) = absurd (not_below p o q u v w d)
      go (no d) (inr (inr w)) = absurd (not_below o p q v u w (λ e. d (sym e)))

  -- so those counted of what is left are no more
  joining-fewer : joining ds a ds ≤ joining cs a cs
  unfolding joining
  joining-fewer =
      matched_le (Stands cs ds a) (keep (λ p. holds_maximal ds a p) ds) (keep (λ p. holds_maximal cs a p) cs) (none_twice_keep (λ p. holds_maximal ds a p) ds k.once)
      stands_for_one partner
    where
      partner : (p : ℕ) → Among p (keep (λ p. holds_maximal ds a p) ds) → (q : ℕ) × Among q (keep (λ p. holds_maximal cs a p) cs) × Stands cs ds a p q
      partner p m =
          let i = among-keep (λ p. holds_maximal ds a p) ds m in
          let q = stands p i.0 ((tells_joins ds a p (hierarchy_clusters k) i.0).holds i.1) in
          let b = q.1.between in
          (q.0, keep-among (λ p. holds_maximal cs a p) cs b.among ((tells_joins cs a q.0 (hierarchy_clusters h) b.among).told b.counted), q.1)

  -- both are held by A, or neither
  held-alike : every (λ x. within x a) ds ≡ every (λ x. within x a) cs
  held-alike =
      tells_same (tells_every (λ x. within x a) ds (λ x. tells_within x a)) (tells_every (λ x. within x a) cs (λ x. tells_within x a))
      (λ w x m. within_trans x s a (h.inside x m).1 (w s k.all)) (λ w x m. w x (fewer x m))

  k_fewer : k_of ds a ≤ k_of cs a
  k_fewer = rw (k_either ds a, k_either cs a, held-alike) (le_one_or (every (λ x. within x a) cs) (joining ds a ds) (joining cs a cs) joining-fewer)

-- ---- gene records

module _ {n : ℕ} {r r' : List ℕ} (few : n ≤ 16) (v : GeneValid n r) (v' : GeneValid n r') (thinned : Thinned r r') (a : ℕ) where
  -- where a gene tree loses clusters, k of no set of species rises
  pub k_never_rises : k_of (listed r') a ≤ k_of (listed r) a
  k_never_rises =
      k_fewer (hierarchy_of_valid v.valid (gene-small few v)) (subst (λ (s : ℕ). Hierarchy s (listed r')) thinned.same_species (hierarchy_of_valid v'.valid (gene-small few v')))
      thinned.fewer a

  -- nor do its extra lineages
  pub extra-never-rises : extra Rooted r' a ≤ extra Rooted r a
  unfolding extra
  extra-never-rises = omega (arith, k_never_rises)

-- no weight rises
pub weight-never-rises :
    {n : ℕ} {genes genes' : List (List ℕ)} → n ≤ 16 → AllValid n genes → AllValid n genes' → AllThinned genes genes' → (a : ℕ)
    → weight Rooted genes' a ≤ weight Rooted genes a
weight-never-rises few v v' no_records a = omega arith
weight-never-rises few v v' (beside {r = r} {r' = r'} {genes = genes} {genes' = genes'} t later) a =
    omega (
      arith,
      weight_cons Rooted r genes a,
      weight_cons Rooted r' genes' a,
      extra-never-rises few (v r (here refl)) (v' r' (here refl)) t a,
      weight-never-rises few (λ g m. v g (there m)) (λ g m. v' g (there m)) later a,
    )

-- "no species tree's score rises" (#113)
pub score-never-rises :
    {n : ℕ} {genes genes' : List (List ℕ)} → n ≤ 16 → AllValid n genes → AllValid n genes' → AllThinned genes genes' → (species : List ℕ)
    → score Rooted genes' species ≤ score Rooted genes species
unfolding score
score-never-rises {n} {genes} {genes'} few v v' t species =
    total-le (λ a. weight Rooted genes' a) (λ a. weight Rooted genes a) (listed species) (λ a m. weight-never-rises few v v' t a)
