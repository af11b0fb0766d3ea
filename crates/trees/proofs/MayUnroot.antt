-- Which gene records may enter without a root (#106): the records of complete trees, binary save that the root may have three children; the test by counting.
use Prim.Native.Nat.{ℕ, zero, suc, ◌+◌, ◌-◌, ◌*◌, ◌^◌, ◌≤◌, ◌<◌}
use mathlib.Core.Path.{◌≡◌, refl, sym, ap, ◌∙◌, subst}
use mathlib.Core.Logic.{◌⊎◌, inl, inr, ◌↔◌}
use mathlib.Core.Bool.{true}
use mathlib.Core.List.Memᴰ
use mathlib.Core.List.Memᴰ.{head as here}
use mathlib.Core.List.Memᴰ.{tail as there}
use mathlib.Core.List.{List, [], ◌∷◌}
use native.Mathlib.Decide.{ℕ_discrete, dec_le}
use native.Mathlib.Omega.{arith}
use lib.ListN.{length, get_or}
use Rattle.clusters.specs.Sets.{Within, Apart, whole, size}
use Rattle.clusters.proofs.Members.{within_of_has, has_of_within, has_of_apart}
use Rattle.clusters.proofs.Sets.{within-refl, within_trans, within_antisym, within-le, within_whole, whole_below, union-within, minus_has, minus_within, minus_union}
use Rattle.clusters.proofs.Sizes.{size_some, size-within, size-within_lt, size-within-eq, size_whole}
use Rattle.trees.specs.Lists.{Among}
use Rattle.trees.specs.Tree.{Tree, clusters, On, Binary, OneBinary}
use Rattle.trees.specs.Records.{count, listed, record_of, largest, Nested, ValidOn, GeneValid}
use Rattle.trees.specs.Drawn.{children, node_over, drawn}
use Rattle.trees.specs.Unrooted.{RootedAnyhow, OneOrTwo, resolved, may_unroot}
use Rattle.trees.proofs.Order.{length-sorted}
use Rattle.trees.proofs.Nodes.{cluster_some}
use Rattle.trees.proofs.ValidTest.{Tells, tells_also, tells_and, tells_or, tells_eqb, tells_every}
use Rattle.trees.proofs.Children.{Hierarchy, hierarchy_of_valid, Child, among-children, within-child, children_two}
use Rattle.trees.proofs.Recorded.{listed_record, length-listed, among_record, record_among, valid_of_drawn}
use Rattle.trees.proofs.Drawing.{drawn-node, drawn-leaf, drawn_on, drawn_record}
use Rattle.trees.proofs.Bounds.{whole_below_sixteen, count_lt_twice}
use Rattle.trees.proofs.GeneRecords.{among-le-largest, next_largest, largest_of_valid, species_of_gene, gene_of_valid, gene-small}
use Rattle.trees.proofs.MayUnrootCounts.{Halved, FewLost, rooted-told}

-- ---- the tree over a list of children

module _ (draw : ℕ → Tree) where
  -- each child draws a binary tree
  abbrev AllBinary : List ℕ → Type 0
  AllBinary l = (c : ℕ) → Among c l → Binary (draw c)

  none : AllBinary []
  none c m = absurd (Memᴰ.not-nil m)

  with_more : (x : ℕ) (l : List ℕ) → Binary (draw x) → AllBinary l → AllBinary (x ∷ l)
  with_more x l b f c m = go (Memᴰ.cases_cons m)
    where
      go : (c ≡ x) ⊎ Among c l → Binary (draw c)
      go (inl e) = subst (λ (z : ℕ). Binary (draw z)) (sym e) b
      go (inr k) = f c k

  binary_over : (l : List ℕ) → 2 ≤ length l → Binary (node_over draw l) ↔ ((length l ≡ 2) × AllBinary l)
  unfolding Binary OneBinary
  binary_over [] n = absurd (omega arith)
  binary_over (x ∷ []) n = absurd (omega arith)
  binary_over (x ∷ y ∷ []) n =
      (λ b. (refl, with_more x (y ∷ []) b.0 (with_more y [] b.1 none)), λ k. (k.1 x (here refl), k.1 y (there (here refl))))
  binary_over (x ∷ y ∷ z ∷ l) n = (λ b. absurd b.1, λ k. let e = k.0 in absurd (omega arith))

  rooted_over : (l : List ℕ) → 2 ≤ length l → RootedAnyhow (node_over draw l) ↔ (((length l ≡ 2) ⊎ (length l ≡ 3)) × AllBinary l)
  unfolding RootedAnyhow OneOrTwo
  rooted_over [] n = absurd (omega arith)
  rooted_over (x ∷ []) n = absurd (omega arith)
  rooted_over (x ∷ y ∷ []) n =
      (λ b. (inl refl, with_more x (y ∷ []) b.0 (with_more y [] b.1 none)), λ k. (k.1 x (here refl), k.1 y (there (here refl))))
  rooted_over (x ∷ y ∷ z ∷ []) n = (
    λ b. (inr refl, with_more x (y ∷ z ∷ []) b.0 (with_more y (z ∷ []) b.1.0 (with_more z [] b.1.1 none))),
    λ k. (k.1 x (here refl), (k.1 y (there (here refl)), k.1 z (there (there (here refl))))),
  )
  rooted_over (x ∷ y ∷ z ∷ w ∷ l) n = (λ b. absurd b.1, λ k. absurd (many k.0))
    where
      many : (length (x ∷ y ∷ z ∷ w ∷ l) ≡ 2) ⊎ (length (x ∷ y ∷ z ∷ w ∷ l) ≡ 3) → ⊥
      many (inl e) = omega arith
      many (inr e) = omega arith

-- ---- the tree that a record draws, and the children of each of its clusters

-- a single species, or a set with two children
abbrev pub Two : List ℕ → ℕ → Type 0
Two cs p = (size p ≡ 1) ⊎ (length (children cs p) ≡ 2)

-- the same, or the whole set s with three children
abbrev pub Resolved : List ℕ → ℕ → ℕ → Type 0
Resolved cs s p = Two cs p ⊎ ((p ≡ s) × (length (children cs p) ≡ 3))

module _ {s : ℕ} {cs : List ℕ} (h : Hierarchy s cs) where
  -- what lies within a single species is one
  single-within_one : (p q : ℕ) → size p ≡ 1 → Among q cs → Within q p → size q ≡ 1
  single-within_one p q e m w = omega (arith, size-within q p w, size_some (h.inside q m).0)

  -- a cluster draws a binary tree exactly when it and those within it are single species or have two children
  binary_two : (k p : ℕ) → size p ≤ k → Among p cs → Binary (drawn cs p) ↔ ((q : ℕ) → Among q cs → Within q p → Two cs q)
  unfolding Binary
  binary_two zero p l m = absurd (omega (arith, size_some (h.inside p m).0))
  binary_two (suc k) p l m = go (ℕ_discrete (size p) 1) (λ c i. let d = size-within_lt c p i.inside i.other in binary_two k c (omega arith) i.among)
    where
      inner : (size p ≡ 1 → ⊥) → Two cs p → length (children cs p) ≡ 2
      inner n (inl e) = absurd (n e)
      inner n (inr e) = e

      at :
          (q : ℕ) → Among q cs → Within q p → length (children cs p) ≡ 2 → ((c : ℕ) → Among c (children cs p) → Within q c → Two cs q) → Dec (q ≡ p) → Two cs q
      at q m w two below (yes e) = inr (ap (λ (z : ℕ). length (children cs z)) e ∙ two)
      at q m w two below (no n) = let c = within-child h m w n in below c.0 c.1 c.2

      go :
          Dec (size p ≡ 1) → ((c : ℕ) → Child cs p c → Binary (drawn cs c) ↔ ((q : ℕ) → Among q cs → Within q c → Two cs q))
          → Binary (drawn cs p) ↔ ((q : ℕ) → Among q cs → Within q p → Two cs q)
      go (yes e) ih = (λ b q i w. inl (single-within_one p q e i w), λ f. rw (drawn-leaf cs p e) tt)
      go (no n) ih =
          let over = binary_over (λ b. drawn cs b) (children cs p) (children_two h m n) in (
            λ b q i w.
                let k = over.0 (rw (drawn-node h m n) at b) in
                at q i w k.0 (λ c j v. (ih c (among-children cs p j)).0 (k.1 c j) q i v) (ℕ_discrete q p),
            λ f. rw (drawn-node h m n) (over.1 (
              inner n (f p m (within-refl p)),
              λ c j. let d = among-children cs p j in (ih c d).1 (λ q i w. f q i (within_trans q c p w d.inside)),
            )),
          )

  -- the whole set draws a tree that is binary save that the root may have three children exactly when each cluster is resolved
  pub rooted-resolved : RootedAnyhow (drawn cs s) ↔ ((p : ℕ) → Among p cs → Resolved cs s p)
  unfolding RootedAnyhow
  rooted-resolved = go (ℕ_discrete (size s) 1)
    where
      inner : (size s ≡ 1 → ⊥) → Resolved cs s s → (length (children cs s) ≡ 2) ⊎ (length (children cs s) ≡ 3)
      inner n (inl (inl e)) = absurd (n e)
      inner n (inl (inr e)) = inl e
      inner n (inr e) = inr e.1

      root : (p : ℕ) → p ≡ s → (length (children cs s) ≡ 2) ⊎ (length (children cs s) ≡ 3) → Resolved cs s p
      root p e (inl d) = inl (inr (ap (λ (z : ℕ). length (children cs z)) e ∙ d))
      root p e (inr d) = inr (e, ap (λ (z : ℕ). length (children cs z)) e ∙ d)

      below : (c : ℕ) → Among c (children cs s) → Binary (drawn cs c) ↔ ((q : ℕ) → Among q cs → Within q c → Two cs q)
      below c j = binary_two (size c) c (omega arith) (among-children cs s j).among

      at :
          (p : ℕ) → Among p cs → (length (children cs s) ≡ 2) ⊎ (length (children cs s) ≡ 3) → ((c : ℕ) → Among c (children cs s) → Binary (drawn cs c))
          → Dec (p ≡ s) → Resolved cs s p
      at p m d b (yes e) = root p e d
      at p m d b (no n) = let c = within-child h m (h.inside p m).1 n in inl ((below c.0 c.1).0 (b c.0 c.1) p m c.2)

      proper : (c q : ℕ) → Child cs s c → Within q c → Resolved cs s q → Two cs q
      proper c q d w (inl t) = t
      proper c q d w (inr e) = absurd (d.other (within_antisym d.inside (subst (λ (z : ℕ). Within z c) e.0 w)))

      go : Dec (size s ≡ 1) → RootedAnyhow (drawn cs s) ↔ ((p : ℕ) → Among p cs → Resolved cs s p)
      go (yes e) = (λ b p m. inl (inl (single-within_one s p e m (h.inside p m).1)), λ f. rw (drawn-leaf cs s e) tt)
      go (no n) =
          let over = rooted_over (λ b. drawn cs b) (children cs s) (children_two h h.all n) in (
            λ b p m. let k = over.0 (rw (drawn-node h h.all n) at b) in at p m k.0 k.1 (ℕ_discrete p s),
            λ f. rw (drawn-node h h.all n) (over.1 (
              inner n (f s h.all),
              λ c j. (below c j).1 (λ q i w. proper c q (among-children cs s j) w (f q i)),
            )),
          )

-- ---- which gene records may enter

tells_resolved : (cs : List ℕ) (s p : ℕ) → Tells (resolved cs s p) (Resolved cs s p)
unfolding resolved
tells_resolved cs s p =
    tells_or (tells_or (tells_eqb (size p) 1) (tells_eqb (length (children cs p)) 2)) (tells_and (tells_eqb p s) (tells_eqb (length (children cs p)) 3))

-- a gene record may enter exactly when it has every species and draws a tree that is binary save that the root may have three children
pub may_unroot_drawn : {n : ℕ} {g : List ℕ} → n ≤ 16 → GeneValid n g → Tells (may_unroot n g) ((largest g ≡ whole n) × RootedAnyhow (drawn (listed g) (whole n)))
unfolding may_unroot
may_unroot_drawn {n} {g} few v =
    tells_also (λ k. (k.0, (rooted-resolved (clusters_of_lem k.0)).1 k.1)) (λ k. (k.0, (rooted-resolved (clusters_of_lem k.0)).0 k.1))
    (tells_and (tells_eqb (largest g) (whole n))
    (tells_every (λ p. resolved (listed g) (whole n) p) (listed g) (λ p. tells_resolved (listed g) (whole n) p)))
  where
    clusters_of_lem : largest g ≡ whole n → Hierarchy (whole n) (listed g)
    clusters_of_lem e = hierarchy_of_valid (species_of_gene v e) (whole_below_sixteen n few)

-- lists with the same clusters, as many
few_lost_same : {cs l : List ℕ} (s : ℕ) → length cs ≡ length l → ((x : ℕ) → Among x l → Among x cs) → FewLost s cs → FewLost s l
few_lost_same s e back (inl k) = inl (omega arith)
few_lost_same s e back (inr k) =
    let d = k.0 in
    inr (omega arith, λ h. k.1 (record { one = h.one; among = back h.one h.among; other = back _ h.other }))

-- whether a drawn tree is binary save that the root may have three children, its record says
pub rooted_of_record : {s : ℕ} {t : Tree} {g : List ℕ} → On s t → record_of (clusters t) ≡ g → RootedAnyhow t ↔ FewLost s (listed g)
rooted_of_record {s} {t} {g} o e = subst (λ (g : List ℕ). RootedAnyhow t ↔ FewLost s (listed g)) e (
  λ r. few_lost_same s (sym same) (λ x m. among_record 16 (clusters t) m) ((rooted-told o).0 r),
  λ k. (rooted-told o).1 (few_lost_same s same (λ x m. record_among 16 (clusters t) m) k),
)
  where
    same : length (listed (record_of (clusters t))) ≡ length (clusters t)
    same = ap length (listed_record 16 (clusters t)) ∙ length-sorted (clusters t)

-- "Only complete trees enter, binary save that the root may have three children" (#106): the records that pass the test are exactly the records of such trees
pub may_unroot_exactly :
    {n : ℕ} {g : List ℕ} → n ≤ 16
    → (GeneValid n g × (may_unroot n g ≡ true)) ↔ ((t : Tree) × On (whole n) t × RootedAnyhow t × (record_of (clusters t) ≡ g))
may_unroot_exactly {n} {g} few = (onwards, back)
  where
    small : whole n < 2 ^ 16
    small = whole_below_sixteen n few

    onwards : GeneValid n g × (may_unroot n g ≡ true) → (t : Tree) × On (whole n) t × RootedAnyhow t × (record_of (clusters t) ≡ g)
    onwards k =
        let d = (may_unroot_drawn few k.0).holds k.1 in
        let v = species_of_gene k.0 d.0 in
        (drawn (listed g) (whole n), drawn_on v small, d.1, drawn_record v small)

    back : (t : Tree) × On (whole n) t × RootedAnyhow t × (record_of (clusters t) ≡ g) → GeneValid n g × (may_unroot n g ≡ true)
    back k =
        let v = subst (λ (r : List ℕ). ValidOn (whole n) r) k.3 (valid_of_drawn k.1 small) in
        let some = cluster_some k.0 in
        let gene = gene_of_valid v (omega (arith, k.1.all), whole_below n) in
        let rooted = (rooted_of_record (drawn_on v small) (drawn_record v small)).1 ((rooted_of_record k.1 k.3).0 k.2) in
        (gene, (may_unroot_drawn few gene).told (largest_of_valid v, rooted))

-- ---- the test by counting

-- what is apart from a part of s lies in the rest
pub apart-rest : (s x y : ℕ) → Within x s → Within y s → Apart y x → Within y (s - x)
apart-rest s x y w u h = within_of_has y (s - x) (λ i m. minus_has s x i w (has_of_within y s i u m) (λ k. has_of_apart y x i h m k))

-- two clusters part s exactly when the largest but s is one of them
next_halves : {s : ℕ} {g : List ℕ} → ValidOn s g → 2 ≤ count g → Halved s (listed g) ↔ Among (s - get_or g (count g - 1) 0) (listed g)
next_halves {s} {g} v two = (onwards, λ m. record { one = y; among = next.0; other = m })
  where
    y : ℕ
    y = get_or g (count g - 1) 0

    next : Among y (listed g) × (y < largest g) × ((x : ℕ) → Among x (listed g) → (x ≡ largest g → ⊥) → x ≤ y)
    next = next_largest v.form two

    onwards : Halved s (listed g) → Among (s - y) (listed g)
    onwards h = go (v.nested y x next.0 h.among) (v.nested y z next.0 h.other)
      where
        x : ℕ
        x = h.one

        z : ℕ
        z = s - h.one

        part : Within x s
        part = (v.inside x h.among).1

        x_le : x ≤ y
        x_le =
            let some = (v.inside z h.other).0 in
            next.2 x h.among (λ e. omega (arith, largest_of_valid v))

        z_le : z ≤ y
        z_le =
            let some = (v.inside x h.among).0 in
            next.2 z h.other (λ e. omega (arith, largest_of_valid v, within-le part))

        is_x : y ≤ x → Among (s - y) (listed g)
        is_x l = Memᴰ.cast (omega (arith, x_le)) h.other

        is_z : y ≤ z → Among (s - y) (listed g)
        is_z l = Memᴰ.cast (omega (arith, z_le, within-le part)) h.among

        go : Nested y x → Nested y z → Among (s - y) (listed g)
        go (inl a) k = is_z (within-le (apart-rest s x y part (v.inside y next.0).1 a))
        go (inr (inl w)) k = is_x (within-le w)
        go (inr (inr w)) (inl a) =
            let l = within-le (apart-rest s z y (minus_within s x part) (v.inside y next.0).1 a) in
            is_x (omega (arith, within-le part))
        go (inr (inr w)) (inr (inl u)) = is_z (within-le u)
        go (inr (inr w)) (inr (inr u)) =
            let all = within-le (subst (λ (c : ℕ). Within c y) (minus_union x part) (union-within x z y w u)) in
            absurd (omega (arith, next.1, largest_of_valid v))

-- 2n - 1 clusters; or 2n - 2, and the rest of the largest but the whole set is none of them
abbrev pub ByCount : ℕ → List ℕ → Type 0
ByCount n g = (count g + 1 ≡ 2 * n) ⊎ ((count g + 2 ≡ 2 * n) × (Among (whole n - get_or g (count g - 1) 0) (listed g) → ⊥))

few_lost_counted : (n : ℕ) (g : List ℕ) → ValidOn (whole n) g → FewLost (whole n) (listed g) ↔ ByCount n g
few_lost_counted n g v = (onwards, back)
  where
    two : count g + 2 ≡ 2 * n → 2 ≤ count g
    two e = omega (arith, (among-le-largest v.form v.all).0)

    onwards : FewLost (whole n) (listed g) → ByCount n g
    onwards (inl e) = inl (omega (arith, size_whole n, length-listed g v.form))
    onwards (inr k) =
        let d : count g + 2 ≡ 2 * n = omega (arith, k.0, size_whole n, length-listed g v.form) in
        inr (d, λ m. k.1 ((next_halves v (two d)).1 m))

    back : ByCount n g → FewLost (whole n) (listed g)
    back (inl e) = inl (omega (arith, size_whole n, length-listed g v.form))
    back (inr k) = inr (omega (arith, k.0, size_whole n, length-listed g v.form), λ h. k.1 ((next_halves v (two k.0)).0 h))

-- a gene record with so many clusters has every species: with fewer it has at most 2n - 3
by_count_complete : {n : ℕ} {g : List ℕ} → n ≤ 16 → GeneValid n g → ByCount n g → largest g ≡ whole n
by_count_complete {n} {g} few v k = size-within-eq part (omega (arith, size-within (largest g) (whole n) part, size_whole n, most, enough k))
  where
    part : Within (largest g) (whole n)
    part = within_whole n v.of_roster.1

    most : count g + 1 ≤ 2 * size (largest g)
    most = count_lt_twice v.valid (gene-small few v)

    enough : ByCount n g → 2 * n ≤ count g + 2
    enough (inl e) = omega arith
    enough (inr e) = omega (arith, e.0)

-- a gene record may enter exactly when it has so many clusters
pub may_unroot_counted : {n : ℕ} {g : List ℕ} → n ≤ 16 → GeneValid n g → Tells (may_unroot n g) (ByCount n g)
may_unroot_counted {n} {g} few v =
    tells_also (λ k. (counted k.0).0 k.1) (λ k. let e = by_count_complete few v k in (e, (counted e).1 k)) (may_unroot_drawn few v)
  where
    counted : largest g ≡ whole n → RootedAnyhow (drawn (listed g) (whole n)) ↔ ByCount n g
    counted e =
        let valid = species_of_gene v e in
        let small = whole_below_sixteen n few in
        let told = rooted_of_record (drawn_on valid small) (drawn_record valid small) in
        let same = few_lost_counted n g valid in
        (λ r. same.0 (told.0 r), λ k. told.1 (same.1 k))

-- the largest cluster but the whole set is a set of n species, where it is taken from them
pub next_le : {n : ℕ} {g : List ℕ} → GeneValid n g → get_or g (count g - 1) 0 ≤ whole n
next_le {n} {g} v = go (dec_le 2 (count g))
  where
    most : largest g ≤ whole n
    most = within-le (within_whole n v.of_roster.1)

    go : Dec (2 ≤ count g) → get_or g (count g - 1) 0 ≤ whole n
    go (yes two) = omega (arith, (next_largest v.valid.form two).1, most)
    go (no n) =
        let first : count g - 1 ≡ 0 = omega arith in
        omega (arith, ap (λ (k : ℕ). get_or g k 0) first, v.of_roster.0, most)
