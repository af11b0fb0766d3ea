-- What a gene tree with its root adds and takes off, node by node, each set as it is seen.
use Rattle.std.proofs.Common.{◌≡◌, ℕ, ◌+◌, ◌-◌, ◌^◌, ◌<◌, ◌≤◌, Bool, true, false, not, eqb, List, [], ◌∷◌, ◌++◌, map, length, get_or, drop, sym, refl, ap, ◌∙◌, subst, append-nil, arith, eq-eqb, ne_eqb}
use Rattle.std.proofs.lemmas.List.{map-append}
use mathlib.Core.List.Memᴰ
use Rattle.clusters.specs.Sets.{Within, union, size, whole}
use Rattle.clusters.proofs.Sets.{zero-within, zero-union, within_trans, whole_below, within_whole}
use Rattle.trees.specs.Lists.{Among, keep_if, keep}
use Rattle.trees.specs.Records.{count, listed, largest}
use Rattle.trees.specs.Drawn.{children}
use Rattle.trees.proofs.Children.{hierarchy_of_valid, among-children, children-once}
use Rattle.trees.proofs.GeneRecords.{places-le, largest_of_valid}
use Rattle.weights.specs.Subsets.{often, gathered, odds, evens, taken, inner_nodes, plus_by, minus_by}
use Rattle.weights.specs.Work.{CountableFor}
use Rattle.weights.specs.declared.Rooting.TheVariants.{Rooted}
use Rattle.weights.proofs.Checked.{listed_at, listed_from, first_none}
use Rattle.weights.proofs.SumOfLists.{many_same}
use Rattle.weights.proofs.SumOfUnions.{SameUnions, unions_reordered, unions_seen}
use Rattle.weights.proofs.SumOfStand.{taken-below}
use Rattle.sums.specs.Work.{Changed, Summable, Entered, ChildrenIn, Parts, of_nodes, node_plus, node_minus}
use Rattle.sums.proofs.Changes.{often_both, often-map, changed_none, changed_both, changed_as, ChangedTo, to_start, to_next, to_end}
use Rattle.sums.proofs.Joins.{Joins}

-- ---- one node

-- a single species gives nothing
pub node-passed : (plus minus : ℕ → List ℕ) (p : ℕ) (f : List ℕ) → size p ≡ 1 → Changed (of_nodes plus (p ∷ [])) (of_nodes minus (p ∷ [])) f f
unfolding of_nodes keep gathered
node-passed plus minus p f e = rw (eq-eqb (size p) 1 e) (changed_none f)

inner-gives : (give : ℕ → List ℕ) (p : ℕ) → (size p ≡ 1 → ⊥) → of_nodes give (p ∷ []) ≡ give p
unfolding of_nodes keep gathered
inner-gives give p d = rw (ne_eqb (size p) 1 d) (append-nil (give p))

-- any other what it gives
node-inner :
    (plus minus : ℕ → List ℕ) (p : ℕ) {f h : List ℕ} → (size p ≡ 1 → ⊥) → Changed (plus p) (minus p) f h
    → Changed (of_nodes plus (p ∷ [])) (of_nodes minus (p ∷ [])) f h
node-inner plus minus p d c = rw (inner-gives plus p d, inner-gives minus p d) c

-- joined with nothing
often-alone : (z : ℕ) (l : List ℕ) → often z (map (λ x. union 0 x) l) ≡ often z l
often-alone z l =
    often-map z (λ x. union 0 x) l ∙ many_same (λ x. eqb z (union 0 x)) (λ x. eqb z x) l (λ x m. ap (λ (y : ℕ). eqb z y) (zero-union x))

module _ {b : ℕ} {g : List ℕ} (can : CountableFor b g) {p : ℕ} {l : List ℕ} (found : ChildrenIn (listed g) p l) where
  -- all children lie within p
  pub children-parts : {entries : ℕ} → p < entries → Parts entries 0 l
  children-parts fits = record {
    of = p;
    fits = fits;
    joined_in = zero-within p;
    each_in = λ x m. (among-children (listed g) p (found.are x m)).inside;
  }

  reordered : SameUnions l (children (listed g) p)
  reordered =
      unions_reordered l (children (listed g) p) found.once (children-once (hierarchy_of_valid can.valid can.small) p) found.are found.all

  -- the node is taken off, and the unions of its children are added and taken off, where of each set is seen what a function makes of it
  node_seen :
      (see : ℕ → ℕ) → ((x y : ℕ) → see (union x y) ≡ union (see x) (see y)) → {f k h : List ℕ} → Changed [] (see p ∷ []) f k → Joins true 0 (map see l) k h
      → Changed (map see (node_plus (listed g) p)) (map see (node_minus (listed g) p)) f h
  node_seen see joins {f} {k} {h} own unions =
      changed_as (changed_both own unions)
      (λ z.
      omega (
        arith,
        often_both z (see p ∷ []) (map see (evens (children (listed g) p))),
        often_both z (see p ∷ []) (map (λ x. union 0 x) (evens (map see l))),
        often-alone z (odds (map see l)),
        often-alone z (evens (map see l)),
        (unions_seen see joins l).odd (λ y. eqb z y),
        (unions_seen see joins l).even (λ y. eqb z y),
        reordered.odd (λ y. eqb z (see y)),
        reordered.even (λ y. eqb z (see y)),
        often-map z see (odds (children (listed g) p)),
        often-map z see (evens (children (listed g) p)),
      ))

  -- where it has more than one species
  pub node_done :
      (see : ℕ → ℕ) → ((x y : ℕ) → see (union x y) ≡ union (see x) (see y)) → {own : ℕ} {seen f k h : List ℕ} → (size p ≡ 1 → ⊥) → own ≡ see p
      → Changed [] (own ∷ []) f k → seen ≡ map see l → Joins true 0 seen k h
      → Changed (of_nodes (λ q. map see (node_plus (listed g) q)) (p ∷ [])) (of_nodes (λ q. map see (node_minus (listed g) q)) (p ∷ [])) f h
  node_done see joins {own} {seen} {f} {k} {h} inner is one are unions =
      node-inner (λ q. map see (node_plus (listed g) q)) (λ q. map see (node_minus (listed g) q)) p inner
      (node_seen see joins (subst (λ (x : ℕ). Changed [] (x ∷ []) f k) is one) (subst (λ (c : List ℕ). Joins true 0 c k h) are unions))

-- a cluster lies within the whole set
pub listed_inside : {b : ℕ} {g : List ℕ} (i : ℕ) → CountableFor b g → 1 ≤ i → i ≤ count g → Within (get_or g i 0) (largest g)
listed_inside {b} {g} i can one last =
    subst (λ (s : ℕ). Within (get_or g i 0) s) (sym (largest_of_valid can.valid)) (can.valid.inside (get_or g i 0) (listed_at i can.valid.form one last)).1

-- what is seen of the children lies within a set that has an entry
pub seen-parts :
    {see : ℕ → ℕ} {entries p : ℕ} {g l seen : List ℕ} → Entered see entries g → Within p (largest g) → ChildrenIn (listed g) p l → seen ≡ map see l → Parts entries 0 seen
seen-parts {see} {entries} {p} {g} {l} e w found are = record {
  of = e.of;
  fits = e.fits;
  joined_in = zero-within e.of;
  each_in = λ x m.
      let y = Memᴰ.of_map see l (subst (λ (c : List ℕ). Among x c) are m) in
      subst (λ (z : ℕ). Within z e.of) y.2 (e.inside y.0 (within_trans y.0 p (largest g) (among-children (listed g) p (found.are y.0 y.1)).inside w));
}

-- sets of the stand's species have an entry each
pub taken-parts : (groups l : List ℕ) {seen : List ℕ} {entries : ℕ} → seen ≡ taken groups l → entries ≡ 2 ^ length groups → Parts entries 0 seen
taken-parts groups l {seen} {entries} are e = record {
  of = whole (length groups);
  fits = omega (arith, whole_below (length groups));
  joined_in = zero-within (whole (length groups));
  each_in = λ x m. within_whole (length groups) (taken-below groups l x (subst (λ (c : List ℕ). Among x c) are m));
}

-- ---- all nodes

gathered_next :
    (give : ℕ → List ℕ) (test : ℕ → Bool) (x : ℕ) (l : List ℕ)
    → gathered give (keep test (x ∷ l)) ≡ gathered give (keep test (x ∷ [])) ++ gathered give (keep test l)
unfolding keep gathered
gathered_next give test x l = go (test x)
  where
    go : (b : Bool) → gathered give (keep_if b x (keep test l)) ≡ gathered give (keep_if b x []) ++ gathered give (keep test l)
    go true = ap (λ (k : List ℕ). k ++ gathered give (keep test l)) (sym (append-nil (give x)))
    go false = refl

of_nodes_next : (give : ℕ → List ℕ) (x : ℕ) (l : List ℕ) → of_nodes give (x ∷ l) ≡ of_nodes give (x ∷ []) ++ of_nodes give l
unfolding of_nodes
of_nodes_next give x l = gathered_next give (λ p. not (eqb (size p) 1)) x l

of_no_nodes : (give : ℕ → List ℕ) → of_nodes give [] ≡ []
unfolding of_nodes keep gathered
of_no_nodes give = refl

-- the nodes of the clusters from the i-th on, counted from 1, are left
pub record NodesTo (plus minus : ℕ → List ℕ) (g : List ℕ) (before now : List ℕ) (i : ℕ) : Type 0 where
  pub first : 1 ≤ i
  pub last : i ≤ count g + 1
  pub changed :
      ChangedTo (of_nodes plus (listed g)) (of_nodes minus (listed g)) (of_nodes plus (drop (i - 1) (listed g))) (of_nodes minus (drop (i - 1) (listed g))) before now

-- all are left
pub nodes_start : (plus minus : ℕ → List ℕ) (g f : List ℕ) → NodesTo plus minus g f f 1
nodes_start plus minus g f = record { first = omega arith; last = omega arith; changed = to_start (of_nodes plus (listed g)) (of_nodes minus (listed g)) f }

module _ {b : ℕ} {plus minus : ℕ → List ℕ} {g : List ℕ} (can : CountableFor b g) {before now : List ℕ} {i : ℕ} (t : NodesTo plus minus g before now i) where
  -- the next node is done
  pub nodes_next :
      {after : List ℕ} → i ≤ count g → Changed (of_nodes plus (get_or g i 0 ∷ [])) (of_nodes minus (get_or g i 0 ∷ [])) now after → NodesTo plus minus g before after (i + 1)
  nodes_next l c = record { first = omega arith; last = omega arith; changed = to_next t.changed (further plus) (further minus) c }
    where
      further : (give : ℕ → List ℕ) → of_nodes give (drop (i - 1) (listed g)) ≡ of_nodes give (get_or g i 0 ∷ []) ++ of_nodes give (drop (i + 1 - 1) (listed g))
      further give = ap (of_nodes give) (listed_from i can.valid.form t.first l) ∙ of_nodes_next give (get_or g i 0) (drop (i + 1 - 1) (listed g))

  -- none is left, and the whole set was counted before
  nodes_end : {w : ℕ} {f : List ℕ} → count g < i → Changed (w ∷ []) [] f before → Changed (w ∷ of_nodes plus (listed g)) (of_nodes minus (listed g)) f now
  nodes_end past c = changed_both c (to_end t.changed (none plus) (none minus))
    where
      none : (give : ℕ → List ℕ) → of_nodes give (drop (i - 1) (listed g)) ≡ []
      none give = ap (of_nodes give) (first_none g (count g) i past) ∙ of_no_nodes give

gathered-seen : (see : ℕ → ℕ) (give : ℕ → List ℕ) (l : List ℕ) → gathered (λ x. map see (give x)) l ≡ map see (gathered give l)
unfolding gathered
gathered-seen see give [] = refl
gathered-seen see give (x ∷ l) =
    ap (λ (k : List ℕ). map see (give x) ++ k) (gathered-seen see give l) ∙ sym (map-append see (give x) (gathered give l))

-- then the gene tree is done
pub rooted_done :
    {b : ℕ} (see : ℕ → ℕ) {g f before now : List ℕ} {i all : ℕ} → CountableFor b g
    → NodesTo (λ p. map see (node_plus (listed g) p)) (λ p. map see (node_minus (listed g) p)) g before now i → count g < i → all ≡ see (largest g)
    → Changed (all ∷ []) [] f before → Changed (map see (plus_by Rooted g)) (map see (minus_by Rooted g)) f now
unfolding plus_by minus_by inner_nodes of_nodes
rooted_done see {g} {f} {before} can t past is c =
    rw (gathered-seen see (node_plus (listed g)) (inner_nodes g), gathered-seen see (node_minus (listed g)) (inner_nodes g)) at
    (nodes_end can t past (subst (λ (x : ℕ). Changed (x ∷ []) [] f before) is c))

-- ---- records with an entry for each set

-- where the table is as long
pub summable_same : {m n : ℕ} {g : List ℕ} → m ≡ n → Summable n g → Summable m g
summable_same {g = g} e s = subst (λ (k : ℕ). Summable k g) (sym e) s

-- the i-th cluster has an entry
pub listed-fits : {entries : ℕ} {g : List ℕ} (i : ℕ) → Summable entries g → 1 ≤ i → i ≤ count g → get_or g i 0 < entries
listed-fits i s one last = omega (arith, s.fits, places-le i _ s.countable.valid.form one last (omega arith))
