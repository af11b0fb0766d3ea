-- The tree of a number, from its low part and the number among the trees with that low part: quotient and remainder number its children.
use Prim.Native.Nat.{ℕ, ◌+◌, ◌-◌, ◌*◌, ◌/◌, ◌%◌, ◌≤◌, ◌<◌}
use mathlib.Core.Path.{◌≡◌, sym, ap, ap₂, ◌∙◌, subst}
use mathlib.Core.List.{List, map}
use native.Mathlib.Nat.{mul-zero, div-add-mod', div-lt_iff_lt-mul, mod-lt}
use native.Mathlib.Decide.{ℕ_discrete}
use native.Mathlib.Omega.{arith}
use lib.ListN.{length, get_or, take, set, length-map}
use Rattle.clusters.specs.Sets.{size}
use Rattle.clusters.proofs.Sets.{within-le}
use Rattle.clusters.proofs.Sizes.{size-le}
use Rattle.splits.specs.BinaryTrees.{Binary, clusters_in, forks, trees_on}
use Rattle.splits.specs.BinaryTrees.Binary.{tip, fork}
use Rattle.splits.specs.WellFormed.{TreeOn}
use Rattle.splits.proofs.LowParts.{low_some, rest_some}
use Rattle.splits.proofs.Membership.{trees_on-single, tree-clusters}
use Rattle.splits.proofs.StoredClusters.{TreeStored, tip-stored, low-child-room, other_child_room, fork-stored, stored-clusters, stored-fits, stored-among}
use Rattle.splits.proofs.DrawnBinary.{tree-inside}
use Rattle.plain.specs.Numbering.{tree_of}
use Rattle.plain.specs.Work.{Numbered, PartOf}
use Rattle.plain.specs.declared.numbering.Part.{Part}
use Rattle.plain.proofs.Blocks.{map_at, at_block}
use Rattle.plain.proofs.Visited.{all_visited}

-- ---- the tree of a number

-- it is a tree on a
numbered_on : {a i : ℕ} → Numbered a i → TreeOn a (tree_of a i)
numbered_on {a} {i} h = (all_visited a).on i h.among

-- on one species there is the tip alone
single-tree : {a i : ℕ} → Numbered a i → size a ≡ 1 → tree_of a i ≡ tip a
unfolding tree_of
single-tree {a} {i} h e =
    let among = h.among in
    let first : i ≡ 0 = omega (arith, ap length (trees_on-single a e)) in
    ap₂ (λ l k. get_or l k (tip a)) (trees_on-single a e) first

-- of the forks of two lists, by quotient and remainder
fork_at : (a n : ℕ) (ts us : List Binary) (d e f : Binary) → 0 < length us → n < length ts * length us
    → get_or (forks a ts us) n d ≡ fork a (get_or ts (n / length us) e) (get_or us (n % length us) f)
unfolding forks
fork_at a n ts us d e f some h =
    let q = n / length us in
    let r = n % length us in
    ap (λ k. get_or (forks a ts us) k d) (sym (div-add-mod' n (length us)))
    ∙ at_block (λ t. map (λ u. fork a t u) us) (length us) (λ t. length-map us (λ u. fork a t u)) ts q r d e ((div-lt_iff_lt-mul some).1 h) (mod-lt n some)
    ∙ map_at (λ u. fork a (get_or ts q e) u) us r d f (mod-lt n some)

-- the tree of number i on a is a fork, and x and y are the numbers of its children
pub record Children (a i low x y : ℕ) : Type 0 where
  pub low_numbered : Numbered low x
  pub rest_numbered : Numbered (a - low) y
  pub made : tree_of a i ≡ fork a (tree_of low x) (tree_of (a - low) y)

some_of_product : {n : ℕ} (x y : ℕ) → n < x * y → 0 < y
some_of_product x y h = go (ℕ_discrete y 0)
  where
    go : Dec (y ≡ 0) → 0 < y
    go (yes e) = absurd (omega (arith, ap (λ k. x * k) e, mul-zero x))
    go (no f) = omega (arith, f)

-- there are trees on the rest of a, by whose number is divided
pub others_some : {a i : ℕ} {r : Part} → PartOf a i r → 0 < length (trees_on (a - r.low))
others_some {a} {i} {r} p = some_of_product (length (trees_on r.low)) (length (trees_on (a - r.low))) p.among

pub children :
    {a i others x y : ℕ} {r : Part} → Numbered a i → PartOf a i r → others ≡ length (trees_on (a - r.low))
    → x ≡ r.number / others → y ≡ r.number % others → Children a i r.low x y
unfolding tree_of
children {a} {i} {others} {x} {y} {r} h p o q s =
    let n = length (trees_on (a - r.low)) in
    let few = h.few in
    let less = p.low_part.less in
    let x-is : x ≡ r.number / n = q ∙ ap (λ k. r.number / k) o in
    let y-is : y ≡ r.number % n = s ∙ ap (λ k. r.number % k) o in
    let x_below = (div-lt_iff_lt-mul (others_some p)).1 p.among in
    let y-below = mod-lt r.number (others_some p) in
    record {
      low_numbered = record { some = low_some p.low_part; few = omega arith; among = omega (arith, x-is, x_below) };
      rest_numbered = record { some = rest_some p.low_part; few = omega arith; among = omega (arith, y-is, y-below) };
      made =
          p.same
          ∙ fork_at a r.number (trees_on r.low) (trees_on (a - r.low)) (tip a) (tip r.low) (tip (a - r.low)) (others_some p) p.among
          ∙ ap₂ (λ j k. fork a (tree_of r.low j) (tree_of (a - r.low) k)) (sym x-is) (sym y-is);
    }

-- ---- its clusters, stored one after the other

-- the tree of a number: one species
pub stored-tip : {a i : ℕ} (l : List ℕ) (place : ℕ) → Numbered a i → size a ≡ 1 → TreeStored l place (tree_of a i) (place + 1) (set l place a)
stored-tip {a} l place h e = subst (λ t. TreeStored l place t (place + 1) (set l place a)) (sym (single-tree h e)) (tip-stored l a place)

-- and more
module _ {a i low x y : ℕ} (k : Children a i low x y) (l : List ℕ) (place : ℕ) where
  fork-room : place + length (clusters_in (tree_of a i)) ≤ length l → place + length (clusters_in (fork a (tree_of low x) (tree_of (a - low) y))) ≤ length l
  fork-room room = subst (λ t. place + length (clusters_in t) ≤ length l) k.made room

  pub low-room : place + length (clusters_in (tree_of a i)) ≤ length l → place + 1 + length (clusters_in (tree_of low x)) ≤ length (set l place a)
  low-room room = low-child-room l a place (tree_of low x) (tree_of (a - low) y) (fork-room room)

  module _ {next : ℕ} {between : List ℕ} (s : TreeStored (set l place a) (place + 1) (tree_of low x) next between) where
    pub rest-room : place + length (clusters_in (tree_of a i)) ≤ length l → next + length (clusters_in (tree_of (a - low) y)) ≤ length between
    rest-room room = other_child_room l a place (tree_of low x) (tree_of (a - low) y) s (fork-room room)

    pub stored-fork : {last : ℕ} {after : List ℕ} → TreeStored between next (tree_of (a - low) y) last after → TreeStored l place (tree_of a i) last after
    stored-fork {last} {after} r =
        subst (λ t. TreeStored l place t last after) (sym k.made) (fork-stored l a place (tree_of low x) (tree_of (a - low) y) s r)

-- ---- all of it, from the first place on

module _ {a i : ℕ} (h : Numbered a i) where
  -- a tree on sixteen species has 31 clusters
  pub few_clusters : length (clusters_in (tree_of a i)) ≤ 31
  few_clusters = omega (arith, tree-clusters (numbered_on h), size-le {a = a} 16 h.few)

  module _ (lent : List ℕ) {next : ℕ} {after : List ℕ} (long : 31 ≤ length lent) (s : TreeStored lent 0 (tree_of a i) next after) where
    fits : length (clusters_in (tree_of a i)) ≤ length lent
    fits = omega (arith, few_clusters)

    pub front : take next after ≡ clusters_in (tree_of a i)
    front = stored-clusters lent (tree_of a i) fits s

    pub front_fits : (next ≤ 31) × (next ≤ length after)
    front_fits = (omega (arith, s.0, few_clusters), stored-fits lent (tree_of a i) fits s)

    -- each is a set of the sixteen species
    pub front_below : (k : ℕ) → k < next → get_or after k 0 < 65536
    front_below k l =
        let few = h.few in
        let cluster = tree-inside (numbered_on h) (get_or after k 0) (stored-among lent (tree_of a i) fits s k l) in
        omega (arith, within-le cluster.1)
