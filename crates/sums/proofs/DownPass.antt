-- The children of a cluster found in one pass downward over the record: each that lies within what is left of it is a child, and its species are taken out.
use Rattle.std.proofs.Common.{◌≡◌, ℕ, suc, ◌+◌, ◌-◌, ◌<◌, ◌≤◌, true, false, ◌⊎◌, List, [], ◌∷◌, length, get_or, drop, set, sym, refl, ap, ◌∙◌, subst, ap₂, inl, inr, arith, length-set, drop_of_length-le, drop-cons, get_or-set_same, drop-set-lt}
use mathlib.Core.List.Memᴰ
use mathlib.Core.List.Memᴰ.{head as here}
use mathlib.Core.List.Memᴰ.{tail as there}
use native.Mathlib.Decide.{dec_le, dec_lt}
use Rattle.clusters.specs.Sets.{Has, Within, Apart, within, size}
use Rattle.clusters.proofs.Members.{has_dec, some_has, within_of_has, has_of_within, has_of_apart}
use Rattle.clusters.proofs.Sets.{within_trans, within-le, within-true, within-false, within-refl, apart-sym, apart-within, minus_has, minus_within, minus_apart}
use Rattle.clusters.proofs.Sizes.{size_some, size_minus, size-le}
use Rattle.trees.specs.Lists.{Among, NoneTwice}
use Rattle.trees.specs.Records.{count, listed, FormFor}
use Rattle.trees.specs.Drawn.{children}
use Rattle.trees.proofs.Breadth.{small_in_breadth}
use Rattle.trees.proofs.Places.{Placed, among-place}
use Rattle.trees.proofs.GeneRecords.{places_rise, places-le}
use Rattle.trees.proofs.Children.{Hierarchy, hierarchy_of_valid, Child, among-children, children-among, child-apart, within-child}
use Rattle.weights.specs.Work.{CountableFor}
use Rattle.weights.proofs.Checked.{listed_at}
use Rattle.sums.specs.Work.{ChildrenIn}

-- ---- a place of a record

-- a cluster that is no smaller than the one before place j is that one, or no smaller than the one there
next_place :
    {b : ℕ} {g : List ℕ} (j : ℕ) {y : ℕ} → FormFor b g → 1 < j → j ≤ count g → Among y (listed g) → get_or g (j - 1) 0 ≤ y → (y ≡ get_or g (j - 1) 0) ⊎ (get_or g j 0 ≤ y)
next_place {b} {g} j {y} f two last m l = go (dec_le j p.place) (dec_lt p.place (j - 1))
  where
    p : Placed g (count g) f.sized f.counted y
    p = among-place g (count g) f.sized f.counted y m

    go : Dec (j ≤ p.place) → Dec (p.place < j - 1) → (y ≡ get_or g (j - 1) 0) ⊎ (get_or g j 0 ≤ y)
    go (yes up) d = inr (omega (arith, places-le j p.place f (omega arith) up p.last, p.there))
    go (no low) (yes less) = absurd (omega (arith, places_rise p.place (j - 1) f p.first less (omega arith), p.there))
    go (no low) (no far) = let at : p.place ≡ j - 1 = omega (arith, low, far) in inl (sym p.there ∙ ap (λ (k : ℕ). get_or g k 0) at)

-- none is smaller than the first
first-least : {b : ℕ} {g : List ℕ} {y : ℕ} → FormFor b g → Among y (listed g) → get_or g 1 0 ≤ y
first-least {b} {g} {y} f m =
    let p = among-place g (count g) f.sized f.counted y m in
    omega (arith, places-le 1 p.place f (omega arith) p.first p.last, p.there)

-- a number put before the last ones of a list that are in use
drop-set_here : (l : List ℕ) (n x : ℕ) → n < length l → drop n (set l n x) ≡ x ∷ drop (n + 1) l
drop-set_here l n x less =
    let next : suc n ≡ n + 1 = omega arith in
    drop-cons (set l n x) n 0 (omega (arith, length-set l n x))
    ∙ ap₂ (λ (y : ℕ) (k : List ℕ). y ∷ k) (get_or-set_same l n x 0 less) (drop-set-lt (suc n) l n x (omega arith) ∙ ap (λ (k : ℕ). drop k l) next)

-- ---- the pass

-- the clusters of the record of breadth b from the j-th on are passed: the children among them are stored from the first on, and their species are not left
pub record DownTo (b : ℕ) (g : List ℕ) (p i : ℕ) (sets : List ℕ) (first left j : ℕ) : Type 0 where
  pub some : 1 ≤ j
  pub place : j ≤ i
  pub sized : length sets ≡ b
  pub room : size left ≤ first
  pub few : first ≤ b
  pub once : NoneTwice (drop first sets)
  pub are : (x : ℕ) → Among x (drop first sets) → Child (listed g) p x × (get_or g j 0 ≤ x)
  pub all : (x : ℕ) → Child (listed g) p x → get_or g j 0 ≤ x → Among x (drop first sets)
  pub inside : Within left p
  pub apart : (x : ℕ) → Among x (drop first sets) → Apart left x
  pub rest : (k : ℕ) → Has p k → (Has left k → ⊥) → (x : ℕ) × Among x (drop first sets) × Has x k

module _ {b : ℕ} {g : List ℕ} (can : CountableFor b g) {i : ℕ} (one : 1 ≤ i) (last : i ≤ count g) where
  drawn : Hierarchy can.species (listed g)
  drawn = hierarchy_of_valid can.valid can.small

  own : Among (get_or g i 0) (listed g)
  own = listed_at i can.valid.form one last

  -- nothing is passed yet
  pub down_start : (sets : List ℕ) → length sets ≡ b → DownTo b g (get_or g i 0) i sets b (get_or g i 0) i
  unfolding NoneTwice
  down_start sets long = record {
    some = one;
    place = omega arith;
    sized = long;
    room = size-le b (omega (arith, within-le (can.valid.inside (get_or g i 0) own).1, small_in_breadth b can.small));
    few = omega arith;
    once = rw none tt;
    are = λ x m. absurd (Memᴰ.not-nil (rw none at m));
    all = λ x c l. absurd (c.other (omega (arith, within-le c.inside)));
    inside = within-refl (get_or g i 0);
    apart = λ x m. absurd (Memᴰ.not-nil (rw none at m));
    rest = λ k h off. absurd (off h);
  }
    where
      none : drop b sets ≡ []
      none = drop_of_length-le sets {i = b} (omega (arith, long))

  module _ {sets : List ℕ} {first left j : ℕ} (now : DownTo b g (get_or g i 0) i sets first left j) (more : 1 < j) where
    form : FormFor b g
    form = can.valid.form

    abbrev x : ℕ
    x = get_or g (j - 1) 0

    listed_x : Among x (listed g)
    listed_x = listed_at (j - 1) form (omega arith) (omega (arith, now.place))

    some_x : 1 ≤ x
    some_x = (can.valid.inside x listed_x).0

    below : x < get_or g j 0
    below = places_rise (j - 1) j form (omega arith) (omega arith) (omega (arith, now.place))

    below-own : x < get_or g i 0
    below-own = omega (arith, below, places-le j i form now.some now.place last)

    -- a cluster that is no smaller is this one, or was passed before
    either-place : {y : ℕ} → Among y (listed g) → x ≤ y → (y ≡ x) ⊎ (get_or g j 0 ≤ y)
    either-place m l = next_place j form more (omega (arith, now.place)) m l

    -- one that lies within what is left is a child
    child_here : Within x left → Child (listed g) (get_or g i 0) x
    child_here w = go (either-place c.among (within-le up.2))
      where
        up : (y : ℕ) × Among y (children (listed g) (get_or g i 0)) × Within x y
        up = within-child drawn listed_x (within_trans x left (get_or g i 0) w now.inside) (λ e. omega (arith, below-own))

        c : Child (listed g) (get_or g i 0) up.0
        c = among-children (listed g) (get_or g i 0) up.1

        go : (up.0 ≡ x) ⊎ (get_or g j 0 ≤ up.0) → Child (listed g) (get_or g i 0) x
        go (inl e) = subst (λ (y : ℕ). Child (listed g) (get_or g i 0) y) e c
        go (inr l) =
            let k = some_has x some_x in
            let off = now.apart up.0 (now.all up.0 c l) in
            absurd (has_of_apart left up.0 k.0 off (has_of_within x left k.0 w k.1) (has_of_within x up.0 k.0 up.2 k.1))

    -- and a child lies within what is left
    child_left : Child (listed g) (get_or g i 0) x → Within x left
    child_left c = within_of_has x left (λ k h. go k h (has_dec left k))
      where
        go : (k : ℕ) → Has x k → Dec (Has left k) → Has left k
        go k h (yes m) = m
        go k h (no off) =
            let y = now.rest k (has_of_within x (get_or g i 0) k c.inside h) off in
            let d = now.are y.0 y.1 in
            absurd (has_of_apart x y.0 k (child-apart drawn c d.0 (λ e. omega (arith, below, d.1))) h y.2)

    -- the cluster is passed over
    pub down_passed : within (get_or g (j - 1) 0) left ≡ false → DownTo b g (get_or g i 0) i sets first left (j - 1)
    down_passed e = record {
      some = omega arith;
      place = omega (arith, now.place);
      sized = now.sized;
      room = now.room;
      few = now.few;
      once = now.once;
      are = λ y m. let k = now.are y m in (k.0, omega (arith, below, k.1));
      all = λ y c l. go y c (either-place c.among l);
      inside = now.inside;
      apart = now.apart;
      rest = now.rest;
    }
      where
        go : (y : ℕ) → Child (listed g) (get_or g i 0) y → (y ≡ x) ⊎ (get_or g j 0 ≤ y) → Among y (drop first sets)
        go y c (inl d) = absurd (within-false x left e (child_left (subst (λ (z : ℕ). Child (listed g) (get_or g i 0) z) d c)))
        go y c (inr l) = now.all y c l

    -- the cluster is a child: it is stored and taken out
    module _ (e : within (get_or g (j - 1) 0) left ≡ true) where
      w : Within x left
      w = within-true x left e

      -- there is room for it
      pub down_room : 1 ≤ first
      down_room = omega (arith, size_some some_x, size_minus left x w, now.room)

      front : drop (first - 1) (set sets (first - 1) x) ≡ x ∷ drop first sets
      front =
          let next : first - 1 + 1 ≡ first = omega (arith, down_room) in
          drop-set_here sets (first - 1) x (omega (arith, down_room, now.few, now.sized)) ∙ ap (λ (k : ℕ). x ∷ drop k sets) next

      cases : {y : ℕ} → Among y (drop (first - 1) (set sets (first - 1) x)) → (y ≡ x) ⊎ Among y (drop first sets)
      cases {y} m = Memᴰ.cases_cons (subst (λ (l : List ℕ). Among y l) front m)

      stored : {y : ℕ} → (y ≡ x) ⊎ Among y (drop first sets) → Among y (drop (first - 1) (set sets (first - 1) x))
      stored {y} (inl d) = subst (λ (l : List ℕ). Among y l) (sym front) (here d)
      stored {y} (inr m) = subst (λ (l : List ℕ). Among y l) (sym front) (there m)

      -- the next place
      pub down_taken : DownTo b g (get_or g i 0) i (set sets (first - 1) (get_or g (j - 1) 0)) (first - 1) (left - get_or g (j - 1) 0) (j - 1)
      unfolding NoneTwice
      down_taken = record {
        some = omega arith;
        place = omega (arith, now.place);
        sized = length-set sets (first - 1) x ∙ now.sized;
        room = omega (arith, size_some some_x, size_minus left x w, now.room);
        few = omega (arith, now.few);
        once = subst (λ (l : List ℕ). NoneTwice l) (sym front) (λ m. omega (arith, below, (now.are x m).1), now.once);
        are = λ y m. is y (cases m);
        all = λ y c l. stored (was y c (either-place c.among l));
        inside = within_trans (left - x) left (get_or g i 0) (minus_within left x w) now.inside;
        apart = λ y m. off y (cases m);
        rest = λ k h f. gone k h f (has_dec left k) (has_dec x k);
      }
        where
          is : (y : ℕ) → (y ≡ x) ⊎ Among y (drop first sets) → Child (listed g) (get_or g i 0) y × (x ≤ y)
          is y (inl d) = (subst (λ (z : ℕ). Child (listed g) (get_or g i 0) z) (sym d) (child_here w), omega arith)
          is y (inr m) = let k = now.are y m in (k.0, omega (arith, below, k.1))

          was : (y : ℕ) → Child (listed g) (get_or g i 0) y → (y ≡ x) ⊎ (get_or g j 0 ≤ y) → (y ≡ x) ⊎ Among y (drop first sets)
          was y c (inl d) = inl d
          was y c (inr l) = inr (now.all y c l)

          off : (y : ℕ) → (y ≡ x) ⊎ Among y (drop first sets) → Apart (left - x) y
          off y (inl d) = subst (λ (z : ℕ). Apart (left - x) z) (sym d) (apart-sym x (left - x) (minus_apart left x w))
          off y (inr m) = apart-within (left - x) left y (minus_within left x w) (now.apart y m)

          gone :
              (k : ℕ) → Has (get_or g i 0) k → (Has (left - x) k → ⊥) → Dec (Has left k) → Dec (Has x k)
              → (y : ℕ) × Among y (drop (first - 1) (set sets (first - 1) x)) × Has y k
          gone k h f (yes a) (yes b) = (x, stored (inl refl), b)
          gone k h f (yes a) (no b) = absurd (f (minus_has left x k w a b))
          gone k h f (no a) b = let y = now.rest k h a in (y.0, stored (inr y.1), y.2)

  -- all are passed
  pub down_end : {sets : List ℕ} {first left j : ℕ} → DownTo b g (get_or g i 0) i sets first left j → j ≤ 1 → ChildrenIn (listed g) (get_or g i 0) (drop first sets)
  down_end {sets} {first} {left} {j} now done = record {
    once = now.once;
    are = λ y m. children-among (listed g) (get_or g i 0) (now.are y m).0;
    all = λ y m.
        let c = among-children (listed g) (get_or g i 0) m in
        now.all y c (subst (λ (k : ℕ). get_or g k 0 ≤ y) (sym first_one) (first-least can.valid.form c.among));
  }
    where
      first_one : j ≡ 1
      first_one = omega (arith, now.some)
