-- What a gene tree without a root adds and takes off: by its clusters before the last, and by their complements that it does not list.
use Rattle.std.proofs.Common.{◌≡◌, ℕ, ◌+◌, ◌-◌, ◌<◌, ◌≤◌, Bool, true, false, not, ◌&&◌, eqb, ◌⊎◌, List, [], ◌∷◌, ◌++◌, map, get_or, drop, get_or-take, get_or-drop, sym, refl, ap, ◌∙◌, subst, inl, inr, arith, ne_eqb}
use mathlib.Core.List.Memᴰ
use mathlib.Core.List.Memᴰ.{head as here}
use mathlib.Core.List.Memᴰ.{tail as there}
use borrow.Author.Tests.{eqb-false, not-true}
use Rattle.clusters.specs.Sets.{Has, single, size}
use Rattle.clusters.proofs.Members.{has_of_within, single-has}
use Rattle.clusters.proofs.Sizes.{size_one}
use Rattle.trees.specs.Lists.{Among, NoneTwice, keep_if, keep}
use Rattle.trees.specs.Records.{count, listed, largest, ValidOn}
use Rattle.trees.specs.Valid.{among}
use Rattle.trees.proofs.Booleans.{both, unless}
use Rattle.trees.proofs.GeneRecords.{largest_of_valid, among-le-largest}
use Rattle.trees.proofs.Listing.{keep_append, keep-among, among-keep, none_twice_append, none_twice_left, none_twice_parts, none_twice_keep}
use Rattle.trees.proofs.Order.{rising_none_twice}
use Rattle.trees.proofs.ValidTest.{tells_among, denied}
use Rattle.weights.specs.Count.{unrooted_clusters}
use Rattle.weights.specs.Lineages.{one_if}
use Rattle.weights.specs.Subsets.{many, often, single_ones, larger_ones, plus_by, minus_by}
use Rattle.weights.specs.Work.{Countable, complements}
use Rattle.weights.specs.declared.Rooting.TheVariants.{Unrooted}
use Rattle.weights.proofs.Checked.{first_from, first_none}
use Rattle.weights.proofs.Complements.{unrooted_inside}
use Rattle.weights.proofs.ToMark.{before_last, complement_of, of_complement, complements_from, complements_first, complements_next, complements_end}
use Rattle.weights.proofs.UnrootedClusters.{OfUnrooted, among_unrooted, unrooted_among, unrooted_once}
use Rattle.weights.proofs.SumOfLists.{many_nil, many_cons, many_append, many_same, many_members}
use Rattle.sums.specs.Work.{either, Changed, own_plus, own_minus, proper_ones, unlisted}
use Rattle.sums.proofs.Changes.{often_both, often-map, changed_none, changed_both, changed_as, ChangedTo, to_start, to_next, to_end}

-- ---- lists in two parts

-- what a function makes of each of a list, one for those that pass a test and another for the others
many_parted :
    (test part : ℕ → Bool) (f h : ℕ → ℕ) (l : List ℕ)
    → many (λ x. test (either (part x) (f x) (h x))) l ≡ many (λ x. test (f x)) (keep part l) + many (λ x. test (h x)) (keep (λ x. not (part x)) l)
unfolding keep
many_parted test part f h [] =
    omega (arith, many_nil (λ x. test (either (part x) (f x) (h x))), many_nil (λ x. test (f x)), many_nil (λ x. test (h x)))
many_parted test part f h (x ∷ l) =
    many_cons (λ x. test (either (part x) (f x) (h x))) x l ∙ go (part x) (many_parted test part f h l)
  where
    go :
        (b : Bool)
        → many (λ x. test (either (part x) (f x) (h x))) l ≡ many (λ x. test (f x)) (keep part l) + many (λ x. test (h x)) (keep (λ x. not (part x)) l)
        → one_if (test (either b (f x) (h x))) + many (λ x. test (either (part x) (f x) (h x))) l
        ≡ many (λ x. test (f x)) (keep_if b x (keep part l)) + many (λ x. test (h x)) (keep_if (not b) x (keep (λ x. not (part x)) l))
    go true e = omega (arith, e, many_cons (λ x. test (f x)) x (keep part l))
    go false e = omega (arith, e, many_cons (λ x. test (h x)) x (keep (λ x. not (part x)) l))

none_twice_map : (f : ℕ → ℕ) (l : List ℕ) → NoneTwice l → ((x y : ℕ) → Among x l → Among y l → f x ≡ f y → x ≡ y) → NoneTwice (map f l)
unfolding NoneTwice
none_twice_map f [] p d = tt
none_twice_map f (x ∷ l) p d = (
  λ m. let y = Memᴰ.of_map f l m in p.0 (subst (λ (z : ℕ). Among z l) (d y.0 x (there y.1) (here refl) y.2) y.1),
  none_twice_map f l p.1 (λ y z h k. d y z (there h) (there k)),
)

-- ---- the larger clusters without a root

abbrev one : ℕ → Bool
one x = eqb (size x) 1

abbrev more : ℕ → Bool
more x = not (eqb (size x) 1)

module _ {g : List ℕ} (v : ValidOn (largest g) g) where
  split : listed g ≡ proper_ones g ++ (largest g ∷ [])
  split = before_last v.form (among-le-largest v.form v.all).0

  proper-listed : {x : ℕ} → Among x (proper_ones g) → Among x (listed g)
  proper-listed {x} m = subst (λ (l : List ℕ). Among x l) (sym split) (Memᴰ.append_left (largest g ∷ []) m)

  listed-once : NoneTwice (proper_ones g ++ (largest g ∷ []))
  listed-once = subst (λ (l : List ℕ). NoneTwice l) split (rising_none_twice (listed g) v.form.rising)

  proper_other : {x : ℕ} → Among x (proper_ones g) → x ≡ largest g → ⊥
  proper_other {x} m e = none_twice_parts (proper_ones g) (largest g ∷ []) listed-once x m (here e)

  listed-proper : {x : ℕ} → Among x (listed g) → (x ≡ largest g → ⊥) → Among x (proper_ones g)
  listed-proper {x} m d = go (Memᴰ.append_cases (proper_ones g) (subst (λ (l : List ℕ). Among x l) split m))
    where
      go : Among x (proper_ones g) ⊎ Among x (largest g ∷ []) → Among x (proper_ones g)
      go (inl k) = k
      go (inr k) = absurd (d (Memᴰ.eq_of_singleton k))

  complements-once : NoneTwice (complements g)
  unfolding complements
  complements-once =
      none_twice_map (λ x. largest g - x) (proper_ones g) (none_twice_left (proper_ones g) (largest g ∷ []) listed-once)
      (λ x y m k e. omega (arith, e, (among-le-largest v.form (proper-listed m)).1, (among-le-largest v.form (proper-listed k)).1))

  -- a complement that the record does not list is no single species
  unlisted_larger : {x : ℕ} → Among x (unrooted_clusters g) → (Among x (listed g) → ⊥) → size x ≡ 1 → ⊥
  unlisted_larger {x} m off e = go (size_one e)
    where
      go : (i : ℕ) × (x ≡ single i) → ⊥
      go i =
          let has = has_of_within x (largest g) i.0 (unrooted_inside v x m).1 (subst (λ (y : ℕ). Has y i.0) (sym i.1) (single-has i.0)) in
          off (subst (λ (y : ℕ). Among y (listed g)) (sym i.1) (v.singles i.0 has))

  -- a larger cluster but the whole
  record Larger (x : ℕ) : Type 0 where
    is : OfUnrooted g x
    inner : more x ≡ true
    other : x ≡ largest g → ⊥

  among_larger : {x : ℕ} → Among x (larger_ones g) → Larger x
  unfolding larger_ones
  among_larger {x} m =
      let k = among-keep (λ x. not (eqb (size x) 1) && not (eqb x (largest g))) (unrooted_clusters g) m in
      let t = both (not (eqb (size x) 1)) (not (eqb x (largest g))) k.1 in
      record { is = among_unrooted g k.0; inner = t.0; other = eqb-false x (largest g) (not-true (eqb x (largest g)) t.1) }

  larger_among : {x : ℕ} → Larger x → Among x (larger_ones g)
  unfolding larger_ones
  larger_among {x} l =
      keep-among (λ x. not (eqb (size x) 1) && not (eqb x (largest g))) (unrooted_clusters g) (unrooted_among g v.form l.is)
      (rw (l.inner, ne_eqb x (largest g) l.other))

  parts_of : {x : ℕ} → Larger x → Dec (Among x (listed g)) → Among x (keep more (proper_ones g) ++ unlisted g)
  unfolding unlisted
  parts_of {x} l (yes m) = Memᴰ.append_left (unlisted g) (keep-among more (proper_ones g) (listed-proper m l.other) l.inner)
  parts_of {x} l (no f) = Memᴰ.append_right (keep more (proper_ones g)) (go l.is)
    where
      go : OfUnrooted g x → Among x (unlisted g)
      go (inl m) = absurd (f m)
      go (inr c) =
          keep-among (λ y. not (among y (listed g))) (complements g) (of_complement v.form c)
          (ap not (unless (among x (listed g)) (λ e. f ((tells_among x (listed g)).holds e))))

  -- what is left of the complements
  of_unlisted : {x : ℕ} → Among x (unlisted g) → OfUnrooted g x × (Among x (listed g) → ⊥)
  unfolding unlisted
  of_unlisted {x} m =
      let k = among-keep (λ y. not (among y (listed g))) (complements g) m in
      (inr (complement_of v.form k.0), denied (tells_among x (listed g)) (not-true (among x (listed g)) k.1))

  of_parts : {x : ℕ} → Among x (keep more (proper_ones g)) ⊎ Among x (unlisted g) → Larger x
  of_parts {x} (inl m) =
      let k = among-keep more (proper_ones g) m in record { is = inl (proper-listed k.0); inner = k.1; other = proper_other k.0 }
  of_parts {x} (inr m) =
      let k = of_unlisted m in
      record {
        is = k.0;
        inner = ap not (ne_eqb (size x) 1 (unlisted_larger (unrooted_among g v.form k.0) k.1));
        other = λ e. k.1 (subst (λ (y : ℕ). Among y (listed g)) (sym e) v.all);
      }

  -- the larger clusters are those that the record lists, and the complements that it does not list
  larger_parts : (test : ℕ → Bool) → many test (larger_ones g) ≡ many test (keep more (proper_ones g)) + many test (unlisted g)
  unfolding larger_ones unlisted
  larger_parts test =
      many_members test (larger_ones g) (keep more (proper_ones g) ++ unlisted g)
      (none_twice_keep (λ x. not (eqb (size x) 1) && not (eqb x (largest g))) (unrooted_clusters g) (unrooted_once g))
      (none_twice_append (keep more (proper_ones g)) (unlisted g)
      (none_twice_keep more (proper_ones g) (none_twice_left (proper_ones g) (largest g ∷ []) listed-once))
      (none_twice_keep (λ y. not (among y (listed g))) (complements g) complements-once)
      (λ x m k. (of_unlisted k).1 (proper-listed (among-keep more (proper_ones g) m).0)))
      (λ x m. parts_of (among_larger m) (among_dec x))
      (λ x m. larger_among (of_parts (Memᴰ.append_cases (keep more (proper_ones g)) m)))
      ∙ many_append test (keep more (proper_ones g)) (unlisted g)
    where
      among_dec : (x : ℕ) → Dec (Among x (listed g))
      among_dec x = go (among x (listed g)) refl
        where
          go : (b : Bool) → among x (listed g) ≡ b → Dec (Among x (listed g))
          go true e = yes ((tells_among x (listed g)).holds e)
          go false e = no (denied (tells_among x (listed g)) e)

  -- the single species are those before the last, and the last where it is one
  single-parts : (test : ℕ → Bool) → many test (single_ones g) ≡ many test (keep one (proper_ones g)) + many test (keep one (largest g ∷ []))
  unfolding single_ones
  single-parts test =
      ap (λ (l : List ℕ). many test (keep one l)) split
      ∙ ap (λ (l : List ℕ). many test l) (keep_append one (proper_ones g) (largest g ∷ []))
      ∙ many_append test (keep one (proper_ones g)) (keep one (largest g ∷ []))

  -- ---- the whole gene tree

  -- the whole set, the clusters before the last and the complements that are not listed change as much as the definition's lists
  as_much :
      (z : ℕ)
      → often z ((largest g ∷ []) ++ map (λ x. own_plus (largest g) x) (proper_ones g) ++ map (λ x. largest g) (unlisted g)) + often z (minus_by Unrooted g)
      ≡ often z (plus_by Unrooted g) + often z ([] ++ map (λ x. own_minus (largest g) x) (proper_ones g) ++ unlisted g)
  unfolding plus_by minus_by
  as_much z =
      omega (
        arith,
        often_both z ((largest g ∷ []) ++ map (λ x. own_plus (largest g) x) (proper_ones g)) (map (λ x. largest g) (unlisted g)),
        often_both z (largest g ∷ []) (map (λ x. own_plus (largest g) x) (proper_ones g)),
        often_both z (map (λ x. own_minus (largest g) x) (proper_ones g)) (unlisted g),
        often_both z (largest g ∷ []) (single_ones g ++ map (λ x. largest g) (larger_ones g)),
        often_both z (single_ones g) (map (λ x. largest g) (larger_ones g)),
        often_both z (larger_ones g) (map (λ x. largest g) (single_ones g)),
        often-map z (λ x. own_plus (largest g) x) (proper_ones g),
        often-map z (λ x. own_minus (largest g) x) (proper_ones g),
        often-map z (λ x. largest g) (unlisted g),
        often-map z (λ x. largest g) (larger_ones g),
        often-map z (λ x. largest g) (single_ones g),
        many_parted (λ y. eqb z y) one (λ x. x) (λ x. largest g) (proper_ones g),
        many_parted (λ y. eqb z y) one (λ x. largest g) (λ x. x) (proper_ones g),
        larger_parts (λ y. eqb z y),
        larger_parts (λ y. eqb z (largest g)),
        single-parts (λ y. eqb z y),
        single-parts (λ y. eqb z (largest g)),
        many_same (λ y. eqb z y) (λ y. eqb z (largest g)) (keep one (largest g ∷ []))
            (λ x m. ap (λ (y : ℕ). eqb z y) (Memᴰ.eq_of_singleton (among-keep one (largest g ∷ []) m).0)),
      )

-- the gene tree is done: the whole counted, then what its clusters change, then what their complements change
pub unrooted_done :
    {g f h k j : List ℕ} → Countable g → Changed (largest g ∷ []) [] f h
    → Changed (map (λ x. own_plus (largest g) x) (proper_ones g)) (map (λ x. own_minus (largest g) x) (proper_ones g)) h k
    → Changed (map (λ x. largest g) (unlisted g)) (unlisted g) k j → Changed (plus_by Unrooted g) (minus_by Unrooted g) f j
unrooted_done {g} can c d e =
    changed_as (changed_both (changed_both c d) e) (as_much (subst (λ (s : ℕ). ValidOn s g) (sym (largest_of_valid can.valid)) can.valid))

-- ---- the clusters before the last, one after the other

-- the k-th of them, counted from 0
pub proper_at : (g : List ℕ) (k : ℕ) → k < count g - 1 → get_or (proper_ones g) k 0 ≡ get_or g (k + 1) 0
proper_at g k l =
    get_or-take (count g - 1) (drop 1 g) k 0 l ∙ get_or-drop 1 g k 0 ∙ ap (λ (n : ℕ). get_or g n 0) (omega arith)

-- those from the i-th on, counted from 1, are left
pub record OwnTo (g before now : List ℕ) (i : ℕ) : Type 0 where
  pub first : 1 ≤ i
  pub changed :
      ChangedTo (map (λ x. own_plus (largest g) x) (proper_ones g)) (map (λ x. own_minus (largest g) x) (proper_ones g))
      (map (λ x. own_plus (largest g) x) (drop (i - 1) (proper_ones g))) (map (λ x. own_minus (largest g) x) (drop (i - 1) (proper_ones g))) before now

-- all are left
pub own_start : (g f : List ℕ) → OwnTo g f f 1
own_start g f = record {
  first = omega arith;
  changed = to_start (map (λ x. own_plus (largest g) x) (proper_ones g)) (map (λ x. own_minus (largest g) x) (proper_ones g)) f;
}

-- one counted and the other taken off
own_both :
    (b : Bool) (x s : ℕ) {f h k : List ℕ} → Changed (either b (x ∷ []) []) (either b [] (x ∷ [])) f h
    → Changed (either (not b) (s ∷ []) []) (either (not b) [] (s ∷ [])) h k → Changed (either b x s ∷ []) (either b s x ∷ []) f k
own_both true x s c d = changed_both c d
own_both false x s c d = changed_both c d

module _ {g : List ℕ} (can : Countable g) {before now : List ℕ} {i : ℕ} (t : OwnTo g before now i) where
  -- the next one
  pub own_next :
      {x one : ℕ} {h after : List ℕ} → x ≡ get_or g i 0 → i < count g → one ≡ size x
      → Changed (either (eqb one 1) (x ∷ []) []) (either (eqb one 1) [] (x ∷ [])) now h
      → Changed (either (not (eqb one 1)) (largest g ∷ []) []) (either (not (eqb one 1)) [] (largest g ∷ [])) h after → OwnTo g before after (i + 1)
  own_next {x} {one} {h} {after} at l e c d = record {
    first = omega arith;
    changed =
        to_next t.changed (ap (map (λ x. own_plus (largest g) x)) here_on) (ap (map (λ x. own_minus (largest g) x)) here_on)
        (subst (λ (y : ℕ). Changed (either (eqb (size y) 1) y (largest g) ∷ []) (either (eqb (size y) 1) (largest g) y ∷ []) now after) at
        (subst (λ (k : ℕ). Changed (either (eqb k 1) x (largest g) ∷ []) (either (eqb k 1) (largest g) x ∷ []) now after) e
        (own_both (eqb one 1) x (largest g) c d)));
  }
    where
      here_on : drop (i - 1) (proper_ones g) ≡ get_or g i 0 ∷ drop (i + 1 - 1) (proper_ones g)
      here_on = first_from (count g - 1) i can.valid.form (omega arith) t.first (omega arith)

  -- none is left
  pub own_end :
      count g ≤ i → Changed (map (λ x. own_plus (largest g) x) (proper_ones g)) (map (λ x. own_minus (largest g) x) (proper_ones g)) before now
  own_end past =
      let one = t.first in
      let none = first_none g (count g - 1) i (omega arith) in
      to_end t.changed (ap (map (λ x. own_plus (largest g) x)) none) (ap (map (λ x. own_minus (largest g) x)) none)

-- ---- their complements, one after the other

-- of the complements from that of the i-th cluster on those that are not listed
unfoldable pub unlisted_from : ℕ → List ℕ → List ℕ
unlisted_from i g = keep (λ y. not (among y (listed g))) (complements_from i g)

-- these are left
pub record OthersTo (g before now : List ℕ) (i : ℕ) : Type 0 where
  pub first : 1 ≤ i
  pub changed : ChangedTo (map (λ x. largest g) (unlisted g)) (unlisted g) (map (λ x. largest g) (unlisted_from i g)) (unlisted_from i g) before now

-- all are left
pub others_start : (g f : List ℕ) → OthersTo g f f 1
unfolding unlisted unlisted_from
others_start g f = record {
  first = omega arith;
  changed = rw (complements_first g) (to_start (map (λ x. largest g) (unlisted g)) (unlisted g) f);
}

module _ {g : List ℕ} (can : Countable g) {before now : List ℕ} {i : ℕ} (t : OthersTo g before now i) where
  -- the next cluster's complement
  abbrev other : ℕ
  other = largest g - get_or g i 0

  here_or_not : (b : Bool) → among other (listed g) ≡ b → i < count g → unlisted_from i g ≡ keep_if (not b) other (unlisted_from (i + 1) g)
  unfolding unlisted_from keep
  here_or_not b e l =
      ap (keep (λ y. not (among y (listed g)))) (complements_next i can.valid.form t.first l)
      ∙ ap (λ (d : Bool). keep_if (not d) other (keep (λ y. not (among y (listed g))) (complements_from (i + 1) g))) e

  -- it is listed: nothing is done
  pub others-listed : {x : ℕ} → x ≡ get_or g i 0 → i < count g → Among (largest g - x) (listed g) → OthersTo g before now (i + 1)
  others-listed at l m =
      let e = here_or_not true ((tells_among other (listed g)).told (subst (λ (y : ℕ). Among (largest g - y) (listed g)) at m)) l in
      record { first = omega arith; changed = to_next t.changed (ap (map (λ x. largest g)) e) e (changed_none now) }

  -- it is not: it is taken off, and the whole counted
  pub others_next :
      {x : ℕ} {h after : List ℕ} → x ≡ get_or g i 0 → i < count g → (Among (largest g - x) (listed g) → ⊥) → Changed [] ((largest g - x) ∷ []) now h
      → Changed (largest g ∷ []) [] h after → OthersTo g before after (i + 1)
  others_next {x} {h} {after} at l f c d =
      let off = subst (λ (y : ℕ). Among (largest g - y) (listed g) → ⊥) at f in
      let taken = subst (λ (y : ℕ). Changed [] ((largest g - y) ∷ []) now h) at c in
      let e = here_or_not false (unless (among other (listed g)) (λ m. off ((tells_among other (listed g)).holds m))) l in
      record { first = omega arith; changed = to_next t.changed (ap (map (λ x. largest g)) e) e (changed_both taken d) }

  -- none is left
  pub others_end : count g ≤ i → Changed (map (λ x. largest g) (unlisted g)) (unlisted g) before now
  unfolding unlisted_from keep
  others_end past =
      let none = ap (keep (λ y. not (among y (listed g)))) (complements_end g i t.first past) in
      to_end t.changed (ap (map (λ x. largest g)) none) none
