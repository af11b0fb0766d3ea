-- What all gene trees add and take off, one tree after the other, and the number of them by their whole set. Their records are pieces of one size of what is lent.
use Rattle.std.proofs.Common.{◌≡◌, ℕ, ◌+◌, ◌*◌, ◌<◌, ◌≤◌, Bool, true, false, eqb, List, [], ◌∷◌, map, length, get_or, take, drop, set, replicate, sym, refl, ap, ◌∙◌, arith, length-set, get_or-drop, get_or-take, get_or-set_other, get_or-set_same}
use mathlib.Core.List.Memᴰ
use mathlib.Core.List.{Memᴰ}
use native.Mathlib.Decide.{ℕ_discrete}
use Rattle.std.proofs.lemmas.List.{get_or_default}
use lib.ListN.{length-map, get_or-replicate}
use Rattle.trees.specs.Lists.{pieces}
use Rattle.trees.specs.Records.{count as count_of, largest}
use Rattle.trees.proofs.EqualPieces.{pieces-length, piece_at, piece_among, pieces_from, pieces_from_first, pieces_from_next, pieces_from_last}
use Rattle.weights.specs.Lineages.{one_if}
use Rattle.weights.specs.Subsets.{often, gathered}
use Rattle.weights.proofs.SumOfLists.{many_cons}
use Rattle.sums.specs.Work.{Changed, Tallied}
use Rattle.sums.proofs.Changes.{often_none, often-own, often_other, often_both, ChangedTo, to_start, to_next, to_end}

-- ---- the gene trees one by one

-- g is the i-th of them
pub record Turn (size count : ℕ) (genes : List ℕ) (i : ℕ) (g : List ℕ) : Type 0 where
  pub less : i < count
  pub is : g ≡ take size (drop (size * i) genes)

pub turn_of :
    (size count : ℕ) (genes : List ℕ) {i : ℕ} {g : List ℕ} → (i < length (pieces size count genes)) × (g ≡ get_or (pieces size count genes) i g)
    → Turn size count genes i g
turn_of size count genes {i} {g} t =
    let less : i < count = let k = t.0 in omega (arith, pieces-length size count genes) in
    record { less = less; is = t.1 ∙ get_or_default (pieces size count genes) i g [] t.0 ∙ piece_at size count i genes less }

-- it is one of them
pub turn-among : {size count : ℕ} {genes : List ℕ} {i : ℕ} {g : List ℕ} → Turn size count genes i g → Memᴰ g (pieces size count genes)
turn-among {size} {count} {genes} {i} t = Memᴰ.cast t.is (piece_among size i count genes t.less)

-- ---- what they add and take off

-- the gene trees from the i-th on are left
pub record TreesTo (size : ℕ) (plus minus : List ℕ → List ℕ) (genes : List ℕ) (count : ℕ) (before now : List ℕ) (i : ℕ) : Type 0 where
  pub place : i ≤ count
  pub changed :
      ChangedTo (gathered plus (pieces size count genes)) (gathered minus (pieces size count genes)) (gathered plus (pieces_from size i count genes))
      (gathered minus (pieces_from size i count genes)) before now

-- all are left
pub trees_start : (size : ℕ) (plus minus : List ℕ → List ℕ) (genes : List ℕ) (count : ℕ) (f : List ℕ) → TreesTo size plus minus genes count f f 0
trees_start size plus minus genes count f = record {
  place = omega arith;
  changed = rw (pieces_from_first size count genes) (to_start (gathered plus (pieces size count genes)) (gathered minus (pieces size count genes)) f);
}

module _ {size : ℕ} {plus minus : List ℕ → List ℕ} {genes : List ℕ} {count : ℕ} {before now : List ℕ} {i : ℕ} (t : TreesTo size plus minus genes count before now i) where
  -- the next gene tree is done
  pub trees_next :
      {after : List ℕ} → i < count → Changed (plus (take size (drop (size * i) genes))) (minus (take size (drop (size * i) genes))) now after
      → TreesTo size plus minus genes count before after (i + 1)
  unfolding gathered
  trees_next l c =
      let e = pieces_from_next size i count genes l in
      record { place = omega arith; changed = to_next t.changed (ap (gathered plus) e) (ap (gathered minus) e) c }

  -- none is left
  pub trees_end : count ≤ i → Changed (gathered plus (pieces size count genes)) (gathered minus (pieces size count genes)) before now
  unfolding gathered
  trees_end past =
      let all : i ≡ count = omega (arith, t.place) in
      let none = ap (λ (j : ℕ). pieces_from size j count genes) all ∙ pieces_from_last size count genes in
      to_end t.changed (ap (gathered plus) none) (ap (gathered minus) none)

-- ---- how many there are of each whole set

-- a set stands in a list at most as often as the list is long
often-le : (x : ℕ) (l : List ℕ) → often x l ≤ length l
often-le x [] = omega (arith, often_none x)
often-le x (y ∷ l) = omega (arith, many_cons (λ z. eqb x z) y l, one_at_most (eqb x y), often-le x l)
  where
    one_at_most : (b : Bool) → one_if b ≤ 1
    one_at_most true = omega arith
    one_at_most false = omega arith

-- the gene trees from the i-th on are left
pub record TalliedTo (size : ℕ) (whole : List ℕ → ℕ) (genes : List ℕ) (count : ℕ) (before now : List ℕ) (i : ℕ) : Type 0 where
  pub place : i ≤ count
  pub same : length now ≡ length before
  pub left :
      (x : ℕ) → x < length before
      → get_or now x 0 + often x (map whole (pieces_from size i count genes)) ≡ get_or before x 0 + often x (map whole (pieces size count genes))

-- all are left
pub tallied_start : (size : ℕ) (whole : List ℕ → ℕ) (genes : List ℕ) (count : ℕ) (f : List ℕ) → TalliedTo size whole genes count f f 0
tallied_start size whole genes count f = record { place = omega arith; same = refl; left = λ x l. rw (pieces_from_first size count genes) }

module _ {size : ℕ} {whole : List ℕ → ℕ} {genes : List ℕ} {count : ℕ} {before now : List ℕ} {i : ℕ} (t : TalliedTo size whole genes count before now i) where
  -- the whole set of the next gene tree, counted once
  left_one :
      (x : ℕ) → i < count
      → often x (map whole (pieces_from size i count genes))
      ≡ often x (whole (take size (drop (size * i) genes)) ∷ []) + often x (map whole (pieces_from size (i + 1) count genes))
  left_one x l =
      ap (λ (k : List (List ℕ)). often x (map whole k)) (pieces_from_next size i count genes l)
      ∙ often_both x (whole (take size (drop (size * i) genes)) ∷ []) (map whole (pieces_from size (i + 1) count genes))

  -- its entry stays below the number of gene trees
  pub tallied_room :
      {s : ℕ} → s ≡ whole (take size (drop (size * i) genes)) → i < count → s < length before → before ≡ replicate (length before) 0 → get_or now s 0 < count
  tallied_room {s} e l fits zeros =
      omega (
        arith,
        left_one s l,
        often-own (whole (take size (drop (size * i) genes))) s e,
        t.left s fits,
        often-le s (map whole (pieces size count genes)),
        length-map (pieces size count genes) whole,
        pieces-length size count genes,
        ap (λ (k : List ℕ). get_or k s 0) zeros,
        get_or-replicate {A = ℕ} (length before) s 0 0 fits,
      )

  -- it is counted
  pub tallied_next :
      {s : ℕ} → s ≡ whole (take size (drop (size * i) genes)) → i < count → s < length before
      → TalliedTo size whole genes count before (set now s (get_or now s 0 + 1)) (i + 1)
  tallied_next {s} e l fits = record {
    place = omega arith;
    same = length-set now s (get_or now s 0 + 1) ∙ t.same;
    left = λ x k. go x k (ℕ_discrete x s);
  }
    where
      go :
          (x : ℕ) → x < length before → Dec (x ≡ s)
          → get_or (set now s (get_or now s 0 + 1)) x 0 + often x (map whole (pieces_from size (i + 1) count genes))
          ≡ get_or before x 0 + often x (map whole (pieces size count genes))
      go x k (yes d) =
          omega (
            arith,
            t.left x k,
            left_one x l,
            often-own (whole (take size (drop (size * i) genes))) x (d ∙ e),
            ap (λ (y : ℕ). get_or (set now s (get_or now s 0 + 1)) y 0) d,
            get_or-set_same now s (get_or now s 0 + 1) 0 (omega (arith, t.same)),
            ap (λ (y : ℕ). get_or now y 0) d,
          )
      go x k (no d) =
          omega (
            arith,
            t.left x k,
            left_one x l,
            often_other (whole (take size (drop (size * i) genes))) x (λ p. d (p ∙ sym e)),
            get_or-set_other now s x (get_or now s 0 + 1) 0 d,
          )

  -- none is left
  pub tallied_end : count ≤ i → Tallied (map whole (pieces size count genes)) before now
  tallied_end past = record {
    same = t.same;
    entries = λ x l.
        omega (
          arith,
          t.left x l,
          ap (λ (k : List (List ℕ)). often x (map whole k)) (ap (λ (j : ℕ). pieces_from size j count genes) all ∙ pieces_from_last size count genes),
          often_none x,
        );
  }
    where
      all : i ≡ count
      all = omega (arith, t.place)

-- ---- a record among all the numbers

-- its whole set stands as far behind its count as the count says
pub whole_at :
    (size : ℕ) (genes : List ℕ) (i : ℕ) {m : ℕ} → count_of (take size (drop (size * i) genes)) < size → m ≡ get_or genes (size * i) 0
    → (m < size) × (get_or genes (size * i + m) 0 ≡ largest (take size (drop (size * i) genes)))
whole_at size genes i {m} f e = (
  few,
  sym (get_or-drop (size * i) genes m 0) ∙ sym (get_or-take size (drop (size * i) genes) m 0 few)
      ∙ ap (λ (k : ℕ). get_or (take size (drop (size * i) genes)) k 0) (e ∙ sym first),
)
  where
    place : size * i + 0 ≡ size * i
    place = omega arith

    first : count_of (take size (drop (size * i) genes)) ≡ get_or genes (size * i) 0
    first = get_or-take size (drop (size * i) genes) 0 0 (omega arith) ∙ get_or-drop (size * i) genes 0 0 ∙ ap (λ (k : ℕ). get_or genes k 0) place

    few : m < size
    few = omega (arith, e, first, f)
