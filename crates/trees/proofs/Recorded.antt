-- The record of a list of clusters: its form, and that a valid record is determined by the clusters in it.
use Prim.Native.Nat.{ℕ, zero, suc, ◌+◌, ◌-◌, ◌*◌, ◌^◌, ◌≤◌, ◌<◌}
use mathlib.Core.Path.{◌≡◌, refl, sym, ap, ap₂, ◌∙◌, subst}
use mathlib.Core.Logic.{◌⊎◌, inl, inr}
use mathlib.Core.List.Memᴰ
use mathlib.Core.List.Memᴰ.{head as here}
use mathlib.Core.List.Memᴰ.{tail as there}
use mathlib.Core.List.{List, [], ◌∷◌, ◌++◌, append_assoc}
use native.Mathlib.Numerals.{one-add}
use native.Mathlib.Omega.{arith}
use lib.ListN.{length, get_or, take, replicate, length-append, length-replicate, replicate-append-replicate, take-append-drop}
use lib.Seq.{take_at, drop_at}
use Rattle.clusters.proofs.Sizes.{size-le}
use Rattle.trees.specs.Lists.{Among, NoneTwice, sorted}
use Rattle.trees.specs.Records.{count, listed, record_for, FormFor, ValidFor}
use Rattle.trees.specs.Tree.{Tree, clusters, On}
use Rattle.trees.proofs.Places.{listed-length, among-place}
use Rattle.trees.proofs.Order.{among-sorted, sorted-among, length-sorted, rising-sorted, sorted_same}
use Rattle.trees.proofs.ValidTest.{of_zeros}
use Rattle.trees.proofs.Nodes.{has-leaf, clusters-inside, whole_among, single-among, clusters-nested, clusters-once}
use Rattle.trees.proofs.Counts.{clusters_lt_twice}

pub count_record : (b : ℕ) (cs : List ℕ) → count (record_for b cs) ≡ length cs
unfolding record_for
count_record b cs = refl

pub listed_record : (b : ℕ) (cs : List ℕ) → listed (record_for b cs) ≡ sorted cs
unfolding record_for
listed_record b cs = take_at (sorted cs) (replicate (2 * b - 1 - length cs) 0) (length cs) (length-sorted cs)

-- where there is room for them and their count
pub record_length : (b : ℕ) (cs : List ℕ) → length cs < 2 * b → length (record_for b cs) ≡ 2 * b
unfolding record_for
record_length b cs h =
    let zeros = replicate (2 * b - 1 - length cs) zero in
    omega (arith, length-append (sorted cs) zeros, length-sorted cs, length-replicate (2 * b - 1 - length cs) zero)

pub record_form : {b : ℕ} (cs : List ℕ) → NoneTwice cs → length cs < 2 * b → FormFor b (record_for b cs)
unfolding record_for
record_form {b} cs p h = record {
  sized = record_length b cs h;
  counted = omega arith;
  rising = rw (listed_record b cs) (rising-sorted cs p);
  zeros = rw one-add (drop_at (sorted cs) (replicate (2 * b - 1 - length cs) 0) (length cs) (length-sorted cs));
}

pub length-listed : {b : ℕ} (r : List ℕ) → FormFor b r → length (listed r) ≡ count r
length-listed r f = listed-length r (count r) f.sized f.counted

-- a record that lists something has room
pub breadth_some : {b s : ℕ} {r : List ℕ} → ValidFor b s r → 1 ≤ b
breadth_some {b} {s} {r} v =
    let p = among-place r (count r) v.form.sized v.form.counted s v.all in
    let most = v.form.counted in
    omega (arith, p.first, p.last)

-- a valid record is its count, its clusters and zeros
pub valid-parts : {b s : ℕ} {r : List ℕ} → ValidFor b s r → r ≡ count r ∷ (listed r ++ replicate (2 * b - 1 - count r) 0)
valid-parts {b} {s} {r} v = go r v.form (breadth_some v)
  where
    go : (r : List ℕ) → FormFor b r → 1 ≤ b → r ≡ count r ∷ (listed r ++ replicate (2 * b - 1 - count r) 0)
    go [] f some = let e = f.sized in absurd (omega arith)
    go (x ∷ l) f some = ap (λ (k : List ℕ). x ∷ k) (sym (take-append-drop x l) ∙ ap (λ (k : List ℕ). take x l ++ k) (rw one-add at f.zeros))

-- the record of clusters that are those of a valid record
pub record_same :
    {b s : ℕ} {r : List ℕ} (cs : List ℕ) → ValidFor b s r → NoneTwice cs → ((x : ℕ) → Among x cs → Among x (listed r))
    → ((x : ℕ) → Among x (listed r) → Among x cs) → record_for b cs ≡ r
unfolding record_for
record_same {b} {s} {r} cs v p g h =
    let e = sorted_same cs (listed r) p v.form.rising g h in
    let n = sym (length-sorted cs) ∙ ap length e ∙ length-listed r v.form in
    ap₂ (λ (n : ℕ) (k : List ℕ). n ∷ (k ++ replicate (2 * b - 1 - n) 0)) n e ∙ sym (valid-parts v)

-- ---- the numbers of a record

more_zeros : (x : ℕ) (l : List ℕ) (p q : ℕ) → x ∷ (l ++ replicate (p + q) 0) ≡ (x ∷ (l ++ replicate p 0)) ++ replicate q 0
more_zeros x l p q =
    ap (λ (k : List ℕ). x ∷ (l ++ k)) (sym (replicate-append-replicate p q 0)) ∙ ap (λ (k : List ℕ). x ∷ k) (sym (append_assoc l (replicate p 0) (replicate q 0)))

-- a record of a larger breadth has more zeros
pub record_wider : (c b : ℕ) (cs : List ℕ) → c ≤ b → length cs < 2 * c → record_for b cs ≡ record_for c cs ++ replicate (2 * b - 2 * c) 0
unfolding record_for
record_wider c b cs narrower room =
    let all : 2 * b - 1 - length cs ≡ 2 * c - 1 - length cs + (2 * b - 2 * c) = omega arith in
    rw all (more_zeros (length cs) (sorted cs) (2 * c - 1 - length cs) (2 * b - 2 * c))

-- so the record of a smaller breadth is the front of it
pub record_front : (c b : ℕ) (cs : List ℕ) → c ≤ b → length cs < 2 * c → take (2 * c) (record_for b cs) ≡ record_for c cs
record_front c b cs narrower room = rw (record_wider c b cs narrower room) (take_at (record_for c cs) (replicate (2 * b - 2 * c) 0) (2 * c) (record_length c cs room))

at_below : {most : ℕ} (l : List ℕ) → 0 < most → ((x : ℕ) → Among x l → x < most) → (i : ℕ) → get_or l i 0 < most
at_below [] some below i = some
at_below (x ∷ l) some below zero = below x (here refl)
at_below (x ∷ l) some below (suc i) = at_below l some (λ y m. below y (there m)) i

-- no number of a record is larger than its clusters and their count may be
pub record_below : {most : ℕ} (b : ℕ) (cs : List ℕ) → length cs < most → ((x : ℕ) → Among x cs → x < most) → (i : ℕ) → get_or (record_for b cs) i 0 < most
unfolding record_for
record_below {most} b cs few below = at_below (record_for b cs) (omega arith) (λ x m. each x (Memᴰ.cases_cons m))
  where
    behind : (x : ℕ) → Among x (sorted cs) ⊎ Among x (replicate (2 * b - 1 - length cs) 0) → x < most
    behind x (inl m) = below x (among-sorted cs m)
    behind x (inr m) = omega (arith, of_zeros (2 * b - 1 - length cs) m)

    each : (x : ℕ) → (x ≡ length cs) ⊎ Among x (sorted cs ++ replicate (2 * b - 1 - length cs) 0) → x < most
    each x (inl e) = omega arith
    each x (inr m) = behind x (Memᴰ.append_cases (sorted cs) m)

-- ---- the record of a drawn tree

pub among_record : {x : ℕ} (b : ℕ) (cs : List ℕ) → Among x (listed (record_for b cs)) → Among x cs
among_record {x} b cs h = among-sorted cs (subst (λ (l : List ℕ). Among x l) (listed_record b cs) h)

pub record_among : {x : ℕ} (b : ℕ) (cs : List ℕ) → Among x cs → Among x (listed (record_for b cs))
record_among {x} b cs h = subst (λ (l : List ℕ). Among x l) (sym (listed_record b cs)) (sorted-among cs h)

-- the record of a drawn tree on at most b species is valid
pub valid_of_drawn : {b s : ℕ} {t : Tree} → On s t → s < 2 ^ b → ValidFor b s (record_for b (clusters t))
valid_of_drawn {b} {s} {t} o below = record {
  form = record_form (clusters t) (clusters-once t o.once) (omega (arith, clusters_lt_twice o, size-le b below));
  singles = λ i h. record_among b (clusters t) (single-among t i (has-leaf t i (rw o.all h)));
  all = record_among b (clusters t) (rw (← o.all) (whole_among t));
  inside = λ a h. rw (← o.all) (clusters-inside t a (among_record b (clusters t) h));
  nested = λ a c h k. clusters-nested t o.once a c (among_record b (clusters t) h) (among_record b (clusters t) k);
}
