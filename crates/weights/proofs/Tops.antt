-- The maximal clusters within A: which they are, and that 01's count is their number whatever list shows them.
use Prim.Native.Nat.{ℕ}
use mathlib.Core.Path.{◌≡◌, refl, sym, ap, ◌∙◌}
use mathlib.Core.Bool.{Bool, true, false, not, true≢false}
use mathlib.Core.List.{List, []}
use native.Mathlib.Decide.{ℕ_discrete}
use lib.ListN.{length}
use borrow.Author.Tests.{not-true}
use Rattle.clusters.specs.Sets.{Within, within}
use Rattle.clusters.proofs.Sets.{within-true, true-within}
use Rattle.trees.specs.Lists.{Among, NoneTwice, keep, some, sorted}
use Rattle.trees.specs.Drawn.{properly, maximal}
use Rattle.trees.proofs.Listing.{keep-among, among-keep, some_of, of_some, none_twice_keep}
use Rattle.trees.proofs.Order.{among-sorted, sorted-among, length-sorted, rising-sorted, sorted_same}
use Rattle.trees.proofs.Children.{properly-true, true-properly}
use Rattle.weights.specs.Count.{maximal_within, k_drawn}

-- ---- lists that hold no number twice

-- two such lists with the same numbers are equally long
pub same_length : (l k : List ℕ) → NoneTwice l → NoneTwice k → ((x : ℕ) → Among x l → Among x k) → ((x : ℕ) → Among x k → Among x l) → length l ≡ length k
same_length l k p q f g =
    sym (length-sorted l)
    ∙ ap length (sorted_same l (sorted k) p (rising-sorted k q) (λ x h. sorted-among k (f x h)) (λ x h. g x (among-sorted k h)))
    ∙ length-sorted k

-- ---- the maximal clusters within A

-- x is listed, lies within a, and is properly within no other that does
pub record Top (cs : List ℕ) (a x : ℕ) : Type 0 where
  pub among : Among x cs
  pub inside : Within x a
  pub greatest : (y : ℕ) → Among y cs → Within y a → Within x y → x ≡ y

inner : List ℕ → ℕ → List ℕ
inner cs a = keep (λ x. within x a) cs

pub drawn-tops : (cs : List ℕ) (a : ℕ) → k_drawn cs a ≡ length (maximal_within cs a)
unfolding k_drawn
drawn-tops cs a = refl

pub drawn_none : (a : ℕ) → k_drawn [] a ≡ 0
unfolding k_drawn maximal_within maximal keep some
drawn_none a = refl

among-inner : {x : ℕ} (cs : List ℕ) (a : ℕ) → Among x (inner cs a) → Among x cs × Within x a
unfolding inner
among-inner {x} cs a h = let k = among-keep (λ x. within x a) cs h in (k.0, within-true x a k.1)

inner-among : {x : ℕ} (cs : List ℕ) (a : ℕ) → Among x cs → Within x a → Among x (inner cs a)
unfolding inner
inner-among {x} cs a h w = keep-among (λ x. within x a) cs h (true-within x a w)

top_of_none : {x : ℕ} (cs : List ℕ) (a : ℕ) → Among x (inner cs a) → some (λ y. properly x y) (inner cs a) ≡ false → Top cs a x
top_of_none {x} cs a h e = record {
  among = k.0;
  inside = k.1;
  greatest = λ y m w v. same y (inner-among cs a m w) v (ℕ_discrete x y);
}
  where
    k : Among x cs × Within x a
    k = among-inner cs a h

    same : (y : ℕ) → Among y (inner cs a) → Within x y → Dec (x ≡ y) → x ≡ y
    same y m v (yes p) = p
    same y m v (no d) = absurd (true≢false (sym (some_of (λ y. properly x y) (inner cs a) m (true-properly x y v d)) ∙ e))

none_of_top : {x : ℕ} (cs : List ℕ) (a : ℕ) → Top cs a x → some (λ y. properly x y) (inner cs a) ≡ false
none_of_top {x} cs a t = go (some (λ y. properly x y) (inner cs a)) refl
  where
    go : (b : Bool) → some (λ y. properly x y) (inner cs a) ≡ b → b ≡ false
    go true e =
        let y = of_some (λ y. properly x y) (inner cs a) e in
        let k = among-inner cs a y.1 in
        let p = properly-true x y.0 y.2 in
        absurd (p.1 (t.greatest y.0 k.0 k.1 p.0))
    go false e = refl

pub among-tops : {x : ℕ} (cs : List ℕ) (a : ℕ) → Among x (maximal_within cs a) → Top cs a x
unfolding maximal_within maximal inner
among-tops {x} cs a h =
    let k = among-keep (λ x. not (some (λ y. properly x y) (inner cs a))) (inner cs a) h in
    top_of_none cs a k.0 (not-true (some (λ y. properly x y) (inner cs a)) k.1)

pub tops-among : {x : ℕ} (cs : List ℕ) (a : ℕ) → Top cs a x → Among x (maximal_within cs a)
unfolding maximal_within maximal inner
tops-among {x} cs a t =
    keep-among (λ x. not (some (λ y. properly x y) (inner cs a))) (inner cs a) (inner-among cs a t.among t.inside)
    (ap not (none_of_top cs a t))

pub tops-once : (cs : List ℕ) (a : ℕ) → NoneTwice cs → NoneTwice (maximal_within cs a)
unfolding maximal_within maximal inner
tops-once cs a p =
    none_twice_keep (λ x. not (some (λ y. properly x y) (inner cs a))) (inner cs a) (none_twice_keep (λ x. within x a) cs p)

-- ---- 01's count is the number of them

-- it is the length of any list that holds exactly the maximal clusters within A, each once
pub drawn-counts :
    (cs : List ℕ) (a : ℕ) (l : List ℕ) → NoneTwice cs → NoneTwice l → ((x : ℕ) → Top cs a x → Among x l) → ((x : ℕ) → Among x l → Top cs a x)
    → k_drawn cs a ≡ length l
drawn-counts cs a l p q f g =
    drawn-tops cs a ∙ same_length (maximal_within cs a) l (tops-once cs a p) q (λ x h. f x (among-tops cs a h)) (λ x h. tops-among cs a (g x h))

-- what a list with the same clusters has maximal within A
pub top_also : {a x : ℕ} {cs ds : List ℕ} → (Among x cs → Among x ds) → ((y : ℕ) → Among y ds → Within y a → Among y cs) → Top cs a x → Top ds a x
top_also f g t = record { among = f t.among; inside = t.inside; greatest = λ y m w v. t.greatest y (g y m w) w v }

-- the order of the clusters does not matter
pub drawn_same : (cs ds : List ℕ) (a : ℕ) → NoneTwice cs → NoneTwice ds → ((x : ℕ) → Among x cs → Among x ds) → ((x : ℕ) → Among x ds → Among x cs) → k_drawn cs a ≡ k_drawn ds a
drawn_same cs ds a p q f g =
    drawn-counts cs a (maximal_within ds a) p (tops-once ds a q) (λ x t. tops-among ds a (top_also (f x) (λ y m w. g y m) t))
    (λ x h. top_also (g x) (λ y m w. f y m) (among-tops ds a h))
    ∙ sym (drawn-tops ds a)
