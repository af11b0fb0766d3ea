-- The nodes that #101 counts: those that do not lie within A and have a child that does; and that their number does not depend on the order of a list.
use Prim.Native.Nat.{ℕ, ◌+◌, ◌≤◌}
use mathlib.Core.Path.{◌≡◌, refl, sym, ap, ap₂, ◌∙◌}
use mathlib.Core.Logic.{inl, inr}
use mathlib.Core.Bool.{Bool, true, false}
use mathlib.Core.List.Memᴰ.{head as here}
use mathlib.Core.List.Memᴰ.{tail as there}
use mathlib.Core.List.{List, [], ◌∷◌, ◌++◌}
use native.Mathlib.Omega.{arith}
use lib.ListN.{length, length-append}
use Rattle.clusters.specs.Sets.{Within, within}
use Rattle.clusters.proofs.Sets.{within_trans, within-apart, apart-within}
use Rattle.trees.specs.Lists.{Among, NoneTwice, keep_if, keep}
use Rattle.trees.specs.Records.{Nested}
use Rattle.trees.specs.Valid.{among, every}
use Rattle.trees.specs.Drawn.{children}
use Rattle.trees.proofs.Booleans.{never_both, unless}
use Rattle.trees.proofs.Listing.{keep_append, keep-among, among-keep, some_of, of_some, none_twice_keep}
use Rattle.trees.proofs.Nodes.{AllNested}
use Rattle.trees.proofs.Children.{Child, among-children, children-among}
use Rattle.trees.proofs.ValidTest.{Tells, tells_among, tells_every, tells_within}
use Rattle.weights.specs.Count.{maximal_within, holds_maximal, k_of, one_or}
use Rattle.weights.proofs.Tops.{Top, among-tops, tops-among, same_length}

-- ---- which nodes are counted

-- p does not lie within A, and a child of p does
pub record Joins (cs : List ℕ) (a p : ℕ) : Type 0 where
  pub outside : Within p a → ⊥
  pub held : ℕ
  pub child : Child cs p held
  pub inside : Within held a

-- clusters of a tree: each has a species, and any two are disjoint or one holds the other
pub record Clusters (cs : List ℕ) : Type 0 where
  pub some : (x : ℕ) → Among x cs → 1 ≤ x
  pub nested : AllNested cs

module _ (cs : List ℕ) (a p : ℕ) where
  -- a child of p that is maximal within A shows that p does not lie there
  joins_of_top : Among p cs → (x : ℕ) → Child cs p x → Top cs a x → Joins cs a p
  joins_of_top m x c t = record {
    outside = λ w. c.other (t.greatest p m w c.inside);
    held = x;
    child = c;
    inside = t.inside;
  }

  -- and where p does not, each of its children that lies within A is maximal there
  top_of_joins : Clusters cs → Among p cs → (j : Joins cs a p) → Top cs a j.held
  top_of_joins h m j = record {
    among = j.child.among;
    inside = j.inside;
    greatest = λ y k w v. at y k w v (h.nested y p k m);
  }
    where
      at : (y : ℕ) → Among y cs → Within y a → Within j.held y → Nested y p → j.held ≡ y
      at y k w v (inl d) =
          let none = within-apart p j.child.inside (apart-within j.held y p v d) in
          absurd (omega (arith, h.some j.held j.child.among))
      at y k w v (inr (inl u)) =
          j.child.greatest y k u (λ e. j.outside (rw e at w)) v
      at y k w v (inr (inr u)) = absurd (j.outside (within_trans p y a u w))

  -- the test of the definition says just this
  pub tells_joins : Clusters cs → Among p cs → Tells (holds_maximal cs a p) (Joins cs a p)
  unfolding holds_maximal
  tells_joins h m = record { holds = holds; told = told }
    where
      holds : holds_maximal cs a p ≡ true → Joins cs a p
      holds e =
          let x = of_some (λ x. among x (maximal_within cs a)) (children cs p) e in
          joins_of_top m x.0 (among-children cs p x.1) (among-tops cs a ((tells_among x.0 (maximal_within cs a)).holds x.2))

      told : Joins cs a p → holds_maximal cs a p ≡ true
      told j =
          some_of (λ x. among x (maximal_within cs a)) (children cs p) (children-among cs p j.child)
          ((tells_among j.held (maximal_within cs a)).told (tops-among cs a (top_of_joins h m j)))

-- two tests that say the same are equal
pub tells_same : {b c : Bool} {P Q : Type 0} → Tells b P → Tells c Q → (P → Q) → (Q → P) → b ≡ c
tells_same {b} {c} p q f g = go b c refl refl
  where
    go : (b' c' : Bool) → b ≡ b' → c ≡ c' → b' ≡ c'
    go true true e d = refl
    go true false e d = absurd (never_both c (q.told (f (p.holds e))) d)
    go false true e d = absurd (never_both b (p.told (g (q.holds d))) e)
    go false false e d = refl

-- clusters that have the same below p agree on it
pub joins_local :
    {cs ds : List ℕ} {a p : ℕ} → ((x : ℕ) → Among x cs → Within x p → Among x ds) → ((x : ℕ) → Among x ds → Within x p → Among x cs)
    → Joins cs a p → Joins ds a p
joins_local f g j = record {
  outside = j.outside;
  held = j.held;
  child = record {
    among = f j.held j.child.among j.child.inside;
    inside = j.child.inside;
    other = j.child.other;
    greatest = λ y m w d v. j.child.greatest y (g y m w) w d v;
  };
  inside = j.inside;
}

-- ---- how many they are

-- how many of a list of clusters are counted, their children looked for in cs
unfoldable pub joining : List ℕ → ℕ → List ℕ → ℕ
joining cs a l = length (keep (λ p. holds_maximal cs a p) l)

pub joining_none : (cs : List ℕ) (a : ℕ) → joining cs a [] ≡ 0
unfolding joining keep
joining_none cs a = refl

pub joining_append : (cs : List ℕ) (a : ℕ) (l k : List ℕ) → joining cs a (l ++ k) ≡ joining cs a l + joining cs a k
unfolding joining
joining_append cs a l k =
    ap length (keep_append (λ p. holds_maximal cs a p) l k)
    ∙ length-append (keep (λ p. holds_maximal cs a p) l) (keep (λ p. holds_maximal cs a p) k)

-- one more where the cluster is counted
pub joining-counted : (cs : List ℕ) (a p : ℕ) → holds_maximal cs a p ≡ true → joining cs a (p ∷ []) ≡ 1
unfolding joining keep
joining-counted cs a p e = rw e refl

pub joining-passed : (cs : List ℕ) (a p : ℕ) → holds_maximal cs a p ≡ false → joining cs a (p ∷ []) ≡ 0
unfolding joining keep
joining-passed cs a p e = rw e refl

pub keep_same : (test other : ℕ → Bool) (l : List ℕ) → ((x : ℕ) → Among x l → test x ≡ other x) → keep test l ≡ keep other l
unfolding keep
keep_same test other [] h = refl
keep_same test other (x ∷ l) h = ap₂ (λ (b : Bool) (r : List ℕ). keep_if b x r) (h x (here refl)) (keep_same test other l (λ y m. h y (there m)))

-- what stands elsewhere than below the clusters of a list does not matter to it
pub joining_local :
    (cs ds : List ℕ) (a : ℕ) (l : List ℕ) → Clusters cs → Clusters ds
    → ((p : ℕ) → Among p l → Among p cs × Among p ds)
    → ((p x : ℕ) → Among p l → Within x p → Among x cs → Among x ds) → ((p x : ℕ) → Among p l → Within x p → Among x ds → Among x cs)
    → joining cs a l ≡ joining ds a l
unfolding joining
joining_local cs ds a l h k both f g =
    ap length (keep_same (λ p. holds_maximal cs a p) (λ p. holds_maximal ds a p) l
    (λ p m. tells_same (tells_joins cs a p h (both p m).0) (tells_joins ds a p k (both p m).1)
    (joins_local (λ x i w. f p x m w i) (λ x i w. g p x m w i))
    (joins_local (λ x i w. g p x m w i) (λ x i w. f p x m w i))))

-- a cluster within A is not counted
pub passed-inside : (cs : List ℕ) (a p : ℕ) → Clusters cs → Among p cs → Within p a → holds_maximal cs a p ≡ false
passed-inside cs a p h m w = unless (holds_maximal cs a p) (λ e. ((tells_joins cs a p h m).holds e).outside w)

-- nothing is counted among clusters within A
pub joining-inside : (cs : List ℕ) (a : ℕ) (l : List ℕ) → Clusters cs → ((p : ℕ) → Among p l → Among p cs × Within p a) → joining cs a l ≡ 0
joining-inside cs a [] h f = joining_none cs a
joining-inside cs a (p ∷ l) h f =
    let first = f p (here refl) in
    joining_append cs a (p ∷ []) l
    ∙ ap₂ ◌+◌ (joining-passed cs a p (passed-inside cs a p h first.0 first.1)) (joining-inside cs a l h (λ q m. f q (there m)))

-- the order of a list does not matter
joining-reordered :
    (cs ds : List ℕ) (a : ℕ) → NoneTwice cs → NoneTwice ds → ((x : ℕ) → Among x cs → Among x ds) → ((x : ℕ) → Among x ds → Among x cs)
    → joining ds a cs ≡ joining ds a ds
unfolding joining
joining-reordered cs ds a p q f g =
    same_length (keep (λ x. holds_maximal ds a x) cs) (keep (λ x. holds_maximal ds a x) ds) (none_twice_keep (λ x. holds_maximal ds a x) cs p)
    (none_twice_keep (λ x. holds_maximal ds a x) ds q)
    (λ x m. let k = among-keep (λ x. holds_maximal ds a x) cs m in keep-among (λ x. holds_maximal ds a x) ds (f x k.0) k.1)
    (λ x m. let k = among-keep (λ x. holds_maximal ds a x) ds m in keep-among (λ x. holds_maximal ds a x) cs (g x k.0) k.1)

-- ---- k

-- k is one, or the number of nodes that are counted
pub k_either : (cs : List ℕ) (a : ℕ) → k_of cs a ≡ one_or (every (λ x. within x a) cs) (joining cs a cs)
unfolding k_of joining
k_either cs a = refl

pub k_held : (cs : List ℕ) (a : ℕ) → every (λ x. within x a) cs ≡ true → k_of cs a ≡ 1
k_held cs a e = k_either cs a ∙ ap (λ (b : Bool). one_or b (joining cs a cs)) e

-- the order of the clusters does not matter
pub k_same :
    (cs ds : List ℕ) (a : ℕ) → Clusters ds → NoneTwice cs → NoneTwice ds → ((x : ℕ) → Among x cs → Among x ds) → ((x : ℕ) → Among x ds → Among x cs)
    → k_of cs a ≡ k_of ds a
k_same cs ds a h p q f g =
    k_either cs a ∙ ap₂ one_or held (joining_local cs ds a cs h' h (λ x m. (m, f x m)) (λ y x m w k. f x k) (λ y x m w k. g x k) ∙ joining-reordered cs ds a p q f g) ∙ sym (k_either ds a)
  where
    h' : Clusters cs
    h' = record { some = λ x m. h.some x (f x m); nested = λ x y m k. h.nested x y (f x m) (f y k) }

    held : every (λ x. within x a) cs ≡ every (λ x. within x a) ds
    held =
        tells_same (tells_every (λ x. within x a) cs (λ x. tells_within x a)) (tells_every (λ x. within x a) ds (λ x. tells_within x a))
        (λ w x m. w x (g x m)) (λ w x m. w x (f x m))
