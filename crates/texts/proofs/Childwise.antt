-- The text of a node child by child: a mark before each, the opening parenthesis before the first and a comma before the others, and its note at the end.
use Prim.Native.Nat.{ℕ, ◌-◌, ◌^◌, ◌≤◌, ◌<◌}
use mathlib.Core.Path.{◌≡◌, refl, sym, ap, ◌∙◌}
use mathlib.Core.Logic.{◌⊎◌, inl, inr}
use mathlib.Core.List.Memᴰ
use mathlib.Core.List.Memᴰ.{head as here}
use mathlib.Core.List.Memᴰ.{tail as there}
use mathlib.Core.List.{List, [], ◌∷◌, ◌++◌, map, append_assoc, append-nil}
use native.Mathlib.Decide.{ℕ_discrete}
use native.Mathlib.Omega.{arith}
use lib.ListN.{length}
use Rattle.clusters.specs.Sets.{Has, Within, union, size, lowest}
use Rattle.clusters.proofs.Members.{has-union, has_of_within, has_of_apart, within_of_has}
use Rattle.clusters.proofs.Sets.{within-le, within-below, within-union_left, union_some_left, union_minus_left}
use Rattle.clusters.proofs.Sizes.{size-within_lt}
use Rattle.clusters.proofs.LowestSpecies.{lowest-has, lowest_least, lowest-within}
use Rattle.trees.specs.Lists.{Among, Rising}
use Rattle.trees.specs.Tree.{Tree, cluster}
use Rattle.trees.specs.Drawn.{children, forest_over, node_over, drawn}
use Rattle.trees.proofs.Order.{rising-below}
use Rattle.trees.proofs.Children.{Hierarchy, Child, among-children, together, has-together, AllApart, cluster-below, child-apart, children-rising, children_all_apart, children-together, children_two}
use Rattle.trees.proofs.Drawing.{drawn-node, drawn-draws}
use Rattle.texts.specs.Writing.{node_with, others_with}

-- the texts of some children, with a mark before the first and a comma before each other
unfoldable pub list_text : (ℕ → List ℕ) → List (List ℕ) → (ℕ → Tree) → ℕ → List ℕ → List ℕ
list_text notes names draw mark [] = []
list_text notes names draw mark (b ∷ l) = mark ∷ (node_with notes names (draw b) ++ list_text notes names draw 44 l)

module _ (notes : ℕ → List ℕ) (names : List (List ℕ)) (draw : ℕ → Tree) where
  others-text : (b : ℕ) (l : List ℕ) → others_with notes names (forest_over draw b l) ≡ list_text notes names draw 44 (b ∷ l)
  unfolding others_with list_text
  others-text b [] = ap (λ (s : List ℕ). 44 ∷ s) (sym (append-nil (node_with notes names (draw b))))
  others-text b (c ∷ l) = ap (λ (s : List ℕ). 44 ∷ (node_with notes names (draw b) ++ s)) (others-text c l)

  node-text : (l : List ℕ) → 2 ≤ length l → node_with notes names (node_over draw l) ≡ list_text notes names draw 40 l ++ 41 ∷ notes (cluster (node_over draw l))
  unfolding node_with list_text
  node-text [] h = absurd (omega arith)
  node-text (b ∷ []) h = absurd (omega arith)
  node-text (b ∷ c ∷ l) h =
      ap (λ (s : List ℕ). 40 ∷ ((node_with notes names (draw b) ++ s) ++ 41 ∷ notes (cluster (node_over draw (b ∷ c ∷ l))))) (others-text c l)

-- what is left to write of the node of a: its last children, which together are `left`, the closing parenthesis and the note
pub record Rest (notes : ℕ → List ℕ) (names : List (List ℕ)) (cs : List ℕ) (a left mark : ℕ) (todo : List ℕ) : Type 0 where
  pub done : List ℕ
  pub ahead : List ℕ
  pub split : children cs a ≡ done ++ ahead
  pub species : left ≡ together ahead
  pub text : todo ≡ list_text notes names (λ b. drawn cs b) mark ahead ++ 41 ∷ notes a

-- x is the next child: its text comes next, and the rest is that without it
pub record Next (notes : ℕ → List ℕ) (names : List (List ℕ)) (cs : List ℕ) (a left mark : ℕ) (todo : List ℕ) (x : ℕ) : Type 0 where
  pub among : Among x cs
  pub smaller : size x < size a
  pub some : 1 ≤ x
  pub most : x ≤ left
  pub later : List ℕ
  pub text : todo ≡ mark ∷ (node_with notes names (drawn cs x) ++ later)
  pub rest : Rest notes names cs a (left - x) 44 later

-- ---- lists that end alike

among-map : {x : ℕ} (f : ℕ → ℕ) (l : List ℕ) → Among x l → Among (f x) (map f l)
among-map f [] h = absurd (Memᴰ.not-nil h)
among-map {x} f (y ∷ l) h = go (Memᴰ.cases_cons h) (λ k. among-map f l k)
  where
    go : (x ≡ y) ⊎ Among x l → (Among x l → Among (f x) (map f l)) → Among (f x) (f y ∷ map f l)
    go (inl e) ih = here (ap f e)
    go (inr k) ih = there (ih k)

rising_end : (l k : List ℕ) → Rising (map lowest (l ++ k)) → Rising (map lowest k)
unfolding Rising
rising_end [] k r = r
rising_end (x ∷ l) k r = rising_end l k r.1

apart_end : (l k : List ℕ) → AllApart (l ++ k) → AllApart k
unfolding AllApart
apart_end [] k r = r
apart_end (x ∷ l) k r = apart_end l k r.1

-- ---- the children of a cluster of more than one species

module _ {s : ℕ} {cs : List ℕ} (h : Hierarchy s cs) (notes : ℕ → List ℕ) (names : List (List ℕ)) {a : ℕ} (m : Among a cs) where
  -- at first all is left
  pub rest_all : (size a ≡ 1 → ⊥) → Rest notes names cs a a 40 (node_with notes names (drawn cs a))
  rest_all n = record {
    done = [];
    ahead = children cs a;
    split = refl;
    species = sym (children-together h m n);
    text = ap (λ (t : Tree). node_with notes names t) (drawn-node h m n) ∙ node-text notes names (λ b. drawn cs b) (children cs a) (children_two h m n)
        ∙ ap (λ (b : ℕ). list_text notes names (λ b. drawn cs b) 40 (children cs a) ++ 41 ∷ notes b) (ap cluster (sym (drawn-node h m n)) ∙ (drawn-draws h m).on.all);
  }

  module _ {left mark : ℕ} {todo : List ℕ} (r : Rest notes names cs a left mark todo) where
    ahead-child : {x : ℕ} → Among x r.ahead → Child cs a x
    ahead-child {x} k = among-children cs a (rw r.split (Memᴰ.append_right r.done k))

    pub rest-within : Within left a
    rest-within =
        rw r.species
        (within_of_has (together r.ahead) a
        (λ i k. let y = has-together r.ahead i k in has_of_within y.0 a i (ahead-child y.1).inside y.2))

    -- with no species left only the closing parenthesis and the note are
    pub rest_none : left ≡ 0 → todo ≡ 41 ∷ notes a
    unfolding list_text together
    rest_none z = go r.ahead (λ x k. ahead-child k) (sym z ∙ r.species) r.text
      where
        go :
            (l : List ℕ) → ((x : ℕ) → Among x l → Child cs a x) → 0 ≡ together l → todo ≡ list_text notes names (λ b. drawn cs b) mark l ++ 41 ∷ notes a
            → todo ≡ 41 ∷ notes a
        go [] c e t = t
        go (b ∷ l) c e t = let p = union_some_left (together l) (h.inside b (c b (here refl)).among).0 in absurd (omega arith)

  -- the next child is the one that holds the lowest species left
  lowest_first : {b : ℕ} (l : List ℕ) → ((x : ℕ) → Among x (b ∷ l) → Child cs a x) → Rising (map lowest (b ∷ l)) → Has b (lowest (together (b ∷ l)))
  unfolding together
  lowest_first {b} l c r = go (has-union b (together l) low (lowest-has (union_some_left (together l) some) below))
    where
      low : ℕ
      low = lowest (union b (together l))

      some : 1 ≤ b
      some = (h.inside b (c b (here refl)).among).0

      small : (x : ℕ) → Among x (b ∷ l) → x < 2 ^ 32
      small x k = cluster-below h (c x k).among

      below : union b (together l) < 2 ^ 32
      below =
          within-below a 32
          (within_of_has (union b (together l)) a (λ i k. let y = has-together (b ∷ l) i k in has_of_within y.0 a i (c y.0 y.1).inside y.2))
          (cluster-below h m)

      go : Has b low ⊎ Has (together l) low → Has b low
      go (inl k) = k
      go (inr k) =
          let y = has-together l low k in
          let p = lowest_least (small y.0 (there y.1)) y.2 in
          let q = lowest-within (small b (here refl)) below some (within-union_left b (together l)) in
          let o = rising-below (map lowest l) r (among-map lowest l y.1) in
          absurd (omega arith)

  same_child : {x b : ℕ} (i : ℕ) → Child cs a x → Child cs a b → Has x i → Has b i → x ≡ b
  same_child {x} {b} i c d p q = go (ℕ_discrete x b)
    where
      go : Dec (x ≡ b) → x ≡ b
      go (yes e) = e
      go (no n) = absurd (has_of_apart x b i (child-apart h c d n) p q)

  module _ {left mark : ℕ} {todo : List ℕ} (r : Rest notes names cs a left mark todo) where
    pub rest_next : {x : ℕ} → 1 ≤ left → Among x (children cs a) → Has x (lowest left) → Next notes names cs a left mark todo x
    unfolding list_text together AllApart
    rest_next {x} some k o = go r.ahead r.split (λ y i. ahead-child r i) r.species r.text
      where
        go :
            (l : List ℕ) → children cs a ≡ r.done ++ l → ((y : ℕ) → Among y l → Child cs a y) → left ≡ together l
            → todo ≡ list_text notes names (λ b. drawn cs b) mark l ++ 41 ∷ notes a → Next notes names cs a left mark todo x
        go [] e c u t = absurd (omega arith)
        go (b ∷ l) e c u t =
            let child = among-children cs a k in
            let same : x ≡ b =
            same_child (lowest left) child (c b (here refl)) o (rw u (lowest_first l c (rising_end r.done (b ∷ l) (rw e at (children-rising h a)))))
            in
            let part = apart_end r.done (b ∷ l) (rw e at (children_all_apart h a)) in
            record {
              among = child.among;
              smaller = size-within_lt x a child.inside child.other;
              some = (h.inside x child.among).0;
              most = rw (same, u) (within-le (within-union_left b (together l)));
              later = list_text notes names (λ b. drawn cs b) 44 l ++ 41 ∷ notes a;
              text = t
                  ∙ rw same
                  (ap (λ (z : List ℕ). mark ∷ z) (append_assoc (node_with notes names (drawn cs b)) (list_text notes names (λ b. drawn cs b) 44 l) (41 ∷ notes a)));
              rest = record {
                done = r.done ++ (b ∷ []);
                ahead = l;
                split = e ∙ sym (append_assoc r.done (b ∷ []) l);
                species = rw (same, u) (union_minus_left b part.0);
                text = refl;
              };
            }
