-- The first node whose count is not right: the nodes of a tree, the texts behind them and their ends go side by side.
use Prim.Native.Nat.{ℕ, suc, ◌-◌}
use native.Mathlib.Omega.{arith}
use mathlib.Core.Path.{◌≡◌, refl, sym, ap, ◌∙◌, subst₂}
use mathlib.Core.Logic.{◌⊎◌, inl, inr}
use mathlib.Core.Bool.{Bool, true, false, false≢true}
use Rattle.std.proofs.Common.{Option, Some, None}
use mathlib.Core.List.Memᴰ
use mathlib.Core.List.Memᴰ.{head as here}
use mathlib.Core.List.Memᴰ.{tail as further}
use mathlib.Core.List.{List, [], ◌∷◌, ◌++◌, map, Memᴰ}
use lib.ListN.{length}
use borrow.Author.Tests.{eqb-true, eq-eqb}
use Rattle.trees.specs.Tree.{Tree, cluster}
use Rattle.nodes.specs.Worth.{behind_of}
use Rattle.branches.specs.Ends.{End, count_in}
use Rattle.branches.proofs.Counts.{some_none}
use Rattle.branches.proofs.DrawnEnds.{EndsOf}
use Rattle.counts.specs.Promise.{is_right, place_unless, first_wrong}
use Rattle.counts.proofs.Comparing.{first_wrong_lem, first_right}

-- ---- a count that is right

pub right_count : (w : ℕ) (o : Option ℕ) → is_right w o ≡ true → o ≡ Some w
right_count w (Some count) is = ap (λ (n : ℕ). Some n) (eqb-true count w is)
right_count w None is = absurd (false≢true is)

pub count_right : (w : ℕ) (o : Option ℕ) → o ≡ Some w → is_right w o ≡ true
count_right w o is = rw is (eq-eqb w w refl)

count-wrong : (w : ℕ) (o : Option ℕ) → (o ≡ Some w → ⊥) → is_right w o ≡ false
count-wrong w o f = go (is_right w o) refl
  where
    go : (b : Bool) → is_right w o ≡ b → b ≡ false
    go true is = absurd (f (right_count w o is))
    go false is = refl

-- ---- side by side

pub data Beside (n : ℕ) : List Tree → List (List ℕ) → List End → Type 0 where
  no_node : Beside n [] [] []
  one_node :
      {u : Tree} {x : List ℕ} {e : End} {us : List Tree} {xs : List (List ℕ)} {es : List End}
      → e.behind ≡ behind_of u → e.place ≡ n - length x → Beside n us xs es → Beside n (u ∷ us) (x ∷ xs) (e ∷ es)

pub ends_beside : (n : ℕ) {us : List Tree} {xs : List (List ℕ)} {es : List End} → EndsOf n us xs es → Beside n us xs es
ends_beside n {us} {xs} {es} ends = go us xs es ends.behind ends.places
  where
    go :
        (us : List Tree) (xs : List (List ℕ)) (es : List End) → map (λ e. e.behind) es ≡ map behind_of us → map (λ e. e.place) es ≡ map (λ x. n - length x) xs
        → Beside n us xs es
    go [] [] [] b p = no_node
    go (u ∷ us) (x ∷ xs) (e ∷ es) b p =
        let own : e.behind ≡ behind_of u = cc in
        let others : map (λ e. e.behind) es ≡ map behind_of us = cc in
        let place : e.place ≡ n - length x = cc in
        let places : map (λ e. e.place) es ≡ map (λ x. n - length x) xs = cc in
        one_node own place (go us xs es others places)
    go [] (x ∷ xs) [] b p = absurd (let z = ap length p in omega arith)
    go (u ∷ us) [] (e ∷ es) b p = absurd (let z = ap length p in omega arith)
    go [] [] (e ∷ es) b p = absurd (let z = ap length b in omega arith)
    go [] (x ∷ xs) (e ∷ es) b p = absurd (let z = ap length b in omega arith)
    go (u ∷ us) [] [] b p = absurd (let z = ap length b in omega arith)
    go (u ∷ us) (x ∷ xs) [] b p = absurd (let z = ap length b in omega arith)

-- the first of the nodes, before which stand others, whose count is not right; n bytes are left at first
pub record FirstAt (w : ℕ → ℕ) (n : ℕ) (us : List Tree) (xs : List (List ℕ)) (place : ℕ) : Type 0 where
  pub before : List Tree
  pub node : Tree
  pub after : List Tree
  pub nodes : us ≡ before ++ (node ∷ after)
  pub right : (u : Tree) → Memᴰ u before → count_in (behind_of u) ≡ Some (w (cluster u))
  pub wrong : count_in (behind_of node) ≡ Some (w (cluster node)) → ⊥
  pub behind_before : List (List ℕ)
  pub behind : List ℕ
  pub behind_after : List (List ℕ)
  pub texts : xs ≡ behind_before ++ (behind ∷ behind_after)
  pub as_many : length behind_before ≡ length before
  pub there : place ≡ n - length behind

pub some_is : {a b : ℕ} → Some a ≡ Some b → a ≡ b
some_is e = cc

-- ---- the first wrong one is the first whose count is not right

module _ (w : ℕ → ℕ) {n : ℕ} where
  pub all_right : {us : List Tree} {xs : List (List ℕ)} {es : List End} → Beside n us xs es
      → ((u : Tree) → Memᴰ u us → count_in (behind_of u) ≡ Some (w (cluster u))) → first_wrong w (map cluster us) es ≡ None
  unfolding first_wrong
  all_right no_node right = refl
  all_right (one_node {u = u} {e = e} own place others) right =
      rw (count_right (w (cluster u)) (count_in e.behind) (ap count_in own ∙ right u (here refl))) (all_right others (λ v m. right v (further m)))

  pub none_wrong : {us : List Tree} {xs : List (List ℕ)} {es : List End} → Beside n us xs es → first_wrong w (map cluster us) es ≡ None
      → (u : Tree) → Memᴰ u us → count_in (behind_of u) ≡ Some (w (cluster u))
  unfolding first_wrong
  none_wrong no_node is v m = absurd (Memᴰ.not-nil m)
  none_wrong (one_node {u = u} {e = e} {us = us} {es = es} own place others) is v m =
      go (is_right (w (cluster u)) (count_in e.behind)) refl is (Memᴰ.cases_cons m) (λ z k. none_wrong others z v k)
    where
      go : (b : Bool) → is_right (w (cluster u)) (count_in e.behind) ≡ b → place_unless b e.place (first_wrong w (map cluster us) es) ≡ None
          → (v ≡ u) ⊎ Memᴰ v us → (first_wrong w (map cluster us) es ≡ None → Memᴰ v us → count_in (behind_of v) ≡ Some (w (cluster v)))
          → count_in (behind_of v) ≡ Some (w (cluster v))
      go true r z (inl same) later = rw same (sym (ap count_in own) ∙ right_count (w (cluster u)) (count_in e.behind) r)
      go true r z (inr k) later = later z k
      go false r z c later = absurd (some_none z)

  pub first_at : {us : List Tree} {xs : List (List ℕ)} {es : List End} {p : ℕ} → Beside n us xs es → first_wrong w (map cluster us) es ≡ Some p
      → FirstAt w n us xs p
  unfolding first_wrong
  first_at no_node is = absurd (some_none (sym is))
  first_at {p = p} (one_node {u = u} {x = x} {e = e} {us = us} {xs = xs} {es = es} own place others) is =
      go (is_right (w (cluster u)) (count_in e.behind)) refl is (λ z. first_at others z)
    where
      go : (b : Bool) → is_right (w (cluster u)) (count_in e.behind) ≡ b → place_unless b e.place (first_wrong w (map cluster us) es) ≡ Some p
          → (first_wrong w (map cluster us) es ≡ Some p → FirstAt w n us xs p) → FirstAt w n (u ∷ us) (x ∷ xs) p
      go true r z later =
          let f = later z in
          record {
            before = u ∷ f.before;
            node = f.node;
            after = f.after;
            nodes = ap (λ (l : List Tree). u ∷ l) f.nodes;
            right = λ v m. either (f.right v) (Memᴰ.cases_cons m);
            wrong = f.wrong;
            behind_before = x ∷ f.behind_before;
            behind = f.behind;
            behind_after = f.behind_after;
            texts = ap (λ (l : List (List ℕ)). x ∷ l) f.texts;
            as_many = ap suc f.as_many;
            there = f.there;
          }
        where
          either : {v : Tree} {l : List Tree} → (Memᴰ v l → count_in (behind_of v) ≡ Some (w (cluster v))) → (v ≡ u) ⊎ Memᴰ v l
              → count_in (behind_of v) ≡ Some (w (cluster v))
          either later (inl same) = rw same (sym (ap count_in own) ∙ right_count (w (cluster u)) (count_in e.behind) r)
          either later (inr m) = later m
      go false r z later = record {
        before = [];
        node = u;
        after = us;
        nodes = refl;
        right = λ v m. absurd (Memᴰ.not-nil m);
        wrong = λ is. false≢true (sym r ∙ count_right (w (cluster u)) (count_in e.behind) (ap count_in own ∙ is));
        behind_before = [];
        behind = x;
        behind_after = xs;
        texts = refl;
        as_many = refl;
        there = sym (some_is z) ∙ place;
      }

  pub at_first :
      {us : List Tree} {xs : List (List ℕ)} {es : List End} {p : ℕ} → Beside n us xs es → FirstAt w n us xs p → first_wrong w (map cluster us) es ≡ Some p
  at_first {us} {xs} {es} {p} beside f =
      let split : Beside n (f.before ++ (f.node ∷ f.after)) (f.behind_before ++ (f.behind ∷ f.behind_after)) es
      = subst₂ (λ (l : List Tree) (k : List (List ℕ)). Beside n l k es) f.nodes f.texts beside in
      rw (f.nodes, f.there) (go f.before f.behind_before split f.as_many f.right)
    where
      go : {es : List End} (before : List Tree) (firsts : List (List ℕ)) → Beside n (before ++ (f.node ∷ f.after)) (firsts ++ (f.behind ∷ f.behind_after)) es
          → length firsts ≡ length before → ((u : Tree) → Memᴰ u before → count_in (behind_of u) ≡ Some (w (cluster u)))
          → first_wrong w (map cluster (before ++ (f.node ∷ f.after))) es ≡ Some (n - length f.behind)
      go [] [] (one_node {e = e} {es = es} own place others) many right =
          first_wrong_lem w (cluster f.node) (map cluster f.after) e es
          (count-wrong (w (cluster f.node)) (count_in e.behind) (λ is. f.wrong (sym (ap count_in own) ∙ is)))
          ∙ ap (λ (q : ℕ). Some q) place
      go (u ∷ before) (x ∷ firsts) (one_node {e = e} {es = es} own place others) many right =
          first_right w (cluster u) (map cluster (before ++ (f.node ∷ f.after))) e es
          (count_right (w (cluster u)) (count_in e.behind) (ap count_in own ∙ right u (here refl)))
          ∙ go before firsts others (omega arith) (λ v m. right v (further m))
      go [] (x ∷ firsts) b many right = absurd (omega arith)
      go (u ∷ before) [] b many right = absurd (omega arith)
