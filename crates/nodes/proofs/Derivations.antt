-- Induction over the derivations of a node and of its children, which are derived together; and how each can have been derived.
use Prim.Native.Nat.{ℕ, suc, ◌≤◌}
use mathlib.Core.Path.{◌≡◌, refl}
use mathlib.Core.Logic.{◌⊎◌, inl, inr}
use mathlib.Core.List.{List, [], ◌∷◌}
use native.Mathlib.Omega.{arith}
use Rattle.labels.specs.Spelling.{Spells}
use Rattle.trees.specs.Tree.{Tree, Forest}
use Rattle.trees.specs.Tree.Tree.{leaf, node}
use Rattle.trees.specs.Tree.Forest.{last, more}
use Rattle.nodes.specs.Grammar.{Rules, Blanks, Numbers, Inner, Node, Children}
use Rattle.nodes.specs.Grammar.Node.{a_leaf, an_inner, a_single}
use Rattle.nodes.specs.Grammar.Children.{the_last, with_more}

-- two nodes are wanted where a single one is not enough
pub two_wanted : 2 ≤ 1 → ⊥
two_wanted l = omega arith

-- what carries P over the nodes, and Q over the children behind a first comma: one step for each rule
pub record Steps (R : Rules) (P : ℕ → List ℕ → Tree → List ℕ → Type 0) (Q : ℕ → List ℕ → Forest → List ℕ → Type 0) : Type 0 where
  pub at_leaf :
      (k i : ℕ) (w d b s s₁ s₂ rest : List ℕ)
      → Blanks s s₁ → Spells w s₁ s₂ → R.leaf_name w i s₁ s₂ → Numbers R d b s₂ rest
      → P k s (leaf i (record { name = []; distance = d; support = b })) rest
  pub at_inner :
      (k : ℕ) (t : Tree) (f : Forest) (w d b s s₁ s₂ s₃ s₄ s₅ rest : List ℕ)
      → Blanks s (40 ∷ s₁) → Node R k s₁ t s₂ → P k s₁ t s₂ → Blanks s₂ (44 ∷ s₃) → Children R k s₃ f s₄ → Q k s₃ f s₄ → Inner R w s₄ s₅
      → Numbers R d b s₅ rest
      → P (suc k) s (node t f (record { name = w; distance = d; support = b })) rest
  pub at_single :
      (k : ℕ) (t : Tree) (w d b s s₁ s₂ s₃ s₄ rest : List ℕ)
      → R.fewest ≤ 1 → Blanks s (40 ∷ s₁) → Node R k s₁ t s₂ → P k s₁ t s₂ → Blanks s₂ (41 ∷ s₃) → Inner R w s₃ s₄ → Numbers R d b s₄ rest
      → P (suc k) s t rest
  pub at_last : (k : ℕ) (t : Tree) (s s₁ rest : List ℕ) → Node R k s t s₁ → P k s t s₁ → Blanks s₁ (41 ∷ rest) → Q k s (last t) rest
  pub at_more :
      (k : ℕ) (t : Tree) (f : Forest) (s s₁ s₂ rest : List ℕ)
      → Node R k s t s₁ → P k s t s₁ → Blanks s₁ (44 ∷ s₂) → Children R k s₂ f rest → Q k s₂ f rest → Q k s (more t f) rest

module _ (R : Rules) (P : ℕ → List ℕ → Tree → List ℕ → Type 0) (Q : ℕ → List ℕ → Forest → List ℕ → Type 0) (steps : Steps R P Q) where
  pub over_node : {k : ℕ} {s : List ℕ} {t : Tree} {rest : List ℕ} → Node R k s t rest → P k s t rest
  over_node d =
      elim d as (λ k s t rest d. P k s t rest) (λ k s f rest d. Q k s f rest) [
        | a_leaf {k = k} {i = i} {w = w} {d = d} {b = b} {s = s} {s₁ = s₁} {s₂ = s₂} {rest = rest} bl r known behind ↦
            steps.at_leaf k i w d b s s₁ s₂ rest bl r known behind
        | an_inner {k = k} {t = t} {f = f} {w = w} {d = d} {b = b} {s = s} {s₁ = s₁} {s₂ = s₂} {s₃ = s₃} {s₄ = s₄} {s₅ = s₅} {rest = rest} bl (first → p)
            comma (others → q) inner behind ↦
            steps.at_inner k t f w d b s s₁ s₂ s₃ s₄ s₅ rest bl first p comma others q inner behind
        | a_single {k = k} {t = t} {w = w} {d = d} {b = b} {s = s} {s₁ = s₁} {s₂ = s₂} {s₃ = s₃} {s₄ = s₄} {rest = rest} enough bl (only → p) closes inner behind ↦
            steps.at_single k t w d b s s₁ s₂ s₃ s₄ rest enough bl only p closes inner behind
        | the_last {k = k} {t = t} {s = s} {s₁ = s₁} {rest = rest} (only → p) closes ↦ steps.at_last k t s s₁ rest only p closes
        | with_more {k = k} {t = t} {f = f} {s = s} {s₁ = s₁} {s₂ = s₂} {rest = rest} (first → p) comma (others → q) ↦
            steps.at_more k t f s s₁ s₂ rest first p comma others q
      ]

  pub over_children : {k : ℕ} {s : List ℕ} {f : Forest} {rest : List ℕ} → Children R k s f rest → Q k s f rest
  over_children d =
      elim d as (λ k s t rest d. P k s t rest) (λ k s f rest d. Q k s f rest) [
        | a_leaf {k = k} {i = i} {w = w} {d = d} {b = b} {s = s} {s₁ = s₁} {s₂ = s₂} {rest = rest} bl r known behind ↦
            steps.at_leaf k i w d b s s₁ s₂ rest bl r known behind
        | an_inner {k = k} {t = t} {f = f} {w = w} {d = d} {b = b} {s = s} {s₁ = s₁} {s₂ = s₂} {s₃ = s₃} {s₄ = s₄} {s₅ = s₅} {rest = rest} bl (first → p)
            comma (others → q) inner behind ↦
            steps.at_inner k t f w d b s s₁ s₂ s₃ s₄ s₅ rest bl first p comma others q inner behind
        | a_single {k = k} {t = t} {w = w} {d = d} {b = b} {s = s} {s₁ = s₁} {s₂ = s₂} {s₃ = s₃} {s₄ = s₄} {rest = rest} enough bl (only → p) closes inner behind ↦
            steps.at_single k t w d b s s₁ s₂ s₃ s₄ rest enough bl only p closes inner behind
        | the_last {k = k} {t = t} {s = s} {s₁ = s₁} {rest = rest} (only → p) closes ↦ steps.at_last k t s s₁ rest only p closes
        | with_more {k = k} {t = t} {f = f} {s = s} {s₁ = s₁} {s₂ = s₂} {rest = rest} (first → p) comma (others → q) ↦
            steps.at_more k t f s s₁ s₂ rest first p comma others q
      ]

-- ---- how a node can have been derived, where a parenthesis has two nodes or more

pub record LeafForm (R : Rules) (s : List ℕ) (t : Tree) (rest : List ℕ) : Type 0 where
  pub i : ℕ
  pub w : List ℕ
  pub d : List ℕ
  pub b : List ℕ
  pub s₁ : List ℕ
  pub s₂ : List ℕ
  pub gap : Blanks s s₁
  pub named : Spells w s₁ s₂
  pub known : R.leaf_name w i s₁ s₂
  pub behind : Numbers R d b s₂ rest
  pub is : t ≡ leaf i (record { name = []; distance = d; support = b })

pub record InnerForm (R : Rules) (s : List ℕ) (t : Tree) (rest : List ℕ) : Type 0 where
  pub room : ℕ
  pub child : Tree
  pub forest : Forest
  pub w : List ℕ
  pub d : List ℕ
  pub b : List ℕ
  pub s₁ : List ℕ
  pub s₂ : List ℕ
  pub s₃ : List ℕ
  pub s₄ : List ℕ
  pub s₅ : List ℕ
  pub opens : Blanks s (40 ∷ s₁)
  pub first : Node R room s₁ child s₂
  pub comma : Blanks s₂ (44 ∷ s₃)
  pub others : Children R room s₃ forest s₄
  pub inner : Inner R w s₄ s₅
  pub behind : Numbers R d b s₅ rest
  pub is : t ≡ node child forest (record { name = w; distance = d; support = b })

pub record LastForm (R : Rules) (room : ℕ) (s : List ℕ) (f : Forest) (rest : List ℕ) : Type 0 where
  pub child : Tree
  pub s₁ : List ℕ
  pub only : Node R room s child s₁
  pub closes : Blanks s₁ (41 ∷ rest)
  pub is : f ≡ last child

pub record MoreForm (R : Rules) (room : ℕ) (s : List ℕ) (f : Forest) (rest : List ℕ) : Type 0 where
  pub child : Tree
  pub forest : Forest
  pub s₁ : List ℕ
  pub s₂ : List ℕ
  pub first : Node R room s child s₁
  pub comma : Blanks s₁ (44 ∷ s₂)
  pub others : Children R room s₂ forest rest
  pub is : f ≡ more child forest

module _ (R : Rules) (two : R.fewest ≤ 1 → ⊥) where
  abbrev pub NodeForm : ℕ → List ℕ → Tree → List ℕ → Type 0
  NodeForm k s t rest = LeafForm R s t rest ⊎ InnerForm R s t rest

  abbrev pub ForestForm : ℕ → List ℕ → Forest → List ℕ → Type 0
  ForestForm k s f rest = LastForm R k s f rest ⊎ MoreForm R k s f rest

  form-steps : Steps R NodeForm ForestForm
  form-steps =
      record {
        at_leaf = λ k i w d b s s₁ s₂ rest gap r known behind.
            inl (record { i = i; w = w; d = d; b = b; s₁ = s₁; s₂ = s₂; gap = gap; named = r; known = known; behind = behind; is = refl });
        at_inner = λ k t f w d b s s₁ s₂ s₃ s₄ s₅ rest bl first p comma others q inner behind.
            inr (record {
              room = k;
              child = t;
              forest = f;
              w = w;
              d = d;
              b = b;
              s₁ = s₁;
              s₂ = s₂;
              s₃ = s₃;
              s₄ = s₄;
              s₅ = s₅;
              opens = bl;
              first = first;
              comma = comma;
              others = others;
              inner = inner;
              behind = behind;
              is = refl;
            });
        at_single = λ k t w d b s s₁ s₂ s₃ s₄ rest enough bl only p closes inner behind. absurd (two enough);
        at_last = λ k t s s₁ rest only p closes. inl (record { child = t; s₁ = s₁; only = only; closes = closes; is = refl });
        at_more = λ k t f s s₁ s₂ rest first p comma others q.
            inr (record { child = t; forest = f; s₁ = s₁; s₂ = s₂; first = first; comma = comma; others = others; is = refl });
      }

  pub node-form : {k : ℕ} {s rest : List ℕ} {t : Tree} → Node R k s t rest → NodeForm k s t rest
  node-form d = over_node R NodeForm ForestForm form-steps d

  pub children-form : {k : ℕ} {s rest : List ℕ} {f : Forest} → Children R k s f rest → ForestForm k s f rest
  children-form d = over_children R NodeForm ForestForm form-steps d
