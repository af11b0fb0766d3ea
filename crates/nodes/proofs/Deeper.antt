-- What is drawn with at most k parentheses open at once is drawn where more may be open.
use Prim.Native.Nat.{ℕ, zero, suc, ◌≤◌}
use mathlib.Core.List.{List, ◌∷◌}
use native.Mathlib.Omega.{arith}
use Rattle.trees.specs.Tree.{Tree, Forest}
use Rattle.trees.specs.Tree.Tree.{node}
use Rattle.nodes.specs.Grammar.{Rules, Blanks, Numbers, Inner, Node, Children, Text}
use Rattle.nodes.specs.Grammar.Node.{a_leaf, an_inner, a_single}
use Rattle.nodes.specs.Grammar.Children.{the_last, with_more}
use Rattle.nodes.specs.Grammar.Text.{text}
use Rattle.nodes.proofs.Derivations.{Steps, over_node, over_children}

abbrev Deeper : Rules → ℕ → List ℕ → Tree → List ℕ → Type 0
Deeper R k s t rest = (m : ℕ) → k ≤ m → Node R m s t rest

abbrev AllDeeper : Rules → ℕ → List ℕ → Forest → List ℕ → Type 0
AllDeeper R k s f rest = (m : ℕ) → k ≤ m → Children R m s f rest

inner_deeper :
    {R : Rules} {k : ℕ} {t : Tree} {f : Forest} {w d b s s₁ s₂ s₃ s₄ s₅ rest : List ℕ}
    → Blanks s (40 ∷ s₁) → Deeper R k s₁ t s₂ → Blanks s₂ (44 ∷ s₃) → AllDeeper R k s₃ f s₄ → Inner R w s₄ s₅ → Numbers R d b s₅ rest
    → Deeper R (suc k) s (node t f (record { name = w; distance = d; support = b })) rest
inner_deeper bl p comma q inner behind zero l = absurd (omega arith)
inner_deeper bl p comma q inner behind (suc m) l = an_inner bl (p m (omega arith)) comma (q m (omega arith)) inner behind

single_deeper :
    {R : Rules} {k : ℕ} {t : Tree} {w d b s s₁ s₂ s₃ s₄ rest : List ℕ}
    → R.fewest ≤ 1 → Blanks s (40 ∷ s₁) → Deeper R k s₁ t s₂ → Blanks s₂ (41 ∷ s₃) → Inner R w s₃ s₄ → Numbers R d b s₄ rest → Deeper R (suc k) s t rest
single_deeper enough bl p closes inner behind zero l = absurd (omega arith)
single_deeper enough bl p closes inner behind (suc m) l = a_single enough bl (p m (omega arith)) closes inner behind

deeper_steps : (R : Rules) → Steps R (Deeper R) (AllDeeper R)
deeper_steps R =
    record {
      at_leaf = λ k i w d b s s₁ s₂ rest bl r known behind m l. a_leaf bl r known behind;
      at_inner = λ k t f w d b s s₁ s₂ s₃ s₄ s₅ rest bl first p comma others q inner behind m l. inner_deeper bl p comma q inner behind m l;
      at_single = λ k t w d b s s₁ s₂ s₃ s₄ rest enough bl only p closes inner behind m l. single_deeper enough bl p closes inner behind m l;
      at_last = λ k t s s₁ rest only p closes m l. the_last (p m l) closes;
      at_more = λ k t f s s₁ s₂ rest first p comma others q m l. with_more (p m l) comma (q m l);
    }

pub node_deeper : (R : Rules) (m : ℕ) {k : ℕ} {t : Tree} {s rest : List ℕ} → k ≤ m → Node R k s t rest → Node R m s t rest
node_deeper R m l d = over_node R (Deeper R) (AllDeeper R) (deeper_steps R) d m l

pub children_deeper : (R : Rules) (m : ℕ) {k : ℕ} {f : Forest} {s rest : List ℕ} → k ≤ m → Children R k s f rest → Children R m s f rest
children_deeper R m l d = over_children R (Deeper R) (AllDeeper R) (deeper_steps R) d m l

pub text_deeper : (R : Rules) (m : ℕ) {k : ℕ} {t : Tree} {s rest : List ℕ} → k ≤ m → Text R k s t rest → Text R m s t rest
text_deeper R m l (text only ends) = text (node_deeper R m l only) ends
