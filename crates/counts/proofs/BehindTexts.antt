-- The texts behind the nodes that a text draws are ends of that text.
use Prim.Native.Nat.{ℕ}
use mathlib.Core.Path.{◌≡◌, sym, ap, ◌∙◌, subst}
use mathlib.Core.Logic.{◌⊎◌, inl, inr}
use mathlib.Core.Bool.{Bool}
use mathlib.Core.List.Memᴰ
use mathlib.Core.List.{List, [], ◌∷◌, ◌++◌, append_assoc, Memᴰ}
use Rattle.labels.proofs.LabelFronts.{Front, spells-front}
use Rattle.trees.specs.Tree.{Tree, Forest}
use Rattle.nodes.specs.Grammar.{strict, Blanks, Node, Children, Text}
use Rattle.nodes.specs.Grammar.Node.{a_leaf, an_inner, a_single}
use Rattle.nodes.specs.Grammar.Children.{the_last, with_more}
use Rattle.nodes.specs.Grammar.Text.{text as ended-text}
use Rattle.nodes.proofs.Derivations.{two_wanted}
use Rattle.nodes.proofs.Fronts.{strict_placeless, blanks-front, byte-front, node-front, children-front}
use Rattle.branches.specs.Ends.{behinds, behinds_of}
use Rattle.branches.proofs.Found.{among}

-- x is an end of s
pub record EndOf (x s : List ℕ) : Type 0 where
  pub front : List ℕ
  pub split : s ≡ front ++ x

further : {x m s : List ℕ} → EndOf m s → EndOf x m → EndOf x s
further {x} a b = record {
  front = a.front ++ b.front;
  split = a.split ∙ ap (λ (l : List ℕ). a.front ++ l) b.split ∙ sym (append_assoc a.front b.front x);
}

behind-front : {X : List ℕ → List ℕ → Type 0} {s rest : List ℕ} → Front X s rest → EndOf rest s
behind-front f = record { front = f.bytes; split = f.split }

behind-byte : (b : ℕ) {s m : List ℕ} → Blanks s (b ∷ m) → EndOf m s
behind-byte b gap = behind-front (byte-front b gap)

-- so are all of the list
record EndsOf (xs : List (List ℕ)) (s : List ℕ) : Type 0 where
  each : (x : List ℕ) → Memᴰ x xs → EndOf x s

ends_further : {xs : List (List ℕ)} {m s : List ℕ} → EndOf m s → EndsOf xs m → EndsOf xs s
ends_further a all = record { each = λ x m. further a (all.each x m) }

ends_append : {xs ys : List (List ℕ)} {s : List ℕ} → EndsOf xs s → EndsOf ys s → EndsOf (xs ++ ys) s
ends_append {xs} {ys} {s} first others = record { each = λ x m. go (Memᴰ.append_cases xs m) }
  where
    go : {x : List ℕ} → Memᴰ x xs ⊎ Memᴰ x ys → EndOf x s
    go (inl k) = first.each _ k
    go (inr k) = others.each _ k

ends_one : {y s : List ℕ} → EndOf y s → EndsOf (y ∷ []) s
ends_one {y} {s} a = record { each = λ x m. subst (λ (z : List ℕ). EndOf z s) (sym (Memᴰ.eq_of_singleton m)) a }

module _ (given : Bool) (names : List (List ℕ)) where
  node-behind : {k : ℕ} {s rest : List ℕ} {t : Tree} → Node (strict given names) k s t rest → EndOf rest s
  node-behind d = behind-front (node-front (strict given names) (strict_placeless given names) d)

  children-behind : {k : ℕ} {s rest : List ℕ} {f : Forest} → Children (strict given names) k s f rest → EndOf rest s
  children-behind d = behind-front (children-front (strict given names) (strict_placeless given names) d)

  -- rule by rule
  node_ends_of : {k : ℕ} {s : List ℕ} {t : Tree} {rest : List ℕ} (d : Node (strict given names) k s t rest) → EndsOf (behinds d) s
  unfolding behinds among
  node_ends_of d =
      elim d as (λ k s t rest d. EndsOf (behinds d) s) (λ k s f rest d. EndsOf (among d) s) [
        | a_leaf gap r known behind ↦ ends_one (further (behind-front (blanks-front gap)) (behind-front (spells-front r)))
        | an_inner opens (first → p) comma (others → q) inner behind ↦
            let over = further (node-behind first) (behind-byte 44 comma) in
            ends_further (behind-byte 40 opens)
            (ends_append (ends_append p (ends_further over q)) (ends_one (further over (children-behind others))))
        | a_single enough opens (only → p) closes inner behind ↦ absurd (two_wanted enough)
        | the_last (only → p) closes ↦ p
        | with_more (first → p) comma (others → q) ↦ ends_append p (ends_further (further (node-behind first) (behind-byte 44 comma)) q)
      ]

  pub text_ends_of :
      {k : ℕ} {s : List ℕ} {t : Tree} {rest : List ℕ} (d : Text (strict given names) k s t rest) (x : List ℕ) → Memᴰ x (behinds_of d) → EndOf x s
  unfolding behinds_of
  text_ends_of (ended-text d ends) x m = (node_ends_of d).each x m
