-- The species that were met: each stands as a leaf's label in the bytes that were read.
use Prim.Native.Nat.{ℕ, suc, ◌+◌, ◌≤◌, ◌<◌}
use mathlib.Core.Path.{◌≡◌, sym, ap, ◌∙◌}
use mathlib.Core.Logic.{⊎_elim}
use mathlib.Core.Bool.{Bool, false}
use mathlib.Core.List.{List, [], ◌∷◌, ◌++◌, append_assoc}
use native.Mathlib.Omega.{arith}
use lib.ListN.{length, take, drop, length-append}
use lib.Seq.{take-append_seam, drop-append_seam}
use Rattle.clusters.specs.Sets.{Has}
use Rattle.clusters.proofs.Members.{has-single, has-union}
use Rattle.labels.specs.Bytes.{next_label}
use Rattle.labels.specs.Spelling.{Spells}
use Rattle.labels.specs.Labels.{letters}
use Rattle.labels.proofs.LabelFronts.{Front}
use Rattle.labels.proofs.Spelled.{no_label_over, whole_exact, spells_first, spells_shorter}
use Rattle.trees.specs.Tree.{Tree, Forest, cluster, cluster_of}
use Rattle.trees.specs.Tree.Tree.{leaf, node}
use Rattle.trees.specs.Tree.Forest.{more}
use Rattle.roster.specs.Roster.{position}
use Rattle.nodes.specs.Grammar.{strict, lifted, Blanks, Numbers, Inner, Node, Children}
use Rattle.nodes.proofs.Exact.{stopped-label, comma_follows, closing_follows}
use Rattle.nodes.proofs.Derivations.{Steps, over_node, two_wanted}
use Rattle.nodes.proofs.Fronts.{Then, BlanksAnd, front-then, strict_placeless, lifted_placeless, blanks-front, byte-front, numbers-front, inner-front, node-front, children-front, lift_node}
use Rattle.meanings.specs.Meaning.{LeafAt}
use Rattle.meanings.proofs.MeaningContexts.{front_shorter, node_may, stand_on, opened-stand, last_stand, blanks-node, comma-children, child-comma, NodeOf, Stand, NodeIn, ChildrenIn}
use Rattle.meanings.proofs.ReadingSteps.{Stands}
use Rattle.meanings.proofs.MeaningSteps.{numbers-stop}

module _ (given : Bool) (names : List (List ℕ)) (s₀ : List ℕ) where
  -- species i stands as a leaf's name before what is left
  pub record Met (left : List ℕ) (i : ℕ) : Type 0 where
    pub c : ℕ
    pub before : c + length left < length s₀
    pub leaf_there : LeafAt s₀ c
    pub named : position (letters (drop c s₀)) names ≡ i

  pub met_less : {left rest : List ℕ} {i : ℕ} → length rest ≤ length left → Met left i → Met rest i
  met_less l m = record { c = m.c; before = omega (arith, m.before); leaf_there = m.leaf_there; named = m.named }

  abbrev pub AllMet : List ℕ → ℕ → Type 0
  AllMet left seen = (i : ℕ) → Has seen i → Met left i

  abbrev MetIn : ℕ → List ℕ → Tree → List ℕ → Type 0
  MetIn k s t rest = (u : List ℕ) → s₀ ≡ u ++ s → Stand NodeIn u → next_label rest ≡ false → AllMet rest (cluster t)

  abbrev MetInAll : ℕ → List ℕ → Forest → List ℕ → Type 0
  MetInAll k s f rest = (u : List ℕ) → s₀ ≡ u ++ s → Stand ChildrenIn u → AllMet rest (cluster_of f)

  further : {X : List ℕ → List ℕ → Type 0} (u : List ℕ) {s rest : List ℕ} → s₀ ≡ u ++ s → (f : Front X s rest) → s₀ ≡ (u ++ f.bytes) ++ rest
  further u {rest = rest} e f = e ∙ (ap (λ (l : List ℕ). u ++ l) f.split ∙ sym (append_assoc u f.bytes rest))

  met-leaf :
      (k i : ℕ) (w d b s s₁ s₂ rest : List ℕ) → Blanks s s₁ → Spells w s₁ s₂ → (strict given names).leaf_name w i s₁ s₂ → Numbers (strict given names) d b s₂ rest
      → MetIn k s (leaf i (record { name = []; distance = d; support = b })) rest
  unfolding cluster
  met-leaf k i w d b s s₁ s₂ rest bl r known behind u e may stops j h =
      let f = blanks-front bl in
      let v = u ++ f.bytes in
      let whole : s₀ ≡ v ++ s₁ = further u e f in
      let front : take (length v) s₀ ≡ v = rw whole (take-append_seam v s₁) in
      let back : drop (length v) s₀ ≡ s₁ = rw whole (drop-append_seam v s₁) in
      let x = whole_exact (record { spelled = r; over = no_label_over s₁ s₂ (numbers-stop behind stops) }) in
      let all : length s₀ ≡ length v + length s₁ = ap length whole ∙ length-append v s₁ in
      record {
        c = length v;
        before = omega (arith, spells_shorter r, front_shorter (numbers-front (strict given names) (strict_placeless given names) behind));
        leaf_there = record {
          allowed = rw front (node_may (stand_on NodeIn NodeIn Blanks blanks-node may f));
          begins = rw back (spells_first r);
          bytes = x.width;
          ends = rw back (x.short known.0);
        };
        named = rw (back, x.name) (known.1 ∙ has-single i j h);
      }

  met-inner :
      (k : ℕ) (t : Tree) (f : Forest) (w d b s s₁ s₂ s₃ s₄ s₅ rest : List ℕ)
      → Blanks s (40 ∷ s₁) → Node (strict given names) k s₁ t s₂ → MetIn k s₁ t s₂ → Blanks s₂ (44 ∷ s₃) → Children (strict given names) k s₃ f s₄
      → MetInAll k s₃ f s₄ → Inner (strict given names) w s₄ s₅ → Numbers (strict given names) d b s₅ rest
      → MetIn (suc k) s (node t f (record { name = w; distance = d; support = b })) rest
  unfolding cluster
  met-inner k t f w d b s s₁ s₂ s₃ s₄ s₅ rest bl first p comma others q inner behind u e may stops i h =
      let l₁ : length s₃ ≤ length s₂ = front_shorter (byte-front 44 comma) in
      let l₂ : length s₄ ≤ length s₃ = front_shorter (children-front (strict given names) (strict_placeless given names) others) in
      let l₃ : length s₅ ≤ length s₄ = front_shorter (inner-front (strict given names) (strict_placeless given names) inner) in
      let l₄ : length rest ≤ length s₅ = front_shorter (numbers-front (strict given names) (strict_placeless given names) behind) in
      ⊎_elim
      (λ a. met_less (omega arith) (p (u ++ opening.bytes) (further u e opening) (opened-stand may opening)
      (stopped-label (comma_follows comma).stopped) i a))
      (λ a. met_less (omega arith) (q (u ++ till.bytes) (further u e till) (stand_on NodeIn ChildrenIn Till (comma-children k t) may till) i a))
      (has-union (cluster t) (cluster_of f) i h)
    where
      X : List ℕ → List ℕ → Type 0
      X = Then (BlanksAnd 40) (NodeOf k t)

      Till : List ℕ → List ℕ → Type 0
      Till = Then X (BlanksAnd 44)

      opening : Front (BlanksAnd 40) s s₁
      opening = byte-front 40 bl

      till : Front Till s s₃
      till =
          front-then X (BlanksAnd 44) (front-then (BlanksAnd 40) (NodeOf k t) opening (node-front lifted (lifted_placeless 2) (lift_node given names first)))
          (byte-front 44 comma)

  met_more :
      (k : ℕ) (t : Tree) (f : Forest) (s s₁ s₂ rest : List ℕ)
      → Node (strict given names) k s t s₁ → MetIn k s t s₁ → Blanks s₁ (44 ∷ s₂) → Children (strict given names) k s₂ f rest → MetInAll k s₂ f rest
      → MetInAll k s (more t f) rest
  unfolding cluster_of
  met_more k t f s s₁ s₂ rest first p comma others q u e may i h =
      let l₁ : length s₂ ≤ length s₁ = front_shorter (byte-front 44 comma) in
      let l₂ : length rest ≤ length s₂ = front_shorter (children-front (strict given names) (strict_placeless given names) others) in
      let X = Then (NodeOf k t) (BlanksAnd 44) in
      let till : Front X s s₂ =
      front-then (NodeOf k t) (BlanksAnd 44) (node-front lifted (lifted_placeless 2) (lift_node given names first)) (byte-front 44 comma)
      in
      ⊎_elim
      (λ a. met_less (omega arith) (p u e (last_stand may) (stopped-label (comma_follows comma).stopped) i a))
      (λ a. q (u ++ till.bytes) (further u e till) (stand_on ChildrenIn ChildrenIn X (child-comma k t) may till) i a)
      (has-union (cluster t) (cluster_of f) i h)

  met-steps : Steps (strict given names) MetIn MetInAll
  unfolding cluster_of
  met-steps =
      record {
        at_leaf = λ k i w d b s s₁ s₂ rest bl r known behind. met-leaf k i w d b s s₁ s₂ rest bl r known behind;
        at_inner = λ k t f w d b s s₁ s₂ s₃ s₄ s₅ rest bl first p comma others q inner behind.
            met-inner k t f w d b s s₁ s₂ s₃ s₄ s₅ rest bl first p comma others q inner behind;
        at_single = λ k t w d b s s₁ s₂ s₃ s₄ rest enough bl only p closes inner behind. absurd (two_wanted enough);
        at_last = λ k t s s₁ rest only p closes u e may i h.
            met_less (front_shorter (byte-front 41 closes))
            (p u e (last_stand may) (stopped-label (closing_follows closes).stopped) i h);
        at_more = λ k t f s s₁ s₂ rest first p comma others q u e may i h. met_more k t f s s₁ s₂ rest first p comma others q u e may i h;
      }

  pub met-node :
      {k : ℕ} {t : Tree} {u s rest : List ℕ} {p p₀ : ℕ} → Stands s₀ p₀ u s p → Stand NodeIn u → Node (strict given names) k s t rest
      → next_label rest ≡ false → AllMet rest (cluster t)
  met-node {u = u} st may d stops i h = over_node (strict given names) MetIn MetInAll met-steps d u st.left.whole may stops i h
