-- A text draws one tree at most: derivations from the same text derive the same tree and leave the same.
use Prim.Native.Nat.{ℕ, suc, ◌≤◌, ◌<◌}
use mathlib.Core.Path.{◌≡◌, refl, sym, ◌∙◌}
use mathlib.Core.Logic.{◌⊎◌, inl, inr}
use mathlib.Core.Bool.{Bool, true, false}
use mathlib.Core.List.{List, [], ◌∷◌}
use native.Mathlib.Omega.{arith}
use lib.ListN.{length}
use Rattle.labels.specs.Bytes.{is_blank, next_label}
use Rattle.labels.specs.Spelling.{Spells}
use Rattle.labels.specs.Labels.{label_bytes}
use Rattle.labels.proofs.Spelled.{spells_first}
use Rattle.trees.specs.Tree.{Tree, Forest, Behind}
use Rattle.trees.specs.Tree.Tree.{leaf, node}
use Rattle.trees.specs.Tree.Forest.{last, more}
use Rattle.roster.specs.Roster.{position}
use Rattle.tokens.specs.Tokens.{skip, numbers, name, inner_name}
use Rattle.nodes.specs.Grammar.{strict, Blanks, Numbers, Inner, Node, Children, Text}
use Rattle.nodes.specs.Grammar.Text.{text}
use Rattle.nodes.proofs.Derivations.{two_wanted, Steps, over_node, LeafForm, InnerForm, LastForm, MoreForm, node-form, children-form}
use Rattle.nodes.proofs.Exact.{Gives, gives_one, Same, Follows, comma_follows, closing_follows, semicolon_follows, blanks-skip, skip_to}
use Rattle.nodes.proofs.Exact.{label_no_blank, stopped-label, numbers-gives, numbers-stopped, name-gives, inner_name-gives}

module _ (given : Bool) (names : List (List ℕ)) where
  skip-name : {s m : List ℕ} → Blanks s m → next_label m ≡ true → skip s ≡ m
  skip-name {m = m} gap is = blanks-skip gap (label_no_blank m is)

  -- a leaf's name, read behind its blanks
  leaf-named :
      {w d b s s₁ s₂ rest : List ℕ} → Blanks s s₁ → Spells w s₁ s₂ → length w ≤ label_bytes → Numbers (strict given names) d b s₂ rest → Follows rest
      → Gives (name (skip s) 0) w s₂
  leaf-named gap r short behind follows =
      rw (skip-name gap (spells_first r)) (name-gives r (stopped-label (numbers-stopped behind follows)) short 0)

  -- behind blanks stands one byte
  same_byte : {s m m' : List ℕ} (b : ℕ) → is_blank b ≡ false → Blanks s (b ∷ m) → Blanks s (b ∷ m') → m ≡ m'
  same_byte {s} {m} {m'} b solid h h' =
      let e = skip_to b solid h in
      let e' = skip_to b solid h' in
      cc

  no_other_byte :
      {s m m' : List ℕ} {A : Type 0} (b c : ℕ)
      → (b ≡ c → ⊥) → is_blank b ≡ false → is_blank c ≡ false → Blanks s (b ∷ m) → Blanks s (c ∷ m') → A
  no_other_byte {s} {m} {m'} b c differ solid solid' h h' =
      let e = skip_to b solid h in
      let e' = skip_to c solid' h' in
      absurd (differ (cc))

  abbrev NodeOne : ℕ → List ℕ → Tree → List ℕ → Type 0
  NodeOne k s t rest =
      Follows rest → (k' : ℕ) (t' : Tree) (rest' : List ℕ) → Node (strict given names) k' s t' rest' → Follows rest' → Same t t' rest rest'

  abbrev ForestOne : ℕ → List ℕ → Forest → List ℕ → Type 0
  ForestOne k s f rest = (k' : ℕ) (f' : Forest) (rest' : List ℕ) → Children (strict given names) k' s f' rest' → Same f f' rest rest'

  -- no text begins both with a name and with a parenthesis
  leaf_no_inner : {A : Type 0} {w s s₁ s₂ s₃ : List ℕ} → Blanks s s₁ → Spells w s₁ s₂ → Blanks s (40 ∷ s₃) → A
  unfolding next_label
  leaf_no_inner {s₃ = s₃} gap r opens =
      let e = sym (skip-name gap (spells_first r)) ∙ skip_to 40 refl opens in
      let is : next_label (40 ∷ s₃) ≡ true = rw e at (spells_first r) in
      absurd (let z : ◌≡◌ {A = ℕ} 0 1 = cc in omega arith)

  same_numbers :
      {w w' d d' b b' s s' rest rest' : List ℕ} → w ≡ w' → s ≡ s' → Numbers (strict given names) d b s rest → Follows rest
      → Numbers (strict given names) d' b' s' rest' → Follows rest'
      → Same {A = Behind} (record { name = w; distance = d; support = b }) (record { name = w'; distance = d'; support = b' }) rest rest'
  same_numbers {w} {w'} {s = s} e f behind follows behind' follows' =
      gives_one (numbers w s 0) (numbers-gives given names w behind follows 0) (rw (e, f) (numbers-gives given names w' behind' follows' 0))

  leaf_one :
      (k i : ℕ) (w d b s s₁ s₂ rest : List ℕ)
      → Blanks s s₁ → Spells w s₁ s₂ → (length w ≤ label_bytes) × (position w names ≡ i) × (i < length names) → Numbers (strict given names) d b s₂ rest
      → NodeOne k s (leaf i (record { name = []; distance = d; support = b })) rest
  leaf_one k i w d b s s₁ s₂ rest gap r known behind follows k' t' rest' d' follows' = go (node-form (strict given names) two_wanted d')
    where
      go :
          LeafForm (strict given names) s t' rest' ⊎ InnerForm (strict given names) s t' rest'
          → Same (leaf i (record { name = []; distance = d; support = b })) t' rest rest'
      go (inl o) =
          let n = gives_one (name (skip s) 0) (leaf-named gap r known.0 behind follows) (leaf-named o.gap o.named o.known.0 o.behind follows') in
          let m : Same {A = Behind} (record { name = []; distance = d; support = b }) (record { name = []; distance = o.d; support = o.b }) rest rest' =
          same_numbers {w = []} {w' = []} refl n.left behind follows o.behind follows'
          in
          record { value = cc (known.1, o.known.1, n.value, m.value, o.is); left = m.left }
      go (inr o) = leaf_no_inner gap r o.opens

  inner_one :
      (k : ℕ) (t : Tree) (f : Forest) (w d b s s₁ s₂ s₃ s₄ s₅ rest : List ℕ)
      → Blanks s (40 ∷ s₁) → NodeOne k s₁ t s₂ → Blanks s₂ (44 ∷ s₃) → ForestOne k s₃ f s₄ → Inner (strict given names) w s₄ s₅
      → Numbers (strict given names) d b s₅ rest → NodeOne (suc k) s (node t f (record { name = w; distance = d; support = b })) rest
  inner_one k t f w d b s s₁ s₂ s₃ s₄ s₅ rest opens p comma q inner behind follows k' t' rest' d' follows' = go (node-form (strict given names) two_wanted d')
    where
      go :
          LeafForm (strict given names) s t' rest' ⊎ InnerForm (strict given names) s t' rest'
          → Same (node t f (record { name = w; distance = d; support = b })) t' rest rest'
      go (inl o) = leaf_no_inner o.gap o.named opens
      go (inr o) =
          let e₁ : s₁ ≡ o.s₁ = same_byte 40 refl opens o.opens in
          let a = p (comma_follows comma) o.room o.child o.s₂ (rw e₁ o.first) (comma_follows o.comma) in
          let c : Blanks s₂ (44 ∷ o.s₃) = rw a.left o.comma in
          let e₃ : s₃ ≡ o.s₃ = same_byte 44 refl comma c in
          let g = q o.room o.forest o.s₄ (rw e₃ o.others) in
          let n : Same w o.w s₅ o.s₅ =
          gives_one (inner_name s₄ 0) (inner_name-gives given names inner (numbers-stopped behind follows) 0)
          (rw g.left (inner_name-gives given names o.inner (numbers-stopped o.behind follows') 0))
          in
          let m = same_numbers n.value n.left behind follows o.behind follows' in
          record { value = cc (a.value, g.value, m.value, o.is); left = m.left }

  last_one : (k : ℕ) (t : Tree) (s s₁ rest : List ℕ) → NodeOne k s t s₁ → Blanks s₁ (41 ∷ rest) → ForestOne k s (last t) rest
  last_one k t s s₁ rest p closes k' f' rest' d' = go (children-form (strict given names) two_wanted d')
    where
      go : LastForm (strict given names) k' s f' rest' ⊎ MoreForm (strict given names) k' s f' rest' → Same (last t) f' rest rest'
      go (inl o) =
          let a = p (closing_follows closes) k' o.child o.s₁ o.only (closing_follows o.closes) in
          let c : Blanks s₁ (41 ∷ rest') = rw a.left o.closes in
          record { value = cc (a.value, o.is); left = same_byte 41 refl closes c }
      go (inr o) =
          let a = p (closing_follows closes) k' o.child o.s₁ o.first (comma_follows o.comma) in
          let c : Blanks s₁ (44 ∷ o.s₂) = rw a.left o.comma in
          no_other_byte 41 44 (λ e. omega arith) refl refl closes c

  more_one :
      (k : ℕ) (t : Tree) (f : Forest) (s s₁ s₂ rest : List ℕ)
      → NodeOne k s t s₁ → Blanks s₁ (44 ∷ s₂) → ForestOne k s₂ f rest → ForestOne k s (more t f) rest
  more_one k t f s s₁ s₂ rest p comma q k' f' rest' d' = go (children-form (strict given names) two_wanted d')
    where
      go : LastForm (strict given names) k' s f' rest' ⊎ MoreForm (strict given names) k' s f' rest' → Same (more t f) f' rest rest'
      go (inl o) =
          let a = p (comma_follows comma) k' o.child o.s₁ o.only (closing_follows o.closes) in
          let c : Blanks s₁ (41 ∷ rest') = rw a.left o.closes in
          no_other_byte 44 41 (λ e. omega arith) refl refl comma c
      go (inr o) =
          let a = p (comma_follows comma) k' o.child o.s₁ o.first (comma_follows o.comma) in
          let c : Blanks s₁ (44 ∷ o.s₂) = rw a.left o.comma in
          let e : s₂ ≡ o.s₂ = same_byte 44 refl comma c in
          let g = q k' o.forest rest' (rw e o.others) in
          record { value = cc (a.value, g.value, o.is); left = g.left }

  one_steps : Steps (strict given names) NodeOne ForestOne
  one_steps =
      record {
        at_leaf = λ k i w d b s s₁ s₂ rest gap r known behind. leaf_one k i w d b s s₁ s₂ rest gap r known behind;
        at_inner = λ k t f w d b s s₁ s₂ s₃ s₄ s₅ rest bl first p comma others q inner behind.
            inner_one k t f w d b s s₁ s₂ s₃ s₄ s₅ rest bl p comma q inner behind;
        at_single = λ k t w d b s s₁ s₂ s₃ s₄ rest enough bl only p closes inner behind. absurd (two_wanted enough);
        at_last = λ k t s s₁ rest only p closes. last_one k t s s₁ rest p closes;
        at_more = λ k t f s s₁ s₂ rest first p comma others q. more_one k t f s s₁ s₂ rest p comma q;
      }

  -- where both are followed by what ends a node
  pub node-unique :
      {k k' : ℕ} {s rest rest' : List ℕ} {t t' : Tree}
      → Node (strict given names) k s t rest → Follows rest → Node (strict given names) k' s t' rest' → Follows rest' → Same t t' rest rest'
  node-unique {k' = k'} {rest' = rest'} {t' = t'} d follows d' follows' =
      over_node (strict given names) NodeOne ForestOne one_steps d follows k' t' rest' d' follows'

  pub tree-unique :
      {k k' : ℕ} {s rest rest' : List ℕ} {t t' : Tree}
      → Text (strict given names) k s t rest → Text (strict given names) k' s t' rest' → Same t t' rest rest'
  tree-unique {rest' = rest'} (text {s₁ = m} d ends) (text d' ends') =
      let a = node-unique d (semicolon_follows ends) d' (semicolon_follows ends') in
      let c : Blanks m (59 ∷ rest') = rw a.left ends' in
      record { value = a.value; left = same_byte 59 refl ends c }
