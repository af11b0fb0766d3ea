-- Where the nodes of a tree end does not depend on what stands behind its `;` (#114).
use Prim.Native.Nat.{ℕ, suc, ◌+◌, ◌-◌}
use mathlib.Core.Path.{◌≡◌, refl, sym, ap, ap₂, ◌∙◌}
use mathlib.Core.Bool.{Bool}
use mathlib.Core.List.{List, [], ◌∷◌, ◌++◌, map, map-append, append_assoc}
use native.Mathlib.Omega.{arith}
use lib.ListN.{length, length-append}
use Rattle.labels.specs.Spelling.{Spells}
use Rattle.labels.proofs.LabelFronts.{Front, front-elsewhere, spells-front}
use Rattle.trees.specs.Tree.{Tree, Forest}
use Rattle.trees.specs.Tree.Tree.{leaf, node}
use Rattle.trees.specs.Tree.Forest.{last, more}
use Rattle.trees.specs.Thinned.{all_nodes}
use Rattle.nodes.specs.Grammar.{Rules, strict, Blanks, Numbers, Inner, Node, Children, Text}
use Rattle.nodes.specs.Grammar.Node.{a_leaf, an_inner}
use Rattle.nodes.specs.Grammar.Children.{the_last, with_more}
use Rattle.nodes.specs.Grammar.Text.{text as ended-text}
use Rattle.nodes.proofs.Derivations.{two_wanted, over_node}
use Rattle.nodes.proofs.Fronts.{strict_placeless, BlanksAnd, blanks-front, byte-front, numbers-front, inner-front}
use Rattle.branches.specs.Ends.{behinds, behinds_of, End, ends_from}
use Rattle.branches.proofs.Found.{among}
use Rattle.branches.proofs.DrawnEnds.{text_ends}

-- ---- lists of texts

-- each of them with a piece behind it
abbrev all_with : List ℕ → List (List ℕ) → List (List ℕ)
all_with piece = map (λ y. y ++ piece)

with_two : (ys : List (List ℕ)) (piece rest : List ℕ) → all_with rest (all_with piece ys) ≡ all_with (piece ++ rest) ys
with_two [] piece rest = refl
with_two (y ∷ ys) piece rest = ap₂ ◌∷◌ (append_assoc y piece rest) (with_two ys piece rest)

with_all :
    (xs ys zs : List (List ℕ)) (rest : List ℕ) → all_with rest (xs ++ ys ++ zs) ≡ all_with rest xs ++ all_with rest ys ++ all_with rest zs
with_all xs ys zs rest = map-append (λ y. y ++ rest) (xs ++ ys) zs ∙ ap (λ (l : List (List ℕ)). l ++ all_with rest zs) (map-append (λ y. y ++ rest) xs ys)

-- where they begin, before all of a text
places_from :
    (u rest : List ℕ) (p : ℕ) (ys : List (List ℕ)) → map (λ x. (p + length (u ++ rest)) - length x) (all_with rest ys) ≡ map (λ y. (p + length u) - length y) ys
places_from u rest p [] = refl
places_from u rest p (y ∷ ys) = ap₂ ◌∷◌ (omega (arith, length-append u rest, length-append y rest)) (places_from u rest p ys)

-- ends that have the same places and the same written behind them
ends_same : (es fs : List End) → map (λ e. e.place) es ≡ map (λ e. e.place) fs → map (λ e. e.behind) es ≡ map (λ e. e.behind) fs → es ≡ fs
ends_same [] [] p b = refl
ends_same (e ∷ es) (f ∷ fs) p b =
    let place : e.place ≡ f.place = cc in
    let behind : e.behind ≡ f.behind = cc in
    let places : map (λ e. e.place) es ≡ map (λ e. e.place) fs = cc in
    let behinds : map (λ e. e.behind) es ≡ map (λ e. e.behind) fs = cc in
    let first : e ≡ f = rw (place, behind) in
    ap₂ ◌∷◌ first (ends_same es fs places behinds)
ends_same [] (f ∷ fs) p b = absurd (let z = ap length p in omega arith)
ends_same (e ∷ es) [] p b = absurd (let z = ap length p in omega arith)

-- ---- a front with a piece behind it

split_two : {s mid : List ℕ} (a b rest : List ℕ) → s ≡ a ++ mid → mid ≡ b ++ rest → s ≡ (a ++ b) ++ rest
split_two a b rest first second = first ∙ ap (λ (l : List ℕ). a ++ l) second ∙ sym (append_assoc a b rest)

before_two : (X : List ℕ → List ℕ → Type 0) {s mid : List ℕ} (a : Front X s mid) (b rest : List ℕ) → X ((a.bytes ++ b) ++ rest) (b ++ rest)
before_two X a b rest = rw (append_assoc a.bytes b rest) (a.anywhere (b ++ rest))

-- ---- a tree before any other rest, with the same ends

module _ (given : Bool) (names : List (List ℕ)) where
  abbrev R : Rules
  R = strict given names

  -- a node whose texts behind the nodes are ys, with what is left behind each
  abbrev NodeAt : ℕ → Tree → List (List ℕ) → List ℕ → List ℕ → Type 0
  NodeAt k t ys s rest = (d : Node R k s t rest) × (behinds d ≡ all_with rest ys)

  abbrev ChildrenAt : ℕ → Forest → List (List ℕ) → List ℕ → List ℕ → Type 0
  ChildrenAt k f ys s rest = (d : Children R k s f rest) × (among d ≡ all_with rest ys)

  abbrev TextAt : ℕ → Tree → List (List ℕ) → List ℕ → List ℕ → Type 0
  TextAt k t ys s rest = (d : Text R k s t rest) × (behinds_of d ≡ all_with rest ys)

  abbrev NodeMoves : ℕ → List ℕ → Tree → List ℕ → Type 0
  NodeMoves k s t rest = (ys : List (List ℕ)) × Front (NodeAt k t ys) s rest

  abbrev ChildrenMove : ℕ → List ℕ → Forest → List ℕ → Type 0
  ChildrenMove k s f rest = (ys : List (List ℕ)) × Front (ChildrenAt k f ys) s rest

  leaf-moves :
      (k i : ℕ) (w d b s s₁ s₂ rest : List ℕ) → Blanks s s₁ → Spells w s₁ s₂ → R.leaf_name w i s₁ s₂ → Numbers R d b s₂ rest
      → NodeMoves k s (leaf i (record { name = []; distance = d; support = b })) rest
  unfolding behinds
  leaf-moves k i w d b s s₁ s₂ rest gap r known behind =
      let g = blanks-front gap in
      let v = spells-front r in
      let n = numbers-front R (strict_placeless given names) behind in (
        n.bytes ∷ [],
        record {
          bytes = g.bytes ++ (v.bytes ++ n.bytes);
          split = split_two g.bytes (v.bytes ++ n.bytes) rest g.split (split_two v.bytes n.bytes rest v.split n.split);
          anywhere = λ rest'. (a_leaf (before_two Blanks g (v.bytes ++ n.bytes) rest') (before_two (Spells w) v n.bytes rest') known (n.anywhere rest'), refl);
        },
      )

  inner-moves :
      (k : ℕ) (t : Tree) (f : Forest) (w d b s s₁ s₂ s₃ s₄ s₅ rest : List ℕ)
      → Blanks s (40 ∷ s₁) → Node R k s₁ t s₂ → NodeMoves k s₁ t s₂ → Blanks s₂ (44 ∷ s₃) → Children R k s₃ f s₄ → ChildrenMove k s₃ f s₄ → Inner R w s₄ s₅
      → Numbers R d b s₅ rest
      → NodeMoves (suc k) s (node t f (record { name = w; distance = d; support = b })) rest
  unfolding behinds among
  inner-moves k t f w d b s s₁ s₂ s₃ s₄ s₅ rest opens first (xs, x) comma others (ys, y) inner behind =
      let o = byte-front 40 opens in
      let c = byte-front 44 comma in
      let i = inner-front R (strict_placeless given names) inner in
      let n = numbers-front R (strict_placeless given names) behind in
      let closed = i.bytes ++ n.bytes in
      let children = y.bytes ++ closed in
      let parted = c.bytes ++ children in (
        all_with parted xs ++ all_with closed ys ++ (closed ∷ []),
        record {
          bytes = o.bytes ++ (x.bytes ++ parted);
          split =
              split_two o.bytes (x.bytes ++ parted) rest o.split
              (split_two x.bytes parted rest x.split
              (split_two c.bytes children rest c.split
              (split_two y.bytes closed rest y.split (split_two i.bytes n.bytes rest i.split n.split))));
          anywhere = λ rest'.
              let d = before_two (NodeAt k t xs) x parted rest' in
              let e = before_two (ChildrenAt k f ys) y closed rest' in (
                an_inner (before_two (BlanksAnd 40) o (x.bytes ++ parted) rest') d.0 (before_two (BlanksAnd 44) c children rest') e.0
                    (before_two (Inner R w) i n.bytes rest') (n.anywhere rest'),
                ap₂ (λ (l m : List (List ℕ)). l ++ m ++ ((closed ++ rest') ∷ [])) (d.1 ∙ sym (with_two xs parted rest')) (e.1 ∙ sym (with_two ys closed rest'))
                    ∙ sym (with_all (all_with parted xs) (all_with closed ys) (closed ∷ []) rest'),
              );
        },
      )

  last_moves : (k : ℕ) (t : Tree) (s s₁ rest : List ℕ) → Node R k s t s₁ → NodeMoves k s t s₁ → Blanks s₁ (41 ∷ rest) → ChildrenMove k s (last t) rest
  unfolding behinds among
  last_moves k t s s₁ rest only (ys, y) closes =
      let c = byte-front 41 closes in (
        all_with c.bytes ys,
        record {
          bytes = y.bytes ++ c.bytes;
          split = split_two y.bytes c.bytes rest y.split c.split;
          anywhere = λ rest'.
              let d = before_two (NodeAt k t ys) y c.bytes rest' in (the_last d.0 (c.anywhere rest'), d.1 ∙ sym (with_two ys c.bytes rest'));
        },
      )

  more_move :
      (k : ℕ) (t : Tree) (f : Forest) (s s₁ s₂ rest : List ℕ)
      → Node R k s t s₁ → NodeMoves k s t s₁ → Blanks s₁ (44 ∷ s₂) → Children R k s₂ f rest → ChildrenMove k s₂ f rest → ChildrenMove k s (more t f) rest
  unfolding behinds among
  more_move k t f s s₁ s₂ rest first (xs, x) comma others (ys, y) =
      let c = byte-front 44 comma in (
        all_with (c.bytes ++ y.bytes) xs ++ ys,
        record {
          bytes = x.bytes ++ (c.bytes ++ y.bytes);
          split = split_two x.bytes (c.bytes ++ y.bytes) rest x.split (split_two c.bytes y.bytes rest c.split y.split);
          anywhere = λ rest'.
              let d = before_two (NodeAt k t xs) x (c.bytes ++ y.bytes) rest' in
              let e = y.anywhere rest' in (
                with_more d.0 (before_two (BlanksAnd 44) c y.bytes rest') e.0,
                ap₂ ◌++◌ (d.1 ∙ sym (with_two xs (c.bytes ++ y.bytes) rest')) e.1 ∙ sym (map-append (λ y. y ++ rest') (all_with (c.bytes ++ y.bytes) xs) ys),
              );
        },
      )

  node-moves : {k : ℕ} {s : List ℕ} {t : Tree} {rest : List ℕ} → Node R k s t rest → NodeMoves k s t rest
  node-moves =
      over_node R NodeMoves ChildrenMove (record {
        at_leaf = leaf-moves;
        at_inner = inner-moves;
        at_single = λ k t w d b s s₁ s₂ s₃ s₄ rest enough. absurd (two_wanted enough);
        at_last = last_moves;
        at_more = more_move;
      })

  -- a tree and its `;`
  text-moves : {k : ℕ} {s : List ℕ} {t : Tree} {rest : List ℕ} → Text R k s t rest → (ys : List (List ℕ)) × Front (TextAt k t ys) s rest
  unfolding behinds_of
  text-moves {k} {t = t} {rest = rest} (ended-text root closes) =
      let moved = node-moves root in
      let ys = moved.0 in
      let y = moved.1 in
      let c = byte-front 59 closes in (
        all_with c.bytes ys,
        record {
          bytes = y.bytes ++ c.bytes;
          split = split_two y.bytes c.bytes rest y.split c.split;
          anywhere = λ rest'.
              let d = before_two (NodeAt k t ys) y c.bytes rest' in (ended-text d.0 (c.anywhere rest'), d.1 ∙ sym (with_two ys c.bytes rest'));
        },
      )

  -- so the ends are found at the same places, with the same written behind them
  pub ends_elsewhere :
      {k : ℕ} {t : Tree} (u rest rest' : List ℕ) (p : ℕ) → Text R k (u ++ rest) t rest
      → ends_from (length (all_nodes t)) (u ++ rest) p ≡ ends_from (length (all_nodes t)) (u ++ rest') p
  ends_elsewhere {k} {t} u rest rest' p derives =
      let moved = text-moves derives in
      let ys = moved.0 in
      let here = front-elsewhere (TextAt k t ys) u rest rest moved.1 in
      let there = front-elsewhere (TextAt k t ys) u rest rest' moved.1 in
      let e = text_ends given names here.0 p in
      let f = text_ends given names there.0 p in
      let at : (l : List ℕ) → List (List ℕ) → List ℕ = λ l xs. map (λ x. (p + length (u ++ l)) - length x) xs in
      ends_same _ _
      (e.places ∙ ap (at rest) here.1 ∙ places_from u rest p ys ∙ sym (places_from u rest' p ys) ∙ sym (ap (at rest') there.1) ∙ sym f.places)
      (e.behind ∙ sym f.behind)
