-- Another scanner of tokens beside that of the reader without a threshold: where each piece answers the same, or an excused refusal, so does the whole reading.
use Prim.Native.Nat.{ℕ, zero, suc, ◌+◌, ◌*◌}
use mathlib.Core.Path.{◌≡◌, refl, sym, subst}
use mathlib.Core.Logic.{◌⊎◌, inl, inr}
use mathlib.Core.Bool.{Bool, true, false}
use mathlib.Core.List.{List, [], ◌∷◌, ◌++◌, tail}
use mathlib.Core.List.Memᴰ
use mathlib.Core.List.Memᴰ.{head as here}
use mathlib.Core.List.{Memᴰ}
use lib.ListN.{length, drop}
use lib.Dec.{ltb}
use Rattle.clusters.specs.Sets.{single, union, apart, within}
use Rattle.labels.specs.Bytes.{next_is, next_label}
use Rattle.trees.specs.Tree.{Tree, Forest, Behind, cluster}
use Rattle.trees.specs.Tree.Tree.{leaf, node}
use Rattle.trees.specs.Tree.Forest.{last, more}
use Rattle.trees.specs.Thinned.{all_nodes, all_nodes_of}
use Rattle.roster.specs.Roster.{position}
use Rattle.tokens.specs.Answers.{Answer, and_then, unexpected}
use Rattle.tokens.specs.Answers.Answer.{parsed, refused}
use Rattle.tokens.specs.Tokens.{blanks, skip, name, inner_name}
use Rattle.tokens.specs.Supports.{supported}
use Rattle.nodes.specs.Reading.{Scanner, leaf_new, leaf_new_by, leaf_known, leaf_known_by, leaf_at, leaf_by, closing, closing_by, after_first, after_first_by}
use Rattle.nodes.specs.Reading.{opened_by, opened, node_of, node_by, after_child, read_node, read_node_by, read_forest, read_forest_by, complete, ended, read_tree, read_tree_by, read_tree_to_by}
use Rattle.nodes.specs.Worth.{behind_of}
use Rattle.nodes.proofs.Answers.{refused-parsed, parsed_same, unexpected-parsed, and_then-parsed}
use Rattle.nodes.proofs.Rests.{Moves, skip-drop, tail-drop, read_node_advances, read_forest_advances}

-- an answer beside the reader's: the same, and what was read fits; or an excused refusal where the reader reads nothing that fits
pub data Beside (Excused : ℕ → Type 0) {A : Type 0} (Fits : A → Type 0) : Answer A → Answer A → Type 0 where
  both_read : {x : A} {rest : List ℕ} {q : ℕ} → Fits x → Beside Excused Fits (parsed x rest q) (parsed x rest q)
  both_refused : {n q : ℕ} → Beside Excused Fits (refused n q) (refused n q)
  excused :
      {n q : ℕ} {b : Answer A} → Excused n → ((x : A) (rest : List ℕ) (r : ℕ) → b ≡ parsed x rest r → Fits x → ⊥) → Beside Excused Fits (refused n q) b

-- all that stands behind these nodes fits
abbrev pub AllFit : (Behind → Type 0) → List Tree → Type 0
AllFit Fits l = (u : Tree) → Memᴰ u l → Fits (behind_of u)

-- what is asked of a scanner, on texts that are fair: labels are the reader's, and what stands behind a node is beside it
pub record Simulates (S : Scanner) (Fair : List ℕ → Type 0) (Excused : ℕ → Type 0) (Fits : Behind → Type 0) : Type 0 where
  pub begins_same : (s : List ℕ) → Fair s → S.begins s ≡ next_label s
  pub leaf_same : (s : List ℕ) (p : ℕ) → Fair s → S.leaf_name s p ≡ name s p
  pub inner_same : (s : List ℕ) (p : ℕ) → Fair s → S.inner_name s p ≡ inner_name s p
  pub behind_beside : (w s : List ℕ) (p : ℕ) → Beside Excused Fits (S.behind w s p) (supported false w s p)
  pub fair_drop : (n : ℕ) (s : List ℕ) → Fair s → Fair (drop n s)

-- ---- one piece after another

module _ {Excused : ℕ → Type 0} {B : Type 0} {FitsB : B → Type 0} where
  -- both go on from what was read; what is read in the end fits only if the first piece does
  then-beside :
      {A : Type 0} {Fits : A → Type 0} {a b : Answer A} (f g : A → List ℕ → ℕ → Answer B) → Beside Excused Fits a b
      → ((x : A) (s : List ℕ) (q : ℕ) → b ≡ parsed x s q → Fits x → Beside Excused FitsB (f x s q) (g x s q))
      → ((x : A) (s : List ℕ) (q : ℕ) (y : B) (rest : List ℕ) (r : ℕ) → g x s q ≡ parsed y rest r → FitsB y → Fits x)
      → Beside Excused FitsB (and_then a f) (and_then b g)
  then-beside f g (both_read {x = x} {rest = s} {q = q} fits) each back = each x s q refl fits
  then-beside f g both_refused each back = both_refused
  then-beside f g (excused {b = b} is never) each back =
      excused is
      (λ y rest r e fits.
      let h = and_then-parsed b g e in
      never h.value h.left h.place h.first (back h.value h.left h.place y rest r h.after fits))

  -- both go on behind the same piece
  same_beside :
      {A : Type 0} (a b : Answer A) (f g : A → List ℕ → ℕ → Answer B) → a ≡ b
      → ((x : A) (s : List ℕ) (q : ℕ) → Beside Excused FitsB (f x s q) (g x s q)) → Beside Excused FitsB (and_then a f) (and_then b g)
  same_beside {A} a b f g e each = rw e (go b)
    where
      go : (c : Answer A) → Beside Excused FitsB (and_then c f) (and_then c g)
      go (parsed x s q) = each x s q
      go (refused n q) = both_refused

  nothing-fits : (s : List ℕ) (p : ℕ) → Beside Excused FitsB (unexpected s p) (unexpected s p)
  nothing-fits [] p = both_refused
  nothing-fits (b ∷ s) p = both_refused

-- ---- the nodes of a tree that is drawn

module _ (Fits : Behind → Type 0) where
  fits_append : (l k : List Tree) → AllFit Fits l → AllFit Fits k → AllFit Fits (l ++ k)
  fits_append l k all others u m = by (Memᴰ.append_cases l m)
    where
      by : Memᴰ u l ⊎ Memᴰ u k → Fits (behind_of u)
      by (inl h) = all u h
      by (inr h) = others u h

  fits_one : (t : Tree) → Fits (behind_of t) → AllFit Fits (t ∷ [])
  fits_one t fits u m = subst (λ (v : Tree). Fits (behind_of v)) (sym (Memᴰ.eq_of_singleton m)) fits

  -- all that stands behind the nodes of a tree fits, or behind those of its later children
  abbrev pub FitTree : Tree → Type 0
  FitTree t = AllFit Fits (all_nodes t)

  abbrev pub FitForest : Forest → Type 0
  FitForest f = AllFit Fits (all_nodes_of f)

  -- so it does if it fits behind a leaf, or behind a node and those within it
  pub fits-leaf : (i : ℕ) (b : Behind) → Fits b → FitTree (leaf i b)
  unfolding all_nodes
  fits-leaf i b fits = fits_one (leaf i b) fits

  leaf-fits : (i : ℕ) (b : Behind) → FitTree (leaf i b) → Fits b
  unfolding all_nodes
  leaf-fits i b all = all (leaf i b) (here refl)

  pub fits-node : (t : Tree) (f : Forest) (b : Behind) → FitTree t → FitForest f → Fits b → FitTree (node t f b)
  unfolding all_nodes
  fits-node t f b first others fits =
      fits_append (all_nodes t ++ all_nodes_of f) (node t f b ∷ []) (fits_append (all_nodes t) (all_nodes_of f) first others) (fits_one (node t f b) fits)

  -- the parts of a node that fits
  record NodeFits (t : Tree) (f : Forest) (b : Behind) : Type 0 where
    first : FitTree t
    others : FitForest f
    behind : Fits b

  node-fits : (t : Tree) (f : Forest) (b : Behind) → FitTree (node t f b) → NodeFits t f b
  unfolding all_nodes
  node-fits t f b all = record {
    first = λ u m. all u (Memᴰ.append_left (node t f b ∷ []) (Memᴰ.append_left (all_nodes_of f) m));
    others = λ u m. all u (Memᴰ.append_left (node t f b ∷ []) (Memᴰ.append_right (all_nodes t) m));
    behind = all (node t f b) (Memᴰ.append_right (all_nodes t ++ all_nodes_of f) (here refl));
  }

  -- and for its children
  pub fits_last : (t : Tree) → FitTree t → FitForest (last t)
  unfolding all_nodes_of
  fits_last t first = first

  last_fits : (t : Tree) → FitForest (last t) → FitTree t
  unfolding all_nodes_of
  last_fits t all = all

  pub fits_more : (t : Tree) (f : Forest) → FitTree t → FitForest f → FitForest (more t f)
  unfolding all_nodes_of
  fits_more t f first others = fits_append (all_nodes t) (all_nodes_of f) first others

  more_fits : (t : Tree) (f : Forest) → FitForest (more t f) → FitTree t × FitForest f
  unfolding all_nodes_of
  more_fits t f all = (λ u m. all u (Memᴰ.append_left (all_nodes_of f) m), λ u m. all u (Memᴰ.append_right (all_nodes t) m))

  -- ---- what the reader draws of the parts

  closing-draws :
      (t : Tree) (f : Forest) (s : List ℕ) (p : ℕ) {y : Tree} {rest : List ℕ} {q : ℕ}
      → closing false t f s p ≡ parsed y rest q → FitTree y → FitTree t × FitForest f
  unfolding closing_by
  closing-draws t f s p e all =
      let r = and_then-parsed (inner_name s p) (λ w s p. and_then (supported false w s p) (λ b s p. parsed (node t f b) s p)) e in
      let n = and_then-parsed (supported false r.value r.left r.place) (λ b s p. parsed (node t f b) s p) r.after in
      let parts = node-fits t f n.value (subst FitTree (sym (parsed_same n.after)) all) in
      (parts.first, parts.others)

  first_draws :
      (b c : Bool) (others : ℕ → List ℕ → ℕ → Answer Forest) (seen : ℕ) (t : Tree) (s : List ℕ) (p : ℕ) {y : Tree} {rest : List ℕ} {q : ℕ}
      → after_first false b c others seen t s p ≡ parsed y rest q → FitTree y → FitTree t
  first_draws true c others seen t s p e all =
      let r = and_then-parsed (others (union seen (cluster t)) (tail s) (p + 1)) (λ f s p. closing false t f s p) e in
      (closing-draws t r.value r.left r.place r.after all).0
  first_draws false true others seen t s p e all = absurd (refused-parsed e)
  first_draws false false others seen t s p e all = absurd (unexpected-parsed s p e)

  child-draws :
      (b c : Bool) (others : ℕ → List ℕ → ℕ → Answer Forest) (seen : ℕ) (t : Tree) (s : List ℕ) (p : ℕ) {y : Forest} {rest : List ℕ} {q : ℕ}
      → after_child b c others seen t s p ≡ parsed y rest q → FitForest y → FitTree t
  child-draws true c others seen t s p e all =
      let r = and_then-parsed (others (union seen (cluster t)) (tail s) (p + 1)) (λ f s p. parsed (more t f) s p) e in
      (more_fits t r.value (subst FitForest (sym (parsed_same r.after)) all)).0
  child-draws false true others seen t s p e all = last_fits t (subst FitForest (sym (parsed_same e)) all)
  child-draws false false others seen t s p e all = absurd (unexpected-parsed s p e)

  end_draws :
      (b : Bool) (needed : ℕ) (t : Tree) (s : List ℕ) (p : ℕ) {y : Tree} {rest : List ℕ} {q : ℕ} → ended b needed t s p ≡ parsed y rest q → FitTree y
      → FitTree t
  end_draws true needed t s p {y} {rest} {q} e all = by (within needed (cluster t)) e
    where
      by : (b : Bool) → complete b t s p ≡ parsed y rest q → FitTree t
      by true e = subst FitTree (sym (parsed_same e)) all
      by false e = absurd (refused-parsed e)
  end_draws false needed t s p e all = absurd (unexpected-parsed s p e)

-- ---- the reading

module _
    (S : Scanner) (Fair : List ℕ → Type 0) (Excused : ℕ → Type 0) (Fits : Behind → Type 0) (sim : Simulates S Fair Excused Fits) (names : List (List ℕ))
  where
    fair_moved : {s rest : List ℕ} {p q : ℕ} → Moves s p rest q → Fair s → Fair rest
    fair_moved {s} m fair = rw m.left (sim.fair_drop m.count s fair)

    fair_skip : (s : List ℕ) → Fair s → Fair (skip s)
    fair_skip s fair = rw (skip-drop s) (sim.fair_drop (blanks s) s fair)

    fair_tail : (s : List ℕ) → Fair s → Fair (tail s)
    fair_tail s fair = rw (tail-drop 0 s) (sim.fair_drop 1 s fair)

    abbrev Trees : Answer Tree → Answer Tree → Type 0
    Trees a b = Beside Excused (FitTree Fits) a b

    abbrev Forests : Answer Forest → Answer Forest → Type 0
    Forests a b = Beside Excused (FitForest Fits) a b

    new-beside : (b : Bool) (i begun : ℕ) (s : List ℕ) (p : ℕ) → Trees (leaf_new_by S b i begun s p) (leaf_new false b i begun s p)
    new-beside false i begun s p = both_refused
    new-beside true i begun s p =
        then-beside (λ b s p. parsed (leaf i b) s p) (λ b s p. parsed (leaf i b) s p) (sim.behind_beside [] s p)
        (λ b s p is fits. both_read (fits-leaf Fits i b fits))
        (λ b s p y rest r e all. leaf-fits Fits i b (subst (FitTree Fits) (sym (parsed_same e)) all))

    known-beside : (b : Bool) (i seen begun : ℕ) (s : List ℕ) (p : ℕ) → Trees (leaf_known_by S b i seen begun s p) (leaf_known false b i seen begun s p)
    known-beside false i seen begun s p = both_refused
    known-beside true i seen begun s p = new-beside (apart (single i) seen) i begun s p

    leaf-beside : (seen : ℕ) (s : List ℕ) (p : ℕ) → Fair s → Trees (leaf_by S names seen s p) (leaf_at false names seen s p)
    unfolding leaf_by
    leaf-beside seen s p fair =
        same_beside (S.leaf_name s p) (name s p) (λ w rest q. leaf_known_by S (ltb (position w names) (length names)) (position w names) seen p rest q)
        (λ w rest q. leaf_known false (ltb (position w names) (length names)) (position w names) seen p rest q) (sim.leaf_same s p fair)
        (λ w rest q. known-beside (ltb (position w names) (length names)) (position w names) seen p rest q)

    closing-beside :
        (t : Tree) (f : Forest) (s : List ℕ) (p : ℕ) → Fair s → FitTree Fits t → FitForest Fits f → Trees (closing_by S t f s p) (closing false t f s p)
    unfolding closing_by
    closing-beside t f s p fair first others =
        same_beside (S.inner_name s p) (inner_name s p) (λ w s p. and_then (S.behind w s p) (λ b s p. parsed (node t f b) s p))
        (λ w s p. and_then (supported false w s p) (λ b s p. parsed (node t f b) s p)) (sim.inner_same s p fair)
        (λ w s p.
        then-beside (λ b s p. parsed (node t f b) s p) (λ b s p. parsed (node t f b) s p) (sim.behind_beside w s p)
        (λ b s p is fits. both_read (fits-node Fits t f b first others fits))
        (λ b s p y rest r e all. (node-fits Fits t f b (subst (FitTree Fits) (sym (parsed_same e)) all)).behind))

    abbrev NodeBeside : ℕ → Type 0
    NodeBeside k = (room seen : ℕ) (s : List ℕ) (p : ℕ) → Fair s → Trees (read_node_by S k names room seen s p) (read_node false k names room seen s p)

    abbrev ForestBeside : ℕ → Type 0
    ForestBeside k = (room seen : ℕ) (s : List ℕ) (p : ℕ) → Fair s → Forests (read_forest_by S k names room seen s p) (read_forest false k names room seen s p)

    module _ (k : ℕ) (nodes : NodeBeside k) (forests : ForestBeside k) where
      after_first_beside :
          (room seen : ℕ) (b c : Bool) (t : Tree) (s : List ℕ) (p : ℕ) → Fair s → FitTree Fits t
          → Trees (after_first_by S b c (λ e s p. read_forest_by S k names room e s p) seen t s p)
          (after_first false b c (λ e s p. read_forest false k names room e s p) seen t s p)
      after_first_beside room seen true c t s p fair first =
          let e = union seen (cluster t) in
          let on = fair_tail s fair in
          then-beside (λ f s p. closing_by S t f s p) (λ f s p. closing false t f s p) (forests room e (tail s) (p + 1) on)
          (λ f m r h others. closing-beside t f m r (fair_moved (read_forest_advances false k names room e (tail s) (p + 1) f m r h).moves on) first others)
          (λ f m r y rest q h all. (closing-draws Fits t f m r h all).1)
      after_first_beside room seen false true t s p fair first = both_refused
      after_first_beside room seen false false t s p fair first = nothing-fits s p

      opened-beside :
          (room seen : ℕ) (s : List ℕ) (p : ℕ) → Fair s
          → Trees (opened_by S (λ r e s p. read_node_by S k names r e s p) (λ r e s p. read_forest_by S k names r e s p) room seen s p)
          (opened false (λ r e s p. read_node false k names r e s p) (λ r e s p. read_forest false k names r e s p) room seen s p)
      opened-beside zero seen s p fair = both_refused
      opened-beside (suc room) seen s p fair =
          let on = fair_tail s fair in
          then-beside
          (λ t s p. after_first_by S (next_is 44 (skip s)) (next_is 41 (skip s)) (λ e s p. read_forest_by S k names room e s p) seen t (skip s) (p + blanks s))
          (λ t s p. after_first false (next_is 44 (skip s)) (next_is 41 (skip s)) (λ e s p. read_forest false k names room e s p) seen t (skip s) (p + blanks s))
          (nodes room seen (tail s) (p + 1) on)
          (λ t m r h first.
          let left = fair_moved (read_node_advances false k names room seen (tail s) (p + 1) t m r h).moves on in
          after_first_beside room seen (next_is 44 (skip m)) (next_is 41 (skip m)) t (skip m) (r + blanks m) (fair_skip m left) first)
          (λ t m r y rest q h all.
          first_draws Fits (next_is 44 (skip m)) (next_is 41 (skip m)) (λ e s p. read_forest false k names room e s p) seen t (skip m) (r + blanks m) h all)

      node-step : NodeBeside (suc k)
      unfolding read_node_by
      node-step room seen s p fair = rw (sim.begins_same (skip s) (fair_skip s fair)) (by (next_label (skip s)) (next_is 40 (skip s)))
        where
          by : (b c : Bool)
              → Trees
              (node_of S b c names (λ r e s p. read_node_by S k names r e s p) (λ r e s p. read_forest_by S k names r e s p) room seen (skip s) (p + blanks s))
              (node_by false b c names (λ r e s p. read_node false k names r e s p) (λ r e s p. read_forest false k names r e s p) room seen (skip s)
              (p + blanks s))
          by true c = leaf-beside seen (skip s) (p + blanks s) (fair_skip s fair)
          by false true = opened-beside room seen (skip s) (p + blanks s) (fair_skip s fair)
          by false false = nothing-fits (skip s) (p + blanks s)

      after-child-beside :
          (room seen : ℕ) (b c : Bool) (t : Tree) (s : List ℕ) (p : ℕ) → Fair s → FitTree Fits t
          → Forests (after_child b c (λ e s p. read_forest_by S k names room e s p) seen t s p)
          (after_child b c (λ e s p. read_forest false k names room e s p) seen t s p)
      after-child-beside room seen true c t s p fair first =
          then-beside (λ f s p. parsed (more t f) s p) (λ f s p. parsed (more t f) s p)
          (forests room (union seen (cluster t)) (tail s) (p + 1) (fair_tail s fair))
          (λ f m r h others. both_read (fits_more Fits t f first others))
          (λ f m r y rest q e all. (more_fits Fits t f (subst (FitForest Fits) (sym (parsed_same e)) all)).1)
      after-child-beside room seen false true t s p fair first = both_read (fits_last Fits t first)
      after-child-beside room seen false false t s p fair first = nothing-fits s p

      forest_step : ForestBeside (suc k)
      unfolding read_forest_by
      forest_step room seen s p fair =
          then-beside
          (λ t s p. after_child (next_is 44 (skip s)) (next_is 41 (skip s)) (λ e s p. read_forest_by S k names room e s p) seen t (skip s) (p + blanks s))
          (λ t s p. after_child (next_is 44 (skip s)) (next_is 41 (skip s)) (λ e s p. read_forest false k names room e s p) seen t (skip s) (p + blanks s))
          (nodes room seen s p fair)
          (λ t m r h first.
          let left = fair_moved (read_node_advances false k names room seen s p t m r h).moves fair in
          after-child-beside room seen (next_is 44 (skip m)) (next_is 41 (skip m)) t (skip m) (r + blanks m) (fair_skip m left) first)
          (λ t m r y rest q h all.
          child-draws Fits (next_is 44 (skip m)) (next_is 41 (skip m)) (λ e s p. read_forest false k names room e s p) seen t (skip m) (r + blanks m) h all)

    both_beside : (k : ℕ) → NodeBeside k × ForestBeside k
    unfolding read_node_by
    both_beside zero = (λ room seen s p fair. both_refused, λ room seen s p fair. both_refused)
    both_beside (suc k) = let h = both_beside k in (node-step k h.0 h.1, forest_step k h.0 h.1)

    end_beside : (b : Bool) (needed : ℕ) (t : Tree) (s : List ℕ) (p : ℕ) → FitTree Fits t → Trees (ended b needed t s p) (ended b needed t s p)
    end_beside true needed t s p first = by (within needed (cluster t))
      where
        by : (b : Bool) → Trees (complete b t s p) (complete b t s p)
        by true = both_read first
        by false = both_refused
    end_beside false needed t s p first = nothing-fits s p

    -- a tree read by the scanner, beside the reader's
    pub read-beside :
        (most needed : ℕ) (s : List ℕ) (p : ℕ) → Fair s
        → Beside Excused (λ t. AllFit Fits (all_nodes t)) (read_tree_by S names most needed s p) (read_tree false names most needed s p)
    unfolding read_tree_by read_tree_to_by
    read-beside most needed s p fair =
        then-beside (λ t s p. ended (next_is 59 (skip s)) needed t (skip s) (p + blanks s))
        (λ t s p. ended (next_is 59 (skip s)) needed t (skip s) (p + blanks s))
        ((both_beside (2 * length s + 1)).0 most 0 s p fair)
        (λ t m r h first. end_beside (next_is 59 (skip m)) needed t (skip m) (r + blanks m) first)
        (λ t m r y rest q h all. end_draws Fits (next_is 59 (skip m)) needed t (skip m) (r + blanks m) h all)
