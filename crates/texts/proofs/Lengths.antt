-- How long a record's text is: the labels of its species, two bytes for each cluster less one for each species, and the notes.
use Prim.Native.Nat.{ℕ, suc, ◌+◌, ◌*◌, ◌≤◌, ◌<◌}
use mathlib.Core.Path.{◌≡◌, refl, sym, ap, ◌∙◌}
use mathlib.Core.List.Memᴰ
use mathlib.Core.List.Memᴰ.{head as here}
use mathlib.Core.List.{List, [], ◌∷◌, ◌++◌}
use native.Mathlib.Nat.{add-mul}
use native.Mathlib.Decide.{ℕ_discrete, dec_lt}
use native.Mathlib.Omega.{arith}
use lib.ListN.{length, get_or, set, replicate, length-append, get_or-eq_default}
use lib.Seq.{get_or-set_same, get_or-set_other}
use Rattle.clusters.specs.Sets.{size}
use Rattle.clusters.proofs.Members.{has-below}
use Rattle.clusters.proofs.Sizes.{size-single, size-apart, size-le}
use Rattle.labels.specs.Bytes.{is_name}
use Rattle.labels.specs.Labels.{doubled}
use Rattle.labels.specs.Writing.{Name, may_be_bare, label_of}
use Rattle.labels.proofs.Bytewise.{All}
use Rattle.labels.proofs.Written.{label_as_it_is, label-short, label-longest}
use Rattle.trees.specs.Lists.{Among, NoneTwice, total}
use Rattle.trees.specs.Tree.{Tree, Forest, leaves, leaves_of, clusters, clusters_of, cluster, cluster_of, On}
use Rattle.trees.specs.Tree.Tree.{leaf, node}
use Rattle.trees.specs.Tree.Forest.{last, more}
use Rattle.trees.specs.Records.{count, listed, largest, GeneValid}
use Rattle.trees.specs.Drawn.{drawn}
use Rattle.trees.proofs.Listing.{none_twice_left, none_twice_right}
use Rattle.trees.proofs.Totals.{total_append}
use Rattle.trees.proofs.Recorded.{length-listed}
use Rattle.trees.proofs.Nodes.{leaf-has, children-apart}
use Rattle.trees.proofs.Drawing.{drawn_on}
use Rattle.trees.proofs.Bounds.{count-drawn, count_lt_twice}
use Rattle.trees.proofs.GeneRecords.{gene-small}
use Rattle.texts.specs.Writing.{label, note, count_note, node_with, others_with, written_with, written}
use Rattle.texts.specs.Work.{labels_in}
use Rattle.roster.specs.Roster.{position}
use Rattle.roster.proofs.Positions.{Distinct}
use Rattle.texts.proofs.LabelSums.{labels_union, labels_single, labels_shorter}
use Rattle.texts.proofs.NoteSums.{note_bytes, drawn_notes, no_note_bytes, note-bytes_most, decimal-within}

-- ---- the text of a tree

length_around : (a b c : List ℕ) → length (40 ∷ a ++ b ++ 41 ∷ c) ≡ length a + length b + length c + 2
length_around a b c = let e = length-append (a ++ b) (41 ∷ c) in let d = length-append a b in omega arith

-- the species of the leaves are below n
abbrev LeavesBelow : ℕ → List ℕ → Type 0
LeavesBelow n l = (i : ℕ) → Among i l → i < n

-- a node, and the children behind a first one: each of their species is a leaf once
mutual
  unfolding node_with others_with leaves leaves_of cluster cluster_of clusters clusters_of total

  node-length :
      (notes : ℕ → List ℕ) (names : List (List ℕ)) (n : ℕ) (t : Tree) → NoneTwice (leaves t) → LeavesBelow n (leaves t)
      → length (node_with notes names t) + size (cluster t) + 1 ≡ labels_in names (cluster t) n + 2 * length (clusters t) + note_bytes notes (clusters t)
  node-length notes names n (leaf i b) p q =
      let e = length-append (label (get_or names i [])) (notes (cluster (leaf i b))) in
      let l = labels_single names i n (q i (here refl)) in
      let s = size-single i in
      omega arith
  node-length notes names n (node t f b) p q =
      let top = cluster (node t f b) in
      let h = node-length notes names n t (none_twice_left (leaves t) (leaves_of f) p) (λ i m. q i (Memᴰ.append_left (leaves_of f) m)) in
      let k = others-length notes names n f (none_twice_right (leaves t) (leaves_of f) p) (λ i m. q i (Memᴰ.append_right (leaves t) m)) in
      let l = labels_union names (cluster t) (cluster_of f) n (children-apart t f p) in
      let s = size-apart (cluster t) (cluster_of f) (children-apart t f p) in
      let c = length-append (clusters t ++ clusters_of f) (top ∷ []) in
      let d = length-append (clusters t) (clusters_of f) in
      let e = length_around (node_with notes names t) (others_with notes names f) (notes top) in
      let u = total_append (λ a. length (notes a)) (clusters t ++ clusters_of f) (top ∷ []) in
      let v = total_append (λ a. length (notes a)) (clusters t) (clusters_of f) in
      omega arith

  others-length :
      (notes : ℕ → List ℕ) (names : List (List ℕ)) (n : ℕ) (f : Forest) → NoneTwice (leaves_of f) → LeavesBelow n (leaves_of f)
      → length (others_with notes names f) + size (cluster_of f) ≡ labels_in names (cluster_of f) n + 2 * length (clusters_of f) + note_bytes notes (clusters_of f)
  others-length notes names n (last t) p q = let h = node-length notes names n t p q in omega arith
  others-length notes names n (more t f) p q =
      let h = node-length notes names n t (none_twice_left (leaves t) (leaves_of f) p) (λ i m. q i (Memᴰ.append_left (leaves_of f) m)) in
      let k = others-length notes names n f (none_twice_right (leaves t) (leaves_of f) p) (λ i m. q i (Memᴰ.append_right (leaves t) m)) in
      let l = labels_union names (cluster t) (cluster_of f) n (children-apart t f p) in
      let s = size-apart (cluster t) (cluster_of f) (children-apart t f p) in
      let c = length-append (clusters t) (clusters_of f) in
      let e = length-append (node_with notes names t) (others_with notes names f) in
      let v = total_append (λ a. length (notes a)) (clusters t) (clusters_of f) in
      omega arith

-- labels of at most L bytes
mutual
  unfolding leaves leaves_of cluster cluster_of

  labels_bound :
      (names : List (List ℕ)) (n L : ℕ) (t : Tree) → ((i : ℕ) → i < n → length (label (get_or names i [])) ≤ L) → NoneTwice (leaves t) → LeavesBelow n (leaves t)
      → labels_in names (cluster t) n ≤ size (cluster t) * L
  labels_bound names n L (leaf i b) short p q =
      let l = labels_single names i n (q i (here refl)) in
      let s = short i (q i (here refl)) in
      rw (size-single i) (omega arith)
  labels_bound names n L (node t f b) short p q =
      let h = labels_bound names n L t short (none_twice_left (leaves t) (leaves_of f) p) (λ i m. q i (Memᴰ.append_left (leaves_of f) m)) in
      let k = labels_bound_of names n L f short (none_twice_right (leaves t) (leaves_of f) p) (λ i m. q i (Memᴰ.append_right (leaves t) m)) in
      let l = labels_union names (cluster t) (cluster_of f) n (children-apart t f p) in
      let d = add-mul (size (cluster t)) (size (cluster_of f)) L in
      rw (size-apart (cluster t) (cluster_of f) (children-apart t f p)) (omega arith)

  labels_bound_of :
      (names : List (List ℕ)) (n L : ℕ) (f : Forest) → ((i : ℕ) → i < n → length (label (get_or names i [])) ≤ L) → NoneTwice (leaves_of f) → LeavesBelow n (leaves_of f)
      → labels_in names (cluster_of f) n ≤ size (cluster_of f) * L
  labels_bound_of names n L (last t) short p q = labels_bound names n L t short p q
  labels_bound_of names n L (more t f) short p q =
      let h = labels_bound names n L t short (none_twice_left (leaves t) (leaves_of f) p) (λ i m. q i (Memᴰ.append_left (leaves_of f) m)) in
      let k = labels_bound_of names n L f short (none_twice_right (leaves t) (leaves_of f) p) (λ i m. q i (Memᴰ.append_right (leaves t) m)) in
      let l = labels_union names (cluster t) (cluster_of f) n (children-apart t f p) in
      let d = add-mul (size (cluster t)) (size (cluster_of f)) L in
      rw (size-apart (cluster t) (cluster_of f) (children-apart t f p)) (omega arith)

-- ---- the longest labels

-- the one name whose label has 32 bytes, and one whose label has 31
abbrev all_quotes : List ℕ
all_quotes = replicate 15 39

abbrev next_longest : List ℕ
next_longest = 97 ∷ replicate 14 39

next_longest_lem : length (label next_longest) ≡ 31
unfolding label_of may_be_bare doubled
next_longest_lem = refl

-- ---- the text of a record

module _ (names : List (List ℕ)) {r : List ℕ} (few : length names ≤ 16) (g : GeneValid (length names) r) where
  -- the tree that it draws
  abbrev tree : Tree
  tree = drawn (listed r) (largest r)

  on_largest : On (largest r) tree
  on_largest = drawn_on g.valid (gene-small few g)

  leaves-named : LeavesBelow (length names) (leaves tree)
  leaves-named i m = has-below (length names) g.of_roster.1 (rw on_largest.all at (leaf-has tree i m))

  -- two bytes for each cluster less one for each species, the labels, and the notes of its clusters
  pub text-length_with :
      (notes : ℕ → List ℕ)
      → length (written_with notes names r) + size (largest r) ≡ labels_in names (largest r) (length names) + 2 * count r + note_bytes notes (listed r)
  unfolding written_with
  text-length_with notes =
      let h = node-length notes names (length names) tree on_largest.once leaves-named in
      let e = length-append (node_with notes names tree) (59 ∷ []) in
      let s = ap (λ (a : ℕ). labels_in names a (length names)) on_largest.all in
      let k = ap size on_largest.all in
      let c = count-drawn g.valid (gene-small few g) in
      let n = drawn_notes notes g.valid (gene-small few g) in
      omega arith

  pub text-length : length (written names r) + size (largest r) ≡ labels_in names (largest r) (length names) + 2 * count r
  unfolding written
  text-length = let h = text-length_with note in let n = no_note_bytes (listed r) in omega arith

  -- the text with notes is by them longer
  pub noted-length : (notes : ℕ → List ℕ) → length (written_with notes names r) ≡ length (written names r) + note_bytes notes (listed r)
  noted-length notes = let h = text-length_with notes in let k = text-length in omega arith

  -- notes of at most k bytes
  pub noted-bound :
      (notes : ℕ → List ℕ) (k : ℕ) → ((a : ℕ) → Among a (listed r) → length (notes a) ≤ k)
      → length (written_with notes names r) ≤ length (written names r) + k * count r
  noted-bound notes k short =
      let e = noted-length notes in
      let b = note-bytes_most notes k (listed r) short in
      let c = ap (λ (m : ℕ). k * m) (length-listed r g.valid.form) in
      omega arith

  -- labels of at most so many bytes in all make a text of three more for each species, less 2
  text-within : (bytes : ℕ) → labels_in names (largest r) (length names) ≤ bytes → length (written names r) + 2 ≤ bytes + 3 * size (largest r)
  text-within bytes h =
      let a = text-length in
      let c = count_lt_twice g.valid (gene-small few g) in
      omega arith

  labels_within :
      (others : List (List ℕ)) (L : ℕ) → ((i : ℕ) → i < length names → length (label (get_or others i [])) ≤ L)
      → labels_in others (largest r) (length names) ≤ size (largest r) * L
  labels_within others L short = rw on_largest.all at (labels_bound others (length names) L tree short on_largest.once leaves-named)

  -- "never passes": labels of at most L bytes make a text of at most L + 3 for each species, less 2
  pub text-bound :
      (L : ℕ) → ((i : ℕ) → i < length names → length (label (get_or names i [])) ≤ L) → length (written names r) + 2 ≤ size (largest r) * L + 3 * size (largest r)
  text-bound L short = text-within (size (largest r) * L) (labels_within names L short)

  -- "Names are 1 to 15 printable bytes" (#103)
  module _ (each : (i : ℕ) → i < length names → Name (get_or names i [])) where
    -- "The text ends in `;`", and "Its bound becomes 558 bytes" (#103)
    pub text_most_lem : length (written names r) ≤ 558
    text_most_lem =
        let a = text-bound 32 (λ i h. label-short (get_or names i []) (each i h).short) in
        let b = size-le (length names) g.of_roster.1 in
        omega arith

    -- with counts of at most five digits it has at most 744 bytes: a colon and the digits for each of at most 31 clusters (#114)
    pub counted_most : (counts : ℕ → ℕ) → ((a : ℕ) → Among a (listed r) → counts a < 100000) → length (written_with (count_note counts) names r) ≤ 744
    counted_most counts small =
        let a = noted-bound (count_note counts) 6 (λ x m. let s = small x m in let d = decimal-within 4 (counts x) (omega arith) s in omega arith) in
        let b = text_most_lem in
        let c = g.valid.form.counted in
        omega arith

    -- "never passes 286 bytes": on names of letters and digits, which are written as they are
    pub text_of_letters : ((i : ℕ) → i < length names → All is_name (get_or names i [])) → length (written names r) ≤ 286
    text_of_letters letters =
        let a = text-bound 15 (λ i h. rw (label_as_it_is (letters i h)) (each i h).short) in
        let b = size-le (length names) g.of_roster.1 in
        omega arith

    module _ (distinct : Distinct names) where
      -- where the name of fifteen quotes stands, if it does
      abbrev longest : ℕ
      longest = position all_quotes names

      -- with another name for that one all labels are shorter
      others-short : (i : ℕ) → i < length names → length (label (get_or (set names longest next_longest) i [])) ≤ 31
      others-short i h = go (ℕ_discrete i longest)
        where
          go : Dec (i ≡ longest) → length (label (get_or (set names longest next_longest) i [])) ≤ 31
          go (yes e) =
              let same =
              ap (λ (w : List ℕ). length (label w)) (ap (λ (j : ℕ). get_or (set names longest next_longest) j []) e ∙ get_or-set_same names longest next_longest [] (omega arith))
              in
              let n = next_longest_lem in
              omega arith
          go (no n) =
              rw (get_or-set_other names longest i next_longest [] n)
              (label-longest (get_or names i []) (each i h).short (λ e. n (sym (distinct i h) ∙ ap (λ (w : List ℕ). position w names) e)))

      longest-label : length (label (get_or names longest [])) ≤ 32
      longest-label = go (dec_lt longest (length names))
        where
          go : Dec (longest < length names) → length (label (get_or names longest [])) ≤ 32
          go (yes h) = label-short (get_or names longest []) (each longest h).short
          go (no n) = rw (get_or-eq_default names [] {n = longest} (omega arith)) (label-short [] (omega arith))

      -- no two names are equal, so one label at most has 32 bytes, and no text more than 543
      pub text-longest : length (written names r) ≤ 543
      text-longest =
          let l = labels_within (set names longest next_longest) 31 others-short in
          let k = labels_shorter names (largest r) longest next_longest (rw next_longest_lem longest-label) (length names) (omega arith) in
          let a = text-within (suc (size (largest r) * 31)) (omega arith) in
          let b = size-le (length names) g.of_roster.1 in
          omega arith
