-- The text of a valid record draws, by the grammar's rules, the tree that the record draws, with what its notes say behind the nodes.
use Prim.Native.Nat.{ℕ, zero, suc, ◌^◌, ◌≤◌, ◌<◌}
use mathlib.Core.Path.{◌≡◌, refl, sym, ap, ap₂, subst}
use mathlib.Core.Bool.{false}
use mathlib.Core.List.Memᴰ
use mathlib.Core.List.Memᴰ.{head as here}
use mathlib.Core.List.Memᴰ.{tail as there}
use mathlib.Core.List.{List, [], ◌∷◌, ◌++◌, append_assoc}
use native.Mathlib.Decide.{ℕ_discrete}
use native.Mathlib.Omega.{arith}
use lib.ListN.{length, get_or}
use borrow.Author.Tests.{le-leb}
use Rattle.clusters.specs.Sets.{size}
use Rattle.clusters.proofs.Sets.{within-below}
use Rattle.clusters.proofs.Sizes.{size_some, size-within_lt, size-le}
use Rattle.clusters.proofs.LowestSpecies.{lowest-below}
use Rattle.labels.specs.Bytes.{is_digit}
use Rattle.labels.specs.Spelling.{Run}
use Rattle.labels.specs.Spelling.Run.{one, next}
use Rattle.labels.proofs.Bytewise.{All, all_of}
use Rattle.labels.proofs.Bytewise.All.{a_byte}
use Rattle.labels.proofs.Written.{label-spells}
use Rattle.trees.specs.Lists.{Among}
use Rattle.trees.specs.Tree.{Tree, Forest, Behind, cluster, clusters, clusters_of}
use Rattle.trees.specs.Tree.Tree.{leaf, node}
use Rattle.trees.specs.Tree.Forest.{last, more}
use Rattle.trees.specs.Records.{listed, largest, GeneValid}
use Rattle.trees.specs.Drawn.{bare, children, forest_over, node_over, drawn}
use Rattle.trees.proofs.Children.{Hierarchy, hierarchy_of_valid, among-children, cluster-below, children_two}
use Rattle.trees.proofs.Drawing.{drawn-node, drawn-leaf, drawn-draws}
use Rattle.trees.proofs.GeneRecords.{gene-small}
use Rattle.nodes.specs.Reading.{open_most}
use Rattle.nodes.specs.Grammar.{strict, Blanks, Numbers, Node, Children, Text}
use Rattle.nodes.specs.Grammar.Blanks.{none}
use Rattle.nodes.specs.Grammar.Number.{whole}
use Rattle.nodes.specs.Grammar.ColonNumber.{colon}
use Rattle.nodes.specs.Grammar.Numbers.{nothing, distance}
use Rattle.nodes.specs.Grammar.Inner.{nameless}
use Rattle.nodes.specs.Grammar.Node.{a_leaf, an_inner}
use Rattle.nodes.specs.Grammar.Children.{the_last, with_more}
use Rattle.nodes.specs.Grammar.Text.{text}
use Rattle.printing.specs.Words.{decimal}
use Rattle.printing.proofs.Digits.{decimal-digits}
use Rattle.texts.specs.Writing.{note, count_note, node_with, others_with, written_with, bearing, bearing_all, count_behind, counted}
use Rattle.texts.proofs.NoteSums.{decimal_some, decimal-within}
use Rattle.writer.proofs.RosterNames.{GoodNames}

-- ---- trees without anything written behind their nodes

-- the leaves are below n, nothing is written behind a node, and at most k parentheses are open at once
mutual
  pub data Plain (n : ℕ) : ℕ → Tree → Type 0 where
    plain-leaf : {k i : ℕ} {b : Behind} → b ≡ bare → i < n → Plain n k (leaf i b)
    plain-node : {k : ℕ} {t : Tree} {f : Forest} {b : Behind} → b ≡ bare → Plain n k t → PlainAll n k f → Plain n (suc k) (node t f b)

  pub data PlainAll (n : ℕ) : ℕ → Forest → Type 0 where
    plain_last : {k : ℕ} {t : Tree} → Plain n k t → PlainAll n k (last t)
    plain_more : {k : ℕ} {t : Tree} {f : Forest} → Plain n k t → PlainAll n k f → PlainAll n k (more t f)

-- with nothing behind their nodes they are themselves
mutual
  unfolding bearing bearing_all

  bearing-nothing : {n k : ℕ} {t : Tree} → Plain n k t → bearing (λ a. bare) t ≡ t
  bearing-nothing (plain-leaf {i = i} e h) = rw e
  bearing-nothing (plain-node {t = t} {f = f} e p q) = rw e (ap₂ (λ (u : Tree) (g : Forest). node u g bare) (bearing-nothing p) (bearing-nothing_all q))

  bearing-nothing_all : {n k : ℕ} {f : Forest} → PlainAll n k f → bearing_all (λ a. bare) f ≡ f
  bearing-nothing_all (plain_last p) = ap last (bearing-nothing p)
  bearing-nothing_all (plain_more p q) = ap₂ more (bearing-nothing p) (bearing-nothing_all q)

-- ---- what the notes say

-- the note of a cluster says, by the grammar, what stands behind its node: no name, and the numbers
pub record Says (names : List (List ℕ)) (notes : ℕ → List ℕ) (behind : ℕ → Behind) (a : ℕ) : Type 0 where
  pub said_distance : List ℕ
  pub said_support : List ℕ
  pub is : behind a ≡ record { name = []; distance = said_distance; support = said_support }
  pub numbers : (rest : List ℕ) → Numbers (strict false names) said_distance said_support (notes a ++ rest) rest

-- the empty note: nothing stands there
pub says_nothing : (names : List (List ℕ)) (a : ℕ) → Says names note (λ b. bare) a
says_nothing names a = record { said_distance = []; said_support = []; is = refl; numbers = λ rest. nothing }

-- one or more digits are a run of them
run_of : (w rest : List ℕ) → 0 < length w → All is_digit w → Run is_digit w (w ++ rest) rest
run_of [] rest h all = absurd (omega arith)
run_of (d ∷ []) rest h (a_byte is all) = one is
run_of (d ∷ e ∷ w) rest h (a_byte is all) = next is (run_of (e ∷ w) rest (omega arith) all)

-- so the digits of a number are
pub decimal-run : (x : ℕ) (rest : List ℕ) → x < 10 ^ 20 → Run is_digit (decimal x) (decimal x ++ rest) rest
decimal-run x rest small = run_of (decimal x) rest (decimal_some x small) digits
  where
    digits : All is_digit (decimal x)
    digits = all_of (decimal x) (λ k l. let d = decimal-digits x k l in rw (le-leb 48 (get_or (decimal x) k 0) d.0, le-leb (get_or (decimal x) k 0) 57 d.1))

-- the note of a count: the count, where it keeps to twelve digits
pub says-count : (names : List (List ℕ)) (counts : ℕ → ℕ) (a : ℕ) → counts a < 10 ^ 12 → Says names (count_note counts) (count_behind counts) a
says-count names counts a small = record {
  said_distance = decimal (counts a);
  said_support = [];
  is = refl;
  numbers = λ rest. distance (colon none none (whole (decimal-run (counts a) rest (omega arith))) (decimal-within 11 (counts a) (omega arith) small));
}

-- ---- the text of a tree

-- the text of children behind a comma, with their closing parenthesis
record Commaed (notes : ℕ → List ℕ) (behind : ℕ → Behind) (names : List (List ℕ)) (k : ℕ) (f : Forest) (rest : List ℕ) : Type 0 where
  later : List ℕ
  comma : others_with notes names f ++ 41 ∷ rest ≡ 44 ∷ later
  derived : Children (strict false names) k later (bearing_all behind f) rest

module _ {names : List (List ℕ)} (good : GoodNames names) (notes : ℕ → List ℕ) (behind : ℕ → Behind) where
  leaf-derives :
      {k : ℕ} (i : ℕ) (b : Behind) (rest : List ℕ) → i < length names → Says names notes behind (cluster (leaf i b))
      → Node (strict false names) k (node_with notes names (leaf i b) ++ rest) (bearing behind (leaf i b)) rest
  unfolding node_with bearing
  leaf-derives i b rest h said =
      let n = good.each i h in
      let after = notes (cluster (leaf i b)) ++ rest in
      rw (append_assoc, said.is)
      (a_leaf none (label-spells (get_or names i []) after n.some n.printable) (n.short, good.distinct i h, h) (said.numbers rest))

  mutual
    unfolding node_with others_with bearing bearing_all clusters clusters_of cluster

    node-derives :
        {k : ℕ} {t : Tree} (rest : List ℕ) → Plain (length names) k t → ((a : ℕ) → Among a (clusters t) → Says names notes behind a)
        → Node (strict false names) k (node_with notes names t ++ rest) (bearing behind t) rest
    node-derives rest (plain-leaf {k} {i} {b} e h) says = leaf-derives i b rest h (says (cluster (leaf i b)) (here refl))
    node-derives rest (plain-node {k} {t} {f} {b} d p q) says =
        let top = cluster (node t f b) in
        let inside = clusters t ++ clusters_of f in
        let said = says top (Memᴰ.append_right inside (here refl)) in
        let after = notes top ++ rest in
        let own : Behind = record { name = []; distance = said.said_distance; support = said.said_support } in
        let c = others_derive after q (λ a m. says a (Memᴰ.append_left (top ∷ []) (Memᴰ.append_right (clusters t) m))) in
        let first = node-derives (others_with notes names f ++ 41 ∷ after) p (λ a m. says a (Memᴰ.append_left (top ∷ []) (Memᴰ.append_left (clusters_of f) m))) in
        let e : (node_with notes names t ++ others_with notes names f ++ 41 ∷ notes top) ++ rest ≡ node_with notes names t ++ (others_with notes names f ++ 41 ∷ after) =
        simp append_assoc
        in
        subst (λ (x : Behind). Node (strict false names) (suc k) (node_with notes names (node t f b) ++ rest) (node (bearing behind t) (bearing_all behind f) x) rest)
        (sym said.is)
        (subst (λ (s : List ℕ). Node (strict false names) (suc k) (40 ∷ s) (node (bearing behind t) (bearing_all behind f) own) rest) (sym e)
        (an_inner none first (subst (λ (s : List ℕ). Blanks s (44 ∷ c.later)) (sym c.comma) none) c.derived nameless (said.numbers rest)))

    others_derive :
        {k : ℕ} {f : Forest} (rest : List ℕ) → PlainAll (length names) k f → ((a : ℕ) → Among a (clusters_of f) → Says names notes behind a)
        → Commaed notes behind names k f rest
    others_derive rest (plain_last {k} {t} p) says = record {
      later = node_with notes names t ++ 41 ∷ rest;
      comma = refl;
      derived = the_last (node-derives (41 ∷ rest) p says) none;
    }
    others_derive rest (plain_more {k} {t} {f} p q) says =
        let c = others_derive rest q (λ a m. says a (Memᴰ.append_right (clusters t) m)) in
        let first = node-derives (others_with notes names f ++ 41 ∷ rest) p (λ a m. says a (Memᴰ.append_left (clusters_of f) m)) in
        record {
          later = node_with notes names t ++ (others_with notes names f ++ 41 ∷ rest);
          comma = simp append_assoc;
          derived = with_more first (subst (λ (s : List ℕ). Blanks s (44 ∷ c.later)) (sym c.comma) none) c.derived;
        }

-- ---- the tree that a record draws

module _ {n k : ℕ} (draw : ℕ → Tree) where
  forest-plain : (b : ℕ) (l : List ℕ) → ((x : ℕ) → Among x (b ∷ l) → Plain n k (draw x)) → PlainAll n k (forest_over draw b l)
  forest-plain b [] p = plain_last (p b (here refl))
  forest-plain b (c ∷ l) p = plain_more (p b (here refl)) (forest-plain c l (λ x h. p x (there h)))

  over_plain : (l : List ℕ) → 2 ≤ length l → ((x : ℕ) → Among x l → Plain n k (draw x)) → Plain n (suc k) (node_over draw l)
  over_plain [] h p = absurd (omega arith)
  over_plain (b ∷ []) h p = absurd (omega arith)
  over_plain (b ∷ c ∷ l) h p = plain-node refl (p b (here refl)) (forest-plain c l (λ x m. p x (there m)))

module _ {s : ℕ} {cs : List ℕ} (h : Hierarchy s cs) (n : ℕ) (below : s < 2 ^ n) where
  leaf-plain : {k : ℕ} (a : ℕ) → Among a cs → size a ≡ 1 → Plain n k (drawn cs a)
  leaf-plain {k} a m e =
      rw (drawn-leaf cs a e) (plain-leaf refl (lowest-below n (h.inside a m).0 (cluster-below h m) (within-below s n (h.inside a m).1 below)))

  -- each child is smaller than its parent, so a cluster of k + 1 species opens at most k parentheses at once
  drawn_plain : (k a : ℕ) → Among a cs → size a ≤ suc k → Plain n k (drawn cs a)
  drawn_plain zero a m l = leaf-plain a m (let p = size_some (h.inside a m).0 in omega arith)
  drawn_plain (suc k) a m l = go (ℕ_discrete (size a) 1) (λ x. drawn_plain k x)
    where
      go : Dec (size a ≡ 1) → ((x : ℕ) → Among x cs → size x ≤ suc k → Plain n k (drawn cs x)) → Plain n (suc k) (drawn cs a)
      go (yes e) ih = leaf-plain a m e
      go (no e) ih =
          rw (drawn-node h m e)
          (over_plain (λ b. drawn cs b) (children cs a) (children_two h m e)
          (λ x i. let c = among-children cs a i in let q = size-within_lt x a c.inside c.other in ih x c.among (omega arith)))

-- ---- a valid gene record

module _ (names : List (List ℕ)) {r : List ℕ} (g : GoodNames names) (v : GeneValid (length names) r) where
  tree_plain : Plain (length names) open_most (drawn (listed r) (largest r))
  tree_plain =
      let n = length names in
      let h = hierarchy_of_valid v.valid (gene-small g.few v) in
      let l : size (largest r) ≤ suc open_most = let e = size-le n v.of_roster.1 in let f = g.few in omega arith in
      drawn_plain h n v.of_roster.1 open_most (largest r) v.valid.all l

  -- its text derives the tree that it draws, with what the notes say behind the nodes
  pub derives-written :
      (notes : ℕ → List ℕ) (behind : ℕ → Behind) → ((a : ℕ) → Among a (listed r) → Says names notes behind a)
      → Text (strict false names) open_most (written_with notes names r) (bearing behind (drawn (listed r) (largest r))) []
  unfolding written_with
  derives-written notes behind says =
      let d = drawn-draws (hierarchy_of_valid v.valid (gene-small g.few v)) v.valid.all in
      text (node-derives g notes behind (59 ∷ []) tree_plain (λ a m. says a (d.fewer a m))) none

  -- with counts of at most twelve digits, the tree with each count behind its node (#114)
  pub derives-counted :
      (counts : ℕ → ℕ) → ((a : ℕ) → Among a (listed r) → counts a < 10 ^ 12)
      → Text (strict false names) open_most (written_with (count_note counts) names r) (counted counts (drawn (listed r) (largest r))) []
  derives-counted counts small = derives-written (count_note counts) (count_behind counts) (λ a m. says-count names counts a (small a m))

  -- without notes that is the tree itself
  pub drawn-bare : bearing (λ a. bare) (drawn (listed r) (largest r)) ≡ drawn (listed r) (largest r)
  drawn-bare = bearing-nothing tree_plain
