-- The ends that are found in a tree text are those of the tree that it draws (#114): one for each node, in the order in which the nodes end.
use Prim.Native.Nat.{ℕ, ◌+◌, ◌-◌}
use native.Mathlib.Omega.{arith}
use mathlib.Core.Path.{◌≡◌, sym, ap, ◌∙◌}
use mathlib.Core.Bool.{Bool}
use mathlib.Core.List.{List, map}
use lib.ListN.{length, drop, length-drop, length-map}
use Rattle.trees.specs.Tree.{Tree}
use Rattle.trees.specs.Thinned.{all_nodes}
use Rattle.roster.specs.Roster.{names}
use Rattle.tokens.specs.Answers.Answer.{parsed}
use Rattle.tokens.specs.Supports.{is_given, Threshold}
use Rattle.nodes.specs.Grammar.{strict, Node, Text}
use Rattle.nodes.specs.Grammar.Text.{text as ended-text}
use Rattle.nodes.specs.Reading.{read_tree}
use Rattle.nodes.specs.Worth.{behind_of}
use Rattle.nodes.proofs.Exact.{Follows, semicolon_follows}
use Rattle.nodes.proofs.Sound.{read_sound}
use Rattle.reader.specs.Accepted.{Draws}
use Rattle.reader.specs.Promise.{answer_to}
use Rattle.reader.specs.declared.Kind.{Kind}
use Rattle.reader.proofs.Accepts.{accepted-derives}
use Rattle.branches.specs.Ends.{behinds, behinds_of, End, ends_from}
use Rattle.branches.proofs.Found.{Found, ending_ends, node-found}

-- one end for each of the nodes, with what is written behind it, and at the place of the text behind it, where the whole text has n bytes
pub record EndsOf (n : ℕ) (nodes : List Tree) (xs : List (List ℕ)) (ends : List End) : Type 0 where
  pub many : length ends ≡ length nodes
  pub behind : map (λ e. e.behind) ends ≡ map behind_of nodes
  pub places : map (λ e. e.place) ends ≡ map (λ x. n - length x) xs

found_ends :
    {nodes : List Tree} {xs : List (List ℕ)} {s : List ℕ} {p : ℕ} {rest : List ℕ} → Found nodes xs s p rest
    → EndsOf (p + length s) nodes xs (ends_from (length nodes) s p)
found_ends {nodes} {xs} {s} {p} f =
    let many : length f.ends ≡ length nodes =
    sym (length-map f.ends (λ e. e.behind)) ∙ ap length f.behind ∙ length-map nodes behind_of
    in
    let same : ends_from (length nodes) s p ≡ f.ends = ap (λ (m : ℕ). ends_from m s p) (sym many) ∙ ending_ends f.ending in
    rw same (record { many = many; behind = f.behind; places = f.places })

module _ (given : Bool) (names : List (List ℕ)) where
  -- by any derivation of a node, where what follows ends it
  pub node_ends :
      {k : ℕ} {s : List ℕ} {t : Tree} {rest : List ℕ} (d : Node (strict given names) k s t rest) → Follows rest → (p : ℕ)
      → EndsOf (p + length s) (all_nodes t) (behinds d) (ends_from (length (all_nodes t)) s p)
  node_ends d follows p = found_ends (node-found given names d follows p)

  -- by any derivation of a tree
  pub text_ends :
      {k : ℕ} {s : List ℕ} {t : Tree} {rest : List ℕ} (d : Text (strict given names) k s t rest) (p : ℕ)
      → EndsOf (p + length s) (all_nodes t) (behinds_of d) (ends_from (length (all_nodes t)) s p)
  unfolding behinds_of
  text_ends (ended-text d ends) p = node_ends d (semicolon_follows ends) p

  -- so they are where a tree is read
  pub read_ends :
      (most needed : ℕ) (s : List ℕ) (p : ℕ) {t : Tree} {rest : List ℕ} {q : ℕ} → read_tree given names most needed s p ≡ parsed t rest q
      → (d : Text (strict given names) most s t rest) × EndsOf (p + length s) (all_nodes t) (behinds_of d) (ends_from (length (all_nodes t)) s p)
  read_ends most needed s p h = let d = (read_sound given names most needed s p h).derives in (d, text_ends d p)

-- of a text that draws a tree from start on
pub draws_ends :
    (kind : Kind) (threshold : Threshold) (line text : List ℕ) (start : ℕ) {t : Tree} {rest : List ℕ} (d : Draws kind threshold line text start t rest)
    → EndsOf (length text) (all_nodes t) (behinds_of d.derives) (ends_from (length (all_nodes t)) (drop start text) start)
draws_ends kind threshold line text start {t} d =
    let all : start + length (drop start text) ≡ length text = omega (arith, length-drop start text, d.inside) in
    rw all at (text_ends (is_given threshold) (names line) d.derives start)

-- and of a text that is read to it
pub answer_ends :
    (kind : Kind) (threshold : Threshold) (line text : List ℕ) (start : ℕ) {t : Tree} {rest : List ℕ} {q : ℕ}
    → answer_to kind threshold line text start ≡ parsed t rest q
    → (d : Draws kind threshold line text start t rest)
    × EndsOf (length text) (all_nodes t) (behinds_of d.derives) (ends_from (length (all_nodes t)) (drop start text) start)
answer_ends kind threshold line text start h =
    let d = (accepted-derives kind threshold line text start h).draws in
    (d, draws_ends kind threshold line text start d)
