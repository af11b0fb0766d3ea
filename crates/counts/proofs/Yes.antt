-- What `check` says, in the words of #114: yes exactly when the text draws a binary tree on the roster with the weights behind its nodes,
-- and 23 at the first node whose count is at fault.
use Prim.Native.Nat.{ℕ, ◌+◌, ◌-◌}
use native.Mathlib.Omega.{arith}
use mathlib.Core.Path.{◌≡◌, refl, sym, ap, ◌∙◌, subst}
use mathlib.Core.Logic.{inl, inr, ◌↔◌}
use mathlib.Core.Bool.{false}
use Rattle.std.proofs.Common.{Option, Some, None}
use mathlib.Core.List.Memᴰ
use mathlib.Core.List.Memᴰ.{head as here}
use mathlib.Core.List.{List, [], ◌∷◌, ◌++◌, append_assoc, Memᴰ}
use lib.ListN.{length, take, drop, take-append-drop, length-append, length-drop}
use lib.Seq.{drop_at}
use Rattle.trees.specs.Tree.{Tree, cluster}
use Rattle.trees.specs.Thinned.{all_nodes}
use Rattle.roster.specs.Roster.{names}
use Rattle.roster.specs.Verdict.{Verdict, verdict}
use Rattle.roster.specs.declared.Reply.{Reply}
use Rattle.nodes.specs.Worth.{behind_of}
use Rattle.branches.specs.Ends.{behinds_of}
use Rattle.counts.specs.Promise.{weight_in, counts_test, Checks}
use Rattle.counts.specs.Passes.{CallInOrder, DrawsBinary, Passes, FirstFault}
use Rattle.counts.proofs.BehindTexts.{EndOf, text_ends_of}
use Rattle.counts.proofs.Checking.{counts-pass, counts_none, said_of}
use Rattle.counts.proofs.CountFaults.{fault-wrong, drawn-fault}
use Rattle.counts.proofs.DrawnBinary.{drawn-beside, drawn-said, drawn_of}
use Rattle.counts.proofs.FirstWrong.{FirstAt, all_right, none_wrong, first_at, at_first}

-- ---- what the tests of the counts say

counts_fail : (o : Option ℕ) → (verdict (counts_test o ∷ [])).number ≡ 23 → o ≡ Some (verdict (counts_test o ∷ [])).place
unfolding verdict
counts_fail (Some place) z = refl
counts_fail None z = absurd (omega arith)

counts_say : {o : Option ℕ} (place : ℕ) → o ≡ Some place → ((verdict (counts_test o ∷ [])).number ≡ 23) × ((verdict (counts_test o ∷ [])).place ≡ place)
unfolding verdict
counts_say place is = rw is (refl, refl)

-- ---- the place of a text behind a node

-- a text behind a node begins at the place that its length tells
behind-place :
    (text behind : List ℕ) (start place : ℕ) → EndOf behind (drop start text) → place ≡ length text - length behind
    → (drop place text ≡ behind) × (place + length behind ≡ length text)
behind-place text behind start place end is =
    let before = take start text ++ end.front in
    let whole : before ++ behind ≡ text
    = append_assoc (take start text) end.front behind ∙ ap (λ (l : List ℕ). take start text ++ l) (sym end.split) ∙ take-append-drop start text in
    let long : length before + length behind ≡ length text = sym (length-append before behind) ∙ ap length whole in
    (ap (λ (l : List ℕ). drop place l) (sym whole) ∙ drop_at before behind place (omega arith), omega arith)

-- ---- the first node at fault is the first whose count is not right

module _ {line text : List ℕ} {start : ℕ} (genes : List ℕ) (count : ℕ) where
  -- of the nodes that a text draws
  abbrev FirstOf : DrawsBinary line text start → ℕ → Type 0
  FirstOf d place = FirstAt (weight_in genes count) (length text) (all_nodes d.tree) (behinds_of d.derives) place

  is_fault : (d : DrawsBinary line text start) {place : ℕ} → FirstOf d place → FirstFault line text start genes count place
  is_fault d {place} f =
      let own = subst (λ (l : List (List ℕ)). Memᴰ f.behind l) (sym f.texts) (Memᴰ.append_right f.behind_before (here refl)) in
      let among = subst (λ (l : List Tree). Memᴰ f.node l) (sym f.nodes) (Memᴰ.append_right f.before (here refl)) in
      let lies = behind-place text f.behind start place (text_ends_of false (names line) d.derives f.behind own) f.there in
      record {
        draws = d;
        before = f.before;
        node = f.node;
        after = f.after;
        nodes = f.nodes;
        right = f.right;
        fault = drawn-fault (names line) d.derives f.node among (weight_in genes count (cluster f.node)) f.wrong;
        behind_before = f.behind_before;
        behind = f.behind;
        behind_after = f.behind_after;
        behinds = f.texts;
        as_many = f.as_many;
        begins = lies.0;
        ends = lies.1;
      }

  -- its place, counted from start on
  pub fault-place : {place : ℕ} (f : FirstFault line text start genes count place) → place ≡ start + (length (drop start text) - length f.behind)
  fault-place {place} f =
      let d = f.draws in
      let own = subst (λ (l : List (List ℕ)). Memᴰ f.behind l) (sym f.behinds) (Memᴰ.append_right f.behind_before (here refl)) in
      let end = text_ends_of false (names line) d.derives f.behind own in
      let long : length (drop start text) ≡ length end.front + length f.behind = ap length end.split ∙ length-append end.front f.behind in
      let ends = f.ends in
      let inside = d.inside in
      omega (arith, length-drop start text)

  fault_is : {place : ℕ} (f : FirstFault line text start genes count place) → FirstOf f.draws place
  fault_is {place} f = record {
    before = f.before;
    node = f.node;
    after = f.after;
    nodes = f.nodes;
    right = f.right;
    wrong = fault-wrong (weight_in genes count (cluster f.node)) (behind_of f.node) f.fault;
    behind_before = f.behind_before;
    behind = f.behind;
    behind_after = f.behind_after;
    texts = f.behinds;
    as_many = f.as_many;
    there = let ends = f.ends in omega arith;
  }

module _ (line text : List ℕ) (start : ℕ) (genes : List ℕ) (count : ℕ) (scores splits : List ℕ) where
  -- ---- yes

  module _ {r : Reply} {s p : List ℕ} (c : Checks line text start genes count scores splits r s p) where
    pub number-said : r.number ≡ (said_of line text start genes count scores splits).number
    number-said = ap (λ (r : Reply). r.number) c.reply

    place-said : r.place ≡ (said_of line text start genes count scores splits).place
    place-said = ap (λ (r : Reply). r.place) c.reply

    -- "Say yes exactly when the text draws a binary tree on the roster and each number is the weight of that node's cluster" (#114), where the call is in order
    pub says_yes : (r.number ≡ 0) ↔ (Passes line text start genes count × CallInOrder line genes count scores splits)
    says_yes = (there, back)
      where
        there : r.number ≡ 0 → Passes line text start genes count × CallInOrder line genes count scores splits
        there z =
            let both = drawn_of line text start genes count scores splits (inl (sym number-said ∙ z)) in
            let d = both.0 in
            let told = drawn-said line text start d genes count scores splits both.1 in
            let right = counts-pass _ (sym (ap (λ (v : Verdict). v.number) told) ∙ sym number-said ∙ z) in
            (record { draws = d; counts = none_wrong (weight_in genes count) (drawn-beside line text start d) right }, both.1)

        back : Passes line text start genes count × CallInOrder line genes count scores splits → r.number ≡ 0
        back (passes, order) =
            let d = passes.draws in
            let right = all_right (weight_in genes count) (drawn-beside line text start d) passes.counts in
            number-said ∙ ap (λ (v : Verdict). v.number) (drawn-said line text start d genes count scores splits order ∙ counts_none right)

    -- so it is, where the gene trees and the tables are in order
    pub yes_exactly : CallInOrder line genes count scores splits → (r.number ≡ 0) ↔ Passes line text start genes count
    yes_exactly order = (λ z. (says_yes.0 z).0, λ passes. says_yes.1 (passes, order))

    -- ---- 23

    -- "23 for a missing, fractional or wrong count or a second number, of the first such node to end,
    -- place the byte just after its closing parenthesis or, for a leaf, its name" (#114)
    pub says_which :
        (place : ℕ) → ((r.number ≡ 23) × (r.place ≡ place)) ↔ (FirstFault line text start genes count place × CallInOrder line genes count scores splits)
    says_which place = (there, back)
      where
        there : (r.number ≡ 23) × (r.place ≡ place) → FirstFault line text start genes count place × CallInOrder line genes count scores splits
        there (z, at) =
            let both = drawn_of line text start genes count scores splits (inr (sym number-said ∙ z)) in
            let d = both.0 in
            let told = drawn-said line text start d genes count scores splits both.1 in
            let first = counts_fail _ (sym (ap (λ (v : Verdict). v.number) told) ∙ sym number-said ∙ z) in
            let same = sym (ap (λ (v : Verdict). v.place) told) ∙ sym place-said ∙ at in
            let f = first_at (weight_in genes count) (drawn-beside line text start d) (first ∙ ap (λ (q : ℕ). Some q) same) in
            (is_fault genes count d f, both.1)

        back : FirstFault line text start genes count place × CallInOrder line genes count scores splits → (r.number ≡ 23) × (r.place ≡ place)
        back (f, order) =
            let d = f.draws in
            let first = at_first (weight_in genes count) (drawn-beside line text start d) (fault_is genes count f) in
            let told = drawn-said line text start d genes count scores splits order in
            let says = counts_say place first in
            (number-said ∙ ap (λ (v : Verdict). v.number) told ∙ says.0, place-said ∙ ap (λ (v : Verdict). v.place) told ∙ says.1)
