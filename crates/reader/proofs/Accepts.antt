-- What is read: exactly the texts that draw, by 01's grammar and within the limits, a tree of the kind with each of its species once.
use Prim.Native.Nat.{ℕ, ◌+◌, ◌-◌, ◌≤◌}
use mathlib.Core.Path.{◌≡◌, refl, sym, ap, ◌∙◌}
use mathlib.Core.Bool.{Bool, true, false}
use mathlib.Core.List.{List}
use native.Mathlib.Omega.{arith}
use lib.ListN.{length, drop, length-drop}
use lib.Seq.{drop-drop}
use lib.Dec.{leb}
use borrow.Author.Tests.{leb-true, le-leb}
use Rattle.clusters.specs.Sets.{Within, whole}
use Rattle.clusters.proofs.Members.{whole_has, within_of_has}
use Rattle.clusters.proofs.Sets.{within-refl, within_antisym, zero-within, below_of_within}
use Rattle.trees.specs.Tree.{Tree, leaves, cluster}
use Rattle.trees.proofs.Nodes.{has-leaf, cluster_some}
use Rattle.roster.specs.Roster.{names, faulty}
use Rattle.tokens.specs.Answers.Answer.{parsed}
use Rattle.tokens.specs.Supports.{is_given, Threshold}
use Rattle.reader.specs.Accepted.{MayHave, DrawsWithin, JustBehind, Accepted}
use Rattle.reader.specs.Promise.{Limits, text_most, needed, from_start, in_limit, on_roster, answer_within}
use Rattle.reader.specs.declared.Kind.{Kind}
use Rattle.reader.specs.declared.Kind.TheVariants.{Species, Gene}
use Rattle.nodes.proofs.Answers.{refused-parsed}
use Rattle.nodes.proofs.Rests.{Advances, advances_shorter, read_tree_advances}
use Rattle.nodes.proofs.Sound.{read_sound, AllKnown}
use Rattle.nodes.proofs.Exact.{Same}
use Rattle.nodes.proofs.Complete.{read-complete}
use Rattle.nodes.proofs.Unique.{tree-unique}
use Rattle.nodes.proofs.Fronts.{text-allowed}
use Rattle.nodes.specs.Reading.{read_tree}
use Rattle.nodes.specs.Grammar.{strict, Text}

-- ---- the species of a tree whose leaves are on the roster, and which lacks none that it must have

on_roster_lem : (ns : List (List ℕ)) (t : Tree) → AllKnown ns (leaves t) → Within (cluster t) (whole (length ns))
on_roster_lem ns t known = within_of_has (cluster t) (whole (length ns)) (λ i h. whole_has (length ns) i (known i (has-leaf t i h)))

may_have : (kind : Kind) (n : ℕ) (t : Tree) → Within (cluster t) (whole n) → Within (needed kind n) (cluster t) → MayHave kind n (cluster t)
may_have Species n t inside all = within_antisym inside all
may_have Gene n t inside all = (cluster_some t, below_of_within n inside)

has-needed : (kind : Kind) (n s : ℕ) → MayHave kind n s → Within (needed kind n) s
has-needed Species n s all = rw all (within-refl (whole n))
has-needed Gene n s some = zero-within s

-- ---- what is answered is drawn

-- where the roster is good, the text within its limit and the start within the text, what is answered is what is read from there on
pub answer_is_read :
    (limits : Limits) (kind : Kind) (threshold : Threshold) (line text : List ℕ) (start : ℕ)
    → faulty limits.most line ≡ false → length text ≤ text_most → start ≤ length text
    → answer_within limits kind threshold line text start
    ≡ read_tree (is_given threshold) (names line) limits.room (needed kind (length (names line))) (drop start text) start
unfolding answer_within
answer_is_read limits kind threshold line text start good short inside = rw (good, le-leb (length text) text_most short, le-leb start (length text) inside)

behind_start : (text : List ℕ) (start : ℕ) {rest : List ℕ} {q : ℕ} → start ≤ length text → Advances (drop start text) start rest q → JustBehind text start rest q
behind_start text start {q = q} inside a =
    let m = a.moves in
    let n = m.count in
    let l = length-drop start text in
    let e : start + n ≡ q = sym m.place in
    record {
      after = omega (arith, a.some);
      within = omega (arith, m.fits);
      left = m.left ∙ (drop-drop n start text ∙ ap (λ (k : ℕ). drop k text) e);
    }

-- a tree is answered where the roster is good, the text within its limit and the start within the text, and where reading from there on answers it
pub record ReadFrom (limits : Limits) (kind : Kind) (threshold : Threshold) (line text : List ℕ) (start : ℕ) (t : Tree) (rest : List ℕ) (q : ℕ) : Type 0 where
  pub good : faulty limits.most line ≡ false
  pub short : length text ≤ text_most
  pub inside : start ≤ length text
  pub read : read_tree (is_given threshold) (names line) limits.room (needed kind (length (names line))) (drop start text) start ≡ parsed t rest q

pub answer-read :
    {limits : Limits} (kind : Kind) (threshold : Threshold) (line text : List ℕ) (start : ℕ) {t : Tree} {rest : List ℕ} {q : ℕ}
    → answer_within limits kind threshold line text start ≡ parsed t rest q → ReadFrom limits kind threshold line text start t rest q
unfolding answer_within
answer-read {limits} kind threshold line text start {t} {rest} {q} h = judged (faulty limits.most line) refl h
  where
    started :
        (b : Bool) → leb start (length text) ≡ b → faulty limits.most line ≡ false → length text ≤ text_most
        → from_start limits kind threshold b (names line) text start ≡ parsed t rest q → ReadFrom limits kind threshold line text start t rest q
    started true is good short h = record { good = good; short = short; inside = leb-true start (length text) is; read = h }
    started false is good short h = absurd (refused-parsed h)

    limited :
        (b : Bool) → leb (length text) text_most ≡ b → faulty limits.most line ≡ false
        → in_limit limits kind threshold b (names line) text start ≡ parsed t rest q → ReadFrom limits kind threshold line text start t rest q
    limited true is good h = started (leb start (length text)) refl good (leb-true (length text) text_most is) h
    limited false is good h = absurd (refused-parsed h)

    judged :
        (b : Bool) → faulty limits.most line ≡ b → on_roster limits kind threshold b line text start ≡ parsed t rest q
        → ReadFrom limits kind threshold line text start t rest q
    judged true is h = absurd (refused-parsed h)
    judged false is h = limited (leb (length text) text_most) refl is h

pub accepted-derives :
    {limits : Limits} (kind : Kind) (threshold : Threshold) (line text : List ℕ) (start : ℕ) {t : Tree} {rest : List ℕ} {q : ℕ}
    → answer_within limits kind threshold line text start ≡ parsed t rest q → Accepted limits kind threshold line text start t rest q
accepted-derives {limits} kind threshold line text start {t} h =
    let ns = names line in
    let a = answer-read kind threshold line text start h in
    let r = read_sound (is_given threshold) ns limits.room (needed kind (length ns)) (drop start text) start a.read in
    record {
      draws = record {
        good = a.good;
        short = a.short;
        inside = a.inside;
        derives = r.derives;
        once = r.once;
        species = may_have kind (length ns) t (on_roster_lem ns t r.known) r.all;
      };
      place = behind_start text start a.inside r.moved;
    }

-- ---- what is drawn is answered

pub derives-accepted :
    {limits : Limits} (kind : Kind) (threshold : Threshold) (line text : List ℕ) (start : ℕ) {t : Tree} {rest : List ℕ}
    → DrawsWithin limits kind threshold line text start t rest → answer_within limits kind threshold line text start ≡ parsed t rest (length text - length rest)
derives-accepted {limits} kind threshold line text start {t} {rest} d =
    let ns = names line in
    let s = drop start text in
    let all = has-needed kind (length ns) (cluster t) d.species in
    let r = read-complete (is_given threshold) ns limits.room (needed kind (length ns)) s start d.derives d.once all in
    let a = read_tree_advances (is_given threshold) ns limits.room (needed kind (length ns)) s start r in
    let l = length-drop start text in
    let e : start + (length s - length rest) ≡ length text - length rest = omega (arith, advances_shorter a, d.inside) in
    answer_is_read limits kind threshold line text start d.good d.short d.inside ∙ r ∙ ap (λ (q : ℕ). parsed t rest q) e

-- what is a tree where supports are judged is one where they are not
unjudged : (threshold : Threshold) (ns : List (List ℕ)) {k : ℕ} {s rest : List ℕ} {t : Tree} → Text (strict (is_given threshold) ns) k s t rest → Text (strict false ns) k s t rest
unjudged threshold ns d =
    text-allowed (strict (is_given threshold) ns) (strict false ns)
    (record {
      leaf_names = λ w i s rest h. h;
      inner_names = λ w s rest h. h;
      distances = λ w s rest h. h;
      supports = λ w s rest h. (h.0, refl);
      singles = λ enough. enough;
    }) d

-- a text draws one tree at most, of whatever kind and by whatever threshold
pub draws_one :
    {limits : Limits} (kind kind' : Kind) (threshold threshold' : Threshold) (line text : List ℕ) (start : ℕ) {t t' : Tree} {rest rest' : List ℕ}
    → DrawsWithin limits kind threshold line text start t rest → DrawsWithin limits kind' threshold' line text start t' rest' → Same t t' rest rest'
draws_one kind kind' threshold threshold' line text start d d' =
    tree-unique false (names line) (unjudged threshold (names line) d.derives) (unjudged threshold' (names line) d'.derives)
