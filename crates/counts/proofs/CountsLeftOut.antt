-- What `write_counts` writes is, without the counts, what `write` writes of the record (#114).
use Prim.Native.Nat.{ℕ, ◌^◌, ◌<◌}
use mathlib.Core.Path.{◌≡◌, refl, sym, ap, ◌∙◌}
use mathlib.Core.Bool.{Bool, true, false, and-eq-true_iff}
use mathlib.Core.List.{List, [], ◌∷◌, ◌++◌, map, append_assoc, append-nil}
use native.Mathlib.Omega.{arith}
use lib.Dec.{eqb}
use lib.ListN.{length, take, drop, get_or}
use lib.Seq.{take-append_seam}
use Rattle.labels.specs.Bytes.{is_digit}
use Rattle.labels.specs.Labels.{twice_by, doubled}
use Rattle.labels.specs.Spelling.{Run}
use Rattle.labels.specs.Spelling.Run.{one, next}
use Rattle.labels.specs.Writing.{is_free, may_be_bare, underscored, score_for, label_of}
use Rattle.labels.proofs.ByteKinds.{passes_other}
use Rattle.labels.proofs.Written.{label-bare, label-quoted}
use Rattle.trees.specs.Tree.{Tree, Forest, cluster}
use Rattle.trees.specs.Tree.Tree.{leaf, node}
use Rattle.trees.specs.Tree.Forest.{last, more}
use Rattle.trees.specs.Records.{listed, largest}
use Rattle.trees.specs.Drawn.{drawn}
use Rattle.roster.specs.Roster.{names}
use Rattle.roster.specs.declared.Reply.{Reply}
use Rattle.texts.specs.Writing.{label, note, count_note, node_with, others_with, tree_with, written_with, tree_text, written}
use Rattle.writer.specs.Promise.{Writes}
use Rattle.writer.proofs.Derives.{decimal-run}
use Rattle.writer.proofs.Outcomes.{writes_zero}
use Rattle.counts.specs.Promise.{weight_in, counts_text, WritesCounts}
use Rattle.counts.specs.Without.{without_from, without_counts}
use Rattle.counts.specs.Without.Part.{quoted, counted}
use Rattle.counts.proofs.Answered.{counts_zero, counts_there}
use Rattle.counts.proofs.CountedText.{in_order_small}

-- ---- what stands behind the parts of a text

behind_two : (x : ℕ) (a b d : List ℕ) → ((x ∷ a) ++ b) ++ d ≡ x ∷ (a ++ (b ++ d))
behind_two x a b d = append_assoc (x ∷ a) b d

behind-three : (x : ℕ) (a b c d : List ℕ) → (((x ∷ a) ++ b) ++ c) ++ d ≡ x ∷ (a ++ (b ++ (c ++ d)))
behind-three x a b c d = append_assoc ((x ∷ a) ++ b) c d ∙ append_assoc (x ∷ a) b (c ++ d)

-- ---- labels stay

-- a byte of a bare label is no other byte that may not stand there
free_other : (b c : ℕ) → is_free b ≡ true → is_free c ≡ false → eqb 95 c ≡ false → eqb (underscored b) c ≡ false
free_other b c free other no-score = by (eqb b 32)
  where
    by : (t : Bool) → eqb (score_for t b) c ≡ false
    by true = no-score
    by false = passes_other (λ x. is_free x) b c free other

bare-stays : (w s : List ℕ) → may_be_bare w ≡ true → without_counts (map underscored w ++ s) ≡ map underscored w ++ without_counts s
unfolding without_from may_be_bare
bare-stays [] s is = refl
bare-stays (b ∷ w) s is =
    let parts = (and-eq-true_iff (is_free b) (may_be_bare w)).0 is in
    rw (free_other b 39 parts.0 refl refl, free_other b 58 parts.0 refl refl) (ap (λ (l : List ℕ). underscored b ∷ l) (bare-stays w s parts.1))

quoted-stays : (w s : List ℕ) → without_from quoted (doubled w ++ 39 ∷ s) ≡ doubled w ++ 39 ∷ without_counts s
unfolding without_from doubled
quoted-stays [] s = refl
quoted-stays (b ∷ w) s = by (eqb b 39) refl (quoted-stays w s)
  where
    by : (t : Bool) → eqb b 39 ≡ t → without_from quoted (doubled w ++ 39 ∷ s) ≡ doubled w ++ 39 ∷ without_counts s
        → without_from quoted (twice_by t b (doubled w) ++ 39 ∷ s) ≡ twice_by t b (doubled w) ++ 39 ∷ without_counts s
    by true e later = rw (e, e, later)
    by false e later = rw (e, later)

label-stays : (w s : List ℕ) → without_counts (label_of w ++ s) ≡ label_of w ++ without_counts s
unfolding without_from
label-stays w s = by (may_be_bare w) refl
  where
    by : (t : Bool) → may_be_bare w ≡ t → without_counts (label_of w ++ s) ≡ label_of w ++ without_counts s
    by true e = rw (label-bare w e) (bare-stays w s e)
    by false e =
        rw (label-quoted w e)
        (ap without_counts (behind_two 39 (doubled w) (39 ∷ []) s)
        ∙ ap (λ (l : List ℕ). 39 ∷ l) (quoted-stays w s)
        ∙ sym (behind_two 39 (doubled w) (39 ∷ []) (without_counts s)))

-- ---- counts go

digits_go : {w s rest : List ℕ} → Run is_digit w s rest → without_from counted s ≡ without_from counted rest
unfolding without_from
digits_go (one is) = rw is
digits_go (next is later) = rw is (digits_go later)

module _ (counts : ℕ → ℕ) (small : (a : ℕ) → counts a < 10 ^ 20) (names : List (List ℕ)) where
  note_goes : (a : ℕ) (s : List ℕ) → without_counts (count_note counts a ++ s) ≡ without_from counted s
  unfolding without_from
  note_goes a s = digits_go (decimal-run (counts a) s (small a))

  -- ---- so it is of a tree

  mutual
    unfolding without_from node_with others_with

    node_stays : (t : Tree) (s : List ℕ) → without_counts (node_with (count_note counts) names t ++ s) ≡ node_with note names t ++ without_from counted s
    node_stays (leaf i b) s =
        let name = label (get_or names i []) in
        let own = count_note counts (cluster (leaf i b)) in
        ap without_counts (append_assoc name own s) ∙ label-stays (get_or names i []) (own ++ s)
        ∙ ap (λ (l : List ℕ). name ++ l) (note_goes (cluster (leaf i b)) s) ∙ ap (λ (l : List ℕ). l ++ without_from counted s) (sym (append-nil name))
    node_stays (node t f b) s =
        let first = node_with (count_note counts) names t in
        let later = others_with (count_note counts) names f in
        let own = count_note counts (cluster (node t f b)) in
        let plain = node_with note names t in
        let plains = others_with note names f in
        let closed : without_from counted (41 ∷ own ++ s) ≡ 41 ∷ without_from counted s = ap (λ (l : List ℕ). 41 ∷ l) (note_goes (cluster (node t f b)) s) in
        ap without_counts (behind-three 40 first later (41 ∷ own) s)
        ∙ ap (λ (l : List ℕ). 40 ∷ l)
        (node_stays t (later ++ (41 ∷ own ++ s))
        ∙ ap (λ (l : List ℕ). plain ++ l) (others_stay f (41 ∷ own ++ s) ∙ ap (λ (l : List ℕ). plains ++ l) closed))
        ∙ sym (behind-three 40 plain plains (41 ∷ []) (without_from counted s))

    others_stay : (f : Forest) (s : List ℕ) → without_from counted (others_with (count_note counts) names f ++ s) ≡ others_with note names f ++ without_from counted s
    others_stay (last t) s = ap (λ (l : List ℕ). 44 ∷ l) (node_stays t s)
    others_stay (more t f) s =
        let first = node_with (count_note counts) names t in
        let later = others_with (count_note counts) names f in
        let plain = node_with note names t in
        ap (without_from counted) (behind_two 44 first later s)
        ∙ ap (λ (l : List ℕ). 44 ∷ l) (node_stays t (later ++ s) ∙ ap (λ (l : List ℕ). plain ++ l) (others_stay f s))
        ∙ sym (behind_two 44 plain (others_with note names f) (without_from counted s))

  tree-stays : (t : Tree) → without_counts (tree_with (count_note counts) names t) ≡ tree_text names t
  unfolding without_from tree_with tree_text
  tree-stays t = node_stays t (59 ∷ [])

  -- the text of a record with counts is, without them, the writer's
  pub written-stays : (r : List ℕ) → without_counts (written_with (count_note counts) names r) ≡ written names r
  unfolding written_with written tree_text
  written-stays r = tree-stays (drawn (listed r) (largest r))

-- "Our writer gets a form with these counts" (#114): whatever `write_counts` and `write` have written of a record, the one text without its counts is the other
pub without-counts-written :
    {line genes : List ℕ} {count : ℕ} {species out after out' after' : List ℕ} {p p' : Reply}
    → WritesCounts line genes count species out p after → p.number ≡ 0 → Writes line species out' p' after' → p'.number ≡ 0
    → without_counts (take p.value after) ≡ take p'.value after'
unfolding counts_text
without-counts-written {line} {genes} {count} {species} {out' = out'} w z w' z' =
    let wrote = counts_zero w z in
    let plain = writes_zero w' z' in
    let text = written (names line) species in
    ap without_counts (counts_there wrote)
    ∙ written-stays (weight_in genes count) (λ a. let s = in_order_small line wrote.good wrote.in_order a in omega arith) (names line) species
    ∙ sym (rw (plain.value, plain.bytes) (take-append_seam text (drop (length text) out')))
