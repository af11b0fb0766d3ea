-- A leaf read from a place of the text, for each way that its name is judged.
use Prim.Native.Nat.{ℕ, ◌≤◌, ◌<◌}
use native.Mathlib.Omega.{arith}
use mathlib.Core.Path.{◌≡◌, refl, sym, ap, ◌∙◌}
use mathlib.Core.Bool.{true, false}
use mathlib.Core.List.{List, []}
use lib.ListN.{length, drop}
use lib.Dec.{ltb}
use borrow.Author.Tests.{lt-ltb, le-ltb}
use Rattle.tokens.specs.declared.answer.Figures.{Figures}
use Rattle.std.specs.Prelude.{Result, Ok, Err, None}
use Rattle.clusters.specs.Sets.{single, union, apart}
use Rattle.clusters.proofs.Sets.{single-below, union-below, apart-true, apart-sym}
use Rattle.clusters.proofs.Sizes.{size-apart, size-single, size-le}
use Rattle.labels.specs.Labels.{label_bytes, letters, padded, Told, told, scanned_by, scanned_at}
use Rattle.labels.specs.Labels.Told.{ended, faulty}
use Rattle.labels.specs.declared.Scanned.{Scanned}
use Rattle.labels.proofs.Exits.{same_Ok, ok-err}
use Rattle.faults.specs.declared.Fault.TheVariants.{UnknownName, RepeatedName}
use Rattle.labels.proofs.Telling.{ended-short}
use Rattle.trees.specs.Tree.{cluster}
use Rattle.trees.specs.Tree.Tree.{leaf}
use Rattle.roster.specs.Roster.{position}
use Rattle.roster.specs.Table.{slots}
use Rattle.tokens.specs.Answers.{and_then}
use Rattle.tokens.specs.Answers.Answer.{parsed}
use Rattle.tokens.specs.Tokens.{name}
use Rattle.tokens.specs.Supports.{is_given, supported, Threshold}
use Rattle.tokens.specs.Says.{refusal, label_says, behind_says, behind_valued}
use Rattle.faults.specs.declared.Refusal.{Refusal}
use Rattle.nodes.specs.Reading.{leaf_known, leaf_at, leaf_by}
use Rattle.nodes.specs.Core.{left_in, Holds, Given, NodeReads}
use Rattle.tokens.proofs.BehindNodes.{scanned-name}
use Rattle.nodes.proofs.NodeAnswers.{ended_by, kept_behind, node-ended}

-- a label that ends is short enough, and its bytes are the name
pub record Short (text : List ℕ) (at : ℕ) (name : List ℕ) : Type 0 where
  pub short : length (letters (drop at text)) ≤ label_bytes
  pub bytes : name ≡ padded (letters (drop at text))

pub scan_ended : (text : List ℕ) (at : ℕ) (label : Scanned) → scanned_at text at ≡ Ok label → Short text at label.name
unfolding scanned_at
scan_ended text at label = by_end (told (drop at text)) refl
  where
    by_end : (t : Told) → told (drop at text) ≡ t → scanned_by t (drop at text) at ≡ Ok label → Short text at label.name
    by_end (ended n) is e = record { short = ended-short (drop at text) n is; bytes = sym (ap (λ (l : Scanned). l.name) (same_Ok e)) }
    by_end (faulty fault d) is e = absurd (ok-err (sym e))

module _
    (threshold : Threshold) (text : List ℕ) (at : ℕ) (scanned : Result Scanned Refusal) (is : scanned ≡ scanned_at text at) (names : List (List ℕ)) (seen : ℕ)
  where
    says : label_says text (letters (drop at text)) scanned ≡ name (drop at text) at
    says = rw is (scanned-name text at)

    pub leaf-faulty : (e : Refusal) → scanned ≡ Err e → refusal e ≡ leaf_at (is_given threshold) names seen (drop at text) at
    unfolding leaf_by
    leaf-faulty e told =
        let failed : refusal e ≡ name (drop at text) at = rw told at says in
        rw (← failed)

    -- the label ends, and its name is looked for in the table
    module _ (count : ℕ) (table : List ℕ) (holds : Holds names count table) (label : Scanned) (ends : scanned ≡ Ok label) where
      abbrev sought : ℕ
      sought = position label.name (slots count table)

      place_is : position (letters (drop at text)) names ≡ sought
      place_is =
          let s = scan_ended text at label (sym is ∙ ends) in
          rw s.bytes (sym (holds.finds (drop at text) s.short))

      named : parsed (letters (drop at text)) (drop label.next text) label.next ≡ name (drop at text) at
      named = rw ends at says

      judged_is :
          leaf_known (is_given threshold) (ltb sought count) sought seen at (drop label.next text) label.next
          ≡ leaf_at (is_given threshold) names seen (drop at text) at
      unfolding leaf_by
      judged_is = rw (← named, ← place_is, ← holds.counted)

      pub leaf-unknown : sought ≡ count → refusal (record { fault = UnknownName; place = at }) ≡ leaf_at (is_given threshold) names seen (drop at text) at
      leaf-unknown h = rw (le-ltb sought count (omega arith)) at judged_is

      module _ (i : ℕ) (found : i ≡ sought) (within : i < count) where
        known_is :
            leaf_known (is_given threshold) true i seen at (drop label.next text) label.next ≡ leaf_at (is_given threshold) names seen (drop at text) at
        known_is =
            let there : sought < count = omega (arith, found, within) in
            rw found (rw (lt-ltb sought count there) at judged_is)

        pub leaf-again :
            apart (single i) seen ≡ false
            → refusal (record { fault = RepeatedName; place = at }) ≡ leaf_at (is_given threshold) names seen (drop at text) at
        leaf-again a = rw a at known_is

        pub leaf-new :
            apart (single i) seen ≡ true
            → and_then (supported (is_given threshold) [] (drop label.next text) label.next) (λ b s p. parsed (leaf i b) s p)
            ≡ leaf_at (is_given threshold) names seen (drop at text) at
        leaf-new a = rw a at known_is

        -- its cluster is stored where what stands behind it is read: it is lost by no threshold
        pub leaf-read :
            (own : Threshold) (stored : ℕ) (before : List ℕ) (mask seen' : ℕ) (read : Result Figures Refusal)
            → mask ≡ single i → apart mask seen ≡ true → seen' ≡ union seen mask
            → ((w : List ℕ) → behind_says text w read ≡ supported (is_given threshold) w (drop label.next text) label.next) → behind_valued text read
            → NodeReads own threshold text seen stored before (kept_behind None mask stored before read)
            (leaf_at (is_given threshold) names seen (drop at text) at) (ended_by None mask seen' stored read)
        unfolding cluster left_in
        leaf-read own stored before mask seen' read mask_is a seen_is behind values =
            node-ended own threshold None text seen stored before (leaf_at (is_given threshold) names seen (drop at text) at) [] read
            (supported (is_given threshold) [] (drop label.next text) label.next) (λ b. leaf i b) mask [] before seen' stored
            (behind [])
            values
            (leaf-new (rw mask_is at a))
            (λ b. mask_is)
            (λ b. rw mask_is)
            refl
            seen_is
            (omega arith)

-- there is room for the cluster of a species that was not met before
pub leaf_room :
    (count : ℕ) (table found : List ℕ) (seen stored i : ℕ) → Given count table found seen stored → i < count → apart (single i) seen ≡ true
    → stored < length found
leaf_room count table found seen stored i g h a =
    let u = size-apart seen (single i) (apart-sym (single i) seen (apart-true (single i) seen a)) in
    let l = size-le count (union-below count g.below (single-below h)) in
    omega (arith, size-single i, u, l, g.spare, g.wide)
