-- "Faulty input is turned away with a number and a place, both fixed in advance": for the program, of what it prints.
use Prim.Native.Nat.{ℕ, ◌+◌, ◌*◌, ◌^◌, ◌≤◌, ◌<◌}
use mathlib.Core.Path.{◌≡◌, refl, sym, ap, ap₂, ◌∙◌, subst₂}
use mathlib.Core.Logic.{◌⊎◌, inl, inr, ◌↔◌}
use mathlib.Core.Bool.{Bool, true, false, true≢false}
use mathlib.Core.Option.{Option, some, none}
use mathlib.Core.List.{List, [], ◌∷◌, ◌++◌, append_assoc}
use native.Mathlib.Omega.{arith}
use lib.ListN.{length, get_or, take, drop, length-drop, length-take, length-map, length-append}
use lib.Dec.{leb}
use borrow.Author.Tests.{leb-true, leb-false}
use Rattle.clusters.specs.Sets.{whole}
use Rattle.trees.specs.Tree.{Tree, clusters}
use Rattle.trees.specs.Records.{record_of}
use Rattle.roster.specs.Roster.{names, faulty, first_fault}
use Rattle.roster.specs.Judged.{species_most}
use Rattle.roster.specs.Verdict.{Test}
use Rattle.nodes.specs.Grammar.{Blanks}
use Rattle.splits.specs.BinaryTrees.{Binary}
use Rattle.splits.specs.Best.{best_for, found_by}
use Rattle.reader.specs.Promise.{text_most}
use Rattle.std.proofs.Common.{None}
use Rattle.reader.specs.declared.Kind.TheVariants.{Gene}
use Rattle.writer.specs.Promise.{roster_test}
use Rattle.weights.specs.declared.Rooting.{Rooting}
use Rattle.lineages.specs.Checks.{rooting_test}
use Rattle.gather.specs.GeneTrees.{Gathered, gather}
use Rattle.gather.specs.GeneTrees.Gathered.{gathered, stopped}
use Rattle.gather.proofs.GeneTrees.{stopped-inside}
use Rattle.printing.specs.Words.{refused_text, at_text, newline, decimal}
use Rattle.printing.specs.Texts.{refusal_text}
use Rattle.printing.specs.declared.Report.{Report}
use Rattle.report.proofs.InputParts.{line-within}
use Rattle.report.proofs.Outcomes.{program-never-nine}
use Rattle.report.specs.Input.{line_length, first_line, behind_line, ends_in_feed, mode_place, trees_place, mode_word}
use Rattle.report.specs.Program.{Mode}
use Rattle.std.proofs.Common.{Option as Optional, Some, None}
use Rattle.report.specs.Promise.{output, Reports}
use Rattle.report.specs.Program.{mode_of, on_mode, on_feeds, on_species, on_roster, on_text, program}
use Rattle.search.specs.TiesPromise.{ties_for, with_ties}
use Rattle.outcomes.specs.Outcome.{Outcome, program_most, outcome_of, searched, allowed_by, tree_place, on_rooting, with_genes, on_trees, printed}
use Rattle.outcomes.specs.Outcome.Outcome.{refused, solved}
use Rattle.demands.specs.CallFaults.{◌before◌, RosterFault}
use Rattle.demands.specs.TextFaults.{TextFault}
use Rattle.demands.specs.CallFaults.RosterFaultOf.{faulty_roster}
use Rattle.demands.specs.CallFaults.◌before◌.{first, later}
use Rattle.demands.specs.Input.{TreesTo, TreesStand}
use Rattle.demands.specs.Input.TreesTo.{no_tree_yet, with_more}
use Rattle.demands.specs.Signed.{Solvable}
use Rattle.demands.specs.ProgramFaults.{TextLengthFault, ManySpeciesFault, LineFeedFault, ModeFault, TreesFault, NoGeneTreeFault, UnresolvedFault, UnsolvableFault, ProgramFault}
use Rattle.demands.specs.ProgramFaults.TextLengthFault.{too_long}
use Rattle.demands.specs.ProgramFaults.ManySpeciesFault.{over_12}
use Rattle.demands.specs.ProgramFaults.LineFeedFault.{feed_missing}
use Rattle.demands.specs.ProgramFaults.ModeFault.{another_word}
use Rattle.demands.specs.ProgramFaults.NoGeneTreeFault.{only_blanks}
use Rattle.demands.specs.ProgramFaults.UnresolvedFault.{unresolved_or_incomplete}
use Rattle.demands.specs.ProgramFaults.UnsolvableFault.{without_tree}
use Rattle.demands.proofs.FirstFaults.{NoFault, Meets, Names, names_one, names_first, names_later, passed_none, none_passed}
use Rattle.demands.proofs.TestFaults.{roster-met}
use Rattle.demands.proofs.TextFaults.{plain-fault-numbers}
use Rattle.demands.proofs.Gathering.{records_of, stopped-gathered, stopped-fault, gathered_from, gathers_standing}
use Rattle.demands.proofs.TreesFaults.{fault-stops, trees-fault-means}
use Rattle.demands.proofs.TwoLines.{feed_splits, ModeTold, mode-told}
use Rattle.demands.proofs.UnresolvedTrees.{unresolved_met}
use Rattle.demands.proofs.LineFeeds.{feed_found, second_feed_found}
use Rattle.demands.proofs.RefusalLines.{same_number, one_refusal}
use Rattle.demands.proofs.Solved.{refused-solved}
use Rattle.demands.proofs.Signed.{report_is_the_output}
use Rattle.demands.proofs.Taken.{solved_exactly, none_exactly}

-- ---- an outcome that says exactly the first fault

-- the outcome is a refusal with a number and a place exactly where F has that fault
abbrev Says : Outcome → (ℕ → ℕ → Type 0) → Type 0
Says o F = Names (λ k p. o ≡ refused k p) F

-- the first kind has a fault, and this is its only one
says_first :
    {o : Outcome} {F G : ℕ → ℕ → Type 0} (k p : ℕ) → o ≡ refused k p → F k p → ((j q : ℕ) → F j q → (j ≡ k) × (q ≡ p)) → Says o (F before G)
says_first {o} k p e f one = names_first k p f (names_one e same f one)
  where
    same : (j q : ℕ) → o ≡ refused j q → (j ≡ k) × (q ≡ p)
    same j q h = let i : refused j q ≡ refused k p = sym h ∙ e in (cc, cc)

-- ---- the kinds, from the last to the first

searched_fourteen :
    (rooting : Rooting) (n : ℕ) (genes : List (List ℕ)) (allowed : List ℕ) {k p : ℕ} → searched rooting n genes allowed ≡ refused k p → (k ≡ 14) × (p ≡ 0)
unfolding searched
searched_fourteen rooting n genes allowed {k} {p} e = go (best_for rooting n genes allowed (whole n)) e
  where
    go :
        (o : Option Binary)
        → outcome_of (found_by rooting o genes).number n (length genes) (with_ties (found_by rooting o genes) (ties_for rooting n genes allowed (whole n)))
        ≡ refused k p → (k ≡ 14) × (p ≡ 0)
    go none e = (let a : 14 ≡ k = cc in sym a, let b : 0 ≡ p = cc in sym b)
    go (some t) e = absurd (refused-solved (sym e))

-- nothing was gathered exactly where nothing stands
none_stand : {line txt : List ℕ} → Blanks txt [] → TreesStand line txt []
none_stand b = record { end = 0; trees_reach = no_tree_yet; only_blanks = b }

no_trees_stand : (line txt : List ℕ) → gather line txt ≡ gathered [] → Blanks txt []
no_trees_stand line txt g = let h = gathered_from line txt [] g in go h.stand.trees_reach h.stand.only_blanks h.records.records
  where
    go : {trees : List Tree} {at : ℕ} → TreesTo line txt trees at → Blanks (drop at txt) [] → [] ≡ records_of trees → Blanks txt []
    go no_tree_yet b e = b
    go (with_more {trees} {t = t} earlier d j) b e =
        absurd (omega (arith, ap length e, length-map (trees ++ (t ∷ [])) (λ (t : Tree). record_of (clusters t)), length-append trees (t ∷ [])))

module _ (input : List ℕ) where
  abbrev line : List ℕ
  line = first_line input

  abbrev text : List ℕ
  text = drop (trees_place input) input

  -- 14
  says_unsolvable :
      (all : Bool) (rooting : Rooting) (genes : List (List ℕ)) → program input
      ≡ searched rooting (length (names line)) genes (allowed_by all rooting (length (names line)) genes)
      → Says (program input) (UnsolvableFault input)
  says_unsolvable all rooting genes e = record { found = found; only = only }
    where
      found : {k p : ℕ} → program input ≡ refused k p → UnsolvableFault input k p
      found {k} {p} h =
          let z = searched_fourteen rooting (length (names line)) genes (allowed_by all rooting (length (names line)) genes) (sym e ∙ h) in
          subst₂ (UnsolvableFault input) (sym z.0) (sym z.1)
          (without_tree ((none_exactly input).0 (h ∙ ap₂ refused z.0 z.1)))

      only : {k p : ℕ} → UnsolvableFault input k p → program input ≡ refused k p
      only (without_tree u) = (none_exactly input).1 u

  abbrev mode : List ℕ
  mode = first_line (behind_line input)

  -- 19
  abbrev From19 : ℕ → ℕ → Type 0
  From19 = UnresolvedFault line mode text (trees_place input) before UnsolvableFault input

  says_unresolved :
      (all : Bool) (rooting : Rooting) (genes : List (List ℕ)) → length (names line) ≤ 16 → mode ≡ mode_word all rooting → gather line text ≡ gathered genes
      → program input
      ≡ on_rooting (rooting_test rooting (length (names line)) genes).fault
      (tree_place line text (trees_place input) (rooting_test rooting (length (names line)) genes).place)
      (searched rooting (length (names line)) genes (allowed_by all rooting (length (names line)) genes))
      → Says (program input) From19
  says_unresolved all rooting genes few is g e =
      let from = gathered_from line text genes g in
      let same : records_of from.trees ≡ genes = sym from.records.records in
      go (rooting_test rooting (length (names line)) genes) (rw same at (unresolved_met line text (trees_place input) from.stand few all rooting is)) e
    where
      go :
          (t : Test) → Meets (record { fault = t.fault; number = 19; place = tree_place line text (trees_place input) t.place })
          (UnresolvedFault line mode text (trees_place input))
          → program input
          ≡ on_rooting t.fault (tree_place line text (trees_place input) t.place)
          (searched rooting (length (names line)) genes (allowed_by all rooting (length (names line)) genes))
          → Says (program input) From19
      go t met e = by t.fault refl e
        where
          by : (b : Bool) → t.fault ≡ b
              → program input
              ≡ on_rooting b (tree_place line text (trees_place input) t.place)
              (searched rooting (length (names line)) genes (allowed_by all rooting (length (names line)) genes))
              → Says (program input) From19
          by true fault e =
              says_first 19 (tree_place line text (trees_place input) t.place) e (met.found fault) (λ j q f. let h = met.only f in (h.1, h.2))
          by false fault e = names_later (passed_none met fault) (says_unsolvable all rooting genes e)

  -- 11
  abbrev From11 : ℕ → ℕ → Type 0
  From11 = NoGeneTreeFault text before From19

  says-gathered :
      (all : Bool) (rooting : Rooting) (genes : List (List ℕ)) → length (names line) ≤ 16 → mode ≡ mode_word all rooting → gather line text ≡ gathered genes
      → program input ≡ with_genes genes (λ i. tree_place line text (trees_place input) i) all rooting (length (names line)) → Says (program input) From11
  says-gathered all rooting [] few is g e = says_first 11 0 e (only_blanks (no_trees_stand line text g)) (λ j q f. one f)
    where
      one : {j q : ℕ} → NoGeneTreeFault text j q → (j ≡ 11) × (q ≡ 0)
      one (only_blanks b) = (refl, refl)
  says-gathered all rooting (x ∷ l) few is g e = names_later (λ k p f. never f) (says_unresolved all rooting (x ∷ l) few is g e)
    where
      never : {k p : ℕ} → NoGeneTreeFault text k p → ⊥
      never (only_blanks b) =
          let h : gathered [] ≡ gathered (x ∷ l) = sym (gathers_standing line text (none_stand b) (omega arith)) ∙ g in
          let z : ◌≡◌ {A = List (List ℕ)} [] (x ∷ l) = cc in
          omega (arith, ap length z)

  -- the trees
  abbrev FromTrees : ℕ → ℕ → Type 0
  FromTrees = TreesFault line text (trees_place input) before From11

  says-trees :
      (all : Bool) (rooting : Rooting) (g : Gathered) → length (names line) ≤ 16 → mode ≡ mode_word all rooting → gather line text ≡ g
      → program input ≡ on_trees g line text (trees_place input) all rooting (length (names line)) → Says (program input) FromTrees
  says-trees all rooting (stopped number place) few is g e =
      says_first number (trees_place input + place) e (stopped-fault line text (trees_place input) g) (λ j q f. one (fault-stops line text f))
    where
      one : {j q : ℕ} → (p : ℕ) × (gather line text ≡ stopped j p) × (q ≡ trees_place input + p) → (j ≡ number) × (q ≡ trees_place input + place)
      one {j} (p, h, i) =
          let same : stopped j p ≡ stopped number place = sym h ∙ g in
          let a : j ≡ number = cc in
          let b : p ≡ place = cc in
          (a, i ∙ ap (λ (x : ℕ). trees_place input + x) b)
  says-trees all rooting (gathered genes) few is g e =
      names_later (λ k p f. stopped-gathered (sym (fault-stops line text f).1 ∙ g)) (says-gathered all rooting genes few is g e)

  -- 3
  abbrev FromMode : ℕ → ℕ → Type 0
  FromMode = ModeFault input before FromTrees

  says-mode : (m : Optional Mode) → length (names line) ≤ 16 → ModeTold mode m → program input ≡ on_mode m input → Says (program input) FromMode
  says-mode None few told e = says_first 3 (mode_place input) e (another_word told) (λ j q f. one f)
    where
      one : {j q : ℕ} → ModeFault input j q → (j ≡ 3) × (q ≡ mode_place input)
      one (another_word f) = (refl, refl)
  says-mode (Some (all, rooting)) few told e = names_later (λ k p f. never f) (says-trees all rooting (gather line text) few told refl e)
    where
      never : {k p : ℕ} → ModeFault input k p → ⊥
      never (another_word f) = f all rooting told

  -- 10
  abbrev FromFeeds : ℕ → ℕ → Type 0
  FromFeeds = LineFeedFault input before FromMode

  says-missing : (ends_in_feed input ≡ false) ⊎ (ends_in_feed (behind_line input) ≡ false) → program input ≡ refused 10 (length input) → Says (program input) FromFeeds
  says-missing m e = says_first 10 (length input) e (feed_missing (λ a b c parts. not_two a b c parts m)) (λ j q f. one f)
    where
      not_two :
          (a b c : List ℕ) → input ≡ a ++ (10 ∷ (b ++ (10 ∷ c))) → (ends_in_feed input ≡ false) ⊎ (ends_in_feed (behind_line input) ≡ false) → ⊥
      not_two a b c parts (inl h) = true≢false (sym (feed_found a (b ++ (10 ∷ c))) ∙ ap ends_in_feed (sym parts) ∙ h)
      not_two a b c parts (inr h) = true≢false (sym (second_feed_found a b c) ∙ ap (λ (l : List ℕ). ends_in_feed (behind_line l)) (sym parts) ∙ h)

      one : {j q : ℕ} → LineFeedFault input j q → (j ≡ 10) × (q ≡ length input)
      one (feed_missing h) = (refl, refl)

  says-feeds :
      (a b : Bool) → length (names line) ≤ 16 → ends_in_feed input ≡ a → ends_in_feed (behind_line input) ≡ b → program input ≡ on_feeds a b input
      → Says (program input) FromFeeds
  says-feeds false b few p q e = says-missing (inl p) e
  says-feeds true false few p q e = says-missing (inr q) e
  says-feeds true true few p q e = names_later (λ k p f. never f) (says-mode (mode_of mode) few (mode-told mode) e)
    where
      never : {k p : ℕ} → LineFeedFault input k p → ⊥
      never (feed_missing f) =
          f line mode (behind_line (behind_line input))
          (feed_splits input p ∙ ap (λ (l : List ℕ). line ++ (10 ∷ l)) (feed_splits (behind_line input) q))

  -- 17
  abbrev FromSpecies : ℕ → ℕ → Type 0
  FromSpecies = ManySpeciesFault line before FromFeeds

  says-species : (b : Bool) → leb (length (names line)) program_most ≡ b → program input ≡ on_species b input → Says (program input) FromSpecies
  says-species true is e =
      names_later (λ k p f. never f)
      (says-feeds (ends_in_feed input) (ends_in_feed (behind_line input)) (let l = leb-true (length (names line)) program_most is in omega arith) refl refl e)
    where
      never : {k p : ℕ} → ManySpeciesFault line k p → ⊥
      never (over_12 h) = let l = leb-true (length (names line)) program_most is in omega arith
  says-species false is e = says_first 17 0 e (over_12 (leb-false (length (names line)) program_most is)) (λ j q f. one f)
    where
      one : {j q : ℕ} → ManySpeciesFault line j q → (j ≡ 17) × (q ≡ 0)
      one (over_12 h) = (refl, refl)

  -- 1
  abbrev FromRoster : ℕ → ℕ → Type 0
  FromRoster = RosterFault line before FromSpecies

  says-roster : (b : Bool) → faulty species_most line ≡ b → program input ≡ on_roster b input → Says (program input) FromRoster
  unfolding roster_test
  says-roster true is e =
      says_first 1 (first_fault species_most line) e ((roster-met line).found is) (λ j q f. let h = (roster-met line).only f in (h.1, h.2))
  says-roster false is e = names_later (passed_none (roster-met line) is) (says-species (leb (length (names line)) program_most) refl e)

  -- 2
  says-text : (b : Bool) → leb (length input) text_most ≡ b → program input ≡ on_text b input → Says (program input) (ProgramFault input)
  says-text true is e = names_later (λ k p f. never f) (says-roster (faulty species_most line) refl e)
    where
      never : {k p : ℕ} → TextLengthFault input k p → ⊥
      never (too_long h) = let l = leb-true (length input) text_most is in omega arith
  says-text false is e = says_first 2 text_most e (too_long (leb-false (length input) text_most is)) (λ j q f. one f)
    where
      one : {j q : ℕ} → TextLengthFault input j q → (j ≡ 2) × (q ≡ text_most)
      one (too_long h) = (refl, refl)

  -- "Checks: 2, 1, 17, mode, trees, 11, 14", with 19 "after 11" (#106): the program refuses with a number at a place exactly where that fault stands
  pub refused_exactly : (number place : ℕ) → (program input ≡ refused number place) ↔ ProgramFault input number place
  unfolding program
  refused_exactly number place = let s = says-text (leb (length input) text_most) refl refl in (λ e. s.found e, λ f. s.only f)

  -- ---- numbers and places are small

  places : (length (behind_line input) ≤ length input) × (trees_place input ≤ 2 * length input + 2) × (mode_place input ≤ length input + 1) × (length text ≤ length input)
  unfolding behind_line trees_place mode_place
  places = (
    omega (arith, length-drop (line_length input + 1) input),
    omega (arith, line-within input, line-within (behind_line input), length-drop (line_length input + 1) input),
    omega (arith, line-within input),
    omega (arith, length-drop (trees_place input) input),
  )

  line-short : length line ≤ length input
  unfolding first_line
  line-short = omega (arith, length-take (line_length input) input)

  -- so of a refusal among the trees, whose place lies in their text
  trees-within : {k p : ℕ} → length input ≤ text_most → faulty species_most line ≡ false → TreesFault line text (trees_place input) k p → (k ≤ 19) × (p ≤ 200000)
  trees-within {k} {p} short good f = (number (trees-fault-means f), place (fault-stops line text f))
    where
      number : (k ≡ 17) ⊎ ((b : ℕ) × (q : ℕ) × TextFault Gene None line text b k q × (p ≡ trees_place input + q)) → k ≤ 19
      number (inl e) = omega arith
      number (inr h) = omega (arith, (plain-fault-numbers h.2).1)

      place : (q : ℕ) × (gather line text ≡ stopped k q) × (p ≡ trees_place input + q) → p ≤ 200000
      place (q, e, i) = let t = places.3 in let l = stopped-inside line text good (omega arith) (sym e) in omega (arith, places.1)

  -- no number is over 19, and no place over 200,000: each has at most twenty digits
  small : {k p : ℕ} → ProgramFault input k p → (k ≤ 19) × (p ≤ 200000)
  unfolding roster_test
  small (first (too_long h)) = (omega arith, omega arith)
  small (later free f) = roster (let g : text_most < length input → ⊥ = λ h. free 2 text_most (too_long h) in omega (arith, g)) f
    where
      mode_on : {k p : ℕ} → length input ≤ text_most → faulty species_most line ≡ false → FromMode k p → (k ≤ 19) × (p ≤ 200000)
      mode_on short good (first (another_word f)) = (omega arith, let m = places.2 in omega arith)
      mode_on short good (later free (first f)) = trees-within short good f
      mode_on short good (later free (later free' (first (only_blanks b)))) = (omega arith, omega arith)
      mode_on short good (later free (later free' (later free'' (first (unresolved_or_incomplete all is more enter draws unresolved))))) =
          let t = places.3 in let b = more.inside in (omega arith, omega (arith, places.1))
      mode_on short good (later free (later free' (later free'' (later free''' (without_tree u))))) = (omega arith, omega arith)

      roster : {k p : ℕ} → length input ≤ text_most → FromRoster k p → (k ≤ 19) × (p ≤ 200000)
      roster short (first (faulty_roster inside stands earlier)) = (omega arith, omega (arith, line-short))
      roster short (later free (first (over_12 h))) = (omega arith, omega arith)
      roster short (later free (later free' (first (feed_missing h)))) = (omega arith, omega arith)
      roster short (later free (later free' (later free'' f))) = mode_on short (none_passed (roster-met line) free) f

  -- ---- what is printed

  -- the input with a fault prints its line, whatever the number and the place
  pub fault_is_printed :
      (number place : ℕ) → ProgramFault input number place → output input ≡ refused_text ++ decimal number ++ at_text ++ decimal place ++ newline
  unfolding output
  fault_is_printed number place f = ap (printed (names line)) ((refused_exactly number place).1 f)

  -- "A refusal prints one line, such as `refused 14 at 0`: the number and the place": exactly where the input has that fault
  pub printed-refusal_exactly :
      (number place : ℕ) → number < 10 ^ 20 → place < 10 ^ 20
      → (output input ≡ refused_text ++ decimal number ++ at_text ++ decimal place ++ newline) ↔ ProgramFault input number place
  unfolding output
  printed-refusal_exactly number place few near = (λ e. back (program input) refl e, fault_is_printed number place)
    where
      back : (o : Outcome) → program input ≡ o → printed (names line) o ≡ refusal_text number place → ProgramFault input number place
      back (refused k p) e t =
          let f = (refused_exactly k p).0 e in
          let s = small f in
          let one = one_refusal k p number place (omega arith) (omega arith) few near t in
          subst₂ (ProgramFault input) one.0 one.1 f
      back (solved n m s ties r) e t = absurd (omega (arith, ap (λ (l : List ℕ). get_or l 0 0) t))

  -- the same of any report that meets the promise
  pub report_refused_at :
      (reply : Report) → Reports input reply → (number place : ℕ) → number < 10 ^ 20 → place < 10 ^ 20
      → (take reply.len reply.text ≡ refused_text ++ decimal number ++ at_text ++ decimal place ++ newline) ↔ ProgramFault input number place
  report_refused_at reply r number place few near =
      let e = report_is_the_output input reply r in
      let h = printed-refusal_exactly number place few near in
      (λ t. h.0 (sym e ∙ t), λ f. e ∙ h.1 f)

  -- ---- 9

  -- "9 is shown never to occur for gene trees" (#104): no fault of the program's input has that number
  pub no_fault_is_nine : {place : ℕ} → ProgramFault input 9 place → ⊥
  no_fault_is_nine {place} f = program-never-nine input ((refused_exactly 9 place).1 f) refl

  -- and no output begins with `refused 9 at`, whatever stands behind it
  pub never_prints_nine : (rest : List ℕ) → output input ≡ refused_text ++ decimal 9 ++ at_text ++ rest → ⊥
  unfolding output
  never_prints_nine rest t = go (program input) refl t
    where
      grouped : (a b c d : List ℕ) → a ++ b ++ c ++ d ≡ a ++ (b ++ (c ++ d))
      grouped a b c d = simp append_assoc

      go : (o : Outcome) → program input ≡ o → printed (names line) o ≡ refused_text ++ decimal 9 ++ at_text ++ rest → ⊥
      go (refused k p) e t =
          let s = small ((refused_exactly k p).0 e) in
          program-never-nine input e (same_number k p 9 (omega arith) (omega arith) (t ∙ grouped refused_text (decimal 9) at_text rest)).0
      go (solved n m s ties r) e t = omega (arith, ap (λ (l : List ℕ). get_or l 0 0) t)

  -- the same of any report that meets the promise
  pub report_never_nine : (reply : Report) → Reports input reply → (rest : List ℕ) → take reply.len reply.text ≡ refused_text ++ decimal 9 ++ at_text ++ rest → ⊥
  report_never_nine reply r rest t = never_prints_nine rest (sym (report_is_the_output input reply r) ∙ t)

  -- "both fixed in advance": one number and place at the most
  pub one_program_fault : {k p k' p' : ℕ} → ProgramFault input k p → ProgramFault input k' p' → (k ≡ k') × (p ≡ p')
  one_program_fault {k} {p} {k'} {p'} f g =
      let e : refused k p ≡ refused k' p' = sym ((refused_exactly k p).1 f) ∙ (refused_exactly k' p').1 g in
      (cc, cc)

  -- an input without a fault is one for which a tree is printed, and the other way round
  pub solvable-without-fault : Solvable input ↔ ((number place : ℕ) → ProgramFault input number place → ⊥)
  solvable-without-fault = (
    λ q k p f. refused-solved (sym ((refused_exactly k p).1 f) ∙ ((solved_exactly input).1 q).5),
    λ free. go (program input) refl free,
  )
    where
      go : (o : Outcome) → program input ≡ o → NoFault (ProgramFault input) → Solvable input
      go (refused k p) e free = absurd (free k p ((refused_exactly k p).0 e))
      go (solved n m s t r) e free = (solved_exactly input).0 (n, m, s, t, r, e)
