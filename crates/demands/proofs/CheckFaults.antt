-- "Faulty input is turned away with a number and a place, both fixed in advance": for checking a tree that came with branch counts (#114).
use Prim.Native.Nat.{ℕ, ◌*◌, ◌^◌, ◌≤◌}
use mathlib.Core.Path.{◌≡◌, refl, sym, ap, ◌∙◌}
use mathlib.Core.Logic.{◌↔◌}
use mathlib.Core.Bool.{true, false, not}
use Rattle.std.proofs.Common.{Option, Some, None}
use mathlib.Core.List.{List, [], ◌∷◌}
use native.Mathlib.Omega.{arith}
use lib.ListN.{length, drop}
use borrow.Author.Tests.{not-true}
use Rattle.clusters.specs.Sets.{whole}
use Rattle.trees.specs.Tree.{Tree, On, Binary, clusters}
use Rattle.trees.specs.Records.{record_of, records_in}
use Rattle.trees.specs.Valid.{binary}
use Rattle.trees.proofs.Booleans.{unless}
use Rattle.trees.proofs.Counts.{clusters_of_binary, binary_of_clusters}
use Rattle.trees.proofs.Recorded.{count_record}
use Rattle.trees.proofs.ValidTest.{Tells, denied, tells_also, binary_decides}
use Rattle.roster.specs.Roster.{names}
use Rattle.roster.specs.Judged.{species_most}
use Rattle.roster.specs.Verdict.{Verdict, verdict, length_test}
use Rattle.roster.specs.declared.Reply.{Reply}
use Rattle.roster.proofs.Names.{names-count}
use Rattle.std.proofs.Common.{None}
use Rattle.tokens.specs.Answers.{Answer}
use Rattle.tokens.specs.Answers.Answer.{parsed, refused}
use Rattle.reader.specs.Accepted.{Draws}
use Rattle.reader.specs.Promise.{answer_to}
use Rattle.reader.specs.declared.Kind.TheVariants.{Species}
use Rattle.reader.proofs.Accepts.{accepted-derives, draws_one}
use Rattle.branches.specs.Ends.{ends_from}
use Rattle.lineages.specs.Checks.{count_test, records_test}
use Rattle.counts.specs.Promise.{drawn_test, counts_test, check_tests, check_verdict, Checks}
use Rattle.counts.specs.Passes.{CallInOrder, FirstFault}
use Rattle.counts.specs.Work.{call_tests}
use Rattle.counts.proofs.CallFaults.{drawn_tests, passed_of, passed_on}
use Rattle.counts.proofs.Checking.{said_of, wrong_in, said_as}
use Rattle.counts.proofs.Yes.{says_which}
use Rattle.demands.specs.CheckFaults.{UnresolvedFault, CountsFault, BehindReading, CheckFault}
use Rattle.demands.specs.CheckFaults.UnresolvedFault.{not_binary}
use Rattle.demands.specs.CheckFaults.CountsFault.{first_node_at_fault}
use Rattle.demands.proofs.FirstFaults.{Exact, Meets, names_first, names_later, exact_one, exact_none, exact_next, refused_at_lem, one_fault}
use Rattle.demands.proofs.TestFaults.{count-met, length-met, records-met}
use Rattle.demands.proofs.TextFaults.{fault_of_refusal, plain-fault-numbers, fault_one, read-has_none}
use Rattle.demands.proofs.FirstDemand.{replies_check}

-- ---- 16: the tree that is drawn

-- the test of the drawn tree's record tells whether the tree is binary
binary-told : {s : ℕ} {t : Tree} → On s t → Tells (binary s (record_of (clusters t))) (Binary t)
binary-told {s} {t} on =
    tells_also (λ b. binary_of_clusters on (rw (count_record 16 (clusters t)) at b)) (λ b. rw (count_record 16 (clusters t)) (clusters_of_binary on b))
    (binary_decides s (record_of (clusters t)))

module _ (line text : List ℕ) (start : ℕ) {t : Tree} {rest : List ℕ} (d : Draws Species None line text start t rest) where
  told : Tells (binary (whole (length (names line))) (record_of (clusters t))) (Binary t)
  told = binary-told (record { once = d.once; all = d.species })

  -- "16 (the tree drawn is not binary)"
  unresolved_met : Meets (drawn_test (length (names line)) t) (UnresolvedFault line text start)
  unfolding drawn_test
  unresolved_met = record { numbered = λ z. omega arith; found = λ e. not_binary d (denied told (not-true (binary (whole (length (names line))) (record_of (clusters t))) e)); only = only }
    where
      only : {k p : ℕ} → UnresolvedFault line text start k p → (not (binary (whole (length (names line))) (record_of (clusters t))) ≡ true) × (k ≡ 16) × (p ≡ 0)
      only (not_binary {t = u} d' wide) =
          let same : u ≡ t = (draws_one Species Species None None line text start d' d).value in
          (ap not (unless (binary (whole (length (names line))) (record_of (clusters t))) (λ e. wide (rw same (told.holds e)))), refl, refl)

module _ (line text : List ℕ) (start : ℕ) (genes : List ℕ) (count : ℕ) (scores splits : List ℕ) where
  abbrev n : ℕ
  n = length (names line)

  abbrev said : Verdict
  said = said_of line text start genes count scores splits

  -- ---- 23: the counts

  -- 23 is said exactly of the first node at fault, where the call is in order
  said_which : (place : ℕ) → ((said.number ≡ 23) × (said.place ≡ place)) ↔ (FirstFault line text start genes count place × CallInOrder line genes count scores splits)
  said_which place =
      let c = (replies_check line text start genes count scores splits).meets in
      let number = ap (λ (r : Reply). r.number) c.reply in
      let at = ap (λ (r : Reply). r.place) c.reply in
      let which = says_which line text start genes count scores splits c place in
      (λ h. which.0 (number ∙ h.0, at ∙ h.1), λ f. let h = which.1 f in (sym number ∙ h.0, sym at ∙ h.1))

  -- so where nothing before them is at fault, the test of the counts says which node is
  counts-exact :
      (o : Option ℕ) → CallInOrder line genes count scores splits → verdict (counts_test o ∷ []) ≡ said
      → Exact (verdict (counts_test o ∷ [])) (CountsFault line text start genes count)
  unfolding verdict
  counts-exact (Some place) order same =
      let number : said.number ≡ 23 = sym (ap (λ (v : Verdict). v.number) same) in
      let at : said.place ≡ place = sym (ap (λ (v : Verdict). v.place) same) in
      exact_one (λ z. omega arith) (first_node_at_fault ((said_which place).0 (number, at)).0) (λ j q f. only at f)
    where
      only : said.place ≡ place → {j q : ℕ} → CountsFault line text start genes count j q → (j ≡ 23) × (q ≡ place)
      only at (first_node_at_fault {place = q} f) = (refl, sym ((said_which q).1 (f, order)).1 ∙ at)
  counts-exact None order same = exact_none (λ k p f. never (ap (λ (v : Verdict). v.number) same) f)
    where
      never : 0 ≡ said.number → {j q : ℕ} → CountsFault line text start genes count j q → ⊥
      never passed (first_node_at_fault {place = q} f) = omega (arith, ((said_which q).1 (f, order)).0)

  -- ---- all of them, in order

  -- where none of its tests finds a fault, the call is refused by no number
  calls-pass :
      (t : Tree) → (count_test count).fault ≡ false → (length_test (length genes) (32 * count)).fault ≡ false → (length_test (length scores) (2 ^ n)).fault ≡ false
      → (length_test (length splits) (2 ^ n)).fault ≡ false → (drawn_test n t).fault ≡ false → (records_test n (records_in count genes)).fault ≡ false
      → (verdict (drawn_tests n genes count (record_of (clusters t)) scores splits)).number ≡ 0
  unfolding call_tests drawn_test verdict
  calls-pass t c l s p b v = rw (c, l, s, p, b, v)

  module _ {t : Tree} {rest : List ℕ} {next : ℕ} (e : answer_to Species None line text start ≡ parsed t rest next) where
    draws : Draws Species None line text start t rest
    draws = (accepted-derives Species None line text start e).draws

    few : (1 ≤ n) × (n ≤ 16)
    few = names-count species_most line draws.good

    behind_reading : Exact (verdict (check_tests n genes count scores splits t (ends_from (length (clusters t)) (drop start text) start))) (BehindReading line text start genes count scores splits)
    unfolding check_tests
    behind_reading =
        exact_next _ (count-met count) (λ c.
        exact_next _ (length-met genes (32 * count)) (λ l.
        exact_next _ (length-met scores (2 ^ n)) (λ s.
        exact_next _ (length-met splits (2 ^ n)) (λ p.
        exact_next _ (unresolved_met line text start draws) (λ b.
        exact_next _ (records-met n few.1 (records_in count genes)) (λ v.
        let passed = passed_of n genes count (record_of (clusters t)) scores splits few.0 few.1 (calls-pass t c l s p b v) in
        counts-exact (wrong_in text start genes count t)
        (record { genes_in_order = passed.in_order; scores_fit = passed.scores_fit; splits_fit = passed.splits_fit })
        (sym (said_as line text start genes count scores splits e ∙ passed_on n genes count (record_of (clusters t)) scores splits passed _))))))))

  pub check_exact : Exact said (CheckFault line text start genes count scores splits)
  unfolding check_verdict
  check_exact = by (answer_to Species None line text start) refl
    where
      by : (a : Answer Tree) → answer_to Species None line text start ≡ a → Exact said (CheckFault line text start genes count scores splits)
      by (refused k q) e =
          let own = fault_of_refusal Species None line text start k q e in
          let few = plain-fault-numbers own in
          rw e (names_first k q own (exact_one (λ z. omega (arith, few.0)) own (λ j p f. fault_one f own)))
      by (parsed t rest q) e = rw e (names_later (λ k p f. read-has_none e f) (behind_reading e))

  -- "after the reader's own, 11, 12, 16 and 15" (#114): refused with a number at a place exactly where that fault stands
  pub check_refused_at :
      (r : Reply) (s p : List ℕ) → Checks line text start genes count scores splits r s p → (number place : ℕ)
      → ((r.number ≡ number) × (r.place ≡ place) × (number ≡ 0 → ⊥)) ↔ CheckFault line text start genes count scores splits number place
  check_refused_at r s p c = refused_at_lem check_exact (ap (λ (r : Reply). r.number) c.reply) (ap (λ (r : Reply). r.place) c.reply)

  pub one_check_fault :
      {k p k' p' : ℕ} → CheckFault line text start genes count scores splits k p → CheckFault line text start genes count scores splits k' p'
      → (k ≡ k') × (p ≡ p')
  one_check_fault = one_fault check_exact
