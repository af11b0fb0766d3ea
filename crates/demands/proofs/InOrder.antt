-- What the calls accept has no fault, and what has no fault is accepted: writing, weighing and marking, and what they then answer.
use Prim.Native.Nat.{ℕ, zero, suc, ◌*◌, ◌^◌, ◌≤◌, ◌<◌}
use mathlib.Core.Path.{◌≡◌, sym, ap, ◌∙◌}
use mathlib.Core.Logic.{◌⊎◌, inl, inr, ◌↔◌}
use mathlib.Core.Bool.{true}
use mathlib.Core.List.{List, ◌++◌, Memᴰ}
use native.Mathlib.Omega.{arith}
use lib.ListN.{length, drop}
use borrow.Author.Tests.{le-ltb}
use Rattle.trees.specs.Records.{AllValid, records_in}
use Rattle.trees.specs.Unrooted.{may_unroot}
use Rattle.roster.specs.Roster.{names}
use Rattle.roster.specs.Verdict.{Verdict, verdict, reply_of}
use Rattle.roster.specs.declared.Reply.{Reply}
use Rattle.texts.specs.Writing.{written}
use Rattle.writer.specs.Promise.{roster_test, Writes}
use Rattle.writer.proofs.Outcomes.{writes_zero}
use Rattle.weights.specs.Count.{weight}
use Rattle.weights.specs.declared.Rooting.{Rooting}
use Rattle.weights.specs.declared.Rooting.TheVariants.{Unrooted}
use Rattle.lineages.specs.Checks.{first_bad, records_test, rooting_test, weight_tests, mark_tests}
use Rattle.lineages.specs.Promise.{marks, marked_by, Weighs, Marks}
use Rattle.lineages.specs.InOrder.{GenesInOrder}
use Rattle.lineages.proofs.FirstBad.{all_valid_none_bad, none_unresolved, all_resolved}
use Rattle.demands.specs.CallFaults.{SpeciesFault, CountFault, LengthFault, RecordsFault, RootingFault, RecordFault, ClusterFault, WriteFault, WeightFault, MarkFault}
use Rattle.demands.specs.CallFaults.SpeciesFault.{not_1_to_16}
use Rattle.demands.specs.CallFaults.CountFault.{none_or_many}
use Rattle.demands.specs.CallFaults.LengthFault.{too_short}
use Rattle.demands.specs.CallFaults.RecordFault.{not_valid}
use Rattle.demands.specs.CallFaults.ClusterFault.{no_cluster}
use Rattle.demands.specs.InOrder.{Weighable, Markable, Writable}
use Rattle.demands.proofs.FirstFaults.{NoFault, none_first, none_later, none_of_both, none_exactly, passed_none, none_passed}
use Rattle.demands.proofs.TestFaults.{records-met, records-passed, rooting-met, roster-met}
use Rattle.demands.proofs.CallFaults.{write_exact, weight-exact, mark_exact}

-- ---- no fault of one kind

in_range : (x most : ℕ) → ((x ≡ 0) ⊎ (most < x) → ⊥) → (1 ≤ x) × (x ≤ most)
in_range x most h =
    let some : x ≡ 0 → ⊥ = λ z. h (inl z) in
    let few : most < x → ⊥ = λ l. h (inr l) in
    (omega (arith, some), omega (arith, few))

never-outside : {x most : ℕ} → 1 ≤ x → x ≤ most → (x ≡ 0) ⊎ (most < x) → ⊥
never-outside some few (inl z) = omega arith
never-outside some few (inr l) = omega arith

pub long-enough : (lent : List ℕ) (need : ℕ) → NoFault (LengthFault lent need) ↔ (need ≤ length lent)
long-enough lent need = (λ h. let f : length lent < need → ⊥ = λ l. h 12 0 (too_short l) in omega (arith, f), λ l k p f. never l f)
  where
    never : {k p : ℕ} → need ≤ length lent → LengthFault lent need k p → ⊥
    never l (too_short s) = omega arith

pub all_valid : (n : ℕ) (genes : List (List ℕ)) → n ≤ 16 → NoFault (RecordsFault n genes) ↔ AllValid n genes
unfolding records_test
all_valid n genes few = (
  λ h. records-passed n few genes (none_passed (records-met n few genes) h),
  λ h. passed_none (records-met n few genes) (le-ltb (first_bad n genes) (length genes)
      (let e = all_valid_none_bad n genes few h in omega arith)),
)

-- nor of 19: where they are counted without a root, each record may
pub all_enter :
    (rooting : Rooting) (n : ℕ) (genes : List (List ℕ)) → n ≤ 16 → AllValid n genes
    → NoFault (RootingFault rooting n genes) ↔ (rooting ≡ Unrooted → (g : List ℕ) → Memᴰ g genes → may_unroot n g ≡ true)
unfolding rooting_test
all_enter rooting n genes few all = (
  λ h. none_unresolved rooting n genes (none_passed (rooting-met n few rooting genes all) h),
  λ h. passed_none (rooting-met n few rooting genes all) (all_resolved rooting n genes h),
)

-- ---- what the calls on gene records ask for

module _ (rooting : Rooting) (n : ℕ) (genes : List ℕ) (count : ℕ) where
  pub no_fault_in_order :
      NoFault (SpeciesFault n) → NoFault (CountFault count) → NoFault (LengthFault genes (32 * count)) → NoFault (RecordsFault n (records_in count genes))
      → NoFault (RootingFault rooting n (records_in count genes)) → GenesInOrder rooting n genes count
  no_fault_in_order s c l v u =
      let species = in_range n 16 (λ d. s 1 0 (not_1_to_16 d)) in
      let trees = in_range count 4096 (λ d. c 11 0 (none_or_many d)) in
      let valid = (all_valid n (records_in count genes) species.1).0 v in
      record {
        shaped = record {
          some_species = species.0;
          few_species = species.1;
          some_genes = trees.0;
          few_genes = trees.1;
          fits = (long-enough genes (32 * count)).0 l;
        };
        valid = valid;
        enter = (all_enter rooting n (records_in count genes) species.1 valid).0 u;
      }

  module _ (h : GenesInOrder rooting n genes count) where
    pub no_species_fault : NoFault (SpeciesFault n)
    no_species_fault k p f = go f
      where
        go : {k p : ℕ} → SpeciesFault n k p → ⊥
        go (not_1_to_16 d) = never-outside h.shaped.some_species h.shaped.few_species d

    pub no_count_fault : NoFault (CountFault count)
    no_count_fault k p f = go f
      where
        go : {k p : ℕ} → CountFault count k p → ⊥
        go (none_or_many d) = never-outside h.shaped.some_genes h.shaped.few_genes d

    pub no_length_fault : NoFault (LengthFault genes (32 * count))
    no_length_fault = (long-enough genes (32 * count)).1 h.shaped.fits

    pub no_records_fault : NoFault (RecordsFault n (records_in count genes))
    no_records_fault = (all_valid n (records_in count genes) h.shaped.few_species).1 h.valid

    -- and none of 19
    pub no_rooting_fault : NoFault (RootingFault rooting n (records_in count genes))
    no_rooting_fault = (all_enter rooting n (records_in count genes) h.shaped.few_species h.valid).1 h.enter

-- a reply with number 0 has the value
pub replied-value : (said : Verdict) (v : ℕ) (r : Reply) → r ≡ reply_of said v → r.number ≡ 0 → r.value ≡ v
replied-value said v r e z = go said.number said.place e
  where
    go : (k q : ℕ) → r ≡ reply_of (record { number = k; place = q }) v → r.value ≡ v
    go zero q e = ap (λ (r : Reply). r.value) e
    go (suc k) q e = absurd (omega (arith, ap (λ (r : Reply). r.number) e))

-- ---- weighing

module _ (rooting : Rooting) (n : ℕ) (genes : List ℕ) (count a : ℕ) where
  no_fault_weighable : NoFault (WeightFault rooting n genes count a) → Weighable rooting n genes count a
  no_fault_weighable h =
      let c = none_later h in
      let l = none_later c in
      let v = none_later l in
      let u = none_later v in
      let some : a ≡ 0 → ⊥ = λ z. none_later u 13 a (no_cluster (inl z)) in
      let below : 2 ^ n ≤ a → ⊥ = λ m. none_later u 13 a (no_cluster (inr m)) in
      record {
        in_order = no_fault_in_order rooting n genes count (none_first h) (none_first c) (none_first l) (none_first v) (none_first u);
        cluster = (omega (arith, some), omega (arith, below));
      }

  weighable_no_fault : Weighable rooting n genes count a → NoFault (WeightFault rooting n genes count a)
  weighable_no_fault h =
      none_of_both (no_species_fault rooting n genes count h.in_order)
      (none_of_both (no_count_fault rooting n genes count h.in_order)
      (none_of_both (no_length_fault rooting n genes count h.in_order)
      (none_of_both (no_records_fault rooting n genes count h.in_order)
      (none_of_both (no_rooting_fault rooting n genes count h.in_order) (λ k p f. never f)))))
    where
      never : {k p : ℕ} → ClusterFault n a k p → ⊥
      never (no_cluster (inl z)) = let s = h.cluster.0 in omega arith
      never (no_cluster (inr m)) = let b = h.cluster.1 in omega arith

  -- number 0 exactly when all of that holds
  pub weighed_exactly : (r : Reply) → Weighs rooting n genes count a r → (r.number ≡ 0) ↔ Weighable rooting n genes count a
  unfolding Weighs
  weighed_exactly r w =
      let e = ap (λ (r : Reply). r.number) w in
      let exactly = none_exactly (weight-exact rooting n genes count a) in
      (λ z. no_fault_weighable (exactly.0 (sym e ∙ z)), λ h. e ∙ exactly.1 (weighable_no_fault h))

  -- and then the value is the weight
  pub weighed-value : (r : Reply) → Weighs rooting n genes count a r → r.number ≡ 0 → r.value ≡ weight rooting (records_in count genes) a
  unfolding Weighs
  weighed-value r w z = replied-value (verdict (weight_tests rooting n genes count a)) (weight rooting (records_in count genes) a) r w z

-- ---- marking

module _ (rooting : Rooting) (n : ℕ) (genes : List ℕ) (count : ℕ) (out : List ℕ) (r : Reply) (after : List ℕ) (w : Marks rooting n genes count out r after) where
  no_fault_markable : NoFault (MarkFault rooting n genes count out) → Markable rooting n genes count out
  no_fault_markable h =
      let c = none_later h in
      let l = none_later c in
      let o = none_later l in
      let v = none_later o in
      record {
        in_order = no_fault_in_order rooting n genes count (none_first h) (none_first c) (none_first l) (none_first v) (none_later v);
        out_fits = (long-enough out (2 ^ n)).0 (none_first o);
      }

  markable_no_fault : Markable rooting n genes count out → NoFault (MarkFault rooting n genes count out)
  markable_no_fault h =
      none_of_both (no_species_fault rooting n genes count h.in_order)
      (none_of_both (no_count_fault rooting n genes count h.in_order)
      (none_of_both (no_length_fault rooting n genes count h.in_order)
      (none_of_both ((long-enough out (2 ^ n)).1 h.out_fits)
      (none_of_both (no_records_fault rooting n genes count h.in_order) (no_rooting_fault rooting n genes count h.in_order)))))

  -- number 0 exactly when all of that holds
  pub marked_exactly : (r.number ≡ 0) ↔ Markable rooting n genes count out
  marked_exactly =
      let e = ap (λ (r : Reply). r.number) w.reply in
      let exactly = none_exactly (mark_exact rooting n genes count out) in
      (λ z. no_fault_markable (exactly.0 (sym e ∙ z)), λ h. e ∙ exactly.1 (markable_no_fault h))

  -- and then the first 2^n bytes are the marks, and the others stay
  pub marked-bytes : r.number ≡ 0 → after ≡ marks rooting n (records_in count genes) ++ drop (2 ^ n) out
  marked-bytes z = go (verdict (mark_tests rooting n genes count out)).number w.bytes (sym (ap (λ (r : Reply). r.number) w.reply) ∙ z)
    where
      go : (k : ℕ) → after ≡ marked_by rooting k n (records_in count genes) out → k ≡ 0 → after ≡ marks rooting n (records_in count genes) ++ drop (2 ^ n) out
      go zero e z = e
      go (suc k) e z = absurd (omega arith)

-- ---- writing

module _ (line tree out : List ℕ) (r : Reply) (after : List ℕ) (w : Writes line tree out r after) where
  writable_no_fault : Writable line tree out → NoFault (WriteFault line tree out)
  unfolding roster_test
  writable_no_fault h =
      none_of_both (passed_none (roster-met line) h.roster_good)
      (none_of_both (λ k p f. never f) ((long-enough out (length (written (names line) tree))).1 h.out_fits))
    where
      never : {k p : ℕ} → RecordFault line tree k p → ⊥
      never (not_valid f) = f h.tree_valid

  -- number 0 exactly when all of that holds
  pub written_exactly : (r.number ≡ 0) ↔ Writable line tree out
  written_exactly = (
    λ z. let t = writes_zero w z in record { roster_good = t.good; tree_valid = t.valid; out_fits = t.room },
    λ h. ap (λ (r : Reply). r.number) w.answer ∙ (none_exactly (write_exact line tree out)).1 (writable_no_fault h),
  )

  -- and then the value is the text's length, the text stands in front, and the other bytes stay
  pub written-bytes :
      r.number ≡ 0
      → (r.value ≡ length (written (names line) tree)) × (after ≡ written (names line) tree ++ drop (length (written (names line) tree)) out)
  written-bytes z = let t = writes_zero w z in (t.value, t.bytes)
