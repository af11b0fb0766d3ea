-- The search on gene trees that were read: no check refuses, and what is found is an outcome of the program.
use Prim.Native.Nat.{ℕ, zero, suc, ◌^◌, ◌≤◌}
use mathlib.Core.Path.{◌≡◌, refl, sym, ap, ◌∙◌}
use mathlib.Core.Option.{Option, some, none}
use mathlib.Core.List.{List}
use native.Mathlib.Omega.{arith}
use lib.ListN.{length}
use lib.Pow.{pow_mono}
use Rattle.clusters.specs.Sets.{whole}
use Rattle.trees.specs.Records.{SpeciesValid, records_in}
use Rattle.weights.specs.Count.{weight}
use Rattle.weights.specs.declared.Rooting.{Rooting}
use Rattle.splits.specs.BinaryTrees.{Binary}
use Rattle.terms.specs.Allowed.{allowed_in}
use Rattle.splits.proofs.Recurrence.{best_on_lem}
use Rattle.search.specs.TiesPromise.{without_ties, FindsTies}
use Rattle.splits.specs.Best.{best_for, found_by}
use Rattle.terms.specs.declared.Found.{Found}
use Rattle.search.specs.Candidates.{Accepted}
use Rattle.search.specs.declared.tied.Tied.{Tied}
use Rattle.search.proofs.Accepted.{accepts}
use Rattle.search.proofs.Tying.{ties-verdict}
use Rattle.splits.proofs.RecordsOfTrees.{tree_valid}
use Rattle.trees.proofs.Bounds.{whole_below_sixteen}
use Rattle.outcomes.specs.Outcome.{outcome_of, found_with_ties, searched}
use Rattle.outcomes.specs.Outcome.Outcome.{refused, solved}
use Rattle.outcomes.specs.Work.{Genes, Marked}
use Rattle.outcomes.proofs.Allowed.{genes_in_order}

-- the tables have room for twelve species
pub entries_most : {n : ℕ} → n ≤ 12 → 2 ^ n ≤ 4096
entries_most h = pow_mono {j = 12} h

module _ {rooting : Rooting} {n count : ℕ} {genes allowed scores splits : List ℕ} (g : Genes rooting n count genes) (m : Marked n allowed) where
  genes-accepted : length scores ≡ 4096 → length splits ≡ 4096 → Accepted rooting n genes count allowed scores splits
  genes-accepted e f =
      let room = entries_most g.few_species in
      record {
        in_order = genes_in_order g;
        allowed_fits = omega (arith, m.exact);
        scores_fit = omega arith;
        splits_fit = omega arith;
        allowed_bytes = m.low;
      }

  pub found :
      {ties : List ℕ} {r : Tied} {scores' splits' ties' : List ℕ} → length scores ≡ 4096 → length splits ≡ 4096 → length ties ≡ 4096
      → FindsTies rooting n genes count allowed scores splits ties r scores' splits' ties' → r ≡ found_with_ties rooting n (records_in count genes) allowed
  found {ties} e f h finds =
      let room = entries_most g.few_species in
      rw (
        ties-verdict rooting n genes count allowed scores splits ties (omega arith),
        accepts rooting n genes count allowed scores splits (genes-accepted e f),
      ) at finds.reply

-- ---- the outcome

module _ (rooting : Rooting) (n : ℕ) (genes : List (List ℕ)) (allowed : List ℕ) {r : Tied} (is : r ≡ found_with_ties rooting n genes allowed) where
  -- the outcome is that of what is found
  found-outcome : outcome_of r.number n (length genes) r ≡ searched rooting n genes allowed
  unfolding searched
  found-outcome = ap (λ (t : Tied). outcome_of t.number n (length genes) t) is

  pub searched-refused : (r.number ≡ 0 → ⊥) → refused r.number r.place ≡ searched rooting n genes allowed
  searched-refused number = go r.number refl ∙ found-outcome
    where
      go : (k : ℕ) → r.number ≡ k → refused k r.place ≡ outcome_of k n (length genes) r
      go zero z = absurd (number z)
      go (suc k) z = refl

  pub searched-solved : {m : ℕ} → m ≡ length genes → r.number ≡ 0 → solved n m r.score r.ties r.numbers ≡ searched rooting n genes allowed
  searched-solved e z = rw e (sym (ap (λ k. outcome_of k n (length genes) r) z) ∙ found-outcome)

  -- the record of what is found is valid, and has every species
  pub found-valid : n ≤ 16 → r.number ≡ 0 → SpeciesValid n r.numbers
  unfolding best_for
  found-valid few z = go (best_for rooting n genes allowed (whole n)) refl (ap without_ties is)
    where
      go : (o : Option Binary) → best_for rooting n genes allowed (whole n) ≡ o → without_ties r ≡ found_by rooting o genes → SpeciesValid n r.numbers
      go (some t) e h =
          rw (ap (λ (f : Found). f.numbers) h) (tree_valid (best_on_lem (weight rooting genes) (allowed_in n allowed) (whole n) t e) (whole_below_sixteen n few))
      go none e h = absurd (omega (arith, sym z ∙ ap (λ (f : Found). f.number) h))
