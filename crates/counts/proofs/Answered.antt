-- What `write_counts` answers on each way: the refusals in their order, and the text.
use Prim.Native.Nat.{ℕ, zero, suc, ◌≤◌}
use mathlib.Core.Path.{◌≡◌, refl, sym, ap, ◌∙◌}
use mathlib.Core.Bool.{Bool, true, false}
use mathlib.Core.List.{List, [], ◌∷◌, ◌++◌}
use native.Mathlib.Omega.{arith}
use lib.ListN.{length, take, drop}
use lib.Seq.{take-append_seam}
use Rattle.std.proofs.Common.{Some, Err}
use Rattle.faults.specs.Faults.{number as fault_number}
use Rattle.faults.specs.declared.Fault.TheVariants.{FaultyRoster}
use Rattle.faults.specs.declared.Refusal.{Refusal}
use Rattle.roster.specs.Roster.{names, faulty, first_fault}
use Rattle.roster.specs.Judged.{species_most, refused_by}
use Rattle.roster.specs.Verdict.{Test, Verdict, verdict, length_test}
use Rattle.roster.specs.declared.Reply.{Reply}
use Rattle.lineages.specs.Checks.{species_record_test}
use Rattle.lineages.specs.Work.{said}
use Rattle.lineages.proofs.Calls.{refused-reply}
use Rattle.lineages.proofs.Verdicts.{numbered, refused_first}
use Rattle.texts.specs.Writing.{count_note}
use Rattle.writer.specs.Promise.{roster_test, out_by}
use Rattle.writer.specs.Work.{Given, fits, Puts, PutsTree}
use Rattle.writer.proofs.RosterNames.{good-names}
use Rattle.writer.proofs.Outcomes.{Stands, puts-zero}
use Rattle.counts.specs.Promise.{weight_in, counts_text, write_counts_tests, WritesCounts}
use Rattle.counts.specs.Work.{call_tests, CallJudged, Weighed}
use Rattle.counts.proofs.Weighing.{weighed_notes}
use Rattle.counts.proofs.CallFaults.{front_none, tests-behind}
use Rattle.counts.proofs.TreesJudging.{TreesInOrder, is_tree, tree_tests, TreesJudged, trees_in_order, in_order_passed}

-- a good roster has a name
pub given_some : {line : List ℕ} {n : ℕ} {tb : List ℕ} → Given line n tb → 1 ≤ n
given_some {line} g = let s = (good-names line g.good).some in let c = g.counted in omega arith

-- what is put with the weights is the text with their notes
pub given-counts :
    {line genes : List ℕ} {count n : ℕ} {tb species counts out : List ℕ} {p : Reply} {after : List ℕ}
    → Given line n tb → Weighed genes count species counts → PutsTree n tb species (Some counts) out p after
    → Puts (counts_text (names line) genes count species) out p after
unfolding counts_text
given-counts {line} {genes} {count} {species = species} g weighed p =
    p.puts line (count_note (weight_in genes count)) g (weighed_notes genes count species weighed)

-- the promise admits one outcome
pub writes_counts_once :
    {line genes : List ℕ} {count : ℕ} {species out : List ℕ} {p p' : Reply} {after after' : List ℕ}
    → WritesCounts line genes count species out p after → WritesCounts line genes count species out p' after' → (p ≡ p') × (after ≡ after')
writes_counts_once w w' = (w.answer ∙ sym w'.answer, w.bytes ∙ sym w'.bytes)

module _ (line genes : List ℕ) (count : ℕ) (species out : List ℕ) where
  abbrev n : ℕ
  n = length (names line)

  abbrev text : List ℕ
  text = counts_text (names line) genes count species

  -- the text's own test, which "comes last"
  abbrev text_test : Test
  text_test = length_test (length out) (length text)

  -- ---- the verdict of the tests

  faulty-verdict : faulty species_most line ≡ true → verdict (write_counts_tests line genes count species out) ≡ said 1 (first_fault species_most line)
  unfolding verdict write_counts_tests roster_test
  faulty-verdict f = rw f

  -- behind the roster
  good-verdict :
      faulty species_most line ≡ false
      → verdict (write_counts_tests line genes count species out) ≡ verdict (tree_tests n genes count species ++ (text_test ∷ []))
  unfolding verdict write_counts_tests roster_test length_test species_record_test call_tests
  good-verdict f = rw f

  -- behind the trees it is whether the text fits
  checked-verdict :
      faulty species_most line ≡ false → TreesInOrder n genes count species → verdict (write_counts_tests line genes count species out) ≡ fits text out
  unfolding fits
  checked-verdict f o =
      let named = good-names line f in
      good-verdict f ∙ tests-behind n genes count 0 [] [] (is_tree n species) (in_order_passed named.some named.few genes count species o) (text_test ∷ [])

  -- ---- the ways

  kept : (k : ℕ) → (k ≡ 0 → ⊥) → out ≡ out_by k text out
  kept zero f = absurd (f refl)
  kept (suc k) f = refl

  module _ {p : Reply} {after : List ℕ} where
    refuses :
        (e : Refusal) → verdict (write_counts_tests line genes count species out) ≡ said (fault_number e.fault) e.place → p ≡ refused_by e → after ≡ out
        → WritesCounts line genes count species out p after
    refuses e told is same = record {
      answer = is ∙ refused-reply _ (fault_number e.fault) told (numbered e.fault);
      bytes = same ∙ rw told (kept (fault_number e.fault) (numbered e.fault));
    }

    pub counts-faulty :
        (e : Refusal) → faulty species_most line ≡ true → e.fault ≡ FaultyRoster → e.place ≡ first_fault species_most line → p ≡ refused_by e → after ≡ out
        → WritesCounts line genes count species out p after
    counts-faulty e f fault place = refuses e (rw (fault, place) (faulty-verdict f))

    pub counts-judged :
        (e : Refusal) → faulty species_most line ≡ false → TreesJudged n genes count species (Err e) → p ≡ refused_by e → after ≡ out
        → WritesCounts line genes count species out p after
    unfolding CallJudged
    counts-judged e f told = refuses e (good-verdict f ∙ refused_first (tree_tests n genes count species) (text_test ∷ []) e told)

    module _ (f : faulty species_most line ≡ false) (o : TreesInOrder n genes count species) where
      pub counts-put : Puts text out p after → WritesCounts line genes count species out p after
      counts-put w = let e = checked-verdict f o in record { answer = w.answer ∙ rw e; bytes = w.bytes ∙ rw e }

      put-counts : WritesCounts line genes count species out p after → Puts text out p after
      put-counts w = let e = checked-verdict f o in record { answer = w.answer ∙ rw e; bytes = w.bytes ∙ rw e }

-- ---- number 0

-- a text was written
pub record WroteCounts (line genes : List ℕ) (count : ℕ) (species out : List ℕ) (p : Reply) (after : List ℕ) : Type 0 where
  pub good : faulty species_most line ≡ false
  pub in_order : TreesInOrder (length (names line)) genes count species
  pub stands : Stands (counts_text (names line) genes count species) out p after

-- exactly where the roster is good, all is in order, and the text has room
pub counts_zero :
    {line genes : List ℕ} {count : ℕ} {species out : List ℕ} {p : Reply} {after : List ℕ}
    → WritesCounts line genes count species out p after → p.number ≡ 0 → WroteCounts line genes count species out p after
counts_zero {line} {genes} {count} {species} {out} {p} {after} w z = judged (faulty species_most line) refl
  where
    none : (verdict (write_counts_tests line genes count species out)).number ≡ 0
    none = sym (ap (λ (r : Reply). r.number) w.answer) ∙ z

    judged : (t : Bool) → faulty species_most line ≡ t → WroteCounts line genes count species out p after
    judged true f = absurd (let k = ap (λ (v : Verdict). v.number) (faulty-verdict line genes count species out f) in omega (arith, none))
    judged false f =
        let named = good-names line f in
        let behind = ap (λ (v : Verdict). v.number) (good-verdict line genes count species out f) in
        let o = trees_in_order named.some named.few genes count species (front_none _ _ (sym behind ∙ none)) in
        record {
          good = f;
          in_order = o;
          stands = puts-zero (counts_text (names line) genes count species) out (put-counts line genes count species out f o w) z;
        }

module _ {line genes : List ℕ} {count : ℕ} {species out : List ℕ} {p : Reply} {after : List ℕ} (o : WroteCounts line genes count species out p after) where
  -- the bytes that were written are the text
  pub counts_there : take p.value after ≡ counts_text (names line) genes count species
  counts_there =
      let text = counts_text (names line) genes count species in
      rw (o.stands.value, o.stands.bytes) (take-append_seam text (drop (length text) out))
