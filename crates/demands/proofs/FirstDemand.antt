-- The first demand: "Every text, roster, table and number handed over gets a reply", and what a call that turns something away leaves behind.
use Prim.Native.Nat.{ℕ, ◌-◌, ◌^◌, ◌≤◌}
use mathlib.Core.Path.{◌≡◌, refl, ap, ap₂, ◌∙◌}
use mathlib.Core.Logic.{◌⊎◌, inl, inr}
use mathlib.Core.Bool.{Bool, true, false}
use mathlib.Core.Option.{Option}
use Rattle.std.proofs.Common.{Option as Optional, Some, None}
use mathlib.Core.List.Memᴰ
use mathlib.Core.List.Memᴰ.{head as here}
use mathlib.Core.List.Memᴰ.{tail as there}
use mathlib.Core.List.{List, [], ◌∷◌, ◌++◌, map}
use native.Mathlib.Omega.{arith}
use lib.ListN.{length, drop, replicate}
use Rattle.clusters.specs.Sets.{whole}
use Rattle.trees.specs.Lists.{Among, up_to}
use Rattle.trees.specs.Tree.{Tree, clusters}
use Rattle.trees.proofs.UpTo.{up_to-among}
use Rattle.roster.specs.Roster.{names, faulty, first_fault}
use Rattle.roster.specs.Judged.{Judged, judged_by, species_most}
use Rattle.roster.specs.Verdict.{Test, Verdict, verdict, length_test, value_by, reply_of}
use Rattle.roster.specs.declared.Reply.{Reply}
use Rattle.tokens.specs.Supports.{Threshold}
use Rattle.std.proofs.Common.{None}
use Rattle.tokens.specs.Answers.{Answer}
use Rattle.tokens.specs.Answers.Answer.{parsed, refused}
use Rattle.reader.specs.Promise.{reading_of, answer_to, Reads}
use Rattle.reader.specs.declared.Kind.{Kind}
use Rattle.reader.specs.declared.Kind.TheVariants.{Species}
use Rattle.reader.specs.declared.Reading.{Reading}
use Rattle.printing.specs.Texts.{report_bytes}
use Rattle.branches.specs.Ends.{ends_from}
use Rattle.texts.specs.Writing.{written}
use Rattle.writer.specs.Promise.{roster_test, record_test, write_tests, out_by, Writes}
use Rattle.weights.specs.Count.{weight, score}
use Rattle.trees.specs.Records.{records_in}
use Rattle.weights.specs.declared.Rooting.{Rooting}
use Rattle.weights.specs.declared.Rooting.TheVariants.{Rooted}
use Rattle.lineages.specs.Checks.{species_test, count_test, species_record_test, records_test, rooting_test, cluster_test, weight_tests, score_tests, mark_tests}
use Rattle.lineages.specs.Promise.{Weighs, Scores, Marks, marked_by}
use Rattle.lineages.proofs.Verdicts.{NoneGives}
use Rattle.splits.specs.BinaryTrees.{Binary}
use Rattle.splits.specs.Least.{score_entry, split_entry}
use Rattle.terms.specs.Allowed.{allowed_test, every_cluster}
use Rattle.sheet.specs.Promise.{sheet_tests, entry_for, entries_by, Sheets}
use Rattle.sheet.specs.declared.Entry.{Entry}
use Rattle.sheet.proofs.Entries.{none_altered}
use Rattle.plain.specs.Promise.{plain_test, plain_tests, FindsPlainly}
use Rattle.search.specs.Promise.{search_tests, filled_by, Finds}
use Rattle.terms.specs.Answers.{found_or}
use Rattle.splits.specs.Best.{best_for, found_by}
use Rattle.terms.specs.declared.Found.{Found}
use Rattle.search.specs.TiesPromise.{ties_for, ties_tests, with_ties, without_ties, FindsTies}
use Rattle.search.specs.declared.tied.Tied.{Tied}
use Rattle.search.proofs.Accepted.{none_gives}
use Rattle.search.proofs.Tying.{tests-passed}
use Rattle.search.proofs.Ties.{is_a_search, some_tie_exactly}
use Rattle.counts.specs.Promise.{distance, drawn_test, counts_test, check_tests, check_verdict, distance_of, Checks, counts_text, write_counts_tests, WritesCounts}
use Rattle.counts.proofs.Checking.{said_of, wrong_in}
use Rattle.counts.proofs.Nearest.{refusal-keeps}
use Rattle.report.specs.Promise.{output, Reports}
use Rattle.demands.specs.Outcomes.{Replies, TurnedAway, NotFound, NotTied}
use Rattle.demands.specs.TextFaults.{TextFault}
use Rattle.demands.proofs.Refusals.{among-once, among-behind, reply_of-refused, out_by-refused, marked_by-refused, filled_by-refused, filled, reply_of_done}
use Rattle.demands.proofs.Refusals.{Refused, refused-ways, refused_not_found, refused_by_test, refused_by_none, found_done}
use Rattle.demands.proofs.TextFaults.{fault_of_refusal, fault-numbers, plain-fault-numbers}
use Rattle.demands.proofs.OneOutcome.{judge-once, read-once, write_once, weigh_once, score-once, mark_once, find_once, tie_once, plain-once, sheet_once}
use Rattle.demands.proofs.OneOutcome.{check_once, write_counts_once, report_once}

-- ---- "Every text, roster, table and number handed over gets a reply. .. No caller has to check first."

-- "Every .. roster .. gets a reply"
pub replies-judge : (line : List ℕ) → Replies (Judged line)
unfolding Judged
replies-judge line =
    let reply = judged_by (faulty species_most line) species_most line in
    record { outcome = reply; meets = refl; only = λ r p. judge-once line r reply p refl }

-- "Every text, roster .. and number", with any offset, as either kind, with any threshold or none
pub replies-read : (kind : Kind) (threshold : Threshold) (line text : List ℕ) (start : ℕ) → Replies (Reads kind threshold line text start)
unfolding Reads
replies-read kind threshold line text start =
    let reply = reading_of threshold start (answer_to kind threshold line text start) in
    record { outcome = reply; meets = refl; only = λ r p. read-once kind threshold line text start r reply p refl }

-- "Every .. roster, table ..": any record, and any bytes lent
pub replies_write : (line tree out : List ℕ) → Replies (λ (o : Reply × List ℕ). Writes line tree out o.0 o.1)
replies_write line tree out =
    let reply : Reply = reply_of (verdict (write_tests line tree out)) (length (written (names line) tree)) in
    let after : List ℕ = out_by (verdict (write_tests line tree out)).number (written (names line) tree) out in
    let meets : Writes line tree out reply after = record { answer = refl; bytes = refl } in
    record {
      outcome = (reply, after);
      meets = meets;
      only = λ o p. let e = write_once line tree out o.0 reply o.1 after p meets in ap₂ (λ (r : Reply) (l : List ℕ). (r, l)) e.0 e.1;
    }

-- "Every .. table and number": any gene records, any n, count and cluster
pub replies_weigh : (rooting : Rooting) (n : ℕ) (genes : List ℕ) (count cluster : ℕ) → Replies (Weighs rooting n genes count cluster)
unfolding Weighs
replies_weigh rooting n genes count cluster =
    let reply = reply_of (verdict (weight_tests rooting n genes count cluster)) (weight rooting (records_in count genes) cluster) in
    record { outcome = reply; meets = refl; only = λ r p. weigh_once rooting n genes count cluster r reply p refl }

-- any species record with them
pub replies-score : (rooting : Rooting) (n : ℕ) (genes : List ℕ) (count : ℕ) (species : List ℕ) → Replies (Scores rooting n genes count species)
unfolding Scores
replies-score rooting n genes count species =
    let reply = reply_of (verdict (score_tests rooting n genes count species)) (score rooting (records_in count genes) species) in
    record { outcome = reply; meets = refl; only = λ r p. score-once rooting n genes count species r reply p refl }

-- any bytes lent for the marks
pub replies_mark :
    (rooting : Rooting) (n : ℕ) (genes : List ℕ) (count : ℕ) (out : List ℕ) → Replies (λ (o : Reply × List ℕ). Marks rooting n genes count out o.0 o.1)
replies_mark rooting n genes count out =
    let reply : Reply = reply_of (verdict (mark_tests rooting n genes count out)) 0 in
    let after : List ℕ = marked_by rooting (verdict (mark_tests rooting n genes count out)).number n (records_in count genes) out in
    let meets : Marks rooting n genes count out reply after = record { reply = refl; bytes = refl } in
    record {
      outcome = (reply, after);
      meets = meets;
      only = λ o p. let e = mark_once rooting n genes count out o.0 reply o.1 after p meets in ap₂ (λ (r : Reply) (l : List ℕ). (r, l)) e.0 e.1;
    }

-- any allowed set, and any two tables lent
pub replies_find :
    (rooting : Rooting) (n : ℕ) (genes : List ℕ) (count : ℕ) (allowed scores splits : List ℕ)
    → Replies (λ (o : Found × List ℕ × List ℕ). Finds rooting n genes count allowed scores splits o.0 o.1 o.2)
replies_find rooting n genes count allowed scores splits =
    let said : Verdict = verdict (search_tests rooting n genes count allowed scores splits) in
    let trees : ℕ → Option Binary = best_for rooting n (records_in count genes) allowed in
    let reply : Found = found_or said.number said.place (found_by rooting (trees (whole n)) (records_in count genes)) in
    let s : List ℕ = filled_by said.number n (λ a. score_entry (weight rooting (records_in count genes)) (trees a)) scores in
    let p : List ℕ = filled_by said.number n (λ a. split_entry (trees a)) splits in
    let meets : Finds rooting n genes count allowed scores splits reply s p = record { reply = refl; score_table = refl; split_table = refl } in
    record {
      outcome = (reply, s, p);
      meets = meets;
      only = λ o f.
          let e = find_once rooting n genes count allowed scores splits o.0 reply o.1 s o.2 p f meets in
          ap (λ (r : Found). (r, o.1, o.2)) e.0 ∙ ap₂ (λ (l k : List ℕ). (reply, l, k)) e.1 e.2;
    }

-- and a third one (#111)
pub replies_tie :
    (rooting : Rooting) (n : ℕ) (genes : List ℕ) (count : ℕ) (allowed scores splits ties : List ℕ)
    → Replies (λ (o : Tied × List ℕ × List ℕ × List ℕ). FindsTies rooting n genes count allowed scores splits ties o.0 o.1 o.2 o.3)
replies_tie rooting n genes count allowed scores splits ties =
    let said : Verdict = verdict (ties_tests rooting n genes count allowed scores splits ties) in
    let trees : ℕ → Option Binary = best_for rooting n (records_in count genes) allowed in
    let number : ℕ → ℕ = ties_for rooting n (records_in count genes) allowed in
    let found : Found = found_or said.number said.place (found_by rooting (trees (whole n)) (records_in count genes)) in
    let reply : Tied = with_ties found (value_by said.number (number (whole n))) in
    let s : List ℕ = filled_by said.number n (λ a. score_entry (weight rooting (records_in count genes)) (trees a)) scores in
    let p : List ℕ = filled_by said.number n (λ a. split_entry (trees a)) splits in
    let t : List ℕ = filled_by said.number n (λ a. number a) ties in
    let meets : FindsTies rooting n genes count allowed scores splits ties reply s p t =
    record { reply = refl; score_table = refl; split_table = refl; tie_table = refl }
    in
    record {
      outcome = (reply, s, p, t);
      meets = meets;
      only = λ o f.
          let e = tie_once rooting n genes count allowed scores splits ties o.0 reply o.1 s o.2 p o.3 t f meets in
          ap₂ (λ (r : Tied) (l : List ℕ). (r, l, o.2, o.3)) e.0 e.1 ∙ ap₂ (λ (l k : List ℕ). (reply, s, l, k)) e.2 e.3;
    }

-- any allowed set, without a table (#108)
pub replies-plain : (rooting : Rooting) (n : ℕ) (genes : List ℕ) (count : ℕ) (allowed : List ℕ) → Replies (FindsPlainly rooting n genes count allowed)
replies-plain rooting n genes count allowed =
    let said : Verdict = verdict (plain_tests rooting n genes count allowed) in
    let tree : Option Binary = best_for rooting n (records_in count genes) allowed (whole n) in
    let reply : Found = found_or said.number said.place (found_by rooting tree (records_in count genes)) in
    let meets : FindsPlainly rooting n genes count allowed reply = record { reply = refl } in
    record { outcome = reply; meets = meets; only = λ r p. plain-once rooting n genes count allowed r reply p meets }

-- any records, and any entries lent (#107)
pub replies_sheet :
    (rooting : Rooting) (n : ℕ) (genes : List ℕ) (count : ℕ) (records : List ℕ) (entries : List Entry)
    → Replies (λ (o : Reply × List Entry). Sheets rooting n genes count records entries o.0 o.1)
replies_sheet rooting n genes count records entries =
    let reply : Reply = reply_of (verdict (sheet_tests rooting n genes count)) 0 in
    let after : List Entry = entries_by (verdict (sheet_tests rooting n genes count)).number (λ e. entry_for rooting n genes count records e) entries in
    let meets : Sheets rooting n genes count records entries reply after = record { reply = refl; filled = refl } in
    record {
      outcome = (reply, after);
      meets = meets;
      only = λ o p.
          let e = sheet_once rooting n genes count records entries o.0 reply o.1 after p meets in ap₂ (λ (r : Reply) (l : List Entry). (r, l)) e.0 e.1;
    }

-- any text with any gene trees, and any two tables lent (#114)
pub replies_check :
    (line text : List ℕ) (start : ℕ) (genes : List ℕ) (count : ℕ) (scores splits : List ℕ)
    → Replies (λ (o : Reply × List ℕ × List ℕ). Checks line text start genes count scores splits o.0 o.1 o.2)
replies_check line text start genes count scores splits =
    let said : Verdict = said_of line text start genes count scores splits in
    let n : ℕ = length (names line) in
    let trees : ℕ → Option Binary = best_for Rooted n (records_in count genes) (every_cluster n) in
    let reply : Reply = reply_of said (distance_of n (records_in count genes) (answer_to Species None line text start)) in
    let s : List ℕ = filled_by said.number n (λ a. score_entry (weight Rooted (records_in count genes)) (trees a)) scores in
    let p : List ℕ = filled_by said.number n (λ a. split_entry (trees a)) splits in
    let meets : Checks line text start genes count scores splits reply s p = record { reply = refl; score_table = refl; split_table = refl } in
    record {
      outcome = (reply, s, p);
      meets = meets;
      only = λ o c.
          let e = check_once line text start genes count scores splits o.0 reply o.1 s o.2 p c meets in
          ap (λ (r : Reply). (r, o.1, o.2)) e.0 ∙ ap₂ (λ (l k : List ℕ). (reply, l, k)) e.1 e.2;
    }

-- any roster, gene trees and species record, and any bytes lent (#114)
pub replies_write_counts :
    (line genes : List ℕ) (count : ℕ) (species out : List ℕ) → Replies (λ (o : Reply × List ℕ). WritesCounts line genes count species out o.0 o.1)
replies_write_counts line genes count species out =
    let said : Verdict = verdict (write_counts_tests line genes count species out) in
    let reply : Reply = reply_of said (length (counts_text (names line) genes count species)) in
    let after : List ℕ = out_by said.number (counts_text (names line) genes count species) out in
    let meets : WritesCounts line genes count species out reply after = record { answer = refl; bytes = refl } in
    record {
      outcome = (reply, after);
      meets = meets;
      only = λ o w.
          let e = write_counts_once line genes count species out o.0 reply o.1 after w meets in ap₂ (λ (r : Reply) (l : List ℕ). (r, l)) e.0 e.1;
    }

-- "Every text": any input of the program
pub replies_report : (input : List ℕ) → Replies (Reports input)
unfolding Reports
replies_report input =
    record {
      outcome = record { len = length (output input); text = output input ++ replicate (report_bytes - length (output input)) 0 };
      meets = refl;
      only = λ r p. report_once input r _ p refl;
    }

-- ---- "Faulty input is turned away with a number and a place, both fixed in advance, and so is what then stands in each buffer she lent."
-- Which fault each number and place names is in CallFaults and ProgramFaults; here is what a refused reply and the buffers hold.

-- "1 | roster faulty | first byte at fault"
pub judge-refused : (line : List ℕ) (r : Reply) → Judged line r → (r.number ≡ 0 → ⊥) → TurnedAway (1 ∷ []) r × (r.place ≡ first_fault species_most line)
unfolding Judged
judge-refused line r p f = go (faulty species_most line) p
  where
    go : (b : Bool) → r ≡ judged_by b species_most line → TurnedAway (1 ∷ []) r × (r.place ≡ first_fault species_most line)
    go true e = (
      record { listed = here (ap (λ (r : Reply). r.number) e); value = ap (λ (r : Reply). r.value) e },
      ap (λ (r : Reply). r.place) e,
    )
    go false e = absurd (f (ap (λ (r : Reply). r.number) e))

-- "Order for text: 1, 2, then as met": the number and the place name a fault that the text has; "an all-zero record .. and, from the reader, the offset it was given"
pub read-refused :
    (kind : Kind) (threshold : Threshold) (line text : List ℕ) (start : ℕ) (r : Reading) → Reads kind threshold line text start r → (r.number ≡ 0 → ⊥)
    → TextFault kind threshold line text start r.number r.place × (r.next ≡ start) × (r.numbers ≡ replicate 32 0)
unfolding Reads
read-refused kind threshold line text start r p f = go (answer_to kind threshold line text start) refl
  where
    go :
        (a : Answer Tree) → answer_to kind threshold line text start ≡ a
        → TextFault kind threshold line text start r.number r.place × (r.next ≡ start) × (r.numbers ≡ replicate 32 0)
    go (parsed t rest q) e = absurd (f (ap (λ (r : Reading). r.number) (p ∙ ap (reading_of threshold start) e)))
    go (refused k q) e = rw (p, e) (fault_of_refusal kind threshold line text start k q e, refl, refl)

-- "The writer: 1, 15, 12": "Lent slices keep every byte"
pub write_refused :
    (line tree out : List ℕ) (r : Reply) (after : List ℕ) → Writes line tree out r after → (r.number ≡ 0 → ⊥)
    → TurnedAway (1 ∷ 15 ∷ 12 ∷ []) r × (after ≡ out)
unfolding write_tests roster_test record_test length_test
write_refused line tree out r after w f =
    let l : List Test = write_tests line tree out in (
      reply_of-refused l (length (written (names line) tree)) r w.answer f,
      w.bytes ∙ out_by-refused (verdict l).number (written (names line) tree) out (λ z. f (ap (λ (r : Reply). r.number) w.answer ∙ z)),
    )

-- "All others: 1, 11, 12, 16, 15, 13, 14, each where it applies", with 19 "straight after 15" (#106): "0 for any other value"
pub weigh_refused :
    (rooting : Rooting) (n : ℕ) (genes : List ℕ) (count cluster : ℕ) (r : Reply) → Weighs rooting n genes count cluster r → (r.number ≡ 0 → ⊥)
    → TurnedAway (1 ∷ 11 ∷ 12 ∷ 15 ∷ 19 ∷ 13 ∷ []) r
unfolding Weighs weight_tests species_test count_test length_test records_test rooting_test cluster_test
weigh_refused rooting n genes count cluster r p f =
    reply_of-refused (weight_tests rooting n genes count cluster) (weight rooting (records_in count genes) cluster) r p f

-- "A refused call returns score 0"
pub score-refused :
    (rooting : Rooting) (n : ℕ) (genes : List ℕ) (count : ℕ) (species : List ℕ) (r : Reply) → Scores rooting n genes count species r → (r.number ≡ 0 → ⊥)
    → TurnedAway (1 ∷ 11 ∷ 12 ∷ 16 ∷ 15 ∷ 19 ∷ []) r
unfolding Scores score_tests species_test count_test length_test species_record_test records_test rooting_test
score-refused rooting n genes count species r p f =
    reply_of-refused (score_tests rooting n genes count species) (score rooting (records_in count genes) species) r p f

-- "Lent slices keep every byte"
pub mark_refused :
    (rooting : Rooting) (n : ℕ) (genes : List ℕ) (count : ℕ) (out : List ℕ) (r : Reply) (after : List ℕ) → Marks rooting n genes count out r after
    → (r.number ≡ 0 → ⊥)
    → TurnedAway (1 ∷ 11 ∷ 12 ∷ 15 ∷ 19 ∷ []) r × (after ≡ out)
unfolding mark_tests species_test count_test length_test records_test rooting_test
mark_refused rooting n genes count out r after p f =
    let l : List Test = mark_tests rooting n genes count out in
    let t = reply_of-refused l 0 r p.reply f in (
      record { listed = among-behind (among-behind among-once) t.listed; value = t.value },
      p.bytes ∙ marked_by-refused rooting (verdict l).number n (records_in count genes) out (λ z. f (ap (λ (r : Reply). r.number) p.reply ∙ z)),
    )

-- the numbers of the search's tests, in their order: 12 stands four times among them
search_listed : {x : ℕ} → Among x (1 ∷ 11 ∷ 12 ∷ 12 ∷ 12 ∷ 12 ∷ 15 ∷ 19 ∷ 13 ∷ []) → Among x (1 ∷ 11 ∷ 12 ∷ 15 ∷ 19 ∷ 13 ∷ 14 ∷ [])
search_listed m = Memᴰ.append_left (14 ∷ []) (among-behind (among-behind (λ k. among-once (among-once (among-once k)))) m)

fourteen_listed : Among 14 (1 ∷ 11 ∷ 12 ∷ 15 ∷ 19 ∷ 13 ∷ 14 ∷ [])
fourteen_listed = there (there (there (there (there (there (here refl))))))

module _ (rooting : Rooting) (n : ℕ) (genes : List ℕ) (count : ℕ) (allowed scores splits : List ℕ) (r : Found) (s p : List ℕ)
    (found : Finds rooting n genes count allowed scores splits r s p) (refusal : r.number ≡ 0 → ⊥) where
  abbrev said : Verdict
  said = verdict (search_tests rooting n genes count allowed scores splits)

  ways : Refused said r
  ways = refused-ways said rooting (best_for rooting n (records_in count genes) allowed (whole n)) (records_in count genes) r found.reply refusal

  -- "All others: 1, 11, 12, 16, 15, 13, 14, each where it applies": "A refused call returns score 0, .. an all-zero record"
  pub find_refused : NotFound (1 ∷ 11 ∷ 12 ∷ 15 ∷ 19 ∷ 13 ∷ 14 ∷ []) r
  unfolding search_tests species_test count_test length_test records_test rooting_test allowed_test
  find_refused = refused_not_found (search_tests rooting n genes count allowed scores splits) _ ways (λ x m. search_listed m) fourteen_listed

  -- "Lent slices keep every byte, with one exception"
  pub find_keeps_tables : (r.number ≡ 14 → ⊥) → (s ≡ scores) × (p ≡ splits)
  find_keeps_tables other =
      let f = refused_by_test ways other in
      (found.score_table ∙ filled_by-refused said.number n _ scores f, found.split_table ∙ filled_by-refused said.number n _ splits f)

  -- "on 14 both tables are filled as above": "Entries from 2^n on stay"
  pub find_fills_tables :
      r.number ≡ 14
      → (s ≡ map (λ a. score_entry (weight rooting (records_in count genes)) (best_for rooting n (records_in count genes) allowed a))
      (up_to (2 ^ n)) ++ drop (2 ^ n) scores)
      × (p ≡ map (λ a. split_entry (best_for rooting n (records_in count genes) allowed a)) (up_to (2 ^ n)) ++ drop (2 ^ n) splits)
  find_fills_tables e =
      let never = none_gives rooting n genes count allowed scores splits 14 refl in
      let z = refused_by_none (search_tests rooting n genes count allowed scores splits) never ways e in
      (filled said.number n _ scores s found.score_table z, filled said.number n _ splits p found.split_table z)

module _ (rooting : Rooting) (n : ℕ) (genes : List ℕ) (count : ℕ) (allowed scores splits ties : List ℕ) (r : Tied) (s p t : List ℕ)
    (found : FindsTies rooting n genes count allowed scores splits ties r s p t) (refusal : r.number ≡ 0 → ⊥) where
  abbrev ties_said : Verdict
  ties_said = verdict (ties_tests rooting n genes count allowed scores splits ties)

  ties_ways : Refused ties_said (without_ties r)
  ties_ways =
      refused-ways ties_said rooting (best_for rooting n (records_in count genes) allowed (whole n)) (records_in count genes) (without_ties r)
      (ap without_ties found.reply) refusal

  -- the same of the search with ties (#111), and no ties
  pub ties-refused : NotTied (1 ∷ 11 ∷ 12 ∷ 15 ∷ 19 ∷ 13 ∷ 14 ∷ []) r
  unfolding ties_tests species_test count_test length_test records_test rooting_test allowed_test
  ties-refused = record {
    not_found =
        refused_not_found (ties_tests rooting n genes count allowed scores splits ties) _ ties_ways
        (λ x m. search_listed (among-behind (among-behind among-once) m)) fourteen_listed;
    ties_zero = let f : 1 ≤ r.ties → ⊥ = λ h. refusal ((some_tie_exactly found).0 h) in omega (arith, f);
  }

  -- "Lent slices keep every byte, with one exception": all three tables
  pub ties-keep-tables : (r.number ≡ 14 → ⊥) → (s ≡ scores) × (p ≡ splits) × (t ≡ ties)
  ties-keep-tables other =
      let f = refused_by_test ties_ways other in (
        found.score_table ∙ filled_by-refused ties_said.number n _ scores f,
        found.split_table ∙ filled_by-refused ties_said.number n _ splits f,
        found.tie_table ∙ filled_by-refused ties_said.number n _ ties f,
      )

  -- on 14 all three are filled, both tables as by the search
  pub ties-fill-tables :
      r.number ≡ 14
      → (s ≡ map (λ a. score_entry (weight rooting (records_in count genes)) (best_for rooting n (records_in count genes) allowed a))
      (up_to (2 ^ n)) ++ drop (2 ^ n) scores)
      × (p ≡ map (λ a. split_entry (best_for rooting n (records_in count genes) allowed a)) (up_to (2 ^ n)) ++ drop (2 ^ n) splits)
      × (t ≡ map (λ a. ties_for rooting n (records_in count genes) allowed a) (up_to (2 ^ n)) ++ drop (2 ^ n) ties)
  ties-fill-tables e =
      let z = tests-passed rooting n genes count allowed scores splits ties found (inr e) in
      let both = find_fills_tables rooting n genes count allowed scores splits (without_ties r) s p (is_a_search found (inr e)) refusal e in
      (both.0, both.1, filled ties_said.number n _ ties t found.tie_table z)

-- the same of the engine that goes through all trees (#108), and 17; it is lent nothing to keep
pub plain-refused :
    (rooting : Rooting) (n : ℕ) (genes : List ℕ) (count : ℕ) (allowed : List ℕ) (r : Found) → FindsPlainly rooting n genes count allowed r
    → (r.number ≡ 0 → ⊥)
    → NotFound (1 ∷ 17 ∷ 11 ∷ 12 ∷ 15 ∷ 19 ∷ 13 ∷ 14 ∷ []) r
unfolding plain_tests plain_test species_test count_test length_test records_test rooting_test allowed_test
plain-refused rooting n genes count allowed r found refusal =
    let l : List Test = plain_tests rooting n genes count allowed in
    let tree : Option Binary = best_for rooting n (records_in count genes) allowed (whole n) in
    refused_not_found l _ (refused-ways (verdict l) rooting tree (records_in count genes) r found.reply refusal)
    (λ x m. Memᴰ.append_left (14 ∷ []) (among-behind (among-behind (among-behind among-once)) m)) (there (there (there (there (there (there (there (here refl))))))))

-- "First 1, 11, 12 and 15 refuse the whole call, no entry altered" (#107), with 19 straight after 15 (#106)
pub sheet_refused :
    (rooting : Rooting) (n : ℕ) (genes : List ℕ) (count : ℕ) (records : List ℕ) (entries : List Entry) (r : Reply) (after : List Entry)
    → Sheets rooting n genes count records entries r after → (r.number ≡ 0 → ⊥)
    → TurnedAway (1 ∷ 11 ∷ 12 ∷ 15 ∷ 19 ∷ []) r × (after ≡ entries)
unfolding sheet_tests species_test count_test length_test records_test rooting_test
sheet_refused rooting n genes count records entries r after p f =
    (reply_of-refused (sheet_tests rooting n genes count) 0 r p.reply f, none_altered p f)

-- the number of the last test of `check`
counts-number : (o : Optional ℕ) → (counts_test o).number ≡ 23
counts-number (Some place) = refl
counts-number None = refl

-- the numbers of the reader for species text
read-listed : {k : ℕ} (l : List ℕ) → 1 ≤ k → k ≤ 10 → Among k ((1 ∷ 2 ∷ 3 ∷ 4 ∷ 5 ∷ 6 ∷ 7 ∷ 8 ∷ 9 ∷ 10 ∷ []) ++ l)
unfolding up_to
read-listed {k} l one most = Memᴰ.append_left l (positive (Memᴰ.cases_cons (up_to-among 11 (omega arith))))
  where
    positive : {m : List ℕ} → (k ≡ 0) ⊎ Among k m → Among k m
    positive (inl z) = absurd (omega arith)
    positive (inr m) = m

-- "the reader's own, 11, 12, 16 and 15" and 23 (#114): "0 for any other value", and "Lent slices keep every byte"
pub check_refused :
    (line text : List ℕ) (start : ℕ) (genes : List ℕ) (count : ℕ) (scores splits : List ℕ) (r : Reply) (s p : List ℕ)
    → Checks line text start genes count scores splits r s p → (r.number ≡ 0 → ⊥)
    → TurnedAway (1 ∷ 2 ∷ 3 ∷ 4 ∷ 5 ∷ 6 ∷ 7 ∷ 8 ∷ 9 ∷ 10 ∷ 11 ∷ 12 ∷ 16 ∷ 15 ∷ 23 ∷ []) r × (s ≡ scores) × (p ≡ splits)
unfolding check_verdict check_tests count_test length_test drawn_test records_test
check_refused line text start genes count scores splits r s p c f =
    let kept = refusal-keeps line text start genes count scores splits c f in
    (record { listed = go (answer_to Species None line text start) refl; value = kept.0 }, kept.1, kept.2)
  where
    own : List ℕ
    own = 1 ∷ 2 ∷ 3 ∷ 4 ∷ 5 ∷ 6 ∷ 7 ∷ 8 ∷ 9 ∷ 10 ∷ []

    go : (a : Answer Tree) → answer_to Species None line text start ≡ a
        → Among r.number (1 ∷ 2 ∷ 3 ∷ 4 ∷ 5 ∷ 6 ∷ 7 ∷ 8 ∷ 9 ∷ 10 ∷ 11 ∷ 12 ∷ 16 ∷ 15 ∷ 23 ∷ [])
    go (refused k q) e =
        let few = plain-fault-numbers (fault_of_refusal Species None line text start k q e) in
        rw (c.reply, e) (read-listed (11 ∷ 12 ∷ 16 ∷ 15 ∷ 23 ∷ []) few.0 few.1)
    go (parsed t rest q) e =
        let n = length (names line) in
        let o = wrong_in text start genes count t in
        let l : List Test = check_tests n genes count scores splits t (ends_from (length (clusters t)) (drop start text) start) in
        let told : r ≡ reply_of (verdict l) (distance n (records_in count genes) t) = c.reply ∙ rw e in
        let listed = rw (counts-number o) at (reply_of-refused l (distance n (records_in count genes) t) r told f).listed in
        Memᴰ.append_right own (among-behind (λ m. among-once (among-once m)) listed)

-- "12 for its text comes last" (#114)
pub write_counts_refused :
    (line genes : List ℕ) (count : ℕ) (species out : List ℕ) (r : Reply) (after : List ℕ) → WritesCounts line genes count species out r after
    → (r.number ≡ 0 → ⊥)
    → TurnedAway (1 ∷ 11 ∷ 12 ∷ 16 ∷ 15 ∷ 12 ∷ []) r × (after ≡ out)
unfolding write_counts_tests roster_test count_test length_test species_record_test records_test
write_counts_refused line genes count species out r after w f =
    let l : List Test = write_counts_tests line genes count species out in
    let text : List ℕ = counts_text (names line) genes count species in
    (reply_of-refused l (length text) r w.answer f, w.bytes ∙ out_by-refused (verdict l).number text out (λ z. f (ap (λ (r : Reply). r.number) w.answer ∙ z)))

-- ---- "0 | done | 0": no call that is not refused has another place

-- "done | 0": judging a roster
pub judge_done : (line : List ℕ) (r : Reply) → Judged line r → r.number ≡ 0 → r.place ≡ 0
unfolding Judged
judge_done line r p z = go (faulty species_most line) p
  where
    go : (b : Bool) → r ≡ judged_by b species_most line → r.place ≡ 0
    go true e = absurd (omega (arith, ap (λ (r : Reply). r.number) e))
    go false e = ap (λ (r : Reply). r.place) e

-- "done | 0": reading
pub read_done :
    (kind : Kind) (threshold : Threshold) (line text : List ℕ) (start : ℕ) (r : Reading) → Reads kind threshold line text start r
    → r.number ≡ 0 → r.place ≡ 0
unfolding Reads
read_done kind threshold line text start r p z = go (answer_to kind threshold line text start) refl
  where
    go : (a : Answer Tree) → answer_to kind threshold line text start ≡ a → r.place ≡ 0
    go (parsed t rest q) e = ap (λ (r : Reading). r.place) (p ∙ ap (reading_of threshold start) e)
    go (refused k q) e =
        let i = ap (λ (r : Reading). r.number) (p ∙ ap (reading_of threshold start) e) in
        absurd (omega (arith, (fault-numbers (fault_of_refusal kind threshold line text start k q e)).0))

-- "done | 0": writing
pub write_done : (line tree out : List ℕ) (r : Reply) (after : List ℕ) → Writes line tree out r after → r.number ≡ 0 → r.place ≡ 0
unfolding write_tests roster_test record_test length_test NoneGives
write_done line tree out r after w =
    reply_of_done (write_tests line tree out) (length (written (names line) tree)) r w.answer
    (λ z. omega arith, (λ z. omega arith, (λ z. omega arith, tt)))

-- "done | 0": weighing
pub weigh_done :
    (rooting : Rooting) (n : ℕ) (genes : List ℕ) (count cluster : ℕ) (r : Reply) → Weighs rooting n genes count cluster r → r.number ≡ 0 → r.place ≡ 0
unfolding Weighs weight_tests species_test count_test length_test records_test rooting_test cluster_test NoneGives
weigh_done rooting n genes count cluster r p =
    reply_of_done (weight_tests rooting n genes count cluster) (weight rooting (records_in count genes) cluster) r p
    (λ z. omega arith, (λ z. omega arith, (λ z. omega arith, (λ z. omega arith, (λ z. omega arith, (λ z. omega arith, tt))))))

-- "done | 0": scoring
pub score_done :
    (rooting : Rooting) (n : ℕ) (genes : List ℕ) (count : ℕ) (species : List ℕ) (r : Reply) → Scores rooting n genes count species r → r.number ≡ 0
    → r.place ≡ 0
unfolding Scores score_tests species_test count_test length_test species_record_test records_test rooting_test NoneGives
score_done rooting n genes count species r p =
    reply_of_done (score_tests rooting n genes count species) (score rooting (records_in count genes) species) r p
    (λ z. omega arith, (λ z. omega arith, (λ z. omega arith, (λ z. omega arith, (λ z. omega arith, (λ z. omega arith, tt))))))

-- "done | 0": marking
pub mark_done :
    (rooting : Rooting) (n : ℕ) (genes : List ℕ) (count : ℕ) (out : List ℕ) (r : Reply) (after : List ℕ) → Marks rooting n genes count out r after
    → r.number ≡ 0 → r.place ≡ 0
unfolding mark_tests species_test count_test length_test records_test rooting_test NoneGives
mark_done rooting n genes count out r after p =
    reply_of_done (mark_tests rooting n genes count out) 0 r p.reply
    (λ z. omega arith, (λ z. omega arith, (λ z. omega arith, (λ z. omega arith, (λ z. omega arith, (λ z. omega arith, tt))))))

-- "done | 0": searching
pub find_done :
    (rooting : Rooting) (n : ℕ) (genes : List ℕ) (count : ℕ) (allowed scores splits : List ℕ) (r : Found) (s p : List ℕ)
    → Finds rooting n genes count allowed scores splits r s p → r.number ≡ 0 → r.place ≡ 0
find_done rooting n genes count allowed scores splits r s p found z =
    found_done (verdict (search_tests rooting n genes count allowed scores splits)) rooting (best_for rooting n (records_in count genes) allowed (whole n))
    (records_in count genes) r found.reply z

-- "done | 0": searching with ties
pub tie_done :
    (rooting : Rooting) (n : ℕ) (genes : List ℕ) (count : ℕ) (allowed scores splits ties : List ℕ) (r : Tied) (s p t : List ℕ)
    → FindsTies rooting n genes count allowed scores splits ties r s p t → r.number ≡ 0 → r.place ≡ 0
tie_done rooting n genes count allowed scores splits ties r s p t found z =
    find_done rooting n genes count allowed scores splits (without_ties r) s p (is_a_search found (inl z)) z

-- "done | 0": going through all trees
pub plain_done :
    (rooting : Rooting) (n : ℕ) (genes : List ℕ) (count : ℕ) (allowed : List ℕ) (r : Found) → FindsPlainly rooting n genes count allowed r
    → r.number ≡ 0 → r.place ≡ 0
plain_done rooting n genes count allowed r found z =
    found_done (verdict (plain_tests rooting n genes count allowed)) rooting (best_for rooting n (records_in count genes) allowed (whole n)) (records_in count genes) r
    found.reply z

-- "done | 0": scoring a sheet
pub sheet_done :
    (rooting : Rooting) (n : ℕ) (genes : List ℕ) (count : ℕ) (records : List ℕ) (entries : List Entry) (r : Reply) (after : List Entry)
    → Sheets rooting n genes count records entries r after → r.number ≡ 0 → r.place ≡ 0
unfolding sheet_tests species_test count_test length_test records_test rooting_test NoneGives
sheet_done rooting n genes count records entries r after p =
    reply_of_done (sheet_tests rooting n genes count) 0 r p.reply (λ z. omega arith, (λ z. omega arith, (λ z. omega arith, (λ z. omega arith, (λ z. omega arith, tt)))))

-- "done | 0": checking a tree that came with branch counts (#114)
pub check_done :
    (line text : List ℕ) (start : ℕ) (genes : List ℕ) (count : ℕ) (scores splits : List ℕ) (r : Reply) (s p : List ℕ)
    → Checks line text start genes count scores splits r s p → r.number ≡ 0 → r.place ≡ 0
unfolding check_verdict check_tests count_test length_test drawn_test records_test NoneGives
check_done line text start genes count scores splits r s p c z = go (answer_to Species None line text start) refl
  where
    go : (a : Answer Tree) → answer_to Species None line text start ≡ a → r.place ≡ 0
    go (refused k q) e =
        let few = plain-fault-numbers (fault_of_refusal Species None line text start k q e) in
        let is : r.number ≡ k = ap (λ (r : Reply). r.number) c.reply ∙ rw e in
        absurd (omega (arith, few.0))
    go (parsed t rest q) e =
        let n = length (names line) in
        let l : List Test = check_tests n genes count scores splits t (ends_from (length (clusters t)) (drop start text) start) in
        let told : r ≡ reply_of (verdict l) (distance n (records_in count genes) t) = c.reply ∙ rw e in
        reply_of_done l (distance n (records_in count genes) t) r told (
          λ y. omega arith,
          (
            λ y. omega arith,
            (λ y. omega arith, (λ y. omega arith, (λ y. omega arith, (λ y. omega arith, (λ y. omega (arith, y, counts-number (wrong_in text start genes count t)), tt))))),
          ),
        )
        z

-- "done | 0": writing one (#114)
pub write_counts_done :
    (line genes : List ℕ) (count : ℕ) (species out : List ℕ) (r : Reply) (after : List ℕ) → WritesCounts line genes count species out r after
    → r.number ≡ 0 → r.place ≡ 0
unfolding write_counts_tests roster_test count_test length_test species_record_test records_test NoneGives
write_counts_done line genes count species out r after w =
    reply_of_done (write_counts_tests line genes count species out) (length (counts_text (names line) genes count species)) r w.answer
    (λ z. omega arith, (λ z. omega arith, (λ z. omega arith, (λ z. omega arith, (λ z. omega arith, (λ z. omega arith, tt))))))
