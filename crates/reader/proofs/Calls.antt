-- What is answered to a line and a text: the roster, the text's length and the start are judged before the tree is read.
use Prim.Native.Nat.{ℕ, ◌+◌, ◌-◌, ◌*◌, ◌≤◌, ◌<◌}
use native.Mathlib.Omega.{arith}
use mathlib.Core.Path.{◌≡◌, sym}
use mathlib.Core.Bool.{false}
use mathlib.Core.List.{List}
use lib.ListN.{length, drop, length-drop}
use lib.Pow.{pow_pos}
use borrow.Author.Tests.{le-leb, lt-leb}
use Rattle.tokens.specs.Supports.{Threshold}
use Rattle.std.specs.Prelude.{Result, Ok, Err, None}
use Rattle.faults.specs.declared.Refusal.{Refusal}
use Rattle.roster.specs.Roster.{names, faulty}
use Rattle.roster.specs.Judged.{roster_of}
use Rattle.roster.specs.declared.Roster.{Roster}
use Rattle.roster.proofs.Judging.{read-good, read-faulty, read-room}
use Rattle.roster.proofs.Names.{table-finds}
use Rattle.tokens.specs.Says.{refusal}
use Rattle.faults.specs.declared.Fault.TheVariants.{LongText, TextEnds}
use Rattle.nodes.specs.Reading.{read_tree_by}
use Rattle.nodes.specs.Core.{Holds, Given}
use Rattle.nodes.specs.declared.Reader.{Reader}
use Rattle.nodes.specs.declared.answer.Node.{Node}
use Rattle.nodes.proofs.NodeAnswers.{node-refused}
use Rattle.reader.specs.Work.{ReadsTree, ReadsAnswer}
use Rattle.reader.specs.Promise.{Limits, text_most, needed, answer_within}
use Rattle.reader.specs.declared.Kind.{Kind}
use Rattle.reader.proofs.Accepts.{answer_is_read}

-- the table of a good roster has the line's names
pub holds-names :
    (most : ℕ) (line : List ℕ) (read : Result Roster Refusal) (roster : Roster)
    → read ≡ roster_of most line → read ≡ Ok roster → Holds (names line) roster.count roster.table
holds-names most line read roster judged good =
    let g = read-good most line read judged roster good in
    record {
      counted = sym g.1;
      finds = λ s short. rw (g.1, g.2) (table-finds most line g.0 s short);
    }

-- and the lent table has room for two clusters of each
pub given-room :
    (most : ℕ) (line : List ℕ) (read : Result Roster Refusal) (roster : Roster) (found : List ℕ)
    → read ≡ roster_of most line → read ≡ Ok roster → most ≤ 32 → 2 * most ≤ length found → Given roster.count roster.table found 0 0
given-room most line read roster found judged good narrow wide =
    let room = read-room most line read judged narrow roster good in
    record {
      holds = (names line, holds-names most line read roster judged good);
      wide = omega (arith, room.1);
      below = pow_pos roster.count;
      spare = omega arith;
    }

module _
    (limits : Limits) (kind : Kind) (threshold : Threshold) (line text : List ℕ) (start : ℕ) (read : Result Roster Refusal) (judged : read ≡ roster_of limits.most line)
    (before after : List ℕ)
  where
    abbrev Reads : Result Node Refusal → Type 0
    Reads r = ReadsAnswer limits kind threshold line text start before after r

    refuses : (e : Refusal) → answer_within limits kind threshold line text start ≡ refusal e → Reads (Err e)
    unfolding ReadsAnswer
    refuses e answered = node-refused None threshold text 0 0 before after (answer_within limits kind threshold line text start) e (sym answered)

    -- "1 | roster faulty"
    pub roster-refused : (e : Refusal) → read ≡ Err e → Reads (Err e)
    unfolding answer_within
    roster-refused e faulted =
        let f = read-faulty limits.most line read judged e faulted in
        refuses e (rw (f.0, f.1, f.2))

    module _ (roster : Roster) (ok : read ≡ Ok roster) where
      good : faulty limits.most line ≡ false
      good = (read-good limits.most line read judged roster ok).0

      -- "2 | text over 65,536 bytes"
      pub long-refused : text_most < length text → Reads (Err (record { fault = LongText; place = text_most }))
      unfolding answer_within
      long-refused h = refuses (record { fault = LongText; place = text_most }) (rw (good, lt-leb (length text) text_most h))

      module _ (short : length text ≤ text_most) where
        -- "A start beyond the text gives 10"
        pub start_refused : length text < start → Reads (Err (record { fault = TextEnds; place = length text }))
        unfolding answer_within
        start_refused h =
            refuses (record { fault = TextEnds; place = length text })
            (rw (good, le-leb (length text) text_most short, lt-leb start (length text) h))

        pub tree-answered :
            (all : ℕ) → all ≡ needed kind roster.count → start ≤ length text → (r : Result Node Refusal)
            → (reader : Reader) → reader.text.now ≡ text → reader.table.now ≡ roster.table → reader.count ≡ roster.count → reader.threshold ≡ threshold
            → ReadsTree reader all start limits.room before after r → Reads r
        unfolding ReadsAnswer ReadsTree read_tree_by
        tree-answered all is h r reader text_is table_is count_is threshold_is reads =
            let g = read-good limits.most line read judged roster ok in
            let deep : 2 * (length text - start) < 2 * length (drop start text) + 1 = let l = length-drop start text in omega arith in
            rw (answer_is_read limits kind threshold line text start g.0 short h)
            (rw (text_is, threshold_is, is, g.1) at
            (reads (names line) (rw (count_is, table_is) (holds-names limits.most line read roster judged ok)) (2 * length (drop start text) + 1) (rw text_is deep)))
