-- What the function that puts a tree's text into lent bytes is handed, and what it promises.
use Rattle.std.specs.Prelude.{ℕ, ◌≡◌, false, List, [], ◌∷◌, length, Option}
use Rattle.roster.specs.Roster.{names, faulty}
use Rattle.roster.specs.Table.{table}
use Rattle.roster.specs.Judged.{species_most}
use Rattle.roster.specs.Verdict.{Verdict, verdict, length_test, reply_of}
use Rattle.roster.specs.declared.Reply.{Reply}
use Rattle.texts.specs.Writing.{written_with}
use Rattle.texts.specs.Work.{Notes}
use Rattle.writer.specs.Promise.{out_by}

-- n names in a table tb, as a good roster's line gives them
pub record Given (line : List ℕ) (n : ℕ) (tb : List ℕ) : Type 0 where
  pub good : faulty species_most line ≡ false
  pub counted : n ≡ length (names line)
  pub tabled : tb ≡ table (names line)

-- "12 | a lent slice too short | 0": "for the writer, fewer bytes than its text"
unfoldable pub fits : List ℕ → List ℕ → Verdict
fits text out = verdict (length_test (length out) (length text) ∷ [])

-- a text is put into lent bytes, where it fits: its length is replied, and "The writer changes only the bytes of its text"
pub record Puts (text out : List ℕ) (reply : Reply) (after : List ℕ) : Type 0 where
  pub answer : reply ≡ reply_of (fits text out) (length text)
  pub bytes : after ≡ out_by (fits text out).number text out

-- the promise of `put`: the text of the record on the names of the table, with the notes that the counts give
pub record PutsTree (n : ℕ) (tb r : List ℕ) (counts : Option (List ℕ)) (out : List ℕ) (reply : Reply) (after : List ℕ) : Type 0 where
  pub puts : (line : List ℕ) (notes : ℕ → List ℕ) → Given line n tb → Notes counts r notes → Puts (written_with notes (names line) r) out reply after
