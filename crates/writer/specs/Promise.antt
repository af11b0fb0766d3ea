-- What `write` promises (01, "Numbers returned").
use Rattle.std.specs.Prelude.{ℕ, zero, suc, ◌≡◌, not, List, [], ◌∷◌, ◌++◌, length, drop}
use Rattle.trees.specs.Valid.{valid_gene}
use Rattle.roster.specs.Roster.{names, faulty, first_fault}
use Rattle.roster.specs.Judged.{species_most}
use Rattle.roster.specs.Verdict.{Test, verdict, length_test, reply_of}
use Rattle.roster.specs.declared.Reply.{Reply}
use Rattle.texts.specs.Writing.{written}

-- "1 | roster faulty | first byte at fault"
unfoldable pub roster_test : List ℕ → Test
roster_test line = record { fault = faulty species_most line; number = 1; place = first_fault species_most line }

-- "15 | a record not valid"; "for the writer 0": it has one. "the writer takes both", species records and those of gene trees that lack species (#104)
unfoldable pub record_test : List ℕ → List ℕ → Test
record_test line r = record { fault = not (valid_gene (length (names line)) r); number = 15; place = 0 }

-- "The writer: 1, 15, 12": "fewer bytes than its text"
unfoldable pub write_tests : List ℕ → List ℕ → List ℕ → List Test
write_tests line r out = roster_test line ∷ record_test line r ∷ length_test (length out) (length (written (names line) r)) ∷ []

-- "The writer changes only the bytes of its text"; a refused call changes none
abbrev pub out_by : ℕ → List ℕ → List ℕ → List ℕ
out_by zero text out = text ++ drop (length text) out
out_by (suc number) text out = out

-- the promise of `write`: its reply with the text's length, and what stands in the lent bytes then
pub record Writes (line r out : List ℕ) (reply : Reply) (after : List ℕ) : Type 0 where
  pub answer : reply ≡ reply_of (verdict (write_tests line r out)) (length (written (names line) r))
  pub bytes : after ≡ out_by (verdict (write_tests line r out)).number (written (names line) r) out
