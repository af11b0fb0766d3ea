-- Names as 01 has them, without #103: runs of letters and digits, each standing for itself.
use Rattle.std.specs.Prelude.{ℕ, ◌+◌, Bool, true, false, List, [], ◌∷◌, drop, leb}
use Rattle.labels.specs.Bytes.{is_name, run}
use Rattle.labels.specs.Labels.{label_bytes}
use Rattle.tokens.specs.Answers.{Answer}
use Rattle.tokens.specs.Answers.Answer.{parsed, refused}
use Rattle.tokens.specs.Tokens.{blanks, skip, numbers}
use Rattle.nodes.specs.Reading.{Scanner}
use Rattle.labels.specs.Base.{word}

-- the text begins with a letter or a digit
unfoldable pub next_letter : List ℕ → Bool
next_letter [] = false
next_letter (c ∷ s) = is_name c

-- a name within its limit, or "4 | sixteenth byte of a name"
abbrev pub read_word_by : Bool → List ℕ → ℕ → Answer (List ℕ)
read_word_by true s p = parsed (word s) (drop (run is_name s) s) (p + run is_name s)
read_word_by false s p = refused 4 (p + label_bytes)

-- a run of letters and digits, read
unfoldable pub read_word : List ℕ → ℕ → Answer (List ℕ)
read_word s p = read_word_by (leb (run is_name s) label_bytes) s p

-- behind a closing parenthesis a name follows, or none
abbrev pub read_inner_by : Bool → List ℕ → ℕ → Answer (List ℕ)
read_inner_by false s p = parsed [] s p
read_inner_by true s p = read_word (skip s) (p + blanks s)

-- "then an optional name"
unfoldable pub read_inner : List ℕ → ℕ → Answer (List ℕ)
read_inner s p = read_inner_by (next_letter (skip s)) s p

-- 01's names, and numbers that are not judged
abbrev pub lettered : Scanner
lettered = record { begins = λ s. next_letter s; leaf_name = λ s p. read_word s p; inner_name = λ s p. read_inner s p; behind = λ w s p. numbers w s p }
