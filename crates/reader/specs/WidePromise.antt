-- What `read_stand` promises (#110): a gene tree on individuals, read into a wide record.
use Rattle.std.specs.Prelude.{ℕ, ◌≡◌, List, replicate, None}
use Rattle.trees.specs.Tree.{Tree, clusters}
use Rattle.trees.specs.Records.{record_for}
use Rattle.tokens.specs.Answers.{Answer}
use Rattle.tokens.specs.Answers.Answer.{parsed, refused}
use Rattle.reader.specs.Promise.{Limits, answer_within}
use Rattle.reader.specs.declared.Kind.TheVariants.{Gene}
use Rattle.reader.specs.declared.wide.WideReading.{WideReading}

-- "A second roster lists up to 32 individuals": the second roster gives 1 for "a thirty-third name"; "8 is for the thirty-second parenthesis" (#110)
abbrev pub wide : Limits
wide = record { most = 32; room = 31 }

-- a reply's record has 64 numbers, "wide enough for 63 clusters" (#110); else as in 01: "A refused call returns .. an all-zero record .. and, from the reader, the offset it was given"
abbrev pub wide_reading_of : ℕ → Answer Tree → WideReading
wide_reading_of start (parsed t rest next) = record { number = 0; place = 0; next = next; numbers = record_for 32 (clusters t) }
wide_reading_of start (refused number place) = record { number = number; place = place; next = start; numbers = replicate 64 0 }

-- "Gene trees are on individuals" (#110), and may lack some (#104); without a threshold. The order is 1, for the second roster, 2, then as met
abbrev pub stand_answer : List ℕ → List ℕ → ℕ → Answer Tree
stand_answer individuals text start = answer_within wide Gene None individuals text start

-- the promise of `read_stand`
unfoldable pub ReadsWide : List ℕ → List ℕ → ℕ → WideReading → Type 0
ReadsWide individuals text start r = r ≡ wide_reading_of start (stand_answer individuals text start)
