-- A roster judged and a text read as 01 has it, with names of letters and digits alone: 01's own definitions, before #103.
use Rattle.std.specs.Prelude.{ℕ, Bool, true, false, List, length, drop, leb}
use Rattle.trees.specs.Tree.{Tree}
use Rattle.roster.specs.Judged.{species_most, done, refusal}
use Rattle.roster.specs.Letters.{base_names, base_first_fault, base_faulty}
use Rattle.roster.specs.declared.Reply.{Reply}
use Rattle.tokens.specs.Answers.{Answer}
use Rattle.tokens.specs.Answers.Answer.{refused}
use Rattle.nodes.specs.Reading.{open_most, read_tree_by}
use Rattle.nodes.specs.Letters.{lettered}
use Rattle.reader.specs.Promise.{text_most, needed}
use Rattle.reader.specs.declared.Kind.{Kind}

-- "1 | roster faulty | first byte at fault", or how many names there are
abbrev pub base_judged_by : Bool → List ℕ → Reply
base_judged_by true line = refusal 1 (base_first_fault species_most line)
base_judged_by false line = done (length (base_names line))

-- the roster line judged by 01
abbrev pub base_judged : List ℕ → Reply
base_judged line = base_judged_by (base_faulty species_most line) line

-- "A start beyond the text gives 10"
abbrev pub base_from_start : Kind → Bool → List (List ℕ) → List ℕ → ℕ → Answer Tree
base_from_start kind true ns text start = read_tree_by lettered ns open_most (needed kind (length ns)) (drop start text) start
base_from_start kind false ns text start = refused 10 (length text)

-- "2 | text over 65,536 bytes | 65,536"
abbrev pub base_in_limit : Kind → Bool → List (List ℕ) → List ℕ → ℕ → Answer Tree
base_in_limit kind true ns text start = base_from_start kind (leb start (length text)) ns text start
base_in_limit kind false ns text start = refused 2 text_most

-- "1 | roster faulty | first byte at fault"
abbrev pub base_on_roster : Kind → Bool → List ℕ → List ℕ → ℕ → Answer Tree
base_on_roster kind true line text start = refused 1 (base_first_fault species_most line)
base_on_roster kind false line text start = base_in_limit kind (leb (length text) text_most) (base_names line) text start

-- the text read by 01: "Order for text: 1, 2, then as met"
abbrev pub base_answer_to : Kind → List ℕ → List ℕ → ℕ → Answer Tree
base_answer_to kind line text start = base_on_roster kind (base_faulty species_most line) line text start
