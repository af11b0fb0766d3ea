-- What the parts of the program ask of one another: the report of an outcome, a roster that was judged, gene trees in the numbers lent for them.
use Rattle.std.specs.Prelude.{ℕ, ◌*◌, ◌^◌, ◌≤◌, ◌<◌, ◌≡◌, true, false, length, get_or, Result, Ok, Err}
use mathlib.Core.List.{List, Memᴰ}
use Rattle.roster.specs.Roster.{names, faulty}
use Rattle.roster.specs.Judged.{species_most}
use Rattle.faults.specs.declared.Refusal.{Refusal}
use Rattle.printing.specs.Texts.{report_of, refused}
use Rattle.printing.specs.declared.Report.{Report}
use Rattle.trees.specs.Records.{records_in, AllValid}
use Rattle.trees.specs.Unrooted.{may_unroot}
use Rattle.weights.specs.declared.Rooting.{Rooting}
use Rattle.weights.specs.declared.Rooting.TheVariants.{Unrooted}
use Rattle.roster.specs.Verdict.{verdict}
use Rattle.lineages.specs.Work.{genes_tests, said}
use Rattle.gather.specs.GeneTrees.{genes_most}
use Rattle.outcomes.specs.Outcome.{Outcome, program_most, printed}

-- the report of an outcome, over the names of the roster
abbrev pub told : List (List ℕ) → Outcome → Report
told ns outcome = report_of (printed ns outcome)

-- a report, or the line of the refusal in its place: "A refusal prints one line .. : the number and the place"
abbrev pub answered : Result Report Refusal → Report
answered (Ok r) = r
answered (Err e) = refused e

-- the roster line is good, and names n species, twelve at the most
pub record Roster (line : List ℕ) (n : ℕ) : Type 0 where
  pub good : faulty species_most line ≡ false
  pub named : n ≡ length (names line)
  pub few : n ≤ program_most

-- the records of 1 to 512 gene trees are lent, each valid for n species, 1 to 12, and each may be counted by the rooting
pub record Genes (rooting : Rooting) (n count : ℕ) (numbers : List ℕ) : Type 0 where
  pub some_species : 1 ≤ n
  pub few_species : n ≤ program_most
  pub some : 1 ≤ count
  pub few : count ≤ genes_most
  pub lent : 32 * count ≤ length numbers
  pub valid : AllValid n (records_in count numbers)
  pub enter : rooting ≡ Unrooted → (g : List ℕ) → Memᴰ g (records_in count numbers) → may_unroot n g ≡ true

-- the same, as the checks say it: 1 to 512 gene trees are lent for 1 to 12 species, and neither 15 nor 19 refuses one
pub record Countable (rooting : Rooting) (n count : ℕ) (numbers : List ℕ) : Type 0 where
  pub some_species : 1 ≤ n
  pub few_species : n ≤ program_most
  pub some : 1 ≤ count
  pub few : count ≤ genes_most
  pub lent : 32 * count ≤ length numbers
  pub unrefused : said 0 0 ≡ verdict (genes_tests rooting n (records_in count numbers))

-- 2^n bytes, each 0 or 1
pub record Marked (n : ℕ) (bytes : List ℕ) : Type 0 where
  pub exact : length bytes ≡ 2 ^ n
  pub low : (a : ℕ) → a < 2 ^ n → get_or bytes a 0 ≤ 1
