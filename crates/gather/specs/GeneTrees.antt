-- The gene trees of the program's input, read one after the other (01, "The program").
use Rattle.std.specs.Prelude.{ℕ, zero, suc, ◌+◌, Bool, true, false, List, [], ◌∷◌, ◌++◌, length, drop, leb, None}
use Rattle.tokens.specs.Tokens.{blanks}
use Rattle.reader.specs.Promise.{answer_to, reading_of}
use Rattle.reader.specs.declared.Kind.TheVariants.{Gene}
use Rattle.reader.specs.declared.Reading.{Reading}

-- the gene trees that were read, or the first refusal
pub data Gathered : Type 0 where
  gathered : List (List ℕ) → Gathered
  stopped : ℕ → ℕ → Gathered

-- and with it the records of the trees that were read, up to the end or to one that is refused
pub record Walked : Type 0 where
  pub read : List (List ℕ)
  pub says : Gathered

-- all trees were read
abbrev pub ended : List (List ℕ) → Walked
ended genes = record { read = genes; says = gathered genes }

-- reading stopped, with number and place
abbrev pub halted : List (List ℕ) → ℕ → ℕ → Walked
halted genes number place = record { read = genes; says = stopped number place }

-- "program: 512"
abbrev pub genes_most : ℕ
genes_most = 512

-- a tree was read: the next ones follow; or it was refused
abbrev pub gather_on : ℕ → Reading → List (List ℕ) → (List ℕ → ℕ → Walked) → Walked
gather_on zero r genes next = next r.numbers r.next
gather_on (suc number) r genes next = halted genes (suc number) r.place

-- a tree is to be read at p, unless 512 have been: "a 513th tree is 17 at its first byte that is no blank, before it is read"
abbrev pub gather_at : Bool → List ℕ → List ℕ → List (List ℕ) → ℕ → (List ℕ → ℕ → Walked) → Walked
gather_at true line trees genes p next = halted genes 17 p
gather_at false line trees genes p next =
    gather_on (reading_of None p (answer_to Gene None line trees p)).number (reading_of None p (answer_to Gene None line trees p)) genes
    (λ numbers at. next numbers at)

-- "then trees until only blanks remain"
abbrev pub gather_more : Bool → List ℕ → List ℕ → List (List ℕ) → ℕ → (List ℕ → ℕ → Walked) → Walked
gather_more true line trees genes p next = ended genes
gather_more false line trees genes p next = gather_at (leb genes_most (length genes)) line trees genes p (λ numbers at. next numbers at)

-- the first byte from a place on that is no blank
abbrev pub begun : List ℕ → ℕ → ℕ
begun trees at = at + blanks (drop at trees)

-- the gene trees from a place of the text `trees` on, behind those that were read; at most k more turns
unfoldable pub gather_to : ℕ → List ℕ → List ℕ → List (List ℕ) → ℕ → Walked
gather_to zero line trees genes at = ended genes
gather_to (suc k) line trees genes at =
    gather_more (leb (length trees) (begun trees at)) line trees genes (begun trees at) (λ numbers next. gather_to k line trees (genes ++ (numbers ∷ [])) next)

-- the whole text; the 514 turns are never used up: the 513th finds only blanks or refuses a 513th tree
unfoldable pub walk : List ℕ → List ℕ → Walked
unfolding gather_to
walk line trees = gather_to 514 line trees [] 0

-- all gene trees of the text
unfoldable pub gather : List ℕ → List ℕ → Gathered
unfolding walk
gather line trees = (walk line trees).says

-- where the reading of a tree at p ends, just after its `;`
abbrev pub end_of : List ℕ → List ℕ → ℕ → ℕ
end_of line trees p = (reading_of None p (answer_to Gene None line trees p)).next

-- from a place on, where the tree of an index begins, in the program the place of 19, "its first byte" (#106): the first that is no blank
unfoldable pub begins_at : ℕ → List ℕ → List ℕ → ℕ → ℕ
begins_at zero line trees at = begun trees at
begins_at (suc i) line trees at = begins_at i line trees (end_of line trees (begun trees at))
