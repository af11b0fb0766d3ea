-- The two forms of the output (01, "The program").
use Rattle.std.specs.Prelude.{ℕ, List, ◌++◌}
use Rattle.printing.specs.Words.{taxa_text, genes_text, score_text, ties_text, refused_text, at_text, newline, decimal}
use Rattle.texts.specs.Writing.{written}

-- one line, "the number and the place"; or four: "species and gene trees read, the score, and the tree", with the ties "after the score" (#111)
pub data Form (names : List (List ℕ)) : List ℕ → Type 0 where
  refusal : (number place : ℕ) → Form names (refused_text ++ decimal number ++ at_text ++ decimal place ++ newline)
  answer :
      (n m score ties : ℕ) (r : List ℕ)
      → Form names
      (taxa_text ++ decimal n ++ genes_text ++ decimal m ++ newline ++ score_text ++ decimal score ++ newline ++ ties_text ++ decimal ties ++ newline
      ++ written names r
      ++ newline)
