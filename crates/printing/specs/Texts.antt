-- The texts of the output, and a text as the bytes of a report (01, "The program").
use Rattle.std.specs.Prelude.{ℕ, ◌-◌, List, ◌++◌, length, replicate}
use Rattle.printing.specs.Words.{taxa_text, genes_text, score_text, ties_text, refused_text, at_text, newline, decimal}
use Rattle.faults.specs.Faults.{number}
use Rattle.faults.specs.declared.Refusal.{Refusal}
use Rattle.printing.specs.declared.Report.{Report}

-- how many bytes a report has room for
abbrev pub report_bytes : ℕ
report_bytes = 1024

-- a text as a report: how long it is, and zeros behind it
unfoldable pub report_of : List ℕ → Report
report_of text = record { len = length text; text = text ++ replicate (report_bytes - length text) 0 }

-- "A refusal prints one line .. : the number and the place"
abbrev pub refusal_text : ℕ → ℕ → List ℕ
refusal_text number place = refused_text ++ decimal number ++ at_text ++ decimal place ++ newline

-- the line of a refusal, by the fault's number: "A refusal prints one line .. : the number and the place"
abbrev pub refused : Refusal → Report
refused e = report_of (refusal_text (number e.fault) e.place)

-- the first three of the four lines of an answer; "prints it after the score as `ties` and the number" (#111)
abbrev pub counts_text : ℕ → ℕ → ℕ → ℕ → List ℕ
counts_text n m score ties =
    taxa_text ++ decimal n ++ genes_text ++ decimal m ++ newline ++ score_text ++ decimal score ++ newline ++ ties_text ++ decimal ties ++ newline
