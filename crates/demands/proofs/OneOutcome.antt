-- "For each, it is proved that the promise admits a single outcome": one theorem for each promise. The C names of `capi` have these same promises.
use Prim.Native.Nat.{ℕ}
use mathlib.Core.Path.{◌≡◌, sym, ◌∙◌}
use mathlib.Core.List.{List}
use Rattle.roster.specs.Judged.{Judged}
use Rattle.roster.specs.declared.Reply.{Reply}
use Rattle.roster.proofs.Judging.{judged-once}
use Rattle.tokens.specs.Supports.{Threshold}
use Rattle.reader.specs.Promise.{Reads}
use Rattle.reader.specs.declared.Kind.{Kind}
use Rattle.reader.specs.declared.Reading.{Reading}
use Rattle.writer.specs.Promise.{Writes}
use Rattle.writer.proofs.Outcomes.{writes_once}
use Rattle.weights.specs.declared.Rooting.{Rooting}
use Rattle.lineages.specs.Promise.{Weighs, Scores, Marks}
use Rattle.lineages.proofs.Outcomes.{weighs_once, scores-once, marks-once}
use Rattle.sheet.specs.Promise.{Sheets}
use Rattle.sheet.specs.declared.Entry.{Entry}
use Rattle.sheet.proofs.Entries.{sheets_once}
use Rattle.plain.specs.Promise.{FindsPlainly}
use Rattle.search.specs.Promise.{Finds}
use Rattle.terms.specs.declared.Found.{Found}
use Rattle.search.proofs.Demand.{finds-once}
use Rattle.search.specs.TiesPromise.{FindsTies}
use Rattle.search.specs.declared.tied.Tied.{Tied}
use Rattle.search.proofs.Ties.{ties-once}
use Rattle.counts.specs.Promise.{Checks, WritesCounts}
use Rattle.counts.proofs.Answered.{writes_counts_once}
use Rattle.counts.proofs.Outcomes.{checks_once}
use Rattle.report.specs.Promise.{Reports}

-- "it is proved that the promise admits a single outcome": for a roster line
pub judge-once : (line : List ℕ) (r r' : Reply) → Judged line r → Judged line r' → r ≡ r'
judge-once = judged-once

-- for a text read from an offset on, as either kind, with any threshold or none
pub read-once :
    (kind : Kind) (threshold : Threshold) (line text : List ℕ) (start : ℕ) (r r' : Reading)
    → Reads kind threshold line text start r → Reads kind threshold line text start r' → r ≡ r'
unfolding Reads
read-once kind threshold line text start r r' p q = p ∙ sym q

-- for a record written: the reply and the lent bytes
pub write_once :
    (line tree out : List ℕ) (r r' : Reply) (after after' : List ℕ)
    → Writes line tree out r after → Writes line tree out r' after' → (r ≡ r') × (after ≡ after')
write_once line tree out r r' after after' p q = writes_once p q

-- for the weight of a cluster
pub weigh_once :
    (rooting : Rooting) (n : ℕ) (genes : List ℕ) (count cluster : ℕ) (r r' : Reply) → Weighs rooting n genes count cluster r
    → Weighs rooting n genes count cluster r' → r ≡ r'
weigh_once rooting n genes count cluster r r' p q = weighs_once rooting n genes count cluster p q

-- for the score of a species tree
pub score-once :
    (rooting : Rooting) (n : ℕ) (genes : List ℕ) (count : ℕ) (species : List ℕ) (r r' : Reply) → Scores rooting n genes count species r
    → Scores rooting n genes count species r' → r ≡ r'
score-once rooting n genes count species r r' p q = scores-once rooting n genes count species p q

-- for the marks: the reply and the lent bytes
pub mark_once :
    (rooting : Rooting) (n : ℕ) (genes : List ℕ) (count : ℕ) (out : List ℕ) (r r' : Reply) (after after' : List ℕ)
    → Marks rooting n genes count out r after → Marks rooting n genes count out r' after' → (r ≡ r') × (after ≡ after')
mark_once rooting n genes count out r r' after after' p q = marks-once p q

-- for the search: the reply and both tables
pub find_once :
    (rooting : Rooting) (n : ℕ) (genes : List ℕ) (count : ℕ) (allowed scores splits : List ℕ) (r r' : Found) (s s' p p' : List ℕ)
    → Finds rooting n genes count allowed scores splits r s p → Finds rooting n genes count allowed scores splits r' s' p' → (r ≡ r') × (s ≡ s') × (p ≡ p')
find_once rooting n genes count allowed scores splits r r' s s' p p' f g = finds-once f g

-- for the search with ties (#111): the reply and all three tables
pub tie_once :
    (rooting : Rooting) (n : ℕ) (genes : List ℕ) (count : ℕ) (allowed scores splits ties : List ℕ) (r r' : Tied) (s s' p p' t t' : List ℕ)
    → FindsTies rooting n genes count allowed scores splits ties r s p t → FindsTies rooting n genes count allowed scores splits ties r' s' p' t'
    → (r ≡ r') × (s ≡ s') × (p ≡ p') × (t ≡ t')
tie_once rooting n genes count allowed scores splits ties r r' s s' p p' t t' f g = ties-once f g

-- for going through all trees (#108)
pub plain-once :
    (rooting : Rooting) (n : ℕ) (genes : List ℕ) (count : ℕ) (allowed : List ℕ) (r r' : Found) → FindsPlainly rooting n genes count allowed r
    → FindsPlainly rooting n genes count allowed r' → r ≡ r'
plain-once rooting n genes count allowed r r' p q = p.reply ∙ sym q.reply

-- for a sheet of candidate trees (#107): the reply and the lent entries
pub sheet_once :
    (rooting : Rooting) (n : ℕ) (genes : List ℕ) (count : ℕ) (records : List ℕ) (entries : List Entry) (r r' : Reply) (after after' : List Entry)
    → Sheets rooting n genes count records entries r after → Sheets rooting n genes count records entries r' after' → (r ≡ r') × (after ≡ after')
sheet_once rooting n genes count records entries r r' after after' p q = sheets_once p q

-- for a tree that came with branch counts (#114): the reply and both tables
pub check_once :
    (line text : List ℕ) (start : ℕ) (genes : List ℕ) (count : ℕ) (scores splits : List ℕ) (r r' : Reply) (s s' p p' : List ℕ)
    → Checks line text start genes count scores splits r s p → Checks line text start genes count scores splits r' s' p' → (r ≡ r') × (s ≡ s') × (p ≡ p')
check_once line text start genes count scores splits r r' s s' p p' c c' = checks_once c c'

-- for one written (#114): the reply and the lent bytes
pub write_counts_once :
    (line genes : List ℕ) (count : ℕ) (species out : List ℕ) (r r' : Reply) (after after' : List ℕ)
    → WritesCounts line genes count species out r after → WritesCounts line genes count species out r' after' → (r ≡ r') × (after ≡ after')
write_counts_once line genes count species out r r' after after' w w' = writes_counts_once w w'

-- for the program's report
pub report_once : (input : List ℕ) (r r' : _) → Reports input r → Reports input r' → r ≡ r'
unfolding Reports
report_once input r r' p q = p ∙ sym q
