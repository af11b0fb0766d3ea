-- Gene trees read with thresholds (#113): thresholds in their order, and the same texts read with two of them.
use Rattle.std.specs.Prelude.{ℕ, ◌≤◌, ◌≡◌, List, [], ◌∷◌}
use Rattle.trees.specs.Records.{records_in}
use Rattle.tokens.specs.Supports.{Threshold}
use Rattle.std.specs.Prelude.{None, Some}
use Rattle.reader.specs.Promise.{Reads}
use Rattle.reader.specs.declared.Kind.TheVariants.{Gene}
use Rattle.reader.specs.declared.Reading.{Reading}

-- "a higher threshold" (#113), or the same: one is given where none was, or it is no lower than it was
pub data Raised : Threshold → Threshold → Type 0 where
  from_none : {threshold : Threshold} → Raised None threshold
  no_lower : {m n : ℕ} → m ≤ n → Raised (Some m) (Some n)

-- a gene tree to be read: the text that it stands in, and the offset from which on it does
pub record TreeAt : Type 0 where
  pub text : List ℕ
  pub start : ℕ

-- each of them is read on the roster with the threshold, by a call that replies 0, and these are the records, in their order
pub data AllRead (threshold : Threshold) (line : List ℕ) : List TreeAt → List (List ℕ) → Type 0 where
  none_left : AllRead threshold line [] []
  one_read :
      {at : TreeAt} {texts : List TreeAt} {genes : List (List ℕ)} (r : Reading) → Reads Gene threshold line at.text at.start r → r.number ≡ 0
      → AllRead threshold line texts genes → AllRead threshold line (at ∷ texts) (r.numbers ∷ genes)

-- the gene records that two calls are handed, count of them each, are those of the same texts on one roster: for the second call they were read with a higher threshold, or the same
pub record ReadTwice (threshold threshold' : Threshold) (line : List ℕ) (count : ℕ) (genes genes' : List ℕ) : Type 0 where
  pub raised : Raised threshold threshold'
  pub texts : List TreeAt
  pub first : AllRead threshold line texts (records_in count genes)
  pub second : AllRead threshold' line texts (records_in count genes')
