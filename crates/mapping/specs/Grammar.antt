-- The grammar of good mappings (02, #110), over labels by the rules of #103: `X .. s rest` says that s begins with an X, and that rest is what follows it.
use Rattle.std.specs.Prelude.{ℕ, ◌≤◌, ◌<◌, length, get_or}
use mathlib.Core.List.{List, [], ◌∷◌, flatten}
use Rattle.trees.specs.Lists.{Among, NoneTwice}
use Rattle.labels.specs.Labels.{label_bytes}
use Rattle.labels.specs.Spelling.{Spells}

-- a label that stands for the name w, "1 to 15 printable bytes decoded" (#103), and the byte b behind it
pub record LabelThen (w : List ℕ) (b : ℕ) (s rest : List ℕ) : Type 0 where
  pub spelled : Spells w s (b ∷ rest)
  pub short : length w ≤ label_bytes

-- "its individuals parted by commas, a line feed" (#110): the individuals, by their numbers in the second roster
pub data Items (individuals : List (List ℕ)) : List ℕ → List ℕ → List ℕ → Type 0 where
  last : {j : ℕ} {s rest : List ℕ} → j < length individuals → LabelThen (get_or individuals j []) 10 s rest → Items individuals (j ∷ []) s rest
  more :
      {j : ℕ} {js s t rest : List ℕ} → j < length individuals → LabelThen (get_or individuals j []) 44 s t → Items individuals js t rest
      → Items individuals (j ∷ js) s rest

-- "one line per species in roster order: the species name, a colon, its individuals .." (#110): for each species its individuals, up to the end of the text
pub data Lines (individuals : List (List ℕ)) : List (List ℕ) → List (List ℕ) → List ℕ → Type 0 where
  none : Lines individuals [] [] []
  line :
      {w : List ℕ} {species : List (List ℕ)} {js : List ℕ} {whose : List (List ℕ)} {s t rest : List ℕ} → LabelThen w 58 s t → Items individuals js t rest
      → Lines individuals species whose rest → Lines individuals (w ∷ species) (js ∷ whose) s

-- a good mapping: "Each individual has exactly one species" (#110), so that it stands in one line, and once
pub record Maps (species individuals : List (List ℕ)) (text : List ℕ) : Type 0 where
  pub whose : List (List ℕ)
  pub derived : Lines individuals species whose text
  pub once : NoneTwice (flatten whose)
  pub all : (j : ℕ) → j < length individuals → Among j (flatten whose)
