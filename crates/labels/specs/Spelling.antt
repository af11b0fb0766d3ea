-- Which raw bytes spell which name (#103), as rules: `X w s rest` says that s begins with an X that stands for w, and that rest is what follows it.
use Rattle.std.specs.Prelude.{ℕ, ◌≡◌, Bool, true, false, List, [], ◌∷◌, map, eqb}
use Rattle.labels.specs.Bytes.{is_bare, is_plain, next_is, next_bare}

-- one or more bytes w that pass the test
pub data Run (test : ℕ → Bool) : List ℕ → List ℕ → List ℕ → Type 0 where
  one : {b : ℕ} {rest : List ℕ} → test b ≡ true → Run test (b ∷ []) (b ∷ rest) rest
  next : {b : ℕ} {w s rest : List ℕ} → test b ≡ true → Run test w s rest → Run test (b ∷ w) (b ∷ s) rest

-- a blank for an underscore, else the byte itself
abbrev pub blank_for : Bool → ℕ → ℕ
blank_for true b = 32
blank_for false b = b

-- "In a bare label an underscore stands for a blank" (#103)
abbrev pub unwritten : ℕ → ℕ
unwritten b = blank_for (eqb b 95) b

-- behind the first quote: "any printable ASCII byte, a quote written twice" (#103), up to the quote that closes
pub data Quoted : List ℕ → List ℕ → List ℕ → Type 0 where
  closes : {rest : List ℕ} → Quoted [] (39 ∷ rest) rest
  plain : {b : ℕ} {w s rest : List ℕ} → is_plain b ≡ true → Quoted w s rest → Quoted (b ∷ w) (b ∷ s) rest
  twice : {w s rest : List ℕ} → Quoted w s rest → Quoted (39 ∷ w) (39 ∷ 39 ∷ s) rest

-- a label, bare or quoted, which is not empty
pub data Spells : List ℕ → List ℕ → List ℕ → Type 0 where
  bare : {v s rest : List ℕ} → Run is_bare v s rest → Spells (map unwritten v) s rest
  quoted : {b : ℕ} {w s rest : List ℕ} → Quoted (b ∷ w) s rest → Spells (b ∷ w) (39 ∷ s) rest

-- what follows goes on with the label: behind a bare one a byte of one, behind a quoted one a quote
abbrev pub goes_on_by : Bool → List ℕ → Bool
goes_on_by true rest = next_is 39 rest
goes_on_by false rest = next_bare rest

-- the label that begins s goes on with rest: a quote that no quote follows closes it, and a bare one is a whole run
abbrev pub goes_on : List ℕ → List ℕ → Bool
goes_on s rest = goes_on_by (next_is 39 s) rest

-- a whole label: it does not go on
pub record Whole (w s rest : List ℕ) : Type 0 where
  pub spelled : Spells w s rest
  pub over : goes_on s rest ≡ false
