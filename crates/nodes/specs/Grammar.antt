-- Which texts draw which tree (01, "Tree text"), as rules: `X .. s rest` says that s begins with an X and that rest is what follows it.
use Rattle.std.specs.Prelude.{ℕ, suc, ◌≤◌, ◌<◌, ◌≡◌, Bool, true, false, List, [], ◌∷◌, ◌++◌, length}
use Rattle.labels.specs.Bytes.{is_digit, is_blank}
use Rattle.labels.specs.Spelling.{Run, Spells}
use Rattle.labels.specs.Labels.{label_bytes}
use Rattle.trees.specs.Tree.{Tree, Forest}
use Rattle.trees.specs.Tree.Tree.{leaf, node}
use Rattle.trees.specs.Tree.Forest.{last, more}
use Rattle.roster.specs.Roster.{position}
use Rattle.tokens.specs.Tokens.{number_bytes}
use Rattle.tokens.specs.Supports.{refuses_fine}

-- which names, distances and supports a grammar takes, by the roster and the limits, and how many nodes it wants in a parenthesis.
-- It is told a name or a number, for a leaf's name its species, the text from its first raw byte on, and the text behind it
pub record Rules : Type 1 where
  pub leaf_name : List ℕ → ℕ → List ℕ → List ℕ → Type 0
  pub inner_name : List ℕ → List ℕ → List ℕ → Type 0
  pub distance : List ℕ → List ℕ → List ℕ → Type 0
  pub support : List ℕ → List ℕ → List ℕ → Type 0
  pub fewest : ℕ

-- 01's: a leaf's name is on the roster, at its species; names and numbers keep their limits; "a parenthesis of two or more nodes".
-- Where a threshold is given, no support has "more than three decimals" (#113)
abbrev pub strict : Bool → List (List ℕ) → Rules
strict given names = record {
  leaf_name = λ w i s rest. (length w ≤ label_bytes) × (position w names ≡ i) × (i < length names);
  inner_name = λ w s rest. length w ≤ label_bytes;
  distance = λ w s rest. length w ≤ number_bytes;
  support = λ w s rest. (length w ≤ number_bytes) × (refuses_fine given w ≡ false);
  fewest = 2;
}

-- limits and roster lifted: any name may be any species
abbrev pub lifted_to : ℕ → Rules
lifted_to least = record { leaf_name = λ w i s rest. Unit {0}; inner_name = λ w s rest. Unit {0}; distance = λ w s rest. Unit {0}; support = λ w s rest. Unit {0}; fewest = least }

-- still with two or more nodes in a parenthesis
abbrev pub lifted : Rules
lifted = lifted_to 2

-- with a single node too
abbrev pub loosest : Rules
loosest = lifted_to 1

-- "Space, tab, line feed and carriage return may stand between tokens"
pub data Blanks : List ℕ → List ℕ → Type 0 where
  none : {s : List ℕ} → Blanks s s
  blank : {b : ℕ} {s rest : List ℕ} → is_blank b ≡ true → Blanks s rest → Blanks (b ∷ s) rest

-- "A number is digits, or digits, a point and digits"
pub data Number : List ℕ → List ℕ → List ℕ → Type 0 where
  whole : {w s rest : List ℕ} → Run is_digit w s rest → Number w s rest
  decimal : {v w s mid rest : List ℕ} → Run is_digit v s (46 ∷ mid) → Run is_digit w mid rest → Number (v ++ 46 ∷ w) s rest

-- a colon and a number that is taken, blanks before each
pub data ColonNumber (Takes : List ℕ → List ℕ → List ℕ → Type 0) : List ℕ → List ℕ → List ℕ → Type 0 where
  colon : {w s s₁ s₂ rest : List ℕ} → Blanks s (58 ∷ s₁) → Blanks s₁ s₂ → Number w s₂ rest → Takes w s₂ rest → ColonNumber Takes w s rest

-- "after either may follow `:d`, `:d:b` or `::b`": d and b, empty where they are not written
pub data Numbers (R : Rules) : List ℕ → List ℕ → List ℕ → List ℕ → Type 0 where
  nothing : {s : List ℕ} → Numbers R [] [] s s
  distance : {d s rest : List ℕ} → ColonNumber R.distance d s rest → Numbers R d [] s rest
  both : {d b s mid rest : List ℕ} → ColonNumber R.distance d s mid → ColonNumber R.support b mid rest → Numbers R d b s rest
  support : {b s mid rest : List ℕ} → Blanks s (58 ∷ mid) → ColonNumber R.support b mid rest → Numbers R [] b s rest

-- "then an optional name"
pub data Inner (R : Rules) : List ℕ → List ℕ → List ℕ → Type 0 where
  nameless : {s : List ℕ} → Inner R [] s s
  named : {w s mid rest : List ℕ} → Blanks s mid → Spells w mid rest → R.inner_name w mid rest → Inner R w s rest

-- "A node is a leaf's name, or a parenthesis of two or more nodes parted by commas"; at most k parentheses are open at once in it.
-- Children are those behind a first comma, up to and with the closing parenthesis. A parenthesis of a single node (not 01's) draws what it holds
mutual
  pub data Node (R : Rules) : ℕ → List ℕ → Tree → List ℕ → Type 0 where
    a_leaf :
        {k i : ℕ} {w d b s s₁ s₂ rest : List ℕ}
        → Blanks s s₁ → Spells w s₁ s₂ → R.leaf_name w i s₁ s₂ → Numbers R d b s₂ rest
        → Node R k s (leaf i (record { name = []; distance = d; support = b })) rest
    an_inner :
        {k : ℕ} {t : Tree} {f : Forest} {w d b s s₁ s₂ s₃ s₄ s₅ rest : List ℕ}
        → Blanks s (40 ∷ s₁) → Node R k s₁ t s₂ → Blanks s₂ (44 ∷ s₃) → Children R k s₃ f s₄ → Inner R w s₄ s₅ → Numbers R d b s₅ rest
        → Node R (suc k) s (node t f (record { name = w; distance = d; support = b })) rest
    a_single :
        {k : ℕ} {t : Tree} {w d b s s₁ s₂ s₃ s₄ rest : List ℕ}
        → R.fewest ≤ 1 → Blanks s (40 ∷ s₁) → Node R k s₁ t s₂ → Blanks s₂ (41 ∷ s₃) → Inner R w s₃ s₄ → Numbers R d b s₄ rest
        → Node R (suc k) s t rest

  pub data Children (R : Rules) : ℕ → List ℕ → Forest → List ℕ → Type 0 where
    the_last : {k : ℕ} {t : Tree} {s s₁ rest : List ℕ} → Node R k s t s₁ → Blanks s₁ (41 ∷ rest) → Children R k s (last t) rest
    with_more :
        {k : ℕ} {t : Tree} {f : Forest} {s s₁ s₂ rest : List ℕ}
        → Node R k s t s₁ → Blanks s₁ (44 ∷ s₂) → Children R k s₂ f rest → Children R k s (more t f) rest

-- "A tree is a node and `;`"
pub data Text (R : Rules) : ℕ → List ℕ → Tree → List ℕ → Type 0 where
  text : {k : ℕ} {t : Tree} {s s₁ rest : List ℕ} → Node R k s t s₁ → Blanks s₁ (59 ∷ rest) → Text R k s t rest
