-- In a text without quotes and underscores everything is read as by 01: the reading with 01's names answers the same.
use Prim.Native.Nat.{ℕ, ◌+◌}
use mathlib.Core.Path.{◌≡◌, refl, sym}
use mathlib.Core.Bool.{Bool, true, false}
use mathlib.Core.List.{List, [], ◌∷◌}
use lib.Dec.{leb}
use Rattle.labels.specs.Bytes.{is_name, run, next_label}
use Rattle.labels.specs.Labels.{label_bytes, limited}
use Rattle.labels.specs.Labels.Told.{ended}
use Rattle.labels.proofs.Bytewise.{all_drop}
use Rattle.labels.proofs.Unquoted.{Unquoted, unquoted_letters, unquoted_told, unquoted_next}
use Rattle.trees.specs.Tree.{Behind}
use Rattle.tokens.specs.Answers.{Answer}
use Rattle.tokens.specs.Answers.Answer.{parsed, refused}
use Rattle.tokens.specs.Tokens.{blanks, skip, numbers, name, name_by, inner_name, inner_name_by}
use Rattle.tokens.specs.Supports.{supported}
use Rattle.tokens.proofs.Supports.{supported_none}
use Rattle.nodes.specs.Reading.{read_tree, read_tree_by}
use Rattle.nodes.specs.Letters.{next_letter, read_word, read_word_by, read_inner, read_inner_by, lettered}
use Rattle.nodes.proofs.Rests.{skip-drop}
use Rattle.nodes.proofs.Scanners.{Beside, Simulates, read-beside}
use Rattle.nodes.proofs.Scanners.Beside.{both_read, both_refused, excused}

next_same : (s : List ℕ) → Unquoted s → next_letter s ≡ next_label s
unfolding next_letter next_label
next_same [] all = refl
next_same (b ∷ s) all = sym (unquoted_next b s all)

word_same : (s : List ℕ) (p : ℕ) → Unquoted s → read_word s p ≡ name s p
unfolding read_word name
word_same s p all = rw (unquoted_told s all) (by (leb (run is_name s) label_bytes))
  where
    by : (t : Bool) → read_word_by t s p ≡ name_by (limited t label_bytes (ended (run is_name s))) s p
    by true = rw (unquoted_letters s all) refl
    by false = refl

inner_same : (s : List ℕ) (p : ℕ) → Unquoted s → read_inner s p ≡ inner_name s p
unfolding read_inner inner_name
inner_same s p all = rw (next_same (skip s) (rw (skip-drop s) (all_drop (blanks s) all))) (by (next_label (skip s)))
  where
    by : (t : Bool) → read_inner_by t s p ≡ inner_name_by t s p
    by true = word_same (skip s) (p + blanks s) (rw (skip-drop s) (all_drop (blanks s) all))
    by false = refl

-- ---- the whole

abbrev Never : ℕ → Type 0
Never n = ⊥

-- what stands behind a node is no matter of names, and without a threshold it is not judged
behind_same : (w s : List ℕ) (p : ℕ) → Beside Never (λ (b : Behind). Unit {0}) (numbers w s p) (supported false w s p)
behind_same w s p = rw (supported_none w s p) (by (numbers w s p))
  where
    by : (a : Answer Behind) → Beside Never (λ (b : Behind). Unit {0}) a a
    by (parsed b s p) = both_read tt
    by (refused n q) = both_refused

letters_simulate : Simulates lettered Unquoted Never (λ b. Unit {0})
letters_simulate = record {
  begins_same = next_same;
  leaf_same = word_same;
  inner_same = inner_same;
  behind_beside = behind_same;
  fair_drop = λ n s all. all_drop n all;
}

-- where nothing is excused, both answers are the same
beside_same : {A : Type 0} {Fits : A → Type 0} {a b : Answer A} → Beside Never Fits a b → a ≡ b
beside_same (both_read fits) = refl
beside_same both_refused = refl
beside_same (excused is never) = absurd is

-- a text without quotes and underscores is read exactly as by 01: the same tree and the same text left, or the same number and place
pub read_as_by_letters :
    (names : List (List ℕ)) (most needed : ℕ) (s : List ℕ) (p : ℕ) → Unquoted s → read_tree_by lettered names most needed s p ≡ read_tree false names most needed s p
read_as_by_letters names most needed s p all = beside_same (read-beside lettered Unquoted Never (λ b. Unit {0}) letters_simulate names most needed s p all)
