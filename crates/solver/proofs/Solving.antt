-- Weights made in the first entries of both tables, which are lent by themselves, and what is then chosen from them.
use Prim.Native.Nat.{ℕ, ◌+◌, ◌^◌, ◌≤◌}
use mathlib.Core.Path.{◌≡◌, sym, ap, ◌∙◌}
use mathlib.Core.Bool.{Bool}
use mathlib.Core.List.{List, ◌++◌, map}
use native.Mathlib.Omega.{arith}
use lib.ListN.{length, get_or, take, drop, length-take, length-drop, length-append}
use lib.Seq.{drop_at}
use lib.Pow.{pow_pos}
use Rattle.clusters.specs.Sets.{single, whole}
use Rattle.trees.specs.Lists.{up_to}
use Rattle.trees.specs.Records.{records_in}
use Rattle.weights.specs.Count.{weight}
use Rattle.weights.proofs.RunningSums.{weight-small}
use Rattle.weights.proofs.Sums.{valid-countable}
use Rattle.splits.specs.Least.{best, score_entry, split_entry, filled}
use Rattle.splits.specs.Work.{Light}
use Rattle.tables.specs.Work.{Weights, Fillable}
use Rattle.tables.proofs.Written.{written, written-length, written_at, written-again, written-entries}
use Rattle.terms.specs.declared.Found.{Found}
use Rattle.std.specs.Prelude.{Option as Maybe, IfSome}
use Rattle.weights.specs.declared.Rooting.{Rooting}
use Rattle.solver.specs.Work.{Checked, SolvesFor, SolvesWeighed}

pub whole_entries : (n : ℕ) {all : ℕ} → all ≡ whole n → all + 1 ≡ 2 ^ n
unfolding whole
whole_entries n e = omega (arith, pow_pos n)

-- the first entries of a table, lent by themselves
abbrev pub lent_part : ℕ → List ℕ → List ℕ
lent_part entries l = take entries l

-- and the table with others in their place
abbrev pub back_in : ℕ → List ℕ → List ℕ → List ℕ
back_in entries part l = part ++ drop entries l

module _ (n : ℕ) {entries : ℕ} (is : entries ≡ single n) where
  part-entries : entries ≡ 2 ^ n
  unfolding single
  part-entries = is

  -- they are as many as there are sets of n species
  pub part-sized : (l : List ℕ) → 2 ^ n ≤ length l → length (lent_part entries l) ≡ 2 ^ n
  part-sized l long = omega (arith, length-take entries l, part-entries)

  back_is : (part l : List ℕ) → back_in entries part l ≡ part ++ drop (2 ^ n) l
  back_is part l = ap (λ (k : ℕ). part ++ drop k l) part-entries

  -- which leaves its length
  pub back_length : (part l : List ℕ) → 2 ^ n ≤ length l → length part ≡ 2 ^ n → length (back_in entries part l) ≡ length l
  back_length part l long sized = omega (arith, ap length (back_is part l), length-append part (drop (2 ^ n) l), length-drop (2 ^ n) l)

-- there is an entry for each set
pub all_fits : (n : ℕ) {entries : ℕ} → entries ≡ single n → (l : List ℕ) → 2 ^ n ≤ length l → entries ≤ length l
unfolding single
all_fits n is l long = omega arith

-- and so many are lent
pub all_lent : (n : ℕ) {entries : ℕ} → entries ≡ single n → (l : List ℕ) → 2 ^ n ≤ length l → entries ≡ length (take entries l)
all_lent n {entries} is l long = omega (arith, length-take entries l, all_fits n is l long)

-- ---- any weights

-- weights that are light, and slices with an entry for each set, the allowed set where it is looked at
pub record Lent (w : ℕ → ℕ) (n : ℕ) (allowed : Maybe (List ℕ)) (scores splits : List ℕ) : Type 0 where
  pub light : Light w
  pub few : n ≤ 16
  pub allowed_long : IfSome allowed (λ bytes. 2 ^ n ≤ length bytes)
  pub scores_long : 2 ^ n ≤ length scores
  pub splits_long : 2 ^ n ≤ length splits

module _ {w : ℕ → ℕ} {n : ℕ} {allowed : Maybe (List ℕ)} {scores splits : List ℕ} (h : Lent w n allowed scores splits) {entries : ℕ} (is : entries ≡ single n)
    {made : List ℕ} (work : List ℕ) (e : made ≡ map w (up_to (2 ^ n))) (sized : length work ≡ 2 ^ n) where
  is_written : back_in entries made scores ≡ written w (2 ^ n) scores
  is_written = back_is n is made scores ∙ ap (λ (l : List ℕ). l ++ drop (2 ^ n) scores) e ∙ sym (written-entries w (2 ^ n) scores)

  holds-weights : Weights n w (back_in entries made scores)
  holds-weights b l = ap (λ t. get_or t b 0) is_written ∙ written_at w (2 ^ n) scores b l

  -- the tables can be filled from the weights
  pub weights_fillable : Fillable n allowed (back_in entries made scores) (back_in entries work splits)
  weights_fillable =
      record {
        few = h.few;
        allowed_long = h.allowed_long;
        scores_long = omega (arith, ap length is_written, written-length w (2 ^ n) scores h.scores_long, h.scores_long);
        splits_long = omega (arith, back_length n is work splits h.splits_long sized, h.splits_long);
        light = λ b l. omega (arith, holds-weights b l, h.light b);
      }

  -- and what stood in both tables is not seen
  pub weights_solve :
      {ok : ℕ → Bool} {r : Found} {scores' splits' : List ℕ} → SolvesWeighed n ok (back_in entries made scores) (back_in entries work splits) r scores' splits'
      → SolvesFor w n ok scores splits r scores' splits'
  weights_solve {ok} {r} {scores'} {splits'} solves =
      let s = solves w h.light holds-weights in
      record { reply = s.reply; score_table = s.score_table ∙ behind; split_table = s.split_table ∙ ap (λ (l : List ℕ). map other (up_to (2 ^ n)) ++ l) rest }
    where
      entry : ℕ → ℕ
      entry a = score_entry w (best w ok a)

      other : ℕ → ℕ
      other a = split_entry (best w ok a)

      rest : drop (2 ^ n) (back_in entries work splits) ≡ drop (2 ^ n) splits
      rest = ap (drop (2 ^ n)) (back_is n is work splits) ∙ drop_at work (drop (2 ^ n) splits) (2 ^ n) sized

      behind : filled n entry (back_in entries made scores) ≡ filled n entry scores
      behind =
          sym (written-entries entry (2 ^ n) (back_in entries made scores)) ∙ ap (written entry (2 ^ n)) is_written
          ∙ written-again entry w (2 ^ n) scores
          ∙ written-entries entry (2 ^ n) scores

-- ---- the weights of gene trees that were checked

pub checked-lent : {rooting : Rooting} {n : ℕ} {genes : List ℕ} {count : ℕ} {allowed : Maybe (List ℕ)} {scores splits : List ℕ}
    → Checked rooting n genes count allowed scores splits → Lent (weight rooting (records_in count genes)) n allowed scores splits
checked-lent {rooting} {n} {genes} h =
    record {
      light = λ b. omega (arith, weight-small rooting genes b h.weighable.few_genes (valid-countable h.weighable.few_species h.weighable.valid));
      few = h.weighable.few_species;
      allowed_long = h.allowed_long;
      scores_long = h.scores_long;
      splits_long = h.splits_long;
    }
