-- The names that stand in a table.
use Prim.Native.Nat.{ℕ, zero, suc, ◌+◌, ◌-◌, ◌*◌, ◌≤◌, ◌<◌}
use mathlib.Core.Path.{◌≡◌, refl, ap, ◌∙◌}
use mathlib.Core.Bool.{Bool, true, false}
use mathlib.Core.List.{List, []}
use native.Mathlib.Nat.{le_trans}
use native.Mathlib.Omega.{arith}
use lib.ListN.{length, get_or, take, drop, length-take, length-drop}
use lib.Seq.{length-take-le, drop-drop}
use Rattle.clusters.specs.Sets.{single, within}
use Rattle.labels.specs.Bytes.{run}
use Rattle.labels.proofs.Runs.{run-within}
use Rattle.labels.proofs.Written.{label-twice}
use Rattle.roster.specs.Table.{non_zero}
use Rattle.texts.specs.Writing.{label}
use Rattle.texts.specs.Work.{name_in, names_in, bytes_if, labels_in}

module _ (table : List ℕ) (i : ℕ) (fits : 16 * i + 16 ≤ length table) where
  name-run : run non_zero (take 16 (drop (16 * i) table)) ≤ 16
  name-run = let h = run-within non_zero (take 16 (drop (16 * i) table)) in let k = length-take 16 (drop (16 * i) table) in omega arith

  pub name-length : length (name_in table i) ≡ run non_zero (take 16 (drop (16 * i) table))
  unfolding name_in
  name-length =
      length-take-le (run non_zero (take 16 (drop (16 * i) table))) (drop (16 * i) table)
      (let h = name-run in let k = length-drop (16 * i) table in omega arith)

  pub name-short : length (name_in table i) ≤ 16
  name-short = let h = name-run in let k = name-length in omega arith

  -- as a part of the table, by where it begins and its length
  module _ {n : ℕ} (e : n ≡ run non_zero (take 16 (drop (16 * i) table))) where
    pub name-within : 16 * i + n ≤ length table
    name-within = let h = name-run in omega arith

    pub name-part : take (16 * i + n - 16 * i) (drop (16 * i) table) ≡ name_in table i
    unfolding name_in
    name-part =
        let same : 16 * i + n - 16 * i ≡ run non_zero (take 16 (drop (16 * i) table)) = omega arith in
        ap (λ (k : ℕ). take k (drop (16 * i) table)) same

-- ---- the names of a table

later_name : (table : List ℕ) (i : ℕ) → name_in (drop 16 table) i ≡ name_in table (suc i)
unfolding name_in
later_name table i = let e : 16 + 16 * i ≡ 16 * suc i = omega arith in rw (drop-drop (16 * i) 16 table, e)

pub names-length : (n : ℕ) (table : List ℕ) → length (names_in n table) ≡ n
unfolding names_in
names-length zero table = refl
names-length (suc n) table = ap suc (names-length n (drop 16 table))

pub names_at : (n : ℕ) (table : List ℕ) (i : ℕ) → i < n → get_or (names_in n table) i [] ≡ name_in table i
unfolding names_in
names_at zero table i h = absurd (omega arith)
names_at (suc n) table zero h = refl
names_at (suc n) table (suc i) h = names_at n (drop 16 table) i (omega arith) ∙ later_name table i

-- ---- the labels of a set

pub labels_none : (names : List (List ℕ)) (set : ℕ) → labels_in names set 0 ≡ 0
unfolding labels_in
labels_none names set = refl

-- one species more
pub labels_more :
    (n : ℕ) (table : List ℕ) (set i : ℕ) → i < n
    → labels_in (names_in n table) set (suc i) ≡ labels_in (names_in n table) set i + bytes_if (within (single i) set) (length (label (name_in table i)))
unfolding labels_in
labels_more n table set i h =
    ap (λ (w : List ℕ). labels_in (names_in n table) set i + bytes_if (within (single i) set) (length (label w))) (names_at n table i h)

pub label-short : (table : List ℕ) (i : ℕ) → 16 * i + 16 ≤ length table → (b : Bool) → bytes_if b (length (label (name_in table i))) ≤ 34
label-short table i fits true = let n = name-short table i fits in le_trans (label-twice (name_in table i)) (omega arith)
label-short table i fits false = omega arith
