-- Lots of gene trees (#102, "Two batches of loci"): a search over each of them, and one over the whole.
use Rattle.std.specs.Prelude.{ℕ, ◌*◌, ◌^◌, ◌≤◌, ◌≡◌, ◌⊎◌, length, take}
use mathlib.Core.List.{List, map, Memᴰ}
use Rattle.trees.specs.Lists.{total, InAnyOrder}
use Rattle.trees.specs.Records.{records_in}
use Rattle.splits.specs.BinaryTrees.{each}
use Rattle.weights.specs.declared.Rooting.{Rooting}
use Rattle.search.specs.Promise.{Finds}
use Rattle.search.specs.LeastAmong.{LeastFor}
use Rattle.terms.specs.declared.Found.{Found}

-- a search that was made for n species, the gene trees with a root or without (#106): what was handed over, and any outcome that meets its promise
pub record Searched (rooting : Rooting) (n : ℕ) : Type 0 where
  pub genes : List ℕ
  pub count : ℕ
  pub allowed : List ℕ
  pub scores : List ℕ
  pub splits : List ℕ
  pub reply : Found
  pub scores_after : List ℕ
  pub splits_after : List ℕ
  pub finds : Finds rooting n genes count allowed scores splits reply scores_after splits_after

-- the gene records that it was handed
abbrev pub records : {rooting : Rooting} {n : ℕ} → Searched rooting n → List (List ℕ)
records s = records_in s.count s.genes

-- it was lent enough: not "fewer than 32 entries for each record counted", nor "fewer than 2^n for an allowed set or a table"
pub record Lent {rooting : Rooting} {n : ℕ} (s : Searched rooting n) : Type 0 where
  pub genes_long : 32 * s.count ≤ length s.genes
  pub allowed_long : 2 ^ n ≤ length s.allowed
  pub scores_long : 2 ^ n ≤ length s.scores
  pub splits_long : 2 ^ n ≤ length s.splits

-- "Loci arrive in two lots and she searches each" (#102): searches over lots, two or any other number, and one over the whole; "for one roster" (#102): all for one n
pub record LotsOf {rooting : Rooting} {n : ℕ} (lots : List (Searched rooting n)) (whole : Searched rooting n) : Type 0 where
  -- the whole has the gene records of all lots, in any order
  pub gathered : InAnyOrder (each (λ (s : Searched rooting n). records s) lots) (records whole)
  -- "and one allowed set" (#102): its 2^n bytes are equal
  pub one_allowed_set : (s : Searched rooting n) → Memᴰ s lots → take (2 ^ n) s.allowed ≡ take (2 ^ n) whole.allowed
  -- there is a lot, and "both lots non-empty" (#102)
  pub some_lot : 1 ≤ length lots
  pub non_empty : (s : Searched rooting n) → Memᴰ s lots → 1 ≤ s.count
  -- "and together inside the limit" (#102)
  pub inside_the_limit : total (map (λ (s : Searched rooting n). s.count) lots) ≤ 4096
  -- no call is lent too little
  pub whole_lent : Lent whole
  pub lots_lent : (s : Searched rooting n) → Memᴰ s lots → Lent s

-- every check was passed: the reply is a tree (0), or that there is none (14)
abbrev pub Passed : {rooting : Rooting} {n : ℕ} → Searched rooting n → Type 0
Passed s = (s.reply.number ≡ 0) ⊎ (s.reply.number ≡ 14)

-- a tree least for what a search was handed: a binary tree over its allowed clusters, and none scores less over its gene trees
abbrev pub LeastIn : {rooting : Rooting} {n : ℕ} → Searched rooting n → List ℕ → Type 0
LeastIn {rooting} {n} s c = LeastFor rooting n s.allowed (records s) c

-- "some tree is least for both" (#102): for every lot
abbrev pub LeastInEach : {rooting : Rooting} {n : ℕ} → List (Searched rooting n) → List ℕ → Type 0
LeastInEach {rooting} {n} lots c = (s : Searched rooting n) → Memᴰ s lots → LeastIn s c

-- "the sum of the lots' least scores" (#102)
abbrev pub sum_of_least : {rooting : Rooting} {n : ℕ} → List (Searched rooting n) → ℕ
sum_of_least {rooting} {n} lots = total (map (λ (s : Searched rooting n). s.reply.score) lots)
