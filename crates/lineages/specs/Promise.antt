-- What `weight`, `score` and `mark` promise (01, "Numbers returned").
use Rattle.std.specs.Prelude.{ℕ, zero, suc, ◌^◌, ◌≡◌, List, ◌++◌, map, drop}
use Rattle.trees.specs.Lists.{up_to}
use Rattle.trees.specs.Records.{records_in}
use Rattle.roster.specs.declared.Reply.{Reply}
use Rattle.weights.specs.Count.{weight, score}
use Rattle.weights.specs.Marks.{shown, flag}
use Rattle.roster.specs.Verdict.{verdict, reply_of}
use Rattle.weights.specs.declared.Rooting.{Rooting}
use Rattle.lineages.specs.Checks.{weight_tests, score_tests, mark_tests}

-- the promise of `weight`
unfoldable pub Weighs : Rooting → ℕ → List ℕ → ℕ → ℕ → Reply → Type 0
Weighs rooting n genes count a r = r ≡ reply_of (verdict (weight_tests rooting n genes count a)) (weight rooting (records_in count genes) a)

-- the promise of `score`
unfoldable pub Scores : Rooting → ℕ → List ℕ → ℕ → List ℕ → Reply → Type 0
Scores rooting n genes count species r = r ≡ reply_of (verdict (score_tests rooting n genes count species)) (score rooting (records_in count genes) species)

-- "2^n bytes: 1 for each cluster shown by some gene tree, else 0"
unfoldable pub marks : Rooting → ℕ → List (List ℕ) → List ℕ
unfolding shown
marks rooting n genes = map (λ a. flag (shown rooting genes a)) (up_to (2 ^ n))

-- "Lent slices keep every byte" on a refusal; else the first 2^n are written
abbrev pub marked_by : Rooting → ℕ → ℕ → List (List ℕ) → List ℕ → List ℕ
marked_by rooting zero n genes out = marks rooting n genes ++ drop (2 ^ n) out
marked_by rooting (suc number) n genes out = out

-- the promise of `mark`: its reply, and what stands in the lent bytes then
pub record Marks (rooting : Rooting) (n : ℕ) (genes : List ℕ) (count : ℕ) (out : List ℕ) (r : Reply) (after : List ℕ) : Type 0 where
  pub reply : r ≡ reply_of (verdict (mark_tests rooting n genes count out)) 0
  pub bytes : after ≡ marked_by rooting (verdict (mark_tests rooting n genes count out)).number n (records_in count genes) out
