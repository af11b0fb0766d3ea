-- What the parts of `next_end` say.
use Rattle.std.specs.Prelude.{ℕ, List, Option, Result}
use Rattle.faults.specs.declared.Refusal.{Refusal}
use Rattle.tokens.specs.Answers.{Answer, and_then}
use Rattle.tokens.specs.Answers.Answer.{parsed}
use Rattle.tokens.specs.Says.{between, behind_says}
use Rattle.tokens.specs.declared.answer.Figures.{Figures}
use Rattle.branches.specs.Ends.{End, is_count, count_by}

-- the count among the numbers that were read behind a node: "one whole number after a colon" (#114)
abbrev pub count_read : List ℕ → Figures → Option ℕ
count_read text e = count_by (is_count (between text e.distance)) (between text e.distance) (between text e.support)

-- a node that ends at a place, with what was read behind it; w is the name that stood before
abbrev pub end_read : List ℕ → ℕ → List ℕ → Result Figures Refusal → Answer End
end_read text place w read = and_then (behind_says text w read) (λ b rest next. parsed (record { place = place; behind = b }) rest next)
