-- The ways through `next_end`: a closing parenthesis or a name, and behind it a count, something else, or a fault.
use Prim.Native.Nat.{ℕ, ◌+◌, ◌≤◌, ◌<◌}
use native.Mathlib.Omega.{arith}
use mathlib.Core.Path.{◌≡◌, refl, sym, ◌∙◌}
use mathlib.Core.Bool.{Bool, true, false}
use mathlib.Core.List.{List, [], ◌∷◌}
use Rattle.std.specs.Prelude.{option_map, ◌/◌}
use Rattle.std.specs.Result.{result_unwrap_or}
use lib.ListN.{length, drop}
use lib.Seq.{drop-drop}
use Rattle.std.proofs.Common.{Result, Ok, Err, Some, None}
use Rattle.labels.specs.Bytes.{next_is}
use Rattle.labels.specs.Labels.{letters, scanned_at}
use Rattle.labels.specs.declared.Scanned.{Scanned}
use Rattle.tokens.specs.Answers.{and_then}
use Rattle.tokens.specs.Answers.Answer.{parsed}
use Rattle.tokens.specs.Tokens.{name, inner_name}
use Rattle.tokens.specs.Supports.{supported}
use Rattle.tokens.specs.Values.{written}
use Rattle.tokens.specs.Says.{between, refusal, label_says, behind_says, behind_valued, inner_word}
use Rattle.faults.specs.declared.Refusal.{Refusal}
use Rattle.tokens.specs.declared.answer.Figures.{Figures}
use Rattle.tokens.proofs.Places.{tail_at}
use Rattle.tokens.proofs.BehindNodes.{scanned-name}
use Rattle.nodes.proofs.Answers.{and_then-assoc}
use Rattle.branches.specs.Ends.{End, lead, ends_at, next_end, is_count, count_by, count_in, counted_as, ended_as}
use Rattle.branches.specs.Work.{count_read, end_read}
use Rattle.branches.specs.declared.Ended.{Ended}
use Rattle.branches.proofs.Counts.{count-value}

-- ---- what stands behind a node that ends at a place

pub second_none : (t : Bool) (d b : List ℕ) → 0 < length b → count_by t d b ≡ None
second_none t d [] h = absurd (omega arith)
second_none true d (x ∷ b) h = refl
second_none false d (x ∷ b) h = refl

alone_some : (d b : List ℕ) → length b ≡ 0 → count_by true d b ≡ Some (written d)
alone_some d [] e = refl
alone_some d (x ∷ b) e = absurd (omega arith)

-- the count among the numbers that were read
module _ (text : List ℕ) (e : Figures) (valued : behind_valued text (Ok e)) where
  pub count_way : e.support.to ≤ e.support.from → is_count (between text e.distance) ≡ true → option_map (λ amount. amount / 1000) e.distance.value ≡ count_read text e
  count_way h digits =
      let d = between text e.distance in
      rw (valued.0.0, digits) (count-value d digits ∙ sym (alone_some d (between text e.support) (omega (arith, valued.1.1))))

-- the end of a node by what was read behind it
abbrev pub end_by : List ℕ → ℕ → Result Figures Refusal → Result Ended Refusal
end_by text place (Ok e) = Ok (counted_as (count_read text e) place e.next)
end_by text place (Err e) = Err e

-- an end that was read, or none at the end of the text
abbrev pub ends : List ℕ → Result Ended Refusal → Ended
ends text r = result_unwrap_or r (counted_as None (length text) (length text))

end_read_is : (text : List ℕ) (place : ℕ) (w : List ℕ) (read : Result Figures Refusal) → ends text (end_by text place read) ≡ ended_as (length text) (end_read text place w read)
unfolding count_in
end_read_is text place w (Ok e) = refl
end_read_is text place w (Err e) = refl

-- ---- the next node to end, behind what leads to it

module _ (text : List ℕ) (at from : ℕ) (passed : from ≡ at + lead (drop at text)) where
  behind-lead : drop (lead (drop at text)) (drop at text) ≡ drop from text
  behind-lead = rw passed (drop-drop (lead (drop at text)) at text)

  -- a closing parenthesis, and what `closing` says of what stands behind it
  pub closing_way :
      next_is 41 (drop from text) ≡ true → (read : Result Figures Refusal)
      → behind_says text (inner_word (drop (from + 1) text)) read ≡ and_then (inner_name (drop (from + 1) text) (from + 1)) (λ w s p. supported false w s p)
      → ends text (end_by text (from + 1) read) ≡ ended_as (length text) (next_end (drop at text) at)
  unfolding next_end
  closing_way is read says =
      let named = inner_name (drop (from + 1) text) (from + 1) in
      let whole = and_then-assoc {C = End} named (λ w s p. supported false w s p) (λ b rest next. parsed (record { place = from + 1; behind = b }) rest next) in
      rw (behind-lead, is, ← passed, tail_at text from, ← whole, ← says) (end_read_is text (from + 1) (inner_word (drop (from + 1) text)) read)

  -- a name
  module _ (is : next_is 41 (drop from text) ≡ false) (scanned : Result Scanned Refusal) (scans : scanned ≡ scanned_at text from) where
    says : label_says text (letters (drop from text)) scanned ≡ name (drop from text) from
    says = rw scans (scanned-name text from)

    at_name : next_end (drop at text) at ≡ and_then (name (drop from text) from) (λ w rest q. ends_at q [] rest q)
    unfolding next_end
    at_name = rw (behind-lead, is, ← passed)

    pub faulty_way : (e : Refusal) → scanned ≡ Err e → ends text (Err e) ≡ ended_as (length text) (next_end (drop at text) at)
    faulty_way e told =
        let failed : refusal e ≡ name (drop from text) from = rw told at says in
        rw (at_name, ← failed)

    pub leaf_way :
        (label : Scanned) → scanned ≡ Ok label → (read : Result Figures Refusal)
        → ((w : List ℕ) → behind_says text w read ≡ supported false w (drop label.next text) label.next)
        → ends text (end_by text label.next read) ≡ ended_as (length text) (next_end (drop at text) at)
    leaf_way label told read behind =
        let named : parsed (letters (drop from text)) (drop label.next text) label.next ≡ name (drop from text) from = rw told at says in
        rw (at_name, ← named, ← behind []) (end_read_is text label.next [] read)
