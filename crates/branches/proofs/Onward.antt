-- Calls of `next_end`, one after the other, go through the ends of a text: each gives the next end, and the others are found from where its numbers end.
use Prim.Native.Nat.{ℕ, suc, ◌+◌}
use native.Mathlib.Omega.{arith}
use mathlib.Core.Path.{◌≡◌, refl, sym, ap, ◌∙◌, subst₂}
use mathlib.Core.Bool.{Bool, true, false}
use mathlib.Core.List.{List, [], ◌∷◌, tail}
use lib.ListN.{length, drop}
use lib.Seq.{drop-drop}
use Rattle.labels.specs.Bytes.{next_is}
use Rattle.labels.proofs.Runs.{run-within}
use Rattle.tokens.specs.Answers.{Answer}
use Rattle.tokens.specs.Answers.Answer.{parsed, refused}
use Rattle.tokens.specs.Tokens.{name, inner_name}
use Rattle.tokens.specs.Supports.{supported}
use Rattle.nodes.proofs.Answers.{and_then-parsed}
use Rattle.nodes.proofs.Rests.{Moves, moves_on, next_is-tail, name-moves, inner_name-moves, supported-moves}
use Rattle.branches.specs.Ends.{End, is_lead, lead, ends_at, next_end_by, next_end, end_then, ends_from, count_in, counted_as, ended_as}
use Rattle.branches.specs.declared.Ended.{Ended}

-- ---- what is left behind an end is a drop of the text

ends_at-moves : (place : ℕ) (w s : List ℕ) (p : ℕ) {e : End} {rest : List ℕ} {q : ℕ} → ends_at place w s p ≡ parsed e rest q → Moves s p rest q
ends_at-moves place w s p {e} {rest} {q} h =
    let r = and_then-parsed (supported false w s p) (λ b rest next. parsed (record { place = place; behind = b }) rest next) h in
    let after = r.after in
    let left : r.left ≡ rest = cc in
    let there : r.place ≡ q = cc in
    subst₂ (λ (m : List ℕ) (z : ℕ). Moves s p m z) left there (supported-moves false w s p r.first)

next_end_by-moves : (t : Bool) (s : List ℕ) (p : ℕ) {e : End} {rest : List ℕ} {q : ℕ} → next_is 41 s ≡ t → next_end_by t s p ≡ parsed e rest q → Moves s p rest q
next_end_by-moves true s p is h =
    let r = and_then-parsed (inner_name (tail s) (p + 1)) (λ w rest q. ends_at (p + 1) w rest q) h in
    moves_on (next_is-tail 41 s p is).moves
    (moves_on (inner_name-moves (tail s) (p + 1) r.first) (ends_at-moves (p + 1) r.value r.left r.place r.after))
next_end_by-moves false s p is h =
    let r = and_then-parsed (name s p) (λ w rest q. ends_at q [] rest q) h in
    moves_on (name-moves s p r.first) (ends_at-moves r.place [] r.left r.place r.after)

next_end-moves : (s : List ℕ) (p : ℕ) {e : End} {rest : List ℕ} {q : ℕ} → next_end s p ≡ parsed e rest q → Moves s p rest q
unfolding next_end lead
next_end-moves s p h =
    moves_on (record { count = lead s; fits = run-within is_lead s; left = refl; place = refl })
    (next_end_by-moves (next_is 41 (drop (lead s) s)) (drop (lead s) s) (p + lead s) refl h)

pub left_behind : (text : List ℕ) (at : ℕ) {e : End} {rest : List ℕ} {q : ℕ} → next_end (drop at text) at ≡ parsed e rest q → rest ≡ drop q text
left_behind text at h =
    let m = next_end-moves (drop at text) at h in
    m.left ∙ drop-drop m.count at text ∙ ap (λ (n : ℕ). drop n text) (sym m.place)

-- ---- one call

-- what a call answers where e is the next end, and m others, es, are found behind it
pub record Stepped (text : List ℕ) (m : ℕ) (e : End) (es : List End) (r : Ended) : Type 0 where
  pub is : r ≡ counted_as (count_in e.behind) e.place r.next
  pub others : ends_from m (drop r.next text) r.next ≡ es

pub steps :
    (text : List ℕ) (at m : ℕ) (e : End) (es : List End) (r : Ended)
    → ends_from (suc m) (drop at text) at ≡ e ∷ es → r ≡ ended_as (length text) (next_end (drop at text) at) → Stepped text m e es r
unfolding ends_from
steps text at m e es r ends is = go (next_end (drop at text) at) refl ends is
  where
    go :
        (a : Answer End) → next_end (drop at text) at ≡ a → end_then a (λ s p. ends_from m s p) ≡ e ∷ es → r ≡ ended_as (length text) a
        → Stepped text m e es r
    go (parsed f rest q) found ends is =
        let first : f ≡ e = cc in
        let others : ends_from m rest q ≡ es = cc in
        let there : r.next ≡ q = ap (λ (x : Ended). x.next) is in
        let so : r ≡ counted_as (count_in e.behind) e.place q = rw first at is in
        record {
          is = so ∙ ap (λ (next : ℕ). counted_as (count_in e.behind) e.place next) (sym there);
          others = rw (there, ← left_behind text at found) others;
        }
    go (refused number place) found ends is = absurd (let z : ◌≡◌ {A = ℕ} 0 1 = cc in omega arith)
