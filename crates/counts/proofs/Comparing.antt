-- The loop of `compare`: each turn looks at the next node to end, and what is left says what all of them say.
use Prim.Native.Nat.{ℕ, suc, ◌+◌, ◌-◌, ◌≤◌, ◌<◌}
use native.Mathlib.Omega.{arith}
use mathlib.Core.Path.{◌≡◌, refl, sym, ap, ap₂, ◌∙◌}
use mathlib.Core.Bool.{true, false}
use mathlib.Core.List.{List, [], ◌∷◌}
use lib.ListN.{length, get_or, drop}
use lib.Dec.{eqb}
use lib.Seq.{drop-cons}
use Rattle.std.proofs.Common.{Option, Some, None, Ok, Err}
use Rattle.std.specs.Option.{option_eq}
use Rattle.faults.specs.declared.Fault.TheVariants.{WrongCount}
use Rattle.faults.specs.declared.Refusal.{Refusal}
use Rattle.roster.specs.Verdict.{verdict}
use Rattle.branches.specs.Ends.{End, next_end, ends_from, count_in, ended_as}
use Rattle.branches.specs.declared.Ended.{Ended}
use Rattle.branches.proofs.Onward.{steps}
use Rattle.counts.specs.Promise.{weight_in, is_right, first_wrong}
use Rattle.counts.specs.Work.{AllEnd, CountsJudged}

-- ---- one count

-- the count behind a node is right where it is the weight
pub compared : (w : ℕ) (o : Option ℕ) → is_right w o ≡ option_eq eqb o (Some w)
compared w (Some count) = refl
compared w None = refl

-- ---- all of them

-- what all of them say
abbrev wrong_of : (ℕ → ℕ) → List ℕ → ℕ → List ℕ → Option ℕ
wrong_of w text start found = first_wrong w found (ends_from (length found) (drop start text) start)

-- the nodes of the first i clusters have their counts, and the others end from at on
pub record ComparedTo (w : ℕ → ℕ) (text : List ℕ) (start : ℕ) (found : List ℕ) (at i : ℕ) : Type 0 where
  pub few : i ≤ length found
  pub ends : length (ends_from (length found - i) (drop at text) at) ≡ length found - i
  pub same : first_wrong w (drop i found) (ends_from (length found - i) (drop at text) at) ≡ wrong_of w text start found

pub compared_start : (w : ℕ → ℕ) (text : List ℕ) (start : ℕ) (found : List ℕ) → AllEnd (length found) text start → ComparedTo w text start found start 0
unfolding AllEnd
compared_start w text start found all =
    let whole : length found - 0 ≡ length found = omega arith in
    record { few = omega arith; ends = rw whole all; same = rw whole }

-- ---- one turn

-- what a turn makes of the next node to end, whose cluster is the one behind the first i
pub record Turned (w : ℕ → ℕ) (text : List ℕ) (start : ℕ) (found : List ℕ) (i : ℕ) (r : Ended) : Type 0 where
  pub right : is_right (w (get_or found i 0)) r.count ≡ true → ComparedTo w text start found r.next (i + 1)
  pub wrong : is_right (w (get_or found i 0)) r.count ≡ false → wrong_of w text start found ≡ Some r.place

pub first_wrong_lem :
    (w : ℕ → ℕ) (a : ℕ) (l : List ℕ) (e : End) (es : List End) → is_right (w a) (count_in e.behind) ≡ false → first_wrong w (a ∷ l) (e ∷ es) ≡ Some e.place
unfolding first_wrong
first_wrong_lem w a l e es not = rw not

pub first_right :
    (w : ℕ → ℕ) (a : ℕ) (l : List ℕ) (e : End) (es : List End) → is_right (w a) (count_in e.behind) ≡ true → first_wrong w (a ∷ l) (e ∷ es) ≡ first_wrong w l es
unfolding first_wrong
first_right w a l e es is = rw is

no_ends : (w : ℕ → ℕ) (l : List ℕ) → first_wrong w l [] ≡ None
unfolding first_wrong
no_ends w [] = refl
no_ends w (a ∷ l) = refl

module _ {w : ℕ → ℕ} {text : List ℕ} {start : ℕ} {found : List ℕ} {at i : ℕ} (now : ComparedTo w text start found at i) where
  pub turned : i < length found → (r : Ended) → r ≡ ended_as (length text) (next_end (drop at text) at) → Turned w text start found i r
  turned inside r is = go (length found - (i + 1)) (omega arith) (omega arith)
    where
      go : (left : ℕ) → length found - i ≡ suc left → length found - (i + 1) ≡ left → Turned w text start found i r
      go left some later = by (ends_from (suc left) (drop at text) at) refl
        where
          clusters_left_lem : drop i found ≡ get_or found i 0 ∷ drop (i + 1) found
          clusters_left_lem =
              let next : suc i ≡ i + 1 = omega arith in
              rw (drop-cons found i 0 inside, next)

          by : (ends : List End) → ends_from (suc left) (drop at text) at ≡ ends → Turned w text start found i r
          by [] are = let nothing : 0 ≡ suc left = rw (some, are) at now.ends in absurd (omega arith)
          by (e ∷ es) are =
              let step = steps text at left e es r are is in
              let others : suc (length es) ≡ suc left = rw (some, are) at now.ends in
              let told : r.count ≡ count_in e.behind = ap (λ (x : Ended). x.count) step.is in
              let place : r.place ≡ e.place = ap (λ (x : Ended). x.place) step.is in
              let same : first_wrong w (drop i found) (ends_from (suc left) (drop at text) at) ≡ wrong_of w text start found = rw some at now.same in
              let both : first_wrong w (get_or found i 0 ∷ drop (i + 1) found) (e ∷ es) ≡ wrong_of w text start found
              = ap₂ (first_wrong w) (sym clusters_left_lem) (sym are) ∙ same in
              record {
                right = λ right. record {
                  few = omega arith;
                  ends = rw (later, step.others) (omega arith);
                  same = rw (later, step.others) (sym (first_right w _ _ e es (rw told at right)) ∙ both);
                };
                wrong = λ not. sym both ∙ first_wrong_lem w _ _ e es (rw told at not) ∙ ap (λ (p : ℕ). Some p) (sym place);
              }

  -- no node is left
  pub none_left : length found ≤ i → wrong_of w text start found ≡ None
  unfolding ends_from
  none_left l = let nothing : length found - i ≡ 0 = omega arith in sym now.same ∙ rw nothing (no_ends w (drop i found))

-- ---- what is answered

module _ (text : List ℕ) (start : ℕ) (genes : List ℕ) (count : ℕ) (found : List ℕ) where
  pub compared-wrong :
      (e : Refusal) (place : ℕ) → wrong_of (weight_in genes count) text start found ≡ Some place → e ≡ record { fault = WrongCount; place = place }
      → CountsJudged text start genes count found (Err e)
  unfolding CountsJudged verdict
  compared-wrong e place first is = rw (first, is)

  pub compared_right : wrong_of (weight_in genes count) text start found ≡ None → CountsJudged text start genes count found (Ok tt)
  unfolding CountsJudged verdict
  compared_right all = rw all
