-- The meanings alone determine what the reader answers: none holds where a text is read, and where it is refused the one that does is the answer.
use mathlib.Core.Bool.{Bool}
use Prim.Native.Nat.{ℕ, ◌+◌, ◌-◌, ◌≤◌, ◌<◌, zero-le}
use mathlib.Core.Path.{◌≡◌, refl, sym, ap, ◌∙◌, subst}
use mathlib.Core.List.{List, [], ◌∷◌, ◌++◌, append-nil}
use native.Mathlib.Decide.{dec_lt}
use native.Mathlib.Omega.{arith}
use lib.ListN.{length, take, drop, length-append, length-drop, take-append-drop}
use lib.Seq.{take-append-le, take-append_seam, drop-append-le}
use Rattle.clusters.specs.Sets.{Within}
use Rattle.clusters.proofs.Members.{has_of_within}
use Rattle.labels.specs.Bytes.{next_is, next_bare, next_label}
use Rattle.trees.specs.Lists.{NoneTwice}
use Rattle.trees.specs.Tree.{Tree, leaves, cluster}
use Rattle.trees.proofs.Listing.{none_twice_keep}
use Rattle.roster.specs.Roster.{byte_before}
use Rattle.tokens.specs.Answers.{Answer}
use Rattle.tokens.specs.Answers.Answer.{parsed, refused}
use Rattle.nodes.specs.Reading.{read_tree}
use Rattle.nodes.specs.Grammar.{strict, Text}
use Rattle.nodes.specs.Deciding.{next_digit, border, GoesOnAlike}
use Rattle.nodes.proofs.Sound.{read_sound}
use Rattle.nodes.proofs.Unique.{tree-unique}
use Rattle.nodes.proofs.Fronts.{strict_placeless, text-front, lift_text, loosen-text}
use Rattle.meanings.specs.Meaning.{CouldBegin, kept_to, Kept, FirstMet, Means, Refusal}
use Rattle.meanings.proofs.Alike.{stops-alike}
use Rattle.meanings.proofs.KeptRules.{strict_takes, text-taken}
use Rattle.meanings.proofs.KeptBefore.{kept_up_to_border}
use Rattle.meanings.proofs.KeptLate.{lost}
use Rattle.meanings.proofs.States.{State, from, state, from_append, from_halted, text-ended}
use Rattle.meanings.proofs.States.State.{fresh, ended}
use Rattle.meanings.proofs.OneAnswer.{ended-nine, one_answer}
use Rattle.meanings.proofs.Meaning.{refusal-said}
use Rattle.meanings.proofs.Refusals.{says_9}

-- a text that is read, x, and what is left of s behind it
record Whole (given : Bool) (names : List (List ℕ)) (most needed : ℕ) (s x rest : List ℕ) (t : Tree) : Type 0 where
  split : s ≡ x ++ rest
  drawn : Text (strict given names) most x t []
  once : NoneTwice (leaves t)
  all : Within needed (cluster t)

-- bytes that stand first in a text go on alike, whatever follows them
begins_alike : (before : ℕ) (more rest : List ℕ) → 1 ≤ length more → GoesOnAlike before more (more ++ rest)
unfolding next_bare next_is next_digit
begins_alike before [] rest some = absurd (omega arith)
begins_alike before (b ∷ more) rest some = record { label = record { bare = λ is e. e; quote = λ is e. e }; digits = λ is e. e }

module _ (given : Bool) {names : List (List ℕ)} {most needed : ℕ} {s x rest : List ℕ} {t : Tree} (w : Whole given names most needed s x rest t) where
  -- within the text nothing is at fault: what is left of it goes on
  kept-within : (j : ℕ) → j < length x → Kept given names most s j
  kept-within j l =
      let more = drop j x in
      let size : length more ≡ length x - j = length-drop j x in
      let behind : drop j s ≡ more ++ rest = ap (drop j) w.split ∙ drop-append-le j x rest (omega arith) in
      let front : take j s ≡ take j x = ap (take j) w.split ∙ take-append-le j x rest (omega arith) in
      record {
        inside = omega (arith, ap length w.split, length-append x rest);
        more = more;
        unended = omega arith;
        alike = rw behind (begins_alike (byte_before s j) more rest (omega arith));
        tree = t;
        text = rw (front, take-append-drop j x)
            (text-taken 0 (strict given names) (kept_to given names (length more)) (strict_takes given names (length more)) w.drawn zero-le);
        once = none_twice_keep _ (leaves t) w.once;
      }

  ended_here : state x ≡ ended
  ended_here = text-ended w.drawn

  here : take (length x) s ≡ x
  here = ap (take (length x)) w.split ∙ take-append_seam x rest

  -- behind the text nothing goes on
  lost-behind : Kept given names most s (length x) → ⊥
  unfolding from
  lost-behind k =
      let e : state (x ++ k.more) ≡ ended = ap (λ (l : List ℕ). state (l ++ k.more)) (sym here) ∙ text-ended k.text in
      nothing-behind k.more k.unended (sym (from_append fresh x k.more ∙ ap (λ (y : State). from y k.more) ended_here) ∙ e)
    where
      nothing-behind : (more : List ℕ) → 1 ≤ length more → from ended more ≡ ended → ⊥
      nothing-behind [] some e = omega arith
      nothing-behind (b ∷ more) some e = let h = sym (from_halted more) ∙ e in let z : ◌≡◌ {A = ℕ} 0 1 = cc in omega arith

  could_here : CouldBegin s (length x)
  unfolding next_label
  could_here =
      record {
        more = [];
        alike = stops-alike _ [] _ refl;
        text = rw (append-nil, here) (most, t, loosen-text 1 (lift_text given names w.drawn));
      }

  -- so the first fault could be met just behind it alone
  border-behind : {e : ℕ} → FirstMet given names most s e → e ≡ length x
  border-behind {e} f = go (dec_lt e (length x)) (dec_lt (length x) e)
    where
      go : Dec (e < length x) → Dec (length x < e) → e ≡ length x
      go (yes l) h = absurd (f.lost (kept-within e l))
      go (no l) (yes h) = absurd (lost-behind (f.kept (length x) h))
      go (no l) (no h) = omega arith

  -- and none is
  none_met : {n d : ℕ} → Means given names most needed s d n → FirstMet given names most s (border n s d) → ⊥
  unfolding border
  none_met {n} {d} m f =
      let e = border-behind f in
      let nine = ended-nine given m (rw e could_here) (omega (arith, ap length w.split, length-append x rest)) (rw (e, here) ended_here) in
      lacks_none (subst (λ (k : ℕ). Means given names most needed s d k) nine m) (ap (λ (k : ℕ). border k s d) (sym nine) ∙ e)
    where
      lacks_none : Means given names most needed s d 9 → border 9 s d ≡ length x → ⊥
      lacks_none m e =
          let r = says_9 given m in
          let again = subst (λ (l : List ℕ). Text (strict given names) most l r.tree []) (ap (λ (k : ℕ). take k s) e ∙ here) r.drawn in
          let same = tree-unique given names w.drawn again in
          r.absent (rw (← same.value) (has_of_within needed (cluster t) r.species w.all r.wanted))

-- what was read of s is a text
read_whole :
    (given : Bool) (names : List (List ℕ)) (most needed : ℕ) (s : List ℕ) (p : ℕ) {t : Tree} {rest : List ℕ} {q : ℕ}
    → read_tree given names most needed s p ≡ parsed t rest q → (x : List ℕ) × Whole given names most needed s x rest t
read_whole given names most needed s p h =
    let r = read_sound given names most needed s p h in
    let f = text-front (strict given names) (strict_placeless given names) r.derives in
    (f.bytes, record { split = f.split; drawn = rw append-nil at (f.anywhere []); once = r.once; all = r.all })

module _ (given : Bool) (names : List (List ℕ)) (most needed : ℕ) (s : List ℕ) (p : ℕ) where
  -- where a text is read, no number has its meaning anywhere
  pub read-means_none :
      {t : Tree} {rest : List ℕ} {q n d : ℕ} → read_tree given names most needed s p ≡ parsed t rest q → Means given names most needed s d n
      → FirstMet given names most s (border n s d) → ⊥
  read-means_none h m f = none_met given (read_whole given names most needed s p h).1 m f

  -- where it is refused, the number has its meaning at the place, and it is the first fault met
  pub refusal-means : {n q : ℕ} → read_tree given names most needed s p ≡ refused n q → Refusal given names most needed s p n q
  refusal-means {n} {q} h =
      let r = refusal-said given names most needed s p h in
      let there : read_tree given names most needed s p ≡ refused n (p + r.byte) = h ∙ ap (λ (z : ℕ). refused n z) r.place in
      record {
        byte = r.byte;
        place = r.place;
        means = r.means;
        first = record { kept = kept_up_to_border given names most needed s p n r.byte there; lost = lost given names most needed s p n r.byte there };
      }

  -- and what so has its meaning is what the reader answers
  pub means-refusal : {n q : ℕ} → Refusal given names most needed s p n q → read_tree given names most needed s p ≡ refused n q
  means-refusal {n} {q} r = by (read_tree given names most needed s p) refl
    where
      by : (a : Answer Tree) → read_tree given names most needed s p ≡ a → a ≡ refused n q
      by (parsed t rest z) h = absurd (read-means_none h r.means r.first)
      by (refused m z) h =
          let r' = refusal-means h in
          let same = one_answer given r'.means r'.first r.means r.first in
          let at : z ≡ q = r'.place ∙ (ap (λ (k : ℕ). p + k) same.1 ∙ sym r.place) in
          rw (same.0, at) refl
