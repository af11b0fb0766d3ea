-- One entry filled: what it gets, by whether the record at its position lies within those lent.
use Prim.Native.Nat.{ℕ, ◌+◌, ◌*◌, ◌-◌, ◌≤◌, ◌<◌}
use mathlib.Core.Path.{◌≡◌, refl, sym, ap}
use mathlib.Core.Bool.{Bool, true, false}
use mathlib.Core.List.{List}
use native.Mathlib.Omega.{arith}
use lib.ListN.{length, take, drop}
use lib.Dec.{leb}
use borrow.Author.Tests.{le-leb, lt-leb}
use Rattle.roster.specs.declared.Reply.{Reply}
use Rattle.weights.specs.declared.Rooting.{Rooting}
use Rattle.lineages.specs.Promise.{Scores}
use Rattle.sheet.specs.declared.Entry.{Entry}
use Rattle.sheet.specs.Promise.{record_at, scored, entry_by, entry_for}

module _ (rooting : Rooting) (n : ℕ) (genes : List ℕ) (count : ℕ) (records : List ℕ) (e : Entry) where
  -- its position stays
  pub position-stays : (entry_for rooting n genes count records e).position ≡ e.position
  unfolding entry_for
  position-stays = go (leb (32 * e.position + 32) (length records))
    where
      go : (b : Bool) → (entry_by b e.position (scored rooting n genes count (record_at records e.position))).position ≡ e.position
      go true = refl
      go false = refl

  -- the position alone decides what it gets
  pub position_decides : (f : Entry) → e.position ≡ f.position → entry_for rooting n genes count records e ≡ entry_for rooting n genes count records f
  unfolding entry_for
  position_decides f same = rw same

  -- the record lies wholly within those lent
  pub single-given :
      (s : Reply) → 32 * e.position + 32 ≤ length records → Scores rooting n genes count (record_at records e.position) s
      → entry_for rooting n genes count records e ≡ record { position = e.position; number = s.number; score = s.value }
  unfolding entry_for Scores
  single-given s within told =
      rw (le-leb (32 * e.position + 32) (length records) within) (ap (λ (r : Reply). record { position = e.position; number = r.number; score = r.value }) (sym told))

  -- it does not
  pub twelve_given : length records < 32 * e.position + 32 → entry_for rooting n genes count records e ≡ record { position = e.position; number = 12; score = 0 }
  unfolding entry_for
  twelve_given outside = rw (lt-leb (32 * e.position + 32) (length records) outside)

  -- as the code fills it
  pub within-filled :
      (s : Reply) → 32 * e.position + 32 ≤ length records
      → Scores rooting n genes count (take (32 * e.position + 32 - 32 * e.position) (drop (32 * e.position) records)) s
      → record { position = e.position; number = s.number; score = s.value } ≡ entry_for rooting n genes count records e
  within-filled s within told =
      let long : 32 * e.position + 32 - 32 * e.position ≡ 32 = omega arith in sym (single-given s within (rw long at told))

  -- and as it fills it where the record does not lie within them
  pub twelve_filled :
      (number score : ℕ) → number ≡ 12 → score ≡ 0 → length records < 32 * e.position + 32
      → record { position = e.position; number = number; score = score } ≡ entry_for rooting n genes count records e
  twelve_filled number score twelve none outside = rw (twelve, none) (sym (twelve_given outside))
