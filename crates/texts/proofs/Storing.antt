-- Stores that go on: what is left to store, from where they have come to, has the outcome of the whole text.
use Prim.Native.Nat.{ℕ, ◌+◌, ◌<◌}
use mathlib.Core.Path.{◌≡◌, refl, ◌∙◌}
use mathlib.Core.List.{List, [], ◌∷◌, ◌++◌}
use native.Mathlib.Omega.{arith}
use lib.ListN.{length, set}
use lib.Seq.{sets}
use Rattle.printing.specs.Work.{Put}
use Rattle.printing.proofs.Printing.{put_byte, put_rest, put-length}

-- of a text that is put into `before` from `at` on, `todo` is left, from `end` on
pub record Going (before : List ℕ) (at : ℕ) (text out : List ℕ) (end : ℕ) (todo : List ℕ) : Type 0 where
  pub stores : sets out end todo ≡ sets before at text
  pub ends : end + length todo ≡ at + length text
  pub long : length out ≡ length before

pub going_all : (out : List ℕ) (at : ℕ) (text : List ℕ) → Going out at text out at text
going_all out at text = record { stores = refl; ends = refl; long = refl }

module _ {before : List ℕ} {at : ℕ} {text out : List ℕ} {end : ℕ} where
  -- a part of what is left is put in place
  pub going-put :
      {part after : List ℕ} {next : ℕ} (later : List ℕ) → Going before at text out end (part ++ later) → Put out end part next after
      → Going before at text after next later
  going-put later g p =
      let s = put_rest later p in
      record { stores = s.0 ∙ g.stores; ends = s.1 ∙ g.ends; long = put-length p ∙ g.long }

  pub going-byte : {b : ℕ} {later : List ℕ} → Going before at text out end (b ∷ later) → Going before at text (set out end b) (end + 1) later
  going-byte {b} {later} g = going-put later g (put_byte out end b)

  pub going-room : {b : ℕ} {later : List ℕ} → Going before at text out end (b ∷ later) → end < at + length text
  going-room g = let e = g.ends in omega arith

  pub going_end : Going before at text out end [] → Put before at text end out
  going_end g = let e = g.ends in record { ended = omega arith; stored = g.stores }
