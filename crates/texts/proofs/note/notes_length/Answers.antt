-- `texts::note::notes_length` meets its contract: nothing without counts, else a colon and the digits of each.
use Prim.Native.Nat.{ℕ, ◌+◌, ◌-◌}
use mathlib.Core.Path.{◌≡◌, sym, ap, ◌∙◌}
use native.Mathlib.Omega.{arith}
use lib.ListN.{length, take, drop}
use Rattle.std.specs.List.{sum_by}
use Rattle.printing.specs.Words.{decimal}
use Rattle.texts.proofs.Noted.{notes_none, notes_sum}
use Rattle.texts.proofs.note.notes_length.Goals as goal

pub returns-in-None : goal.returns-in-None
returns-in-None c = rw c.in-None.is (sym (notes_none c.args.m))

pub returns-in-Some : goal.returns-in-Some
returns-in-Some c =
    let counts = c.in-Some.counts.now in
    let m = c.args.m in
    let all : m + 1 - 1 ≡ m = omega arith in
    let enough = rw c.in-Some.is at c.requires.enough in
    rw c.in-Some.is
    (c.noted.ensures ∙ ap (λ (n : ℕ). sum_by (λ k. length (decimal k) + 1) (take n (drop 1 counts))) all ∙ sym (notes_sum counts m enough))
