-- What is read of an input, as far as there is room, has the output of the whole; and what is written of it.
use Prim.Native.Nat.{ℕ, ◌+◌, ◌≤◌, ◌<◌}
use mathlib.Core.Path.{◌≡◌, refl, sym, ap, ◌∙◌, subst}
use mathlib.Core.Bool.{Bool, true, false}
use mathlib.Core.List.{List, ◌++◌, append-nil}
use native.Mathlib.Omega.{arith}
use lib.ListN.{length, take}
use lib.Seq.{take_at}
use lib.Dec.{leb, ltb}
use borrow.Author.Tests.{lt-leb, leb-true, leb-false, ltb-true, ltb-false}
use Rattle.std.proofs.Common.{take_all, length-take-le, Option, None, Some, Result, Ok, Err, OnOk, IfSome}
use Rattle.std.specs.Io.KnownBytes.{Appends, Consumes, IsAtEnd}
use Rattle.reader.specs.Promise.{text_most}
use Rattle.report.specs.Program.{program}
use Rattle.report.specs.Promise.{output}

-- an input that is cut behind one byte more than the longest text has the output of the whole
pub cut_output : (input : List ℕ) → output (take (text_most + 1) input) ≡ output input
unfolding output program
cut_output input = go (leb (length input) text_most) refl
  where
    go : (b : Bool) → leb (length input) text_most ≡ b → output (take (text_most + 1) input) ≡ output input
    go true e = ap output (take_all (text_most + 1) input (omega (arith, leb-true (length input) text_most e)))
    go false e =
        rw (lt-leb (length (take (text_most + 1) input)) text_most (omega (arith, length-take-le (text_most + 1) input (omega (arith, leb-false (length input) text_most e)))), e) refl

-- n bytes were read, and fewer than there is room for only where the input ended: their output is that of all there was to read
pub read_output : (old new : Option (List ℕ)) (n : ℕ) (buf : List ℕ) → n ≤ length buf → text_most + 1 ≡ length buf → Consumes old new (take n buf)
    → (n < length buf → IsAtEnd new) → IfSome old (λ input. output (take n buf) ≡ output input)
read_output None new n buf within room front end = tt
read_output (Some xs) None n buf within room front end = absurd front
read_output (Some xs) (Some ys) n buf within room front end = go (ltb n (length buf)) refl
  where
    go : (b : Bool) → ltb n (length buf) ≡ b → output (take n buf) ≡ output xs
    go true e = ap output (sym (append-nil (take n buf)) ∙ ap (λ l. take n buf ++ l) (sym (end (ltb-true n (length buf) e))) ∙ sym front)
    go false e =
        let full : length (take n buf) ≡ text_most + 1 = length-take-le n buf within ∙ omega (arith, ltb-false n (length buf) e) in
        ap output (sym (take_at (take n buf) ys (text_most + 1) full) ∙ ap (take (text_most + 1)) (sym front)) ∙ cut_output xs

-- where bytes are appended that are the output of what was read, those of the output of all there was to read are
pub written_output : {T E : Type 0} (r : Result T E) (old contents contents' : Option (List ℕ)) (bytes said : List ℕ) → OnOk r (Appends contents contents' bytes)
    → bytes ≡ said → IfSome old (λ input. said ≡ output input) → OnOk r (IfSome old (λ input. Appends contents contents' (output input)))
written_output (Err e) old contents contents' bytes said h same whole = tt
written_output (Ok x) None contents contents' bytes said h same whole = tt
written_output (Ok x) (Some xs) contents contents' bytes said h same whole = subst (Appends contents contents') (same ∙ whole) h
