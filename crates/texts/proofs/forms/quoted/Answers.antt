-- `texts::forms::quoted` meets its contract: a quote, the name with each quote twice, and a quote.
use mathlib.Core.Path.{◌∙◌}
use native.Mathlib.Omega.{arith}
use lib.ListN.{length-set}
use Rattle.printing.proofs.Printing.{put_byte, put_then, put-length}
use Rattle.texts.proofs.forms.quoted.Goals as goal

pub doubled-end-requires : goal.doubled-end-requires
doubled-end-requires c =
    simp length-set (omega arith)

pub bounds-out-end : goal.bounds-out-end
bounds-out-end c =
    let s = c.args in
    let p = c.doubled-end.ensures in
    let l = put-length p ∙ length-set s.out.now s.at 39 in
    omega (arith, p.ended)

pub shape_of-out : goal.shape_of-out
shape_of-out c =
    let s = c.args in
    simp length-set (put-length c.doubled-end.ensures ∙ length-set s.out.now s.at 39)

pub returns : goal.returns
returns c =
    let s = c.args in
    put_then (put_then (put_byte s.out.now s.at 39) c.doubled-end.ensures) (put_byte c.doubled-end.new.out c.doubled-end.result 39)
