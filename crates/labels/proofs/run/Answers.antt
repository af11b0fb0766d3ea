-- `run`: the bytes from a place on, as far as they pass the test, are counted.
use Rattle.std.proofs.Common.{◌≡◌, ◌-◌, arith, rules, sym, ◌∙◌, inl, inr, length, drop, length-drop}
use Rattle.std.proofs.lemmas.List.{take_all}
use Rattle.std.proofs.lemmas.Iterator.{YieldsList-from_slice}
use Rattle.std.proofs.lemmas.Iterator.Search.{YieldsList-from_take_while}
use Rattle.std.proofs.lemmas.Iterator.Consumers.{YieldsList-at, count_from_yields_List}
use Rattle.labels.proofs.Runs.{run_counted, run_end}
use Rattle.labels.proofs.run.Goals as goal

pub returns-in_default : goal.returns-in_default
returns-in_default g c passes computes =
    sym (run_end passes c.args.text.now c.args.at (elim c.in_default.ensures.lookup.0 [ inl beyond ↦ omega arith | inr never ↦ omega arith ]))

pub returns : goal.returns
returns g c passes computes =
    let text = c.args.text.now in
    let at = c.args.at in
    let rest : c.iter.result.rest.now ≡ drop at text =
    c.iter.ensures.rest ∙ (c.in-Some.ensures.lookup.0.2 ∙ take_all (length text - at) (drop at text) (omega (arith, length-drop at text)))
    in
    count_from_yields_List c.take_while.result c.count.result c.count.ensures.ran
    (YieldsList-from_take_while _ passes (YieldsList-at c.take_while.ensures.source (YieldsList-from_slice (drop at text) rest)) c.take_while.ensures.closure
    c.take_while.ensures.done (λ x r q k. search (rules, computes)))
    ∙ run_counted passes (drop at text)
