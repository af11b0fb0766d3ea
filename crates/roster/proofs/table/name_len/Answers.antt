use Rattle.std.proofs.Common.{◌≡◌, ◌≢◌, length, ap, sym, ◌∙◌, rules, tests}
use Rattle.std.proofs.lemmas.Iterator.{IsFirst-from_position, YieldsList-from_slice, index_from_first}
use Rattle.std.specs.Option.{unwrap_or}
use Rattle.labels.specs.Bytes.{run}
use Rattle.roster.specs.Table.{non_zero}
use Rattle.roster.proofs.Slots.{run_none, run_zero, run_more, slot-length}
use Rattle.roster.proofs.table.name_len.Goals as goal

pub returns : goal.returns
returns c =
    let first =
    IsFirst-from_position _ _ c.position.result (λ b. b ≡ 0) (λ b. b ≢ 0) c.position.ensures.ran (YieldsList-from_slice c.slot.result.now cc)
    (λ x q k. search (rules, tests)) (λ x q k. search (rules, tests)) in
    let whole : length c.slot.result.now ≡ 16 = ap length c.slot.ensures ∙ slot-length c.args.table.now c.args.i c.requires in
    c.unwrap_or.ensures ∙ ap (unwrap_or c.position.result) (sym whole)
    ∙ sym (index_from_first (run non_zero) (λ b. b ≡ 0) (λ b. b ≢ 0) run_none run_zero run_more c.slot.result.now c.position.result first)
    ∙ ap (run non_zero) c.slot.ensures
