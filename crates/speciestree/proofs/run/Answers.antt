-- `run`: the bytes that are written are those of the report on what was read.
use Rattle.std.proofs.Common.{◌≡◌, ◌+◌, rules, length}
use Rattle.reader.specs.Promise.{text_most}
use Rattle.report.proofs.Outcomes.{reported_text}
use Rattle.speciestree.proofs.Cut.{read_output, written_output}
use Rattle.speciestree.proofs.run.Goals as goal

pub returns : goal.returns
returns g c =
    let r = c.report-report.result in
    let read = c.in_ok-n.ensures in
    let room : text_most + 1 ≡ length c.read_full.new.buf = search rules in
    written_output _ _ _ _ _ _ c.write_all.ensures.bytes (reported_text _ r c.report-report.ensures) (read_output _ _ _ _ read.in_bounds.0 room read.bytes read.end)
