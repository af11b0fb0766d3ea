-- Each return is a way through one label.
use mathlib.Core.Path.{◌≡◌, sym, ◌∙◌}
use borrow.Author.Rules.{rules}
use Rattle.std.specs.Result.{result_map_both}
use Rattle.mapping.specs.Work.{refusal_of}
use Rattle.mapping.proofs.LabelReads.{no_label_read, scanned_read}
use Rattle.mapping.proofs.label.label_at.Goals as goal

pub returns-then-not-next_label : goal.returns-then-not-next_label
returns-then-not-next_label c =
    rw c.at.ensures (no_label_read _ _ c.requires (sym c.next_label.ensures ∙ c.if-not-next_label.true))

pub returns : goal.returns
returns c =
    let mapped : c.map_err.result ≡ result_map_both (λ s. s) (refusal_of c.args.at) c.scan.result = search rules in
    rw mapped (scanned_read _ _ c.requires (sym c.next_label.ensures ∙ c.if-not-next_label.false) c.scan.result c.scan.ensures)
