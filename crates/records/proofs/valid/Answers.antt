-- `records::valid` meets its contract: the numbers that are judged are those of the record.
use Rattle.records.proofs.valid.Goals as goal

pub returns : goal.returns
returns c =
    rw c.widened.ensures at c.valid.ensures
