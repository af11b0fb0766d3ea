-- `records::valid_gene` meets its contract: the numbers that are judged are those of the record.
use Rattle.records.proofs.valid_gene.Goals as goal

pub returns : goal.returns
returns c =
    rw c.widened.ensures at c.valid_gene.ensures
