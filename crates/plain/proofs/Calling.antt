-- What is known of a call once its checks found nothing.
use Rattle.lineages.specs.InOrder.{GenesInOrder}
use Rattle.lineages.proofs.FirstBad.{checked_in_order}
use Rattle.plain.specs.declared.Asked.{Asked}

-- its gene trees are in order
pub genes_in_order : (asked : Asked) → GenesInOrder asked.rooting asked.n asked.genes.now asked.count
genes_in_order asked = checked_in_order asked.rooting asked.n asked.genes.now asked.count asked.passed asked.shaped.shaped
