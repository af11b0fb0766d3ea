-- `plain::numbering::draw` meets its contract. The measure is how many species the cluster has: both children have fewer.
use Rattle.clusters.specs.Sets.{size}
use Rattle.plain.proofs.numbering.+draw.Given as goal

abbrev pub decreases-draw : goal.decreases-draw
decreases-draw l = size l.a
