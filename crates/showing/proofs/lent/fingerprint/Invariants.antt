-- The loop keeps: the fingerprint is below its modulus.
use Rattle.std.proofs.Common.{◌<◌}
use Rattle.showing.proofs.lent.fingerprint.Given as goal

abbrev pub invariant-loop-x : goal.invariant-loop-x
invariant-loop-x g l = l.h < 1000003
