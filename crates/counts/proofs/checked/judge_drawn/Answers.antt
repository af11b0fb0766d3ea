-- `checked::judge_drawn` meets its contract: so many entries are 2^n, and the record's test tells whether its tree is binary.
use Prim.Native.Nat.{◌^◌}
use mathlib.Core.Path.{◌≡◌}
use Rattle.clusters.specs.Sets.{whole, single}
use Rattle.trees.specs.Valid.{binary}
use Rattle.lineages.proofs.Told.{binary-told}
use Rattle.counts.proofs.checked.judge_drawn.Goals as goal

pub returns : goal.returns
unfolding single
returns c =
    let args = c.args in
    let power : c.single-entries.result ≡ 2 ^ args.n = c.single-entries.ensures in
    let two : c.binary-binary.result ≡ binary (whole args.n) args.numbers.now = binary-told _ _ _ c.whole.ensures c.binary-binary.ensures in
    let told = c.judge.ensures in
    rw (power, two) at told
