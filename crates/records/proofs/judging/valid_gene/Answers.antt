-- `records::judging::valid_gene` meets its contract: the largest cluster is one of n species, and the record is valid on it.
use native.Mathlib.Omega.{arith}
use lib.Pow.{pow_pos, pow_mono}
use Rattle.clusters.specs.Sets.{whole}
use Rattle.clusters.proofs.Sets.{whole_below}
use Rattle.records.proofs.Deciding.{decides_also}
use Rattle.records.proofs.judging.valid_gene.Goals as goal
use Rattle.records.proofs.judging.valid_gene.Goals.{then-s-lt1-via-then-s-lt1, then-s-lt1-via-else-s-lt1+then-all-s}

pub returns-then-m-breadth : goal.returns-then-m-breadth
returns-then-m-breadth c gene =
    omega (arith, gene.valid.form.counted)

pub returns-then-s-lt1 : goal.returns-then-s-lt1
unfolding whole
returns-then-s-lt1 c gene =
    elim c.then-s-lt1.branch [
      | then-s-lt1-via-then-s-lt1 w ↦ omega (arith, gene.of_roster.0)
      | then-s-lt1-via-else-s-lt1+then-all-s w ↦ omega (arith, gene.of_roster.1, c.whole-all.ensures)
    ]

pub valid-requires : goal.valid-requires
valid-requires c =
    let below = pow_mono {i = c.args.n} {j = c.args.breadth} c.requires.n_le_breadth in
    record {
      r_len = c.requires.r_len;
      le_breadth = c.requires.le_breadth;
      breadth_bound = c.requires.breadth_bound;
      s_bound = omega (arith, c.whole-all.ensures, whole_below c.args.n, below);
    }

pub returns : goal.returns
unfolding whole
returns c =
    decides_also c.valid.result
    (λ valid. record { of_roster = (omega arith, omega (arith, c.whole-all.ensures, pow_pos c.args.n)); valid = valid })
    (λ gene. gene.valid) c.valid.ensures
