use Rattle.std.proofs.Common.{◌≡◌, ◌+◌, ◌-◌, ℕ, List, get_or, take, drop, sym, ap, ◌∙◌, arith}
use Rattle.trees.specs.Records.{listed}
use Rattle.terms.specs.Allowed.{allowed_in}
use Rattle.plain.proofs.Keeping.{cluster_below, all_allowed, one_refused}
use Rattle.plain.proofs.Asked.is_over_allowed.Goals as goal

-- what is gone through are the clusters that the record lists
gone_through : (tree : List ℕ) → take (get_or tree 0 0 + 1 - 1) (drop 1 tree) ≡ listed tree
gone_through tree = let m : get_or tree 0 0 + 1 - 1 ≡ get_or tree 0 0 = omega arith in ap (λ (k : ℕ). take k (drop 1 tree)) m

pub is_allowed-requires-clause-a_in_bounds : goal.is_allowed-requires-clause-a_in_bounds
is_allowed-requires-clause-a_in_bounds c =
    let below = cluster_below c.args.self.now.n c.requires (gone_through c.args.tree.now) c.loop-a.a-index c.loop-a-test.true in
    omega (arith, c.args.self.now.shaped.long)

pub returns-then-not-is_allowed : goal.returns-then-not-is_allowed
returns-then-not-is_allowed c =
    one_refused c.args.self.now.n c.requires (gone_through c.args.tree.now) (allowed_in c.args.self.now.n c.args.self.now.allowed.now) c.loop-a.a-index c.loop-a-test.true
    (sym c.is_allowed.ensures ∙ c.if-not-is_allowed.true)

pub returns : goal.returns
returns c =
    all_allowed c.args.self.now.n c.requires (gone_through c.args.tree.now) (allowed_in c.args.self.now.n c.args.self.now.allowed.now)
    (λ k h. c.loop-a.invariant k (omega arith))
