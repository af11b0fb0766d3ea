-- `plain::answer` meets its contract: a tree was found, or none.
use Rattle.plain.proofs.Keeping.{found-told, none_told}
use Rattle.plain.proofs.answer.Goals as goal

pub tree_of-tree-requires : goal.tree_of-tree-requires
tree_of-tree-requires c =
    rw c.whole.ensures (rw c.in-Some.is at c.requires.numbered)

pub returns-in-Some : goal.returns-in-Some
returns-in-Some c rooting genes t kept =
    found-told rooting c.args.n genes t c.in-Some.field-0 (rw c.in-Some.is at kept) (rw c.whole.ensures at c.tree_of-tree.ensures)

pub returns-in-None : goal.returns-in-None
returns-in-None c rooting genes t kept =
    rw c.at.ensures (none_told rooting c.args.n genes t (rw c.in-None.is at kept))
