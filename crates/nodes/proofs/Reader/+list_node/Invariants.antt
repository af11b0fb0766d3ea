-- The text that is left falls with each call; a list counts one more than the node that it begins with.
use Rattle.std.proofs.Common.{◌+◌, ◌-◌, ◌*◌, length}
use Rattle.nodes.proofs.Reader.+list_node.Given as goal

abbrev pub decreases-list : goal.decreases-list
decreases-list l = 2 * (length l.self.now.text.now - l.c.at) + 1

abbrev pub decreases-node : goal.decreases-node
decreases-node l = 2 * (length l.self.now.text.now - l.c.at)
