-- A tree on a side of a node, lent to be written.
use Rattle.std.specs.Prelude.{Bool}
use Rattle.std.specs.Borrow.{Lends, MutBor, Fml}
use Rattle.piece_tree.specs.declared.node.Node.{Node}
use Rattle.piece_tree.specs.Top.{Top}
use Rattle.piece_tree.specs.contracts.node.Node as nodes
use Rattle.piece_tree.specs.contracts.top.Top as tops
use Rattle.piece_tree.specs.Tree.{with_child}

-- the node ends with the last value behind the result on that side
abbrev pub LendsChild : (before : Bool) → MutBor Node → MutBor Top → Fml
LendsChild before s r = Lends nodes.the_row tops.the_row s r (with_child before s.now)
