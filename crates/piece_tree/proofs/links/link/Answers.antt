use Rattle.piece_tree.proofs.Names.{◌<◌, Bool, true, false, sym, subst, arith, get, with_value, Top, Piece, IsPiece, Links, joint_at}
use Rattle.slab.proofs.SlabLemmas.{Updates-with_value}
use Rattle.piece_tree.proofs.shapes.Forks.{linked}
use Rattle.piece_tree.proofs.shapes.Turned.{shown_heights}
use Rattle.piece_tree.proofs.links.link.Goals as goal

-- the parts of the node are these
joint_parts : (b : Bool) (p : Piece) (near far : Top) → IsPiece p → near.height < 1000 → far.height < 1000
    → let node = joint_at b p near far in IsPiece node.piece × (node.left.height < 1000) × (node.right.height < 1000)
joint_parts true p near far i x y = (i, x, y)
joint_parts false p near far i x y = (i, y, x)

pub tree-requires : goal.tree-requires
tree-requires c =
    let q = c.requires.parts in
    let h = shown_heights q.2 in
    let n = rw (← c.joint_at-node.ensures) at (joint_parts c.args.before c.args.piece c.args.near c.args.far c.requires.piece
    (omega (arith, q.2.low)) (omega (arith, q.2.low))) in
    record { piece = n.0; left = n.1; right = n.2 }

pub returns-clause-links : goal.returns-clause-links
returns-clause-links c n f parts near =
    let nodes = c.args.nodes.now in
    subst (λ top. Links (get nodes) (get (with_value nodes c.args.key c.joint_at-node.result)) c.args.before top c.args.key
    c.args.piece n f)
    (sym c.tree.ensures)
    (linked parts c.requires.piece near c.joint_at-node.ensures
    (Updates-with_value nodes c.args.key c.joint_at-node.result parts.here))
