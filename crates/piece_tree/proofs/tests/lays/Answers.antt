use Rattle.piece_tree.proofs.Names.{[], ◌∷◌, arith}
use Rattle.piece_tree.proofs.shapes.Longer.{row-longer}
use Rattle.piece_tree.proofs.tests.lays.Goals as goal

pub lay-requires-clause-room : goal.lay-requires-clause-room
lay-requires-clause-room c = omega (
  arith,
  row-longer c.args.first c.args.last (record { first = c.args.first; last = c.args.last; state = c.args.state } ∷ []) c.args.tree.now
      (omega arith),
  c.len.ensures.len,
)
