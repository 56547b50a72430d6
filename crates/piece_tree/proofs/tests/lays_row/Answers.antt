use Rattle.piece_tree.proofs.Names.{sym, ◌∙◌, arith}
use Rattle.piece_tree.proofs.shapes.Longer.{row-longer}
use Rattle.piece_tree.proofs.tests.lays_row.Goals as goal

pub lay_row-requires : goal.lay_row-requires
lay_row-requires c =
    let few = row-longer c.args.first c.args.last c.args.row.now c.args.tree.now c.if-first-last.false in
    record {
      inside = (
        c.args.first,
        c.args.last,
        c.in-Some.there,
        c.if-first-last.false,
        c.requires.row,
        sym c.piece_at.ensures.piece ∙ c.in-Some.is,
        c.if-last-there.true,
        omega (arith, few, c.len.ensures.len, c.if-len.false, c.if-row.false),
      );
    }
