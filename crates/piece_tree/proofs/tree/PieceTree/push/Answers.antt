use Rattle.piece_tree.proofs.Names.{[], length, ap, sym, ◌∙◌, arith, ◌++◌, ◌∷◌}
use Rattle.piece_tree.proofs.shapes.Made.{made-view, made-whole, whole_tree}
use Rattle.piece_tree.proofs.shapes.Sorted.{sorted_at}
use Rattle.piece_tree.proofs.shapes.Tall.{whole_view}
use Rattle.piece_tree.proofs.tree.PieceTree.push.Goals as goal

pub add-self-inside-requires : goal.add-self-inside-requires
add-self-inside-requires c =
    let i = c.self.invariant in
    let e = sym (whole_view i.1) ∙ c.self.view_is in
    record {
      tree = (i.0, whole_tree i.1 i.1.here, rw e c.requires.room);
      piece = (sorted_at 0 c.args.self.now c.args.piece [] c.requires.behind).1;
      room = omega (arith, ap length e, c.requires.room, i.1.count, i.1.room);
      keys = i.1.keys;
    }

pub invariant_of-self : goal.invariant_of-self
invariant_of-self c =
    let i = c.self.invariant in
    let e = sym (whole_view i.1) ∙ c.self.view_is in
    let m = c.add-self-inside.ensures i.0 (whole_tree i.1 i.1.here) in
    (m.makes.shape, made-whole i.1 m.makes (rw e c.requires.behind), tt)

pub returns : goal.returns
returns c =
    let i = c.self.invariant in
    let e = sym (whole_view i.1) ∙ c.self.view_is in
    let m = c.add-self-inside.ensures i.0 (whole_tree i.1 i.1.here) in
    made-view i.1 m.makes (rw e c.requires.behind) ∙ ap (λ l. l ++ c.args.piece ∷ []) e
