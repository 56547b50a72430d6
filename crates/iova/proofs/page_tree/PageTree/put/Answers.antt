use Rattle.iova.proofs.Names.{AreLive, subst, sym, arith, with_piece, NoneFreeBelow, Space, IsSpace, stored}
use Rattle.iova.proofs.Partition.{put_lies}
use Rattle.iova.proofs.Known.{live_none}
use Rattle.iova.proofs.parts.Shows.{shows}
use Rattle.iova.proofs.page_tree.PageTree.put.Goals as goal

pub lay-requires : goal.lay-requires
lay-requires c =
    let t = shows c.put_freed.ensures.pieces c.self.view_is (c.put_freed.ensures.space c.self.inside.last c.self.invariant.0) in
    let new = subst (λ (v : Space). IsSpace (record v { pieces = with_piece c.args.piece v.pieces })) (sym t.is) c.requires.space in
    let lies = put_lies (stored c.self.inside.last c.put_freed.new.tree) t.space c.args.piece new c.requires.some in
    record {
      first = lies c.args.piece.first (omega arith) c.requires.some;
      last = lies c.args.piece.last c.requires.some (omega arith);
      some = c.requires.some;
      room = new.few;
    }

pub invariant_of-self : goal.invariant_of-self
invariant_of-self c =
    let t = shows c.put_freed.ensures.pieces c.self.view_is (c.put_freed.ensures.space c.self.inside.last c.self.invariant.0) in
    subst (λ ps. IsSpace (stored c.self.inside.last ps) × NoneFreeBelow c.low_behind-self-inside.result ps × AreLive c.put_freed.new.freed ps × Unit {0})
    (sym c.lay.ensures) (
      subst (λ (v : Space). IsSpace (record v { pieces = with_piece c.args.piece v.pieces })) (sym t.is) c.requires.space,
      c.low_behind-self-inside.ensures.low c.put_freed.new.tree t.space.ordered c.put_freed.ensures.low,
      live_none c.put_freed.ensures.none _,
      tt,
    )
