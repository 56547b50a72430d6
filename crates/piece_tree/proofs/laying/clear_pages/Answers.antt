use Rattle.piece_tree.proofs.Names.{arith}
use Rattle.piece_tree.proofs.shapes.Flanked.{flank-near, flank-near_room, flank-far, flank-far_room, flanked}
use Rattle.piece_tree.proofs.shapes.Replaced.{replace-piece, replace-any, replace-near, replace-far, replace-cleared, replace-some}
use Rattle.piece_tree.proofs.laying.clear_pages.Goals as goal

pub open-opened-requires : goal.open-opened-requires
open-opened-requires c = let q = c.requires in (q.0, q.2.below)

pub keep-near-requires : goal.keep-near-requires
keep-near-requires c = let q = c.requires in (_, replace-near q.2 (c.open-opened.ensures q.0 q.2.below))

pub keep-far-requires : goal.keep-far-requires
keep-far-requires c =
    let q = c.requires in
    let o = c.open-opened.ensures q.0 q.2.below in
    (_, replace-far q.2 o (c.keep-near.ensures _ (replace-near q.2 o)))

pub rest_below-requires : goal.rest_below-requires
rest_below-requires c =
    let q = c.requires in
    let o = c.open-opened.ensures q.0 q.2.below in
    record { piece = replace-piece q.2 o; inside = (replace-any q.2 o).1 }

pub add-before-requires : goal.add-before-requires
add-before-requires c =
    let q = c.requires in
    let o = c.open-opened.ensures q.0 q.2.below in
    let m = c.keep-near.ensures _ (replace-near q.2 o) in
    let w = replace-cleared q.2 o m (c.keep-far.ensures _ (replace-far q.2 o m)) in
    let n = flank-near w q.2.short (replace-some q.2) in
    record {
      tree = (_, n.0, n.1);
      piece = c.rest_below.ensures.piece;
      room = flank-near_room w q.2.short (replace-some q.2) q.2.room _ c.rest_below.ensures.rest;
      keys = omega (arith, q.2.keys, w.halved.capacity);
    }

pub rest_above-requires : goal.rest_above-requires
rest_above-requires c =
    let q = c.requires in
    let o = c.open-opened.ensures q.0 q.2.below in
    record { piece = replace-piece q.2 o; inside = (replace-any q.2 o).0 }

pub add-behind-requires : goal.add-behind-requires
add-behind-requires c =
    let q = c.requires in
    let o = c.open-opened.ensures q.0 q.2.below in
    let m = c.keep-near.ensures _ (replace-near q.2 o) in
    let w = replace-cleared q.2 o m (c.keep-far.ensures _ (replace-far q.2 o m)) in
    let n = flank-near w q.2.short (replace-some q.2) in
    let b = c.rest_below.ensures.rest in
    let f = flank-far w q.2.short (replace-some q.2) b c.add-before.ensures in
    record {
      tree = (_, f.0, f.1);
      piece = c.rest_above.ensures.piece;
      room = flank-far_room w q.2.short (replace-some q.2) b c.add-before.ensures q.2.room _ c.rest_above.ensures.rest;
      keys = omega (arith, q.2.keys, w.halved.capacity, (c.add-before.ensures w.n n.0).makes.capacity);
    }

pub returns : goal.returns
returns c t row can =
    let o = c.open-opened.ensures t can.below in
    let m = c.keep-near.ensures _ (replace-near can o) in
    let w = replace-cleared can o m (c.keep-far.ensures _ (replace-far can o m)) in
    flanked w can.short (replace-some can) c.rest_below.ensures.rest c.add-before.ensures c.rest_above.ensures.rest c.add-behind.ensures
