use Rattle.piece_tree.proofs.Names.{[], ◌∷◌, sym, subst, ◌∙◌, arith, Makes, IsPiece}
use Rattle.piece_tree.proofs.shapes.Flanked.{row-flanked, row-room}
use Rattle.piece_tree.proofs.shapes.Halved.{halved-join, middle-parts}
use Rattle.piece_tree.proofs.shapes.Replaced.{replace-all, replace-one, replace-ends}
use Rattle.piece_tree.proofs.shapes.Sorted.{all_left, all_right}
use Rattle.piece_tree.proofs.laying.replace.Goals as goal

-- ---- one piece

pub clear_pages-flanks-requires : goal.clear_pages-flanks-requires
clear_pages-flanks-requires c =
    let q = c.requires in
    (_, _, (replace-one q.3 (c.in-Some.ensures).cases.0 (c.in_default-split_last.ensures).cases).0)

pub graft-requires : goal.graft-requires
graft-requires c =
    let q = c.requires in
    let r = replace-one q.3 (c.in-Some.ensures).cases.0 (c.in_default-split_last.ensures).cases in
    record { parts = (_, _, (c.clear_pages-flanks.ensures _ _ r.0).halved.parts); piece = (replace-all r.0).0 }

pub returns-in_default-split_last : goal.returns-in_default-split_last
returns-in_default-split_last c t from end can =
    let r = replace-one can (c.in-Some.ensures).cases.0 (c.in_default-split_last.ensures).cases in
    let w = c.clear_pages-flanks.ensures _ _ r.0 in
    subst (λ l. Makes c.args.nodes.now c.graft.new.nodes c.graft.result t l) r.1
    (halved-join w.halved (c.graft.ensures.joins _ _ w.halved.parts) c.graft.ensures.count (sym w.view) r.0.short)

-- ---- more

pub clear_pages-flanks-requires-2 : goal.clear_pages-flanks-requires-2
clear_pages-flanks-requires-2 c =
    let q = c.requires in
    let s = c.in-Some-split_last in
    (_, _, (replace-ends q.3 s.others.now s.last.now (c.in-Some.ensures).cases.0 (s.ensures).cases.0).0)

pub build-middle-requires : goal.build-middle-requires
build-middle-requires c =
    let q = c.requires in
    let s = c.in-Some-split_last in
    let r = replace-ends q.3 s.others.now s.last.now (c.in-Some.ensures).cases.0 (s.ensures).cases.0 in
    let w = c.clear_pages-flanks-2.ensures _ _ r.0 in
    let room = row-room s.others.now s.last.now w r.0.short r.0.room in
    record {
      pieces = all_left IsPiece s.others.now (s.last.now ∷ []) (replace-all r.0).1;
      few = room.0;
      room = omega (arith, room.1);
      keys = omega (arith, r.0.keys, w.halved.capacity);
    }

pub graft-near-requires : goal.graft-near-requires
graft-near-requires c =
    let q = c.requires in
    let s = c.in-Some-split_last in
    let r = replace-ends q.3 s.others.now s.last.now (c.in-Some.ensures).cases.0 (s.ensures).cases.0 in
    let w = c.clear_pages-flanks-2.ensures _ _ r.0 in
    record { parts = (_, _, middle-parts w.halved c.build-middle.ensures.makes); piece = (replace-all r.0).0 }

pub leaf-end-requires : goal.leaf-end-requires
leaf-end-requires c =
    let q = c.requires in
    let s = c.in-Some-split_last in
    let r = replace-ends q.3 s.others.now s.last.now (c.in-Some.ensures).cases.0 (s.ensures).cases.0 in
    let w = c.clear_pages-flanks-2.ensures _ _ r.0 in
    let room = row-room s.others.now s.last.now w r.0.short r.0.room in
    let m = c.build-middle.ensures.makes in
    let count = c.graft-near.ensures.count in
    record {
      piece = (all_right IsPiece s.others.now (s.last.now ∷ []) (replace-all r.0).1).0;
      room = omega (arith, room.1, m.len, m.capacity, count.len, count.capacity);
      keys = omega (arith, r.0.keys, w.halved.capacity, m.capacity, count.capacity);
    }

pub graft-requires-2 : goal.graft-requires-2
graft-requires-2 c =
    let q = c.requires in
    let s = c.in-Some-split_last in
    let r = replace-ends q.3 s.others.now s.last.now (c.in-Some.ensures).cases.0 (s.ensures).cases.0 in
    let b = row-flanked _ (c.clear_pages-flanks-2.ensures _ _ r.0) r.0.short c.build-middle.ensures.makes c.graft-near.ensures.joins
    c.graft-near.ensures.count c.leaf-end.ensures.makes (sym c.root.ensures ∙ c.in-Some-root.is) in
    record {
      parts = (_, _, b.halved.parts);
      piece = (all_right IsPiece s.others.now (s.last.now ∷ []) (replace-all r.0).1).0;
    }

pub returns : goal.returns
returns c t from end can =
    let s = c.in-Some-split_last in
    let r = replace-ends can s.others.now s.last.now (c.in-Some.ensures).cases.0 (s.ensures).cases.0 in
    let b = row-flanked _ (c.clear_pages-flanks-2.ensures _ _ r.0) r.0.short c.build-middle.ensures.makes c.graft-near.ensures.joins
    c.graft-near.ensures.count c.leaf-end.ensures.makes (sym c.root.ensures ∙ c.in-Some-root.is) in
    subst (λ l. Makes c.args.nodes.now c.graft-2.new.nodes c.graft-2.result t l) r.1
    (halved-join b.halved (c.graft-2.ensures.joins _ _ b.halved.parts) c.graft-2.ensures.count (sym b.view) r.0.short)
