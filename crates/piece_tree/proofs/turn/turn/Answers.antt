use Rattle.piece_tree.proofs.Names.{sym, ◌∙◌, arith}
use Rattle.piece_tree.proofs.shapes.Turned.{near_below, opened_heights, turn-middle_piece, turn-inner, once-first, once-second}
use Rattle.piece_tree.proofs.shapes.Turned.{once-done, twice-first, twice-second, twice-third, twice-done}
use Rattle.piece_tree.proofs.turn.turn.Goals as goal

pub link-below-requires-clause-parts : goal.link-below-requires-clause-parts
link-below-requires-clause-parts c =
    let q = c.requires.parts in
    let o = c.open-outer.ensures q.0 (near_below q.2 (sym c.root.ensures ∙ c.in-Some.is)) in
    let h = opened_heights o in
    let f = once-first q.2 q.3 o (omega arith) in
    (_, _, f.0, f.1)

pub link-requires-clause-parts : goal.link-requires-clause-parts
link-requires-clause-parts c =
    let q = c.requires.parts in
    let o = c.open-outer.ensures q.0 (near_below q.2 (sym c.root.ensures ∙ c.in-Some.is)) in
    let h = opened_heights o in
    let f = once-first q.2 q.3 o (omega arith) in
    let s = once-second q.2 q.3 o (omega arith) (c.link-below.ensures.links _ _ f.0 f.1) in
    (_, _, s.0, s.1)

pub returns-then-height-clause-joins : goal.returns-then-height-clause-joins
returns-then-height-clause-joins c n f parts high =
    let o = c.open-outer.ensures n (near_below parts (sym c.root.ensures ∙ c.in-Some.is)) in
    let h = opened_heights o in
    let k = once-first parts high o (omega arith) in
    let u = c.link-below.ensures.links _ _ k.0 k.1 in
    let s = once-second parts high o (omega arith) u in
    once-done parts high o (omega arith) u (c.link.ensures.links _ _ s.0 s.1)

pub link-first-requires-clause-parts : goal.link-first-requires-clause-parts
link-first-requires-clause-parts c =
    let q = c.requires.parts in
    let o = c.open-outer.ensures q.0 (near_below q.2 (sym c.root.ensures ∙ c.in-Some.is)) in
    let h = opened_heights o in
    let i = c.open-inner.ensures o.far (turn-inner q.2 q.3 o (sym c.root-2.ensures ∙ c.in-Some-root.is)) in
    let s = twice-first q.2 q.3 o (omega arith) i in
    (_, _, s.0, s.1)

pub link-last-requires-clause-parts : goal.link-last-requires-clause-parts
link-last-requires-clause-parts c =
    let q = c.requires.parts in
    let o = c.open-outer.ensures q.0 (near_below q.2 (sym c.root.ensures ∙ c.in-Some.is)) in
    let h = opened_heights o in
    let i = c.open-inner.ensures o.far (turn-inner q.2 q.3 o (sym c.root-2.ensures ∙ c.in-Some-root.is)) in
    let s = twice-first q.2 q.3 o (omega arith) i in
    let v = twice-second q.2 q.3 o (omega arith) i (c.link-first.ensures.links _ _ s.0 s.1) in
    (_, _, v.0, v.1)

pub link-requires-2 : goal.link-requires-2
link-requires-2 c =
    let q = c.requires.parts in
    let o = c.open-outer.ensures q.0 (near_below q.2 (sym c.root.ensures ∙ c.in-Some.is)) in
    let h = opened_heights o in
    let i = c.open-inner.ensures o.far (turn-inner q.2 q.3 o (sym c.root-2.ensures ∙ c.in-Some-root.is)) in
    let s = twice-first q.2 q.3 o (omega arith) i in
    let u = c.link-first.ensures.links _ _ s.0 s.1 in
    let v = twice-second q.2 q.3 o (omega arith) i u in
    let w = twice-third q.2 q.3 o (omega arith) i u (c.link-last.ensures.links _ _ v.0 v.1) in
    record { parts = (_, _, w.0, w.1); piece = turn-middle_piece q.2 q.3 o (omega arith) i }

pub returns-clause-joins : goal.returns-clause-joins
returns-clause-joins c n f parts high =
    let o = c.open-outer.ensures n (near_below parts (sym c.root.ensures ∙ c.in-Some.is)) in
    let h = opened_heights o in
    let i = c.open-inner.ensures o.far (turn-inner parts high o (sym c.root-2.ensures ∙ c.in-Some-root.is)) in
    let s = twice-first parts high o (omega arith) i in
    let u = c.link-first.ensures.links _ _ s.0 s.1 in
    let v = twice-second parts high o (omega arith) i u in
    let l = c.link-last.ensures.links _ _ v.0 v.1 in
    let w = twice-third parts high o (omega arith) i u l in
    twice-done parts high o (omega arith) i u l (c.link-2.ensures.links _ _ w.0 w.1)
