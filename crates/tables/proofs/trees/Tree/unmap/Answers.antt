use Rattle.std.proofs.Common.{ap, sym}
use Rattle.dmatypes.specs.Page.{levels}
use Rattle.tables.proofs.pools.ByWidth.{ended_leaves, ended_tables, ended_whole, in_root, others_stay}
use Rattle.tables.proofs.trees.Tree.unmap.Goals as goal

pub unmap_extents-requires-clause-one_span : goal.unmap_extents-requires-clause-one_span
unmap_extents-requires-clause-one_span c =
    rw (c.first-from.ensures.value, c.pages.ensures.value)
    (in_root c.args.self.now.width c.args.range 3 (sym (ap levels c.in-W39.is)) c.first-from.ensures.range c.requires.fits).1

pub returns-in-W39-clause-whole : goal.returns-in-W39-clause-whole
returns-in-W39-clause-whole c =
    ended_whole c.args.pool.now c.args.self.now.width c.args.range 3 c.args.self.now.root c.unmap_extents.result.split
    (sym (ap levels c.in-W39.is)) (rw (c.first-from.ensures.value, c.pages.ensures.value) at c.unmap_extents.ensures.split)

pub returns-in-W39-clause-leaves : goal.returns-in-W39-clause-leaves
returns-in-W39-clause-leaves c =
    ended_leaves c.args.pool.now c.unmap_extents.new.pool c.args.self.now.width c.args.range 3
    c.args.self.now.root c.unmap_extents.result.frames
    (sym (ap levels c.in-W39.is)) c.first-from.ensures.range c.requires.fits
    (rw (c.first-from.ensures.value, c.pages.ensures.value) at c.unmap_extents.ensures.unmaps)

pub returns-in-W39-clause-tables : goal.returns-in-W39-clause-tables
returns-in-W39-clause-tables c =
    ended_tables c.args.pool.now c.unmap_extents.new.pool c.args.self.now.width c.args.range 3
    c.args.self.now.root c.unmap_extents.result.frames
    (sym (ap levels c.in-W39.is)) c.first-from.ensures.range c.requires.fits
    (rw (c.first-from.ensures.value, c.pages.ensures.value) at c.unmap_extents.ensures.unmaps)

pub returns-in-W39-clause-others : goal.returns-in-W39-clause-others
returns-in-W39-clause-others c =
    others_stay c.args.pool.now c.unmap_extents.new.pool c.args.self.now.width 3 c.args.self.now.root c.unmap_extents.result.frames
    (sym (ap levels c.in-W39.is)) c.requires.tree c.unmap_extents.ensures.moves

pub unmap_extents-requires-in-W48-clause-one_span : goal.unmap_extents-requires-in-W48-clause-one_span
unmap_extents-requires-in-W48-clause-one_span c =
    rw (c.first-from.ensures.value, c.pages.ensures.value)
    (in_root c.args.self.now.width c.args.range 4 (sym (ap levels c.in-W48.is)) c.first-from.ensures.range c.requires.fits).1

pub returns-in-W48-clause-whole : goal.returns-in-W48-clause-whole
returns-in-W48-clause-whole c =
    ended_whole c.args.pool.now c.args.self.now.width c.args.range 4 c.args.self.now.root c.unmap_extents-in-W48.result.split
    (sym (ap levels c.in-W48.is)) (rw (c.first-from.ensures.value, c.pages.ensures.value) at c.unmap_extents-in-W48.ensures.split)

pub returns-in-W48-clause-leaves : goal.returns-in-W48-clause-leaves
returns-in-W48-clause-leaves c =
    ended_leaves c.args.pool.now c.unmap_extents-in-W48.new.pool c.args.self.now.width c.args.range 4
    c.args.self.now.root c.unmap_extents-in-W48.result.frames
    (sym (ap levels c.in-W48.is)) c.first-from.ensures.range c.requires.fits
    (rw (c.first-from.ensures.value, c.pages.ensures.value) at c.unmap_extents-in-W48.ensures.unmaps)

pub returns-in-W48-clause-tables : goal.returns-in-W48-clause-tables
returns-in-W48-clause-tables c =
    ended_tables c.args.pool.now c.unmap_extents-in-W48.new.pool c.args.self.now.width c.args.range 4
    c.args.self.now.root c.unmap_extents-in-W48.result.frames
    (sym (ap levels c.in-W48.is)) c.first-from.ensures.range c.requires.fits
    (rw (c.first-from.ensures.value, c.pages.ensures.value) at c.unmap_extents-in-W48.ensures.unmaps)

pub returns-in-W48-clause-others : goal.returns-in-W48-clause-others
returns-in-W48-clause-others c =
    others_stay c.args.pool.now c.unmap_extents-in-W48.new.pool c.args.self.now.width 4
    c.args.self.now.root c.unmap_extents-in-W48.result.frames
    (sym (ap levels c.in-W48.is)) c.requires.tree c.unmap_extents-in-W48.ensures.moves
