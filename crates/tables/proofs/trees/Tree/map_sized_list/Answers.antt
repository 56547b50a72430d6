use Rattle.std.proofs.Common.{ℕ, [], List, ap, sym}
use Rattle.dmatypes.specs.Page.{Range, levels}
use Rattle.dmatypes.specs.Conditions.{total_pages}
use Rattle.dmatypes.specs.Rights.{bits_of}
use Rattle.dmatypes.specs.World.{placed}
use Rattle.dmatypes.specs.declared.call.Segment.{Segment}
use Rattle.tables.proofs.pools.ByWidth.{in_root, mapped_leaves, mapped_tables, others_stay}
use Rattle.tables.proofs.trees.Tree.map_sized_list.Goals as goal

abbrev range_of : ℕ → List Segment → Range
range_of start segments = record { first = start; pages = total_pages segments }

pub map_segments-requires-clause-one_span : goal.map_segments-requires-clause-one_span
map_segments-requires-clause-one_span c =
    rw c.number-first.ensures.value (in_root c.args.self.now.width (range_of c.args.start c.args.segments.now) 3
    (sym (ap levels c.in-W39.is)) c.requires.range c.requires.fits).1

pub returns-in-W39-clause-leaves : goal.returns-in-W39-clause-leaves
returns-in-W39-clause-leaves c =
    mapped_leaves c.args.pool.now c.map_segments.new.pool c.args.self.now.width (range_of c.args.start c.args.segments.now)
    (placed c.args.segments.now c.args.start (bits_of c.args.rights)) 3 c.args.self.now.root c.map_segments.result
    (sym (ap levels c.in-W39.is)) c.requires.range c.requires.fits c.requires.absent
    (rw c.number-first.ensures.value at c.map_segments.ensures.maps) c.map_segments.ensures.unchanged

pub returns-in-W39-clause-tables : goal.returns-in-W39-clause-tables
returns-in-W39-clause-tables c =
    mapped_tables c.args.pool.now c.map_segments.new.pool c.args.self.now.width (range_of c.args.start c.args.segments.now)
    (placed c.args.segments.now c.args.start (bits_of c.args.rights)) 3 c.args.self.now.root c.map_segments.result
    (sym (ap levels c.in-W39.is)) (rw c.number-first.ensures.value at c.map_segments.ensures.maps) c.map_segments.ensures.unchanged

pub returns-in-W39-clause-others : goal.returns-in-W39-clause-others
returns-in-W39-clause-others c =
    others_stay c.args.pool.now c.map_segments.new.pool c.args.self.now.width 3 c.args.self.now.root [] (sym (ap levels c.in-W39.is))
    c.requires.tree c.map_segments.ensures.moves

pub map_segments-requires-in-W48-clause-one_span : goal.map_segments-requires-in-W48-clause-one_span
map_segments-requires-in-W48-clause-one_span c =
    rw c.number-first.ensures.value (in_root c.args.self.now.width (range_of c.args.start c.args.segments.now) 4
    (sym (ap levels c.in-W48.is)) c.requires.range c.requires.fits).1

pub returns-in-W48-clause-leaves : goal.returns-in-W48-clause-leaves
returns-in-W48-clause-leaves c =
    mapped_leaves c.args.pool.now c.map_segments-in-W48.new.pool c.args.self.now.width (range_of c.args.start c.args.segments.now)
    (placed c.args.segments.now c.args.start (bits_of c.args.rights)) 4 c.args.self.now.root c.map_segments-in-W48.result
    (sym (ap levels c.in-W48.is)) c.requires.range c.requires.fits c.requires.absent
    (rw c.number-first.ensures.value at c.map_segments-in-W48.ensures.maps) c.map_segments-in-W48.ensures.unchanged

pub returns-in-W48-clause-tables : goal.returns-in-W48-clause-tables
returns-in-W48-clause-tables c =
    mapped_tables c.args.pool.now c.map_segments-in-W48.new.pool c.args.self.now.width (range_of c.args.start c.args.segments.now)
    (placed c.args.segments.now c.args.start (bits_of c.args.rights)) 4 c.args.self.now.root c.map_segments-in-W48.result
    (sym (ap levels c.in-W48.is)) (rw c.number-first.ensures.value at c.map_segments-in-W48.ensures.maps)
    c.map_segments-in-W48.ensures.unchanged

pub returns-in-W48-clause-others : goal.returns-in-W48-clause-others
returns-in-W48-clause-others c =
    others_stay c.args.pool.now c.map_segments-in-W48.new.pool c.args.self.now.width 4 c.args.self.now.root [] (sym (ap levels c.in-W48.is))
    c.requires.tree c.map_segments-in-W48.ensures.moves
