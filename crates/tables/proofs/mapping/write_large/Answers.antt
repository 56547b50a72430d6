use Rattle.std.proofs.Common.{[], ℕ, ◌≡◌, ◌+◌, ◌<◌, ap, ◌∙◌, subst, arith, refl}
use Rattle.dmatypes.specs.declared.page.TheConstants.{SPAN_PAGES}
use Rattle.tables.specs.declared.entries.TheConstants.{TABLE_ENTRIES}
use Rattle.vtdbits.specs.Entry.{look}
use Rattle.vtdbits.specs.Translation.{target}
use Rattle.vtdbits.specs.declared.entry.SsEntry.TheVariants.{LargeLeaf}
use Rattle.dmatypes.specs.Rights.{bits_of}
use Rattle.tables.specs.Changes.{TakesAndGivesFrames, KeepsSpellings, MapsPages}
use Rattle.tables.specs.Extents.{extent_states}
use Rattle.tables.specs.Tree.{table_from}
use Rattle.tables.specs.Pool.{memory, occurs}
use Rattle.tables.proofs.maps.Large.{large_maps}
use Rattle.tables.proofs.maps.LargeExtents.{large_from}
use Rattle.tables.proofs.spelled.Stays.{absent_blank}
use Rattle.tables.proofs.trails.Fills.{fills_word}
use Rattle.tables.proofs.unmaps.UnderEntry.{root_in, root_taken}
use Rattle.tables.proofs.walks.Words.{memory_at}
use Rattle.tables.proofs.walks.Onward.{index_lt}
use Rattle.tables.proofs.mapping.write_large.Goals as goal
use Rattle.tables.proofs.mapping.write_large.Goals.{After-write}

pub write-requires-clause-frame : goal.write-requires-clause-frame
write-requires-clause-frame c = root_in c.args.pool.now 1 c.args.table c.requires.tree

pub write-requires-clause-taken : goal.write-requires-clause-taken
write-requires-clause-taken c = root_taken c.args.pool.now 1 c.args.table c.requires.tree

pub returns-clause-order : goal.returns-clause-order
returns-clause-order c s =
    let inside : c.args.index < TABLE_ENTRIES = omega (arith, index_lt 1 c.args.extent.now.from, c.requires.index) in
    fills_word c.args.pool.now c.write.new.self c.args.table c.args.index c.encode.result c.write.ensures.trail
    (λ f. omega (arith, ap (occurs f) c.write.ensures.free)) c.write.ensures.wrote
    (absent_blank c.args.pool.now.words 2 1 c.args.table c.args.index refl s inside c.requires.absent)

-- what the one word that was written changed
written : (c : After-write)
    → TakesAndGivesFrames c.args.pool.now c.write.new.self 2 c.args.table []
    × MapsPages c.args.pool.now c.write.new.self 2 c.args.table c.args.extent.now.from c.args.extent.now.to
    (extent_states c.args.extent.now) × ((p w : ℕ)
    → table_from (memory c.write.new.self.words) 2 c.args.table p w ≡ table_from (memory c.args.pool.now.words) 2 c.args.table p w)
    × KeepsSpellings c.args.pool.now c.write.new.self 2 c.args.table
written c =
    let whole = large_from c.args.extent.now c.requires.large in
    let named : c.unwrap-frame.result ≡ c.args.extent.now.frame = (rw c.unwrap-frame.ensures at c.new.ensures.value) in
    let leaf : c.new-leaf.result ≡ target c.args.extent.now.frame (bits_of c.args.extent.now.rights) =
    c.new-leaf.ensures ∙ ap (λ f. target f (bits_of c.args.extent.now.rights)) named in
    let names : memory c.write.new.self.words 2 c.args.table c.args.index
    ≡ LargeLeaf (target c.args.extent.now.frame (bits_of c.args.extent.now.rights)) =
    memory_at c.write.new.self.words 2 c.args.table c.args.index ∙ ap (look 2) c.write.ensures.wrote.0 ∙ c.encode.ensures.looked 2 refl
    ∙ ap LargeLeaf leaf in
    let inside : c.args.index < TABLE_ENTRIES = omega (arith, index_lt 1 c.args.extent.now.from, c.requires.index) in
    let all =
    large_maps c.args.pool.now c.write.new.self c.args.table c.args.index c.args.extent.now.from c.args.extent.now.frame
    (bits_of c.args.extent.now.rights) c.encode.result c.requires.tree inside c.requires.index whole.0 c.write.ensures.wrote
    c.write.ensures.free c.write.ensures.frames c.requires.absent names in
    let end : c.args.extent.now.from + SPAN_PAGES ≡ c.args.extent.now.to = omega (arith, whole.1, c.args.extent.now.some) in (
      all.0,
      subst (λ to. MapsPages c.args.pool.now c.write.new.self 2 c.args.table c.args.extent.now.from to (extent_states c.args.extent.now))
          end all.1,
      all.2,
      all.3,
    )

pub returns-clause-moves : goal.returns-clause-moves
returns-clause-moves c = (written (goal.at.returns-clause-moves c).After-write).0

pub returns-clause-maps : goal.returns-clause-maps
returns-clause-maps c = (written (goal.at.returns-clause-maps c).After-write).1

pub returns-clause-tables : goal.returns-clause-tables
returns-clause-tables c = (written (goal.at.returns-clause-tables c).After-write).2

pub returns-clause-spelled : goal.returns-clause-spelled
returns-clause-spelled c = (written (goal.at.returns-clause-spelled c).After-write).3
