use Rattle.std.proofs.Common.{◌≡◌, ◌+◌, ◌-◌, ◌*◌, ◌/◌, ◌%◌, ◌<◌, ◌≤◌, false, [], length}
use Rattle.dmatypes.specs.declared.page.TheConstants.{SPAN_PAGES}
use Rattle.dmatypes.specs.Conditions.{total_pages}
use Rattle.dmatypes.specs.Rights.{bits_of}
use Rattle.dmatypes.specs.World.{placed}
use Rattle.tables.specs.Pool.{memory, IsPool}
use Rattle.tables.specs.Changes.{TakesAndGivesFrames, KeepsSpellings, MapsPages, MakesTables}
use Rattle.tables.specs.Segments.{ArePassed, is_large_at}
use Rattle.tables.specs.Spelled.{AreSpelled}
use Rattle.tables.specs.Trail.{FillsInOrder}
use Rattle.tables.specs.Lacks.{tables_lacking, frames_to_map}
use Rattle.tables.proofs.mapping.map_extents.Given as goal

abbrev pub invariant-loop-extent : goal.invariant-loop-extent
invariant-loop-extent l = record {
  low : l.first ≤ l.place;
  high : l.place ≤ l.first + total_pages l.segments;
  moves : TakesAndGivesFrames l.initial.pool l.pool l.level l.root [];
  spelled : KeepsSpellings l.initial.pool l.pool l.level l.root;
  order : AreSpelled l.initial.pool.words l.level l.root → FillsInOrder l.initial.pool l.pool;
  maps : MapsPages l.initial.pool l.pool l.level l.root l.first l.place (placed l.segments l.first (bits_of l.rights));
  count : length l.pool.free + frames_to_map l.initial.pool l.level l.root l.segments l.first
      ≡ length l.initial.pool.free
      + tables_lacking (memory l.pool.words) l.level l.root (is_large_at l.segments l.first) l.place (l.first + total_pages l.segments);
  inner : 0 < l.place % SPAN_PAGES → is_large_at l.segments l.first (SPAN_PAGES * (l.place / SPAN_PAGES)) ≡ false;
  ended : l.place ≡ l.first + total_pages l.segments
      → tables_lacking (memory l.pool.words) l.level l.root (is_large_at l.segments l.first) l.place l.place ≡ 0;
  pool : l.first < l.place → IsPool l.pool;
  passed : ArePassed l.segments l.first l.place l.passed;
  makes : MakesTables l.initial.pool l.pool l.level l.root l.first l.place (is_large_at l.segments l.first);
}

abbrev pub decreases-loop-extent : goal.decreases-loop-extent
decreases-loop-extent l = l.first + total_pages l.segments - l.place
