use Rattle.std.proofs.Common.{◌≡◌, ◌+◌, ◌-◌, ◌*◌, ◌%◌, ◌<◌, ◌≤◌, ◌⊎◌, length, true, false}
use Rattle.dmatypes.specs.declared.page.TheConstants.{SPAN_PAGES}
use Rattle.tables.specs.Pool.{IsPool}
use Rattle.tables.specs.Changes.{TakesAndGivesFrames, KeepsSpellings, UnmapsPages}
use Rattle.tables.specs.Trail.{WritesInOrder}
use Rattle.tables.proofs.sums.OverSpans.{split_so_far}
use Rattle.tables.proofs.unmapping.unmap_extents.Given as goal

abbrev pub invariant-loop-place : goal.invariant-loop-place
invariant-loop-place l = record {
  low : l.from ≤ l.place;
  high : l.place ≤ l.to;
  edge : (l.place % SPAN_PAGES ≡ 0) ⊎ ((l.place ≡ l.from) ⊎ (l.place ≡ l.to));
  moves : TakesAndGivesFrames l.initial.pool l.pool l.level l.root l.cut.frames;
  spelled : KeepsSpellings l.initial.pool l.pool l.level l.root;
  unmaps : UnmapsPages l.initial.pool l.pool l.level l.root l.from l.place l.cut.frames;
  room : SPAN_PAGES * length l.cut.frames ≤ l.place - l.from;
  count : length l.pool.free + split_so_far l.initial.pool l.level l.root l.from l.to l.place ≡ length l.initial.pool.free;
  split : l.cut.split ≡ true → 0 < split_so_far l.initial.pool l.level l.root l.from l.to l.place;
  none : l.cut.split ≡ false → split_so_far l.initial.pool l.level l.root l.from l.to l.place ≡ 0;
  pool : l.from < l.place → IsPool l.pool;
  order : WritesInOrder l.initial.pool l.pool;
}

abbrev pub decreases-loop-place : goal.decreases-loop-place
decreases-loop-place l = l.to - l.place
