use Rattle.std.proofs.Common.{◌≡◌, ◌*◌, ◌+◌, ◌<◌, ◌≤◌, ◌^◌, All, length, ℕ}
use Rattle.iova.specs.Pieces.{IsOrdered}
use Rattle.engine.specs.Totals.{live_pages}
use Rattle.engine.proofs.domain.readers.live_pages.Given as goal

abbrev pub invariant-loop-piece : goal.invariant-loop-piece
invariant-loop-piece l = record {
  next : (goal.iterator-loop-piece).can_next l.piece-iterator;
  finite : (goal.iterator-loop-piece).is_finite l.piece-iterator;
  so_far : l.live + live_pages l.piece-iterator ≡ live_pages l.fn.pieces;
  from : ℕ;
  ordered : IsOrdered from l.piece-iterator;
  narrow : All (λ p. p.last < 2 ^ 40) l.piece-iterator;
  few : l.live + 2 ^ 41 * length l.piece-iterator ≤ 2 ^ 51;
}
