use Rattle.std.proofs.Common.{not}
use Rattle.std.proofs.lemmas.List.Filters.{FiltersInPlace}
use Rattle.unit.specs.Caches.{CachedLeaf}
use Rattle.unit.specs.Filters.{drops_leaf}
use Rattle.unit.proofs.recent.keep.Given as goal

-- of the leaves that were passed those that aren't dropped stand in front
abbrev pub invariant-loop-place : goal.invariant-loop-place
invariant-loop-place l = FiltersInPlace (λ (x : CachedLeaf). not (drops_leaf l.descriptor x)) l.initial.leaves l.leaves l.kept l.place
