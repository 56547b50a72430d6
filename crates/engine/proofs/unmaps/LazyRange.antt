-- A lazy unmap: once there is room for its record, its range may still end.
use Rattle.std.proofs.Common.{ℕ, inl, inr, [], Ok, subst, sym, ◌≤◌, length}
use Rattle.dmatypes.specs.Page.{Range}
use Rattle.engine.specs.Domains.{Domain, Operands}
use Rattle.engine.specs.Ending.{IsJudgedEnd, MakesRoom, leaves_split}
use Rattle.engine.specs.Ready.{CanCut, CanUnmap}
use Rattle.engine.proofs.flushes.MayRelease.{split_room}

-- a range that may end before may end then
pub still_ends : (old new : Operands) (id released : ℕ) (range : Range) → CanUnmap old.pool old.domain
    → IsJudgedEnd old.pool old.domain range (Ok tt) → MakesRoom old id released new
    → CanCut new.pool new.domain × IsJudgedEnd new.pool new.domain range (Ok tt)
still_ends old new id released range can may (inl has) = rw has.same (can.cut, may)
still_ends old new id released range can may (inr empties) =
    let all = empties.flushes.releases in
    let emptied : Domain = record old.domain { space = new.domain.space; records = [] } in
    let room : leaves_split new.pool old.domain.width old.domain.root range ≤ length new.pool.free =
    split_room old.pool new.pool old.domain.space new.domain.space old.domain.records old.domain.width old.domain.root range all may.1 in
    subst (λ (d : Domain). CanCut new.pool d × IsJudgedEnd new.pool d range (Ok tt)) (sym empties.flushes.same)
    (can.emptied new.pool new.domain.space all, (all.retirable range may.0, room))
