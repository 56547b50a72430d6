use Rattle.iova.proofs.Names.{◌≡◌, ℕ, ◌-◌, ◌<◌, ◌≤◌, Some, Live, state_at}
use Rattle.iova.proofs.space.Space.not_live.Given as goal

-- all pages up to the next one are live
abbrev pub invariant-loop-next : goal.invariant-loop-next
invariant-loop-next l = record {
  from : l.first ≤ l.next;
  live : (page : ℕ) → l.first ≤ page → page < l.next → state_at l.self.pieces page ≡ Some Live;
}

abbrev pub decreases-loop-next : goal.decreases-loop-next
decreases-loop-next l = l.«end» - l.next
