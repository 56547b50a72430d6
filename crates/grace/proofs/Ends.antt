-- What a port is answered by pages whose unmap, or whose release, it has seen.
use Rattle.std.proofs.Common.{◌≡◌, inl, inr, ℕ, ◌≤◌, List, [], ◌∷◌, ◌++◌, length, Some, sym, subst, ◌∙◌, arith}
use Rattle.std.proofs.lemmas.List.{append-nil, append_assoc, length-append}
use Rattle.dmatypes.specs.declared.call.Access.{Access}
use Rattle.dmatypes.specs.declared.reply.Event.{Event}
use Rattle.dmatypes.specs.History.{IsLegal, after}
use Rattle.laws.specs.Events.{Begins, IsAttached, IsReleased, Reaps, ReleasesAll}
use Rattle.laws.proofs.lists.Courses.{occurs_left, turn_still}
use Rattle.laws.proofs.reach.Reached.{IsReached, reached_allowed}
use Rattle.laws.proofs.reach.Released.{release_ends_reach}
use Rattle.laws.proofs.reach.Strict.{strict_ends_reach}
use Rattle.ports.specs.Hits.{IsHit}
use Rattle.ports.specs.Seen.{Port}
use Rattle.grace.specs.Grace.{CountsAreSeen, HitsAreSeen, ReleasesEndHits, StrictUnmapsEndHits}
use Rattle.grace.proofs.Fronts.{longer, no_shorter}

pub counts_seen : CountsAreSeen
counts_seen frames count number port resting later rests few begins =
    omega (arith, rests.count_is, few, no_shorter resting.seen later.seen begins)

pub hits_seen : HitsAreSeen
hits_seen frames address count number access host port port' hit (inl had) =
    omega (arith, had, no_shorter port.seen hit.counted hit.begins, no_shorter hit.counted port'.seen hit.front)
hits_seen frames address count number access host port port' hit (inr few) =
    omega (arith, few, hit.count_is, no_shorter hit.counted port'.seen hit.front)

-- a history that was seen, with nothing after it
module _ (frames address host count : ℕ) (access : Access) (port port' : Port)
    (hit : IsHit frames port port' address access (Some host) count) (seen : List Event) (is : port'.seen ≡ seen) where
  pub legal : IsLegal frames (seen ++ [])
  legal = subst (λ h. IsLegal frames h) (is ∙ sym (append-nil seen)) hit.legal

  pub reaches : IsReached (after frames seen) port.device address access host
  reaches =
      subst (λ h. IsReached (after frames h) port.device address access host) is
      (reached_allowed (after frames port'.seen) port.device address access host hit.allowed)

pub strict_ends_hits : StrictUnmapsEndHits
strict_ends_hits frames address host count domain access port port' history before rest unmap hit front is number strict unmaps attached =
    let one : length (before ++ unmap ∷ []) ≤ length port'.seen = omega (arith, length-append before (unmap ∷ []), number) in
    let parted = longer (before ++ unmap ∷ []) rest port'.seen front.0 (front.1 ∙ is ∙ sym (append_assoc before (unmap ∷ []) rest)) one in
    let seen : port'.seen ≡ before ++ unmap ∷ parted.0 = parted.1 ∙ append_assoc before (unmap ∷ []) parted.0 in (
      parted.0,
      (
        seen,
        strict_ends_reach frames before parted.0 [] unmap domain port.device address access host
            (legal frames address host count access port port' hit (before ++ unmap ∷ parted.0) seen)
            (reaches frames address host count access port port' hit (before ++ unmap ∷ parted.0) seen) strict unmaps
            (subst (λ h. IsAttached port.device domain h) seen attached),
      ),
    )

-- what released the pages did so whatever follows
released_still : (domain : ℕ) (until more : List Event) → IsReleased domain until → IsReleased domain (until ++ more)
released_still domain until more (inl all) = inl (occurs_left (ReleasesAll domain) until more all)
released_still domain until more (inr (number, turn)) =
    inr (number, turn_still (Begins domain number) (Reaps domain number) until more turn)

pub releases_end : ReleasesEndHits
releases_end frames address host count domain access port port' history before until rest unmap hit front is number lazy unmaps released
    attached =
    let parted = longer (before ++ unmap ∷ until) rest port'.seen front.0 (front.1 ∙ is) number in
    let seen : port'.seen ≡ before ++ unmap ∷ (until ++ parted.0) = parted.1 ∙ append_assoc before (unmap ∷ until) parted.0 in (
      parted.0,
      (
        parted.1,
        release_ends_reach frames before (until ++ parted.0) [] unmap domain port.device address access host
            (legal frames address host count access port port' hit (before ++ unmap ∷ (until ++ parted.0)) seen)
            (reaches frames address host count access port port' hit (before ++ unmap ∷ (until ++ parted.0)) seen) lazy unmaps
            (released_still domain until parted.0 released)
            (subst (λ h. IsAttached port.device domain h) seen attached),
      ),
    )
