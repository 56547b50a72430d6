-- A state whose calls aren't used up is ready to send.
use Rattle.std.proofs.Common.{◌≡◌, ℕ, ◌+◌, ◌*◌, ◌<◌, ◌≤◌, List, [], ◌∷◌, ◌++◌, ap, arith, length, subst, sym}
use Rattle.std.proofs.lemmas.List.{length-append}
use Rattle.dmatypes.specs.declared.limits.TheConstants.{CALLS_END, MOST_TICKETS}
use Rattle.vtdbits.specs.declared.context.ContextEntry.{ContextEntry}
use Rattle.engine.specs.declared.ticket.Ticket.{Ticket}
use Rattle.engine.specs.Ending.{status_of}
use Rattle.engine.specs.Ready.{IsReady, NoneWrites}
use Rattle.engine.specs.State.{State}
use Rattle.engine.specs.Tickets.{Follow, KeepsTickets, pairs_of, waits_of}
use Rattle.engine.specs.Whole.{IsWhole}
use Rattle.engine.proofs.tickets.Stay.{follow_length}

-- ---- how much waits

waits_length : (ts : List Ticket) → length (waits_of ts) ≡ length ts
waits_length [] = omega arith
waits_length (t ∷ ts) = let k = waits_length ts in omega (arith, k)

pairs_length : (ts : List Ticket) → length (pairs_of ts) ≡ 2 * length ts
unfolding pairs_of
pairs_length [] = omega arith
pairs_length (t ∷ ts) = let k = pairs_length ts in omega (arith, k)

pub waiting_few : (m : State) → KeepsTickets m → length m.iommu.ring.waiting ≤ 2 * length m.tickets
waiting_few m k =
    let ring = ap length k.ring in
    let split = ap length k.split in
    omega (
      arith,
      ring,
      length-append (waits_of k.half) (pairs_of k.ahead),
      waits_length k.half,
      pairs_length k.ahead,
      split,
      length-append k.done (k.half ++ k.ahead),
      length-append k.half k.ahead,
    )

-- ---- what it writes

-- fewer than 2^32 waits are outstanding, so none writes the status of the next one
no_pair_writes : (first next : ℕ) (ts : List Ticket) → Follow first ts next → length ts ≤ MOST_TICKETS
    → NoneWrites (status_of (next + 1)) (pairs_of ts)
unfolding NoneWrites Follow pairs_of
no_pair_writes first next [] is few = tt
no_pair_writes first next (t ∷ ts) (one, rest) few =
    let many = follow_length (first + 1) next ts rest in (
      λ old is. is,
      (λ old is. absurd (omega (arith, is, one, many, few)), no_pair_writes (first + 1) next ts rest (omega (arith, few))),
    )

half_writes : (first next : ℕ) (half ahead : List Ticket) → length half ≤ 1 → Follow first (half ++ ahead) next
    → length (half ++ ahead) ≤ MOST_TICKETS → NoneWrites (status_of (next + 1)) (waits_of half ++ pairs_of ahead)
unfolding NoneWrites Follow
half_writes first next [] ahead one follow few = no_pair_writes first next ahead follow few
half_writes first next (t ∷ []) ahead one (wait, rest) few =
    let many = follow_length (first + 1) next ahead rest in
    (λ old is. absurd (omega (arith, is, wait, many, few)), no_pair_writes (first + 1) next ahead rest (omega (arith, few)))
half_writes first next (t ∷ u ∷ ts) ahead one follow few = absurd (omega (arith, one))

-- with whatever row of context entries
pub ready_to_send : (m : State) (row : List ContextEntry) → IsWhole m.pool.frames m → m.calls < CALLS_END
    → IsReady (record m.iommu { contexts = row })
ready_to_send m row whole calls =
    let k = whole.tickets in
    let waiting = waiting_few m k in
    let outstanding = follow_length k.reached m.iommu.sent (k.half ++ k.ahead) k.sent in
    let split = ap length k.split in
    let fewer : length (k.half ++ k.ahead) ≤ MOST_TICKETS = omega (arith, split, length-append k.done (k.half ++ k.ahead), k.few) in
    record {
      room = omega (arith, waiting, k.few);
      fresh = λ same. omega (arith, same, k.status, outstanding, fewer);
      others = subst (NoneWrites (status_of (m.iommu.sent + 1))) (sym k.ring)
          (half_writes k.reached m.iommu.sent k.half k.ahead k.one k.sent fewer);
      few = omega (arith, whole.sent, calls);
      steps = omega (arith, waiting, k.few, whole.steps, calls);
    }
