-- What is left once the oldest descriptors are done, and that a wait is done then.
use Rattle.std.proofs.Common.{◌≡◌, ◌≢◌, ℕ, zero, suc, ◌+◌, ◌-◌, ◌*◌, ◌<◌, ◌≤◌, List, [], ◌∷◌, ◌++◌, length, refl, ap, subst, ◌∙◌, arith}
use Rattle.dmatypes.specs.declared.call.Call.TheVariants as calls
use Rattle.dmatypes.specs.declared.reply.Progress.TheVariants.{Did, Idle}
use Rattle.dmatypes.specs.declared.reply.Progress.{Progress}
use Rattle.dmatypes.specs.declared.reply.Reply.TheVariants.{Stepped}
use Rattle.unit.specs.Filters.{after_first}
use Rattle.vtdbits.specs.declared.descriptor.Descriptor.{Descriptor}
use Rattle.engine.specs.declared.ticket.Ticket.{Ticket}
use Rattle.engine.specs.State.{Becomes, Exact, State}
use Rattle.engine.specs.Steps.{Does}
use Rattle.engine.specs.Tickets.{Follow, KeepsTickets, pairs_of, waits_of}
use Rattle.engine.proofs.tickets.Closed.{last_done_is}
use Rattle.driven.specs.UpTo.{DoesOldest, DoesUpTo}

-- ---- what is left

-- so many descriptors fewer wait, each was a call, and no wait was sent
pub record IsLeft (m : State) (steps : ℕ) (t : State) : Type 0 where
  pub waiting : length t.iommu.ring.waiting + steps ≡ length m.iommu.ring.waiting
  pub calls : t.calls ≡ m.calls + steps
  pub sent : t.iommu.sent ≡ m.iommu.sent

one_fewer : (ds : List Descriptor) (status : ℕ) (taken : List Descriptor) → ds ≢ []
    → length (after_first ds status taken).waiting + 1 ≡ length ds
one_fewer [] status taken some = absurd (some refl)
one_fewer (d ∷ ds) status taken some = omega arith

one_left : (m t : State) → Does m calls.Unit (Stepped Did) t → IsLeft m 1 t
unfolding Exact Becomes
one_left m t does = record {
  waiting =
      ap (λ (x : State). length x.iommu.ring.waiting + 1) does.becomes
      ∙ one_fewer m.iommu.ring.waiting m.iommu.ring.status m.iommu.ring.taken does.exact;
  calls = does.calls;
  sent = ap (λ (x : State). x.iommu.sent) does.becomes;
}

pub left_after : (m t : State) (steps : ℕ) → DoesOldest m steps t → IsLeft m steps t
left_after m t zero same = record {
  waiting = let many = ap (λ (x : State). length x.iommu.ring.waiting) same in omega (arith, many);
  calls = let many = ap (λ (x : State). x.calls) same in omega (arith, many);
  sent = ap (λ (x : State). x.iommu.sent) same;
}
left_after m t (suc steps) (s, (earlier, last)) =
    let before = left_after m s steps earlier in
    let one = one_left s t last in
    record {
      waiting = omega (arith, before.waiting, one.waiting);
      calls = omega (arith, before.calls, one.calls);
      sent = one.sent ∙ before.sent;
    }

-- where one waits, a step does it
does_one : (m t : State) (progress : Progress) → 0 < length m.iommu.ring.waiting → Does m calls.Unit (Stepped progress) t
    → Does m calls.Unit (Stepped Did) t
unfolding Exact
does_one m t Did some does = does
does_one m t Idle some does = let none = ap length does.exact in absurd (omega (arith, some, none))

pub one_more : (m s t : State) (steps : ℕ) (progress : Progress) → DoesOldest m steps s → 0 < length s.iommu.ring.waiting
    → Does s calls.Unit (Stepped progress) t → DoesOldest m (steps + 1) t
one_more m s t steps progress earlier some does =
    let more : suc steps ≡ steps + 1 = omega arith in
    subst (λ n. DoesOldest m n t) more (s, (earlier, does_one s t progress some does))

-- ---- that the wait is done

pairs_left : (first last : ℕ) (ts : List Ticket) → Follow first ts last → length (pairs_of ts) + 2 * first ≡ 2 * last
unfolding Follow pairs_of
pairs_left first last [] is = omega (arith, is)
pairs_left first last (t ∷ ts) (one, rest) = let k = pairs_left (first + 1) last ts rest in omega (arith, k)

all_left : (first last : ℕ) (half ahead : List Ticket) → length half ≤ 1 → Follow first (half ++ ahead) last
    → 2 * last ≤ length (waits_of half ++ pairs_of ahead) + 2 * first + 1
unfolding Follow
all_left first last [] ahead one follow = let k = pairs_left first last ahead follow in omega (arith, k)
all_left first last (t ∷ []) ahead one (wait, rest) = let k = pairs_left (first + 1) last ahead rest in omega (arith, k)
all_left first last (t ∷ u ∷ ts) ahead one follow = absurd (omega (arith, one))

pub done_up_to : (m t : State) (wait steps : ℕ) → KeepsTickets t → wait ≤ m.iommu.sent
    → steps ≡ length m.iommu.ring.waiting - 2 * (m.iommu.sent - wait) → DoesOldest m steps t → DoesUpTo m wait steps t
done_up_to m t wait steps k sent many does = record {
  sent = sent;
  does = does;
  done = omega (
    arith,
    last_done_is t k,
    ring,
    all_left k.reached t.iommu.sent k.half k.ahead k.one k.sent,
    left.waiting,
    left.sent,
    sent,
    many,
  );
  left = omega (arith, left.waiting, many);
}
  where
    left : IsLeft m steps t
    left = left_after m t steps does

    ring : length t.iommu.ring.waiting ≡ length (waits_of k.half ++ pairs_of k.ahead)
    ring = ap length k.ring
