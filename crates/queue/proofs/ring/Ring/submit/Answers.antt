-- The pair at the tail is free where the ring isn't full.
use Rattle.std.proofs.Common.{◌≡◌, ℕ, ◌∙◌, ◌+◌, ◌-◌, ◌%◌, ap, ap₂, sym, length, take, arith, refl, List, ◌∷◌, [], ◌++◌}
use Rattle.vtdbits.specs.declared.descriptor.Descriptor.{Descriptor}
use Rattle.queue.specs.Ring.{Ring, ring_of}
use Rattle.queue.specs.Pairs.{taken_in}
use Rattle.queue.proofs.Taken.{taken_submitted}
use Rattle.queue.proofs.Waiting.{length-waiting_in, ring_submitted, waiting_submitted}
use Rattle.queue.specs.declared.ring.TheConstants.{PAIRS}
use Rattle.queue.specs.declared.ring.TheConstants.Ring.{CAPACITY}
use Rattle.queue.proofs.ring.Ring.submit.Goals as goal

pub invariant_of-self : goal.invariant_of-self
invariant_of-self c =
    ring_submitted _ _ _ c.self.invariant _ _ c.args.descriptor c.following-next.ensures c.if-next-self.false c.encode.ensures.read

pub returns-then-next-self-clause-full : goal.returns-then-next-self-clause-full
returns-then-next-self-clause-full c =
    let count = length-waiting_in _ _ _ c.self.invariant in
    let seen = ap (λ (q : Ring). length q.waiting) c.self.view_is in
    let ring = c.self.invariant in
    (λ _. omega (arith, count, seen), λ _. refl)

pub returns-clause-full : goal.returns-clause-full
returns-clause-full c =
    let count = length-waiting_in _ _ _ c.self.invariant in
    let seen = ap (λ (q : Ring). length q.waiting) c.self.view_is in
    let ring = c.self.invariant in
    (λ no. absurd (cc), λ full. absurd (omega (arith, count, seen)))

pub returns-clause-ok : goal.returns-clause-ok
returns-clause-ok c =
    let count : (c.self.inside.tail + PAIRS - c.self.inside.head) % PAIRS ≡ length c.args.self.now.waiting =
    sym (length-waiting_in _ _ _ c.self.invariant) ∙ ap (λ (q : Ring). length q.waiting) c.self.view_is in
    ap₂ (λ (ds : List Descriptor) (ts : List Descriptor). ring_of ds c.self.inside.status ts)
    (waiting_submitted _ _ _ c.self.invariant _ _ c.args.descriptor c.following-next.ensures c.if-next-self.false c.encode.ensures.read)
    (taken_submitted _ _ _ c.self.invariant _ c.encode.result c.following-next.ensures c.if-next-self.false
    ∙ ap (λ (n : ℕ). take (CAPACITY - n) (taken_in c.self.inside.head c.self.inside.tail c.self.inside.page)) count)
    ∙ ap (λ (q : Ring). ring_of (q.waiting ++ c.args.descriptor ∷ []) q.status (take (CAPACITY - length c.args.self.now.waiting) q.taken))
    c.self.view_is
