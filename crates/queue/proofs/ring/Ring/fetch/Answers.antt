-- The pair at the head spells the first descriptor that waits.
use Rattle.std.proofs.Common.{◌≡◌, ◌∙◌, ◌∷◌, ap, sym, length, arith}
use Rattle.std.proofs.lemmas.List.{nil_from_length}
use Rattle.std.proofs.lemmas.Option.{same_Some}
use Rattle.queue.specs.Pairs.{waiting_in}
use Rattle.queue.specs.Ring.{Ring}
use Rattle.queue.proofs.Taken.{taken_fetched}
use Rattle.queue.proofs.Waiting.{length-waiting_in, ring_fetched, first_waiting}
use Rattle.queue.proofs.ring.Ring.fetch.Goals as goal

pub invariant_of-self : goal.invariant_of-self
invariant_of-self c = ring_fetched _ _ _ c.self.invariant _ c.following-self-inside.ensures c.if-self.false

pub returns-then-self-clause-none : goal.returns-then-self-clause-none
returns-then-self-clause-none c =
    let count = length-waiting_in _ _ _ c.self.invariant in
    let seen = ap (λ (q : Ring). length q.waiting) c.self.view_is in
    let ring = c.self.invariant in
    nil_from_length _ (omega (arith, count, seen))

pub unreachable-requires : goal.unreachable-requires
unreachable-requires c =
    let first = first_waiting _ _ _ c.self.invariant _ (record { low = 0; high = 0 }) c.following-self-inside.ensures c.if-self.false in
    c.in_default.not-Some first.0 (c.decode.ensures.read ∙ first.1)

pub returns-clause-some : goal.returns-clause-some
returns-clause-some c =
    let first = first_waiting _ _ _ c.self.invariant _ (record { low = 0; high = 0 }) c.following-self-inside.ensures c.if-self.false in
    let one : first.0 ≡ c.in-Some.descriptor = same_Some _ _ (sym first.1 ∙ sym c.decode.ensures.read ∙ c.in-Some.is) in
    sym (ap (λ (q : Ring). q.waiting) c.self.view_is) ∙ first.2
    ∙ ap (λ d. d ∷ waiting_in c.following-self-inside.result c.self.inside.tail c.self.inside.page) one

pub returns-clause-taken : goal.returns-clause-taken
returns-clause-taken c =
    taken_fetched _ _ _ c.self.invariant _ _ _ c.following-self-inside.ensures c.if-self.false (sym c.decode.ensures.read ∙ c.in-Some.is)
    ∙ ap (λ (q : Ring). c.in-Some.descriptor ∷ q.taken) c.self.view_is
