use Rattle.manager.proofs.words.Cleared.{detach_cleared, flush_cleared, no_device, other_cleared, reap_cleared, told_detach, told_flush}
use Rattle.manager.proofs.words.Cleared.{told_reap, told_unmap, unmap_cleared, unmap_keeps}
use Rattle.manager.proofs.entering.cleared_at.Goals as goal

pub returns-in-Detach-Done : goal.returns-in-Detach-Done
returns-in-Detach-Done c w q of_domain =
    rw (c.in-Detach-Done.is-0, c.in-Detach-Done.is-1) (told_detach w c.in-Detach-Done.device _ c.only.ensures)

pub returns-in-Flush-Flushed : goal.returns-in-Flush-Flushed
returns-in-Flush-Flushed c w q of_domain =
    rw (c.in-Flush-Flushed.is-0, c.in-Flush-Flushed.is-1)
    (told_flush c.args.state.now w c.in-Flush-Flushed.domain c.in-Flush-Flushed.field-0-1 _
    (rw (c.in-Flush-Flushed.is-0, c.in-Flush-Flushed.is-1) at q) (λ v less. c.devices_of.ensures v))

pub returns-in-Reap-Reaped : goal.returns-in-Reap-Reaped
returns-in-Reap-Reaped c w q of_domain =
    let r = c.in-Reap-Reaped in
    rw (r.is-0, r.is-1)
    (told_reap c.args.state.now w r.domain r.number-0 r.field-0-1 _ (rw (r.is-0, r.is-1) at q)
    (λ v less. c.devices_of-in-Reap-Reaped.ensures v))

pub returns-then-takes_away : goal.returns-then-takes_away
returns-then-takes_away c w q of_domain =
    let u = c.in-Unmap-Unmapped in
    rw (u.is-0, u.is-1)
    (told_unmap c.args.state.now w u.domain u.address-0 u.pages-0 u.field-0-1 _ c.args.detail.now (rw (u.is-0, u.is-1) at q)
    (rw (u.is-0, u.is-1) at of_domain) (rw c.if-takes_away.true at c.takes_away.ensures) (λ v less. c.devices_of-then-takes_away.ensures v))

pub returns-else-takes_away : goal.returns-else-takes_away
returns-else-takes_away c w q of_domain =
    let u = c.in-Unmap-Unmapped in
    rw (u.is-0, u.is-1)
    (no_device w _ _ (unmap_keeps w u.domain u.address-0 u.pages-0 u.field-0-1 c.args.detail.now (rw (u.is-0, u.is-1) at of_domain)
    (rw c.if-takes_away.false at c.takes_away.ensures)))

pub returns-in_default : goal.returns-in_default
returns-in_default c w q of_domain =
    rw (c.in_default.is-0) (no_device w _ _ (λ other is. c.in_default.not-Done-1 (detach_cleared w c.in_default.field-0-0 _ other is)))

pub returns-in_default-2 : goal.returns-in_default-2
returns-in_default-2 c w q of_domain =
    rw (c.in_default.is-0) (no_device w _ _ (λ other is.
    let n = flush_cleared w c.in_default.field-0-0 _ other is in c.in_default.not-Flushed-1 n.0 n.1))

pub returns-in_default-3 : goal.returns-in_default-3
returns-in_default-3 c w q of_domain =
    rw (c.in_default.is-0) (no_device w _ _ (λ other is.
    let n = reap_cleared w c.in_default.field-0-0 c.in_default.field-1-0 _ other is in c.in_default.not-Reaped-1 n.0 n.1))

pub returns-in_default-4 : goal.returns-in_default-4
returns-in_default-4 c w q of_domain =
    rw (c.in_default.is-0) (no_device w _ _ (λ other is.
    let n = unmap_cleared w c.in_default.field-0-0 c.in_default.field-1-0 c.in_default.field-2-0 _ other is in
    c.in_default.not-Unmapped-1 n.0 n.1))

pub returns-in_default-5 : goal.returns-in_default-5
returns-in_default-5 c w q of_domain =
    no_device w _ _ (λ other is.
    other_cleared w _ _ other c.in_default.not-Detach-0 c.in_default.not-Unmap-0 c.in_default.not-Flush-0 c.in_default.not-Reap-0 is)
