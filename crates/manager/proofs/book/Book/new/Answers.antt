use Rattle.std.proofs.Common.{◌∙◌, rules, arith, sym, ap}
use Rattle.engine.specs.State.{IsNew}
use Rattle.ports.specs.Seen.{Desk}
use Rattle.manager.proofs.books.Starting.{kept_new}
use Rattle.manager.proofs.book.Book.new.Goals as goal

pub invariant_of-result : goal.invariant_of-result
invariant_of-result g c =
    let config = c.requires.config in
    let new : IsNew g.B.Owner.frames g.B.Owner.mode c.in_ok-state.state.value =
    rw (c.frames.ensures.value ∙ config.3, c.is_caching.ensures.value ∙ config.4) at c.in_ok-state.ensures in (
      rw c.requires.desk.0 (kept_new g.B.Owner.frames g.B.Owner.room g.B.Owner.mode g.B.Owner.most
          c.in_ok-state.state.value (omega (arith, config.2, config.5, c.most.ensures.value, c.most.ensures.within.0)) new),
      c.calls-3.ensures.value ∙ config.2,
      omega (arith, c.in_ok-kept.ensures.room, c.calls.ensures.value, config.2),
      omega (arith, config.5, c.most.ensures.value, c.most.ensures.within.1),
      search rules,
      omega (arith, config.1, config.0.least_shares),
      c.requires.blank.2,
      ap (λ (d : Desk). d.rows) c.requires.desk.0,
      c.requires.desk.1,
      c.in_ok-kept.ensures.events ∙ sym (ap (λ (d : Desk). d.history) c.requires.desk.0),
      c.most.ensures.value ∙ config.5,
      omega (arith, c.calls-2.ensures.value, config.2, config.5, c.most.ensures.value, c.most.ensures.within.0),
      search rules,
      omega (arith, config.2, config.0.least_calls),
    )
