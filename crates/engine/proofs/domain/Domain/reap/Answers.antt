use Rattle.dmatypes.specs.declared.width.Width.{Width}
use Rattle.std.proofs.Common.{◌≡◌, ℕ, List, filter, not, rules, ap, subst}
use Rattle.std.proofs.lemmas.Fn.{filter_same}
use Rattle.dmatypes.specs.declared.call.Mode.{Mode}
use Rattle.iova.specs.Space.{Space}
use Rattle.engine.specs.declared.record.Record.{Record}
use Rattle.engine.specs.Domains.{Domain}
use Rattle.engine.specs.Ending.{ReleasesAll, was_before}
use Rattle.engine.proofs.domain.Domain.reap.Goals as goal

pub returns-clause-reaps : goal.returns-clause-reaps
returns-clause-reaps c =
    let left : c.retain.new.self.items ≡ filter (λ r. not (was_before c.args.ticket.number r)) c.self.inside.records.items =
    filter_same _ (λ r. not (was_before c.args.ticket.number r)) _ (λ x b f' k. search rules) _ _ c.retain.ensures.filtered in
    rw (← c.self.view_is) (record {
      releases =
          subst (λ rs. ReleasesAll c.args.pool.now c.self.inside.space (filter (was_before c.args.ticket.number) rs)
          c.release_before-released.new.pool c.release_before-released.new.space) c.as_slice.ensures.value
          c.release_before-released.ensures.released;
      same = ap (after c.self.inside.mode c.self.inside.begun c.self.inside.tree.width c.self.inside.tree.root
          c.release_before-released.new.space) left;
    })
  where
    after : Mode → ℕ → Width → ℕ → Space → List Record → Domain
    after mode begun width root space records =
        record { mode = mode; begun = begun; width = width; root = root; space = space; records = records }
