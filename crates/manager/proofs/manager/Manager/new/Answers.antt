use Rattle.std.proofs.Common.{◌∙◌, ◌+◌, arith, ap}
use Rattle.std.proofs.lemmas.Option.{get_or_from_slice_get}
use Rattle.dmatypes.specs.declared.limits.TheConstants.{DEVICES}
use Rattle.ports.specs.Seen.{new_pass, Pass}
use Rattle.manager.specs.Kept.{Seed}
use Rattle.manager.proofs.manager.Manager.new.Goals as goal

pub new-requires-clause-passes : goal.new-requires-clause-passes
new-requires-clause-passes g c =
    let count = ap (λ (s : Seed). s.shares) c.seed.view_is ∙ c.requires.shares_are in
    let rows = ap (λ (s : Seed). s.rows) c.seed.view_is ∙ c.requires.rows_are in (
      c.seed.invariant.7 ∙ count,
      λ k d inside.
          let is = get_or_from_slice_get c.seed.inside.passes.items k (new_pass c.seed.inside.rows (DEVICES + k)) d
          (c.seed.invariant.8 k (omega (arith, inside, c.seed.invariant.7))) in
          (ap (λ (pass : Pass). pass.rows) is ∙ rows, ap (λ (pass : Pass). pass.seen) is),
    )
