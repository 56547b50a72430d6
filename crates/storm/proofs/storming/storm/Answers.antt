use Rattle.std.proofs.Common.{◌≡◌, IfOk, ap, subst, ◌∙◌}
use Rattle.manager.specs.Kept.{Config}
use Rattle.storm.proofs.storming.storm.Goals as goal

pub storm_on-requires-clause-room : goal.storm_on-requires-clause-room
storm_on-requires-clause-room g c _ _ =
    c.in_ok-seed.ensures.room ∙ ap (λ (k : Config). k.calls) c.in-Some.ensures.numbers ∙ c.events.ensures

pub returns : goal.returns
returns g c = record {
  events = subst (λ n. IfOk c.storm_on.result (λ events. events ≡ n))
      (c.in_ok-seed.ensures.room ∙ ap (λ (k : Config). k.calls) c.in-Some.ensures.numbers ∙ c.events.ensures) c.storm_on.ensures;
}
