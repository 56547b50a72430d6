use Rattle.std.proofs.Common.{◌++◌, ◌∙◌, ap, refl, sym, subst}
use Rattle.std.specs.Prelude.{IsSome}
use Rattle.quiet.specs.Quiet.{IsSound}
use Rattle.driven.proofs.Asked.{all_told}
use Rattle.driven.proofs.Detached.{both, does_both, had}
use Rattle.driven.proofs.driven.Driven.detach_all.Goals as goal

pub unwrap-requires : goal.unwrap-requires
unwrap-requires c =
    let sound : IsSound c.deref_mut-state.result.now = record { of_world = c.keeps.ensures.of_world; places = c.keeps.ensures.places } in
    let own = had c.deref_mut-state.result.now c.tell_detach.new.state c.args.device sound c.in_ok-tell_detach.ensures.does in
    subst IsSome (sym (c.domain_of-domain.ensures ∙ own.2.0)) refl

pub returns : goal.returns
returns c =
    let sound : IsSound c.deref_mut-state.result.now = record { of_world = c.keeps.ensures.of_world; places = c.keeps.ensures.places } in
    let (first, items, few, asks) = c.in_ok-tell_detach.ensures.effects in
    let (second, items', asks_then) = c.tell_flush.ensures.effects in
    let all = both c.deref_mut-state.result.now c.tell_detach.new.state c.args.device sound c.in_ok-tell_detach.ensures.does
    c.tell_flush.new.state c.unwrap.result (sym c.domain_of-domain.ensures ∙ c.unwrap.ensures) first second
    c.tell_flush.new.effects.items asks c.tell_flush.result c.tell_flush.ensures.does asks_then
    (items' ∙ ap (λ xs. xs ++ second) (items ∙ ap (λ xs. xs ++ first) c.forget.ensures.told)) in
    record {
      does = rw (← c.self.view_is, ← c.deref_mut-state.ensures.value) (does_both _ _ _ _ _ all);
      detaches = all_told _ _ _ _ _ c.forget.ensures.all (rw (← c.self.view_is, ← c.deref_mut-state.ensures.value) all);
      tells = rw (← c.self.view_is) refl;
    }
