-- The domain that a device is attached to is that of the event that attached it.
use Rattle.std.proofs.Common.{◌≡◌, ℕ, inl, inr, List, [], ◌∷◌, ◌++◌, Option, Some, None, IsSome, refl, sym, ap, subst, ◌∙◌}
use Rattle.std.proofs.lemmas.Option.{same_Some}
use Rattle.dmatypes.specs.declared.call.Call.{Call}
use Rattle.dmatypes.specs.declared.call.Call.TheVariants as calls
use Rattle.dmatypes.specs.declared.reply.Event.{Event}
use Rattle.dmatypes.specs.declared.reply.Reply.{Reply}
use Rattle.dmatypes.specs.declared.reply.Reply.TheVariants.{Done, Made, Mapped, Unmapped, Flushed, Ticket, Reaped}
use Rattle.dmatypes.specs.World.{World, empty, put}
use Rattle.dmatypes.specs.Conditions.{Stands}
use Rattle.dmatypes.specs.Step.{IsStep, next}
use Rattle.dmatypes.specs.History.{after, event, IsLegal}
use Rattle.dmatypes.proofs.histories.Maps.{put_same, put_other, same_or_not}
use Rattle.laws.specs.Events.{Attaches, Detaches, IsAttached}
use Rattle.laws.proofs.lists.Kinds.{Kind, kind}
use Rattle.laws.proofs.lists.Courses.{lasts_either, lasts_now, lasts_still}
use Rattle.laws.proofs.worlds.Runs.{carried}

-- the device that an event attaches or detaches
abbrev moved : Call → Reply → Option ℕ
moved (calls.Attach device domain) Done = Some device
moved (calls.Detach device) Done = Some device
moved call reply = None

abbrev moved_by : Event → Option ℕ
moved_by e = moved e.call e.reply

-- what becomes of a device's domain at an event
data Move (w : World) (device : ℕ) (e : Event) (new : Option ℕ) : Type 0 where
  stays : new ≡ w.devices device → (moved_by e ≡ Some device → ⊥) → Move w device e new
  attaches : (d : ℕ) → w.devices device ≡ None → new ≡ Some d → Attaches device d e → Move w device e new
  detaches : new ≡ None → Detaches device e → Move w device e new

move_put : (w : World) (other : ℕ) (o : Option ℕ) (e : Event) (device : ℕ) → moved_by e ≡ Some other → Move w other e o
    → Move w device e (put other o w.devices device)
move_put w other o e device moves at = elim (same_or_not device other) [
  | inl same ↦
      subst (λ (x : ℕ). Move w x e (put other o w.devices x)) (sym same)
      (subst (Move w other e) (sym (put_same other o w.devices)) at)
  | inr ne ↦ stays (put_other other o w.devices device ne) (λ n. ne (sym (same_Some other device (sym moves ∙ n))))
]

none_yet : (o : Option ℕ) → (IsSome o → ⊥) → o ≡ None
none_yet None h = refl
none_yet (Some d) h = absurd (h refl)

move : (w : World) (call : Call) (reply : Reply) (device : ℕ) → IsStep w call reply
    → Move w device (event call reply) ((next w call reply).devices device)
unfolding next IsStep Stands
move w (calls.Attach other domain) Done device step =
    move_put w other (Some domain) (event (calls.Attach other domain) Done) device refl
    (attaches domain (none_yet (w.devices other) step.0.1.1.0) refl refl)
move w (calls.Detach other) Done device step =
    move_put w other None (event (calls.Detach other) Done) device refl (detaches refl refl)
move w (calls.Domain mode width) (Made d) device step = stays refl (λ e. absurd cc)
move w (calls.Drop domain) Done device step = stays refl (λ e. absurd cc)
move w (calls.Map domain frame pages order rights) (Mapped address) device step = stays refl (λ e. absurd cc)
move w (calls.MapList domain order rights segments) (Mapped address) device step = stays refl (λ e. absurd cc)
move w (calls.Unmap domain address pages) (Unmapped released) device step = stays refl (λ e. absurd cc)
move w (calls.Flush domain) (Flushed released) device step = stays refl (λ e. absurd cc)
move w (calls.Begin domain) (Ticket other number) device step = stays refl (λ e. absurd cc)
move w (calls.Reap domain number) (Reaped released) device step = stays refl (λ e. absurd cc)
move w call reply device step = stays refl (λ e. absurd cc)

attached_to : Event → ℕ
attached_to e = domain_in e.call
  where
    domain_in : Call → ℕ
    domain_in (calls.Attach device domain) = domain
    domain_in call = 0

-- the world says what the events say, both ways
record IsTold (device : ℕ) (es : List Event) (o : Option ℕ) : Type 0 where
  told : (d : ℕ) → o ≡ Some d → IsAttached device d es
  is : (d : ℕ) → IsAttached device d es → o ≡ Some d

told_move : (w : World) (device : ℕ) (es : List Event) (e : Event) (new : Option ℕ) → IsTold device es (w.devices device)
    → Move w device e new → IsTold device (es ++ e ∷ []) new
unfolding attached_to
told_move w device es e new old (Move.stays same unmoved) = record {
  told = λ d at. lasts_still (Attaches device d) (Detaches device) es e (λ of. unmoved (ap moved_by of)) (old.told d (sym same ∙ at));
  is = λ d lasts. elim (lasts_either (Attaches device d) (Detaches device) es e lasts) [
    | inl of ↦ absurd (unmoved (ap moved_by of))
    | inr still ↦ same ∙ old.is d still.0
  ];
}
told_move w device es e new old (Move.attaches d none at of) = record {
  told = λ c there. lasts_now (Attaches device c) (Detaches device) es e
      (subst (λ (x : ℕ). Attaches device x e) (same_Some d c (sym at ∙ there)) of);
  is = λ c lasts. elim (lasts_either (Attaches device c) (Detaches device) es e lasts) [
    | inl same ↦ at ∙ ap Some (ap attached_to (sym of ∙ same))
    | inr still ↦ absurd (let both : None ≡ Some c = sym none ∙ old.is c still.0 in cc)
  ];
}
told_move w device es e new old (Move.detaches none of) = record {
  told = λ d at. absurd (let both : None ≡ Some d = sym none ∙ at in cc);
  is = λ d lasts. elim (lasts_either (Attaches device d) (Detaches device) es e lasts) [
    | inl same ↦ absurd (let both : Kind.detaches ≡ Kind.attaches = ap kind (sym of ∙ same) in cc)
    | inr still ↦ absurd (still.1 of)
  ];
}

told_step : (device : ℕ) (es : List Event) (w : World) (e : Event) → IsTold device es (w.devices device) → IsStep w e.call e.reply
    → IsTold device (es ++ e ∷ []) ((next w e.call e.reply).devices device)
told_step device es w e old step =
    told_move w device es e ((next w e.call e.reply).devices device) old (move w e.call e.reply device step)

-- after a legal history
told_after : (frames : ℕ) (history : List Event) (device : ℕ) → IsLegal frames history
    → IsTold device history ((after frames history).devices device)
told_after frames history device legal =
    carried (λ es w. IsTold device es (w.devices device)) (told_step device) [] (empty frames) history
    (record { told = λ d none. absurd cc; is = λ d none. absurd none }) legal

pub attached_by : (frames : ℕ) (history : List Event) (device d : ℕ) → IsLegal frames history
    → (after frames history).devices device ≡ Some d → IsAttached device d history
attached_by frames history device d legal at = (told_after frames history device legal).told d at

pub attached_after : (frames : ℕ) (history : List Event) (device d : ℕ) → IsLegal frames history → IsAttached device d history
    → (after frames history).devices device ≡ Some d
attached_after frames history device d legal lasts = (told_after frames history device legal).is d lasts
