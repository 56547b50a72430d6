-- What a manager of C's keeps from its creation on.
use Rattle.std.proofs.Common.{◌≡◌, ◌⊎◌, inl, inr, ⊎_elim, ℕ, ◌+◌, ◌-◌, ◌%◌, ◌<◌, ◌≤◌, Bool, List, [], ◌∷◌, Option, None, Some, sym, ap}
use Rattle.std.proofs.Common.{subst, ◌∙◌, arith, length, slice_set}
use Rattle.std.proofs.lemmas.Bool.{cases_lt}
use Rattle.std.proofs.lemmas.List.{length-set}
use Rattle.std.proofs.lemmas.Option.{same_Some}
use Rattle.dmatypes.specs.Step.{next}
use Rattle.dmatypes.specs.declared.call.Call.{Call}
use Rattle.dmatypes.specs.declared.call.Call.TheVariants as calls
use Rattle.dmatypes.specs.declared.limits.TheConstants.{LEAST_TABLE_FRAMES, MOST_TABLE_FRAMES}
use Rattle.dmatypes.specs.declared.page.TheConstants.{FRAMES_END, SPAN_PAGES}
use Rattle.dmatypes.specs.declared.reply.Event.{Event}
use Rattle.dmatypes.specs.declared.reply.Reply.{Reply}
use Rattle.dmatypes.specs.declared.reply.Reply.TheVariants.{Made, Done, Mapped, Unmapped, Flushed, Reaped, Refused, Stepped}
use Rattle.tables.proofs.walks.Steps.{same_or_not}
use Rattle.engine.specs.Domains.{Domain}
use Rattle.engine.specs.State.{Becomes, State}
use Rattle.engine.specs.Steps.{Does, Goes}
use Rattle.engine.proofs.states.New.{whole_new}
use Rattle.engine.proofs.states.Refused.{frames_kept}
use Rattle.quiet.specs.Quiet.{IsSound}
use Rattle.vtdm_c.specs.Base.{IsBase}
use Rattle.vtdm_c.specs.Called.{HasBase, IsNewSession, IsNewState, WritesStatus, state_of}
use Rattle.vtdm_c.specs.Sound.{CallsKeepSessionsSound, CreationsAreSound, IsSoundSession, SessionsAreFoundOldOrNew}
use Rattle.vtdm_c.specs.declared.base.Base.{Base}
use Rattle.vtdm_c.specs.declared.life.DrivenUnit.{DrivenUnit}
use Rattle.vtdm_c.specs.declared.session.Session.{Session}
use Rattle.vtdm_c.proofs.Units.{units_find}

-- ---- a creation

new_sound : (frames : ℕ) (caching : Bool) (m : State) → IsNewState frames caching m → IsSound m
new_sound frames caching m new =
    let whole = whole_new m frames caching new.new in record { of_world = whole.of_world; places = whole.places }

made_sound : (frames : ℕ) (caching : Bool) (unit : Option DrivenUnit) (s : Session) → frames ≤ MOST_TABLE_FRAMES → HasBase frames unit
    → IsNewSession frames caching unit s → IsSoundSession s
made_sound frames caching None s few has (new, silent, first) =
    let at_0 : s.base.first ≡ 0 = first in
    record {
      state = new_sound frames caching (state_of s) new;
      base = (omega (arith, at_0), omega (arith, at_0, new.new.frames_are, few));
    }
made_sound frames caching (Some unit) s few has (new, tells, none, first, status) =
    let there : s.base.first ≡ unit.base = first in
    record {
      state = new_sound frames caching (state_of s) new;
      base = (omega (arith, there, has.0), omega (arith, there, new.new.frames_are, has.1));
    }

writes_or_not : (unit : Option DrivenUnit) → WritesStatus unit ⊎ (WritesStatus unit → ⊥)
writes_or_not None = inl tt
writes_or_not (Some unit) = same_or_not (unit.status % 4) 0

based_or_not : (frames : ℕ) (unit : Option DrivenUnit) → HasBase frames unit ⊎ (HasBase frames unit → ⊥)
based_or_not frames None = inl tt
based_or_not frames (Some unit) = elim (same_or_not (unit.base % SPAN_PAGES) 0) [
  | inl even ↦
      ⊎_elim (λ (past : FRAMES_END < unit.base + frames). inr (λ has. omega (arith, past, has.1)))
      (λ (fits : unit.base + frames ≤ FRAMES_END). inl (even, fits)) (cases_lt FRAMES_END (unit.base + frames))
  | inr askew ↦ inr (λ has. askew has.0)
]

pub creations_sound : CreationsAreSound
creations_sound frames caching unit s makes =
    let some : LEAST_TABLE_FRAMES ≤ frames =
    ⊎_elim (λ (less : frames < LEAST_TABLE_FRAMES). let bad = (makes.bad (inl less)).0 in absurd (omega (arith, bad)))
    (λ (enough : LEAST_TABLE_FRAMES ≤ frames). enough) (cases_lt frames LEAST_TABLE_FRAMES) in
    let few : frames ≤ MOST_TABLE_FRAMES =
    ⊎_elim (λ (more : MOST_TABLE_FRAMES < frames). let bad = (makes.bad (inr more)).0 in absurd (omega (arith, bad)))
    (λ (fit : frames ≤ MOST_TABLE_FRAMES). fit) (cases_lt MOST_TABLE_FRAMES frames) in
    elim (writes_or_not unit) [
      | inr askew ↦ let bad = (makes.askew some few askew).0 in absurd (omega (arith, bad))
      | inl writes ↦ elim (based_or_not frames unit) [
        | inr nowhere ↦ let bad = (makes.nowhere some few writes nowhere).0 in absurd (omega (arith, bad))
        | inl has ↦ elim (makes.good some few writes has) [
          | inl lacks ↦ let bad = lacks.0 in absurd (omega (arith, bad))
          | inr made ↦
              made_sound frames caching unit s few has
              (subst (λ (x : Session). IsNewSession frames caching unit x) (sym (same_Some s made.1 made.2)) made.3)
        ]
      ]
    ]

-- ---- calls

module _ (m t : State) where
  alike : t.domains ≡ m.domains → length t.domains ≡ length m.domains
  alike is = ap length is

  but_one : (i : ℕ) (o : Option Domain) → t.domains ≡ slice_set m.domains i o → length t.domains ≡ length m.domains
  but_one i o is = ap length is ∙ length-set m.domains i o

-- there are as many places for domains as before
places_stay : (m t : State) (call : Call) (reply : Reply) → Becomes m call reply t → length t.domains ≡ length m.domains
unfolding Becomes
places_stay m t (calls.Domain mode width) (Made e) (root, takes, is) = but_one m t (e - 1) _ (ap (λ (x : State). x.domains) is)
places_stay m t (calls.Domain mode width) _ is = alike m t (ap (λ (x : State). x.domains) is)
places_stay m t (calls.Attach device e) Done (k, here, is) = alike m t (ap (λ (x : State). x.domains) is)
places_stay m t (calls.Attach device e) _ is = alike m t (ap (λ (x : State). x.domains) is)
places_stay m t (calls.Drop e) Done (k, here, closes, is) = but_one m t (e - 1) None (ap (λ (x : State). x.domains) is)
places_stay m t (calls.Drop e) _ is = alike m t (ap (λ (x : State). x.domains) is)
places_stay m t (calls.Detach device) Done (e, root, width, at, sends, is) = alike m t (ap (λ (x : State). x.domains) is)
places_stay m t (calls.Detach device) _ is = alike m t (ap (λ (x : State). x.domains) is)
places_stay m t (calls.Map e frame pages order rights) (Mapped address) (k, new, here, places, sends, is) =
    but_one m t (e - 1) (Some new) (ap (λ (x : State). x.domains) is)
places_stay m t (calls.Map e frame pages order rights) _ is = alike m t (ap (λ (x : State). x.domains) is)
places_stay m t (calls.MapList e order rights segments) (Mapped address) (k, new, here, places, sends, is) =
    but_one m t (e - 1) (Some new) (ap (λ (x : State). x.domains) is)
places_stay m t (calls.MapList e order rights segments) _ is = alike m t (ap (λ (x : State). x.domains) is)
places_stay m t (calls.Flush e) (Flushed released) (k, new, here, flushes, is) =
    but_one m t (e - 1) (Some new) (ap (λ (x : State). x.domains) is)
places_stay m t (calls.Flush e) _ is = alike m t (ap (λ (x : State). x.domains) is)
places_stay m t (calls.Unmap e address pages) (Unmapped released) (k, new, here, ends, is) =
    but_one m t (e - 1) (Some new) (ap (λ (x : State). x.domains) is)
places_stay m t (calls.Unmap e address pages) _ is = alike m t (ap (λ (x : State). x.domains) is)
places_stay m t (calls.Dma device address access whim) (Refused refusal) is = alike m t (ap (λ (x : State). x.domains) is)
places_stay m t (calls.Dma device address access whim) _ (answer, reached, answers, filled, is) =
    alike m t (ap (λ (x : State). x.domains) is)
places_stay m t (calls.Begin e) (Reply.Ticket named number) (k, here, new, id, begins_is, is) =
    but_one m t (e - 1) _ (ap (λ (x : State). x.domains) is)
places_stay m t (calls.Begin e) _ is = alike m t (ap (λ (x : State). x.domains) is)
places_stay m t calls.Unit (Stepped progress) is = alike m t (ap (λ (x : State). x.domains) is)
places_stay m t calls.Unit _ is = alike m t (ap (λ (x : State). x.domains) is)
places_stay m t (calls.Reap e number) (Reaped released) (k, new, here, reaps, is) =
    but_one m t (e - 1) (Some new) (ap (λ (x : State). x.domains) is)
places_stay m t (calls.Reap e number) _ is = alike m t (ap (λ (x : State). x.domains) is)
places_stay m t (calls.Evict kind place) Done is = alike m t (ap (λ (x : State). x.domains) is)
places_stay m t (calls.Evict kind place) _ is = alike m t (ap (λ (x : State). x.domains) is)

sound_then : (m t : State) (call : Call) (reply : Reply) → IsSound m → Does m call reply t → IsSound t
sound_then m t call reply sound does = record {
  of_world = (next sound.of_world.0 call reply, (does.steps sound.of_world.0 sound.of_world.1).1);
  places = places_stay m t call reply does.becomes ∙ sound.places;
}

sound_along : (events : List Event) (m t : State) → IsSound m → Goes m events t → IsSound t × (m.pool.frames ≡ t.pool.frames)
sound_along [] m t sound same = (subst IsSound same sound, ap (λ (x : State). x.pool.frames) same)
sound_along (e ∷ es) m t sound (s, (does, goes)) =
    let on = sound_along es s t (sound_then m s e.call e.reply sound does) goes in
    (on.0, frames_kept m s e.call e.reply sound.of_world does ∙ on.1)

pub calls_keep_sound : CallsKeepSessionsSound
calls_keep_sound s t events sound goes same =
    let on = sound_along events (state_of s) (state_of t) sound.state goes in
    record {
      state = on.0;
      base =
          subst (λ n. IsBase n t.base.first) on.1
          (subst (λ (b : Base). IsBase (state_of s).pool.frames b.first) (sym same.1) sound.base);
    }

pub sessions_found : SessionsAreFoundOldOrNew
sessions_found s t call reply effects domain h h' reached hosted page sound makes tells told there then keeps hosts =
    units_find (state_of s) (state_of t) call reply effects domain h h' reached s.base.first hosted page sound.state makes.does
    (makes.asks tells effects told) there then keeps sound.base hosts
