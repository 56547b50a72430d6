-- That a detach which was done is followed by a flush which is done too, and what is cached once both are.
use Rattle.std.proofs.Common.{◌≡◌, ⊎_elim, inl, inr, ℕ, true, false, List, ◌++◌, Option, Some, Ok, Err, Result, ap, sym, subst, ◌∙◌}
use Rattle.std.proofs.Common.{slice_get}
use Rattle.std.specs.Prelude.{IsNone}
use Rattle.std.proofs.lemmas.Option.{same_Some}
use Rattle.dmatypes.specs.Conditions.{Stands}
use Rattle.dmatypes.specs.Step.{IsStep}
use Rattle.dmatypes.specs.World as world
use Rattle.dmatypes.specs.declared.call.Call.TheVariants as calls
use Rattle.dmatypes.specs.declared.refusal.Refusal.{Refusal}
use Rattle.dmatypes.specs.declared.reply.Reply.TheVariants.{Done, Flushed, Refused}
use Rattle.vtdbits.specs.Context.{attached}
use Rattle.vtdbits.specs.declared.descriptor.Descriptor.TheVariants.{IotlbDomain}
use Rattle.engine.specs.declared.iommu.Shown.{Shown}
use Rattle.engine.specs.Domains.{Domain, domain_at}
use Rattle.engine.specs.Ending.{Invalidates, domain_shown}
use Rattle.engine.specs.Quarantine.{IsOfSomeWorld}
use Rattle.engine.specs.State.{Becomes, State, flushed_reply}
use Rattle.engine.specs.Steps.{Does}
use Rattle.engine.proofs.domains.OneChanged.{both_there}
use Rattle.quiet.proofs.Ends.{detaches_forget, no_fault_left}
use Rattle.quiet.proofs.Lazily.{no_table_left, none_left}
use Rattle.quiet.proofs.Sent.{sent_last}
use Rattle.quiet.specs.Quiet.{IsSound}
use Rattle.driven.specs.declared.effect.Effect.{Effect}
use Rattle.driven.specs.Effects.{AreEffects, DetachesAll, DoesBoth}
use Rattle.driven.specs.Laws.{DetachesAllForget}

-- a flush of a domain that there is isn't refused
not_lacking : (w : world.World) (d : ℕ) (v : world.Domain) (r : Refusal) → w.domains d ≡ Some v → IsStep w (calls.Flush d) (Refused r) → ⊥
unfolding IsStep Stands
not_lacking w d v r here (inl (inl (none, same))) = let clash : true ≡ false = subst IsNone here none in cc
not_lacking w d v r here (inl (inr (other, never))) = never
not_lacking w d v r here (inr (fine, meets)) = meets

pub not_refused : (s t : State) (d : ℕ) (h : Domain) (r : Refusal) → IsOfSomeWorld s → domain_at s.domains d ≡ Some h
    → Does s (calls.Flush d) (Refused r) t → ⊥
not_refused s t d h r (w, q) here does =
    let v = both_there s.pool.words (domain_at s.domains d) (w.domains d) h (q.domains d) here in
    not_lacking w d v.0 r v.1 (does.steps w q).0

-- what becomes of the state, told with what is asked
pub does_both : (m : State) (device : ℕ) (r : Result ℕ Refusal) (t : State) (es : List Effect) → DetachesAll m device r t es
    → DoesBoth m device r t
does_both m device (Ok released) t es all = (
  record {
    domain = all.done.domain;
    had = all.done.had;
    between = all.done.between;
    detaches = all.done.detaches;
    flushes =
        all.done.flushes;
  },
  tt,
)
does_both m device (Err refusal) t es all = (tt, all.refused.0)

module _ (m s : State) (device : ℕ) (sound : IsSound m) (does : Does m (calls.Detach device) Done s) where
  abbrev Had : Type 0
  Had = (d : ℕ) × (h : Domain) × ((attached (slice_get m.iommu.contexts device) ≡ Some d) × (domain_at s.domains d ≡ Some h))

  had_by : Becomes m (calls.Detach device) Done s → Had
  unfolding Becomes
  had_by (d, root, width, at, sends, is) =
      let own = sound.of_world.1.contexts.roots device root d width at in
      (d, own.0, (ap attached at, ap (λ (x : State). domain_at x.domains d) is ∙ own.1))

  -- the domain that the device had is there still
  pub had : Had
  had = had_by does.becomes

  pub after : IsOfSomeWorld s
  after = (_, (does.steps sound.of_world.0 sound.of_world.1).1)

  pub both : (t : State) (d : ℕ) → attached (slice_get m.iommu.contexts device) ≡ Some d → (first second es : List Effect)
      → AreEffects m (calls.Detach device) Done s first → (r : Result ℕ Refusal) → Does s (calls.Flush d) (flushed_reply r) t
      → AreEffects s (calls.Flush d) (flushed_reply r) t second → es ≡ first ++ second → DetachesAll m device r t es
  both t d own first second es asks (Ok released) flushes asks_then joined = record {
    done = record {
      domain = d;
      had = own;
      between = s;
      first = first;
      second = second;
      detaches = does;
      asks_first = asks;
      flushes = flushes;
      asks_then = asks_then;
      joined = joined;
    };
    refused = tt;
  }
  both t d own first second es asks (Err r) flushes asks_then joined =
      absurd (not_refused s t had.0 had.1 r after had.2.1
      (subst (λ n. Does s (calls.Flush n) (Refused r) t) (same_Some d had.0 (sym own ∙ had.2.0)) flushes))

-- ---- what is cached once both are done

flush_sends : (s t : State) (d released : ℕ) → Becomes s (calls.Flush d) (Flushed released) t
    → (seen : Option Shown) × Invalidates s.iommu (IotlbDomain d) seen t.iommu
unfolding Becomes
flush_sends s t d released (h, new, here, flushes, is) = (domain_shown s.pool h, flushes.invalidates)

pub detaches_all_forget : DetachesAllForget
detaches_all_forget m t device released both c d sound last done =
    let (seen, sends) = flush_sends both.between t both.domain released both.flushes.becomes in
    let is : d ≡ IotlbDomain both.domain =
    sent_last both.between.iommu t.iommu (IotlbDomain both.domain) d seen done.0 done.1 sends done.2 in (
      λ leaf left here. none_left both.domain d leaf is here left,
      λ table left here. no_table_left both.domain d table is here left,
      λ fault left here. no_fault_left both.domain d fault is here left,
      λ x cached. detaches_forget m both.between device c x sound both.detaches last
          (⊎_elim (λ left. inl left)
          (λ row. inr (⊎_elim (λ then. then) (λ since. ap (λ r. slice_get r x.device) (sym sends.contexts) ∙ since) row)) cached),
    )
