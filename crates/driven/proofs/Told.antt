-- What is told of a call that was done.
use Rattle.driven.specs.Effects.{GoesFirst}
use Rattle.driven.specs.declared.effect.Half.{Half}
use Rattle.driven.proofs.Brought.{for_memory}
use Rattle.std.proofs.Common.{◌≡◌, ◌≢◌, inl, inr, ℕ, ◌+◌, ◌<◌, ◌≤◌, Bool, true, false, List, [], ◌∷◌}
use Rattle.std.proofs.Common.{length, Option, Some, None, refl, sym, ap, subst, ◌∙◌, arith, slice_get, slice_set}
use Rattle.std.proofs.lemmas.Option.{same_Some}
use Rattle.dmatypes.proofs.histories.Maps.{same_or_not}
use Rattle.dmatypes.specs.World.{IsIn}
use Rattle.dmatypes.specs.declared.call.Call.{Call}
use Rattle.dmatypes.specs.declared.call.Call.TheVariants as calls
use Rattle.dmatypes.specs.declared.call.Mode.{Mode}
use Rattle.dmatypes.specs.declared.call.Mode.TheVariants.{Lazy, Strict}
use Rattle.dmatypes.specs.declared.refusal.Refusal.{Refusal}
use Rattle.dmatypes.specs.declared.reply.Reply.{Reply}
use Rattle.dmatypes.specs.declared.reply.Reply.TheVariants.{Refused}
use Rattle.vtdbits.specs.declared.context.ContextEntry.{ContextEntry}
use Rattle.vtdbits.specs.declared.descriptor.Descriptor.TheVariants.{Wait}
use Rattle.queue.specs.Ring.{submitted_in}
use Rattle.tables.specs.declared.entries.TheConstants.{TABLE_ENTRIES}
use Rattle.tables.specs.Pool.{word}
use Rattle.engine.specs.Domains.{Domain, domain_at}
use Rattle.engine.specs.Ending.{status_of}
use Rattle.engine.specs.State.{Becomes, State}
use Rattle.engine.specs.Steps.{Does}
use Rattle.engine.specs.Tickets.{KeepsTickets}
use Rattle.engine.proofs.lists.Places.{get_set_other}
use Rattle.quiet.specs.Quiet.{IsSound}
use Rattle.driven.specs.declared.effect.Effect.{Effect}
use Rattle.driven.specs.declared.effect.Effect.TheVariants.{Context}
use Rattle.driven.specs.Effects.{AreEffects, BringsAll, IsBrought, IsSending, Sends, by_mode, in_mode, in_order, waited}
use Rattle.driven.specs.Laws.{MayChange}
use Rattle.driven.specs.Telling.{HasSent, IsSentBy, with_wait}
use Rattle.driven.proofs.Brought.{none_brought, none_for_tables}
use Rattle.driven.proofs.Calls.{calls_change}
use Rattle.driven.proofs.Fills.{same_fill}
use Rattle.driven.proofs.InFrames.{none_in_frames}
use Rattle.driven.proofs.Sent.{submits}

-- ---- a refused call

refused_same : (m t : State) (call : Call) (r : Refusal) → Becomes m call (Refused r) t → t ≡ record m { calls = m.calls + 1 }
unfolding Becomes
refused_same m t (calls.Domain mode width) r is = is
refused_same m t (calls.Attach device domain) r is = is
refused_same m t (calls.Detach device) r is = is
refused_same m t (calls.Drop domain) r is = is
refused_same m t (calls.Map domain frame pages order rights) r is = is
refused_same m t (calls.MapList domain order rights segments) r is = is
refused_same m t (calls.Unmap domain address pages) r is = is
refused_same m t (calls.Flush domain) r is = is
refused_same m t (calls.Begin domain) r is = is
refused_same m t calls.Unit r is = is
refused_same m t (calls.Reap domain number) r is = is
refused_same m t (calls.Dma device address access whim) r is = is
refused_same m t (calls.Evict kind place) r is = is

nothing_by : (d : Option Domain) → in_mode d [] [] ≡ []
nothing_by None = refl
nothing_by (Some h) = by (h.mode)
  where
    by : (mode : Mode) → by_mode mode [] [] ≡ []
    by Strict = refl
    by Lazy = refl

pub nothing_in_order : (m : State) (call : Call) → in_order m call [] [] ≡ []
nothing_in_order m (calls.Domain mode width) = refl
nothing_in_order m (calls.Attach device domain) = refl
nothing_in_order m (calls.Detach device) = refl
nothing_in_order m (calls.Drop domain) = refl
nothing_in_order m (calls.Map domain frame pages order rights) = refl
nothing_in_order m (calls.MapList domain order rights segments) = refl
nothing_in_order m (calls.Unmap domain address pages) = nothing_by (domain_at m.domains domain)
nothing_in_order m (calls.Flush domain) = refl
nothing_in_order m (calls.Begin domain) = refl
nothing_in_order m calls.Unit = refl
nothing_in_order m (calls.Reap domain number) = refl
nothing_in_order m (calls.Dma device address access whim) = refl
nothing_in_order m (calls.Evict kind place) = refl

-- what needs nothing brought
pub brings_nothing : (m t : State) → t.pool.words ≡ m.pool.words → t.iommu.contexts ≡ m.iommu.contexts → BringsAll m t []
brings_nothing m t words row = record {
  for_memory = for_memory t [] none_for_tables;
  inside = λ f k inside told. absurd (none_brought f k told);
  words = λ f k inside differs. absurd (differs (ap (λ ws. word ws f k) (sym words)));
  contexts = λ v differs. absurd (differs (ap (λ r. slice_get r v) (sym row)));
  fills = same_fill m t words [];
  ends = inl refl;
}

pub refused : (m t : State) (call : Call) (r : Refusal) → Does m call (Refused r) t → AreEffects m call (Refused r) t []
refused m t call r does =
    let is = refused_same m t call r does.becomes in
    record {
      quiet = refl;
      brought = [];
      sent = [];
      brings = brings_nothing m t (ap (λ (x : State). x.pool.words) is) (ap (λ (x : State). x.iommu.contexts) is);
      sends = inl (record {
        none = refl;
        waits = ap (λ (x : State). x.iommu.sent) is;
        submitted = ap (λ (x : State). submitted_in x.iommu.ring) is;
      });
      ordered = sym (nothing_in_order m call);
      in_frames = λ other. none_in_frames;
    }

-- ---- what was sent

one_wait : (awaits : Bool) (number : ℕ) → length (with_wait awaits number) ≤ 1
one_wait true number = omega arith
one_wait false number = omega arith

pub few_sent : (t : State) (waits : ℕ) (awaits : Bool) (es : List Effect) → IsSentBy t waits awaits es → length es ≤ 3
few_sent t waits awaits es sent =
    elim sent [
      | inl none ↦ omega (arith, ap length none.1)
      | inr some ↦
          let (d, w, e, f, (ne, one, zero, se, sf, is)) = some in omega (arith, ap length is, one_wait awaits t.iommu.sent)
    ]

module _ (m t : State) (call : Call) (reply : Reply) (tickets : KeepsTickets m) (does : Does m call reply t) where
  pub has_sent : HasSent t m.iommu.sent
  has_sent =
      elim (submits m t tickets call reply does) [
        | inl q ↦ inl q.0
        | inr p ↦ inr (subst (λ ds. 2 ≤ length ds) (sym p.1.submitted) (omega arith))
      ]

  pub sent_part : (awaits : Bool) (es : List Effect) → waited call t.iommu.sent ≡ with_wait awaits t.iommu.sent
      → IsSentBy t m.iommu.sent awaits es → Sends m call t es
  sent_part awaits es by sent =
      elim (submits m t tickets call reply does) [
        | inl q ↦ elim sent [
          | inl none ↦ inl (record { none = none.1; waits = q.0; submitted = q.1 })
          | inr some ↦ absurd (some.4.0 q.0)
        ]
        | inr p ↦ elim sent [
          | inl none ↦ absurd (omega (arith, none.0, p.1.waits))
          | inr some ↦
              let (d, w, e, f, (ne, one, zero, se, sf, is)) = some in
              inr (
                p.0,
                e,
                f,
                (
                  p.1,
                  subst (λ x. IsSending x e) (same_Some d p.0 (sym one ∙ ap (λ ds. slice_get ds 1) p.1.submitted)) se,
                  subst (λ x. IsSending x f)
                      (same_Some w (Wait (status_of t.iommu.sent)) (sym zero ∙ ap (λ ds. slice_get ds 0) p.1.submitted)) sf,
                  is ∙ ap (λ xs. e ∷ f ∷ xs) (sym by),
                ),
              )
        ]
      ]

  -- where nothing was submitted, nothing is sent
  pub sends_nothing : (es : List Effect) (awaits : Bool) → t.iommu.sent ≡ m.iommu.sent → IsSentBy t m.iommu.sent awaits es → es ≡ []
  sends_nothing es awaits same sent = elim sent [ inl none ↦ none.1 | inr some ↦ absurd (some.4.0 same) ]

  -- a call that changes no word
  pub words_stay : IsSound m → ((f k : ℕ) → MayChange m call reply t f k → ⊥) → (es : List Effect) (f k : ℕ) → k < TABLE_ENTRIES
      → word m.pool.words f k ≢ word t.pool.words f k → IsBrought es f k
  words_stay sound none es f k inside differs = absurd (none f k (calls_change m t call reply f k sound does inside differs))

-- ---- the row of contexts

-- a device's entry alone was changed
pub one_entry : (m t : State) (device : ℕ) (first : Half) (e : ContextEntry) → t.iommu.contexts ≡ slice_set m.iommu.contexts device e
    → (es : List Effect) → GoesFirst t device first → IsIn (Context device first) es → (v : ℕ)
    → slice_get m.iommu.contexts v ≢ slice_get t.iommu.contexts v → (half : Half) × (GoesFirst t v half × IsIn (Context v half) es)
one_entry m t device first e is es goes told v differs =
    elim (same_or_not v device) [
      | inl same ↦ subst (λ n. (half : Half) × (GoesFirst t n half × IsIn (Context n half) es)) (sym same) (first, (goes, told))
      | inr ne ↦ absurd (differs (sym (ap (λ r. slice_get r v) is ∙ get_set_other m.iommu.contexts device v e ne)))
    ]

pub whole_row : (m t : State) → t.iommu.contexts ≡ m.iommu.contexts → (es : List Effect) (v : ℕ)
    → slice_get m.iommu.contexts v ≢ slice_get t.iommu.contexts v → (half : Half) × (GoesFirst t v half × IsIn (Context v half) es)
whole_row m t row es v differs = absurd (differs (ap (λ r. slice_get r v) (sym row)))
