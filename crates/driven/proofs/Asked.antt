-- What a call asks, from what is told of it.
use Rattle.std.proofs.lemmas.List.Elements.{All-push}
use Rattle.driven.specs.Effects.{GoesFirst}
use Rattle.driven.specs.declared.effect.Half.{Half}
use Rattle.driven.proofs.Brought.{for_memory}
use Rattle.std.proofs.Common.{◌≡◌, ◌⊎◌, inl, inr, ℕ, Bool, Option, List, [], ◌∷◌, refl, subst, slice_set, sym}
use Rattle.std.specs.List.{All}
use Rattle.std.proofs.lemmas.List.Elements.{All-append, All-cons}
use Rattle.dmatypes.specs.declared.call.Call.{Call}
use Rattle.dmatypes.specs.declared.reply.Reply.{Reply}
use Rattle.dmatypes.specs.declared.reply.Reply.TheVariants.{Refused}
use Rattle.vtdbits.specs.declared.context.ContextEntry.{ContextEntry}
use Rattle.engine.specs.State.{State}
use Rattle.engine.specs.Steps.{Does}
use Rattle.engine.specs.Tickets.{KeepsTickets}
use Rattle.quiet.specs.Quiet.{IsSound}
use Rattle.driven.specs.declared.effect.Effect.{Effect}
use Rattle.driven.specs.declared.effect.Effect.TheVariants.{Barrier, Context}
use Rattle.driven.specs.declared.untold.Untold.{Untold}
use Rattle.driven.specs.declared.untold.Untold.TheVariants as untold
use Rattle.driven.specs.Driven.{Tells}
use Rattle.driven.specs.Effects.{AreEffects, BringsAll, IsBrought, IsForMemory, IsQuiet, Sends, StayInFrames, StaysInFrame, in_order}
use Rattle.driven.specs.Effects.{waited}
use Rattle.driven.specs.Laws.{MayChange}
use Rattle.driven.specs.Telling.{IsSentBy, with_wait}
use Rattle.driven.proofs.Brought.{brought_by, brought_either, none_brought, none_for_tables, one_for_tables}
use Rattle.driven.proofs.Fills.{none_fill}
use Rattle.driven.proofs.InFrames.{all_in_order, none_in_frames, sent_in_frames}
use Rattle.driven.proofs.Sent.{IsSilent, silent}
use Rattle.driven.proofs.Told.{nothing_in_order, one_entry, sent_part, whole_row, words_stay}

-- a device's context entry and the barrier after it
abbrev pub entry_told : ℕ → Half → List Effect
entry_told device first = Context device first ∷ Barrier ∷ []

entry_for_memory : (t : State) (device : ℕ) (first : Half) → GoesFirst t device first
    → All (λ e. IsForMemory t e) (entry_told device first)
entry_for_memory t device first is =
    All-append (λ e. IsForMemory t e) (Context device first ∷ []) (Barrier ∷ [])
    (All-push (λ e. IsForMemory t e) [] (Context device first) (for_memory t [] none_for_tables) is)
    (for_memory t (Barrier ∷ []) (one_for_tables Barrier tt))

pub entry_in_frames : (device : ℕ) (first : Half) → All StaysInFrame (entry_told device first)
entry_in_frames device first =
    All-cons StaysInFrame (Context device first) (Barrier ∷ []) tt (All-cons StaysInFrame Barrier [] tt none_in_frames)

-- it brings no word
no_word : (device : ℕ) (first : Half) (f k : ℕ) → IsBrought (entry_told device first) f k → ⊥
no_word device first f k there =
    elim (brought_either (Context device first ∷ []) (Barrier ∷ []) f k there) [
      | inl one ↦ brought_by (Context device first) f k one
      | inr last ↦ brought_by Barrier f k last
    ]

none_quiet : (reply : Reply) → IsQuiet reply []
none_quiet (Refused refusal) = refl
none_quiet reply = tt

module _ (m t : State) (call : Call) (reply : Reply) (sound : IsSound m) (tickets : KeepsTickets m) (does : Does m call reply t)
    (none : (f k : ℕ) → MayChange m call reply t f k → ⊥) where
  -- no word and no entry was changed
  pub nothing : t.iommu.contexts ≡ m.iommu.contexts → BringsAll m t []
  nothing row = record {
    for_memory = for_memory t [] none_for_tables;
    inside = λ f k inside told. absurd (none_brought f k told);
    words = words_stay m t call reply tickets does sound none [];
    contexts = whole_row m t row [];
    fills = none_fill m t call reply sound does none [];
    ends = inl refl;
  }

  -- the entry of one device was, at most
  pub one_for_entry : (device : ℕ) (first : Half) → GoesFirst t device first
      → (t.iommu.contexts ≡ m.iommu.contexts) ⊎ ((e : ContextEntry) × (t.iommu.contexts ≡ slice_set m.iommu.contexts device e))
      → BringsAll m t (entry_told device first)
  one_for_entry device first half row = record {
    ends = inr (Context device first ∷ [], refl);
    for_memory = entry_for_memory t device first half;
    inside = λ f k inside told. absurd (no_word device first f k told);
    words = words_stay m t call reply tickets does sound none (entry_told device first);
    contexts = elim row [
      | inl same ↦ whole_row m t same (entry_told device first)
      | inr other ↦ one_entry m t device first other.0 other.1 (entry_told device first) half (inl refl)
    ];
    fills = none_fill m t call reply sound does none (entry_told device first);
  }

  -- a call that submits nothing
  pub sends_none : IsSilent call → Sends m call t []
  sends_none s =
      let q = silent m t call reply s does.becomes in inl (record { none = refl; waits = q.0; submitted = q.1 })

  -- a call that neither changes nor submits anything asks nothing, whatever it is answered
  pub asks_nothing : IsSilent call → t.iommu.contexts ≡ m.iommu.contexts → AreEffects m call reply t []
  asks_nothing s row = record {
    quiet = none_quiet reply;
    brought = [];
    sent = [];
    brings = nothing row;
    sends = sends_none s;
    ordered = sym (nothing_in_order m call);
    in_frames = λ other. none_in_frames;
  }

-- ---- what is brought, and then sent

module _ (m t : State) (call : Call) (reply : Reply) (tickets : KeepsTickets m) (does : Does m call reply t) where
  pub asks : (waits : ℕ) (awaits : Bool) (brought more es : List Effect) → BringsAll m t brought → StayInFrames call brought
      → es ≡ in_order m call brought more → waits ≡ m.iommu.sent → waited call t.iommu.sent ≡ with_wait awaits t.iommu.sent
      → IsSentBy t waits awaits more → IsQuiet reply es → AreEffects m call reply t es
  asks waits awaits brought more es brings fit is were by sent quiet = record {
    quiet = quiet;
    brought = brought;
    sent = more;
    brings = brings;
    sends = sent_part m t call reply tickets does awaits more by (subst (λ n. IsSentBy t n awaits more) were sent);
    ordered = is;
    in_frames = λ other.
        subst (λ xs. All StaysInFrame xs) (sym is)
        (all_in_order StaysInFrame brought more (fit other) (sent_in_frames t waits awaits more sent) m call);
  }

-- ---- what can be told where all is told

pub all_told : (m : State) (told : List Effect) (tables : List (Option ℕ)) (u : Untold) (P : List Effect → Type 0) → u ≡ untold.Nothing
    → P told → (effects : List Effect) → Tells m told tables u effects → P effects
all_told m told tables u P none holds effects tells =
    let same : effects ≡ told = subst (λ v. Tells m told tables v effects) none tells in subst P (sym same) holds
