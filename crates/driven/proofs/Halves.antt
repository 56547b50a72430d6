-- What a unit reads of a context entry of which one half has reached memory.
use Rattle.std.proofs.Common.{◌≡◌, ◌⊎◌, inl, inr, ℕ, zero, suc, ◌%◌, Bool, true, false, if◌then◌else◌, Option, None, Some, List, [], ◌∷◌}
use Rattle.std.proofs.Common.{refl, sym, ap, subst, ◌∙◌, slice_get, slice_set, IsSome}
use Rattle.std.proofs.lemmas.Option.{none-some, same_Some}
use Rattle.dmatypes.proofs.histories.Maps.{same_or_not}
use Rattle.dmatypes.specs.Conditions.{Stands}
use Rattle.dmatypes.specs.Step.{IsStep}
use Rattle.dmatypes.specs.World.{World}
use Rattle.dmatypes.specs.declared.call.Call.{Call}
use Rattle.dmatypes.specs.declared.call.Call.TheVariants as calls
use Rattle.dmatypes.specs.declared.reply.Reply.{Reply}
use Rattle.dmatypes.specs.declared.reply.Reply.TheVariants.{Done}
use Rattle.vtdbits.specs.Context.{Spells, attached}
use Rattle.vtdbits.specs.declared.context.ContextEntry.{ContextEntry}
use Rattle.vtdbits.specs.declared.context.ContextEntry.TheVariants.{Absent, Present}
use Rattle.vtdbits.specs.declared.words.Words.{Words}
use Rattle.engine.specs.State.{Becomes, State}
use Rattle.engine.specs.Steps.{Does}
use Rattle.engine.proofs.lists.Places.{get_set_other, is_some}
use Rattle.quiet.specs.Quiet.{IsSound}
use Rattle.driven.specs.Effects.{first_half}
use Rattle.driven.specs.Laws.{ContextsAreOldOrNew, IsReadAs, IsReadFirst, halves_read}
use Rattle.driven.specs.declared.effect.Half.{Half}
use Rattle.driven.specs.declared.effect.Half.TheVariants.{High, Low}
use Rattle.driven.proofs.Rows.{rows}

-- ---- how an entry changes

busy : (w : World) (device domain : ℕ) → IsStep w (calls.Attach device domain) Done → IsSome (w.devices device) → ⊥
unfolding IsStep Stands
busy w device domain step some = step.0.1.1.0 some

cleared : (row : List ContextEntry) (device : ℕ) → attached (slice_get (slice_set row device Absent) device) ≡ None
cleared [] device = refl
cleared (x ∷ xs) zero = refl
cleared (x ∷ xs) (suc i) = cleared xs i

-- a device's entry stays, or was absent, or is absent
abbrev pub Goes : State → State → ℕ → Type 0
Goes m t v =
    (slice_get t.iommu.contexts v ≡ slice_get m.iommu.contexts v)
    ⊎ ((attached (slice_get m.iommu.contexts v) ≡ None) ⊎ (attached (slice_get t.iommu.contexts v) ≡ None))

module _ (m t : State) (v : ℕ) where
  stays : t.iommu.contexts ≡ m.iommu.contexts → Goes m t v
  stays row = inl (ap (λ r. slice_get r v) row)

  -- where the entry of a device is set
  set : (device : ℕ) (e : ContextEntry) → t.iommu.contexts ≡ slice_set m.iommu.contexts device e → (v ≡ device → Goes m t v) → Goes m t v
  set device e row here =
      elim (same_or_not v device) [
        | inl same ↦ here same
        | inr other ↦ inl (ap (λ r. slice_get r v) row ∙ get_set_other m.iommu.contexts device v e other)
      ]

  -- a device that is attached wasn't so before
  unattached : (device domain : ℕ) → IsSound m → Does m (calls.Attach device domain) Done t → v ≡ device
      → attached (slice_get m.iommu.contexts v) ≡ None
  unattached device domain sound does same = by (attached (slice_get m.iommu.contexts v)) refl
    where
      by : (o : Option ℕ) → attached (slice_get m.iommu.contexts v) ≡ o → attached (slice_get m.iommu.contexts v) ≡ None
      by None is = is
      by (Some d) is =
          absurd (busy sound.of_world.0 device domain (does.steps sound.of_world.0 sound.of_world.1).0
          (is_some (sound.of_world.0.devices device) d
          (sound.of_world.1.contexts.devices device ∙ ap (λ n. attached (slice_get m.iommu.contexts n)) (sym same) ∙ is)))

  goes : (call : Call) (reply : Reply) → IsSound m → Does m call reply t → Becomes m call reply t → Goes m t v
  unfolding Becomes
  goes (calls.Attach device domain) Done sound does (h, here, is) =
      set device (Present h.root h.width domain) (ap (λ (x : State). x.iommu.contexts) is)
      (λ same. inr (inl (unattached device domain sound does same)))
  goes (calls.Attach device domain) _ sound does is = stays (ap (λ (x : State). x.iommu.contexts) is)
  goes (calls.Detach device) Done sound does (e, root, width, at, done, is) =
      set device Absent done.contexts
      (λ same. inr (inr (ap (λ r. attached (slice_get r v)) done.contexts
      ∙ ap (λ n. attached (slice_get (slice_set m.iommu.contexts device Absent) n)) same ∙ cleared m.iommu.contexts device)))
  goes (calls.Detach device) _ sound does is = stays (ap (λ (x : State). x.iommu.contexts) is)
  goes (calls.Domain mode width) reply sound does is = stays (rows m t (calls.Domain mode width) reply is)
  goes (calls.Drop domain) reply sound does is = stays (rows m t (calls.Drop domain) reply is)
  goes (calls.Map domain frame pages order rights) reply sound does is =
      stays (rows m t (calls.Map domain frame pages order rights) reply is)
  goes (calls.MapList domain order rights segments) reply sound does is =
      stays (rows m t (calls.MapList domain order rights segments) reply is)
  goes (calls.Unmap domain address pages) reply sound does is = stays (rows m t (calls.Unmap domain address pages) reply is)
  goes (calls.Flush domain) reply sound does is = stays (rows m t (calls.Flush domain) reply is)
  goes (calls.Begin domain) reply sound does is = stays (rows m t (calls.Begin domain) reply is)
  goes calls.Unit reply sound does is = stays (rows m t calls.Unit reply is)
  goes (calls.Reap domain number) reply sound does is = stays (rows m t (calls.Reap domain number) reply is)
  goes (calls.Dma device address access whim) reply sound does is = stays (rows m t (calls.Dma device address access whim) reply is)
  goes (calls.Evict kind place) reply sound does is = stays (rows m t (calls.Evict kind place) reply is)

-- ---- what is read

module _ (old new : Words) (reached : Half → Bool) where
  abbrev Read : Words
  Read = halves_read old new reached

  abbrev Found : Type 0
  Found = IsReadAs Read old ⊎ IsReadAs Read new

  abbrev mixed : Bool → Bool → Words
  mixed low high = record { low = if low then new.low else old.low; high = if high then new.high else old.high }

  read_is : (low high : Bool) → reached Low ≡ low → reached High ≡ high → Read ≡ mixed low high
  read_is low high is is' = ap (λ b. mixed b (reached High)) is ∙ ap (λ b. mixed low b) is'

  -- both halves alike
  as_before : reached Low ≡ false → reached High ≡ false → Found
  as_before low high = inl (inl (read_is false false low high))

  as_after : reached Low ≡ true → reached High ≡ true → Found
  as_after low high = inr (inl (read_is true true low high))

  no_clash : {P : Type 0} (b : Bool) → b ≡ true → b ≡ false → P
  no_clash b is not = absurd (let clash : true ≡ false = sym is ∙ not in cc)

  -- the entry is absent after the call
  goes_away : new.low ≡ 0 → IsReadFirst Low reached → Found
  goes_away none first = by (reached Low) (reached High) refl refl
    where
      by : (low high : Bool) → reached Low ≡ low → reached High ≡ high → Found
      by true high is is' =
          inr (inr (ap (λ (w : Words). w.low % 2) (read_is true high is is') ∙ ap (λ n. n % 2) none, ap (λ n. n % 2) none))
      by false true is is' = no_clash (reached Low) (first High is') is
      by false false is is' = as_before is is'

  -- it was absent before the call
  comes : old.low ≡ 0 → IsReadFirst High reached → Found
  comes none first = by (reached Low) (reached High) refl refl
    where
      by : (low high : Bool) → reached Low ≡ low → reached High ≡ high → Found
      by true true is is' = as_after is is'
      by true false is is' = no_clash (reached High) (first Low is) is'
      by false high is is' =
          inl (inr (ap (λ (w : Words). w.low % 2) (read_is false high is is') ∙ ap (λ n. n % 2) none, ap (λ n. n % 2) none))

  -- it stays
  same_words : new ≡ old → Found
  same_words same = by (reached Low) (reached High) refl refl
    where
      by : (low high : Bool) → reached Low ≡ low → reached High ≡ high → Found
      by true true is is' = as_after is is'
      by false false is is' = as_before is is'
      by true false is is' =
          inl (inl (read_is true false is is' ∙ ap (λ n. record { low = n; high = old.high }) (ap (λ (w : Words). w.low) same)))
      by false true is is' =
          inl (inl (read_is false true is is' ∙ ap (λ n. record { low = old.low; high = n }) (ap (λ (w : Words). w.high) same)))

  spelled_alike : (e : ContextEntry) → Spells old e → Spells new e → new ≡ old
  spelled_alike Absent was is =
      ap (λ n. record { low = n; high = new.high }) (is.0 ∙ sym was.0) ∙ ap (λ n. record { low = old.low; high = n }) (is.1 ∙ sym was.1)
  spelled_alike (Present root width domain) was is =
      ap (λ n. record { low = n; high = new.high }) (is.2 ∙ sym was.2) ∙ ap (λ n. record { low = old.low; high = n }) (is.3 ∙ sym was.3)

  -- where both are spelled
  spelled : (e e' : ContextEntry) → Spells old e → Spells new e' → (e' ≡ e) ⊎ ((attached (Some e) ≡ None) ⊎ (attached (Some e') ≡ None))
      → IsReadFirst (first_half e') reached → Found
  spelled Absent Absent was is goes first = goes_away is.0 first
  spelled (Present root width domain) Absent was is goes first = goes_away is.0 first
  spelled Absent (Present root width domain) was is goes first = comes was.0 first
  spelled (Present root width domain) (Present root' width' domain') was is (inl same) first =
      same_words (spelled_alike (Present root width domain) was (subst (λ e. Spells new e) same is))
  spelled (Present root width domain) (Present root' width' domain') was is (inr (inl none)) first = absurd (none-some domain (sym none))
  spelled (Present root width domain) (Present root' width' domain') was is (inr (inr none)) first = absurd (none-some domain' (sym none))

pub contexts_old_or_new : ContextsAreOldOrNew
contexts_old_or_new m t call reply device half old new reached sound does (e, at, was) (e', at', is) (e'', (there, half_is)) first =
    spelled old new reached e e' was is
    (elim (goes m t device call reply sound does does.becomes) [
      | inl same ↦ inl (same_Some e' e (sym at' ∙ same ∙ at))
      | inr one ↦ elim one [
        | inl before ↦ inr (inl (ap attached (sym at) ∙ before))
        | inr after ↦ inr (inr (ap attached (sym at') ∙ after))
      ]
    ])
    (subst (λ h. IsReadFirst h reached) (half_is ∙ ap first_half (same_Some e'' e' (sym there ∙ at'))) first)
