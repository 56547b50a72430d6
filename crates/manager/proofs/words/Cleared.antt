-- Which rows are cleared at an event, as the bits of a number.
use Rattle.std.proofs.Common.{◌≡◌, ◌*◌, ◌^◌, ◌%◌, ◌<◌, ◌↔◌, ℕ, inl, inr, refl, sym, ap, subst, ◌∙◌, arith, Bool, true, false, List, Option}
use Rattle.std.proofs.Common.{None, Some, IsSomeAnd, IsTrue, slice_get, bit_or, w16}
use Rattle.std.specs.Int.{bit_at}
use Rattle.std.proofs.lemmas.Nat.Bits.{bit_at_set_same, bit_at_set_other, bit_at-zero}
use Rattle.dmatypes.specs.declared.call.Call.{Call}
use Rattle.dmatypes.specs.declared.call.Call.TheVariants as calls
use Rattle.dmatypes.specs.declared.call.Mode.{Mode}
use Rattle.dmatypes.specs.declared.reply.Reply.{Reply}
use Rattle.dmatypes.specs.declared.reply.Reply.TheVariants.{Done, Flushed, Reaped, Unmapped}
use Rattle.dmatypes.specs.Step.{next}
use Rattle.dmatypes.specs.World.{World}
use Rattle.dmatypes.specs.World as world
use Rattle.engine.specs.declared.answer.Detail.{Detail}
use Rattle.engine.specs.declared.answer.Detail.TheVariants as details
use Rattle.engine.specs.declared.answer.Unmapped as answer
use Rattle.engine.specs.Details.{mode_by, released_by}
use Rattle.engine.specs.Hits.{IsDetailIn}
use Rattle.engine.specs.Quarantine.{Quarantine}
use Rattle.vtdbits.specs.Context.{attached}
use Rattle.engine.specs.State.{State}
use Rattle.dmatypes.proofs.histories.Maps.{same_or_not}
use Rattle.ports.specs.Cleared.{IsCleared, TakesAway}

-- the bits are those of the devices whose rows are cleared
abbrev pub TellCleared : World → Call → Reply → ℕ → Type 0
TellCleared w call reply bits = (device : ℕ) → device < 16 → (bit_at bits device ≡ 1) ↔ IsCleared w call reply device

-- ---- one device

bit_of : (k other : ℕ) → k < 16 → (bit_at (bit_or 0 (1 * 2 ^ k % 2 ^ 16)) other ≡ 1) ↔ (other ≡ k)
bit_of k other low = elim (same_or_not other k) [
  | inl same ↦ (λ one. same, λ is. subst (λ n. bit_at (bit_or 0 (1 * 2 ^ k % 2 ^ 16)) n ≡ 1) (sym same) (bit_at_set_same w16 0 k low))
  | inr ne ↦ (
    λ one. let zero = bit_at_set_other w16 0 k low other ne ∙ bit_at-zero other in absurd (omega (arith, one, zero)),
    λ is. absurd (ne is),
  )
]

pub one_device : (k : ℕ) → k < 16 → (other : ℕ) → other < 16 → (bit_at (1 * 2 ^ k % 2 ^ 16) other ≡ 1) ↔ (other ≡ k)
one_device k low other small = bit_of k other low

-- no bit of 0 is set
pub no_bit : (device : ℕ) → bit_at 0 device ≡ 1 → ⊥
no_bit device one = absurd (omega (arith, one, bit_at-zero device))

-- no device
pub no_device : (w : World) (call : Call) (reply : Reply) → ((device : ℕ) → IsCleared w call reply device → ⊥) → TellCleared w call reply 0
no_device w call reply none device low = (
  λ one. let zero = bit_at-zero device in absurd (omega (arith, one, zero)),
  λ is. absurd (none device is),
)

-- ---- at a detach

pub told_detach : (w : World) (v bits : ℕ) → ((other : ℕ) → other < 16 → (bit_at bits other ≡ 1) ↔ (other ≡ v))
    → TellCleared w (calls.Detach v) Done bits
unfolding IsCleared
told_detach w v bits is = is

pub detach_cleared : (w : World) (v : ℕ) (reply : Reply) (other : ℕ) → IsCleared w (calls.Detach v) reply other → reply ≡ Done
unfolding IsCleared
detach_cleared w v Done other is = refl
detach_cleared w v _ other is = absurd is

-- ---- at a flush

pub told_flush : (m : State) (w : World) (domain n bits : ℕ) → Quarantine m (next w (calls.Flush domain) (Flushed n))
    → ((v : ℕ) → v < 16 → (bit_at bits v ≡ 1) ↔ (attached (slice_get m.iommu.contexts v) ≡ Some domain))
    → TellCleared w (calls.Flush domain) (Flushed n) bits
unfolding IsCleared next
told_flush m w domain n bits q is device low =
    let same : w.devices device ≡ attached (slice_get m.iommu.contexts device) = q.contexts.devices device in
    (λ one. same ∙ (is device low).0 one, λ there. (is device low).1 (sym same ∙ there))

pub flush_cleared : (w : World) (domain : ℕ) (reply : Reply) (other : ℕ) → IsCleared w (calls.Flush domain) reply other
    → (n : ℕ) × (reply ≡ Flushed n)
unfolding IsCleared
flush_cleared w domain (Flushed n) other is = (n, refl)
flush_cleared w domain _ other is = absurd is

-- ---- at a reap

pub told_reap : (m : State) (w : World) (domain number n bits : ℕ) → Quarantine m (next w (calls.Reap domain number) (Reaped n))
    → ((v : ℕ) → v < 16 → (bit_at bits v ≡ 1) ↔ (attached (slice_get m.iommu.contexts v) ≡ Some domain))
    → TellCleared w (calls.Reap domain number) (Reaped n) bits
unfolding IsCleared next
told_reap m w domain number n bits q is device low =
    let same : w.devices device ≡ attached (slice_get m.iommu.contexts device) = q.contexts.devices device in
    (λ one. same ∙ (is device low).0 one, λ there. (is device low).1 (sym same ∙ there))

pub reap_cleared : (w : World) (domain number : ℕ) (reply : Reply) (other : ℕ) → IsCleared w (calls.Reap domain number) reply other
    → (n : ℕ) × (reply ≡ Reaped n)
unfolding IsCleared
reap_cleared w domain number (Reaped n) other is = (n, refl)
reap_cleared w domain number _ other is = absurd is

-- ---- at an unmap

takes_by : (o : Option world.Domain) (unmapped : answer.Unmapped) (n : ℕ) → n ≡ released_by unmapped
    → IsSomeAnd o (λ v. v.mode ≡ mode_by unmapped)
    → TakesAway (mode_by unmapped) (released_by unmapped) ↔ IsSomeAnd o (λ v. TakesAway v.mode n)
takes_by None unmapped n count of_mode = absurd of_mode
takes_by (Some v) unmapped n count of_mode =
    subst (λ (mode : Mode). TakesAway (mode_by unmapped) (released_by unmapped) ↔ TakesAway mode n) (sym of_mode)
    (subst (λ k. TakesAway (mode_by unmapped) (released_by unmapped) ↔ TakesAway (mode_by unmapped) k) (sym count) (λ is. is, λ is. is))

-- what became of the pages says whether any were taken away
takes_at : (w : World) (domain address pages n : ℕ) (detail : Detail)
    → IsDetailIn w (calls.Unmap domain address pages) (Unmapped n) detail
    → (unmapped : answer.Unmapped) × (detail ≡ details.Unmapped unmapped)
    × (TakesAway (mode_by unmapped) (released_by unmapped) ↔ IsSomeAnd (w.domains domain) (λ v. TakesAway v.mode n))
unfolding IsDetailIn
takes_at w domain address pages n (details.Unmapped unmapped) is =
    (unmapped, refl, takes_by (w.domains domain) unmapped n is.0 is.1)
takes_at w domain address pages n details.Nothing is = absurd is
takes_at w domain address pages n (details.Hit hit) is = absurd is

-- whether an unmap took pages away is told exactly
abbrev pub TellsTaken : Detail → Bool → Type 0
TellsTaken detail takes = (unmapped : answer.Unmapped) → detail ≡ details.Unmapped unmapped
    → IsTrue takes ↔ TakesAway (mode_by unmapped) (released_by unmapped)

pub told_unmap : (m : State) (w : World) (domain address pages n bits : ℕ) (detail : Detail)
    → Quarantine m (next w (calls.Unmap domain address pages) (Unmapped n))
    → IsDetailIn w (calls.Unmap domain address pages) (Unmapped n) detail → TellsTaken detail true
    → ((v : ℕ) → v < 16 → (bit_at bits v ≡ 1) ↔ (attached (slice_get m.iommu.contexts v) ≡ Some domain))
    → TellCleared w (calls.Unmap domain address pages) (Unmapped n) bits
unfolding IsCleared next
told_unmap m w domain address pages n bits detail q of_domain takes is device low =
    let same : w.devices device ≡ attached (slice_get m.iommu.contexts device) = q.contexts.devices device in
    let taken = takes_at w domain address pages n detail of_domain in (
      λ one. (same ∙ (is device low).0 one, taken.2.0 ((takes taken.0 taken.1).0 refl)),
      λ there. (is device low).1 (sym same ∙ there.0),
    )

-- an unmap that takes nothing away
pub unmap_keeps : (w : World) (domain address pages n : ℕ) (detail : Detail)
    → IsDetailIn w (calls.Unmap domain address pages) (Unmapped n) detail → TellsTaken detail false
    → (device : ℕ) → IsCleared w (calls.Unmap domain address pages) (Unmapped n) device → ⊥
unfolding IsCleared
unmap_keeps w domain address pages n detail of_domain takes device is =
    let taken = takes_at w domain address pages n detail of_domain in
    let both : false ≡ true = (takes taken.0 taken.1).1 (taken.2.1 is.1) in cc

pub unmap_cleared : (w : World) (domain address pages : ℕ) (reply : Reply) (other : ℕ)
    → IsCleared w (calls.Unmap domain address pages) reply other → (n : ℕ) × (reply ≡ Unmapped n)
unfolding IsCleared
unmap_cleared w domain address pages (Unmapped n) other is = (n, refl)
unmap_cleared w domain address pages _ other is = absurd is

-- ---- at any other call

pub other_cleared : (w : World) (call : Call) (reply : Reply) (device : ℕ)
    → ((v : ℕ) → call ≡ calls.Detach v → ⊥) → ((d a p : ℕ) → call ≡ calls.Unmap d a p → ⊥) → ((d : ℕ) → call ≡ calls.Flush d → ⊥)
    → ((d t : ℕ) → call ≡ calls.Reap d t → ⊥) → IsCleared w call reply device → ⊥
unfolding IsCleared
other_cleared w (calls.Detach v) reply device detach unmap flush reap is = detach v refl
other_cleared w (calls.Unmap d a p) reply device detach unmap flush reap is = unmap d a p refl
other_cleared w (calls.Flush d) reply device detach unmap flush reap is = flush d refl
other_cleared w (calls.Reap d t) reply device detach unmap flush reap is = reap d t refl
other_cleared w _ reply device detach unmap flush reap is = is
