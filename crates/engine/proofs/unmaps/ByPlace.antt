-- An unmap, by what the place of its domain answers.
use Rattle.std.proofs.Common.{◌≡◌, ℕ, ◌+◌, ◌-◌, ◌%◌, ◌<◌, ◌⊎◌, inl, inr, List, [], ◌∷◌, ◌++◌, length, Option, None, Some, Result, Err, Ok}
use Rattle.std.proofs.Common.{refl, sym, ap, subst, ◌∙◌, arith, slice_get, slice_set}
use Rattle.std.proofs.lemmas.List.{length-set}
use Rattle.dmatypes.specs.declared.call.Call.TheVariants as calls
use Rattle.dmatypes.specs.declared.call.Mode.{Mode}
use Rattle.dmatypes.specs.declared.call.Mode.TheVariants.{Strict, Lazy}
use Rattle.dmatypes.specs.declared.refusal.Refusal.{Refusal}
use Rattle.dmatypes.specs.declared.refusal.Refusal.TheVariants as refusals
use Rattle.dmatypes.specs.declared.reply.Reply.TheVariants.{Refused, Unmapped}
use Rattle.dmatypes.specs.Conditions.{IsBadUnmap}
use Rattle.dmatypes.specs.Page.{Fits, IsPageRange, range_at}
use Rattle.tables.specs.Pool.{Pool}
use Rattle.engine.specs.declared.iommu.Iommu.{Iommu}
use Rattle.engine.specs.declared.iommu.Shown.{Shown}
use Rattle.vtdbits.specs.declared.descriptor.Descriptor.{Descriptor}
use Rattle.vtdbits.specs.declared.descriptor.Descriptor.TheVariants.{IotlbDomain}
use Rattle.engine.specs.declared.answer.Unmapped as answer
use Rattle.engine.specs.Details.{released_by}
use Rattle.engine.specs.Ending.{ByMode, EndsBy, Invalidates, IsJudgedEnd, IsUnmapped, MakesRoom, PutsOff, RetiresAndUnmaps, UnmapsStrictly}
use Rattle.engine.specs.Ending.{domain_shown, record_shown, status_of}
use Rattle.engine.specs.Domains.{Domain, Operands, domain_at, operands_of}
use Rattle.engine.specs.State.{Becomes, Exact, State, operands_in, unmapped_reply}
use Rattle.engine.specs.Steps.{Does, Steps}
use Rattle.engine.specs.Whole.{IsWhole}
use Rattle.engine.proofs.lists.Places.{set_again}
use Rattle.engine.proofs.states.Refused.{counted, refuses, whole_quiet}
use Rattle.engine.proofs.caches.Sent.{changed, whole_sends}
use Rattle.engine.proofs.unmaps.DomainAfter.{domain_after}
use Rattle.engine.proofs.unmaps.Steps.{bad_range_step, full_steps, no_domain_step, no_frames_step, not_live_step, room_steps, strict_steps}
use Rattle.engine.proofs.unmaps.Steps.{too_many_step}
use Rattle.dmatypes.specs.declared.limits.TheConstants.{MOST_DOMAINS}
use Rattle.dmatypes.specs.declared.page.TheConstants.{PAGE_BYTES}

-- ---- refused

pub unmap_no_domain : (m t : State) (domain address pages : ℕ) → t ≡ counted m → domain_at m.domains domain ≡ None
    → Does m (calls.Unmap domain address pages) (Refused refusals.NoDomain) t
unfolding Exact
unmap_no_domain m t domain address pages is none =
    refuses m t (calls.Unmap domain address pages) refusals.NoDomain is tt (λ w q. no_domain_step m w domain address pages q none)

pub unmap_bad_range : (m t : State) (domain address pages : ℕ) (h : Domain) → t ≡ counted m → domain_at m.domains domain ≡ Some h
    → IsBadUnmap h.width address pages → Does m (calls.Unmap domain address pages) (Refused refusals.BadRange) t
unfolding Exact
unmap_bad_range m t domain address pages h is there bad =
    refuses m t (calls.Unmap domain address pages) refusals.BadRange is tt (λ w q. bad_range_step m w domain address pages h q there bad)

judged : (m : State) (domain address pages : ℕ) (h : Domain) (refusal : Refusal) → domain_at m.domains domain ≡ Some h
    → address % PAGE_BYTES ≡ 0
    → IsPageRange (range_at address pages) × Fits (range_at address pages) h.width
    → IsJudgedEnd m.pool h (range_at address pages) (Err refusal)
    → Does m (calls.Unmap domain address pages) (Refused refusal) (counted m)
unfolding Exact
judged m domain address pages h refusals.NotLive there whole fits dead =
    refuses m (counted m) (calls.Unmap domain address pages) refusals.NotLive refl tt
    (λ w q. not_live_step m w domain address pages h q there whole fits dead)
judged m domain address pages h refusals.TooManyPieces there whole fits many =
    refuses m (counted m) (calls.Unmap domain address pages) refusals.TooManyPieces refl (rw there many)
    (λ w q. too_many_step m w domain address pages h q there whole fits many.0)
judged m domain address pages h refusals.NoFrames there whole fits short =
    refuses m (counted m) (calls.Unmap domain address pages) refusals.NoFrames refl (rw there short)
    (λ w q. no_frames_step m w domain address pages h q there whole fits short.0.live)
judged m domain address pages h _ there whole fits other = absurd other

unmap_refused : (m : State) (domain address pages i : ℕ) (h new : Domain) (pool : Pool) (x : Iommu) (refusal : Refusal)
    → slice_get m.domains i ≡ Some (Some h) → domain_at m.domains domain ≡ Some h → address % PAGE_BYTES ≡ 0
    → IsPageRange (range_at address pages) × Fits (range_at address pages) h.width
    → IsUnmapped (operands_in m h) domain (range_at address pages) (Err refusal) (operands_of pool new x)
    → Does m (calls.Unmap domain address pages) (Refused refusal) (changed m i pool (Some new) x)
unmap_refused m domain address pages i h new pool x refusal at there whole fits ended =
    rw same (judged m domain address pages h refusal there whole fits ended.1)
  where
    same : changed m i pool (Some new) x ≡ counted m
    same = ap (λ (p : Operands). changed m i p.pool (Some p.domain) p.iommu) ended.0
        ∙ ap (λ (ds : List (Option Domain)). record m { domains = ds; calls = m.calls + 1 }) (set_again m.domains i (Some h) at)

-- ---- done

module _ (m : State) (address pages i released : ℕ) (h new : Domain) (pool : Pool) (x : Iommu) (many : length m.domains ≡ MOST_DOMAINS)
    (less : i < length m.domains)
    (there : domain_at m.domains (i + 1) ≡ Some h) (whole : address % PAGE_BYTES ≡ 0)
    (fits : IsPageRange (range_at address pages) × Fits (range_at address pages) h.width) where
  abbrev after : State
  after = changed m i pool (Some new) x

  abbrev old_operands : Operands
  old_operands = operands_in m h

  abbrev new_operands : Operands
  new_operands = operands_of pool new x

  strictly : h.mode ≡ Strict → released ≡ 0 → UnmapsStrictly old_operands (i + 1) (range_at address pages) new_operands
      → Steps m (calls.Unmap (i + 1) address pages) (Unmapped released) after
  strictly strict none does =
      rw none (strict_steps m after i address pages h does.between does.retired many less there whole fits does.of_range
      does.invalidates.contexts refl (status_of x.sent) does.descriptor does.pool_between new.space strict does.retires does.sent
      does.invalidates.caches does.invalidates.caching
      does.releases (ap (λ (d : Domain). slice_set m.domains i (Some d))
      (does.same ∙ ap (λ (d : Domain). record d { space = new.space }) does.retires.same)))

  lazily : h.mode ≡ Lazy → IsJudgedEnd m.pool h (range_at address pages) (Ok tt)
      → (does : PutsOff old_operands (i + 1) (range_at address pages) released new_operands)
      → MakesRoom old_operands (i + 1) released does.roomy
      → Steps m (calls.Unmap (i + 1) address pages) (Unmapped released) after
  lazily lazy may does (inl has) =
      let retires : RetiresAndUnmaps m.pool h does.retired pool does.between =
      subst (λ (p : Operands). RetiresAndUnmaps p.pool p.domain does.retired pool does.between) has.same does.retires in
      let quiet : x ≡ m.iommu = does.quiet ∙ ap (λ (p : Operands). p.iommu) has.same in
      rw has.none (room_steps m after i address pages h does.between does.retired many less there whole fits does.of_range
      (ap (λ (y : Iommu). y.contexts) quiet) refl lazy has.some retires (ap (λ (y : Iommu). y.unit) quiet)
      (ap (λ (d : Domain). slice_set m.domains i (Some d))
      (does.last ∙ ap (λ (d : Domain). record d { records = d.records ++ does.retired ∷ [] }) retires.same)))
  lazily lazy may does (inr empties) =
      let flushes = empties.flushes in
      let retires : RetiresAndUnmaps does.roomy.pool (domain_after h does.roomy.domain.space []) does.retired pool does.between =
      subst (λ (d : Domain). RetiresAndUnmaps does.roomy.pool d does.retired pool does.between) flushes.same does.retires in
      let invalidates : Invalidates m.iommu (IotlbDomain (i + 1)) (domain_shown m.pool h) x =
      subst (λ (y : Iommu). Invalidates m.iommu (IotlbDomain (i + 1)) (domain_shown m.pool h) y) (sym does.quiet)
      flushes.invalidates in
      rw empties.all (full_steps m after i address pages h does.between does.retired many less there whole fits does.of_range
      invalidates.contexts refl (status_of x.sent) does.roomy.pool does.roomy.domain.space lazy empties.full may.0.live invalidates.caches
      invalidates.caching flushes.releases
      retires
      (ap (λ (d : Domain). slice_set m.domains i (Some d))
      (does.last ∙ ap (λ (d : Domain). record d { records = d.records ++ does.retired ∷ [] }) retires.same)))

  by_mode : (mode : Mode) → h.mode ≡ mode → IsJudgedEnd m.pool h (range_at address pages) (Ok tt)
      → ByMode mode ((released ≡ 0) × UnmapsStrictly old_operands (i + 1) (range_at address pages) new_operands)
      (PutsOff old_operands (i + 1) (range_at address pages) released new_operands)
      → Steps m (calls.Unmap (i + 1) address pages) (Unmapped released) after
  by_mode Strict strict may does = strictly strict does.0 does.1
  by_mode Lazy lazy may does = lazily lazy may does does.room

  unmap_done : IsJudgedEnd m.pool h (range_at address pages) (Ok tt)
      × EndsBy old_operands (i + 1) (range_at address pages) released new_operands
      → Does m (calls.Unmap (i + 1) address pages) (Unmapped released) after
  unfolding Exact Becomes
  unmap_done does = record {
    steps = by_mode h.mode refl does.0 does.1;
    exact = rw there does.0;
    becomes = (let here : i + 1 - 1 ≡ i = omega arith in (h, new, there, does.1, rw here refl));
    calls = refl;
  }

  -- what the type of a state keeps
  quiet_or_sent : (mode : Mode) → ByMode mode ((released ≡ 0) × UnmapsStrictly old_operands (i + 1) (range_at address pages) new_operands)
      (PutsOff old_operands (i + 1) (range_at address pages) released new_operands)
      → (x ≡ m.iommu) ⊎ ((d : Descriptor) × (seen : Option Shown) × Invalidates m.iommu d seen x)
  quiet_or_sent Strict does =
      inr (does.1.descriptor, record_shown h.root (range_at address pages) (length does.1.pool_between.free), does.1.invalidates)
  quiet_or_sent Lazy does = elim does.room [
    | inl has ↦ inl (does.quiet ∙ ap (λ (p : Operands). p.iommu) has.same)
    | inr empties ↦
        inr (
          IotlbDomain (i + 1),
          domain_shown m.pool h,
          subst (λ (y : Iommu). Invalidates m.iommu (IotlbDomain (i + 1)) (domain_shown m.pool h) y) (sym does.quiet)
              empties.flushes.invalidates,
        )
  ]

  unmap_whole : IsWhole m.pool.frames m → IsJudgedEnd m.pool h (range_at address pages) (Ok tt)
      × EndsBy old_operands (i + 1) (range_at address pages) released new_operands
      → IsWhole pool.frames after
  unmap_whole is does = elim (quiet_or_sent h.mode does.1) [
    | inl quiet ↦
        whole_quiet m after (calls.Unmap (i + 1) address pages) (Unmapped released) is (unmap_done does)
        (length-set m.domains i (Some new)) (ap (λ (y : Iommu). length y.contexts) quiet)
        (ap (λ (y : Iommu). y.ring) quiet) (ap (λ (y : Iommu). y.sent) quiet) (ap (λ (y : Iommu). y.unit.steps) quiet)
    | inr sent ↦
        whole_sends m after (calls.Unmap (i + 1) address pages) (Unmapped released) sent.0 m.iommu.contexts is (unmap_done does)
        (length-set m.domains i (Some new)) refl sent.2
  ]

-- ---- both

pub record AnswersUnmap (m : State) (domain address pages : ℕ) (answer : Result answer.Unmapped Refusal) (t : State) : Type 0 where
  pub does : Does m (calls.Unmap domain address pages) (unmapped_reply answer) t
  pub whole : IsWhole t.pool.frames t

pub unmap_answered : (m : State) (domain address pages i : ℕ) (h new : Domain) (pool : Pool) (x : Iommu)
    (answer : Result answer.Unmapped Refusal) → IsWhole m.pool.frames m → i < length m.domains → domain ≡ i + 1
    → slice_get m.domains i ≡ Some (Some h)
    → domain_at m.domains domain ≡ Some h → address % PAGE_BYTES ≡ 0 → IsPageRange (range_at address pages)
    × Fits (range_at address pages) h.width
    → IsUnmapped (operands_in m h) domain (range_at address pages) answer (operands_of pool new x)
    → AnswersUnmap m domain address pages answer (changed m i pool (Some new) x)
unmap_answered m domain address pages i h new pool x (Ok unmapped) is less id at there whole fits ended =
    let there' : domain_at m.domains (i + 1) ≡ Some h = rw id at there in
    let ended' : IsUnmapped (operands_in m h) (i + 1) (range_at address pages) (Ok unmapped) (operands_of pool new x) = rw id at ended in
    record {
      does = rw id (unmap_done m address pages i (released_by unmapped) h new pool x is.places less there' whole fits ended');
      whole = unmap_whole m address pages i (released_by unmapped) h new pool x is.places less there' whole fits is ended';
    }
unmap_answered m domain address pages i h new pool x (Err refusal) is less id at there whole fits ended =
    let does = unmap_refused m domain address pages i h new pool x refusal at there whole fits ended in
    let quiet : x ≡ m.iommu = ap (λ (p : Operands). p.iommu) ended.0 in
    record {
      does = does;
      whole =
          whole_quiet m (changed m i pool (Some new) x) (calls.Unmap domain address pages) (Refused refusal) is does
          (length-set m.domains i (Some new)) (ap (λ (y : Iommu). length y.contexts) quiet)
          (ap (λ (y : Iommu). y.ring) quiet) (ap (λ (y : Iommu). y.sent) quiet) (ap (λ (y : Iommu). y.unit.steps) quiet);
    }
