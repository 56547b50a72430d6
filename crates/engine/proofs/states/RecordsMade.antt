-- The next wait is sent after all records of a state were made, whatever call goes before it.
use Rattle.std.proofs.Common.{◌≡◌, ℕ, zero, suc, ◌+◌, ◌-◌, ◌≤◌, inl, inr, List, [], ◌∷◌, ◌++◌, Option, Some, None}
use Rattle.std.proofs.Common.{refl, sym, ap, subst, ◌∙◌, arith}
use Rattle.std.proofs.Common.{slice_get, slice_set, Bool, true, false, filter, not, if◌then◌else◌}
use Rattle.std.specs.Option.{option_flatten}
use Rattle.dmatypes.specs.World.{IsIn}
use Rattle.dmatypes.specs.declared.call.Call.{Call}
use Rattle.dmatypes.specs.declared.call.Call.TheVariants as calls
use Rattle.dmatypes.specs.declared.call.Mode.{Mode}
use Rattle.dmatypes.specs.declared.call.Mode.TheVariants.{Strict, Lazy}
use Rattle.dmatypes.specs.declared.reply.Reply.{Reply}
use Rattle.dmatypes.specs.declared.reply.Reply.TheVariants.{Made, Done, Mapped, Unmapped, Flushed, Reaped, Refused, Stepped}
use Rattle.dmatypes.specs.Page.{Range}
use Rattle.engine.specs.declared.iommu.Iommu.{Iommu}
use Rattle.engine.specs.declared.record.Record.{Record}
use Rattle.engine.specs.Domains.{AreMadeBefore, Domain, Operands, domain_at}
use Rattle.engine.specs.Ending.{ByMode, MakesRoom, PutsOff, UnmapsStrictly, was_before}
use Rattle.engine.specs.State.{Becomes, State, begins, operands_in}
use Rattle.engine.specs.Whole.{AllAreBegun, AllAreMade}
use Rattle.engine.proofs.domains.OneChanged.{domain_of_place}
use Rattle.engine.proofs.lists.Membership.{in_either, in_set}

-- ---- a domain of the state

in_place : (domains : List (Option Domain)) (i : ℕ) (h : Domain) → option_flatten (slice_get domains i) ≡ Some h → IsIn (Some h) domains
in_place [] i h at = absurd cc
in_place (None ∷ rest) zero h at = absurd cc
in_place (Some k ∷ rest) zero h at = inl (sym at)
in_place (o ∷ rest) (suc i) h at = inr (in_place rest i h at)

pub domain_in : (domains : List (Option Domain)) (d : ℕ) (h : Domain) → domain_at domains d ≡ Some h → IsIn (Some h) domains
domain_in domains zero h there = absurd cc
domain_in domains (suc i) h there =
    let next : suc i ≡ i + 1 = omega arith in in_place domains i h (sym (domain_of_place domains i) ∙ (rw next at there))

-- ---- its records

none_made : (number : ℕ) (records : List Record) → records ≡ [] → AreMadeBefore number records
none_made number records none = rw none (λ r inside. absurd inside)

abbrev records_of : Option Domain → List Record
records_of None = []
records_of (Some h) = h.records

-- those of a domain after an unmap
module _ (old : Operands) (id released : ℕ) (range : Range) (new : Operands) (later : old.iommu.sent ≤ new.iommu.sent)
    (made : AreMadeBefore (new.iommu.sent + 1) old.domain.records) where
  roomy_made : (roomy : Operands) → MakesRoom old id released roomy → AreMadeBefore (new.iommu.sent + 1) roomy.domain.records
  roomy_made roomy (inl has) = rw has.same made
  roomy_made roomy (inr empties) = none_made (new.iommu.sent + 1) roomy.domain.records (ap (λ (h : Domain). h.records) empties.flushes.same)

  ended_made : (mode : Mode) → ByMode mode ((released ≡ 0) × UnmapsStrictly old id range new) (PutsOff old id range released new)
      → AreMadeBefore (new.iommu.sent + 1) new.domain.records
  ended_made Strict does =
      let same = ap (λ (h : Domain). h.records) does.1.same ∙ ap (λ (h : Domain). h.records) does.1.retires.same in rw same made
  ended_made Lazy does =
      let same = ap (λ (h : Domain). h.records) does.last
      ∙ ap (λ (h : Domain). h.records ++ does.retired ∷ []) does.retires.same in
      rw same (λ r inside. elim (in_either r does.retired does.roomy.domain.records inside) [
        | inl earlier ↦ roomy_made does.roomy does.room r earlier
        | inr last ↦
            let stamp = ap (λ (x : Record). x.sent) last ∙ does.made in
            let quiet = ap (λ (x : Iommu). x.sent) does.quiet in
            omega (arith, stamp, quiet)
      ])

in_filter : {X : Type 0} (test : X → Bool) (x : X) (xs : List X) → IsIn x (filter test xs) → IsIn x xs
in_filter test x [] inside = inside
in_filter test x (y ∷ ys) inside = by_test (test y) (in_filter test x ys) inside
  where
    by_test : (b : Bool) → (IsIn x (filter test ys) → IsIn x ys) → IsIn x (if b then y ∷ filter test ys else filter test ys)
        → IsIn x (y ∷ ys)
    by_test true more (inl same) = inl same
    by_test true more (inr rest) = inr (more rest)
    by_test false more rest = inr (more rest)

-- ---- a call

module _ (m t : State) (later : m.iommu.sent ≤ t.iommu.sent) (made : AllAreMade m) where
  still_made : (h : Domain) → IsIn (Some h) m.domains → AreMadeBefore (t.iommu.sent + 1) h.records
  still_made h inside r at = omega (arith, later, made h inside r at)

  -- no domain changes
  same_made : t.domains ≡ m.domains → AllAreMade t
  same_made same h inside = still_made h (subst (λ ds. IsIn (Some h) ds) same inside)

  -- one does
  one_made : (i : ℕ) (o : Option Domain) → t.domains ≡ slice_set m.domains i o → AreMadeBefore (t.iommu.sent + 1) (records_of o)
      → AllAreMade t
  one_made i o is new h inside = elim (in_set m.domains i o (Some h) (subst (λ ds. IsIn (Some h) ds) is inside)) [
    | inl same ↦ subst (λ (x : Option Domain). AreMadeBefore (t.iommu.sent + 1) (records_of x)) (sym same) new
    | inr other ↦ still_made h other
  ]

  -- one does, but for its records
  space_made : (i d : ℕ) (h new : Domain) → t.domains ≡ slice_set m.domains i (Some new) → domain_at m.domains d ≡ Some h
      → new.records ≡ h.records → AllAreMade t
  space_made i d h new is there same = one_made i (Some new) is (rw same (still_made h (domain_in m.domains d h there)))

pub made_kept : (m t : State) (call : Call) (reply : Reply) → Becomes m call reply t → m.iommu.sent ≤ t.iommu.sent → AllAreMade m
    → AllAreMade t
unfolding Becomes
made_kept m t (calls.Domain mode width) (Made d) (root, takes, is) later made =
    one_made m t later made (d - 1) _ (ap (λ (x : State). x.domains) is) (λ r none. absurd none)
made_kept m t (calls.Domain mode width) _ is later made = same_made m t later made (ap (λ (x : State). x.domains) is)
made_kept m t (calls.Attach device domain) Done (h, there, is) later made = same_made m t later made (ap (λ (x : State). x.domains) is)
made_kept m t (calls.Attach device domain) _ is later made = same_made m t later made (ap (λ (x : State). x.domains) is)
made_kept m t (calls.Drop domain) Done (h, there, closes, is) later made =
    one_made m t later made (domain - 1) None (ap (λ (x : State). x.domains) is) (λ r none. absurd none)
made_kept m t (calls.Drop domain) _ is later made = same_made m t later made (ap (λ (x : State). x.domains) is)
made_kept m t (calls.Detach device) Done (domain, root, width, at, sends, is) later made =
    same_made m t later made (ap (λ (x : State). x.domains) is)
made_kept m t (calls.Detach device) _ is later made = same_made m t later made (ap (λ (x : State). x.domains) is)
made_kept m t (calls.Map domain frame pages order rights) (Mapped address) (h, new, there, places, sends, is) later made =
    space_made m t later made (domain - 1) domain h new (ap (λ (x : State). x.domains) is) there
    (ap (λ (x : Domain). x.records) places.same)
made_kept m t (calls.Map domain frame pages order rights) _ is later made = same_made m t later made (ap (λ (x : State). x.domains) is)
made_kept m t (calls.MapList domain order rights segments) (Mapped address) (h, new, there, places, sends, is) later made =
    space_made m t later made (domain - 1) domain h new (ap (λ (x : State). x.domains) is) there
    (ap (λ (x : Domain). x.records) places.same)
made_kept m t (calls.MapList domain order rights segments) _ is later made =
    same_made m t later made (ap (λ (x : State). x.domains) is)
made_kept m t (calls.Flush domain) (Flushed released) (h, new, there, flushes, is) later made =
    one_made m t later made (domain - 1) (Some new) (ap (λ (x : State). x.domains) is)
    (none_made (t.iommu.sent + 1) new.records (ap (λ (x : Domain). x.records) flushes.same))
made_kept m t (calls.Flush domain) _ is later made = same_made m t later made (ap (λ (x : State). x.domains) is)
made_kept m t (calls.Unmap domain address pages) (Unmapped released) (h, new, there, ends, is) later made =
    one_made m t later made (domain - 1) (Some new) (ap (λ (x : State). x.domains) is)
    (ended_made (operands_in m h) domain released _ (operands_in t new) later (still_made m t later made h
    (domain_in m.domains domain h there))
    h.mode ends)
made_kept m t (calls.Unmap domain address pages) _ is later made = same_made m t later made (ap (λ (x : State). x.domains) is)
made_kept m t (calls.Dma device address access whim) (Refused refusal) is later made =
    same_made m t later made (ap (λ (x : State). x.domains) is)
made_kept m t (calls.Dma device address access whim) _ (answer, reached, answers, filled, is) later made =
    same_made m t later made (ap (λ (x : State). x.domains) is)
made_kept m t (calls.Begin domain) (Reply.Ticket other number) (h, there, new, id, begins_is, is) later made =
    space_made m t later made (domain - 1) domain h (begins h) (ap (λ (x : State). x.domains) is) there refl
made_kept m t (calls.Begin domain) _ is later made = same_made m t later made (ap (λ (x : State). x.domains) is)
made_kept m t calls.Unit (Stepped progress) is later made = same_made m t later made (ap (λ (x : State). x.domains) is)
made_kept m t calls.Unit _ is later made = same_made m t later made (ap (λ (x : State). x.domains) is)
made_kept m t (calls.Reap domain number) (Reaped released) (h, new, there, reaps, is) later made =
    one_made m t later made (domain - 1) (Some new) (ap (λ (x : State). x.domains) is)
    (λ r inside. still_made m t later made h (domain_in m.domains domain h there) r
    (in_filter (λ x. not (was_before number x)) r h.records (subst (IsIn r) (ap (λ (x : Domain). x.records) reaps.same) inside)))
made_kept m t (calls.Reap domain number) _ is later made = same_made m t later made (ap (λ (x : State). x.domains) is)
made_kept m t (calls.Evict kind place) Done is later made = same_made m t later made (ap (λ (x : State). x.domains) is)
made_kept m t (calls.Evict kind place) _ is later made = same_made m t later made (ap (λ (x : State). x.domains) is)

-- ---- the flushes that were begun

ended_begun : (old : Operands) (id released : ℕ) (range : Range) (new : Operands) (mode : Mode)
    → ByMode mode ((released ≡ 0) × UnmapsStrictly old id range new) (PutsOff old id range released new)
    → new.domain.begun ≡ old.domain.begun
ended_begun old id released range new Strict does =
    ap (λ (h : Domain). h.begun) does.1.same ∙ ap (λ (h : Domain). h.begun) does.1.retires.same
ended_begun old id released range new Lazy does =
    ap (λ (h : Domain). h.begun) does.last ∙ ap (λ (h : Domain). h.begun) does.retires.same ∙ elim does.room [
      | inl has ↦ ap (λ (p : Operands). p.domain.begun) has.same
      | inr empties ↦ ap (λ (h : Domain). h.begun) empties.flushes.same
    ]

module _ (m t : State) (later : m.iommu.sent ≤ t.iommu.sent) (begun : AllAreBegun m) where
  still_begun : (h : Domain) → IsIn (Some h) m.domains → h.begun ≤ t.iommu.sent
  still_begun h inside = omega (arith, later, begun h inside)

  same_begun : t.domains ≡ m.domains → AllAreBegun t
  same_begun same h inside = still_begun h (subst (λ ds. IsIn (Some h) ds) same inside)

  none_begun : (i : ℕ) → t.domains ≡ slice_set m.domains i None → AllAreBegun t
  none_begun i is h inside = elim (in_set m.domains i None (Some h) (subst (λ ds. IsIn (Some h) ds) is inside)) [
    | inl same ↦ absurd cc
    | inr other ↦ still_begun h other
  ]

  one_begun : (i : ℕ) (new : Domain) → t.domains ≡ slice_set m.domains i (Some new) → new.begun ≤ t.iommu.sent → AllAreBegun t
  one_begun i new is few h inside = elim (in_set m.domains i (Some new) (Some h) (subst (λ ds. IsIn (Some h) ds) is inside)) [
    | inl same ↦ let this : h.begun ≡ new.begun = ap begun_in same in omega (arith, this, few)
    | inr other ↦ still_begun h other
  ] where
    begun_in : Option Domain → ℕ
    begun_in None = 0
    begun_in (Some x) = x.begun

  there_begun : (i d : ℕ) (h new : Domain) → t.domains ≡ slice_set m.domains i (Some new) → domain_at m.domains d ≡ Some h
      → new.begun ≤ h.begun → AllAreBegun t
  there_begun i d h new is there few =
      let was = begun h (domain_in m.domains d h there) in one_begun i new is (omega (arith, was, few, later))

pub begun_kept : (m t : State) (call : Call) (reply : Reply) → Becomes m call reply t → m.iommu.sent ≤ t.iommu.sent → AllAreBegun m
    → AllAreBegun t
unfolding Becomes
begun_kept m t (calls.Domain mode width) (Made d) (root, takes, is) later begun =
    one_begun m t later begun (d - 1) _ (ap (λ (x : State). x.domains) is) (omega arith)
begun_kept m t (calls.Domain mode width) _ is later begun = same_begun m t later begun (ap (λ (x : State). x.domains) is)
begun_kept m t (calls.Drop domain) Done (h, there, closes, is) later begun =
    none_begun m t later begun (domain - 1) (ap (λ (x : State). x.domains) is)
begun_kept m t (calls.Drop domain) _ is later begun = same_begun m t later begun (ap (λ (x : State). x.domains) is)
begun_kept m t (calls.Map domain frame pages order rights) (Mapped address) (h, new, there, places, sends, is) later begun =
    there_begun m t later begun (domain - 1) domain h new (ap (λ (x : State). x.domains) is) there
    (let same = ap (λ (x : Domain). x.begun) places.same in omega (arith, same))
begun_kept m t (calls.Map domain frame pages order rights) _ is later begun = same_begun m t later begun (ap (λ (x : State). x.domains) is)
begun_kept m t (calls.MapList domain order rights segments) (Mapped address) (h, new, there, places, sends, is) later begun =
    there_begun m t later begun (domain - 1) domain h new (ap (λ (x : State). x.domains) is) there
    (let same = ap (λ (x : Domain). x.begun) places.same in omega (arith, same))
begun_kept m t (calls.MapList domain order rights segments) _ is later begun = same_begun m t later begun (ap (λ (x : State). x.domains) is)
begun_kept m t (calls.Flush domain) (Flushed released) (h, new, there, flushes, is) later begun =
    there_begun m t later begun (domain - 1) domain h new (ap (λ (x : State). x.domains) is) there
    (let same = ap (λ (x : Domain). x.begun) flushes.same in omega (arith, same))
begun_kept m t (calls.Flush domain) _ is later begun = same_begun m t later begun (ap (λ (x : State). x.domains) is)
begun_kept m t (calls.Unmap domain address pages) (Unmapped released) (h, new, there, ends, is) later begun =
    there_begun m t later begun (domain - 1) domain h new (ap (λ (x : State). x.domains) is) there
    (let same = ended_begun (operands_in m h) domain released _ (operands_in t new) h.mode ends in omega (arith, same))
begun_kept m t (calls.Unmap domain address pages) _ is later begun = same_begun m t later begun (ap (λ (x : State). x.domains) is)
begun_kept m t (calls.Begin domain) (Reply.Ticket other number) (h, there, new, id, begins_is, is) later begun =
    let was = begun h (domain_in m.domains domain h there) in
    let one : t.iommu.sent ≡ m.iommu.sent + 1 = ap (λ (x : Iommu). x.sent) begins_is in
    one_begun m t later begun (domain - 1) (begins h) (ap (λ (x : State). x.domains) is) (omega (arith, was, one))
begun_kept m t (calls.Begin domain) _ is later begun = same_begun m t later begun (ap (λ (x : State). x.domains) is)
begun_kept m t (calls.Reap domain number) (Reaped released) (h, new, there, reaps, is) later begun =
    there_begun m t later begun (domain - 1) domain h new (ap (λ (x : State). x.domains) is) there
    (let same = ap (λ (x : Domain). x.begun) reaps.same in omega (arith, same))
begun_kept m t (calls.Reap domain number) _ is later begun = same_begun m t later begun (ap (λ (x : State). x.domains) is)
begun_kept m t (calls.Attach device domain) Done (h, there, is) later begun = same_begun m t later begun (ap (λ (x : State). x.domains) is)
begun_kept m t (calls.Attach device domain) _ is later begun = same_begun m t later begun (ap (λ (x : State). x.domains) is)
begun_kept m t (calls.Detach device) Done (domain, root, width, at, sends, is) later begun =
    same_begun m t later begun (ap (λ (x : State). x.domains) is)
begun_kept m t (calls.Detach device) _ is later begun = same_begun m t later begun (ap (λ (x : State). x.domains) is)
begun_kept m t calls.Unit (Stepped progress) is later begun = same_begun m t later begun (ap (λ (x : State). x.domains) is)
begun_kept m t calls.Unit _ is later begun = same_begun m t later begun (ap (λ (x : State). x.domains) is)
begun_kept m t (calls.Dma device address access whim) (Refused refusal) is later begun =
    same_begun m t later begun (ap (λ (x : State). x.domains) is)
begun_kept m t (calls.Dma device address access whim) _ (answer, reached, answers, filled, is) later begun =
    same_begun m t later begun (ap (λ (x : State). x.domains) is)
begun_kept m t (calls.Evict kind place) Done is later begun = same_begun m t later begun (ap (λ (x : State). x.domains) is)
begun_kept m t (calls.Evict kind place) _ is later begun = same_begun m t later begun (ap (λ (x : State). x.domains) is)
