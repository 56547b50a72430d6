-- A reap: what was cached since its flush's descriptor was done.
use Rattle.std.proofs.Common.{◌≡◌, inl, inr, ℕ, ◌<◌, ◌≤◌, List, [], ◌∷◌, Some, sym, ap, ap₂, subst, ◌∙◌, arith}
use Rattle.std.proofs.lemmas.Option.{same_Some}
use Rattle.dmatypes.specs.History.{event}
use Rattle.dmatypes.specs.Step.{next}
use Rattle.dmatypes.specs.World.{IsIn}
use Rattle.dmatypes.specs.declared.call.Call.{Call}
use Rattle.dmatypes.specs.declared.call.Call.TheVariants as calls
use Rattle.dmatypes.specs.declared.reply.Event.{Event}
use Rattle.dmatypes.specs.declared.reply.Reply.{Reply}
use Rattle.dmatypes.specs.declared.reply.Reply.TheVariants.{Done, Reaped}
use Rattle.tables.specs.Pool.{occurs}
use Rattle.unit.specs.Caches.{CachedLeaf, CachedNonLeaf}
use Rattle.engine.proofs.domains.OneChanged.{domain_low}
use Rattle.engine.proofs.flushes.OneByOne.{dropped_leaf, dropped_table}
use Rattle.engine.specs.declared.record.Record.{Record}
use Rattle.engine.specs.Domains.{Domain, domain_at}
use Rattle.engine.specs.Ending.{Reaps}
use Rattle.engine.specs.State.{Becomes, State}
use Rattle.engine.specs.Steps.{Does, Goes}
use Rattle.quiet.specs.Laws.{ReapsForget}
use Rattle.quiet.specs.Quiet.{HoldsPageOf, IsEntry, IsInPlace, IsMetAmong, IsMetDuring, IsPassedAmong, IsPassedDuring, IsSound}
use Rattle.quiet.proofs.Every.{domain_then}
use Rattle.quiet.proofs.Kept.{entry_apart, place_apart}
use Rattle.quiet.proofs.Onward.{Onward, onward}
use Rattle.quiet.proofs.WhatIsMet.{cached_during}

-- ---- one call that leaves the record

same_entry : (words : List ℕ) (h h' : Domain) (leaf : CachedLeaf) → h'.root ≡ h.root → h'.width ≡ h.width → IsEntry words h leaf
    → IsEntry words h' leaf
same_entry words h h' leaf root width at = rw (width, root) at

same_place : (words : List ℕ) (h h' : Domain) (table : CachedNonLeaf) → h'.root ≡ h.root → h'.width ≡ h.width → IsInPlace words h table
    → IsInPlace words h' table
same_place words h h' table root width at = rw (width, root) at

module _ (m t : State) (call : Call) (reply : Reply) (d : ℕ) (h h' : Domain) (sound : IsSound m) (does : Does m call reply t)
    (there : domain_at m.domains d ≡ Some h) (then : domain_at t.domains d ≡ Some h') (goes : Onward h h') (r : Record)
    (inside : IsIn r h.records) (inside' : IsIn r h'.records) where
  met_apart : (leaf : CachedLeaf) → IsMetDuring m t h leaf → HoldsPageOf leaf r.range → ⊥
  met_apart leaf met holds = elim ((cached_during m t call reply d h h' sound does there then).0 leaf met) [
    | inl before ↦ entry_apart m sound.of_world.0 sound.of_world.1 d h there r inside leaf before holds
    | inr after ↦
        entry_apart t (next sound.of_world.0 call reply) (does.steps sound.of_world.0 sound.of_world.1).1 d h' then r inside' leaf
        (same_entry t.pool.words h h' leaf goes.root goes.width after) holds
  ]

  passed_apart : (table : CachedNonLeaf) → IsPassedDuring m t h table → occurs table.frame r.cut.frames ≡ 0
  passed_apart table met =
      let low = domain_low m.domains d h sound.places there in
      elim ((cached_during m t call reply d h h' sound does there then).1 table met) [
        | inl before ↦ place_apart m sound.of_world.0 sound.of_world.1 d h there r inside low table before
        | inr after ↦
            place_apart t (next sound.of_world.0 call reply) (does.steps sound.of_world.0 sound.of_world.1).1 d h' then r inside' low table
            (same_place t.pool.words h h' table goes.root goes.width after)
      ]

-- ---- the calls since the descriptor was done

module _ (m : State) (d number : ℕ) (h : Domain) (there : domain_at m.domains d ≡ Some h) (r : Record) (inside : IsIn r h.records)
    (early : r.mark < number) where
  not_dropped : (e : Event) (es : List Event) → (IsIn (event (calls.Drop d) Done) (e ∷ es) → ⊥) → e.call ≡ calls.Drop d → e.reply ≡ Done
      → ⊥
  not_dropped e es none call reply = none (inl (sym (ap₂ (λ (c : Call) (y : Reply). event c y) call reply)))

  -- one call on
  abbrev Next : State → Event → State → Domain → Type 0
  Next s e x k = (k' : Domain) × (domain_at x.domains d ≡ Some k') × Onward k k' × (number ≤ k'.begun) × IsSound x

  step_on : (s x : State) (e : Event) (es : List Event) (k : Domain) → IsSound s → domain_at s.domains d ≡ Some k → number ≤ k.begun
      → Does s e.call e.reply x → (IsIn (event (calls.Drop d) Done) (e ∷ es) → ⊥) → Next s e x k
  step_on s x e es k sound at begun does none =
      let o = onward s x d k sound at e.call e.reply does does.becomes (not_dropped e es none) in (
        o.0,
        o.1,
        o.2,
        omega (arith, begun, o.2.begun),
        record {
          of_world = (next sound.of_world.0 e.call e.reply, (does.steps sound.of_world.0 sound.of_world.1).1);
          places = o.3 ∙ sound.places;
        },
      )

  -- the record was there all the time
  kept : (es : List Event) (s : State) (k : Domain) → IsSound s → domain_at s.domains d ≡ Some k → number ≤ k.begun → Goes s es m
      → (IsIn (event (calls.Drop d) Done) es → ⊥) → IsIn r k.records
  kept [] s k sound at begun same none =
      subst (λ (y : Domain). IsIn r y.records)
      (same_Some h k (sym there ∙ ap (λ (y : State). domain_at y.domains d) (sym same) ∙ at)) inside
  kept (e ∷ es) s k sound at begun (x, (does, goes)) none =
      let n = step_on s x e es k sound at begun does none in
      elim (n.2.records r (kept es x n.0 n.4 n.1 n.3 goes (λ i. none (inr i)))) [
        | inl old ↦ old
        | inr late ↦ absurd (omega (arith, late, early, begun))
      ]

  met_among : (es : List Event) (s : State) (k : Domain) → IsSound s → domain_at s.domains d ≡ Some k → number ≤ k.begun
      → (IsIn (event (calls.Drop d) Done) es → ⊥) → (leaf : CachedLeaf) → IsMetAmong s es m d leaf → HoldsPageOf leaf r.range → ⊥
  met_among [] s k sound at begun none leaf met holds = met
  met_among (e ∷ es) s k sound at begun none leaf (x, does, goes, met) holds =
      let n = step_on s x e es k sound at begun does none in
      elim met [
        | inl here ↦
            let own : here.0 ≡ k = same_Some here.0 k (sym here.1 ∙ at) in
            met_apart s x e.call e.reply d k n.0 sound does at n.1 n.2 r
            (kept (e ∷ es) s k sound at begun (x, (does, goes)) none)
            (kept es x n.0 n.4 n.1 n.3 goes (λ i. none (inr i))) leaf
            (subst (λ (y : Domain). IsMetDuring s x y leaf) own here.2) holds
        | inr later ↦ met_among es x n.0 n.4 n.1 n.3 (λ i. none (inr i)) leaf later holds
      ]

  passed_among : (es : List Event) (s : State) (k : Domain) → IsSound s → domain_at s.domains d ≡ Some k → number ≤ k.begun
      → (IsIn (event (calls.Drop d) Done) es → ⊥) → (table : CachedNonLeaf) → IsPassedAmong s es m d table
      → occurs table.frame r.cut.frames ≡ 0
  passed_among [] s k sound at begun none table met = absurd met
  passed_among (e ∷ es) s k sound at begun none table (x, does, goes, met) =
      let n = step_on s x e es k sound at begun does none in
      elim met [
        | inl here ↦
            let own : here.0 ≡ k = same_Some here.0 k (sym here.1 ∙ at) in
            passed_apart s x e.call e.reply d k n.0 sound does at n.1 n.2 r
            (kept (e ∷ es) s k sound at begun (x, (does, goes)) none)
            (kept es x n.0 n.4 n.1 n.3 goes (λ i. none (inr i))) table
            (subst (λ (y : Domain). IsPassedDuring s x y table) own here.2)
        | inr later ↦ passed_among es x n.0 n.4 n.1 n.3 (λ i. none (inr i)) table later
      ]

  sound_then : (es : List Event) (s : State) (k : Domain) → IsSound s → domain_at s.domains d ≡ Some k → number ≤ k.begun → Goes s es m
      → (IsIn (event (calls.Drop d) Done) es → ⊥) → IsSound m
  sound_then [] s k sound at begun same none = subst IsSound same sound
  sound_then (e ∷ es) s k sound at begun (x, (does, goes)) none =
      let n = step_on s x e es k sound at begun does none in
      sound_then es x n.0 n.4 n.1 n.3 goes (λ i. none (inr i))

-- ---- the reap

abbrev Reaped' : State → State → ℕ → ℕ → Domain → Type 0
Reaped' m t d number h = (new : Domain) × Reaps m.pool h number t.pool new × (domain_at t.domains d ≡ Some new)

reaps : (m t : State) (d number released : ℕ) (h : Domain) → IsSound m → Becomes m (calls.Reap d number) (Reaped released) t
    → domain_at m.domains d ≡ Some h → Reaped' m t d number h
unfolding Becomes
reaps m t d number released h sound (k, new, here, does, is) there =
    let own : k ≡ h = same_Some k h (sym here ∙ there) in (
      new,
      subst (λ (x : Domain). Reaps m.pool x number t.pool new) own does,
      domain_then m t d h new sound there (ap (λ (x : State). x.domains) is),
    )

pub reaps_forget : ReapsForget
reaps_forget s m t events d number released k h r sound at begun goes none does there inside early =
    let then = sound_then m d number h there r inside early events s k sound at begun goes none in
    let f = reaps m t d number released h then does.becomes there in
    let during = cached_during m t _ _ d h f.0 then does there f.2 in
    let w = then.of_world.0 in
    let q = then.of_world.1 in
    let low = domain_low m.domains d h then.places there in (
      λ leaf here cached holds. elim cached [
        | inl left ↦ dropped_leaf d leaf here left
        | inr since ↦ elim since [
          | inl among ↦ met_among m d number h there r inside early events s k sound at begun none leaf among holds
          | inr met ↦ elim (during.0 leaf met) [
            | inl before ↦ entry_apart m w q d h there r inside leaf before holds
            | inr after ↦ entry_apart m w q d h there r inside leaf (subst (λ ws. IsEntry ws h leaf) f.1.releases.words after) holds
          ]
        ]
      ],
      λ table here cached. elim cached [
        | inl left ↦ absurd (dropped_table d table here left)
        | inr since ↦ elim since [
          | inl among ↦ passed_among m d number h there r inside early events s k sound at begun none table among
          | inr met ↦ elim (during.1 table met) [
            | inl before ↦ place_apart m w q d h there r inside low table before
            | inr after ↦ place_apart m w q d h there r inside low table (subst (λ ws. IsInPlace ws h table) f.1.releases.words after)
          ]
        ]
      ],
    )
