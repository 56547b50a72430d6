-- Every call, by what becomes of the state.
use Rattle.std.proofs.Common.{◌≡◌, ℕ, zero, suc, ◌+◌, ◌-◌, ◌<◌, ◌∷◌, [], Some, None, sym}
use Rattle.std.proofs.Common.{ap, inl, inr, subst, ◌∙◌, arith, length, slice_set, refl}
use Rattle.std.proofs.lemmas.Option.{none-some, same_Some}
use Rattle.dmatypes.proofs.histories.Maps.{put_same, same_or_not}
use Rattle.dmatypes.specs.Page.{range_at}
use Rattle.dmatypes.specs.World.{placed}
use Rattle.dmatypes.specs.declared.call.Call.{Call}
use Rattle.dmatypes.specs.declared.call.Call.TheVariants as calls
use Rattle.dmatypes.specs.declared.reply.Reply.{Reply}
use Rattle.dmatypes.specs.declared.reply.Reply.TheVariants.{Made, Done, Mapped, Unmapped, Flushed, Reaped, Refused, Stepped}
use Rattle.tables.specs.Pool.{Pool}
use Rattle.moments.specs.Moments.{IsMap, IsUnmap}
use Rattle.engine.specs.Domains.{Domain, domain_at}
use Rattle.engine.specs.Placing.{range_of}
use Rattle.engine.specs.State.{Becomes, State}
use Rattle.engine.specs.Steps.{Does}
use Rattle.engine.proofs.domains.OneChanged.{domain_low, domain_set}
use Rattle.quiet.specs.Laws.{CallsAreOldOrNew}
use Rattle.quiet.proofs.Calls.{not_bad_list, not_bad_map, own_map, some_pages, unmap_pages}
use Rattle.quiet.proofs.Changes.{Change, old_or_new}
use Rattle.quiet.proofs.Unmapping.{own_unmap, unmapping}
use Rattle.quiet.proofs.Written.{IsOf, Written, closes, kept_word, maps, other_out, rests, takes, unmaps}
use Rattle.quiet.specs.Quiet.{IsSound}

-- a domain that was dropped isn't there
pub dropped : (m t : State) (d e : ℕ) (h h' : Domain) → IsSound m → domain_at m.domains d ≡ Some h → d ≡ e
    → t.domains ≡ slice_set m.domains (e - 1) None → domain_at t.domains d ≡ Some h' → ⊥
dropped m t zero e h h' whole there same is then = absurd cc
dropped m t (suc i) e h h' whole there same is then =
    let place : e - 1 ≡ i = omega (arith, same) in
    let next : suc i ≡ i + 1 = omega arith in
    let less : i < length m.domains = omega (arith, domain_low m.domains (suc i) h whole.places there, whole.places) in
    none-some h' (sym (put_same (i + 1) None (domain_at m.domains)) ∙ sym (domain_set m.domains i None less (i + 1))
    ∙ ap (λ ds. domain_at ds (i + 1)) (sym (is ∙ ap (λ n. slice_set m.domains n None) place)) ∙ ap (domain_at t.domains) (sym next) ∙ then)

-- one that was changed is the new one
pub domain_then : (m t : State) (d : ℕ) (h new : Domain) → IsSound m → domain_at m.domains d ≡ Some h
    → t.domains ≡ slice_set m.domains (d - 1) (Some new) → domain_at t.domains d ≡ Some new
domain_then m t zero h new whole there is = absurd cc
domain_then m t (suc i) h new whole there is =
    let place : suc i - 1 ≡ i = omega arith in
    let next : suc i ≡ i + 1 = omega arith in
    let less : i < length m.domains = omega (arith, domain_low m.domains (suc i) h whole.places there, whole.places) in
    ap (domain_at t.domains) next ∙ ap (λ ds. domain_at ds (i + 1)) (is ∙ ap (λ n. slice_set m.domains n (Some new)) place)
    ∙ domain_set m.domains i (Some new) less (i + 1) ∙ put_same (i + 1) (Some new) (domain_at m.domains)

-- the same domain stands at the same number
pub same_domain : (m : State) (d e : ℕ) (h k : Domain) → domain_at m.domains d ≡ Some h → domain_at m.domains e ≡ Some k → d ≡ e → k ≡ h
same_domain m d e h k there here same = same_Some k h (sym here ∙ ap (domain_at m.domains) (sym same) ∙ there)

-- ---- what a call writes

quiet_pool : {m t : State} {call : Call} {reply : Reply} → t.pool ≡ m.pool → Written m t call reply
quiet_pool same = rests (ap (λ (p : Pool). p.words) same) (ap (λ (p : Pool). p.trail) same)

pub written : (m t : State) → IsSound m → (call : Call) (reply : Reply) → Does m call reply t → Becomes m call reply t
    → Written m t call reply
unfolding Becomes
written m t whole (calls.Domain mode width) (Made e) does (root, takes_root, is) = takes e refl takes_root.words
written m t whole (calls.Domain mode width) _ does is = quiet_pool (ap (λ (x : State). x.pool) is)
written m t whole (calls.Attach device e) Done does (k, here, is) = quiet_pool (ap (λ (x : State). x.pool) is)
written m t whole (calls.Attach device e) _ does is = quiet_pool (ap (λ (x : State). x.pool) is)
written m t whole (calls.Drop e) Done does (k, here, ends, is) = closes e k here refl (ap (λ (x : State). x.domains) is) ends
written m t whole (calls.Drop e) _ does is = quiet_pool (ap (λ (x : State). x.pool) is)
written m t whole (calls.Detach device) Done does (e, root, width, at, sends, is) = quiet_pool (ap (λ (x : State). x.pool) is)
written m t whole (calls.Detach device) _ does is = quiet_pool (ap (λ (x : State). x.pool) is)
written m t whole (calls.Map e frame pages order rights) (Mapped address) does (k, new, here, places, sends, is) =
    maps e k new _ here
    (some_pages (record { frame = frame; pages = pages } ∷ []) order rights
    (not_bad_map whole.of_world.0 e frame pages order rights address (does.steps whole.of_world.0 whole.of_world.1).0)) places
written m t whole (calls.Map e frame pages order rights) _ does is = quiet_pool (ap (λ (x : State). x.pool) is)
written m t whole (calls.MapList e order rights segments) (Mapped address) does (k, new, here, places, sends, is) =
    maps e k new _ here
    (some_pages segments.items order rights
    (not_bad_list whole.of_world.0 e order rights address segments (does.steps whole.of_world.0 whole.of_world.1).0)) places
written m t whole (calls.MapList e order rights segments) _ does is = quiet_pool (ap (λ (x : State). x.pool) is)
written m t whole (calls.Flush e) (Flushed released) does (k, new, here, flushes, is) =
    rests flushes.releases.words flushes.releases.trail
written m t whole (calls.Flush e) _ does is = quiet_pool (ap (λ (x : State). x.pool) is)
written m t whole (calls.Unmap e address pages) (Unmapped released) does (k, new, here, ends, is) =
    unmaps e k address pages released here (unmap_pages m t e address pages released k whole here does) refl refl
    (unmapping m t e k whole here (range_at address pages) released new k.mode ends)
written m t whole (calls.Unmap e address pages) _ does is = quiet_pool (ap (λ (x : State). x.pool) is)
written m t whole (calls.Dma device address access whim) (Refused refusal) does is = quiet_pool (ap (λ (x : State). x.pool) is)
written m t whole (calls.Dma device address access whim) _ does (answer, reached, answers, filled, is) =
    quiet_pool (ap (λ (x : State). x.pool) is)
written m t whole (calls.Begin e) (Reply.Ticket named number) does (k, here, new, id, begins_is, is) =
    quiet_pool (ap (λ (x : State). x.pool) is)
written m t whole (calls.Begin e) _ does is = quiet_pool (ap (λ (x : State). x.pool) is)
written m t whole calls.Unit (Stepped progress) does is = quiet_pool (ap (λ (x : State). x.pool) is)
written m t whole calls.Unit _ does is = quiet_pool (ap (λ (x : State). x.pool) is)
written m t whole (calls.Reap e number) (Reaped released) does (k, new, here, reaps, is) = rests reaps.releases.words reaps.releases.trail
written m t whole (calls.Reap e number) _ does is = quiet_pool (ap (λ (x : State). x.pool) is)
written m t whole (calls.Evict kind place) Done does is = quiet_pool (ap (λ (x : State). x.pool) is)
written m t whole (calls.Evict kind place) _ does is = quiet_pool (ap (λ (x : State). x.pool) is)

-- ---- the words of one domain's tree

-- the call is an unmap in the domain that was done
abbrev pub IsUnmapIn : Call → Reply → ℕ → Type 0
IsUnmapIn call reply d = (address pages released : ℕ) × (call ≡ calls.Unmap d address pages) × (reply ≡ Unmapped released)

module _ (m t : State) (d : ℕ) (h : Domain) (whole : IsSound m) (there : domain_at m.domains d ≡ Some h) (call : Call) (reply : Reply)
    (h' : Domain) (then : domain_at t.domains d ≡ Some h') where
  abbrev Changed : Type 0
  Changed = Change (IsUnmapIn call reply d) m.pool.words t.pool.words h.width h.root

  others : (w : Written m t call reply) → (IsOf m t call reply d h whole there w → ⊥) → Changed
  others w ne = inl (λ f i some inside.
      kept_word m t call reply w f i (other_out m t call reply d h whole there w f ne (omega (arith, some))) inside)

  changed : Written m t call reply → Changed
  changed (rests same trail) = others (rests same trail) (λ none. none)
  changed (takes e is_reply same) = others (takes e is_reply same) (λ none. none)
  changed (maps e k new at here some places) = elim (same_or_not d e) [
    | inl same ↦
        let own : k ≡ h = same_domain m d e h k there here same in
        inr (inl (
          m.pool,
          t.pool,
          range_of at,
          _,
          refl,
          refl,
          subst (λ (y : Domain). IsMap m.pool t.pool y.width y.root (range_of at) (placed at.segments at.first at.rights)) own
              (own_map m t e k new at whole here some places),
        ))
    | inr ne ↦ others (maps e k new at here some places) ne
  ]
  changed (unmaps e k address pages released here some is_call is_reply u) = elim (same_or_not d e) [
    | inl same ↦
        let own : k ≡ h = same_domain m d e h k there here same in
        inr (inr (
          (address, pages, released, is_call ∙ ap (λ n. calls.Unmap n address pages) (sym same), is_reply),
          (
            u.before,
            u.after,
            u.retired.range,
            u.retired.cut.frames,
            u.was,
            u.is,
            subst (λ (y : Domain). IsUnmap u.before u.after y.width y.root u.retired.range u.retired.cut.frames) own
                (own_unmap m t e k whole here (range_at address pages) released u some),
          ),
        ))
    | inr ne ↦ others (unmaps e k address pages released here some is_call is_reply u) ne
  ]
  changed (closes e k here is_reply gone ends) = elim (same_or_not d e) [
    | inl same ↦ absurd (dropped m t d e h h' whole there same gone then)
    | inr ne ↦ others (closes e k here is_reply gone ends) ne
  ]

pub changes : (m t : State) (d : ℕ) (h : Domain) → IsSound m → domain_at m.domains d ≡ Some h → (call : Call) (reply : Reply)
    → Does m call reply t → Becomes m call reply t → (h' : Domain) → domain_at t.domains d ≡ Some h'
    → Change (IsUnmapIn call reply d) m.pool.words t.pool.words h.width h.root
changes m t d h whole there call reply does becomes h' then =
    changed m t d h whole there call reply h' then (written m t whole call reply does becomes)

pub calls_old_or_new : CallsAreOldOrNew
calls_old_or_new m t call reply domain h h' reached page whole does there then first =
    old_or_new m.pool.words t.pool.words reached h.width h.root page
    (changes m t domain h whole there call reply does does.becomes h' then) first
