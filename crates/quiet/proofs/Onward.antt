-- What a call makes of one domain that it leaves there.
use Rattle.std.proofs.Common.{◌≡◌, ◌≢◌, ◌⊎◌, inl, inr, ℕ, zero, suc, ◌+◌, ◌-◌, ◌<◌, ◌≤◌, [], ◌∷◌, ◌++◌, Option, Some, None, refl, sym, ap}
use Rattle.std.proofs.Common.{subst, ◌∙◌, arith, length, slice_set}
use Rattle.std.proofs.lemmas.List.{length-set}
use Rattle.std.proofs.lemmas.Option.{same_Some}
use Rattle.std.specs.Prelude.{not}
use Rattle.dmatypes.proofs.histories.Maps.{put_other, put_same, same_or_not}
use Rattle.dmatypes.proofs.lists.Filtered.{in_filter}
use Rattle.dmatypes.specs.Page.{Range, range_at}
use Rattle.dmatypes.specs.Step.{Answers, IsStep}
use Rattle.dmatypes.specs.World.{IsIn, World, put}
use Rattle.dmatypes.specs.declared.call.Call.{Call}
use Rattle.dmatypes.specs.declared.call.Call.TheVariants as calls
use Rattle.dmatypes.specs.declared.call.Mode.{Mode}
use Rattle.dmatypes.specs.declared.call.Mode.TheVariants.{Lazy, Strict}
use Rattle.dmatypes.specs.declared.limits.TheConstants.{MOST_DOMAINS}
use Rattle.dmatypes.specs.declared.reply.Reply.{Reply}
use Rattle.dmatypes.specs.declared.reply.Reply.TheVariants.{Made, Done, Mapped, Unmapped, Flushed, Reaped, Refused, Stepped}
use Rattle.dmatypes.specs.declared.width.Width.{Width}
use Rattle.engine.proofs.domains.OneChanged.{both_there, domain_low, domain_set}
use Rattle.engine.proofs.lists.Membership.{in_either}
use Rattle.engine.proofs.lists.Places.{not_none}
use Rattle.engine.specs.declared.record.Record.{Record}
use Rattle.engine.specs.Domains.{Domain, Operands, domain_at}
use Rattle.engine.specs.Ending.{ByMode, MakesRoom, PutsOff, UnmapsStrictly, was_before}
use Rattle.engine.specs.State.{Becomes, State, begins, operands_in}
use Rattle.engine.specs.Steps.{Does}
use Rattle.quiet.specs.Quiet.{IsSound}

-- the tree is the same, no fewer flushes were begun, and a record is an old one or was made after those that were begun before
pub record Onward (h h' : Domain) : Type 0 where
  pub root : h'.root ≡ h.root
  pub width : h'.width ≡ h.width
  pub begun : h.begun ≤ h'.begun
  pub records : (r : Record) → IsIn r h'.records → IsIn r h.records ⊎ (h.begun ≤ r.mark)

-- one whose records are old
fewer : (h h' : Domain) → h'.root ≡ h.root → h'.width ≡ h.width → h.begun ≤ h'.begun
    → ((r : Record) → IsIn r h'.records → IsIn r h.records) → Onward h h'
fewer h h' root width begun old = record { root = root; width = width; begun = begun; records = λ r inside. inl (old r inside) }

-- all but its space is as it was
but_space : (h h' : Domain) → h'.root ≡ h.root → h'.width ≡ h.width → h'.begun ≡ h.begun → h'.records ≡ h.records → Onward h h'
but_space h h' root width begun same =
    fewer h h' root width (omega (arith, begun)) (λ r inside. subst (λ rs. IsIn r rs) same inside)

-- its records went
emptied : (h h' : Domain) → h'.root ≡ h.root → h'.width ≡ h.width → h'.begun ≡ h.begun → h'.records ≡ [] → Onward h h'
emptied h h' root width begun none =
    fewer h h' root width (omega (arith, begun)) (λ r inside. absurd (subst (λ rs. IsIn r rs) none inside))

-- ---- an unmap

module _ (old new : Operands) (id released : ℕ) (range : Range) where
  room_made : (roomy : Operands) → MakesRoom old id released roomy → Onward old.domain roomy.domain
  room_made roomy (inl has) =
      let same = ap (λ (p : Operands). p.domain) has.same in
      but_space old.domain roomy.domain (ap (λ (y : Domain). y.root) same) (ap (λ (y : Domain). y.width) same)
      (ap (λ (y : Domain). y.begun) same) (ap (λ (y : Domain). y.records) same)
  room_made roomy (inr empties) =
      let same = empties.flushes.same in
      emptied old.domain roomy.domain (ap (λ (y : Domain). y.root) same) (ap (λ (y : Domain). y.width) same)
      (ap (λ (y : Domain). y.begun) same) (ap (λ (y : Domain). y.records) same)

  put_off : PutsOff old id range released new → Onward old.domain new.domain
  put_off p =
      let room = room_made p.roomy p.room in
      record {
        root = ap (λ (y : Domain). y.root) p.last ∙ ap (λ (y : Domain). y.root) p.retires.same ∙ room.root;
        width = ap (λ (y : Domain). y.width) p.last ∙ ap (λ (y : Domain). y.width) p.retires.same ∙ room.width;
        begun = omega (arith, ap (λ (y : Domain). y.begun) p.last, ap (λ (y : Domain). y.begun) p.retires.same, room.begun);
        records = λ r inside. elim (in_either r p.retired p.roomy.domain.records
            (subst (λ rs. IsIn r rs)
            (ap (λ (y : Domain). y.records) p.last ∙ ap (λ (y : Domain). y.records ++ p.retired ∷ []) p.retires.same) inside)) [
              | inl earlier ↦ room.records r earlier
              | inr last ↦ inr (omega (arith, ap (λ (y : Record). y.mark) last, p.retires.mark, room.begun))
            ];
      }

  ended : (mode : Mode) → ByMode mode ((released ≡ 0) × UnmapsStrictly old id range new) (PutsOff old id range released new)
      → Onward old.domain new.domain
  ended Strict does =
      let u = does.1 in
      but_space old.domain new.domain (ap (λ (y : Domain). y.root) u.same ∙ ap (λ (y : Domain). y.root) u.retires.same)
      (ap (λ (y : Domain). y.width) u.same ∙ ap (λ (y : Domain). y.width) u.retires.same)
      (ap (λ (y : Domain). y.begun) u.same ∙ ap (λ (y : Domain). y.begun) u.retires.same)
      (ap (λ (y : Domain). y.records) u.same ∙ ap (λ (y : Domain). y.records) u.retires.same)
  ended Lazy does = put_off does

-- ---- a call

positive : (m : State) (e : ℕ) (k : Domain) → domain_at m.domains e ≡ Some k → 1 ≤ e
positive m zero k there = absurd cc
positive m (suc e) k there = omega arith

made_of : Reply → ℕ
made_of (Made e) = e
made_of _ = 0

-- a new domain has an id that none had
made_id : (w : World) (mode : Mode) (width : Width) (e : ℕ) → IsStep w (calls.Domain mode width) (Made e)
    → (1 ≤ e) × (e ≤ MOST_DOMAINS) × ((v : _) → w.domains e ≡ Some v → ⊥)
unfolding IsStep Answers made_of
made_id w mode width e (none, (x, unused, is)) =
    let same : e ≡ x = ap made_of is in (
      omega (arith, same, unused.0),
      omega (arith, same, unused.1),
      λ v at. not_none (w.domains x) v (ap w.domains (sym same) ∙ at) unused.2,
    )

module _ (m t : State) (d : ℕ) (h : Domain) (sound : IsSound m) (there : domain_at m.domains d ≡ Some h) where
  -- it is there still, and so are the places
  abbrev Goes' : Type 0
  Goes' = (h' : Domain) × (domain_at t.domains d ≡ Some h') × Onward h h' × (length t.domains ≡ length m.domains)

  same : t.domains ≡ m.domains → Goes'
  same is = (h, ap (λ ds. domain_at ds d) is ∙ there, but_space h h refl refl refl refl, ap length is)

  at_place : (e : ℕ) (o : Option Domain) → 1 ≤ e → e < MOST_DOMAINS + 1 → t.domains ≡ slice_set m.domains (e - 1) o
      → domain_at t.domains d ≡ put e o (domain_at m.domains) d
  at_place e o low high is =
      let next : e - 1 + 1 ≡ e = omega (arith, low) in
      ap (λ ds. domain_at ds d) is ∙ domain_set m.domains (e - 1) o (omega (arith, low, high, sound.places)) d
      ∙ ap (λ n. put n o (domain_at m.domains) d) next

  away : (e : ℕ) (o : Option Domain) → 1 ≤ e → e < MOST_DOMAINS + 1 → d ≢ e → t.domains ≡ slice_set m.domains (e - 1) o → Goes'
  away e o low high ne is = (
    h,
    at_place e o low high is ∙ put_other e o (domain_at m.domains) d ne ∙ there,
    but_space h h refl refl refl refl,
    ap length is ∙ length-set m.domains (e - 1) o,
  )

  one : (e : ℕ) (k new : Domain) → domain_at m.domains e ≡ Some k → t.domains ≡ slice_set m.domains (e - 1) (Some new) → Onward k new
      → Goes'
  one e k new here is goes = elim (same_or_not d e) [
    | inl own ↦ (
      new,
      at_place e (Some new) (positive m e k here) (domain_low m.domains e k sound.places here) is
          ∙ ap (put e (Some new) (domain_at m.domains)) own ∙ put_same e (Some new) (domain_at m.domains),
      subst (λ (y : Domain). Onward y new) (same_Some k h (sym here ∙ ap (domain_at m.domains) (sym own) ∙ there)) goes,
      ap length is ∙ length-set m.domains (e - 1) (Some new),
    )
    | inr ne ↦ away e (Some new) (positive m e k here) (domain_low m.domains e k sound.places here) ne is
  ]

pub onward : (m t : State) (d : ℕ) (h : Domain) → (sound : IsSound m) → domain_at m.domains d ≡ Some h → (call : Call) (reply : Reply)
    → Does m call reply t → Becomes m call reply t → (call ≡ calls.Drop d → reply ≡ Done → ⊥)
    → (h' : Domain) × (domain_at t.domains d ≡ Some h') × Onward h h' × (length t.domains ≡ length m.domains)
unfolding Becomes
onward m t d h sound there (calls.Domain mode width) (Made e) does (root, takes, is) stays =
    let id = made_id sound.of_world.0 mode width e (does.steps sound.of_world.0 sound.of_world.1).0 in
    let v = both_there m.pool.words (domain_at m.domains d) (sound.of_world.0.domains d) h (sound.of_world.1.domains d) there in
    away m t d h sound there e _ id.0 (omega (arith, id.1)) (λ own. id.2 v.0 (ap sound.of_world.0.domains (sym own) ∙ v.1))
    (ap (λ (x : State). x.domains) is)
onward m t d h sound there (calls.Domain mode width) _ does is stays = same m t d h sound there (ap (λ (x : State). x.domains) is)
onward m t d h sound there (calls.Attach device e) Done does (k, here, is) stays =
    same m t d h sound there (ap (λ (x : State). x.domains) is)
onward m t d h sound there (calls.Attach device e) _ does is stays = same m t d h sound there (ap (λ (x : State). x.domains) is)
onward m t d h sound there (calls.Drop e) Done does (k, here, closes, is) stays =
    away m t d h sound there e None (positive m e k here) (domain_low m.domains e k sound.places here)
    (λ own. stays (ap (λ n. calls.Drop n) (sym own)) refl) (ap (λ (x : State). x.domains) is)
onward m t d h sound there (calls.Drop e) _ does is stays = same m t d h sound there (ap (λ (x : State). x.domains) is)
onward m t d h sound there (calls.Detach device) Done does (e, root, width, at, sends, is) stays =
    same m t d h sound there (ap (λ (x : State). x.domains) is)
onward m t d h sound there (calls.Detach device) _ does is stays = same m t d h sound there (ap (λ (x : State). x.domains) is)
onward m t d h sound there (calls.Map e frame pages order rights) (Mapped address) does (k, new, here, places, sends, is) stays =
    one m t d h sound there e k new here (ap (λ (x : State). x.domains) is)
    (but_space k new (ap (λ (x : Domain). x.root) places.same) (ap (λ (x : Domain). x.width) places.same)
    (ap (λ (x : Domain). x.begun) places.same) (ap (λ (x : Domain). x.records) places.same))
onward m t d h sound there (calls.Map e frame pages order rights) _ does is stays =
    same m t d h sound there (ap (λ (x : State). x.domains) is)
onward m t d h sound there (calls.MapList e order rights segments) (Mapped address) does (k, new, here, places, sends, is) stays =
    one m t d h sound there e k new here (ap (λ (x : State). x.domains) is)
    (but_space k new (ap (λ (x : Domain). x.root) places.same) (ap (λ (x : Domain). x.width) places.same)
    (ap (λ (x : Domain). x.begun) places.same) (ap (λ (x : Domain). x.records) places.same))
onward m t d h sound there (calls.MapList e order rights segments) _ does is stays =
    same m t d h sound there (ap (λ (x : State). x.domains) is)
onward m t d h sound there (calls.Flush e) (Flushed released) does (k, new, here, flushes, is) stays =
    one m t d h sound there e k new here (ap (λ (x : State). x.domains) is)
    (emptied k new (ap (λ (x : Domain). x.root) flushes.same) (ap (λ (x : Domain). x.width) flushes.same)
    (ap (λ (x : Domain). x.begun) flushes.same) (ap (λ (x : Domain). x.records) flushes.same))
onward m t d h sound there (calls.Flush e) _ does is stays = same m t d h sound there (ap (λ (x : State). x.domains) is)
onward m t d h sound there (calls.Unmap e address pages) (Unmapped released) does (k, new, here, ends, is) stays =
    one m t d h sound there e k new here (ap (λ (x : State). x.domains) is)
    (ended (operands_in m k) (operands_in t new) e released (range_at address pages) k.mode ends)
onward m t d h sound there (calls.Unmap e address pages) _ does is stays = same m t d h sound there (ap (λ (x : State). x.domains) is)
onward m t d h sound there (calls.Dma device address access whim) (Refused refusal) does is stays =
    same m t d h sound there (ap (λ (x : State). x.domains) is)
onward m t d h sound there (calls.Dma device address access whim) _ does (answer, reached, answers, filled, is) stays =
    same m t d h sound there (ap (λ (x : State). x.domains) is)
onward m t d h sound there (calls.Begin e) (Reply.Ticket named number) does (k, here, new, id, begins_is, is) stays =
    one m t d h sound there e k (begins k) here (ap (λ (x : State). x.domains) is)
    (fewer k (begins k) refl refl (omega arith) (λ r inside. inside))
onward m t d h sound there (calls.Begin e) _ does is stays = same m t d h sound there (ap (λ (x : State). x.domains) is)
onward m t d h sound there calls.Unit (Stepped progress) does is stays = same m t d h sound there (ap (λ (x : State). x.domains) is)
onward m t d h sound there calls.Unit _ does is stays = same m t d h sound there (ap (λ (x : State). x.domains) is)
onward m t d h sound there (calls.Reap e number) (Reaped released) does (k, new, here, reaps, is) stays =
    one m t d h sound there e k new here (ap (λ (x : State). x.domains) is)
    (fewer k new (ap (λ (x : Domain). x.root) reaps.same) (ap (λ (x : Domain). x.width) reaps.same)
    (let same_begun = ap (λ (x : Domain). x.begun) reaps.same in omega (arith, same_begun))
    (λ r inside. (in_filter (λ x. not (was_before number x)) r k.records
    (subst (IsIn r) (ap (λ (x : Domain). x.records) reaps.same) inside)).0))
onward m t d h sound there (calls.Reap e number) _ does is stays = same m t d h sound there (ap (λ (x : State). x.domains) is)
onward m t d h sound there (calls.Evict kind place) Done does is stays = same m t d h sound there (ap (λ (x : State). x.domains) is)
onward m t d h sound there (calls.Evict kind place) _ does is stays = same m t d h sound there (ap (λ (x : State). x.domains) is)
