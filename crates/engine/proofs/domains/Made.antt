-- A domain is made.
use Rattle.std.proofs.Common.{map, ◌≡◌, ◌≢◌, ℕ, ◌+◌, ◌-◌, ◌<◌, ◌≤◌, inl, inr, List, length, Option, Some, None, refl, sym, ap, subst, ◌∙◌}
use Rattle.dmatypes.specs.declared.width.Width.{Width}
use Rattle.std.proofs.Common.{arith, slice_set, IsSome}
use Rattle.std.proofs.lemmas.Option.{none-some, same_Some}
use Rattle.dmatypes.specs.declared.call.Call.TheVariants as calls
use Rattle.dmatypes.specs.declared.call.Mode.{Mode}
use Rattle.dmatypes.specs.declared.reply.Reply.TheVariants.{Made, Refused}
use Rattle.dmatypes.specs.declared.refusal.Refusal.TheVariants as refusals
use Rattle.dmatypes.specs.World.{World, empty_domain, put}
use Rattle.dmatypes.specs.World as world
use Rattle.dmatypes.specs.Page.{levels, pages_end}
use Rattle.dmatypes.specs.Conditions.{Stands}
use Rattle.dmatypes.specs.Step.{IsStep, Answers, next}
use Rattle.iova.specs.Space.{AllFree, IsSpace, new_space}
use Rattle.tables.specs.Pool.{Pool, memory, occurs, IsPool, IsZeroed}
use Rattle.tables.specs.Spelled.{AreSpelled}
use Rattle.tables.specs.Tree.{one_if_same, leaf_from, stated, table_from, uses}
use Rattle.engine.specs.Domains.{Domain, domain_at, held_in, new_domain}
use Rattle.engine.specs.State.{State, Exact, Becomes, TakesRoot}
use Rattle.engine.specs.Quarantine.{AreLawfulCaches, MirrorsIfAny, IsHeld, Quarantine, owned, ticket_there}
use Rattle.engine.specs.Steps.{Does}
use Rattle.engine.proofs.frames.Owners.{frames_move}
use Rattle.dmatypes.proofs.histories.Maps.{put_same, put_other, same_or_not}
use Rattle.engine.proofs.lists.Places.{is_none, not_some}
use Rattle.engine.proofs.domains.Pieces.{pieces_new}
use Rattle.engine.proofs.domains.OneChanged.{domain_set, both_absent, domains_put}
use Rattle.engine.proofs.domains.Trees.{same_tree}
use Rattle.engine.proofs.frames.Held.{held-nil}
use Rattle.engine.proofs.caches.Lawful.{keeps_same, stay_lawful}
use Rattle.engine.proofs.states.Refused.{counted, refuses}
use Rattle.engine.proofs.caches.Faults.{all_left, faults_stay, no_pages}
use Rattle.dmatypes.specs.declared.limits.TheConstants.{MOST_DOMAINS}

-- where a place is used, the world has the domain
used_there : (words : List ℕ) (o : Option Domain) (p : Option world.Domain) → MirrorsIfAny words o p → IsSome o → IsSome p
used_there words None p both h = absurd (not_some {A = Domain} None refl h)
used_there words (Some h) None both s = absurd both
used_there words (Some h) (Some v) both s = refl

pub no_id : (m t : State) (mode : Mode) (width : Width) → t ≡ counted m → length m.domains ≡ MOST_DOMAINS
    → ((d : ℕ) → 1 ≤ d → d ≤ length m.domains → IsSome (domain_at m.domains d))
    → Does m (calls.Domain mode width) (Refused refusals.TooManyDomains) t
unfolding Exact IsStep Stands
no_id m t mode width is many all = refuses m t (calls.Domain mode width) refusals.TooManyDomains is tt
    (λ w q.
    inl (inl (
      (λ d low high.
          used_there m.pool.words (domain_at m.domains d) (w.domains d) (q.domains d) (all d low (omega (arith, high, many)))),
      refl,
    )))

unused : (m : State) (w : World) (i : ℕ) → Quarantine m w → length m.domains ≡ MOST_DOMAINS → i < length m.domains
    → domain_at m.domains (i + 1) ≡ None → ((d : ℕ) → 1 ≤ d → d ≤ MOST_DOMAINS → IsSome (w.domains d)) → ⊥
unused m w i q many less free all =
    let absent : w.domains (i + 1) ≡ None =
    both_absent m.pool.words (domain_at m.domains (i + 1)) (w.domains (i + 1)) (q.domains (i + 1)) free in
    not_some (w.domains (i + 1)) absent (all (i + 1) (omega arith) (omega (arith, less, many)))

pub no_root : (m t : State) (mode : Mode) (width : Width) (i : ℕ) → t ≡ counted m → length m.domains ≡ MOST_DOMAINS → i < length m.domains
    → domain_at m.domains (i + 1) ≡ None → length m.pool.free ≡ 0 → Does m (calls.Domain mode width) (Refused refusals.NoFrames) t
unfolding Exact IsStep Stands
no_root m t mode width i is many less free empty = refuses m t (calls.Domain mode width) refusals.NoFrames is empty
    (λ w q. inr ((λ all. unused m w i q many less free all, tt), tt))

-- an empty tree in one free frame
pub record IsEmptyTree (old new : Pool) (width : Width) (root : ℕ) : Type 0 where
  pub roots : TakesRoot old new root
  pub empty : (p : ℕ) → leaf_from (memory new.words) (levels width) root p ≡ None
  pub spelled : AreSpelled new.words (levels width) root
  pub frames : (f : ℕ) → uses (memory new.words) (levels width) root f ≡ one_if_same root f
  pub pool : IsPool new

-- the state with the domain is the state of the world with it
with_new : (m t : State) (w : World) (mode : Mode) (width : Width) (i : ℕ) (root : ℕ) → Quarantine m w → length m.domains ≡ MOST_DOMAINS
    → i < length m.domains
    → domain_at m.domains (i + 1) ≡ None → IsEmptyTree m.pool t.pool width root → IsSpace (new_space (pages_end width - 1))
    → AllFree (new_space (pages_end width - 1)) → t.domains ≡ slice_set m.domains i (Some (new_domain mode width root))
    → t.iommu.contexts ≡ m.iommu.contexts → t.iommu.unit ≡ m.iommu.unit
    → t.tickets ≡ m.tickets → Quarantine t (record w { domains = put (i + 1) (Some (empty_domain mode width)) w.domains })
with_new m t w mode width i root q many less free grown is_space all domains row unit tickets = record {
  table_frames = q.table_frames ∙ sym grown.roots.frames;
  domains = domains_put m t w (i + 1) (new_domain mode width root) (empty_domain mode width) q domains_are
      (record {
        ids = record { mode = refl; begun = refl; width = refl; records = refl };
        tree = λ p low. ap (stated p) (grown.empty p);
        spelled = grown.spelled;
        pieces = pieces_new (new_space (pages_end width - 1)) mode width is_space all refl;
      })
      (λ e k ne there. same_tree m.pool.words t.pool.words k.width k.root grown.roots.words);
  caches =
      subst (λ u. AreLawfulCaches t (record w { domains = put (i + 1) (Some (empty_domain mode width)) w.domains }) u.caches) (sym unit)
      (stay_lawful m t w (record w { domains = put (i + 1) (Some (empty_domain mode width)) w.domains }) m.iommu.unit.caches q.caches
      (λ d h v there here. (
        h,
        v,
        kept d h there,
        put_other (i + 1) (Some (empty_domain mode width)) w.domains d (another d h there) ∙ here,
        keeps_same m.pool.words t.pool.words h v (λ p. ap (λ ws. leaf_from (memory ws) (levels h.width) h.root p) grown.roots.words)
            (λ p x. ap (λ ws. table_from (memory ws) (levels h.width) h.root p x) grown.roots.words)
            (λ first pages f held. subst (λ ws. IsHeld ws h.records first pages f) (sym grown.roots.words) held),
      )));
  faults = faults_stay m.iommu.unit t.iommu.unit w (record w { domains = put (i + 1) (Some (empty_domain mode width)) w.domains })
      (all_left m.iommu.unit t.iommu.unit unit) (no_pages w.domains (i + 1) (empty_domain mode width) (λ p. refl)) q.faults;
  contexts = record {
    devices = λ v. rw row (q.contexts.devices v);
    roots = λ v root domain wide at. let old = q.contexts.roots v root domain wide (rw row at at) in
        (old.0, kept domain old.0 old.1, old.2, old.3);
    cached = λ x inside. rw row (q.contexts.cached x (rw unit at inside));
  };
  frames =
      frames_move m.pool t.pool (domain_at m.domains) (domain_at t.domains) (i + 1) (Some (new_domain mode width root)) q.frames
      (omega (arith, less, many)) domains_are grown.roots.frames moves
      (λ e f ne. ap (λ ws. owned (memory ws) (domain_at m.domains e) f) grown.roots.words) grown.pool.zeroed held;
  tickets = q.tickets ∙ ap (map ticket_there) (sym tickets);
} where
  domains_are : (e : ℕ) → domain_at t.domains e ≡ put (i + 1) (Some (new_domain mode width root)) (domain_at m.domains) e
  domains_are e = ap (λ hs. domain_at hs e) domains ∙ domain_set m.domains i (Some (new_domain mode width root)) less e

  another : (d : ℕ) (h : Domain) → domain_at m.domains d ≡ Some h → d ≢ i + 1
  another d h there same = none-some h (sym free ∙ ap (domain_at m.domains) (sym same) ∙ there)

  kept : (d : ℕ) (h : Domain) → domain_at m.domains d ≡ Some h → domain_at t.domains d ≡ Some h
  kept d h there = domains_are d ∙ put_other (i + 1) (Some (new_domain mode width root)) (domain_at m.domains) d (another d h there) ∙ there

  moves : (f : ℕ)
      → owned (memory t.pool.words) (Some (new_domain mode width root)) f + occurs f t.pool.free
      ≡ owned (memory m.pool.words) (domain_at m.domains (i + 1)) f + occurs f m.pool.free
  moves f =
      let none : owned (memory m.pool.words) (domain_at m.domains (i + 1)) f ≡ 0 =
      ap (λ (o : Option Domain). owned (memory m.pool.words) o f) free in
      omega (arith, none, grown.frames f, grown.roots.free f, held-nil f)

  held : (e f : ℕ) (h : Domain) → domain_at t.domains e ≡ Some h → 0 < held_in h.records f → IsZeroed t.pool.words f
  held e f h there some = elim (same_or_not e (i + 1)) [
    | inl same ↦
        let new : new_domain mode width root ≡ h =
        same_Some (new_domain mode width root) h (sym (put_same (i + 1) (Some (new_domain mode width root)) (domain_at m.domains))
        ∙ ap (put (i + 1) (Some (new_domain mode width root)) (domain_at m.domains)) (sym same) ∙ sym (domains_are e) ∙ there) in
        let none : held_in h.records f ≡ 0 = ap (λ (x : Domain). held_in x.records f) (sym new) ∙ held-nil f in
        absurd (omega (arith, some, none))
    | inr ne ↦
        subst (λ ws. IsZeroed ws f) (sym grown.roots.words) (q.frames.held e f h
        (sym (put_other (i + 1) (Some (new_domain mode width root)) (domain_at m.domains) e ne) ∙ sym (domains_are e) ∙ there) some)
  ]

pub makes : (m t : State) (mode : Mode) (width : Width) (i : ℕ) (root : ℕ) → length m.domains ≡ MOST_DOMAINS → i < length m.domains
    → domain_at m.domains (i + 1) ≡ None → ((d : ℕ) → 1 ≤ d → d ≤ i → IsSome (domain_at m.domains d))
    → IsEmptyTree m.pool t.pool width root → IsSpace (new_space (pages_end width - 1))
    → AllFree (new_space (pages_end width - 1))
    → t ≡ record m { pool = t.pool; domains = slice_set m.domains i (Some (new_domain mode width root)); calls = m.calls + 1 }
    → Does m (calls.Domain mode width) (Made (i + 1)) t
unfolding Exact Becomes IsStep Stands Answers next
makes m t mode width i root many less free below grown is_space all is =
    record {
      steps = λ w q.
          let absent : w.domains (i + 1) ≡ None =
          both_absent m.pool.words (domain_at m.domains (i + 1)) (w.domains (i + 1)) (q.domains (i + 1)) free in (
            (
              ((λ all. unused m w i q many less free all), tt),
              (i + 1, (omega arith, omega (arith, less, many), is_none (w.domains (i + 1)) absent), refl),
            ),
            with_new m t w mode width i root q many less free grown is_space all (ap (λ (x : State). x.domains) is)
                (ap (λ (x : State). x.iommu.contexts) is) (ap (λ (x : State). x.iommu.unit) is)
                (ap (λ (x : State). x.tickets) is),
          );
      exact = (omega (arith, grown.roots.count), (free, λ e low less. below e low (omega (arith, less))));
      becomes = let place : i + 1 - 1 ≡ i = omega arith in (root, grown.roots, rw place is);
      calls = ap (λ (x : State). x.calls) is;
    }
