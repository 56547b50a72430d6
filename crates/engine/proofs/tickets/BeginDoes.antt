-- A begun flush is a step of the model, and keeps the quarantine and what the type of a state keeps; how it is refused.
use Rattle.std.proofs.Common.{◌≡◌, ℕ, ◌+◌, ◌-◌, ◌<◌, ◌≤◌, ◌∙◌, inl, inr, List, [], ◌∷◌, ◌++◌, Some, None, length}
use Rattle.std.proofs.Common.{refl, sym, ap, subst, arith, slice_set}
use Rattle.std.proofs.lemmas.List.{length-append, length-map, length-set, map-append}
use Rattle.dmatypes.specs.declared.call.Call.TheVariants as calls
use Rattle.dmatypes.specs.declared.limits.TheConstants.{MOST_TICKETS}
use Rattle.dmatypes.specs.declared.refusal.Refusal.TheVariants as refusals
use Rattle.dmatypes.specs.declared.reply.Reply.TheVariants.{Refused}
use Rattle.dmatypes.specs.declared.reply.Reply.TheVariants as Reply
use Rattle.dmatypes.specs.Conditions.{Stands}
use Rattle.dmatypes.specs.Step.{Answers, IsStep, next}
use Rattle.dmatypes.specs.World.{World, begun_once_more, put}
use Rattle.dmatypes.specs.World as world
use Rattle.vtdbits.specs.declared.descriptor.Descriptor.TheVariants.{IotlbDomain, Wait}
use Rattle.engine.specs.declared.iommu.Iommu.{Iommu}
use Rattle.engine.specs.declared.ticket.Ticket.{Ticket}
use Rattle.engine.specs.Domains.{Domain, domain_at}
use Rattle.engine.specs.Ending.{Begins, status_of}
use Rattle.engine.specs.State.{Becomes, Exact, State, begins}
use Rattle.engine.specs.Quarantine.{Mirrors, Quarantine, ticket_there}
use Rattle.engine.specs.Steps.{Does}
use Rattle.engine.specs.Whole.{IsWhole}
use Rattle.engine.proofs.domains.OneChanged.{both_absent, both_there, domain_set}
use Rattle.engine.proofs.flushes.Steps.{Did}
use Rattle.engine.proofs.lists.Places.{is_none, not_none}
use Rattle.engine.proofs.states.OneDomain.{ChangesDomain, changes_domain}
use Rattle.engine.proofs.domains.Trees.{same_tree}
use Rattle.engine.proofs.states.RecordsMade.{begun_kept, made_kept}
use Rattle.engine.proofs.states.Refused.{counted, refuses, tickets_of}
use Rattle.engine.proofs.unmaps.DomainAfter.{mirrors_of}
use Rattle.engine.proofs.caches.Faults.{all_left}

-- ---- refused

pub begin_no_domain : (m t : State) (domain : ℕ) → t ≡ counted m → domain_at m.domains domain ≡ None
    → Does m (calls.Begin domain) (Refused refusals.NoDomain) t
unfolding Exact IsStep Stands
begin_no_domain m t domain is none =
    refuses m t (calls.Begin domain) refusals.NoDomain is tt (λ w q.
    inl (inl (
      is_none (w.domains domain)
          (both_absent m.pool.words (domain_at m.domains domain) (w.domains domain) (q.domains domain) none),
      refl,
    )))

-- as many tickets are open in the world
tickets_there : (m : State) (w : World) → Quarantine m w → length w.tickets ≡ length m.tickets
tickets_there m w q = ap (λ (ts : List world.Ticket). length ts) q.tickets ∙ length-map m.tickets ticket_there

pub begin_too_many : (m t : State) (domain : ℕ) (h : Domain) → t ≡ counted m → domain_at m.domains domain ≡ Some h
    → MOST_TICKETS ≤ length m.tickets → Does m (calls.Begin domain) (Refused refusals.TooManyTickets) t
unfolding Exact IsStep Stands
begin_too_many m t domain h is there many =
    refuses m t (calls.Begin domain) refusals.TooManyTickets is tt (λ w q.
    let both = both_there m.pool.words (domain_at m.domains domain) (w.domains domain) h (q.domains domain) there in
    inl (inr (not_none (w.domains domain) both.0 both.1, inl (omega (arith, many, tickets_there m w q), refl))))

-- ---- begun

module _ (m : State) (domain i : ℕ) (h : Domain) (x : Iommu) (whole : IsWhole m.pool.frames m)
    (less : i < length m.domains) (id : domain ≡ i + 1) (there : domain_at m.domains domain ≡ Some h)
    (room : length m.tickets < MOST_TICKETS) (sends : Begins m.iommu domain x) where
  abbrev opened : Ticket
  opened = record { domain = domain; number = h.begun + 1; wait = x.sent }

  abbrev after_begin : State
  after_begin = record {
    pool = m.pool;
    domains = slice_set m.domains i (Some (begins h));
    iommu = x;
    tickets = m.tickets ++ opened ∷ [];
    calls = m.calls + 1;
  }

  -- the domain counts one more, and nothing else changes but what waits
  abbrev half_way : State
  half_way = record after_begin { tickets = m.tickets }

  caches_stay : x.unit.caches ≡ m.iommu.unit.caches
  caches_stay = ap (λ (y : Iommu). y.unit.caches) sends

  begun_mirrors : (v : world.Domain) → Mirrors m.pool.words h v → Mirrors m.pool.words (begins h) (begun_once_more v)
  begun_mirrors v mirrors = record {
    ids = record {
      mode = mirrors.ids.mode;
      begun = omega (arith, mirrors.ids.begun);
      width = mirrors.ids.width;
      records = mirrors.ids.records;
    };
    tree = mirrors.tree;
    spelled = mirrors.spelled;
    pieces = record {
      is_space = mirrors.pieces.is_space;
      whole = mirrors.pieces.whole;
      free = λ p. (
        λ at. let was = (mirrors.pieces.free p).0 at in (was.0, record { not_live = was.1.not_live; not_retired = was.1.not_retired }),
        λ is. (mirrors.pieces.free p).1 (is.0, record { not_live = is.1.not_live; not_retired = is.1.not_retired }),
      );
      live = mirrors.pieces.live;
      retired = mirrors.pieces.retired;
      ranges = mirrors.pieces.ranges;
      apart = mirrors.pieces.apart;
      targets_known = mirrors.pieces.targets_known;
    };
  }

  begin_changes : (w : World) (v : world.Domain) → Quarantine m w → w.domains domain ≡ Some v
      → ChangesDomain m half_way domain h (begins h) v (begun_once_more v)
  begin_changes w v q here = record {
    domains = λ e.
        subst (λ d. domain_at (slice_set m.domains i (Some (begins h))) e ≡ put d (Some (begins h)) (domain_at m.domains) e) (sym id)
        (domain_set m.domains i (Some (begins h)) less e);
    row = ap (λ (y : Iommu). y.contexts) sends;
    tickets = refl;
    root = refl;
    width = refl;
    frames = refl;
    mirrors = begun_mirrors v (mirrors_of m w domain h v q there here);
    others = λ e k ne at. same_tree m.pool.words m.pool.words k.width k.root refl;
    account = λ f. refl;
    zeroed = q.frames.zeroed;
    held = λ e k at f more. q.frames.held e f k at more;
    held_here = λ f more. q.frames.held domain f h there more;
    leaves = λ l inside. (
      subst (λ c. world.IsIn l c.leaves) caches_stay inside,
      λ same lawful. record { stated = lawful.stated; entry = lawful.entry },
    );
    tables = λ k inside. (
      subst (λ c. world.IsIn k c.non_leaves) caches_stay inside,
      λ same lawful. record { span = lawful.span; named = lawful.named },
    );
    contexts = λ k inside. subst (λ c. world.IsIn k c.contexts) caches_stay inside;
    faults = all_left m.iommu.unit x.unit (ap (λ (y : Iommu). y.unit) sends);
    live = λ p none. none;
  }

  -- one ticket more is open, in the state and in the world
  opens : (w : World) → Quarantine half_way w
      → Quarantine after_begin (world.with_ticket (record { domain = domain; number = h.begun + 1 }) w)
  opens w q = record {
    table_frames = q.table_frames;
    domains = q.domains;
    caches = record { leaves = q.caches.leaves; tables = q.caches.tables };
    faults = q.faults;
    contexts = record { devices = q.contexts.devices; roots = q.contexts.roots; cached = q.contexts.cached };
    frames = q.frames;
    tickets =
        ap (λ ts. ts ++ record { domain = domain; number = h.begun + 1 } ∷ []) q.tickets
        ∙ sym (map-append ticket_there m.tickets (opened ∷ []));
  }

  begin_does : Does m (calls.Begin domain) (Reply.Ticket domain (h.begun + 1)) after_begin
  unfolding Exact Becomes IsStep Stands Answers next
  begin_does = record {
    steps = λ w q.
        let v = both_there m.pool.words (domain_at m.domains domain) (w.domains domain) h (q.domains domain) there in
        let mirrors = mirrors_of m w domain h v.0 q there v.1 in (
          (
            (not_none (w.domains domain) v.0 v.1, ((λ full. omega (arith, full, room, tickets_there m w q)), tt)),
            rw v.1 (ap (λ (n : ℕ). Reply.Ticket domain n) (omega (arith, mirrors.ids.begun))),
          ),
          rw v.1 (opens (record w { domains = put domain (Some (begun_once_more v.0)) w.domains })
              (changes_domain m half_way w domain h (begins h) v.0 (begun_once_more v.0) q whole.places there v.1
              (begin_changes w v.0 q v.1))),
        );
    exact = tt;
    becomes = (h, there, refl, refl, sends, ap (λ j. record after_begin { domains = slice_set m.domains j (Some (begins h)) }) place);
    calls = refl;
  } where
    place : i ≡ domain - 1
    place = omega (arith, id)

  -- two more wait
  two_more : length x.ring.waiting ≡ length m.iommu.ring.waiting + 2
  two_more =
      ap (λ (y : Iommu). length y.ring.waiting) sends
      ∙ length-append (m.iommu.ring.waiting ++ IotlbDomain domain ∷ []) (Wait (status_of (m.iommu.sent + 1)) ∷ [])
      ∙ omega (arith, length-append m.iommu.ring.waiting (IotlbDomain domain ∷ []))

  begin_did : Did m (calls.Begin domain) (Reply.Ticket domain (h.begun + 1)) after_begin
  begin_did =
      let sent : x.sent ≡ m.iommu.sent + 1 = ap (λ (y : Iommu). y.sent) sends in
      let steps : x.unit.steps ≡ m.iommu.unit.steps = ap (λ (y : Iommu). y.unit.steps) sends in
      let reply = Reply.Ticket domain (h.begun + 1) in
      record {
        does = begin_does;
        whole = record {
          of_world = (next whole.of_world.0 (calls.Begin domain) reply, (begin_does.steps whole.of_world.0 whole.of_world.1).1);
          places = length-set m.domains i (Some (begins h)) ∙ whole.places;
          devices = ap (λ (y : Iommu). length y.contexts) sends ∙ whole.devices;
          frames_are = refl;
          tickets = tickets_of m after_begin (calls.Begin domain) reply whole begin_does;
          sent = omega (arith, sent, whole.sent);
          steps = omega (arith, steps, two_more, whole.steps);
          begun =
              begun_kept m after_begin (calls.Begin domain) reply begin_does.becomes (omega (arith, sent)) whole.begun;
          made = made_kept m after_begin (calls.Begin domain) reply begin_does.becomes (omega (arith, sent)) whole.made;
        };
      }

-- the same, of whatever the parts of the state turn out to be
pub begins_flush : (m : State) (domain i number id wait : ℕ) (h new : Domain) (x : Iommu) (tickets : List Ticket)
    → IsWhole m.pool.frames m → i < length m.domains → domain ≡ i + 1 → domain_at m.domains domain ≡ Some h
    → length m.tickets < MOST_TICKETS → Begins m.iommu domain x → new ≡ begins h → number ≡ h.begun + 1 → id ≡ domain → wait ≡ x.sent
    → tickets ≡ m.tickets ++ record { domain = id; number = number; wait = wait } ∷ []
    → Did m (calls.Begin domain) (Reply.Ticket domain number)
    (record { pool = m.pool; domains = slice_set m.domains i (Some new); iommu = x; tickets = tickets; calls = m.calls + 1 })
begins_flush m domain i number id wait h new x tickets whole less place there room sends begun next same last opens =
    rw (opens, begun, next, same, last) (begin_did m domain i h x whole less place there room sends)
