-- A domain and its world, once a done flush that was begun is reaped: what it releases, the unit has forgotten.
use Rattle.std.proofs.Common.{◌≡◌, ℕ, ◌+◌, ◌<◌, ◌≤◌, inl, inr, true, false, cond, not, List, [], ◌∷◌, ◌++◌, Bool}
use Rattle.std.proofs.Common.{filter, length, map, Some, refl, sym, ap, subst, ◌∙◌, arith, slice_set}
use Rattle.std.proofs.lemmas.Bool.{ltb-true}
use Rattle.dmatypes.specs.Page.{Range, IsWithin}
use Rattle.dmatypes.specs.World.{Retired, World, IsIn, is_before, put, reaped, without_ticket}
use Rattle.dmatypes.specs.World as world
use Rattle.dmatypes.proofs.lists.Filtered.{in_filter}
use Rattle.piece_tree.specs.declared.piece.PageState.TheVariants as pages
use Rattle.iova.specs.Pieces.{piece_of}
use Rattle.iova.specs.Space.{Space}
use Rattle.tables.specs.Pool.{Pool, memory, IsZeroed}
use Rattle.tables.specs.Spelled.{AreSpelled}
use Rattle.tables.specs.Tree.{IsLeafAt, IsTableAt, states, uses}
use Rattle.unit.specs.Caches.{Caches, CachedLeaf, CachedNonLeaf}
use Rattle.engine.specs.declared.record.Record.{Record}
use Rattle.engine.specs.declared.ticket.Ticket.{Ticket}
use Rattle.engine.specs.Domains.{Domain, domain_at, held_in}
use Rattle.engine.specs.Ending.{ReleasesAll, was_before}
use Rattle.engine.specs.Quarantine.{IsLawfulLeaf, IsLawfulTable, Mirrors, Quarantine, ticket_there}
use Rattle.engine.specs.Ready.{last_done}
use Rattle.engine.specs.State.{State, is_ticket}
use Rattle.engine.specs.Tickets.{IsClear, IsForgotten, KeepsTickets}
use Rattle.engine.proofs.domains.OneChanged.{domain_set}
use Rattle.engine.proofs.flushes.MayRelease.{piece_some, pieces_differ}
use Rattle.engine.proofs.flushes.OneByOne.{matched, matching}
use Rattle.engine.proofs.flushes.PagesReaped.{pieces_reaped}
use Rattle.engine.proofs.flushes.Parted.{held_parts, in_part, marks_gone, marks_left, parts_apart}
use Rattle.engine.proofs.states.OneDomain.{ChangesDomain, changes_domain}
use Rattle.engine.proofs.domains.Trees.{same_tree}
use Rattle.engine.proofs.lists.Membership.{in_left}
use Rattle.engine.proofs.tickets.Closed.{last_done_is}
use Rattle.engine.proofs.tickets.Stay.{follow_within, in_parts}
use Rattle.engine.proofs.unmaps.DomainAfter.{domain_after, mirrors_of}
use Rattle.engine.proofs.caches.Faults.{all_left}
use Rattle.dmatypes.specs.declared.limits.TheConstants.{MOST_DOMAINS}
use Rattle.dmatypes.specs.Page.{levels}

-- ---- what a done ticket's flush has forgotten

-- a ticket whose wait is done
pub done_clear : (m : State) (x : Ticket) → KeepsTickets m → IsIn x m.tickets → x.wait ≤ last_done m.iommu → IsClear m x
done_clear m x k inside past = elim (in_parts x k.done (k.half ++ k.ahead) (subst (IsIn x) k.split inside)) [
  | inl done ↦ k.clear x (in_left x k.done k.half done)
  | inr waits ↦
      let above = (follow_within k.reached m.iommu.sent (k.half ++ k.ahead) x k.sent waits).0 in
      absurd (omega (arith, above, past, last_done_is m k))
]

-- ---- the domain

-- the records that a reap of this number leaves
abbrev pub left_by_reap : ℕ → Domain → List Record
left_by_reap number h = filter (λ k. not (was_before number k)) h.records

module _ (pool pool' : Pool) (space' : Space) (h : Domain) (v : world.Domain) (number : ℕ) (mirrors : Mirrors pool.words h v)
    (all : ReleasesAll pool h.space (filter (was_before number) h.records) pool' space') where
  -- the world's records that go, and those of the domain
  gone_here : (r : Retired) → IsIn r (filter (is_before number) v.retired)
      → (k : Record) × IsIn k (filter (was_before number) h.records) × (r.range ≡ k.range)
  gone_here =
      matched (filter (was_before number) h.records) (filter (is_before number) v.retired)
      (marks_gone number h.records v.retired mirrors.ids.records)

  gone_there : (k : Record) → IsIn k (filter (was_before number) h.records)
      → (r : Retired) × IsIn r (filter (is_before number) v.retired) × (k.range ≡ r.range)
  gone_there =
      matching (filter (was_before number) h.records) (filter (is_before number) v.retired)
      (marks_gone number h.records v.retired mirrors.ids.records)

  -- the piece of a record that is left stays
  piece_left : (r : Retired) → IsIn r (filter (λ x. not (is_before number x)) v.retired)
      → IsIn (piece_of r.range pages.Retired) space'.pieces
  piece_left r inside =
      let was = (in_filter (λ x. not (is_before number x)) r v.retired inside).0 in
      (all.in_use (piece_of r.range pages.Retired) (λ e. cc)).1 (
        mirrors.pieces.ranges r was,
        λ k goes same.
            let other = gone_there k goes in
            let its = (in_filter (is_before number) other.0 v.retired other.1).0 in
            let mine_some =
            piece_some 1 (piece_of r.range pages.Retired) h.space.pieces mirrors.pieces.is_space.ordered (mirrors.pieces.ranges r was) in
            let its_some =
            piece_some 1 (piece_of other.0.range pages.Retired) h.space.pieces mirrors.pieces.is_space.ordered
            (mirrors.pieces.ranges other.0 its) in
            pieces_differ r.range other.0.range mine_some.0 mine_some.1 its_some.1
            (λ p in_r in_other. parts_apart (is_before number) v.retired other.0 r mirrors.pieces.apart other.1 inside p in_other in_r)
            (same ∙ ap (λ (x : Range). piece_of x pages.Retired) other.2),
      )

  mirrors_reaped : Mirrors pool'.words (domain_after h space' (left_by_reap number h)) (reaped number v)
  mirrors_reaped = record {
    ids = record {
      mode = mirrors.ids.mode;
      begun = mirrors.ids.begun;
      width = mirrors.ids.width;
      records = marks_left number h.records v.retired mirrors.ids.records;
    };
    tree = λ p low. ap (λ ws. states (memory ws) (levels h.width) h.root p) all.words ∙ mirrors.tree p low;
    spelled = subst (λ ws. AreSpelled ws (levels h.width) h.root) (sym all.words) mirrors.spelled;
    pieces = pieces_reaped h.space space' v (is_before number) mirrors.pieces all.is_space all.last
        (λ p some. let k = gone_here some.0 some.1 in all.inside k.0 k.1 p (subst (λ (x : Range). IsWithin x p) k.2 some.2))
        (λ p none. all.outside p (λ k goes within.
        let r = gone_there k goes in none (r.0, r.1, subst (λ (x : Range). IsWithin x p) r.2 within)))
        piece_left;
  }

-- ---- the caches

-- no cached entry is of a record that goes
module _ (words words' : List ℕ) (space' : Space) (h : Domain) (v : world.Domain) (number d : ℕ) (mirrors : Mirrors words h v)
    (same : words' ≡ words) (c : Caches)
    (clear : (k : Record) → IsIn k h.records → k.mark < number → IsForgotten c d k) where
  forgotten : (k : Record) → IsIn k (filter (was_before number) h.records) → IsForgotten c d k
  forgotten k goes = let was = in_filter (was_before number) k h.records goes in clear k was.0 (ltb-true k.mark number was.1)

  leaf_reaped : (l : CachedLeaf) → IsIn l c.leaves → l.domain ≡ d → IsLawfulLeaf words l h v
      → IsLawfulLeaf words' l (domain_after h space' (left_by_reap number h)) (reaped number v)
  leaf_reaped l inside own lawful = record {
    stated = λ p low high. elim (lawful.stated p low high) [
      | inl live ↦ inl live
      | inr retired ↦ elim (in_part (is_before number) retired.0 v.retired retired.1) [
        | inl goes ↦
            let k =
            matched (filter (was_before number) h.records) (filter (is_before number) v.retired)
            (marks_gone number h.records v.retired mirrors.ids.records) retired.0 goes in
            absurd ((forgotten k.0 k.1).leaves l inside own p low high (subst (λ (x : Range). IsWithin x p) k.2 retired.2))
        | inr stays ↦ inr (retired.0, stays, retired.2, retired.3)
      ]
    ];
    entry = λ strict.
        subst (λ ws. IsLeafAt (memory ws) (levels h.width) h.root l.first l.pages l.frame l.rights) (sym same) (lawful.entry strict);
  }

  table_reaped : (i : CachedNonLeaf) → IsIn i c.non_leaves → i.domain ≡ d → IsLawfulTable words i h v
      → IsLawfulTable words' i (domain_after h space' (left_by_reap number h)) (reaped number v)
  table_reaped i inside own lawful = record {
    span = lawful.span;
    named = elim lawful.named [
      | inl at ↦ inl (subst (λ ws. IsTableAt (memory ws) (levels h.width) h.root i.first i.level i.frame) (sym same) at)
      | inr held ↦ elim (in_part (was_before number) held.0 h.records held.1) [
        | inl goes ↦ absurd (omega (arith, held.2, (forgotten held.0 goes).tables i inside own))
        | inr stays ↦ inr (held.0, stays, held.2, subst (λ ws. IsZeroed ws i.frame) (sym same) held.3, held.4, held.5)
      ]
    ];
  }

-- ---- the state

module _ (m : State) (w : World) (q : Quarantine m w) (many : length m.domains ≡ MOST_DOMAINS) (i : ℕ) (less : i < length m.domains)
    (h : Domain) (v : world.Domain) (there : domain_at m.domains (i + 1) ≡ Some h) (here : w.domains (i + 1) ≡ Some v) (number : ℕ)
    (clear : (k : Record) → IsIn k h.records → k.mark < number → IsForgotten m.iommu.unit.caches (i + 1) k) (pool : Pool) (space : Space)
    (all : ReleasesAll m.pool h.space (filter (was_before number) h.records) pool space) where
  abbrev new : Domain
  new = domain_after h space (left_by_reap number h)

  -- before the ticket is closed
  abbrev unclosed : State
  unclosed = record {
    pool = pool;
    domains = slice_set m.domains i (Some new);
    iommu = m.iommu;
    tickets = m.tickets;
    calls = m.calls + 1;
  }

  mirrors : Mirrors m.pool.words h v
  mirrors = mirrors_of m w (i + 1) h v q there here

  held_still : (f : ℕ) → held_in new.records f ≤ held_in h.records f
  held_still f = let parts = held_parts (was_before number) h.records f in omega (arith, parts)

  reap_changes : ChangesDomain m unclosed (i + 1) h new v (reaped number v)
  reap_changes = record {
    domains = λ e. domain_set m.domains i (Some new) less e;
    row = refl;
    tickets = refl;
    root = refl;
    width = refl;
    frames = all.frames;
    mirrors = mirrors_reaped m.pool pool space h v number mirrors all;
    others = λ e k ne at. same_tree m.pool.words pool.words k.width k.root all.words;
    account =
        λ f.
        let used : uses (memory pool.words) (levels h.width) h.root f ≡ uses (memory m.pool.words) (levels h.width) h.root f =
        ap (λ ws. uses (memory ws) (levels h.width) h.root f) all.words in
        let parts = held_parts (was_before number) h.records f in
        omega (arith, used, all.free f, parts);
    zeroed = all.zeroed;
    held = λ e k at f more. subst (λ ws. IsZeroed ws f) (sym all.words) (q.frames.held e f k at more);
    held_here =
        λ f more.
        subst (λ ws. IsZeroed ws f) (sym all.words) (q.frames.held (i + 1) f h there (omega (arith, more, held_still f)));
    leaves = λ l inside. (
      inside,
      leaf_reaped m.pool.words pool.words space h v number (i + 1) mirrors all.words m.iommu.unit.caches clear l inside,
    );
    tables = λ k inside. (
      inside,
      table_reaped m.pool.words pool.words space h v number (i + 1) mirrors all.words m.iommu.unit.caches clear k inside,
    );
    contexts = λ k inside. inside;
    faults = all_left m.iommu.unit m.iommu.unit refl;
    live = λ p none. none;
  }

  pub quarantine_unclosed : Quarantine unclosed (record w { domains = put (i + 1) (Some (reaped number v)) w.domains })
  quarantine_unclosed = changes_domain m unclosed w (i + 1) h new v (reaped number v) q many there here reap_changes

-- ---- the ticket

-- the other tickets of the state, and those of the world
abbrev others_here : ℕ → ℕ → List Ticket → List Ticket
others_here domain number ts = filter (λ x. not (is_ticket domain number x)) ts

abbrev others_there : ℕ → ℕ → List world.Ticket → List world.Ticket
others_there domain number ts = filter (λ x. not (world.is_ticket (record { domain = domain; number = number }) x)) ts

same_others : (domain number : ℕ) (ts : List Ticket)
    → others_there domain number (map ticket_there ts) ≡ map ticket_there (others_here domain number ts)
same_others domain number [] = refl
same_others domain number (t ∷ ts) = by_test (not (is_ticket domain number t)) (same_others domain number ts)
  where
    by_test : (b : Bool) → others_there domain number (map ticket_there ts) ≡ map ticket_there (others_here domain number ts)
        → cond b (ticket_there t ∷ others_there domain number (map ticket_there ts)) (others_there domain number (map ticket_there ts))
        ≡ map ticket_there (cond b (t ∷ others_here domain number ts) (others_here domain number ts))
    by_test true rest = ap (λ xs. ticket_there t ∷ xs) rest
    by_test false rest = rest

-- the state with its ticket closed is one of the world with that ticket closed
pub quarantine_closed : (m : State) (w : World) (domain number : ℕ) → Quarantine m w
    → Quarantine (record m { tickets = filter (λ x. not (is_ticket domain number x)) m.tickets })
    (without_ticket (record { domain = domain; number = number }) w)
quarantine_closed m w domain number q = record {
  table_frames = q.table_frames;
  domains = q.domains;
  caches = record { leaves = q.caches.leaves; tables = q.caches.tables };
  faults = q.faults;
  contexts = record { devices = q.contexts.devices; roots = q.contexts.roots; cached = q.contexts.cached };
  frames = q.frames;
  tickets = ap (others_there domain number) q.tickets ∙ same_others domain number m.tickets;
}
