-- What a request adds to the caches is of no retired record: the pages of a leaf that it met are live, and a table that it passed is in
-- use.
use Rattle.std.proofs.Common.{◌≡◌, ℕ, ◌+◌, ◌<◌, ◌≤◌, ◌⊎◌, inl, inr, Bool, List, Option, Some, length, sym, ap, subst, ◌∙◌, arith}
use Rattle.std.proofs.lemmas.Bool.{cases_lt}
use Rattle.std.proofs.lemmas.Option.{none-some, same_Some}
use Rattle.std.specs.Prelude.{Result}
use Rattle.dmatypes.specs.Page.{IsWithin, page_of}
use Rattle.dmatypes.specs.World.{Target, World, IsIn}
use Rattle.dmatypes.specs.World as world
use Rattle.dmatypes.specs.declared.call.Access.{Access}
use Rattle.dmatypes.specs.declared.limits.TheConstants.{MOST_DOMAINS}
use Rattle.dmatypes.specs.declared.refusal.Fault.{Fault}
use Rattle.dmatypes.specs.Page.{levels, pages_end}
use Rattle.tables.specs.Pool.{memory, occurs}
use Rattle.tables.specs.Tree.{leaf_from, uses}
use Rattle.unit.proofs.caches.Members.{met_is}
use Rattle.unit.proofs.walks.Used.{table_used}
use Rattle.unit.specs.Answers.{AnswersRequest, AnswersWith, Entries, IsContextOf, IsRead, IsStart, entries_of}
use Rattle.unit.specs.Caches.{CachedContext, CachedLeaf, CachedNonLeaf}
use Rattle.unit.specs.Walking.{met, IsPassed}
use Rattle.unit.specs.declared.hit.Hit.{Hit}
use Rattle.engine.specs.declared.record.Record.{Record}
use Rattle.engine.specs.Domains.{Domain, domain_at}
use Rattle.engine.specs.Quarantine.{Mirrors, Quarantine}
use Rattle.engine.specs.State.{State}
use Rattle.engine.specs.Tickets.{IsForgotten}
use Rattle.engine.proofs.domains.OneChanged.{domain_low}
use Rattle.engine.proofs.frames.Held.{held_by}
use Rattle.engine.proofs.frames.Owners.{held_out}
use Rattle.engine.proofs.requests.Allowed.{begun, of_context, of_row, within}
use Rattle.engine.proofs.requests.Read.{IsOnWay, MeetsNothing, met_stated, of_record, retired_none}
use Rattle.engine.proofs.tickets.Stay.{Forgets}

-- ---- what a walk met

module _ (words : List ℕ) (h : Domain) (v : world.Domain) (mirrors : Mirrors words h v) where
  -- each page of a leaf is live
  live_of_way : (domain p level table s : ℕ) (l : CachedLeaf) → p < pages_end h.width
      → met domain p (leaf_from (memory words) level table p) ≡ Some l
      → IsOnWay words h.width h.root p level table ⊎ MeetsNothing words v p level table → l.first ≤ s → s < l.first + l.pages
      → (y : Target) × (v.live s ≡ Some y)
  live_of_way domain p level table s l low is (inl way) above below =
      let found = met_is domain p (leaf_from (memory words) level table p) l is in (
        _,
        met_stated words h v mirrors p s found.0 low (sym way.0 ∙ found.1) (subst (λ (k : CachedLeaf). k.first ≤ s) found.2 above)
            (subst (λ (k : CachedLeaf). s < k.first + k.pages) found.2 below),
      )
  live_of_way domain p level table s l low is (inr none) above below =
      let found = met_is domain p (leaf_from (memory words) level table p) l is in
      absurd (none-some found.0 (sym none.0 ∙ found.1))

  -- a table is one of the tree
  used_of_way : (domain p level table : ℕ) (i : CachedNonLeaf) → IsPassed (memory words) level table domain p i
      → IsOnWay words h.width h.root p level table ⊎ MeetsNothing words v p level table
      → 0 < uses (memory words) (levels h.width) h.root i.frame
  used_of_way domain p level table i passed (inl way) =
      subst (λ f. 0 < uses (memory words) (levels h.width) h.root f) (sym (ap (λ (k : CachedNonLeaf). k.frame) passed.5))
      (table_used (memory words) (levels h.width) h.root p passed.0 passed.1 (sym (way.2 passed.0 passed.3) ∙ passed.4))
  used_of_way domain p level table i passed (inr none) = absurd (none-some passed.1 (sym (none.2 passed.0 passed.3) ∙ passed.4))

-- ---- what a request adds

module _ (m t : State) (w : World) (q : Quarantine m w) (many : length m.domains ≡ MOST_DOMAINS) (look fill : Bool) where
  module _ (x : CachedContext) (h : Domain) (v : world.Domain) (here : domain_at m.domains x.domain ≡ Some h)
      (there : w.domains x.domain ≡ Some v) (root : h.root ≡ x.root) (wide : h.width ≡ x.width) (mirrors : Mirrors m.pool.words h v)
      (p : ℕ) (low : p < pages_end h.width) (y : Option Target) where
    way : (level table : ℕ) → IsStart m.iommu.unit.caches.non_leaves look x p level table
        → IsOnWay m.pool.words h.width h.root p level table ⊎ MeetsNothing m.pool.words v p level table
    way = begun m w q.caches q.faults x h v here there root wide mirrors look fill p low (entries_of t.iommu.unit.caches) y

    -- no page of a new leaf is in a record
    leaf_out : (level table : ℕ) → IsStart m.iommu.unit.caches.non_leaves look x p level table → (l : CachedLeaf)
        → met x.domain p (leaf_from (memory m.pool.words) level table p) ≡ Some l → (d : ℕ) (g : Domain) → domain_at m.domains d ≡ Some g
        → l.domain ≡ d → (r : Record) → IsIn r g.records → (s : ℕ) → l.first ≤ s → s < l.first + l.pages → IsWithin r.range s → ⊥
    leaf_out level table start l is d g at same r inside s above below in_range =
        let found = met_is x.domain p (leaf_from (memory m.pool.words) level table p) l is in
        let own : d ≡ x.domain = sym same ∙ ap (λ (k : CachedLeaf). k.domain) found.2 in
        let g_is : g ≡ h = same_Some g h (sym at ∙ ap (domain_at m.domains) own ∙ here) in
        let live = live_of_way m.pool.words h v mirrors x.domain p level table s l low is (way level table start) above below in
        let none = retired_none h.space v s mirrors.pieces
        (of_record h v r s mirrors.ids (subst (λ (k : Domain). IsIn r k.records) g_is inside) in_range.0 in_range.1) in
        none-some live.0 (sym none ∙ live.1)

    -- and no record holds a new table
    table_out : (level table : ℕ) → IsStart m.iommu.unit.caches.non_leaves look x p level table → (i : CachedNonLeaf)
        → IsPassed (memory m.pool.words) level table x.domain p i → (d : ℕ) (g : Domain) → domain_at m.domains d ≡ Some g
        → (r : Record) → IsIn r g.records → occurs i.frame r.cut.frames ≡ 0
    table_out level table start i passed d g at r inside =
        elim (cases_lt 0 (occurs i.frame r.cut.frames)) [
          | inl some ↦
              let used = used_of_way m.pool.words h v mirrors x.domain p level table i passed (way level table start) in
              let out =
              held_out m.pool (domain_at m.domains) x.domain d h g q.frames (domain_low m.domains x.domain h many here)
              (domain_low m.domains d g many at) here at i.frame (held_by g.records r i.frame inside some) in
              absurd (omega (arith, used, out))
          | inr none ↦ omega (arith, none)
        ]

    read_forgets : IsRead (memory m.pool.words) x look fill m.iommu.unit.caching p (entries_of m.iommu.unit.caches)
        (entries_of t.iommu.unit.caches) y → Forgets m t
    read_forgets (inl (cached, same)) d g at r inside old = record {
      leaves = λ l l_in. old.leaves l (subst (λ (e : Entries). IsIn l e.leaves) same l_in);
      tables = λ i i_in. old.tables i (subst (λ (e : Entries). IsIn i e.tables) same i_in);
    }
    read_forgets (inr (level, table, walked)) d g at r inside old = record {
      leaves = λ l l_in. elim (walked.leaves_gain l l_in) [
        | inl was ↦ old.leaves l was
        | inr new ↦ λ same. leaf_out level table walked.start l new.1 d g at same r inside
      ];
      tables = λ i i_in. elim (walked.tables_gain i i_in) [
        | inl was ↦ old.tables i was
        | inr new ↦ λ same. table_out level table walked.start i new.1 d g at r inside
      ];
    }

  module _ (device address : ℕ) (access : Access) (answer : Result Hit Fault) where
    context_forgets : (x : CachedContext) → IsContextOf m.iommu.contexts m.iommu.unit.caches.contexts look device x
        → AnswersWith (memory m.pool.words) x look fill m.iommu.unit.caching address access m.iommu.unit.caches t.iommu.unit.caches answer
        → Forgets m t
    context_forgets x is (inl beyond) d g at r inside old = record {
      leaves = λ l l_in. old.leaves l (subst (λ (e : Entries). IsIn l e.leaves) beyond.2 l_in);
      tables = λ i i_in. old.tables i (subst (λ (e : Entries). IsIn i e.tables) beyond.2 i_in);
    }
    context_forgets x is (inr near) d g at r inside old =
        let of = of_context m w q x (of_row m w q look device x is) in
        read_forgets x of.0 of.1 of.2 of.3 of.4 of.7 of.5 (page_of address)
        (subst (λ n. page_of address < pages_end n) (sym of.7) (within x.width address near.0)) near.1.0 near.1.1 d g at r
        inside old

    -- what is forgotten stays so
    pub request_forgets : AnswersRequest (memory m.pool.words) m.iommu.contexts look fill m.iommu.unit.caching device address access
        m.iommu.unit.caches
        t.iommu.unit.caches answer → Forgets m t
    request_forgets (inl (none, is, same)) d g at r inside old = subst (λ c. IsForgotten c d r) (sym same) old
    request_forgets (inr (x, is, gains, answers)) d g at r inside old = context_forgets x is answers d g at r inside old
