-- A device's request is answered as the world allows, and what the unit then remembers is lawful.
use Rattle.std.proofs.Common.{◌≡◌, ℕ, ◌<◌, ◌⊎◌, inl, inr, Bool, List, Option, Some, None, refl, sym, ap, ap₂, subst, ◌∙◌, arith, slice_get}
use Rattle.std.proofs.lemmas.Option.{none-some, same_Some}
use Rattle.std.specs.Option.{option_and_then}
use Rattle.std.specs.Prelude.{IsSomeAnd, Result, Ok, Err}
use Rattle.dmatypes.specs.Allows.{AllowsTo, AllowsWithin, domain_of_device, host_of}
use Rattle.dmatypes.specs.Page.{IsBeyond, page_of, pages_end}
use Rattle.dmatypes.specs.Rights.{Permits, bits_of}
use Rattle.dmatypes.specs.World.{Target, World, IsIn, IsRetired}
use Rattle.dmatypes.specs.World as world
use Rattle.dmatypes.specs.declared.call.Access.{Access}
use Rattle.dmatypes.specs.declared.refusal.Fault.{Fault}
use Rattle.dmatypes.specs.declared.refusal.Fault.TheVariants as faults
use Rattle.dmatypes.specs.declared.reply.Reply.TheVariants.{Faulted, Host}
use Rattle.dmatypes.specs.declared.width.Width.{Width}
use Rattle.dmatypes.specs.declared.width.Width.TheVariants.{W39, W48}
use Rattle.tables.specs.Pool.{memory}
use Rattle.tables.specs.Tree.{leaf_from}
use Rattle.unit.proofs.caches.Found.{both}
use Rattle.unit.proofs.caches.Members.{met_is}
use Rattle.unit.specs.Answers.{AnswersRequest, AnswersWith, Entries, IsContextOf, IsRead, IsStart, Tells, entries_of}
use Rattle.unit.specs.Caches.{Caches, CachedContext, CachedFault, CachedLeaf, CachedNonLeaf}
use Rattle.unit.specs.Walking.{met, IsPassed}
use Rattle.unit.specs.declared.hit.Hit.{Hit}
use Rattle.vtdbits.specs.Translation.{target}
use Rattle.vtdbits.specs.declared.context.ContextEntry.TheVariants.{Present}
use Rattle.engine.specs.Hits.{Has}
use Rattle.engine.specs.Domains.{Domain, domain_at}
use Rattle.engine.specs.State.{State, host_in, reached_reply}
use Rattle.engine.specs.Quarantine.{AreLawfulCaches, MirrorsIfAny, InDomain, IsLawfulFault, IsLawfulLeaf, IsLawfulTable, Mirrors}
use Rattle.engine.specs.Quarantine.{Quarantine}
use Rattle.vtdbits.specs.Context.{attached}
use Rattle.engine.proofs.caches.Faults.{AreLawfulFaults}
use Rattle.engine.proofs.requests.Read.{IsOnWay, MeetsNothing, IsReadOf, from_start, leaf_of_way, off_leaf, off_walk, table_of_way}

-- ---- the answer

-- what is told of a reading is allowed
told : (v : world.Domain) (address : ℕ) (access : Access) (t : Option Target) (answer : Result Hit Fault) → IsReadOf v (page_of address) t
    → Tells t address access answer → AllowsWithin v address access (reached_reply (host_in answer))
told v address access t (Ok hit) (inl live) tells = inl (tells.0, (sym live ∙ tells.1, tells.2), ap Host tells.3)
told v address access t (Ok hit) (inr (none, inl nothing)) tells = absurd (none-some tells.0 (sym nothing ∙ tells.1))
told v address access t (Ok hit) (inr (none, inr old)) tells =
    let same : old.0 ≡ tells.0 = same_Some old.0 tells.0 (sym old.1 ∙ tells.1) in
    inr (
      λ u live. absurd (none-some u (sym none ∙ live.0)),
      inl (tells.0, (subst (IsRetired v (page_of address)) same old.2, tells.2), ap Host tells.3),
    )
told v address access t (Err fault) (inl live) tells = inr (λ u here. tells.1 u (live ∙ here.0) here.1, inr (ap Faulted tells.0))
told v address access t (Err fault) (inr (none, old)) tells =
    inr (λ u live. absurd (none-some u (sym none ∙ live.0)), inr (ap Faulted tells.0))

-- a host address is told of a page that the domain has so
told_hit : (v : world.Domain) (address : ℕ) (access : Access) (t : Option Target) (hit : Hit) → IsReadOf v (page_of address) t
    → Tells t address access (Ok hit) → Has v address access hit
told_hit v address access t hit (inl live) tells = record {
  page = inl (subst (λ (y : Target). v.live (page_of address) ≡ Some y) tells.4 (sym live ∙ tells.1));
  right = subst (λ (y : Target). Permits y.rights access) tells.4 tells.2;
  host = tells.3 ∙ ap (λ (y : Target). host_of y address) tells.4;
}
told_hit v address access t hit (inr (none, inl nothing)) tells = absurd (none-some tells.0 (sym nothing ∙ tells.1))
told_hit v address access t hit (inr (none, inr old)) tells =
    let same : old.0 ≡ target hit.frame (bits_of hit.rights) = same_Some old.0 tells.0 (sym old.1 ∙ tells.1) ∙ tells.4 in
    record {
      page = inr (subst (IsRetired v (page_of address)) same old.2);
      right = subst (λ (y : Target). Permits y.rights access) tells.4 tells.2;
      host = tells.3 ∙ ap (λ (y : Target). host_of y address) tells.4;
    }

-- ---- the domain

-- a domain of the state is one of the world
mirrored : (words : List ℕ) (here : Option Domain) (there : Option world.Domain) (h : Domain) → here ≡ Some h
    → MirrorsIfAny words here there → (v : world.Domain) × (there ≡ Some v) × Mirrors words h v
mirrored words None None h is both = absurd (none-some h is)
mirrored words None (Some v) h is both = absurd both
mirrored words (Some g) None h is both = absurd both
mirrored words (Some g) (Some v) h is both = (v, refl, subst (λ k. Mirrors words k v) (same_Some g h is) both)

-- what a domain of some id has, the one of this id has
as_domain : (m : State) (w : World) (P : Domain → world.Domain → Type 0) (d e : ℕ) (h : Domain) (v : world.Domain)
    → domain_at m.domains d ≡ Some h → w.domains d ≡ Some v → e ≡ d → InDomain m w e P → P h v
as_domain m w P d e h v here there same has =
    let h_is : has.0 ≡ h = same_Some has.0 h (sym has.2 ∙ ap (domain_at m.domains) same ∙ here) in
    let v_is : has.1 ≡ v = same_Some has.1 v (sym has.3 ∙ ap w.domains same ∙ there) in
    subst (P h) v_is (subst (λ k. P k has.1) h_is has.4)

pub within : (width : Width) (address : ℕ) → (IsBeyond width address → ⊥) → page_of address < pages_end width
within W39 address near = omega arith
within W48 address near = omega arith

-- no domain for a device without one
of_none : (w : World) (device : ℕ) → w.devices device ≡ None → domain_of_device w device ≡ None
of_none w device is = ap (option_and_then w.domains) is

of_some : (w : World) (device d : ℕ) (v : world.Domain) → w.devices device ≡ Some d → w.domains d ≡ Some v
    → domain_of_device w device ≡ Some v
of_some w device d v is there = ap (option_and_then w.domains) is ∙ there

module _ (m : State) (w : World) (quarantine : Quarantine m w) where
  -- a context of the row or the cache is the row's
  pub of_row : (look : Bool) (device : ℕ) (x : CachedContext) → IsContextOf m.iommu.contexts m.iommu.unit.caches.contexts look device x
      → slice_get m.iommu.contexts x.device ≡ Some (Present x.root x.width x.domain)
  of_row look device x is = elim is.1 [
    | inl row ↦ ap (slice_get m.iommu.contexts) is.0 ∙ row
    | inr cached ↦ quarantine.contexts.cached x cached.1
  ]

  -- it names the domain that its device is attached to, and that domain's root
  pub of_context : (x : CachedContext) → slice_get m.iommu.contexts x.device ≡ Some (Present x.root x.width x.domain)
      → (h : Domain) × (v : world.Domain) × (domain_at m.domains x.domain ≡ Some h) × (w.domains x.domain ≡ Some v) × (h.root ≡ x.root)
      × Mirrors m.pool.words h v × (domain_of_device w x.device ≡ Some v) × (h.width ≡ x.width)
  of_context x row =
      let rooted = quarantine.contexts.roots x.device x.root x.domain x.width row in
      let known =
      mirrored m.pool.words (domain_at m.domains x.domain) (w.domains x.domain) rooted.0 rooted.1 (quarantine.domains x.domain) in (
        rooted.0,
        known.0,
        rooted.1,
        known.1,
        rooted.2,
        known.2,
        of_some w x.device x.domain known.0 (quarantine.contexts.devices x.device ∙ ap attached row) known.1,
        rooted.3,
      )

-- ---- one reading

module _ (m : State) (w : World) (lawful : AreLawfulCaches m w m.iommu.unit.caches) (absent : AreLawfulFaults m.iommu.unit w)
    (x : CachedContext) (h : Domain) (v : world.Domain)
    (here : domain_at m.domains x.domain ≡ Some h) (there : w.domains x.domain ≡ Some v) (root : h.root ≡ x.root)
    (wide : h.width ≡ x.width) (mirrors : Mirrors m.pool.words h v)
    (look fill : Bool) (p : ℕ) (low : p < pages_end h.width) (new : Entries) (t : Option Target) where
  pub begun : (level table : ℕ) → IsStart m.iommu.unit.caches.non_leaves look x p level table
      → IsOnWay m.pool.words h.width h.root p level table ⊎ MeetsNothing m.pool.words v p level table
  begun level table start =
      from_start m.pool.words h v mirrors m.iommu.unit.caches.non_leaves look x p level table root wide
      (λ i inside same. as_domain m w (IsLawfulTable m.pool.words i) x.domain i.domain h v here there same (lawful.tables i inside)) start

  -- what is read is of the domain
  read_is : IsRead (memory m.pool.words) x look fill m.iommu.unit.caching p (entries_of m.iommu.unit.caches) new t
      → IsReadOf v p t
  read_is (inl (inl cached, _)) =
      let l = cached.1.0 in
      off_leaf m.pool.words h v mirrors l p t
      (as_domain m w (IsLawfulLeaf m.pool.words l) x.domain l.domain h v here there cached.1.2 (lawful.leaves l cached.1.1)) cached.1.3
      cached.1.4
  read_is (inl (inr gone, _)) = inl (gone.2 ∙ sym ((absent _ gone.1).1 v there))
  read_is (inr (level, table, walked)) =
      off_walk m.pool.words h v mirrors p level table t low walked.meaning (begun level table walked.start)

  -- and what it adds to the caches too
  in_domain : (P : Domain → world.Domain → Type 0) (d : ℕ) → d ≡ x.domain → P h v → InDomain m w d P
  in_domain P d same has = subst (λ e. InDomain m w e P) (sym same) (h, v, here, there, has)

  new_leaf : (level table : ℕ) (l : CachedLeaf) → IsStart m.iommu.unit.caches.non_leaves look x p level table
      → met x.domain p (leaf_from (memory m.pool.words) level table p) ≡ Some l → InDomain m w l.domain (IsLawfulLeaf m.pool.words l)
  new_leaf level table l start is =
      let found = met_is x.domain p (leaf_from (memory m.pool.words) level table p) l is in
      in_domain (IsLawfulLeaf m.pool.words l) l.domain (ap (λ (k : CachedLeaf). k.domain) found.2)
      (leaf_of_way m.pool.words h v mirrors x.domain p level table l low is (begun level table start))

  new_table : (level table : ℕ) (i : CachedNonLeaf) → IsStart m.iommu.unit.caches.non_leaves look x p level table
      → IsPassed (memory m.pool.words) level table x.domain p i → InDomain m w i.domain (IsLawfulTable m.pool.words i)
  new_table level table i start passed =
      in_domain (IsLawfulTable m.pool.words i) i.domain (ap (λ (k : CachedNonLeaf). k.domain) passed.5)
      (table_of_way m.pool.words h v mirrors x.domain p level table i low passed (begun level table start))

  read_leaves : IsRead (memory m.pool.words) x look fill m.iommu.unit.caching p (entries_of m.iommu.unit.caches) new t
      → (l : CachedLeaf) → IsIn l new.leaves → InDomain m w l.domain (IsLawfulLeaf m.pool.words l)
  read_leaves (inl (_, same)) l inside = lawful.leaves l (subst (λ (e : Entries). IsIn l e.leaves) same inside)
  read_leaves (inr (level, table, walked)) l inside = elim (walked.leaves_gain l inside) [
    | inl old ↦ lawful.leaves l old
    | inr met ↦ new_leaf level table l walked.start met.1
  ]

  read_tables : IsRead (memory m.pool.words) x look fill m.iommu.unit.caching p (entries_of m.iommu.unit.caches) new t
      → (i : CachedNonLeaf) → IsIn i new.tables → InDomain m w i.domain (IsLawfulTable m.pool.words i)
  read_tables (inl (_, same)) i inside = lawful.tables i (subst (λ (e : Entries). IsIn i e.tables) same inside)
  read_tables (inr (level, table, walked)) i inside = elim (walked.tables_gain i inside) [
    | inl old ↦ lawful.tables i old
    | inr passed ↦ new_table level table i walked.start passed.1
  ]

  -- a page that was found absent isn't live
  not_live : IsReadOf v p t → t ≡ None → v.live p ≡ None
  not_live (inl same) none = sym same ∙ none
  not_live (inr (gone, _)) none = gone

  read_faults : IsRead (memory m.pool.words) x look fill m.iommu.unit.caching p (entries_of m.iommu.unit.caches) new t
      → (f : CachedFault) → IsIn f new.faults → IsLawfulFault m.iommu.unit w f
  read_faults (inl (_, same)) f inside = absent f (subst (λ (e : Entries). IsIn f e.faults) same inside)
  read_faults (inr (level, table, walked)) f inside = elim (walked.faults_gain f inside) [
    | inl old ↦ absent f old
    | inr found ↦
        let gone = not_live (read_is (inr (level, table, walked))) found.1.0 in (
          (both fill m.iommu.unit.caching found.0).1,
          λ u of_id.
              let is : v ≡ u = same_Some v u (sym there ∙ ap w.domains (sym (ap (λ (y : CachedFault). y.domain) found.1.1)) ∙ of_id) in
              ap₂ (λ (y : world.Domain) (n : ℕ). y.live n) (sym is) (ap (λ (y : CachedFault). y.page) found.1.1) ∙ gone,
        )
  ]

-- ---- the request

module _ (m : State) (w : World) (quarantine : Quarantine m w) (look fill : Bool) (device address : ℕ) (access : Access) (new : Caches)
    (answer : Result Hit Fault) where
  with_context : (x : CachedContext) → IsContextOf m.iommu.contexts m.iommu.unit.caches.contexts look device x
      → AnswersWith (memory m.pool.words) x look fill m.iommu.unit.caching address access m.iommu.unit.caches new answer
      → AllowsTo (domain_of_device w x.device) address access (reached_reply (host_in answer)) × AreLawfulCaches m w new
      × ((f : CachedFault) → IsIn f new.faults → IsLawfulFault m.iommu.unit w f)
  with_context x is answers =
      let of = of_context m w quarantine x (of_row m w quarantine look device x is) in
      let to = subst (λ o. AllowsTo o address access (reached_reply (host_in answer))) (sym of.6) in
      let same : of.1.width ≡ x.width = sym of.5.ids.width ∙ of.7 in
      elim answers [
        | inl beyond ↦ (
          to (inl (subst (λ n. IsBeyond n address) (sym same) beyond.0, ap (λ a. reached_reply (host_in a)) beyond.1)),
          record {
            leaves = λ l inside. quarantine.caches.leaves l (subst (λ (e : Entries). IsIn l e.leaves) beyond.2 inside);
            tables = λ i inside. quarantine.caches.tables i (subst (λ (e : Entries). IsIn i e.tables) beyond.2 inside);
          },
          λ f inside. quarantine.faults f (subst (λ (e : Entries). IsIn f e.faults) beyond.2 inside),
        )
        | inr near ↦
            let t = near.1.0 in
            let low = subst (λ n. page_of address < pages_end n) (sym of.7) (within x.width address near.0) in
            let read = near.1.1 in (
              to (inr (
                (λ b. near.0 (subst (λ n. IsBeyond n address) same b)),
                told of.1 address access t answer
                    (read_is m w quarantine.caches quarantine.faults x of.0 of.1 of.2 of.3 of.4 of.7 of.5 look fill (page_of address) low
                    (entries_of new) t read) near.1.2,
              )),
              record {
                leaves =
                    read_leaves m w quarantine.caches quarantine.faults x of.0 of.1 of.2 of.3 of.4 of.7 of.5 look fill (page_of address)
                    low (entries_of new) t read;
                tables =
                    read_tables m w quarantine.caches quarantine.faults x of.0 of.1 of.2 of.3 of.4 of.7 of.5 look fill (page_of address)
                    low (entries_of new) t read;
              },
              read_faults m w quarantine.caches quarantine.faults x of.0 of.1 of.2 of.3 of.4 of.7 of.5 look fill (page_of address) low
                  (entries_of new) t read,
            )
      ]

  -- the answer is one that the world allows
  pub request_allowed : AnswersRequest (memory m.pool.words) m.iommu.contexts look fill m.iommu.unit.caching device address access
      m.iommu.unit.caches new answer
      → AllowsTo (domain_of_device w device) address access (reached_reply (host_in answer))
  request_allowed (inl (none, is, same)) =
      let unattached = of_none w device (quarantine.contexts.devices device ∙ ap attached none.0) in
      subst (λ o. AllowsTo o address access (reached_reply (host_in answer))) (sym unattached) (ap (λ a. reached_reply (host_in a)) is)
  request_allowed (inr (x, is, gains, answers)) =
      subst (λ d. AllowsTo (domain_of_device w d) address access (reached_reply (host_in answer))) is.0 (with_context x is answers).0

  -- and one of the page that its domain has
  pub request_hit : (hit : Hit) → answer ≡ Ok hit
      → AnswersRequest (memory m.pool.words) m.iommu.contexts look fill m.iommu.unit.caching device address access m.iommu.unit.caches
      new answer
      → IsSomeAnd (domain_of_device w device) (λ v. Has v address access hit)
  request_hit hit ok (inl (none, is, same)) = let clash : Ok hit ≡ Err faults.NotAttached = sym ok ∙ is in absurd cc
  request_hit hit ok (inr (x, is, gains, answers)) =
      let of = of_context m w quarantine x (of_row m w quarantine look device x is) in
      let to = subst (λ d. IsSomeAnd (domain_of_device w d) (λ v. Has v address access hit)) is.0 in
      elim answers [
        | inl beyond ↦ let clash : Ok hit ≡ Err faults.BeyondWidth = sym ok ∙ beyond.1 in absurd cc
        | inr near ↦
            let t = near.1.0 in
            let read =
            read_is m w quarantine.caches quarantine.faults x of.0 of.1 of.2 of.3 of.4 of.7 of.5 look fill (page_of address)
            (subst (λ n. page_of address < pages_end n) (sym of.7) (within x.width address near.0))
            (entries_of new) t near.1.1 in
            to (subst (λ (o : Option world.Domain). IsSomeAnd o (λ v. Has v address access hit)) (sym of.6)
            (told_hit of.1 address access t hit read (subst (Tells t address access) ok near.1.2)))
      ]

  -- what is remembered afterwards is lawful
  pub request_keeps : AnswersRequest (memory m.pool.words) m.iommu.contexts look fill m.iommu.unit.caching device address access
      m.iommu.unit.caches new answer
      → AreLawfulCaches m w new
  request_keeps (inl (none, is, same)) = subst (AreLawfulCaches m w) (sym same) quarantine.caches
  request_keeps (inr (x, is, gains, answers)) = (with_context x is answers).1

  -- each page that is remembered as absent isn't live
  pub request_faults : AnswersRequest (memory m.pool.words) m.iommu.contexts look fill m.iommu.unit.caching device address access
      m.iommu.unit.caches new answer → (f : CachedFault) → IsIn f new.faults → IsLawfulFault m.iommu.unit w f
  request_faults (inl (none, is, same)) f inside = quarantine.faults f (subst (λ (c : Caches). IsIn f c.faults) same inside)
  request_faults (inr (x, is, gains, answers)) f inside = (with_context x is answers).2 f inside

  -- and each context is the row's
  pub request_contexts : AnswersRequest (memory m.pool.words) m.iommu.contexts look fill m.iommu.unit.caching device address access
      m.iommu.unit.caches new answer
      → (y : CachedContext) → IsIn y new.contexts → slice_get m.iommu.contexts y.device ≡ Some (Present y.root y.width y.domain)
  request_contexts (inl (none, is, same)) y inside = quarantine.contexts.cached y (subst (λ (c : Caches). IsIn y c.contexts) same inside)
  request_contexts (inr (x, is, gains, answers)) y inside = elim (gains y inside) [
    | inl old ↦ quarantine.contexts.cached y old
    | inr used ↦
        subst (λ (z : CachedContext). slice_get m.iommu.contexts z.device ≡ Some (Present z.root z.width z.domain)) (sym used.1)
        (of_row m w quarantine look device x is)
  ]
