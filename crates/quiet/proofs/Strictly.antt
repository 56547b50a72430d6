-- A strict unmap: what its descriptor leaves.
use Rattle.std.proofs.Common.{◌≡◌, inl, inr, ℕ, ◌+◌, ◌^◌, ◌<◌, ◌≤◌, Bool, false, Some, sym, ap, subst, ◌∙◌, arith}
use Rattle.std.proofs.lemmas.Bool.Decides.{nat_tests}
use Rattle.std.proofs.lemmas.Option.{none-some, same_Some}
use Rattle.dmatypes.specs.Block.{Block}
use Rattle.vtdbits.specs.declared.descriptor.Descriptor.TheVariants.{IotlbDomain, IotlbPages}
use Rattle.dmatypes.specs.Page.{Range, levels, range_at}
use Rattle.dmatypes.specs.declared.call.Call.TheVariants as calls
use Rattle.dmatypes.specs.declared.call.Mode.{Mode}
use Rattle.dmatypes.specs.declared.call.Mode.TheVariants.{Lazy, Strict}
use Rattle.dmatypes.specs.declared.reply.Reply.TheVariants.{Unmapped}
use Rattle.tables.proofs.pools.Kept.{some_levels, span-levels}
use Rattle.tables.proofs.unmaps.Ended.{unmap_leaves}
use Rattle.tables.specs.Pool.{memory, occurs}
use Rattle.tables.specs.Tree.{leaf_from, span, table_from, uses}
use Rattle.vtdbits.specs.declared.descriptor.Descriptor.{Descriptor}
use Rattle.moments.specs.Moments.{IsUnmap}
use Rattle.unit.specs.Caches.{CachedLeaf, CachedNonLeaf}
use Rattle.unit.specs.Filters.{drops_leaf, drops_non_leaf}
use Rattle.engine.proofs.caches.StrictRange.{sent_covers, strict_apart, strict_table}
use Rattle.engine.proofs.domains.OneChanged.{domain_low}
use Rattle.engine.proofs.frames.Owners.{tree_of}
use Rattle.engine.proofs.requests.Read.{hold_high, hold_low}
use Rattle.engine.specs.Domains.{Domain, domain_at}
use Rattle.engine.specs.Ending.{ByMode, EndsBy, PutsOff, UnmapsStrictly, hint_of}
use Rattle.engine.specs.State.{Becomes, State, operands_in}
use Rattle.engine.specs.Steps.{Does}
use Rattle.quiet.specs.Laws.{StrictUnmapsForgetPages, StrictUnmapsForgetSinglePages, StrictUnmapsForgetTables}
use Rattle.quiet.specs.Quiet.{HoldsPageOf, IsDoneLast, IsEntry, IsInPlace, IsSound}
use Rattle.quiet.proofs.Calls.{unmap_pages}
use Rattle.quiet.proofs.Unmapping.{own_unmap, written_strictly}
use Rattle.quiet.proofs.Every.{domain_then}
use Rattle.quiet.proofs.Sent.{sent_last}
use Rattle.quiet.proofs.WhatIsMet.{cached_during, used_on}

abbrev Strictly : State → State → ℕ → Range → Domain → Type 0
Strictly m t d range h = (new : Domain) × UnmapsStrictly (operands_in m h) d range (operands_in t new) × (domain_at t.domains d ≡ Some new)

by_mode : (m t : State) (d released : ℕ) (range : Range) (h new : Domain) (mode : Mode) → mode ≡ Strict
    → ByMode mode ((released ≡ 0) × UnmapsStrictly (operands_in m h) d range (operands_in t new))
    (PutsOff (operands_in m h) d range released (operands_in t new)) → UnmapsStrictly (operands_in m h) d range (operands_in t new)
by_mode m t d released range h new Strict is does = does.1
by_mode m t d released range h new Lazy is does = absurd cc

strictly : (m t : State) (d address pages released : ℕ) (h : Domain) → IsSound m
    → Becomes m (calls.Unmap d address pages) (Unmapped released) t
    → domain_at m.domains d ≡ Some h → h.mode ≡ Strict → Strictly m t d (range_at address pages) h
unfolding Becomes
strictly m t d address pages released h whole (k, new, here, ends, is) there strict =
    let own : k ≡ h = same_Some k h (sym here ∙ there) in (
      new,
      by_mode m t d released (range_at address pages) h new h.mode strict
          (subst (λ (x : Domain). EndsBy (operands_in m x) d (range_at address pages) released (operands_in t new)) own ends),
      domain_then m t d h new whole there (ap (λ (x : State). x.domains) is),
    )

dropped_by_domain : (d : ℕ) (l : CachedLeaf) → l.domain ≡ d → drops_leaf (IotlbDomain d) l ≡ false → ⊥
dropped_by_domain d l e left = grind (arith, nat_tests)

dropped_in_block : (d : ℕ) (b : Block) (hint : Bool) (l : CachedLeaf) → l.domain ≡ d → b.first ≤ l.first
    → l.first + l.pages ≤ b.first + 2 ^ b.order → drops_leaf (IotlbPages d b hint) l ≡ false → ⊥
dropped_in_block d b hint l e low high left = grind (arith, nat_tests)

module _ (m t : State) (d address pages released : ℕ) (h : Domain) (whole : IsSound m)
    (does : Does m (calls.Unmap d address pages) (Unmapped released) t) (there : domain_at m.domains d ≡ Some h) (x : Descriptor)
    (last : IsDoneLast t x) (new : Domain) (u : UnmapsStrictly (operands_in m h) d (range_at address pages) (operands_in t new))
    (then : domain_at t.domains d ≡ Some new) where
  is_sent : x ≡ u.descriptor
  is_sent = sent_last m.iommu t.iommu u.descriptor x _ last.0 last.1 u.invalidates last.2

  unmap : IsUnmap m.pool u.pool_between h.width h.root u.retired.range u.retired.cut.frames
  unmap =
      own_unmap m t d h whole there (range_at address pages) released
      (written_strictly m t d h whole there (range_at address pages) released new u)
      (unmap_pages m t d address pages released h whole there does)

  start : u.retired.range.first < span (levels h.width)
  start = omega (arith, unmap.below.0, unmap.below.1, span-levels h.width)

  -- an entry that is left is one of the tree that is left
  leaf_left : (leaf : CachedLeaf) → leaf.domain ≡ d → drops_leaf x leaf ≡ false → IsEntry m.pool.words h leaf → IsEntry t.pool.words h leaf
  leaf_left leaf here left at =
      let away = strict_apart m.pool u.pool_between h.width h.root d u.retired.range u.retired.cut u.descriptor unmap.below.0 u.sent
      u.retires.split leaf here (ap (λ y. drops_leaf y leaf) (sym is_sent) ∙ left) at in
      subst (λ ws. IsEntry ws h leaf) (sym u.releases.words)
      (unmap_leaves m.pool u.pool_between (levels h.width) h.root u.retired.range.first (u.retired.range.first + u.retired.range.pages)
      u.retired.cut.frames (omega (arith, some_levels h.width)) start unmap.unmaps leaf.first leaf.pages leaf.frame leaf.rights at away)

  -- and holds no page that is gone
  holds_none : (leaf : CachedLeaf) → IsEntry t.pool.words h leaf → HoldsPageOf leaf (range_at address pages) → ⊥
  holds_none leaf at (p, holds, inside) =
      let there' = at.1.4 p (hold_low leaf.first leaf.pages p holds) (hold_high leaf.first leaf.pages p holds) in
      let in_range = subst (λ (r : Range). (r.first ≤ p) × (p < r.first + r.pages)) (sym u.of_range) inside in
      none-some _ (sym (unmap.unmaps.gone p in_range.0 in_range.1)
      ∙ ap (λ ws. leaf_from (memory ws) (levels h.width) h.root p) (sym u.releases.words) ∙ there')

  -- no leaf of one of its pages is left
  none_single : (leaf : CachedLeaf) → leaf.domain ≡ d → leaf.pages ≡ 1 → drops_leaf x leaf ≡ false
      → HoldsPageOf leaf (range_at address pages) → ⊥
  none_single leaf here one left (p, holds, inside) =
      let in_range = subst (λ (r : Range). (r.first ≤ p) × (p < r.first + r.pages)) (sym u.of_range) inside in
      let low = hold_low leaf.first leaf.pages p holds in
      let high = hold_high leaf.first leaf.pages p holds in
      elim (sent_covers d u.retired.range u.retired.cut u.descriptor unmap.below.0 u.sent) [
        | inl all ↦ dropped_by_domain d leaf here (ap (λ y. drops_leaf y leaf) (sym all ∙ sym is_sent) ∙ left)
        | inr (b, is, covers) ↦
            dropped_in_block d b (hint_of u.retired.cut) leaf here (omega (arith, one, low, high, covers.low, in_range.0))
            (omega (arith, one, low, high, covers.high, in_range.1)) (ap (λ y. drops_leaf y leaf) (sym is ∙ sym is_sent) ∙ left)
      ]

  table_left : (table : CachedNonLeaf) → table.domain ≡ d → drops_non_leaf x table ≡ false → IsInPlace m.pool.words h table
      → IsInPlace t.pool.words h table
  table_left table here left at =
      subst (λ ws. IsInPlace ws h table) (sym u.releases.words) (
        at.0,
        strict_table m.pool u.pool_between h.width h.root d u.retired.range u.retired.cut u.descriptor unmap.below.0 u.sent
            u.retires.split start unmap.unmaps table here at.0 (ap (λ y. drops_non_leaf y table) (sym is_sent) ∙ left) at.1,
      )

  -- a table in its place is no free frame
  in_use : (table : CachedNonLeaf) → IsInPlace t.pool.words h table → occurs table.frame t.pool.free ≡ 0
  in_use table at =
      let q = (does.steps whole.of_world.0 whole.of_world.1).1 in
      let same : new.root ≡ h.root = ap (λ (y : Domain). y.root) u.same ∙ ap (λ (y : Domain). y.root) u.retires.same in
      let wide : new.width ≡ h.width = ap (λ (y : Domain). y.width) u.same ∙ ap (λ (y : Domain). y.width) u.retires.same in
      let tree = tree_of t.pool (domain_at t.domains) d new q.frames (domain_low m.domains d h whole.places there) then in
      let way : table_from (memory t.pool.words) (levels h.width) h.root table.first table.level ≡ Some table.frame =
      at.1.4 table.first (omega arith) (omega (arith, Rattle.tables.proofs.walks.Near.span_pos table.level)) in
      let used : 0 < uses (memory t.pool.words) (levels h.width) h.root table.frame =
      used_on (memory t.pool.words) (levels h.width) h.root table.first table.level table.frame way in
      let again : uses (memory t.pool.words) (levels new.width) new.root table.frame
      ≡ uses (memory t.pool.words) (levels h.width) h.root table.frame =
      ap (λ n. uses (memory t.pool.words) (levels n) new.root table.frame) wide
      ∙ ap (λ n. uses (memory t.pool.words) (levels h.width) n table.frame) same in
      omega (arith, tree.once table.frame, used, again)

pub strict_pages : StrictUnmapsForgetPages
strict_pages m t d address pages released h x leaf whole does there strict last here cached left =
    let s = strictly m t d address pages released h whole does.becomes there strict in
    let at : IsEntry t.pool.words h leaf = elim cached [
      | inl before ↦ leaf_left m t d address pages released h whole does there x last s.0 s.1 s.2 leaf here left before
      | inr during ↦ elim ((cached_during m t _ _ d h s.0 whole does there s.2).0 leaf during) [
        | inl before ↦ leaf_left m t d address pages released h whole does there x last s.0 s.1 s.2 leaf here left before
        | inr after ↦ after
      ]
    ] in
    (at, holds_none m t d address pages released h whole does there x last s.0 s.1 s.2 leaf at)

pub strict_single_pages : StrictUnmapsForgetSinglePages
strict_single_pages m t d address pages released h x leaf whole does there strict last here one left =
    let s = strictly m t d address pages released h whole does.becomes there strict in
    none_single m t d address pages released h whole does there x last s.0 s.1 s.2 leaf here one left

pub strict_tables : StrictUnmapsForgetTables
strict_tables m t d address pages released h x table whole does there strict last here cached left =
    let s = strictly m t d address pages released h whole does.becomes there strict in
    let at : IsInPlace t.pool.words h table = elim cached [
      | inl before ↦ table_left m t d address pages released h whole does there x last s.0 s.1 s.2 table here left before
      | inr during ↦ elim ((cached_during m t _ _ d h s.0 whole does there s.2).1 table during) [
        | inl before ↦ table_left m t d address pages released h whole does there x last s.0 s.1 s.2 table here left before
        | inr after ↦ after
      ]
    ] in
    (at, in_use m t d address pages released h whole does there x last s.0 s.1 s.2 table at)
