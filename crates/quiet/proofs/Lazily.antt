-- A flush, and an unmap that flushes first: what the descriptor leaves.
use Rattle.std.proofs.Common.{◌≡◌, ◌≢◌, ◌⊎◌, inl, inr, ⊎_elim, ℕ, ◌+◌, ◌/◌, ◌<◌, ◌≤◌, false, Some, None, sym, ap, subst}
use Rattle.std.proofs.Common.{◌∙◌, arith}
use Rattle.std.proofs.lemmas.Bool.{cases_lt}
use Rattle.std.proofs.lemmas.Option.{none-some, same_Some}
use Rattle.dmatypes.specs.Page.{Range, levels, range_at}
use Rattle.dmatypes.specs.World.{IsIn}
use Rattle.dmatypes.specs.declared.call.Call.TheVariants as calls
use Rattle.dmatypes.specs.declared.call.Mode.{Mode}
use Rattle.dmatypes.specs.declared.call.Mode.TheVariants.{Lazy, Strict}
use Rattle.dmatypes.specs.declared.reply.Reply.TheVariants.{Flushed, Unmapped}
use Rattle.tables.proofs.pools.Kept.{same_root, span-levels}
use Rattle.tables.specs.Pool.{memory}
use Rattle.tables.specs.Tree.{leaf_from, span, stated, states}
use Rattle.vtdbits.specs.declared.descriptor.Descriptor.{Descriptor}
use Rattle.vtdbits.specs.declared.descriptor.Descriptor.TheVariants.{IotlbDomain}
use Rattle.moments.specs.Moments.{IsUnmap}
use Rattle.unit.specs.Caches.{CachedLeaf, CachedNonLeaf}
use Rattle.unit.specs.Filters.{drops_leaf, drops_non_leaf}
use Rattle.engine.proofs.domains.OneChanged.{domain_low}
use Rattle.engine.proofs.flushes.OneByOne.{dropped_leaf, dropped_table}
use Rattle.engine.proofs.requests.Read.{hold_high, hold_low}
use Rattle.engine.specs.declared.iommu.Iommu.{Iommu}
use Rattle.engine.specs.declared.record.Record.{Record}
use Rattle.engine.specs.Domains.{Domain, Operands, domain_at}
use Rattle.engine.specs.Ending.{ByMode, Empties, EndsBy, Flushes, Invalidates, MakesRoom, PutsOff, UnmapsStrictly}
use Rattle.engine.specs.Ending.{domain_shown}
use Rattle.engine.specs.State.{Becomes, State, operands_in}
use Rattle.engine.specs.Steps.{Does}
use Rattle.quiet.specs.Laws.{FlushesForget, FullListsForget}
use Rattle.quiet.specs.Quiet.{HoldsPageOf, IsEntry, IsInPlace, IsSound}
use Rattle.quiet.proofs.Calls.{unmap_pages}
use Rattle.quiet.proofs.Unmapping.{own_unmap, written_after_flush}
use Rattle.quiet.proofs.Every.{domain_then}
use Rattle.quiet.proofs.Kept.{entry_apart, place_apart, unstated}
use Rattle.quiet.proofs.Sent.{sent_last}
use Rattle.quiet.proofs.WhatIsMet.{cached_during}

-- ---- a flush

abbrev Flushed' : State → State → ℕ → Domain → Type 0
Flushed' m t d h = (new : Domain) × Flushes (operands_in m h) d (operands_in t new) × (domain_at t.domains d ≡ Some new)

flushes : (m t : State) (d released : ℕ) (h : Domain) → IsSound m → Becomes m (calls.Flush d) (Flushed released) t
    → domain_at m.domains d ≡ Some h → Flushed' m t d h
unfolding Becomes
flushes m t d released h whole (k, new, here, does, is) there =
    let own : k ≡ h = same_Some k h (sym here ∙ there) in (
      new,
      subst (λ (x : Domain). Flushes (operands_in m x) d (operands_in t new)) own does,
      domain_then m t d h new whole there (ap (λ (x : State). x.domains) is),
    )

pub none_left : (d : ℕ) (x : Descriptor) (leaf : CachedLeaf) → x ≡ IotlbDomain d → leaf.domain ≡ d → drops_leaf x leaf ≡ false → ⊥
none_left d x leaf is here left = dropped_leaf d leaf here (ap (λ y. drops_leaf y leaf) (sym is) ∙ left)

pub no_table_left : (d : ℕ) (x : Descriptor) (table : CachedNonLeaf) → x ≡ IotlbDomain d → table.domain ≡ d
    → drops_non_leaf x table ≡ false → ⊥
no_table_left d x table is here left = dropped_table d table here (ap (λ y. drops_non_leaf y table) (sym is) ∙ left)

pub flushes_forget : FlushesForget
flushes_forget m t d released h x r whole does there last inside =
    let f = flushes m t d released h whole does.becomes there in
    let is : x ≡ IotlbDomain d = sent_last m.iommu t.iommu (IotlbDomain d) x _ last.0 last.1 f.1.invalidates last.2 in
    let q = whole.of_world.1 in
    let low = domain_low m.domains d h whole.places there in
    let during = cached_during m t _ _ d h f.0 whole does there f.2 in (
      λ leaf here since holds. elim since [
        | inl left ↦ none_left d x leaf is here left
        | inr met ↦ elim (during.0 leaf met) [
          | inl before ↦ entry_apart m whole.of_world.0 q d h there r inside leaf before holds
          | inr after ↦ entry_apart m whole.of_world.0 q d h there r inside leaf
              (subst (λ ws. IsEntry ws h leaf) f.1.releases.words after) holds
        ]
      ],
      λ table here since. elim since [
        | inl left ↦ absurd (no_table_left d x table is here left)
        | inr met ↦ elim (during.1 table met) [
          | inl before ↦ place_apart m whole.of_world.0 q d h there r inside low table before
          | inr after ↦ place_apart m whole.of_world.0 q d h there r inside low table
              (subst (λ ws. IsInPlace ws h table) f.1.releases.words after)
        ]
      ],
    )

-- ---- a full list

abbrev pub PutOff : State → State → ℕ → Range → ℕ → Domain → Type 0
PutOff m t d range released h =
    (new : Domain) × PutsOff (operands_in m h) d range released (operands_in t new) × (domain_at t.domains d ≡ Some new)

by_lazy : (m t : State) (d released : ℕ) (range : Range) (h new : Domain) (mode : Mode) → mode ≡ Lazy
    → ByMode mode ((released ≡ 0) × UnmapsStrictly (operands_in m h) d range (operands_in t new))
    (PutsOff (operands_in m h) d range released (operands_in t new)) → PutsOff (operands_in m h) d range released (operands_in t new)
by_lazy m t d released range h new Lazy is does = does
by_lazy m t d released range h new Strict is does = absurd cc

emptied : (old new : Operands) (d released : ℕ) → released ≢ 0 → MakesRoom old d released new → Empties old d released new
emptied old new d released some (inl has) = absurd (some has.none)
emptied old new d released some (inr empties) = empties

pub put_off : (m t : State) (d address pages released : ℕ) (h : Domain) → IsSound m
    → Becomes m (calls.Unmap d address pages) (Unmapped released) t → domain_at m.domains d ≡ Some h → h.mode ≡ Lazy
    → PutOff m t d (range_at address pages) released h
unfolding Becomes
put_off m t d address pages released h whole (k, new, here, ends, is) there lazy =
    let own : k ≡ h = same_Some k h (sym here ∙ there) in (
      new,
      by_lazy m t d released (range_at address pages) h new h.mode lazy
          (subst (λ (x : Domain). EndsBy (operands_in m x) d (range_at address pages) released (operands_in t new)) own ends),
      domain_then m t d h new whole there (ap (λ (x : State). x.domains) is),
    )

module _ (m t : State) (d address pages released : ℕ) (h : Domain) (whole : IsSound m)
    (does : Does m (calls.Unmap d address pages) (Unmapped released) t) (there : domain_at m.domains d ≡ Some h) (new : Domain)
    (p : PutsOff (operands_in m h) d (range_at address pages) released (operands_in t new))
    (e : Empties (operands_in m h) d released p.roomy)
    (r : Record) (inside : IsIn r h.records) where
  unmap : IsUnmap p.roomy.pool t.pool h.width h.root p.retired.range p.retired.cut.frames
  unmap =
      own_unmap m t d h whole there (range_at address pages) released
      (written_after_flush m t d h whole there (range_at address pages) released new p e)
      (unmap_pages m t d address pages released h whole there does)

  -- a page of a record isn't stated by the tree that is left either
  still_unstated : (n : ℕ) → r.range.first ≤ n → n < r.range.first + r.range.pages
      → stated n (leaf_from (memory t.pool.words) (levels h.width) h.root n) ≡ None
  still_unstated n low high =
      let was = unstated m whole.of_world.0 whole.of_world.1 d h there r inside n low high in
      let first : p.retired.range.first < span (levels h.width) = omega (arith, unmap.below.0, unmap.below.1, span-levels h.width) in
      let here : n < span (levels h.width) = omega (arith, was.0, span-levels h.width) in
      let same = same_root (levels h.width) n p.retired.range.first here first in
      ⊎_elim
      (λ (before : n < p.retired.range.first). kept n same (inl before) was.1)
      (λ (from : p.retired.range.first ≤ n). ⊎_elim
      (λ (until : n < p.retired.range.first + p.retired.range.pages). ap (stated n) (unmap.unmaps.gone n from until))
      (λ (behind : p.retired.range.first + p.retired.range.pages ≤ n). kept n same (inr behind) was.1)
      (cases_lt n (p.retired.range.first + p.retired.range.pages)))
      (cases_lt n p.retired.range.first)
    where
      kept : (n : ℕ) → n / span (levels h.width) ≡ p.retired.range.first / span (levels h.width)
          → ((n < p.retired.range.first) ⊎ (p.retired.range.first + p.retired.range.pages ≤ n))
          → stated n (leaf_from (memory m.pool.words) (levels h.width) h.root n) ≡ None
          → stated n (leaf_from (memory t.pool.words) (levels h.width) h.root n) ≡ None
      kept n same out none =
          unmap.unmaps.elsewhere n same out ∙ ap (λ ws. states (memory ws) (levels h.width) h.root n) e.flushes.releases.words ∙ none

  apart_then : (leaf : CachedLeaf) → IsEntry t.pool.words h leaf → HoldsPageOf leaf r.range → ⊥
  apart_then leaf at (n, holds, within) =
      none-some _ (sym (still_unstated n within.0 within.1)
      ∙ ap (stated n) (at.1.4 n (hold_low leaf.first leaf.pages n holds) (hold_high leaf.first leaf.pages n holds)))

pub full_lists_forget : FullListsForget
full_lists_forget m t d address pages released h x r whole does there lazy some last inside =
    let o = put_off m t d address pages released h whole does.becomes there lazy in
    let e = emptied (operands_in m h) o.1.roomy d released some o.1.room in
    let sends = subst (λ (y : Iommu). Invalidates m.iommu (IotlbDomain d) (domain_shown m.pool h) y) (sym o.1.quiet)
    e.flushes.invalidates in
    let is : x ≡ IotlbDomain d = sent_last m.iommu t.iommu (IotlbDomain d) x _ last.0 last.1 sends last.2 in
    let during = cached_during m t _ _ d h o.0 whole does there o.2 in (
      λ leaf here since holds. elim since [
        | inl left ↦ none_left d x leaf is here left
        | inr met ↦ elim (during.0 leaf met) [
          | inl before ↦ entry_apart m whole.of_world.0 whole.of_world.1 d h there r inside leaf before holds
          | inr after ↦ apart_then m t d address pages released h whole does there o.0 o.1 e r inside leaf after holds
        ]
      ],
      λ table here since. elim since [
        | inl left ↦ absurd (no_table_left d x table is here left)
        | inr met ↦ during.1 table met
      ],
    )
