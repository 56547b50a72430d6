-- A table that a lazy unmap cuts waits in the record that it makes.
use Rattle.std.proofs.Common.{◌≡◌, ◌⊎◌, inl, inr, ℕ, ◌+◌, ◌<◌, ◌≤◌, Some, sym, ap, subst, ◌∙◌, arith}
use Rattle.std.proofs.lemmas.Option.{same_Some}
use Rattle.dmatypes.specs.Page.{Range, levels, range_at}
use Rattle.dmatypes.specs.World.{IsIn}
use Rattle.tables.proofs.pools.Kept.{span-levels}
use Rattle.tables.proofs.unmaps.Ended.{unmap_tables}
use Rattle.tables.specs.Pool.{memory, occurs}
use Rattle.tables.specs.Tree.{IsTableAt}
use Rattle.unit.specs.Caches.{CachedNonLeaf}
use Rattle.engine.proofs.lists.Membership.{in_last}
use Rattle.engine.specs.Domains.{Domain, domain_at}
use Rattle.engine.specs.Ending.{PutsOff}
use Rattle.engine.specs.State.{State, operands_in}
use Rattle.quiet.specs.Laws.{LazyUnmapsRetireTables}
use Rattle.quiet.specs.Quiet.{IsInPlace, IsRetired, IsSound}
use Rattle.quiet.proofs.Calls.{unmap_pages}
use Rattle.quiet.proofs.Lazily.{put_off}
use Rattle.quiet.proofs.Unmapping.{Unmapping, own_unmap, written_after_flush, written_at_once}
use Rattle.quiet.proofs.WhatIsMet.{cached_during}

module _ (m t : State) (d : ℕ) (h : Domain) (whole : IsSound m) (there : domain_at m.domains d ≡ Some h) (range : Range)
    (released : ℕ) (some : 1 ≤ range.pages) (table : CachedNonLeaf) (at : IsInPlace m.pool.words h table) where
  -- it stays in its place, or is cut
  stays_or_cut : (u : Unmapping m t h range released)
      → IsInPlace t.pool.words h table ⊎ (0 < occurs table.frame u.retired.cut.frames)
  stays_or_cut u =
      let unmap = own_unmap m t d h whole there range released u some in
      elim (unmap_tables u.before u.after (levels h.width) h.root u.retired.range.first (u.retired.range.first + u.retired.range.pages)
      u.retired.cut.frames (omega (arith, unmap.below.0, unmap.below.1, span-levels h.width)) unmap.unmaps table.first table.level
      table.frame (subst (λ ws. IsTableAt (memory ws) (levels h.width) h.root table.first table.level table.frame) (sym u.was) at.1)) [
        | inl stays ↦ inl (
          at.0,
          subst (λ ws. IsTableAt (memory ws) (levels h.width) h.root table.first table.level table.frame) u.is stays,
        )
        | inr gone ↦ inr gone.3
      ]

  -- then the record that has it is the domain's last
  stays_or_waits : (new : Domain) → PutsOff (operands_in m h) d range released (operands_in t new)
      → IsInPlace t.pool.words h table ⊎ IsRetired new table.frame
  stays_or_waits new p = elim cut_or_not [ inl stays ↦ inl stays | inr cut ↦ inr (p.retired, last, cut) ]
    where
      cut_or_not : IsInPlace t.pool.words h table ⊎ (0 < occurs table.frame p.retired.cut.frames)
      cut_or_not = elim p.room [
        | inl has ↦ stays_or_cut (written_at_once m t d h whole there range released new p has)
        | inr empties ↦ stays_or_cut (written_after_flush m t d h whole there range released new p empties)
      ]

      last : IsIn p.retired new.records
      last = subst (λ rs. IsIn p.retired rs) (sym (ap (λ (y : Domain). y.records) p.last)) (in_last p.retired p.between.records)

pub retires_tables : LazyUnmapsRetireTables
retires_tables m t d address pages released h h' table whole does there then lazy cached =
    let o = put_off m t d address pages released h whole does.becomes there lazy in
    let some = unmap_pages m t d address pages released h whole there does in
    let waits : IsInPlace m.pool.words h table → IsInPlace t.pool.words h table ⊎ IsRetired h' table.frame =
    λ at. subst (λ (y : Domain). IsInPlace t.pool.words h table ⊎ IsRetired y table.frame) (same_Some o.0 h' (sym o.2 ∙ then))
    (stays_or_waits m t d h whole there (range_at address pages) released some table at o.0 o.1) in
    elim cached [
      | inl before ↦ waits before
      | inr met ↦ elim ((cached_during m t _ _ d h h' whole does there then).1 table met) [
        | inl before ↦ waits before
        | inr after ↦ inl after
      ]
    ]
