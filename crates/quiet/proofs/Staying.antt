-- What is cached of a tree that no unmap changes.
use Rattle.std.proofs.Common.{inl, inr, ℕ, ◌+◌, List, sym, subst, arith}
use Rattle.dmatypes.specs.Page.{levels}
use Rattle.tables.proofs.pools.Kept.{map_leaves, map_tables, some_levels, span-levels}
use Rattle.tables.proofs.walks.Agreeing.{AgreeAt, leaf_agrees, table_agrees, to_agree}
use Rattle.tables.proofs.walks.Words.{same_entry}
use Rattle.tables.specs.Pool.{memory}
use Rattle.unit.specs.Caches.{CachedLeaf, CachedNonLeaf}
use Rattle.engine.proofs.caches.Lawful.{leaf_at_stays, table_at_stays}
use Rattle.engine.specs.Domains.{Domain}
use Rattle.quiet.specs.Laws.{CachesStay}
use Rattle.quiet.specs.Quiet.{IsEntry, IsInPlace}
use Rattle.quiet.proofs.Changes.{Change, Stays}
use Rattle.quiet.proofs.Every.{changes}
use Rattle.quiet.proofs.WhatIsMet.{cached_during}

module _ (old new : List ℕ) (h : Domain) where
  agrees : Stays old new h.width h.root → AgreeAt (memory old) (memory new) (levels h.width) h.root
  agrees stays =
      to_agree (memory old) (memory new) (levels h.width) h.root (λ f some l k inside. same_entry old new l f k (stays f k some inside))

  entry_stays : {P : Type 0} → (P → ⊥) → Change P old new h.width h.root → (leaf : CachedLeaf) → IsEntry old h leaf → IsEntry new h leaf
  entry_stays none (inl stays) leaf at =
      leaf_at_stays old new h.width h.root (λ p. leaf_agrees (memory old) (memory new) (levels h.width) h.root p (agrees stays)) leaf.first
      leaf.pages leaf.frame leaf.rights at
  entry_stays none (inr (inl (p, p', range, says, was, is, map))) leaf at =
      subst (λ ws. IsEntry ws h leaf) is
      (map_leaves p p' (levels h.width) h.root range.first (range.first + range.pages) says (omega (arith, some_levels h.width))
      (omega (arith, map.below.0, map.below.1, span-levels h.width)) (λ q low high. map.absent q (low, high)) map.maps leaf.first leaf.pages
      leaf.frame leaf.rights (subst (λ ws. IsEntry ws h leaf) (sym was) at))
  entry_stays none (inr (inr (by, unmaps))) leaf at = absurd (none by)

  place_stays : {P : Type 0} → (P → ⊥) → Change P old new h.width h.root → (table : CachedNonLeaf) → IsInPlace old h table
      → IsInPlace new h table
  place_stays none (inl stays) table at = (
    at.0,
    table_at_stays old new h.width h.root
        (λ p w. table_agrees (memory old) (memory new) (levels h.width) h.root p w (agrees stays)) table.first table.level table.frame at.1,
  )
  place_stays none (inr (inl (p, p', range, says, was, is, map))) table at =
      subst (λ ws. IsInPlace ws h table) is (
        at.0,
        map_tables p p' (levels h.width) h.root range.first (range.first + range.pages) says map.maps table.first table.level table.frame
            (subst (λ ws. IsInPlace ws h table) (sym was) at).1,
      )
  place_stays none (inr (inr (by, unmaps))) table at = absurd (none by)

pub caches_stay : CachesStay
caches_stay m t call reply domain h h' sound does there then other =
    let c = changes m t domain h sound there call reply does does.becomes h' then in
    let during = cached_during m t call reply domain h h' sound does there then in (
      λ leaf cached. elim cached [
        | inl before ↦ entry_stays m.pool.words t.pool.words h (λ by. other by.0 by.1 by.2 by.3 by.4) c leaf before
        | inr met ↦ elim (during.0 leaf met) [
          | inl before ↦ entry_stays m.pool.words t.pool.words h (λ by. other by.0 by.1 by.2 by.3 by.4) c leaf before
          | inr after ↦ after
        ]
      ],
      λ table cached. elim cached [
        | inl before ↦ place_stays m.pool.words t.pool.words h (λ by. other by.0 by.1 by.2 by.3 by.4) c table before
        | inr met ↦ elim (during.1 table met) [
          | inl before ↦ place_stays m.pool.words t.pool.words h (λ by. other by.0 by.1 by.2 by.3 by.4) c table before
          | inr after ↦ after
        ]
      ],
    )
