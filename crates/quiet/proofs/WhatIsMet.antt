-- What a walk met, as an entry or a table of the tree.
use Rattle.std.proofs.Common.{◌≡◌, ◌⊎◌, inl, inr, ℕ, zero, suc, ◌-◌, ◌%◌, ◌<◌, List, Some, refl, sym, subst, ◌∙◌, arith}
use Rattle.std.proofs.lemmas.Option.{none-some}
use Rattle.dmatypes.specs.Page.{levels, pages_end}
use Rattle.dmatypes.specs.declared.width.Width.{Width}
use Rattle.tables.specs.Pool.{memory}
use Rattle.tables.specs.Tree.{LeafEntry, IsLeafAt, IsTableAt, Memory, index_in, leaf_from, span, table_from, uses}
use Rattle.tables.proofs.pools.Kept.{span-levels}
use Rattle.tables.proofs.walks.Agreeing.{root_used, under}
use Rattle.tables.proofs.walks.Near.{near_leaf, near_table, span_pos}
use Rattle.tables.proofs.walks.Onward.{index_lt}
use Rattle.tables.proofs.walks.Sizes.{leaf_size}
use Rattle.tables.proofs.walks.Steps.{table-zero}
use Rattle.unit.specs.Caches.{CachedLeaf, CachedNonLeaf}
use Rattle.unit.specs.Walking.{met_leaf, met_non_leaf}
use Rattle.unit.proofs.caches.Members.{met_is}
use Rattle.moments.specs.Moments.{meanwhile}
use Rattle.moments.proofs.Passed.{step}
use Rattle.engine.proofs.caches.Spans.{base_even, base_low, one_span}
use Rattle.engine.specs.Domains.{Domain}
use Rattle.quiet.specs.Laws.{CachedDuringIsOldOrNew}
use Rattle.quiet.specs.Quiet.{IsEntry, IsInPlace}
use Rattle.quiet.proofs.Every.{calls_old_or_new}

-- the leaf on a page's way is an entry of the tree
met_entry : (words : List ℕ) (width : Width) (root p : ℕ) (y : LeafEntry) → p < pages_end width
    → leaf_from (memory words) (levels width) root p ≡ Some y
    → IsLeafAt (memory words) (levels width) root (p - p % span y.size) (span y.size) y.frame y.rights
met_entry words width root p y low there = (
  y.size,
  (
    leaf_size words (levels width) root p y there,
    refl,
    base_even p (span y.size) (span_pos y.size),
    omega (arith, base_low p (span y.size), span-levels width, low),
    λ q above below. near_leaf (memory words) (levels width) root p q y (one_span p q (span y.size) (span_pos y.size) above below) there,
  ),
)

-- and a table on it is in its place
passed_entry : (words : List ℕ) (width : Width) (root p l f : ℕ) → p < pages_end width → 0 < l → l < levels width
    → table_from (memory words) (levels width) root p l ≡ Some f
    → IsTableAt (memory words) (levels width) root (p - p % span l) l f
passed_entry words width root p l f low some below there = (
  some,
  below,
  base_even p (span l) (span_pos l),
  omega (arith, base_low p (span l), span-levels width, low),
  λ q above high. near_table (memory words) (levels width) root p q l f (one_span p q (span l) (span_pos l) above high) there,
)

pub met_at : (words : List ℕ) (h : Domain) (leaf : CachedLeaf) (page : ℕ) (x : LeafEntry) → page < pages_end h.width
    → leaf ≡ met_leaf leaf.domain page x → leaf_from (memory words) (levels h.width) h.root page ≡ Some x → IsEntry words h leaf
met_at words h leaf page x small is there =
    subst (λ (k : CachedLeaf). IsEntry words h k) (sym is) (met_entry words h.width h.root page x small there)

pub passed_at : (words : List ℕ) (h : Domain) (table : CachedNonLeaf) (page l f : ℕ) → page < pages_end h.width → 0 < l
    → l < levels h.width → table ≡ met_non_leaf table.domain page l f → table_from (memory words) (levels h.width) h.root page l ≡ Some f
    → IsInPlace words h table
passed_at words h table page l f small some below is there =
    subst (λ (k : CachedNonLeaf). IsInPlace words h k) (sym is) (refl, passed_entry words h.width h.root page l f small some below there)

pub cached_during : CachedDuringIsOldOrNew
cached_during m t call reply domain h h' whole does there then = (leaves, tables)
  where
    leaves : (leaf : CachedLeaf) → Rattle.quiet.specs.Quiet.IsMetDuring m t h leaf
        → IsEntry m.pool.words h leaf ⊎ IsEntry t.pool.words h leaf
    leaves leaf (reached, first, (page, small, is)) =
        let now : Memory = meanwhile m.pool.words t.pool.words reached in
        let found = met_is leaf.domain page (leaf_from now (levels h.width) h.root page) leaf is in
        let either = (calls_old_or_new m t call reply domain h h' reached page whole does there then first).leaf small in
        elim either [
          | inl e ↦ inl (met_at m.pool.words h leaf page found.0 small found.2 (sym e ∙ found.1))
          | inr e ↦ inr (met_at t.pool.words h leaf page found.0 small found.2 (sym e ∙ found.1))
        ]

    tables : (table : CachedNonLeaf) → Rattle.quiet.specs.Quiet.IsPassedDuring m t h table
        → IsInPlace m.pool.words h table ⊎ IsInPlace t.pool.words h table
    tables table (reached, first, (page, small, (l, f, some, below, at, is))) =
        elim ((calls_old_or_new m t call reply domain h h' reached page whole does there then first).tables l f small at) [
          | inl e ↦ inl (passed_at m.pool.words h table page l f small some below is e)
          | inr e ↦ inr (passed_at t.pool.words h table page l f small some below is e)
        ]

-- a table on a way is used by the tree
pub used_on : (m : Memory) (l t p w c : ℕ) → table_from m l t p w ≡ Some c → 0 < uses m l t c
used_on m zero t p w c h = absurd (none-some c (sym (table-zero m t p w) ∙ h))
used_on m (suc l) t p w c h =
    elim (step m l t p w c h) [
      | inl here ↦ subst (λ f. 0 < uses m (suc l) t f) here.1 (root_used m l t)
      | inr below ↦ under m l t (index_in l p) below.0 c (index_lt l p) below.1 (used_on m l below.0 p w c below.2)
    ]
