-- What is said by a number of levels, said of a tree of that many: of a map and of an unmap.
use Rattle.std.proofs.Common.{◌≡◌, ℕ, ◌+◌, ◌-◌, ◌/◌, ◌<◌, ◌≤◌, ◌⊎◌, ◌↔◌, Bool, true, false, List, Option, None, Some, arith, subst}
use Rattle.std.proofs.Common.{sym, ◌∙◌}
use Rattle.std.specs.Prelude.{OnOk, OnErr, Result, IsTrue}
use Rattle.dmatypes.specs.Page.{Fits, IsPageRange, IsWithin, Range, levels}
use Rattle.dmatypes.specs.declared.page.TheConstants.{SPAN_PAGES}
use Rattle.dmatypes.specs.declared.width.Width.{Width}
use Rattle.dmatypes.proofs.numbers.Ranges.{HasEnds, end_of_fit, to_ends}
use Rattle.dmatypes.specs.World.{Target}
use Rattle.tables.specs.Tree.{LeafEntry, IsLeafAt, IsTableAt, leaf_from, span, states}
use Rattle.tables.specs.Pool.{Pool, memory, occurs, IsTree}
use Rattle.tables.specs.Changes.{KeepsLeaves, KeepsOthers, KeepsTables, MapsPages, TakesAndGivesFrames, UnmapsPages}
use Rattle.tables.specs.Lacks.{leaves_splitting}
use Rattle.tables.proofs.pools.Kept.{apart_stays, either_way, map_leaves, map_tables, same_root, some_levels, span-levels}
use Rattle.tables.proofs.unmaps.Ended.{unmap_leaves, unmap_tables, unmap_whole}

-- a range that fits begins and ends in the root's one span
pub in_root : (width : Width) (r : Range) (level : ℕ) → level ≡ levels width → IsPageRange r → Fits r width
    → (r.first < span level) × (r.first / span level ≡ (r.first + r.pages - 1) / span level)
in_root width r level e range fits =
    let h : HasEnds r = to_ends r range in
    let end = end_of_fit r width range fits in
    subst (λ l. (r.first < span l) × (r.first / span l ≡ (r.first + r.pages - 1) / span l)) (sym e) (
      omega (arith, span-levels width, end, h.some),
      same_root (levels width) r.first (r.first + r.pages - 1) (omega (arith, span-levels width, end, h.some))
          (omega (arith, span-levels width, end, h.some)),
    )

some_at : (width : Width) (level : ℕ) → level ≡ levels width → 1 ≤ level
some_at width level e = omega (arith, e, some_levels width)

-- ---- a map, done or refused

pub mapped_leaves : {A E : Type 0} (old new : Pool) (width : Width) (r : Range) (says : ℕ → Option Target) (level root : ℕ)
    (result : Result A E)
    → level ≡ levels width → IsPageRange r → Fits r width
    → ((p : ℕ) → r.first ≤ p → p < r.first + r.pages → states (memory old.words) (levels width) root p ≡ None)
    → OnOk result (MapsPages old new level root r.first (r.first + r.pages) says) → OnErr result (new ≡ old)
    → KeepsLeaves old new (levels width) root
mapped_leaves old new width r says level root result e range fits absent maps same =
    subst (λ l. KeepsLeaves old new l root) e
    (either_way result maps same
    (map_leaves old new level root r.first (r.first + r.pages) says (some_at width level e) (in_root width r level e range fits).0
    (λ p low high. subst (λ l. states (memory old.words) l root p ≡ None) (sym e) (absent p low high)))
    (λ same first pages frame rights leaf.
    subst (λ (p : Pool). IsLeafAt (memory p.words) level root first pages frame rights) (sym same) leaf))

pub mapped_tables : {A E : Type 0} (old new : Pool) (width : Width) (r : Range) (says : ℕ → Option Target) (level root : ℕ)
    (result : Result A E)
    → level ≡ levels width → OnOk result (MapsPages old new level root r.first (r.first + r.pages) says) → OnErr result (new ≡ old)
    → KeepsTables old new (levels width) root
mapped_tables old new width r says level root result e maps same =
    subst (λ l. KeepsTables old new l root) e
    (either_way result maps same (map_tables old new level root r.first (r.first + r.pages) says)
    (λ same first height table at. subst (λ (p : Pool). IsTableAt (memory p.words) level root first height table) (sym same) at))

pub others_stay : (old new : Pool) (width : Width) (level root : ℕ) (cut : List ℕ) → level ≡ levels width → IsTree old (levels width) root
    → TakesAndGivesFrames old new level root cut → KeepsOthers old new (levels width) root
others_stay old new width level root cut e tree moves height table =
    apart_stays old new (levels width) root height table cut tree (subst (λ l. TakesAndGivesFrames old new l root cut) e moves)

-- ---- an unmap

true_false : true ≡ false → ⊥
true_false e = cc

zero_or_more : (n : ℕ) → (0 < n → ⊥) → n ≡ 0
zero_or_more n h = omega arith

pub ended_whole : (old : Pool) (width : Width) (r : Range) (level root : ℕ) (split : Bool) → level ≡ levels width
    → (IsTrue split ↔ (0 < leaves_splitting (memory old.words) level root r.first (r.first + r.pages)))
    → (p : ℕ) (x : LeafEntry) → IsWithin r p → split ≡ false → leaf_from (memory old.words) (levels width) root p ≡ Some x
    → (q : ℕ) → q / span x.size ≡ p / span x.size → IsWithin r q
ended_whole old width r level root split e says p x within unset leaf =
    unmap_whole old level root r.first (r.first + r.pages)
    (zero_or_more (leaves_splitting (memory old.words) level root r.first (r.first + r.pages))
    (λ some. true_false (sym (says.1 some) ∙ unset))) p x within.0 within.1
    (subst (λ l. leaf_from (memory old.words) l root p ≡ Some x) (sym e) leaf)

pub ended_leaves : (old new : Pool) (width : Width) (r : Range) (level root : ℕ) (cut : List ℕ) → level ≡ levels width → IsPageRange r
    → Fits r width → UnmapsPages old new level root r.first (r.first + r.pages) cut → (first pages frame rights : ℕ)
    → IsLeafAt (memory old.words) (levels width) root first pages frame rights
    → (first + pages ≤ r.first) ⊎ (r.first + r.pages ≤ first)
    → IsLeafAt (memory new.words) (levels width) root first pages frame rights
ended_leaves old new width r level root cut e range fits un first pages frame rights leaf apart =
    subst (λ l. IsLeafAt (memory new.words) l root first pages frame rights) e
    (unmap_leaves old new level root r.first (r.first + r.pages) cut (some_at width level e) (in_root width r level e range fits).0 un
    first pages frame rights (subst (λ l. IsLeafAt (memory old.words) l root first pages frame rights) (sym e) leaf) apart)

pub ended_tables : (old new : Pool) (width : Width) (r : Range) (level root : ℕ) (cut : List ℕ) → level ≡ levels width → IsPageRange r
    → Fits r width → UnmapsPages old new level root r.first (r.first + r.pages) cut → (first height table : ℕ)
    → IsTableAt (memory old.words) (levels width) root first height table
    → IsTableAt (memory new.words) (levels width) root first height table
    ⊎ ((height ≡ 1) × (r.first ≤ first) × (first + SPAN_PAGES ≤ r.first + r.pages) × (0 < occurs table cut))
ended_tables old new width r level root cut e range fits un first height table at =
    subst (λ l. IsTableAt (memory new.words) l root first height table
    ⊎ ((height ≡ 1) × (r.first ≤ first) × (first + SPAN_PAGES ≤ r.first + r.pages) × (0 < occurs table cut))) e
    (unmap_tables old new level root r.first (r.first + r.pages) cut (in_root width r level e range fits).0 un first height table
    (subst (λ l. IsTableAt (memory old.words) l root first height table) (sym e) at))
