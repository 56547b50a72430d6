-- What the unit reads of a page of one domain, and what it may remember of that.
use Rattle.std.proofs.Common.{◌≡◌, ℕ, ◌+◌, ◌-◌, ◌%◌, ◌<◌, ◌≤◌, ◌⊎◌, inl, inr, Bool, List, [], ◌∷◌, map, Option, Some, None, IsTrue}
use Rattle.dmatypes.specs.declared.width.Width.{Width}
use Rattle.std.proofs.Common.{refl, sym, ap, subst, ◌∙◌, arith}
use Rattle.std.proofs.lemmas.Bool.Decides.{nat_tests}
use Rattle.std.proofs.lemmas.Option.{none-some}
use Rattle.dmatypes.specs.Page.{Range}
use Rattle.dmatypes.specs.World.{Target, IsIn, IsRetired}
use Rattle.dmatypes.specs.World as world
use Rattle.piece_tree.specs.declared.piece.PageState.TheVariants.{Live}
use Rattle.piece_tree.specs.declared.piece.PageState.TheVariants as pages
use Rattle.iova.specs.Pieces.{state_at}
use Rattle.iova.specs.Space.{Space}
use Rattle.tables.proofs.pools.Kept.{span-levels}
use Rattle.tables.proofs.walks.Near.{near_leaf, near_table, span_pos}
use Rattle.tables.proofs.walks.Sizes.{leaf_size}
use Rattle.tables.proofs.walks.Onward.{deeper, leaf_on, leaf_zeroed, table_on, table_zeroed}
use Rattle.tables.proofs.walks.Words.{zeroed_bare}
use Rattle.tables.specs.Pool.{memory, IsZeroed}
use Rattle.tables.specs.Tree.{LeafEntry, IsLeafAt, leaf_from, span, stated, states, table_from}
use Rattle.unit.proofs.caches.Members.{met_is}
use Rattle.unit.specs.Answers.{IsStart}
use Rattle.unit.specs.Caches.{CachedContext, CachedLeaf, CachedNonLeaf}
use Rattle.unit.specs.Walking.{hold, met, met_leaf, met_non_leaf, stated_by, IsPassed}
use Rattle.vtdbits.specs.Translation.{target}
use Rattle.engine.specs.declared.record.Record.{Record}
use Rattle.engine.specs.Domains.{Domain}
use Rattle.engine.specs.Quarantine.{IsInRecord, IsLawfulLeaf, IsLawfulTable, IsOfDomain, Marked, Mirrors, PartsPages, marked_here}
use Rattle.engine.specs.Quarantine.{marked_there}
use Rattle.engine.proofs.lists.Places.{is_some}
use Rattle.engine.proofs.caches.Spans.{base_even, base_low, below_end, one_span, rest_is}
use Rattle.dmatypes.specs.Page.{levels, pages_end}

-- ---- records

in_map : {A B : Type 0} (f : A → B) (x : A) (xs : List A) → IsIn x xs → IsIn (f x) (map f xs)
in_map f x [] h = h
in_map f x (y ∷ ys) (inl same) = inl (ap f same)
in_map f x (y ∷ ys) (inr h) = inr (in_map f x ys h)

of_map : {A B : Type 0} (f : A → B) (y : B) (xs : List A) → IsIn y (map f xs) → (x : A) × IsIn x xs × (y ≡ f x)
of_map f y [] h = absurd h
of_map f y (x ∷ xs) (inl same) = (x, inl refl, same)
of_map f y (x ∷ xs) (inr h) = let k = of_map f y xs h in (k.0, inr k.1, k.2)

-- a page in a record of the state is in one of the world
pub of_record : (h : Domain) (v : world.Domain) (r : Record) (p : ℕ) → IsOfDomain h v → IsIn r h.records → r.range.first ≤ p
    → p < r.range.first + r.range.pages → IsInRecord v p
of_record h v r p ids inside low high =
    let there : IsIn (marked_here r) (map marked_there v.retired) =
    subst (IsIn (marked_here r)) ids.records (in_map marked_here r h.records inside) in
    let found = of_map marked_there (marked_here r) v.retired there in
    let same : r.range ≡ found.0.range = ap (λ (x : Marked). x.range) found.2 in
    let first : r.range.first ≡ found.0.range.first = ap (λ (x : Range). x.first) same in
    let many : r.range.pages ≡ found.0.range.pages = ap (λ (x : Range). x.pages) same in
    (found.0, found.1, (omega arith, omega arith))

-- and it isn't live
pub retired_none : (space : Space) (v : world.Domain) (p : ℕ) → PartsPages space v → IsInRecord v p → v.live p ≡ None
retired_none space v p parts inside = by_live (v.live p) refl
  where
    by_live : (o : Option Target) → v.live p ≡ o → v.live p ≡ None
    by_live None e = e
    by_live (Some t) e =
        let live : state_at space.pieces p ≡ Some Live = (parts.live p).1 (is_some (v.live p) t e) in
        let retired : state_at space.pieces p ≡ Some pages.Retired = (parts.retired p).1 inside in
        let clash : Some Live ≡ Some pages.Retired = sym live ∙ retired in
        absurd cc

-- what is read of a page: what is live there; or where it is in a record, nothing or what the record says
abbrev pub IsReadOf : world.Domain → ℕ → Option Target → Type 0
IsReadOf v p t = (t ≡ v.live p) ⊎ ((v.live p ≡ None) × ((t ≡ None) ⊎ ((y : Target) × (t ≡ Some y) × IsRetired v p y)))

-- ---- where a walk begins

-- the walk from a table is the walk from the root, begun lower
abbrev pub IsOnWay : List ℕ → Width → ℕ → ℕ → ℕ → ℕ → Type 0
IsOnWay words width root p level table =
    (leaf_from (memory words) level table p ≡ leaf_from (memory words) (levels width) root p) × (level ≤ levels width)
    × ((l : ℕ) → l < level → table_from (memory words) level table p l ≡ table_from (memory words) (levels width) root p l)

-- it meets nothing, at a page in a record
abbrev pub MeetsNothing : List ℕ → world.Domain → ℕ → ℕ → ℕ → Type 0
MeetsNothing words v p level table =
    (leaf_from (memory words) level table p ≡ None) × IsInRecord v p
    × ((l : ℕ) → l < level → table_from (memory words) level table p l ≡ None)

on_way : (words : List ℕ) (width : Width) (root p level table : ℕ) → table_from (memory words) (levels width) root p level ≡ Some table
    → IsOnWay words width root p level table
on_way words width root p level table there = (
  leaf_on (memory words) (levels width) root p level table there,
  deeper (memory words) (levels width) root p level table there,
  λ l lt. table_on (memory words) (levels width) root p level l table lt there,
)

at_root : (words : List ℕ) (width : Width) (root p level table : ℕ) → level ≡ levels width → table ≡ root
    → IsOnWay words width root p level table
at_root words width root p level table high same = (cc, omega arith, λ l lt. cc)

pub hold_low : (first pages p : ℕ) → IsTrue (hold first pages p) → first ≤ p
hold_low first pages p h = grind (arith, nat_tests)

pub hold_high : (first pages p : ℕ) → IsTrue (hold first pages p) → p < first + pages
hold_high first pages p h = grind (arith, nat_tests)

module _ (words : List ℕ) (h : Domain) (v : world.Domain) (mirrors : Mirrors words h v) where
  at_cached : (i : CachedNonLeaf) (p level table : ℕ) → IsLawfulTable words i h v → IsTrue (hold i.first i.pages p) → level ≡ i.level
      → table ≡ i.frame → IsOnWay words h.width h.root p level table ⊎ MeetsNothing words v p level table
  at_cached i p level table lawful holds high same = elim lawful.named [
    | inl at ↦
        let there : table_from (memory words) (levels h.width) h.root p i.level ≡ Some i.frame =
        at.4 p (hold_low i.first i.pages p holds) (omega (arith, hold_high i.first i.pages p holds, lawful.span)) in
        inl (on_way words h.width h.root p level table (let there' : table_from (memory words) (levels h.width)
        h.root p level ≡ Some table = cc in there'))
    | inr held ↦
        let bare = zeroed_bare words table (subst (IsZeroed words) (sym same) held.3) in
        inr (
          leaf_zeroed (memory words) level table p bare,
          of_record h v held.0 p mirrors.ids held.1 (omega (arith, held.4, hold_low i.first i.pages p holds))
              (omega (arith, held.5, hold_high i.first i.pages p holds)),
          λ l lt. table_zeroed (memory words) level table p l bare lt,
        )
  ]

  pub from_start : (tables : List CachedNonLeaf) (look : Bool) (x : CachedContext) (p level table : ℕ) → h.root ≡ x.root → h.width ≡ x.width
      → ((i : CachedNonLeaf) → IsIn i tables → i.domain ≡ x.domain → IsLawfulTable words i h v) → IsStart tables look x p level table
      → IsOnWay words h.width h.root p level table ⊎ MeetsNothing words v p level table
  from_start tables look x p level table root wide lawful start = elim start [
    | inl top ↦ inl (at_root words h.width h.root p level table (top.0 ∙ ap levels (sym wide)) (top.1 ∙ sym root))
    | inr low ↦ at_cached low.1.0 p level table (lawful low.1.0 low.1.1 low.1.2) low.1.3 low.1.4 low.1.5
  ]

  -- ---- what a walk met

  -- the leaf on a page's way is an entry of the tree
  met_entry : (p : ℕ) (y : LeafEntry) → p < pages_end h.width → leaf_from (memory words) (levels h.width) h.root p ≡ Some y
      → IsLeafAt (memory words) (levels h.width) h.root (p - p % span y.size) (span y.size) y.frame y.rights
  met_entry p y low there = (
    y.size,
    (
      leaf_size words (levels h.width) h.root p y there,
      refl,
      base_even p (span y.size) (span_pos y.size),
      omega (arith, base_low p (span y.size), span-levels h.width),
      λ q above below. near_leaf (memory words) (levels h.width) h.root p q y (one_span p q (span y.size) (span_pos y.size) above below)
          there,
    ),
  )

  -- and each of its pages is live, as the leaf states it
  pub met_stated : (p q : ℕ) (y : LeafEntry) → p < pages_end h.width → leaf_from (memory words) (levels h.width) h.root p ≡ Some y
      → p - p % span y.size ≤ q
      → q < p - p % span y.size + span y.size → v.live q ≡ Some (target (y.frame + (q - (p - p % span y.size))) y.rights)
  met_stated p q y low there above below =
      let pos : 0 < span y.size = span_pos y.size in
      let met : leaf_from (memory words) (levels h.width) h.root q ≡ Some y =
      near_leaf (memory words) (levels h.width) h.root p q y (one_span p q (span y.size) pos above below) there in
      let rest : q % span y.size ≡ q - (p - p % span y.size) =
      rest_is (p - p % span y.size) q (span y.size) pos (base_even p (span y.size) pos) above below in
      sym (mirrors.tree q (below_end h.width p y.size q low (leaf_size words (levels h.width) h.root p y there) below))
      ∙ ap (stated q) met
      ∙ ap (λ n. Some (target (y.frame + n) y.rights)) rest

  met_lawful : (domain p : ℕ) (y : LeafEntry) → p < pages_end h.width → leaf_from (memory words) (levels h.width) h.root p ≡ Some y
      → IsLawfulLeaf words (met_leaf domain p y) h v
  met_lawful domain p y low there = record {
    stated = λ q above below. inl (met_stated p q y low there above below);
    entry = λ strict. met_entry p y low there;
  }

  -- a table on its way is in use for its span
  passed_lawful : (domain p l f : ℕ) → p < pages_end h.width → 0 < l → l < levels h.width
      → table_from (memory words) (levels h.width) h.root p l ≡ Some f
      → IsLawfulTable words (met_non_leaf domain p l f) h v
  passed_lawful domain p l f low some below there = record {
    span = refl;
    named = inl (
      some,
      below,
      base_even p (span l) (span_pos l),
      omega (arith, base_low p (span l), span-levels h.width),
      λ q above high. near_table (memory words) (levels h.width) h.root p q l f (one_span p q (span l) (span_pos l) above high) there,
    );
  }

  -- ---- one reading

  pub off_leaf : (l : CachedLeaf) (p : ℕ) (t : Option Target) → IsLawfulLeaf words l h v → IsTrue (hold l.first l.pages p)
      → t ≡ Some (stated_by p l) → IsReadOf v p t
  off_leaf l p t lawful holds is = elim (lawful.stated p (hold_low l.first l.pages p holds) (hold_high l.first l.pages p holds)) [
    | inl live ↦ inl (is ∙ sym live)
    | inr old ↦ inr (retired_none h.space v p mirrors.pieces (old.0, old.1, old.2), inr (stated_by p l, is, old))
  ]

  pub off_walk : (p level table : ℕ) (t : Option Target) → p < pages_end h.width → t ≡ states (memory words) level table p
      → IsOnWay words h.width h.root p level table ⊎ MeetsNothing words v p level table → IsReadOf v p t
  off_walk p level table t low is (inl way) = inl (is ∙ ap (stated p) way.0 ∙ mirrors.tree p low)
  off_walk p level table t low is (inr none) = inr (retired_none h.space v p mirrors.pieces none.1, inl (is ∙ ap (stated p) none.0))

  pub leaf_of_way : (domain p level table : ℕ) (l : CachedLeaf) → p < pages_end h.width
      → met domain p (leaf_from (memory words) level table p) ≡ Some l
      → IsOnWay words h.width h.root p level table ⊎ MeetsNothing words v p level table → IsLawfulLeaf words l h v
  leaf_of_way domain p level table l low is (inl way) =
      let found = met_is domain p (leaf_from (memory words) level table p) l is in
      subst (λ k. IsLawfulLeaf words k h v) (sym found.2) (met_lawful domain p found.0 low (sym way.0 ∙ found.1))
  leaf_of_way domain p level table l low is (inr none) =
      let found = met_is domain p (leaf_from (memory words) level table p) l is in
      absurd (none-some found.0 (sym none.0 ∙ found.1))

  pub table_of_way : (domain p level table : ℕ) (i : CachedNonLeaf) → p < pages_end h.width → IsPassed (memory words) level table domain p i
      → IsOnWay words h.width h.root p level table ⊎ MeetsNothing words v p level table → IsLawfulTable words i h v
  table_of_way domain p level table i low passed (inl way) =
      subst (λ k. IsLawfulTable words k h v) (sym passed.5)
      (passed_lawful domain p passed.0 passed.1 low passed.2 (omega (arith, passed.3, way.1)) (sym (way.2 passed.0 passed.3) ∙ passed.4))
  table_of_way domain p level table i low passed (inr none) = absurd (none-some passed.1 (sym (none.2 passed.0 passed.3) ∙ passed.4))
