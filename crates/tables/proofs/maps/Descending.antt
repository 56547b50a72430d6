-- An extent mapped through the table under its entry.
use Rattle.std.proofs.Common.{◌≡◌, ◌≢◌, ℕ, zero, suc, ◌+◌, ◌-◌, ◌/◌, ◌<◌, ◌≤◌, ⊎_elim, Bool, false, IsSome, Option, Some, None, [], refl}
use Rattle.std.proofs.Common.{sym, ap, subst, ◌∙◌, arith}
use Rattle.std.proofs.lemmas.Option.{none-some}
use Rattle.dmatypes.specs.declared.page.TheConstants.{SPAN_PAGES}
use Rattle.tables.specs.declared.entries.TheConstants.{TABLE_ENTRIES}
use Rattle.dmatypes.specs.World.{Target}
use Rattle.vtdbits.specs.declared.entry.SsEntry.{SsEntry}
use Rattle.vtdbits.specs.declared.entry.SsEntry.TheVariants.{Absent, Table}
use Rattle.tables.specs.Tree.{Memory, LeafEntry, span, index_in, leaf_of, leaf_from, table_from}
use Rattle.tables.specs.Pool.{Pool, memory, IsTree}
use Rattle.tables.specs.Changes.{TakesAndGivesFrames, MapsPages}
use Rattle.tables.specs.Lacks.{tables_lacking_at}
use Rattle.tables.proofs.maps.Mapped.{maps_up}
use Rattle.tables.proofs.unmaps.UnderEntry.{under_moves, below_under}
use Rattle.tables.proofs.walks.Steps.{leaf_under, table_under, table_top, same_or_not, same_index, div_span_one}
use Rattle.tables.proofs.walks.Near.{near_at}
use Rattle.tables.proofs.walks.Levels.{leaf_level, table_level}
use Rattle.tables.proofs.counts.OnePage.{lacks_some, lacks_at-table, lacks_at-added}
use Rattle.tables.proofs.walks.Onward.{IsBare, table_zeroed}

-- the pages of an extent are in one span of each level
pub extent_span : (l from to p : ℕ) → 1 ≤ l → from / SPAN_PAGES ≡ (to - 1) / SPAN_PAGES → from ≤ p → p < to → p / span l ≡ from / span l
extent_span l from to p some one low high =
    near_at 1 l p from some (div_span_one p ∙ (let e : p / SPAN_PAGES ≡ from / SPAN_PAGES = omega arith in e) ∙ sym (div_span_one from))

-- a map through the table under an entry is one of the table
abbrev pub Through : Pool → Pool → ℕ → ℕ → ℕ → ℕ → ℕ → ℕ → ℕ → (ℕ → Option Target) → Type 0
Through old new level l t i c from to says =
    TakesAndGivesFrames old new level t [] × MapsPages old new level t from to says × (memory new.words level t i ≡ Table c)

pub map_through : (old new : Pool) (level l t i c from to : ℕ) (says : ℕ → Option Target) → level ≡ suc l → 1 ≤ l
    → from / SPAN_PAGES ≡ (to - 1) / SPAN_PAGES → IsTree old level t → i < TABLE_ENTRIES → i ≡ index_in l from
    → memory old.words level t i ≡ Table c → TakesAndGivesFrames old new l c [] → MapsPages old new l c from to says
    → Through old new level l t i c from to says
map_through old new level l t i c from to says up some one =
    subst (λ n. IsTree old n t → i < TABLE_ENTRIES → i ≡ index_in l from → memory old.words n t i ≡ Table c
    → TakesAndGivesFrames old new l c [] → MapsPages old new l c from to says → Through old new n l t i c from to says) (sym up)
    (λ tree a is names moves maps.
    let both = below_under old new l t i c [] tree a names moves in (
      under_moves old new l t i [] tree a both.0,
      maps_up old new l t i c from to says tree a is names (λ p low high. extent_span l from to p some one low high) moves maps,
      both.1,
    ))

-- what was absent is absent below
pub absent_below : (m : Memory) (level l t i c from to p : ℕ) → level ≡ suc l → 1 ≤ l → from / SPAN_PAGES ≡ (to - 1) / SPAN_PAGES
    → i ≡ index_in l from → m level t i ≡ Table c → from ≤ p → p < to → leaf_from m level t p ≡ leaf_from m l c p
absent_below m level l t i c from to p up some one is names low high =
    subst (λ n. m n t i ≡ Table c → leaf_from m n t p ≡ leaf_from m l c p) (sym up)
    (λ names.
    leaf_under m l t p (Table c)
    (ap (λ j. m (suc l) t j) (same_index l p from (extent_span l from to p some one low high) ∙ sym is) ∙ names)) names

-- the tables made on the way
pub made_through : (m : Memory) (level l t i c from : ℕ) (large : Bool) → level ≡ suc l → i ≡ index_in l from → m level t i ≡ Table c
    → ((w : ℕ) → 1 ≤ w → w < l → (w ≡ 1 → large ≡ false) → IsSome (table_from m l c from w))
    → (w : ℕ) → 1 ≤ w → w < level → (w ≡ 1 → large ≡ false) → IsSome (table_from m level t from w)
made_through m level l t i c from large up =
    subst (λ n. i ≡ index_in l from → m n t i ≡ Table c
    → ((w : ℕ) → 1 ≤ w → w < l → (w ≡ 1 → large ≡ false) → IsSome (table_from m l c from w))
    → (w : ℕ) → 1 ≤ w → w < n → (w ≡ 1 → large ≡ false) → IsSome (table_from m n t from w)) (sym up)
    (λ is names below w some low ok.
    let at : m (suc l) t (index_in l from) ≡ Table c = ap (λ j. m (suc l) t j) (sym is) ∙ names in
    let step : table_from m (suc l) t from w ≡ table_from m l c from w = table_under m l t from w (Table c) (λ e. omega arith) at in
    subst (λ (o : Option ℕ). IsSome o) (sym step)
    (⊎_elim (λ (e : w ≡ l). subst (λ (o : Option ℕ). IsSome o) (sym (table_own m l c from w some e)) refl)
    (λ (ne : w ≢ l). below w some (omega arith) ok)
    (same_or_not w l)))
  where
    table_own : (m : Memory) (l c p w : ℕ) → 1 ≤ w → w ≡ l → table_from m l c p w ≡ Some c
    table_own m zero c p w some e = absurd (omega arith)
    table_own m (suc k) c p w some e = table_top m k c p w e

-- how many frames that takes
pub count_through : (m : Memory) (level l t i c from : ℕ) (large : Bool) → level ≡ suc l → 1 ≤ l → i ≡ index_in l from
    → m level t i ≡ Table c → tables_lacking_at m level t large from ≡ tables_lacking_at m l c large from
count_through m level l t i c from large up some is names =
    subst (λ k. level ≡ suc k → i ≡ index_in k from → tables_lacking_at m level t large from ≡ tables_lacking_at m k c large from)
    (let e : suc (l - 1) ≡ l = omega arith in e)
    (λ up is. subst (λ n. m n t i ≡ Table c → tables_lacking_at m n t large from ≡ tables_lacking_at m (suc (l - 1)) c large from) (sym up)
    (λ names. lacks_at-table m (l - 1) t c large from (ap (λ j. m (suc (suc (l - 1))) t j) (sym is) ∙ names)) names)
    up is

pub count_added : (m n : Memory) (level l t i c from : ℕ) (large : Bool) → level ≡ suc l → 1 ≤ l → i ≡ index_in l from
    → m level t i ≡ Absent → n level t i ≡ Table c → IsBare n c → (l ≡ 1 → large ≡ false)
    → tables_lacking_at m level t large from ≡ tables_lacking_at n level t large from + 1
count_added m n level l t i c from large up some is absent names bare ok =
    subst (λ k.
    level ≡ suc k → i ≡ index_in k from → (k ≡ 1 → large ≡ false)
    → tables_lacking_at m level t large from ≡ tables_lacking_at n level t large from + 1)
    (let e : suc (l - 1) ≡ l = omega arith in e)
    (λ up is ok.
    subst (λ v. m v t i ≡ Absent → n v t i ≡ Table c → tables_lacking_at m v t large from ≡ tables_lacking_at n v t large from + 1)
    (sym up) (λ absent names.
    lacks_at-added m n (l - 1) t c large from (ap (λ j. m (suc (suc (l - 1))) t j) (sym is) ∙ absent) bare (λ z. ok (omega arith))
    ∙ ap (λ k. k + 1) (sym (lacks_at-table n (l - 1) t c large from (ap (λ j. n (suc (suc (l - 1))) t j) (sym is) ∙ names)))) absent
    names) up is ok

pub count_absent : (m : Memory) (level l t i from : ℕ) (large : Bool) → level ≡ suc l → 1 ≤ l → i ≡ index_in l from → m level t i ≡ Absent
    → (l ≡ 1 → large ≡ false) → 1 ≤ tables_lacking_at m level t large from
count_absent m level l t i from large up some is absent ok =
    subst (λ k. level ≡ suc k → i ≡ index_in k from → (k ≡ 1 → large ≡ false) → 1 ≤ tables_lacking_at m level t large from)
    (let e : suc (l - 1) ≡ l = omega arith in e)
    (λ up is ok. subst (λ v. m v t i ≡ Absent → 1 ≤ tables_lacking_at m v t large from) (sym up)
    (λ absent. lacks_some m (l - 1) t large from (ap (λ j. m (suc (suc (l - 1))) t j) (sym is) ∙ absent) (λ z. ok (omega arith)))
    absent)
    up is ok

-- a leaf stands in no way of a page that is absent
pub no_leaf : (m : Memory) (level l t i p : ℕ) (e : SsEntry) → level ≡ suc l → i ≡ index_in l p → m level t i ≡ e
    → ((below : ℕ → Option LeafEntry) → (x : LeafEntry) × (leaf_of e l below ≡ Some x)) → leaf_from m level t p ≡ None → ⊥
no_leaf m level l t i p e up is at leaf none =
    let found = leaf (λ c. leaf_from m l c p) in
    none-some found.0 (sym none ∙ leaf_level m l t p level e up (ap (λ j. m level t j) (sym is) ∙ at) ∙ found.1)

-- no table of level 1 is made for a large leaf on the way through an entry
pub spared_through : (m n : Memory) (level l t i c from : ℕ) → level ≡ suc l → 1 ≤ l → i ≡ index_in l from → m level t i ≡ Table c
    → n level t i ≡ Table c → (1 < l → table_from n l c from 1 ≡ table_from m l c from 1)
    → table_from n level t from 1 ≡ table_from m level t from 1
spared_through m n level l t i c from up some is was now below =
    table_level n l t from 1 level (Table c) up (λ e. omega arith) (ap (λ j. n level t j) (sym is) ∙ now)
    ∙ ⊎_elim (λ (e : l ≡ 1). own n e ∙ sym (own m e)) (λ (ne : l ≢ 1). below (omega arith)) (same_or_not l 1)
    ∙ sym (table_level m l t from 1 level (Table c) up (λ e. omega arith) (ap (λ j. m level t j) (sym is) ∙ was))
  where
    own : (k : Memory) → l ≡ 1 → table_from k l c from 1 ≡ Some c
    own k e = ap (λ v. table_from k v c from 1) e ∙ table_top k 0 c from 1 refl

-- and none through a new table
pub spared_added : (m mid n : Memory) (level l t i c from : ℕ) → level ≡ suc l → 1 < l → i ≡ index_in l from → m level t i ≡ Absent
    → n level t i ≡ Table c → IsBare mid c → table_from n l c from 1 ≡ table_from mid l c from 1
    → table_from n level t from 1 ≡ table_from m level t from 1
spared_added m mid n level l t i c from up some is was now bare below =
    table_level n l t from 1 level (Table c) up (λ e. omega arith) (ap (λ j. n level t j) (sym is) ∙ now)
    ∙ below ∙ table_zeroed mid l c from 1 bare some
    ∙ sym (table_level m l t from 1 level Absent up (λ e. omega arith) (ap (λ j. m level t j) (sym is) ∙ was))
