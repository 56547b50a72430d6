-- A walk, entry by entry.
use Rattle.std.proofs.Common.{◌≡◌, ℕ, zero, suc, ◌-◌, ◌%◌, ◌≤◌, true, false, nat_eq, Some, None, refl, sym, ap, ◌∙◌, arith}
use Rattle.std.proofs.lemmas.Bool.Decides.{nat_tests}
use Rattle.vtdbits.specs.declared.entry.SsEntry.{SsEntry}
use Rattle.vtdbits.specs.declared.entry.SsEntry.TheVariants.{Absent, Table, Leaf, LargeLeaf}
use Rattle.dmatypes.specs.World.{Target}
use Rattle.tables.specs.Tree.{Memory, span, index_in, leaf_of, leaf_from, table_from}
use Rattle.unit.specs.Caches.{CachedNonLeaf, leaf}
use Rattle.dmatypes.specs.declared.page.TheConstants.{SPAN_PAGES}
use Rattle.unit.specs.Walking.{met, met_non_leaf, IsPassed}

module _ (m : Memory) (t p : ℕ) (e : SsEntry) where
  -- the leaf on a page's way is told by the entry in the first table
  leaf_below : (l : ℕ) → m (suc l) t (index_in l p) ≡ e → leaf_from m (suc l) t p ≡ leaf_of e l (λ c. leaf_from m l c p)
  unfolding leaf_from
  leaf_below l is = ap (λ (x : SsEntry). leaf_of x l (λ c. leaf_from m l c p)) is

  leaf_from-entry : (level l : ℕ) → level ≡ suc l → m level t (index_in l p) ≡ e
      → leaf_from m level t p ≡ leaf_of e l (λ c. leaf_from m l c p)
  leaf_from-entry level l at is =
      ap (λ (k : ℕ). leaf_from m k t p) at ∙ leaf_below l (ap (λ (k : ℕ). m k t (index_in l p)) (sym at) ∙ is)

module _ (m : Memory) (d t p level : ℕ) (some : 1 ≤ level) where
  -- no leaf is met where the entry is absent
  pub met_absent : m level t (index_in (level - 1) p) ≡ Absent → None ≡ met d p (leaf_from m level t p)
  met_absent is = ap (met d p) (sym (leaf_from-entry m t p Absent level (level - 1) (omega arith) is))

  -- the one of the table below where it names one
  pub met_table : (c : ℕ) → m level t (index_in (level - 1) p) ≡ Table c
      → met d p (leaf_from m (level - 1) c p) ≡ met d p (leaf_from m level t p)
  met_table c is = ap (met d p) (sym (leaf_from-entry m t p (Table c) level (level - 1) (omega arith) is))

  -- or the leaf of the entry
  pub met_small : (x : Target) → m level t (index_in (level - 1) p) ≡ Leaf x → level ≡ 1
      → Some (leaf d p 1 x.frame x.rights) ≡ met d p (leaf_from m level t p)
  unfolding span
  met_small x is at =
      let low : level - 1 ≡ 0 = omega arith in
      let whole : p - p % 1 ≡ p = omega arith in
      let found = leaf_from-entry m t p (Leaf x) level (level - 1) (omega arith) is in
      rw (found, low) (ap (λ (f : ℕ). Some (leaf d f 1 x.frame x.rights)) (sym whole))

  pub met_large : (x : Target) → m level t (index_in (level - 1) p) ≡ LargeLeaf x → level ≡ 2
      → Some (leaf d (p - p % SPAN_PAGES) SPAN_PAGES x.frame x.rights) ≡ met d p (leaf_from m level t p)
  unfolding span
  met_large x is at =
      let high : level - 1 ≡ 1 = omega arith in
      let found = leaf_from-entry m t p (LargeLeaf x) level (level - 1) (omega arith) is in
      rw (found, high) refl

module _ (m : Memory) (t p c : ℕ) where
  -- the tables on a page's way from a table that the entry names
  table_below : (l w : ℕ) → m (suc l) t (index_in l p) ≡ Table c → w ≤ l → table_from m (suc l) t p w ≡ table_from m l c p w
  unfolding table_from
  table_below l w is below =
      let other : nat_eq w (suc l) ≡ false = grind (arith, nat_tests) in
      rw (other, is) refl

  table_here : (l : ℕ) → table_from m (suc l) c p (suc l) ≡ Some c
  unfolding table_from
  table_here l = let here : nat_eq (suc l) (suc l) ≡ true = grind (arith, nat_tests) in rw here refl

  table_next : (l w : ℕ) → m (suc l) t (index_in l p) ≡ Table c → 1 ≤ l → w ≡ l → table_from m (suc l) t p w ≡ Some c
  table_next zero w is some at = absurd (omega arith)
  table_next (suc k) w is some at =
      ap (λ (v : ℕ). table_from m (suc (suc k)) t p v) at ∙ table_below (suc k) (suc k) is (omega arith) ∙ table_here k

module _ (m : Memory) (d t p c level : ℕ) (deep : 2 ≤ level) (is : m level t (index_in (level - 1) p) ≡ Table c) where
  at_level : m (suc (level - 1)) t (index_in (level - 1) p) ≡ Table c
  at_level = let at : suc (level - 1) ≡ level = omega arith in ap (λ (k : ℕ). m k t (index_in (level - 1) p)) at ∙ is

  -- the table that the entry names is passed
  pub passed_next : (i : CachedNonLeaf) → i ≡ met_non_leaf d p (level - 1) c → IsPassed m level t d p i
  passed_next i e =
      let at : suc (level - 1) ≡ level = omega arith in (
        level - 1,
        c,
        omega arith,
        omega arith,
        ap (λ (k : ℕ). table_from m k t p (level - 1)) (sym at)
            ∙ table_next m t p c (level - 1) (level - 1) at_level (omega arith) refl,
        e,
      )

  -- and so is each that is passed from there
  pub passed_below : (i : CachedNonLeaf) → IsPassed m (level - 1) c d p i → IsPassed m level t d p i
  passed_below i (l, f, some, below, from, e) =
      let at : suc (level - 1) ≡ level = omega arith in (
        l,
        f,
        some,
        omega arith,
        ap (λ (k : ℕ). table_from m k t p l) (sym at) ∙ table_below m t p c (level - 1) l at_level (omega arith)
            ∙ from,
        e,
      )
