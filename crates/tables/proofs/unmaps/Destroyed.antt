-- A tree given back, entry by entry.
use Rattle.std.proofs.Common.{◌≡◌, ◌≢◌, ℕ, suc, ◌+◌, ◌-◌, ◌<◌, ◌≤◌, ⊎_elim, refl, sym, ap, subst, ◌∙◌, arith}
use Rattle.dmatypes.specs.declared.page.TheConstants.{SPAN_PAGES}
use Rattle.tables.specs.declared.entries.TheConstants.{TABLE_ENTRIES}
use Rattle.vtdbits.specs.declared.entry.SsEntry.{SsEntry}
use Rattle.vtdbits.specs.declared.entry.SsEntry.TheVariants.{Absent, Table, Leaf, LargeLeaf}
use Rattle.tables.specs.Tree.{sum_below, one_if_same, entry_uses, uses}
use Rattle.tables.specs.Under.{used_by_entry, used_at}
use Rattle.tables.specs.Pool.{Pool, word, memory, occurs, IsTree, IsWrite}
use Rattle.tables.proofs.sums.Firsts.{sum_below_same, sum_below-suc, sum_below-zero, sum_below_le_more}
use Rattle.tables.proofs.sums.OneFrame.{one_if_same-self}
use Rattle.tables.proofs.walks.Words.{same_entry}
use Rattle.tables.proofs.walks.Agreeing.{to_agree, uses_agree}
use Rattle.tables.proofs.walks.Steps.{uses-suc, same_or_not}

used_child : (pool : Pool) (l t f i : ℕ) → used_at pool (suc l) t f i ≡ used_by_entry (memory pool.words) l t f i
unfolding used_at
used_child pool l t f i =
    ap (λ n. entry_uses (memory pool.words (suc l) t i) (λ c. uses (memory pool.words) n c f)) (let e : suc l - 1 ≡ l = omega arith in e)

pub used_table : (pool : Pool) (level t f i c : ℕ) → memory pool.words level t i ≡ Table c
    → used_at pool level t f i ≡ uses (memory pool.words) (level - 1) c f
unfolding used_at
used_table pool level t f i c e = ap (λ x. entry_uses x (λ c. uses (memory pool.words) (level - 1) c f)) e

used_none : (pool : Pool) (level t f i : ℕ) (e : SsEntry) → memory pool.words level t i ≡ e → ((below : ℕ → ℕ) → entry_uses e below ≡ 0)
    → used_at pool level t f i ≡ 0
unfolding used_at
used_none pool level t f i e is none =
    ap (λ x. entry_uses x (λ c. uses (memory pool.words) (level - 1) c f)) is ∙ none (λ c. uses (memory pool.words) (level - 1) c f)

-- ---- one entry

-- a word of a table was cleared: what a tree below uses is the same, where that table is not of the tree
apart_uses : (old new : Pool) (t i l c f : ℕ) → IsWrite old.words new.words t i 0 → uses (memory old.words) l c t ≡ 0
    → uses (memory new.words) l c f ≡ uses (memory old.words) l c f
apart_uses old new t i l c f wrote none =
    uses_agree (memory old.words) (memory new.words) l c f
    (to_agree (memory old.words) (memory new.words) l c (λ g some l' k k_in.
    same_entry old.words new.words l' g k (wrote.1 g k k_in (λ e _.
    let own : uses (memory old.words) l c g ≡ uses (memory old.words) l c t = ap (λ x. uses (memory old.words) l c x) e in
    omega (arith, own, none, some)))))

-- and the tree that the entry there named is sound still
pub tree_apart : (old : Pool) (level t i c : ℕ) → memory old.words level t i ≡ Table c → occurs t old.free + used_at old level t t i ≡ 0
    → IsTree old (level - 1) c → (new : Pool) → IsWrite old.words new.words t i 0 → new.free ≡ old.free → new.frames ≡ old.frames
    → IsTree new (level - 1) c
tree_apart old level t i c is taken tree new wrote free frames =
    let none : uses (memory old.words) (level - 1) c t ≡ 0 = omega (arith, taken, used_table old level t t i c is) in
    let same : (f : ℕ) → uses (memory new.words) (level - 1) c f ≡ uses (memory old.words) (level - 1) c f =
    λ f. apart_uses old new t i (level - 1) c f wrote none in
    let as_free : (f : ℕ) → occurs f new.free ≡ occurs f old.free = λ f. ap (occurs f) free in
    record {
      once = λ f. omega (arith, same f, as_free f, tree.once f);
      within = λ f past. omega (arith, same f, as_free f, tree.within f (omega (arith, frames)));
    }

-- what lies below what the entry named is what it used, once its word is cleared
pub used_then : (old mid : Pool) (level t i c f : ℕ) → memory old.words level t i ≡ Table c
    → occurs t old.free + used_at old level t t i ≡ 0 → IsWrite old.words mid.words t i 0
    → uses (memory mid.words) (level - 1) c f ≡ used_at old level t f i
used_then old mid level t i c f is taken wrote =
    let none : uses (memory old.words) (level - 1) c t ≡ 0 = omega (arith, taken, used_table old level t t i c is) in
    apart_uses old mid t i (level - 1) c f wrote none ∙ sym (used_table old level t f i c is)

-- an entry that names no table uses nothing
pub nothing_used : (old : Pool) (level t i f : ℕ) (e : SsEntry) → memory old.words level t i ≡ e → ((c : ℕ) → e ≡ Table c → ⊥)
    → used_at old level t f i ≡ 0
nothing_used old level t i f e is other = used_none old level t f i e is (by_entry e other)
  where
    by_entry : (e : SsEntry) → ((c : ℕ) → e ≡ Table c → ⊥) → (below : ℕ → ℕ) → entry_uses e below ≡ 0
    by_entry Absent other below = refl
    by_entry (Table c) other below = absurd (other c refl)
    by_entry (Leaf x) other below = refl
    by_entry (LargeLeaf x) other below = refl

-- its word is 0, what lay below it came free, and nothing else changed
pub record IsFreed (old new : Pool) (level t i : ℕ) : Type 0 where
  pub free : (f : ℕ) → occurs f new.free ≡ occurs f old.free + used_at old level t f i
  pub cleared : word new.words t i ≡ 0
  pub row : (k : ℕ) → k < TABLE_ENTRIES → k ≢ i → word new.words t k ≡ word old.words t k
  pub others : (f k : ℕ) → k < TABLE_ENTRIES → f ≢ t → used_at old level t f i ≡ 0 → word new.words f k ≡ word old.words f k
  pub frames : new.frames ≡ old.frames

-- the word is cleared first, and then what it named is taken down
pub table_freed : (old mid new : Pool) (level t i c : ℕ) → i < TABLE_ENTRIES → memory old.words level t i ≡ Table c
    → occurs t old.free + used_at old level t t i ≡ 0 → IsWrite old.words mid.words t i 0 → mid.free ≡ old.free
    → mid.frames ≡ old.frames → ((f : ℕ) → occurs f new.free ≡ occurs f mid.free + uses (memory mid.words) (level - 1) c f)
    → ((f k : ℕ) → k < TABLE_ENTRIES → uses (memory mid.words) (level - 1) c f ≡ 0 → word new.words f k ≡ word mid.words f k)
    → new.frames ≡ mid.frames → IsFreed old new level t i
table_freed old mid new level t i c i_in is taken wrote mid_free mid_frames free others frames =
    let same : (f : ℕ) → uses (memory mid.words) (level - 1) c f ≡ used_at old level t f i =
    λ f. used_then old mid level t i c f is taken wrote in
    let own : uses (memory mid.words) (level - 1) c t ≡ 0 = omega (arith, same t, taken) in
    record {
      free = λ f. omega (arith, free f, ap (occurs f) mid_free, same f);
      cleared = others t i i_in own ∙ wrote.0;
      row = λ k k_in ne. others t k k_in own ∙ wrote.1 t k k_in (λ _ e. ne e);
      others = λ f k k_in ne unused. others f k k_in (same f ∙ unused) ∙ wrote.1 f k k_in (λ e _. ne e);
      frames = frames ∙ mid_frames;
    }

-- ---- all of them

-- the uses of a tree, by entries
pub uses_level : (pool : Pool) (level l t f : ℕ) → level ≡ suc l
    → uses (memory pool.words) level t f ≡ one_if_same t f + sum_below (used_at pool level t f) TABLE_ENTRIES
uses_level pool level l t f up =
    subst (λ n. uses (memory pool.words) n t f ≡ one_if_same t f + sum_below (used_at pool n t f) TABLE_ENTRIES) (sym up)
    (uses-suc (memory pool.words) l t f
    ∙ ap (λ k. one_if_same t f + k)
    (sum_below_same (used_at pool (suc l) t f) (used_by_entry (memory pool.words) l t f) TABLE_ENTRIES
    (λ i lt. sym (used_child pool l t f i))))

-- the first entries are cleared and their tables free, and the others are as they were
pub record IsTakingDown (old cur : Pool) (level t i : ℕ) : Type 0 where
  pub free : (f : ℕ) → occurs f cur.free ≡ occurs f old.free + sum_below (used_at old level t f) i
  pub cleared : (k : ℕ) → k < i → word cur.words t k ≡ 0
  pub others : (f k : ℕ) → k < TABLE_ENTRIES → f ≢ t → sum_below (used_at old level t f) i ≡ 0 → word cur.words f k ≡ word old.words f k
  pub row : (k : ℕ) → k < TABLE_ENTRIES → i ≤ k → word cur.words t k ≡ word old.words t k
  pub frames : cur.frames ≡ old.frames

pub taking_down_start : (pool : Pool) (level t : ℕ) → IsTakingDown pool pool level t 0
taking_down_start pool level t = record {
  free = λ f. omega (arith, sum_below-zero (used_at pool level t f));
  cleared = λ k lt. absurd (omega (arith, lt));
  others = λ f k k_in ne none. refl;
  row = λ k k_in le. refl;
  frames = refl;
}

-- what the entries up to one use, and that one, is no more than the whole
pub part_of : (pool : Pool) (level l t f i : ℕ) → level ≡ suc l → i < TABLE_ENTRIES
    → one_if_same t f + sum_below (used_at pool level t f) i + used_at pool level t f i ≤ uses (memory pool.words) level t f
part_of pool level l t f i up lt =
    let most : sum_below (used_at pool level t f) (suc i) ≤ sum_below (used_at pool level t f) TABLE_ENTRIES =
    sum_below_le_more (used_at pool level t f) (suc i) TABLE_ENTRIES (omega arith) in
    omega (arith, uses_level pool level l t f up, sum_below-suc (used_at pool level t f) i)

pub used_next : (old : Pool) (level t f i : ℕ)
    → sum_below (used_at old level t f) (i + 1) ≡ sum_below (used_at old level t f) i + used_at old level t f i
used_next old level t f i =
    ap (sum_below (used_at old level t f)) (let e : i + 1 ≡ suc i = omega arith in e) ∙ sum_below-suc (used_at old level t f) i

-- the root is not among the frames given back before
pub root_left : (old cur : Pool) (level l t i : ℕ) → level ≡ suc l → i ≤ SPAN_PAGES → IsTree old level t → IsTakingDown old cur level t i
    → occurs t cur.free ≡ 0
root_left old cur level l t i up le tree r =
    let most : sum_below (used_at old level t t) i ≤ sum_below (used_at old level t t) TABLE_ENTRIES =
    sum_below_le_more (used_at old level t t) i SPAN_PAGES le in
    omega (arith, r.free t, tree.once t, uses_level old level l t t up, one_if_same-self t)

entry_left : (old cur : Pool) (level t i : ℕ) → i < TABLE_ENTRIES → IsTakingDown old cur level t i
    → memory cur.words level t i ≡ memory old.words level t i
entry_left old cur level t i lt r = same_entry old.words cur.words level t i (r.row i lt (omega arith))

-- what lies under the next entry is as it was
same_below : (old cur : Pool) (level l t i c f : ℕ) → level ≡ suc l → i < TABLE_ENTRIES → IsTree old level t
    → IsTakingDown old cur level t i
    → memory old.words level t i ≡ Table c → uses (memory cur.words) (level - 1) c f ≡ uses (memory old.words) (level - 1) c f
same_below old cur level l t i c f up lt tree r is =
    uses_agree (memory old.words) (memory cur.words) (level - 1) c f
    (to_agree (memory old.words) (memory cur.words) (level - 1) c (λ g some l' k k_in.
    let used = used_table old level t g i c is in
    let part = part_of old level l t g i up lt in
    same_entry old.words cur.words l' g k
    (r.others g k k_in (λ e. let own : one_if_same t g ≡ one_if_same t t = ap (λ x. one_if_same t x) e in
    omega (arith, part, used, tree.once g, one_if_same-self t))
    (omega (arith, part, used, tree.once g)))))

pub used_left : (old cur : Pool) (level l t i f : ℕ) → level ≡ suc l → i < TABLE_ENTRIES → IsTree old level t
    → IsTakingDown old cur level t i → used_at cur level t f i ≡ used_at old level t f i
used_left old cur level l t i f up lt tree r = by_entry (memory old.words level t i) refl
  where
    by_entry : (e : SsEntry) → memory old.words level t i ≡ e → used_at cur level t f i ≡ used_at old level t f i
    by_entry Absent is =
        used_none cur level t f i Absent (entry_left old cur level t i lt r ∙ is) (λ below. refl)
        ∙ sym (used_none old level t f i Absent is (λ below. refl))
    by_entry (Table c) is =
        used_table cur level t f i c (entry_left old cur level t i lt r ∙ is) ∙ same_below old cur level l t i c f up lt tree r is
        ∙ sym (used_table old level t f i c is)
    by_entry (Leaf x) is =
        used_none cur level t f i (Leaf x) (entry_left old cur level t i lt r ∙ is) (λ below. refl)
        ∙ sym (used_none old level t f i (Leaf x) is (λ below. refl))
    by_entry (LargeLeaf x) is =
        used_none cur level t f i (LargeLeaf x) (entry_left old cur level t i lt r ∙ is) (λ below. refl)
        ∙ sym (used_none old level t f i (LargeLeaf x) is (λ below. refl))

pub taken_left : (old cur : Pool) (level l t i : ℕ) → level ≡ suc l → i < TABLE_ENTRIES → IsTree old level t
    → IsTakingDown old cur level t i
    → occurs t cur.free + used_at cur level t t i ≡ 0
taken_left old cur level l t i up lt tree r =
    omega (arith, used_left old cur level l t i t up lt tree r, part_of old level l t t i up lt, tree.once t, one_if_same-self t, r.free t)

pub below_left : (old cur : Pool) (level l t i c : ℕ) → level ≡ suc l → i < TABLE_ENTRIES → IsTree old level t
    → IsTakingDown old cur level t i → memory cur.words level t i ≡ Table c → IsTree cur (level - 1) c
below_left old cur level l t i c up lt tree r is =
    let was : memory old.words level t i ≡ Table c = sym (entry_left old cur level t i lt r) ∙ is in
    record {
      once =
          λ f.
          omega (
            arith,
            same_below old cur level l t i c f up lt tree r was,
            used_table old level t f i c was,
            part_of old level l t f i up lt,
            tree.once f,
            r.free f,
          );
      within =
          λ f past.
          omega (
            arith,
            same_below old cur level l t i c f up lt tree r was,
            used_table old level t f i c was,
            part_of old level l t f i up lt,
            tree.within f (omega (arith, r.frames)),
            r.free f,
          );
    }

-- one more entry
pub taking_down_more : (old cur new : Pool) (level l t i : ℕ) → level ≡ suc l → i < TABLE_ENTRIES → IsTree old level t
    → IsTakingDown old cur level t i → IsFreed cur new level t i → IsTakingDown old new level t (i + 1)
taking_down_more old cur new level l t i up lt tree r e = record {
  free = λ f. omega (arith, e.free f, r.free f, used_left old cur level l t i f up lt tree r, used_next old level t f i);
  cleared = λ k k_in. ⊎_elim
      (λ (same : k ≡ i). subst (λ j. word new.words t j ≡ 0) (sym same) e.cleared)
      (λ (ne : k ≢ i). e.row k (omega arith) ne ∙ r.cleared k (omega arith))
      (same_or_not k i);
  others = λ f k k_in ne none.
      e.others f k k_in ne (omega (arith, none, used_left old cur level l t i f up lt tree r, used_next old level t f i))
      ∙ r.others f k k_in ne (omega (arith, none, used_next old level t f i));
  row = λ k k_in le. e.row k k_in (λ same. omega arith) ∙ r.row k k_in (omega arith);
  frames = e.frames ∙ r.frames;
}
