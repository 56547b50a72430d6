-- Words that say the same on a way are the same.
use Rattle.std.proofs.Common.{◌≡◌, ℕ, suc, ◌-◌, List, Option, Some, None, refl, sym, ap, subst, ◌∙◌, arith}
use Rattle.std.proofs.lemmas.Option.{none-some, same_Some}
use Rattle.dmatypes.specs.World.{Target}
use Rattle.vtdbits.proofs.Entries.{one_word}
use Rattle.vtdbits.specs.Entry.{MayStandAt, Spells}
use Rattle.vtdbits.specs.declared.entry.SsEntry.{SsEntry}
use Rattle.vtdbits.specs.declared.entry.SsEntry.TheVariants.{Absent, Table, Leaf, LargeLeaf}
use Rattle.tables.specs.Pool.{memory, word}
use Rattle.tables.specs.Spelled.{AreSpelled}
use Rattle.tables.specs.Tree.{LeafEntry, Memory, index_in, leaf_from, leaf_of, table_from, table_of}
use Rattle.tables.proofs.walks.Levels.{top_level}
use Rattle.tables.proofs.walks.Onward.{index_lt, leaf_on, table_on}
use Rattle.tables.proofs.walks.Steps.{leaf_under, table_under}
use Rattle.moments.proofs.ReadWords.{spelled_on}
use Rattle.tables.proofs.walks.Onward.{deeper}
use Rattle.driven.proofs.Walks.{leaf_passes, passes}

stands : (level w : ℕ) (e : SsEntry) → Spells level w e → MayStandAt level e
stands level w Absent s = tt
stands level w (Table c) s = (s.0, s.1)
stands level w (Leaf x) s = s.0
stands level w (LargeLeaf x) s = s.0

-- what a way passes below an entry, and the leaf that it meets there
abbrev Below : Memory → ℕ → ℕ → SsEntry → Option ℕ
Below m l p e = table_of e (λ c. table_from m l c p l)

abbrev Leaf_there : Memory → ℕ → ℕ → SsEntry → Option LeafEntry
Leaf_there m l p e = leaf_of e l (λ c. leaf_from m l c p)

-- a table below is the one that the entry names
below_table : (m : Memory) (l p c : ℕ) → MayStandAt (suc l) (Table c) → Below m l p (Table c) ≡ Some c
below_table m l p c may = top_level m (l - 1) c p l l (omega (arith, may.0)) refl

abbrev entry_of : ℕ → Target → LeafEntry
entry_of l x = record { size = l; frame = x.frame; rights = x.rights }

abbrev target_of : LeafEntry → Target
target_of z = record { frame = z.frame; rights = z.rights }

same_target : (l : ℕ) (x y : Target) → Some (entry_of l x) ≡ Some (entry_of l y) → x ≡ y
same_target l x y h = ap target_of (same_Some (entry_of l x) (entry_of l y) h)

-- the entry is known by these
one_entry : (a b : Memory) (l p : ℕ) (x y : SsEntry) → MayStandAt (suc l) x → MayStandAt (suc l) y → Below a l p x ≡ Below b l p y
    → Leaf_there a l p x ≡ Leaf_there b l p y → x ≡ y
one_entry a b l p Absent Absent mx my tables leaves = refl
one_entry a b l p Absent (Table d) mx my tables leaves = absurd (none-some d (tables ∙ below_table b l p d my))
one_entry a b l p Absent (Leaf y) mx my tables leaves = absurd (none-some _ leaves)
one_entry a b l p Absent (LargeLeaf y) mx my tables leaves = absurd (none-some _ leaves)
one_entry a b l p (Table c) Absent mx my tables leaves = absurd (none-some c (sym tables ∙ below_table a l p c mx))
one_entry a b l p (Table c) (Table d) mx my tables leaves =
    ap (λ n. Table n) (same_Some c d (sym (below_table a l p c mx) ∙ tables ∙ below_table b l p d my))
one_entry a b l p (Table c) (Leaf y) mx my tables leaves = absurd (none-some c (sym tables ∙ below_table a l p c mx))
one_entry a b l p (Table c) (LargeLeaf y) mx my tables leaves = absurd (none-some c (sym tables ∙ below_table a l p c mx))
one_entry a b l p (Leaf x) Absent mx my tables leaves = absurd (none-some _ (sym leaves))
one_entry a b l p (Leaf x) (Table d) mx my tables leaves = absurd (none-some d (tables ∙ below_table b l p d my))
one_entry a b l p (Leaf x) (Leaf y) mx my tables leaves = ap (λ z. Leaf z) (same_target l x y leaves)
one_entry a b l p (Leaf x) (LargeLeaf y) mx my tables leaves = absurd (omega (arith, mx, my))
one_entry a b l p (LargeLeaf x) Absent mx my tables leaves = absurd (none-some _ (sym leaves))
one_entry a b l p (LargeLeaf x) (Table d) mx my tables leaves = absurd (none-some d (tables ∙ below_table b l p d my))
one_entry a b l p (LargeLeaf x) (Leaf y) mx my tables leaves = absurd (omega (arith, mx, my))
one_entry a b l p (LargeLeaf x) (LargeLeaf y) mx my tables leaves = ap (λ z. LargeLeaf z) (same_target l x y leaves)

-- one below which the way passes a table names that
named : (m : Memory) (l p c : ℕ) (x : SsEntry) → MayStandAt (suc l) x → Below m l p x ≡ Some c → x ≡ Table c
named m l p c Absent may at = absurd (none-some c at)
named m l p c (Table d) may at = ap (λ n. Table n) (same_Some d c (sym (below_table m l p d may) ∙ at))
named m l p c (Leaf y) may at = absurd (none-some c at)
named m l p c (LargeLeaf y) may at = absurd (none-some c at)

module _ (old new : List ℕ) (level root p l f : ℕ) (before : AreSpelled old level root) (after : AreSpelled new level root) where
  abbrev k : ℕ
  k = index_in l p

  entry_there : (m : Memory) → table_from m level root p (suc l) ≡ Some f
      → (Below m l p (m (suc l) f k) ≡ table_from m level root p l) × (Leaf_there m l p (m (suc l) f k) ≡ leaf_from m level root p)
  entry_there m at = (
    sym (table_under m l f p l (m (suc l) f k) (λ same. absurd (omega (arith, same))) refl)
        ∙ table_on m level root p (suc l) l f (omega arith) at,
    sym (leaf_under m l f p (m (suc l) f k) refl) ∙ leaf_on m level root p (suc l) f at,
  )

  -- a word on a page's way whose table is there before and after, where the way and the leaf below it stay
  pub word_stays : table_from (memory old) level root p (suc l) ≡ Some f → table_from (memory new) level root p (suc l) ≡ Some f
      → table_from (memory old) level root p l ≡ table_from (memory new) level root p l
      → leaf_from (memory old) level root p ≡ leaf_from (memory new) level root p → word old f k ≡ word new f k
  word_stays was is tables leaves =
      let x : SsEntry = memory old (suc l) f k in
      let y : SsEntry = memory new (suc l) f k in
      let sx : Spells (suc l) (word old f k) x = spelled_on old level root p l f k before was (index_lt l p) in
      let sy : Spells (suc l) (word new f k) y = spelled_on new level root p l f k after is (index_lt l p) in
      let ox = entry_there (memory old) was in
      let oy = entry_there (memory new) is in
      let same : x ≡ y = one_entry (memory old) (memory new) l p x y (stands (suc l) (word old f k) x sx)
      (stands (suc l) (word new f k) y sy) (ox.0 ∙ tables ∙ sym oy.0) (ox.1 ∙ leaves ∙ sym oy.1) in
      one_word (suc l) (suc l) (word old f k) (word new f k) y (subst (λ e. Spells (suc l) (word old f k) e) same sx) sy

  -- one that names the same table before and after, whatever becomes of the leaf
  pub word_named : (c : ℕ) → table_from (memory old) level root p (suc l) ≡ Some f → table_from (memory new) level root p (suc l) ≡ Some f
      → table_from (memory old) level root p l ≡ Some c → table_from (memory new) level root p l ≡ Some c → word old f k ≡ word new f k
  word_named c was is below below' =
      let x : SsEntry = memory old (suc l) f k in
      let y : SsEntry = memory new (suc l) f k in
      let sx : Spells (suc l) (word old f k) x = spelled_on old level root p l f k before was (index_lt l p) in
      let sy : Spells (suc l) (word new f k) y = spelled_on new level root p l f k after is (index_lt l p) in
      let nx : x ≡ Table c = named (memory old) l p c x (stands (suc l) (word old f k) x sx) ((entry_there (memory old) was).0 ∙ below) in
      let ny : y ≡ Table c = named (memory new) l p c y (stands (suc l) (word new f k) y sy) ((entry_there (memory new) is).0 ∙ below') in
      one_word (suc l) (suc l) (word old f k) (word new f k) y (subst (λ e. Spells (suc l) (word old f k) e) (nx ∙ sym ny) sx) sy

-- a word of a table that came into the tree, where the old way passes none and all else on it stays: it is 0 as before
pub word_fresh : (old new : List ℕ) (level root p l f : ℕ) → AreSpelled new level root → word old f (index_in l p) ≡ 0
    → table_from (memory new) level root p (suc l) ≡ Some f → table_from (memory old) level root p (suc l) ≡ None
    → table_from (memory old) level root p l ≡ table_from (memory new) level root p l
    → leaf_from (memory old) level root p ≡ leaf_from (memory new) level root p → word old f (index_in l p) ≡ word new f (index_in l p)
word_fresh old new level root p l f spelled zeroed is none tables leaves = by_entry (memory new (suc l) f (index_in l p)) refl
  where
    k : ℕ
    k = index_in l p

    -- the old way would pass a table there
    met : (x : LeafEntry) → x.size ≡ l → leaf_from (memory new) (suc l) f p ≡ Some x → word old f k ≡ word new f k
    met x size at =
        let on = leaf_passes (memory old) level root p x
        (leaves ∙ sym (leaf_on (memory new) level root p (suc l) f is) ∙ at) in
        absurd (none-some on.0 (sym none ∙ subst (λ n. table_from (memory old) level root p (suc n) ≡ Some on.0) size on.1))

    by_entry : (e : SsEntry) → memory new (suc l) f k ≡ e → word old f k ≡ word new f k
    by_entry Absent at =
        let s : Spells (suc l) (word new f k) Absent =
        subst (λ e. Spells (suc l) (word new f k) e) at (spelled_on new level root p l f k spelled is (index_lt l p)) in
        zeroed ∙ sym s
    by_entry (Table c) at =
        let s : Spells (suc l) (word new f k) (Table c) =
        subst (λ e. Spells (suc l) (word new f k) e) at (spelled_on new level root p l f k spelled is (index_lt l p)) in
        let below : table_from (memory new) level root p l ≡ Some c =
        sym (table_on (memory new) level root p (suc l) l f (omega arith) is)
        ∙ table_under (memory new) l f p l (Table c) (λ same. absurd (omega (arith, same))) at
        ∙ below_table (memory new) l p c (s.0, s.1) in
        let on = passes (memory old) level root p l c (tables ∙ below) (deeper (memory new) level root p (suc l) f is) in
        absurd (none-some on.0 (sym none ∙ on.1))
    by_entry (Leaf x) at =
        met (record { size = l; frame = x.frame; rights = x.rights }) refl (leaf_under (memory new) l f p (Leaf x) at)
    by_entry (LargeLeaf x) at =
        met (record { size = l; frame = x.frame; rights = x.rights }) refl (leaf_under (memory new) l f p (LargeLeaf x) at)
