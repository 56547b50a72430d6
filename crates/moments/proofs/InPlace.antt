-- A walk that reads the words where they lie while an unmap writes them.
use Rattle.std.proofs.Common.{◌≡◌, ◌⊎◌, inl, inr, ⊎_elim, ℕ, zero, suc, ◌+◌, ◌-◌, ◌%◌, ◌<◌, ◌≤◌, List, [], ◌∷◌, Option, Some, None}
use Rattle.dmatypes.specs.declared.page.TheConstants.{SPAN_PAGES}
use Rattle.std.proofs.Common.{Bool, true, false, cond, nat_lt, refl, sym, ap, subst, ◌∙◌, arith}
use Rattle.dmatypes.specs.Page.{levels, pages_end}
use Rattle.dmatypes.specs.World.{Target}
use Rattle.vtdbits.specs.Entry.{Spells, look}
use Rattle.vtdbits.specs.Translation.{target}
use Rattle.vtdbits.specs.declared.entry.SsEntry.{SsEntry}
use Rattle.vtdbits.specs.declared.entry.SsEntry.TheVariants.{Absent, LargeLeaf, Leaf, Table}
use Rattle.vtdbits.proofs.Entries.{large_leaf_looked, leaf_looked, look-zero, table_looked}
use Rattle.tables.specs.declared.entries.TheConstants.{TABLE_ENTRIES}
use Rattle.tables.specs.Pool.{IsTree, Moment, Pool, memory, moment_of, occurs, word}
use Rattle.tables.specs.Spelled.{AreSpelled}
use Rattle.tables.specs.Trail.{GoesOn, GoesThrough, IsNamed}
use Rattle.tables.specs.Tree.{LeafEntry, Memory, index_in, leaf_from, leaf_of, stated, states}
use Rattle.tables.proofs.spelled.Stays.{spelled_at}
use Rattle.tables.proofs.unmaps.UnderEntry.{below_in, root_taken}
use Rattle.tables.proofs.walks.Levels.{stated_large, stated_small}
use Rattle.tables.proofs.walks.Onward.{index_lt}
use Rattle.tables.proofs.walks.Steps.{index-zero, leaf-zero, leaf_under}
use Rattle.tables.proofs.walks.Words.{memory_at}
use Rattle.moments.specs.Laws.{LeavesInPlaceAreOldOrNewOrSingle, UnmapsInPlaceAreOldOrNew}
use Rattle.moments.specs.Moments.{GoesDown, IsSingle, in_place, words_at}

differ : (x : Target) (c : ℕ) → LargeLeaf x ≡ Table c → ⊥
differ x c e = cc

no_table : (c : ℕ) → Absent ≡ Table c → ⊥
no_table c e = cc

no_name : (x : Target) (c : ℕ) → Leaf x ≡ Table c → ⊥
no_name x c e = cc

no_leaf : (x : Target) → LargeLeaf x ≡ Absent → ⊥
no_leaf x e = cc

same_leaf : (x y : Target) → LargeLeaf x ≡ LargeLeaf y → x ≡ y
same_leaf x y e = cc

-- ---- a word while a call writes

-- it states no leaf of 2 MiB
abbrev pub IsSmall : ℕ → Type 0
IsSmall w = (x : Target) → look 2 w ≡ LargeLeaf x → ⊥

zero_small : (w : ℕ) → w ≡ 0 → IsSmall w
zero_small w e x h = no_leaf x (sym h ∙ ap (look 2) e ∙ look-zero 2)

table_small : (l w c : ℕ) → look l w ≡ Table c → IsSmall w
table_small l w c h x large =
    let a = table_looked l w c h in let b = large_leaf_looked 2 w x large in omega (arith, a.3, b.2, b.1.0.1)

leaf_small : (l w : ℕ) (t : Target) → look l w ≡ Leaf t → IsSmall w
leaf_small l w t h x large =
    let a = leaf_looked l w t h in let b = large_leaf_looked 2 w x large in omega (arith, a.2, a.1.1, b.2, b.1.0.1)

-- the words of a moment's step that isn't such a leaf stay or are cleared
stays_or_goes : (m n : Moment) (f k : ℕ) → GoesOn m n → k < TABLE_ENTRIES → occurs f m.free ≡ 0 → IsSmall (word m.words f k)
    → (word n.words f k ≡ word m.words f k) ⊎ (word n.words f k ≡ 0)
unfolding memory
stays_or_goes m n f k on inside taken small =
    ⊎_elim (λ same. inl same) (λ other. ⊎_elim (λ gone. inr gone) (λ (named : IsNamed m n f k). absurd (small named.leaf named.was)) other)
    (on.words f k inside taken)

small_on : (v w : ℕ) → (v ≡ w) ⊎ (v ≡ 0) → IsSmall w → IsSmall v
small_on v w (inl e) small x h = small x (ap (look 2) (sym e) ∙ h)
small_on v w (inr e) small x h = zero_small v e x h

joined : (u v w : ℕ) → (v ≡ w) ⊎ (v ≡ 0) → (u ≡ v) ⊎ (u ≡ 0) → (u ≡ w) ⊎ (u ≡ 0)
joined u v w (inl e) (inl h) = inl (h ∙ e)
joined u v w (inr e) (inl h) = inr (h ∙ e)
joined u v w first (inr h) = inr h

-- at the end
pub ends : (m last : Moment) (ms : List Moment) (f k : ℕ) → GoesThrough GoesOn m ms last → k < TABLE_ENTRIES → occurs f m.free ≡ 0
    → IsSmall (word m.words f k) → (word last.words f k ≡ word m.words f k) ⊎ (word last.words f k ≡ 0)
unfolding GoesThrough
ends m last [] f k rest inside taken small = inl (ap (λ ws. word ws f k) rest.0)
ends m last (n ∷ ns) f k on inside taken small =
    let step = stays_or_goes m n f k on.0 inside taken small in
    joined (word last.words f k) (word n.words f k) (word m.words f k) step
    (ends n last ns f k on.1 inside (omega (arith, on.0.fewer f)) (small_on (word n.words f k) (word m.words f k) step small))

-- after so many moments it is as it was, or it is cleared for good
abbrev pub StaysOrGoes : Moment → List Moment → Moment → ℕ → ℕ → ℕ → Type 0
StaysOrGoes m ms last j f k =
    (word (words_at m.words ms j) f k ≡ word m.words f k)
    ⊎ ((word (words_at m.words ms j) f k ≡ 0) × (word last.words f k ≡ 0))

pub evolves : (m last : Moment) (ms : List Moment) (j f k : ℕ) → GoesThrough GoesOn m ms last → k < TABLE_ENTRIES → occurs f m.free ≡ 0
    → IsSmall (word m.words f k) → StaysOrGoes m ms last j f k
unfolding GoesThrough words_at
evolves m last [] j f k rest inside taken small = inl refl
evolves m last (n ∷ ns) zero f k on inside taken small = inl refl
evolves m last (n ∷ ns) (suc j) f k on inside taken small =
    let step = stays_or_goes m n f k on.0 inside taken small in
    let taken' : occurs f n.free ≡ 0 = omega (arith, on.0.fewer f) in
    let small' = small_on (word n.words f k) (word m.words f k) step small in
    let later = evolves n last ns j f k on.1 inside taken' small' in
    let end = ends n last ns f k on.1 inside taken' small' in
    ⊎_elim
    (λ (same : word n.words f k ≡ word m.words f k). ⊎_elim (λ e. inl (e ∙ same)) (λ g. inr g) later)
    (λ (gone : word n.words f k ≡ 0).
    inr (⊎_elim (λ e. e ∙ gone) (λ g. g.0) later, ⊎_elim (λ e. e ∙ gone) (λ g. g) end))
    step

-- ---- a leaf of 2 MiB that is split meanwhile

pub record IsSplitBy (m : Moment) (ms : List Moment) (last : Moment) (j f k : ℕ) (leaf : Target) : Type 0 where
  pub named : Moment
  pub rest : List Moment
  pub since : ℕ
  pub table : ℕ
  pub soon : since ≤ j
  pub same : (n : ℕ) → since ≤ n → words_at m.words ms n ≡ words_at named.words rest (n - since)
  pub through : GoesThrough GoesOn named rest last
  pub is : look 2 (word named.words f k) ≡ Table table
  pub frame : occurs f named.free ≡ 0
  pub taken : occurs table named.free ≡ 0
  pub filled : (i : ℕ) → i < TABLE_ENTRIES → look 1 (word named.words table i) ≡ Leaf (target (leaf.frame + i) leaf.rights)

-- the words after one moment more
one_on : (m n : Moment) (ns : List Moment) (j : ℕ) → 1 ≤ j → words_at m.words (n ∷ ns) j ≡ words_at n.words ns (j - 1)
unfolding words_at
one_on m n ns zero some = absurd (omega arith)
one_on m n ns (suc j) some = let e : j ≡ suc j - 1 = omega arith in ap (words_at n.words ns) e

pub splits : (m last : Moment) (ms : List Moment) (j f k : ℕ) (leaf : Target) → GoesThrough GoesOn m ms last → k < TABLE_ENTRIES
    → occurs f m.free ≡ 0 → look 2 (word m.words f k) ≡ LargeLeaf leaf
    → StaysOrGoes m ms last j f k ⊎ IsSplitBy m ms last j f k leaf
unfolding GoesThrough words_at memory
splits m last [] j f k leaf rest inside taken is = inl (inl refl)
splits m last (n ∷ ns) zero f k leaf on inside taken is = inl (inl refl)
splits m last (n ∷ ns) (suc j) f k leaf on inside taken is =
    let taken' : occurs f n.free ≡ 0 = omega (arith, on.0.fewer f) in
    ⊎_elim
    (λ (same : word n.words f k ≡ word m.words f k).
    ⊎_elim
    (λ later. inl (⊎_elim (λ e. inl (e ∙ same)) (λ g. inr g) later))
    (λ (split : IsSplitBy n ns last j f k leaf). inr (record {
      named = split.named;
      rest = split.rest;
      since = split.since + 1;
      table = split.table;
      soon = omega (arith, split.soon);
      same = λ i late.
          let e : i - 1 - split.since ≡ i - (split.since + 1) = omega arith in
          one_on m n ns i (omega (arith, late)) ∙ split.same (i - 1) (omega (arith, late))
          ∙ ap (words_at split.named.words split.rest) e;
      through = split.through;
      is = split.is;
      frame = split.frame;
      taken = split.taken;
      filled = split.filled;
    }))
    (splits n last ns j f k leaf on.1 inside taken' (ap (look 2) same ∙ is)))
    (λ other. ⊎_elim
    (λ (gone : word n.words f k ≡ 0).
    let later = evolves n last ns j f k on.1 inside taken' (zero_small (word n.words f k) gone) in
    let end = ends n last ns f k on.1 inside taken' (zero_small (word n.words f k) gone) in
    inl (inr (⊎_elim (λ e. e ∙ gone) (λ g. g.0) later, ⊎_elim (λ e. e ∙ gone) (λ g. g) end)))
    (λ (split : IsNamed m n f k).
    let one : split.leaf ≡ leaf = same_leaf split.leaf leaf (sym split.was ∙ is) in
    inr (record {
      named = n;
      rest = ns;
      since = 1;
      table = split.table;
      soon = omega arith;
      same = λ i late. one_on m n ns i late;
      through = on.1;
      is = split.is;
      frame = taken';
      taken = split.taken;
      filled = λ i small. split.filled i small ∙ ap (λ (y : Target). Leaf (target (y.frame + i) y.rights)) one;
    }))
    other)
    (on.0.words f k inside taken)

-- ---- a word that is at the end as it was

-- where it stays or goes, it stayed
stayed : (m last : Moment) (ms : List Moment) (j f k : ℕ) → word last.words f k ≡ word m.words f k → StaysOrGoes m ms last j f k
    → word (words_at m.words ms j) f k ≡ word m.words f k
stayed m last ms j f k same (inl now) = now
stayed m last ms j f k same (inr gone) = gone.0 ∙ sym gone.1 ∙ same

-- a leaf of 2 MiB that is there at the end wasn't split
unsplit : (m last : Moment) (ms : List Moment) (j f k : ℕ) (leaf : Target) → k < TABLE_ENTRIES → look 2 (word m.words f k) ≡ LargeLeaf leaf
    → word last.words f k ≡ word m.words f k → IsSplitBy m ms last j f k leaf → ⊥
unsplit m last ms j f k leaf inside is same split =
    ⊎_elim
    (λ (stays : word last.words f k ≡ word split.named.words f k).
    differ leaf split.table (sym is ∙ ap (look 2) (sym same ∙ stays) ∙ split.is))
    (λ (gone : word last.words f k ≡ 0). no_leaf leaf (sym is ∙ ap (look 2) (sym same ∙ gone) ∙ look-zero 2))
    (ends split.named last split.rest f k split.through inside split.frame
    (table_small 2 (word split.named.words f k) split.table split.is))

-- so it is after each of the moments
pub unmap_steady : (m last : Moment) (ms : List Moment) (j f k : ℕ) → GoesThrough GoesOn m ms last → k < TABLE_ENTRIES
    → occurs f m.free ≡ 0 → word last.words f k ≡ word m.words f k → word (words_at m.words ms j) f k ≡ word m.words f k
unmap_steady m last ms j f k through inside taken same = by_entry (look 2 (word m.words f k)) refl
  where
    small : IsSmall (word m.words f k) → word (words_at m.words ms j) f k ≡ word m.words f k
    small none = stayed m last ms j f k same (evolves m last ms j f k through inside taken none)

    by_entry : (e : SsEntry) → look 2 (word m.words f k) ≡ e → word (words_at m.words ms j) f k ≡ word m.words f k
    by_entry Absent is = small (λ x h. no_leaf x (sym h ∙ is))
    by_entry (Table c) is = small (table_small 2 (word m.words f k) c is)
    by_entry (Leaf x) is = small (leaf_small 2 (word m.words f k) x is)
    by_entry (LargeLeaf x) is =
        ⊎_elim (λ whole. stayed m last ms j f k same whole) (λ split. absurd (unsplit m last ms j f k x inside is same split))
        (splits m last ms j f k x through inside taken is)

-- ---- the walk

-- what it sees at one entry
pub in_place_at : (words : List ℕ) (ms : List Moment) (t : ℕ → ℕ) (l f k : ℕ)
    → in_place words ms t l f k ≡ look l (word (words_at words ms (t l)) f k)
unfolding in_place
in_place_at words ms t l f k = refl

module _ (old : Pool) (last : Moment) (ms : List Moment) (through : GoesThrough GoesOn (moment_of old) ms last) (t : ℕ → ℕ)
    (down : GoesDown t) where
  abbrev Seen : Memory
  Seen = in_place old.words ms t

  -- the leaf of one page in the place of one of 2 MiB
  abbrev Single : ℕ → ℕ → ℕ → Type 0
  Single l table p = IsSingle p (leaf_from Seen l table p) (leaf_from (memory old.words) l table p)

  -- what it meets from a table on: what was there before, or such a leaf, or nothing, and then nothing is there at the end
  abbrev Found : ℕ → ℕ → ℕ → Type 0
  Found l table p =
      (leaf_from Seen l table p ≡ leaf_from (memory old.words) l table p)
      ⊎ (Single l table p
      ⊎ ((leaf_from Seen l table p ≡ None) × (leaf_from (memory last.words) l table p ≡ None)))

  seen_at : (l table k w : ℕ) (e : SsEntry) → word (words_at old.words ms (t l)) table k ≡ w → look l w ≡ e → Seen l table k ≡ e
  seen_at l table k w e same is = in_place_at old.words ms t l table k ∙ ap (look l) same ∙ is

  at_end : (l table k w : ℕ) (e : SsEntry) → word last.words table k ≡ w → look l w ≡ e → memory last.words l table k ≡ e
  at_end l table k w e same is = memory_at last.words l table k ∙ ap (look l) same ∙ is

  -- what an entry that names no table leads to
  alike : (l p : ℕ) (e : SsEntry) → ((c : ℕ) → e ≡ Table c → ⊥)
      → leaf_of e l (λ c. leaf_from Seen l c p) ≡ leaf_of e l (λ c. leaf_from (memory old.words) l c p)
  alike l p Absent none = refl
  alike l p (Table c) none = absurd (none c refl)
  alike l p (Leaf x) none = refl
  alike l p (LargeLeaf x) none = refl

  -- a word that is cleared, and stays so
  gone : (l table p : ℕ) → (word (words_at old.words ms (t (suc l))) table (index_in l p) ≡ 0) → (word last.words table (index_in l p) ≡ 0)
      → Found (suc l) table p
  gone l table p now then = inr (inr (
    leaf_under Seen l table p Absent (seen_at (suc l) table (index_in l p) 0 Absent now (look-zero (suc l))),
    leaf_under (memory last.words) l table p Absent (at_end (suc l) table (index_in l p) 0 Absent then (look-zero (suc l))),
  ))

  -- a word that is as it was
  kept : (l table p : ℕ) (e : SsEntry) → memory old.words (suc l) table (index_in l p) ≡ e
      → word (words_at old.words ms (t (suc l))) table (index_in l p) ≡ word old.words table (index_in l p)
      → Seen (suc l) table (index_in l p) ≡ e
  kept l table p e was same =
      seen_at (suc l) table (index_in l p) (word old.words table (index_in l p)) e same
      (sym (memory_at old.words (suc l) table (index_in l p)) ∙ was)

  -- below a table that took the place of a leaf
  below_split : (table p : ℕ) (x : Target) → memory old.words 2 table (index_in 1 p) ≡ LargeLeaf x
      → IsSplitBy (moment_of old) ms last (t 2) table (index_in 1 p) x → Found 2 table p
  below_split table p x was s =
      ⊎_elim
      (λ (same : word (words_at s.named.words s.rest (t 2 - s.since)) table i ≡ word s.named.words table i).
      let named : Seen 2 table i ≡ Table s.table =
      seen_at 2 table i (word s.named.words table i) (Table s.table) (now (t 2) table i s.soon ∙ same) s.is in
      ⊎_elim
      (λ (there : word (words_at s.named.words s.rest (t 1 - s.since)) s.table k ≡ word s.named.words s.table k).
      let leaf : Seen 1 s.table k ≡ Leaf (target (x.frame + k) x.rights) =
      seen_at 1 s.table k (word s.named.words s.table k) (Leaf (target (x.frame + k) x.rights)) (now (t 1) s.table k later ∙ there)
      (s.filled k (index_lt 0 p)) in
      inr (inl (
        x,
        leaf_under Seen 1 table p (Table s.table) named ∙ leaf_under Seen 0 s.table p (Leaf (target (x.frame + k) x.rights)) leaf
            ∙ ap (λ n. Some (record { size = 0; frame = x.frame + n; rights = x.rights })) (index-zero p),
        leaf_under (memory old.words) 1 table p (LargeLeaf x) was,
      )))
      (λ absent. inr (inr (
        leaf_under Seen 1 table p (Table s.table) named
            ∙ leaf_under Seen 0 s.table p Absent (seen_at 1 s.table k 0 Absent (now (t 1) s.table k later ∙ absent.0) (look-zero 1)),
        ⊎_elim
            (λ stays. leaf_under (memory last.words) 1 table p (Table s.table)
            (at_end 2 table i (word s.named.words table i) (Table s.table) stays s.is)
            ∙ leaf_under (memory last.words) 0 s.table p Absent (at_end 1 s.table k 0 Absent absent.1 (look-zero 1)))
            (λ cleared. leaf_under (memory last.words) 1 table p Absent (at_end 2 table i 0 Absent cleared (look-zero 2)))
            (ends s.named last s.rest table i s.through (index_lt 1 p) s.frame small),
      )))
      (evolves s.named last s.rest (t 1 - s.since) s.table k s.through (index_lt 0 p) s.taken
      (leaf_small 1 (word s.named.words s.table k) (target (x.frame + k) x.rights) (s.filled k (index_lt 0 p)))))
      (λ absent. gone 1 table p (now (t 2) table i s.soon ∙ absent.0) absent.1)
      (evolves s.named last s.rest (t 2 - s.since) table i s.through (index_lt 1 p) s.frame small)
    where
      i : ℕ
      i = index_in 1 p

      k : ℕ
      k = index_in 0 p

      later : s.since ≤ t 1
      later = omega (arith, s.soon, down 1)

      small : IsSmall (word s.named.words table i)
      small = table_small 2 (word s.named.words table i) s.table s.is

      now : (n f j : ℕ) → s.since ≤ n
          → word (words_at old.words ms n) f j ≡ word (words_at s.named.words s.rest (n - s.since)) f j
      now n f j late = ap (λ ws. word ws f j) (s.same n late)

  -- a leaf of 2 MiB
  large : (table p : ℕ) (x : Target) → IsTree old 2 table → memory old.words 2 table (index_in 1 p) ≡ LargeLeaf x → Found 2 table p
  large table p x tree was =
      ⊎_elim
      (λ whole. ⊎_elim
      (λ same. inl (leaf_under Seen 1 table p (LargeLeaf x) (kept 1 table p (LargeLeaf x) was same)
      ∙ sym (leaf_under (memory old.words) 1 table p (LargeLeaf x) was)))
      (λ absent. gone 1 table p absent.0 absent.1) whole)
      (λ split. below_split table p x was split)
      (splits (moment_of old) last ms (t 2) table (index_in 1 p) x through (index_lt 1 p) (root_taken old 1 table tree)
      (sym (memory_at old.words 2 table (index_in 1 p)) ∙ was))

  pub walk : (l table p : ℕ) → IsTree old l table → AreSpelled old.words l table → Found l table p
  walk zero table p tree spelled = inl (leaf-zero Seen table p ∙ sym (leaf-zero (memory old.words) table p))
  walk (suc l) table p tree spelled = by_entry (memory old.words (suc l) table i) refl (λ c tree' spelled'. walk l c p tree' spelled')
    where
      i : ℕ
      i = index_in l p

      w : ℕ
      w = word old.words table i

      taken : occurs table old.free ≡ 0
      taken = root_taken old l table tree

      looked : (e : SsEntry) → memory old.words (suc l) table i ≡ e → look (suc l) w ≡ e
      looked e is = sym (memory_at old.words (suc l) table i) ∙ is

      same_leaves : (e : SsEntry) → memory old.words (suc l) table i ≡ e → ((c : ℕ) → e ≡ Table c → ⊥) → IsSmall w → Found (suc l) table p
      same_leaves e is none small =
          ⊎_elim
          (λ same. inl (leaf_under Seen l table p e (kept l table p e is same)
          ∙ alike l p e none ∙ sym (leaf_under (memory old.words) l table p e is)))
          (λ absent. gone l table p absent.0 absent.1)
          (evolves (moment_of old) last ms (t (suc l)) table i through (index_lt l p) taken small)

      by_entry : (e : SsEntry) → memory old.words (suc l) table i ≡ e → ((c : ℕ) → IsTree old l c → AreSpelled old.words l c → Found l c p)
          → Found (suc l) table p
      by_entry Absent is below =
          same_leaves Absent is no_table
          (zero_small w (subst (λ e. Spells (suc l) w e) is (spelled_at old.words l table i spelled (index_lt l p)).0))
      by_entry (Leaf x) is below = same_leaves (Leaf x) is (no_name x) (leaf_small (suc l) w x (looked (Leaf x) is))
      by_entry (LargeLeaf x) is below =
          let two = large_leaf_looked (suc l) w x (looked (LargeLeaf x) is) in
          let one : l ≡ 1 = omega (arith, two.0) in
          subst (λ n. IsTree old (suc n) table → memory old.words (suc n) table (index_in n p) ≡ LargeLeaf x → Found (suc n) table p)
          (sym one) (λ tree' is'. large table p x tree' is') tree is
      by_entry (Table c) is below =
          let small = table_small (suc l) w c (looked (Table c) is) in
          ⊎_elim
          (λ same.
          let seen : leaf_from Seen (suc l) table p ≡ leaf_from Seen l c p =
          leaf_under Seen l table p (Table c) (kept l table p (Table c) is same) in
          let was : leaf_from (memory old.words) (suc l) table p ≡ leaf_from (memory old.words) l c p =
          leaf_under (memory old.words) l table p (Table c) is in
          ⊎_elim
          (λ found. inl (seen ∙ found ∙ sym was))
          (λ other. ⊎_elim
          (λ (one : Single l c p). inr (inl (one.0, seen ∙ one.1, was ∙ one.2)))
          (λ absent. inr (inr (
            seen ∙ absent.0,
            ⊎_elim
                (λ stays. leaf_under (memory last.words) l table p (Table c)
                (at_end (suc l) table i w (Table c) stays (looked (Table c) is)) ∙ absent.1)
                (λ cleared. leaf_under (memory last.words) l table p Absent (at_end (suc l) table i 0 Absent cleared (look-zero (suc l))))
                (ends (moment_of old) last ms table i through (index_lt l p) taken small),
          )))
          other)
          (below c (below_in old l table i c tree (index_lt l p) is) ((spelled_at old.words l table i spelled (index_lt l p)).1 c is)))
          (λ absent. gone l table p absent.0 absent.1)
          (evolves (moment_of old) last ms (t (suc l)) table i through (index_lt l p) taken small)

-- what it states is what the leaf of 2 MiB states
single_states : (p : ℕ) (seen was : Option LeafEntry) → IsSingle p seen was → stated p seen ≡ stated p was
single_states p seen was (x, now, then) =
    ap (stated p) now ∙ stated_small p 0 (target (x.frame + p % SPAN_PAGES) x.rights) refl ∙ sym (stated_large p 1 x refl)
    ∙ ap (stated p) (sym then)

pub in_place_leaves : LeavesInPlaceAreOldOrNewOrSingle
in_place_leaves old new order width root moment page tree spelled down =
    ⊎_elim (λ same. inl same) (λ other. ⊎_elim (λ one. inr (inr one)) (λ absent. inr (inl (absent.0 ∙ sym absent.1))) other)
    (walk old (moment_of new) order.moments order.through moment down (levels width) root page tree spelled)

pub in_place_old_or_new : UnmapsInPlaceAreOldOrNew
in_place_old_or_new old new order width root moment page tree spelled down = by_test (nat_lt page (pages_end width))
  where
    seen : Memory
    seen = in_place old.words order.moments moment

    by_test : (b : Bool)
        → (cond b (states seen (levels width) root page) None ≡ cond b (states (memory old.words) (levels width) root page) None)
        ⊎ (cond b (states seen (levels width) root page) None ≡ cond b (states (memory new.words) (levels width) root page) None)
    by_test true =
        ⊎_elim (λ same. inl (ap (stated page) same))
        (λ other. ⊎_elim
        (λ is. inr (ap (stated page) is))
        (λ one.
        inl (single_states page (leaf_from seen (levels width) root page) (leaf_from (memory old.words) (levels width) root page) one))
        other)
        (in_place_leaves old new order width root moment page tree spelled down)
    by_test false = inl refl
