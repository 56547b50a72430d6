-- A large leaf spelled by a table of 512 leaves, some of which are then unmapped.
use Rattle.std.proofs.Common.{◌≡◌, ◌≢◌, ℕ, ◌+◌, ◌-◌, ◌*◌, ◌/◌, ◌%◌, ◌<◌, ◌≤◌, inl, inr, ⊎_elim, true, false, cond, nat_le, Option, Some}
use Rattle.std.proofs.Common.{None, [], refl, sym, ap, subst, ◌∙◌, arith, mod-lt}
use Rattle.std.proofs.lemmas.Bool.Decides.{nat_tests}
use Rattle.std.proofs.lemmas.Option.{none-some, same_Some}
use Rattle.dmatypes.specs.declared.page.TheConstants.{SPAN_PAGES}
use Rattle.tables.specs.declared.entries.TheConstants.{TABLE_ENTRIES}
use Rattle.dmatypes.specs.World.{Target}
use Rattle.vtdbits.specs.Entry.{look}
use Rattle.vtdbits.specs.Translation.{target}
use Rattle.vtdbits.specs.declared.entry.SsEntry.{SsEntry}
use Rattle.vtdbits.specs.declared.entry.SsEntry.TheVariants.{Table, Leaf, LargeLeaf}
use Rattle.tables.specs.Under.{IsSplit, ChangesUnder, used_by_entry}
use Rattle.tables.specs.Tree.{Memory, LeafEntry, span, index_in, leaf_from, stated, states, uses, one_if_same, entry_uses, is_large_leaf}
use Rattle.tables.specs.Pool.{Pool, word, memory, occurs, IsTree, IsWrite}
use Rattle.tables.specs.Changes.{TakesAndGivesFrames, UnmapsPages}
use Rattle.tables.specs.Extents.{WritesEntries, extent_splits}
use Rattle.tables.proofs.sums.OneFrame.{one_if_same-self}
use Rattle.tables.proofs.walks.Levels.{stated_small, stated_large}
use Rattle.tables.proofs.maps.Mapped.{moves_then}
use Rattle.tables.proofs.walks.Near.{smaller}
use Rattle.tables.proofs.maps.Runs.{no_table}
use Rattle.tables.proofs.walks.Steps.{leaf_under, table_under, table_top, same_or_not, same_span, index-zero, div_span_one, uses-one}
use Rattle.tables.proofs.walks.Words.{same_entry, memory_at}
use Rattle.tables.proofs.unmaps.UnderEntry.{under_moves, other_leaf, other_table, root_apart}

-- a large leaf became a table, in a frame that was free
pub under_split : (old new : Pool) (t i c : ℕ) (x : Target) → IsTree old 2 t → i < TABLE_ENTRIES → memory old.words 2 t i ≡ LargeLeaf x
    → memory new.words 2 t i ≡ Table c → ((f : ℕ) → occurs f new.free + one_if_same c f ≡ occurs f old.free)
    → ((f k : ℕ) → k < TABLE_ENTRIES → f ≢ t → f ≢ c → word new.words f k ≡ word old.words f k)
    → ((k : ℕ) → k < TABLE_ENTRIES → k ≢ i → word new.words t k ≡ word old.words t k) → new.frames ≡ old.frames
    → ChangesUnder old new 1 t i []
under_split old new t i c x tree a was is free stay row frames = record {
  account = λ f.
      let before : used_by_entry (memory old.words) 1 t f i ≡ 0 = ap (λ e. entry_uses e (λ c. uses (memory old.words) 1 c f)) was in
      let after : used_by_entry (memory new.words) 1 t f i ≡ one_if_same c f =
      ap (λ e. entry_uses e (λ c. uses (memory new.words) 1 c f)) is ∙ uses-one (memory new.words) c f in
      omega (arith, free f);
  fewer = λ f. omega (arith, free f);
  others =
      λ f k k_in ne none.
      stay f k k_in ne (λ e. let own : one_if_same c f ≡ one_if_same c c = ap (λ y. one_if_same c y) e in
      omega (arith, none, free f, one_if_same-self c));
  row = row;
  frames = frames;
}

-- the making of the table: a free frame, its leaves, and the entry
pub splits : (old took ran new : Pool) (t i page c value : ℕ) (entry : ℕ → SsEntry) (x : Target) → IsTree old 2 t → i < TABLE_ENTRIES
    → memory old.words 2 t i ≡ LargeLeaf x → ((f : ℕ) → occurs f took.free + one_if_same c f ≡ occurs f old.free) → took.words ≡ old.words
    → took.frames ≡ old.frames
    → WritesEntries took.words ran.words c (page / SPAN_PAGES * SPAN_PAGES) (page / SPAN_PAGES * SPAN_PAGES + SPAN_PAGES) entry
    → ran.free ≡ took.free → ran.frames ≡ took.frames → IsWrite ran.words new.words t i value → new.free ≡ ran.free
    → new.frames ≡ ran.frames → look 2 value ≡ Table c
    → ((p : ℕ) → page / SPAN_PAGES * SPAN_PAGES ≤ p → p < page / SPAN_PAGES * SPAN_PAGES + SPAN_PAGES
    → entry p ≡ Leaf (target (x.frame + p % SPAN_PAGES) x.rights)) → IsSplit old new t i page c x
splits old took ran new t i page c value entry x tree a was free words frames run free' frames' wrote free'' frames'' reads leaves =
    let c_free : 0 < occurs c old.free = omega (arith, free c, one_if_same-self c) in
    let apart : c ≡ t → ⊥ =
    λ e.
    let same : occurs c old.free ≡ occurs t old.free = ap (λ y. occurs y old.free) e in omega (arith, root_apart old 1 t i tree a) in
    let names : memory new.words 2 t i ≡ Table c = memory_at new.words 2 t i ∙ ap (look 2) wrote.0 ∙ reads in
    let stay : (f k : ℕ) → k < TABLE_ENTRIES → f ≢ t → f ≢ c → word new.words f k ≡ word old.words f k = λ f k k_in ne ne'.
    wrote.1 f k k_in (λ e _. ne e) ∙ run.rest f k k_in (λ e p low high at. ne' e) ∙ ap (λ ws. word ws f k) words in
    let row : (k : ℕ) → k < TABLE_ENTRIES → k ≢ i → word new.words t k ≡ word old.words t k = λ k k_in ne.
    wrote.1 t k k_in (λ _ e. ne e) ∙ run.rest t k k_in (λ e p low high at. apart (sym e)) ∙ ap (λ ws. word ws t k) words in
    record {
      under =
          under_split old new t i c x tree a was names (λ f. omega (arith, free f, ap (λ xs. occurs f xs) (free'' ∙ free'))) stay row
          (frames'' ∙ frames' ∙ frames);
      was = was;
      is = names;
      spelled = λ p near.
          let low : page / SPAN_PAGES * SPAN_PAGES ≤ p = omega arith in
          let high : p < page / SPAN_PAGES * SPAN_PAGES + SPAN_PAGES = omega arith in
          same_entry ran.words new.words 1 c (p % SPAN_PAGES) (wrote.1 c (p % SPAN_PAGES) (mod-lt p (omega arith)) (λ e _. apart e))
          ∙ run.entries p low high ∙ leaves p low high;
      free = c_free;
    }

-- the table before it is linked: it spells the leaf, which is still there
pub spells_leaf : (took ran : Pool) (page c : ℕ) (entry : ℕ → SsEntry) (x : Target)
    → WritesEntries took.words ran.words c (page / SPAN_PAGES * SPAN_PAGES) (page / SPAN_PAGES * SPAN_PAGES + SPAN_PAGES) entry
    → ((p : ℕ) → page / SPAN_PAGES * SPAN_PAGES ≤ p → p < page / SPAN_PAGES * SPAN_PAGES + SPAN_PAGES
    → entry p ≡ Leaf (target (x.frame + p % SPAN_PAGES) x.rights)) → (i : ℕ) → i < TABLE_ENTRIES
    → memory ran.words 1 c i ≡ Leaf (target (x.frame + i) x.rights)
spells_leaf took ran page c entry x run leaves i small =
    let p : ℕ = page / SPAN_PAGES * SPAN_PAGES + i in
    let at : p % SPAN_PAGES ≡ i = omega arith in
    subst (λ k. memory ran.words 1 c k ≡ Leaf (target (x.frame + k) x.rights)) at
    (run.entries p (omega arith) (omega arith) ∙ leaves p (omega arith) (omega arith))

pub leaf_stays : (old took ran : Pool) (t i page c : ℕ) (entry : ℕ → SsEntry) (x : Target) → IsTree old 2 t → i < TABLE_ENTRIES
    → memory old.words 2 t i ≡ LargeLeaf x → ((f : ℕ) → occurs f took.free + one_if_same c f ≡ occurs f old.free) → took.words ≡ old.words
    → WritesEntries took.words ran.words c (page / SPAN_PAGES * SPAN_PAGES) (page / SPAN_PAGES * SPAN_PAGES + SPAN_PAGES) entry
    → memory ran.words 2 t i ≡ LargeLeaf x
leaf_stays old took ran t i page c entry x tree small was free words run =
    let apart : c ≡ t → ⊥ =
    λ e.
    let same : occurs c old.free ≡ occurs t old.free =
    ap (λ y. occurs y old.free) e in
    omega (arith, free c, one_if_same-self c, root_apart old 1 t i tree small) in
    same_entry old.words ran.words 2 t i (run.rest t i small (λ e p low high at. apart (sym e)) ∙ ap (λ ws. word ws t i) words) ∙ was

-- it states the same
split_states : (old new : Pool) (t i from c p : ℕ) (x : Target) → IsTree old 2 t → i < TABLE_ENTRIES → i ≡ index_in 1 from
    → IsSplit old new t i from c x → p / span 2 ≡ from / span 2 → states (memory new.words) 2 t p ≡ states (memory old.words) 2 t p
split_states old new t i from c p x tree a is s wide =
    let m : Memory = memory old.words in
    let n : Memory = memory new.words in
    ⊎_elim
    (λ e.
    let near : p / SPAN_PAGES ≡ from / SPAN_PAGES = sym (div_span_one p) ∙ same_span 1 p from wide (e ∙ is) ∙ div_span_one from in
    let leaf : n 1 c (index_in 0 p) ≡ Leaf (target (x.frame + p % SPAN_PAGES) x.rights) =
    ap (λ j. n 1 c j) (index-zero p) ∙ s.spelled p near in
    ap (stated p) (leaf_under n 1 t p (Table c) (ap (λ j. n 2 t j) e ∙ s.is)
    ∙ leaf_under n 0 c p (Leaf (target (x.frame + p % SPAN_PAGES) x.rights)) leaf)
    ∙ stated_small p 0 (target (x.frame + p % SPAN_PAGES) x.rights) refl
    ∙ sym (stated_large p 1 x refl) ∙ ap (stated p) (sym (leaf_under m 1 t p (LargeLeaf x) (ap (λ j. m 2 t j) e ∙ s.was))))
    (λ ne. ap (stated p) (other_leaf old new 1 t i p [] tree a s.under ne))
    (same_or_not (index_in 1 p) i)

-- an unmap of some of its pages, after the split, is one of the tree before
pub split_unmaps : (old mid new : Pool) (t i from to c : ℕ) (x : Target) → IsTree old 2 t → i < TABLE_ENTRIES → i ≡ index_in 1 from
    → IsSplit old mid t i from c x → from < to → to - from < SPAN_PAGES → TakesAndGivesFrames mid new 2 t []
    → UnmapsPages mid new 2 t from to []
    → TakesAndGivesFrames old new 2 t [] × UnmapsPages old new 2 t from to []
split_unmaps old mid new t i from to c x tree a is s some short moves un =
    let m : Memory = memory old.words in
    let d : Memory = memory mid.words in
    let n : Memory = memory new.words in
    let first : TakesAndGivesFrames old mid 2 t [] = under_moves old mid 1 t i [] tree a s.under in
    let old_at : (p : ℕ) → index_in 1 p ≡ i → m 2 t (index_in 1 p) ≡ LargeLeaf x = λ p e. ap (λ j. m 2 t j) e ∙ s.was in
    let mid_at : (p : ℕ) → index_in 1 p ≡ i → d 2 t (index_in 1 p) ≡ Table c = λ p e. ap (λ j. d 2 t j) e ∙ s.is in
    let span_of : (p : ℕ) → p / span 2 ≡ from / span 2 → index_in 1 p ≡ i → p / span 1 ≡ from / span 1 =
    λ p wide e. same_span 1 p from wide (e ∙ is) in (
      moves_then old mid new 2 t [] [] first moves,
      record {
        gone = un.gone;
        elsewhere = λ p wide out. un.elsewhere p wide out ∙ split_states old mid t i from c p x tree a is s wide;
        leaves = λ p y wide h far.
            ⊎_elim
            (λ e.
            let size : y.size ≡ 1 =
            sym (ap (λ (z : LeafEntry). z.size) (same_Some (record { size = 1; frame = x.frame; rights = x.rights }) y
            (sym (leaf_under m 1 t p (LargeLeaf x) (old_at p e)) ∙ h))) in
            absurd (far from (omega arith) some (subst (λ v. p / span v ≡ from / span v) (sym size) (span_of p wide e))))
            (λ ne. un.leaves p y wide (other_leaf old mid 1 t i p [] tree a s.under ne ∙ h) far)
            (same_or_not (index_in 1 p) i);
        tables = λ p w z wide h.
            ⊎_elim
            (λ e. ⊎_elim
            (λ (top : w ≡ 2). inl (table_top n 1 t p w top ∙ sym (table_top m 1 t p w top) ∙ h))
            (λ (lower : w ≢ 2). absurd (none-some z (sym (table_under m 1 t p w (LargeLeaf x) lower (old_at p e)) ∙ h)))
            (same_or_not w 2))
            (λ ne. un.tables p w z wide (other_table old mid 1 t i p w [] tree a s.under ne ∙ h))
            (same_or_not (index_in 1 p) i);
        taken = λ p w z wide h.
            ⊎_elim
            (λ there. ⊎_elim
            (λ e. ⊎_elim
            (λ (top : w ≡ 2). inl (table_top m 1 t p w top ∙ sym (table_top d 1 t p w top) ∙ there))
            (λ (lower : w ≢ 2). ⊎_elim
            (λ (one : w ≡ 1).
            let same : c ≡ z = same_Some c z (sym (table_under d 1 t p w (Table c) lower (mid_at p e) ∙ table_top d 0 c p w one) ∙ there) in
            inr (one, subst (λ y. 0 < occurs y old.free) same s.free))
            (λ (ne : w ≢ 1). absurd (none-some z (sym (table_under d 1 t p w (Table c) lower (mid_at p e) ∙ no_table d c p w ne) ∙ there)))
            (same_or_not w 1))
            (same_or_not w 2))
            (λ ne. inl (sym (other_table old mid 1 t i p w [] tree a s.under ne) ∙ there))
            (same_or_not (index_in 1 p) i))
            (λ free. inr (free.0, omega (arith, free.1, first.fewer z)))
            (un.taken p w z wide h);
        clear = λ p w wide far.
            un.clear p w wide far
            ∙ ⊎_elim
            (λ e. ⊎_elim
            (λ (top : w ≡ 2). table_top d 1 t p w top ∙ sym (table_top m 1 t p w top))
            (λ (lower : w ≢ 2). ⊎_elim
            (λ (one : w ≡ 1). absurd (far from (omega arith) some (subst (λ v. p / span v ≡ from / span v) (sym one) (span_of p wide e))))
            (λ (ne : w ≢ 1).
            table_under d 1 t p w (Table c) lower (mid_at p e) ∙ no_table d c p w ne
            ∙ sym (table_under m 1 t p w (LargeLeaf x) lower (old_at p e)))
            (same_or_not w 1))
            (same_or_not w 2))
            (λ ne. other_table old mid 1 t i p w [] tree a s.under ne)
            (same_or_not (index_in 1 p) i);
        covered = λ p z wide all h. absurd (omega (arith, all.0, all.1));
        cut_only = λ z has. absurd (omega (arith, has));
        zeroed = λ z has. absurd (omega (arith, has));
      },
    )

-- ---- how many leaves are split for an extent

pub leaves_splitting_whole : (m : Memory) (level t from to : ℕ) → SPAN_PAGES ≤ to - from → extent_splits m level t from to ≡ 0
unfolding extent_splits
leaves_splitting_whole m level t from to h =
    let yes : nat_le SPAN_PAGES (to - from) ≡ true = grind (arith, nat_tests) in
    ap (λ b. cond b 0 (cond (is_large_leaf (leaf_from m level t from)) 1 0)) yes

pub leaves_splitting_part : (m : Memory) (level t from to : ℕ) → to - from < SPAN_PAGES
    → extent_splits m level t from to ≡ cond (is_large_leaf (leaf_from m level t from)) 1 0
unfolding extent_splits
leaves_splitting_part m level t from to h =
    let no : nat_le SPAN_PAGES (to - from) ≡ false = grind (arith, nat_tests) in
    ap (λ b. cond b 0 (cond (is_large_leaf (leaf_from m level t from)) 1 0)) no

small_leaf : (m : Memory) (c p : ℕ) (o : Option LeafEntry) → leaf_from m 1 c p ≡ o → is_large_leaf o ≡ false
small_leaf m c p None e = refl
small_leaf m c p (Some x) e = let lt : x.size < 1 = smaller m 1 c p x e in grind (arith, nat_tests)

pub leaves_splitting_table : (m : Memory) (t from to c : ℕ) → to - from < SPAN_PAGES → m 2 t (index_in 1 from) ≡ Table c
    → extent_splits m 2 t from to ≡ 0
leaves_splitting_table m t from to c short is =
    leaves_splitting_part m 2 t from to short
    ∙ ap (λ o. cond (is_large_leaf o) 1 0) (leaf_under m 1 t from (Table c) is)
    ∙ ap (λ b. cond b 1 0) (small_leaf m c from (leaf_from m 1 c from) refl)

pub leaves_splitting_large : (m : Memory) (t from to : ℕ) (x : Target) → to - from < SPAN_PAGES → m 2 t (index_in 1 from) ≡ LargeLeaf x
    → extent_splits m 2 t from to ≡ 1
leaves_splitting_large m t from to x short is =
    leaves_splitting_part m 2 t from to short ∙ ap (λ o. cond (is_large_leaf o) 1 0) (leaf_under m 1 t from (LargeLeaf x) is)

-- and it is the same seen from above
pub leaves_splitting_below : (m : Memory) (level level' t t' from to : ℕ) → leaf_from m level t from ≡ leaf_from m level' t' from
    → extent_splits m level t from to ≡ extent_splits m level' t' from to
unfolding extent_splits
leaves_splitting_below m level level' t t' from to e = ap (λ o. cond (nat_le SPAN_PAGES (to - from)) 0 (cond (is_large_leaf o) 1 0)) e
