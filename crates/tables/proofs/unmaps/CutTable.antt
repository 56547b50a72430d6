-- A table of level 1 cut with all its 512 pages.
use Rattle.std.proofs.Common.{◌≡◌, ◌≢◌, ℕ, ◌+◌, ◌/◌, ◌%◌, ◌<◌, ◌≤◌, inl, inr, ⊎_elim, Some, [], ◌∷◌, refl, sym, ap, subst, ◌∙◌, arith}
use Rattle.std.proofs.lemmas.Option.{none-some, same_Some}
use Rattle.std.proofs.lemmas.List.Sums.{sum_by-cons}
use Rattle.dmatypes.specs.declared.page.TheConstants.{SPAN_PAGES}
use Rattle.tables.specs.declared.entries.TheConstants.{TABLE_ENTRIES}
use Rattle.vtdbits.specs.declared.entry.SsEntry.TheVariants.{Absent, Table}
use Rattle.tables.specs.Under.{ChangesUnder, used_by_entry}
use Rattle.tables.specs.Tree.{Memory, span, index_in, table_from, stated, uses, one_if_same, entry_uses}
use Rattle.tables.specs.Pool.{Pool, word, memory, occurs, IsTree, IsZeroed, IsWrite}
use Rattle.tables.specs.Changes.{TakesAndGivesFrames, UnmapsPages, IsOutside, IsCovered}
use Rattle.tables.specs.Extents.{WritesEntries}
use Rattle.tables.proofs.sums.OneFrame.{one_if_same-self, one_if_same_is}
use Rattle.tables.proofs.unmaps.UnderEntry.{under_moves, other_leaf, other_table, root_apart}
use Rattle.tables.proofs.maps.Runs.{no_table}
use Rattle.tables.proofs.walks.Steps.{leaf_under, table_under, table_top, same_or_not, same_span, same_index, div_span_one, uses-one}

one_list : (f c : ℕ) → occurs f (c ∷ []) ≡ one_if_same c f
one_list f c = sum_by-cons (λ y. one_if_same y f) c [] ∙ (let e : one_if_same c f + 0 ≡ one_if_same c f = omega arith in e)

-- the pages under an entry whose span begins at a page
in_whole : (from i p : ℕ) → from % SPAN_PAGES ≡ 0 → i ≡ index_in 1 from → p / span 2 ≡ from / span 2 → index_in 1 p ≡ i
    → (from ≤ p) × (p < from + SPAN_PAGES) × (p / span 1 ≡ from / span 1)
in_whole from i p even is wide at =
    let span_same : p / span 1 ≡ from / span 1 = same_span 1 p from wide (at ∙ is) in
    let near : p / SPAN_PAGES ≡ from / SPAN_PAGES = sym (div_span_one p) ∙ span_same ∙ div_span_one from in
    (omega arith, omega arith, span_same)

at_whole : (from i p : ℕ) → from % SPAN_PAGES ≡ 0 → i ≡ index_in 1 from → from ≤ p → p < from + SPAN_PAGES → index_in 1 p ≡ i
at_whole from i p even is low high =
    same_index 1 p from (div_span_one p ∙ (let e : p / SPAN_PAGES ≡ from / SPAN_PAGES = omega arith in e) ∙ sym (div_span_one from))
    ∙ sym is

-- it is not the table of its entry
not_itself : (old : Pool) (t i c : ℕ) → IsTree old 2 t → i < TABLE_ENTRIES → memory old.words 2 t i ≡ Table c → c ≡ t → ⊥
not_itself old t i c tree a names e =
    let used : used_by_entry (memory old.words) 1 t t i ≡ one_if_same c t =
    ap (λ e. entry_uses e (λ c. uses (memory old.words) 1 c t)) names ∙ uses-one (memory old.words) c t in
    let own : one_if_same c t ≡ one_if_same t t = ap (λ x. one_if_same x t) e in
    omega (arith, root_apart old 1 t i tree a, used, one_if_same-self t)

-- the change of its entry, which is absent then
pub under_cut : (old mid new : Pool) (t i c from to value : ℕ) → IsTree old 2 t → i < TABLE_ENTRIES → memory old.words 2 t i ≡ Table c
    → WritesEntries old.words mid.words c from to (λ p. Absent) → mid.free ≡ old.free → mid.frames ≡ old.frames
    → IsWrite mid.words new.words t i value → new.free ≡ mid.free → new.frames ≡ mid.frames → memory new.words 2 t i ≡ Absent
    → ChangesUnder old new 1 t i (c ∷ [])
under_cut old mid new t i c from to value tree a names run free frames wrote free' frames' now =
    let m : Memory = memory old.words in
    let n : Memory = memory new.words in
    let used : (f : ℕ) → used_by_entry m 1 t f i ≡ one_if_same c f = λ f. ap (λ e. entry_uses e (λ c. uses m 1 c f)) names
    ∙ uses-one m c f in
    let left : (f : ℕ) → used_by_entry n 1 t f i ≡ 0 = λ f. ap (λ e. entry_uses e (λ c. uses n 1 c f)) now in
    let same_free : (f : ℕ) → occurs f new.free ≡ occurs f old.free = λ f. ap (λ xs. occurs f xs) (free' ∙ free) in
    record {
      account = λ f. omega (arith, used f, left f, same_free f, one_list f c);
      fewer = λ f. omega (arith, same_free f);
      others = λ f k k_in ne none.
          wrote.1 f k k_in (λ e _. ne e)
          ∙ run.rest f k k_in
          (λ e p low high at. let own : one_if_same c f ≡ one_if_same c c = ap (λ x. one_if_same c x) e in
          omega (arith, none, used f, one_if_same-self c));
      row = λ k k_in ne. wrote.1 t k k_in (λ _ e. ne e) ∙ run.rest t k k_in (λ e p low high at. not_itself old t i c tree a names (sym e));
      frames = frames' ∙ frames;
    }

pub table_cut : (old mid new : Pool) (t i c from value : ℕ) → IsTree old 2 t → i < TABLE_ENTRIES → i ≡ index_in 1 from
    → from % SPAN_PAGES ≡ 0 → memory old.words 2 t i ≡ Table c → WritesEntries old.words mid.words c from (from + SPAN_PAGES) (λ p. Absent)
    → ((p : ℕ) → from ≤ p → p < from + SPAN_PAGES → word mid.words c (p % SPAN_PAGES) ≡ 0) → mid.free ≡ old.free → mid.frames ≡ old.frames
    → IsWrite mid.words new.words t i value → new.free ≡ mid.free → new.frames ≡ mid.frames → memory new.words 2 t i ≡ Absent
    → TakesAndGivesFrames old new 2 t (c ∷ []) × UnmapsPages old new 2 t from (from + SPAN_PAGES) (c ∷ [])
table_cut old mid new t i c from value tree a is even names run blank free frames wrote free' frames' now =
    let m : Memory = memory old.words in
    let n : Memory = memory new.words in
    let u : ChangesUnder old new 1 t i (c ∷ []) =
    under_cut old mid new t i c from (from + SPAN_PAGES) value tree a names run free frames wrote free' frames' now in
    let old_at : (p : ℕ) → index_in 1 p ≡ i → m 2 t (index_in 1 p) ≡ Table c = λ p e. ap (λ j. m 2 t j) e ∙ names in
    let new_at : (p : ℕ) → index_in 1 p ≡ i → n 2 t (index_in 1 p) ≡ Absent = λ p e. ap (λ j. n 2 t j) e ∙ now in
    let own_table : (p : ℕ) → index_in 1 p ≡ i → table_from m 2 t p 1 ≡ Some c =
    λ p e. table_under m 1 t p 1 (Table c) (λ k. omega arith) (old_at p e) ∙ table_top m 0 c p 1 refl in
    let has_c : 0 < occurs c (c ∷ []) = omega (arith, one_list c c, one_if_same-self c) in
    let cover : (p : ℕ) → p / span 1 ≡ from / span 1 → IsCovered from (from + SPAN_PAGES) p = λ p e.
    let near : p / SPAN_PAGES ≡ from / SPAN_PAGES = sym (div_span_one p) ∙ e ∙ div_span_one from in (omega arith, omega arith) in (
      under_moves old new 1 t i (c ∷ []) tree a u,
      record {
        gone = λ p low high. leaf_under n 1 t p Absent (new_at p (at_whole from i p even is low high));
        elsewhere = λ p wide out.
            ⊎_elim
            (λ e. let w = in_whole from i p even is wide e in absurd (outside from p out w.0 w.1))
            (λ ne. ap (stated p) (other_leaf old new 1 t i p (c ∷ []) tree a u ne))
            (same_or_not (index_in 1 p) i);
        leaves = λ p x wide h far.
            ⊎_elim
            (λ e. let w = in_whole from i p even is wide e in absurd (far p w.0 w.1 refl))
            (λ ne. other_leaf old new 1 t i p (c ∷ []) tree a u ne ∙ h)
            (same_or_not (index_in 1 p) i);
        tables = λ p w x wide h.
            ⊎_elim
            (λ e. ⊎_elim
            (λ (top : w ≡ 2). inl (table_top n 1 t p w top ∙ sym (table_top m 1 t p w top) ∙ h))
            (λ (lower : w ≢ 2). ⊎_elim
            (λ (one : w ≡ 1).
            let same : c ≡ x = same_Some c x (sym (own_table p e) ∙ subst (λ v. table_from m 2 t p v ≡ Some x) one h) in
            inr (one, cover p (in_whole from i p even is wide e).2, subst (λ y. 0 < occurs y (c ∷ [])) same has_c))
            (λ (ne : w ≢ 1). absurd (none-some x (sym (table_under m 1 t p w (Table c) lower (old_at p e) ∙ no_table m c p w ne) ∙ h)))
            (same_or_not w 1))
            (same_or_not w 2))
            (λ ne. inl (other_table old new 1 t i p w (c ∷ []) tree a u ne ∙ h))
            (same_or_not (index_in 1 p) i);
        taken = λ p w x wide h.
            ⊎_elim
            (λ e. ⊎_elim
            (λ (top : w ≡ 2). inl (table_top m 1 t p w top ∙ sym (table_top n 1 t p w top) ∙ h))
            (λ (lower : w ≢ 2). absurd (none-some x (sym (table_under n 1 t p w Absent lower (new_at p e)) ∙ h)))
            (same_or_not w 2))
            (λ ne. inl (sym (other_table old new 1 t i p w (c ∷ []) tree a u ne) ∙ h))
            (same_or_not (index_in 1 p) i);
        clear = λ p w wide far.
            ⊎_elim
            (λ e. ⊎_elim
            (λ (top : w ≡ 2). table_top n 1 t p w top ∙ sym (table_top m 1 t p w top))
            (λ (lower : w ≢ 2). ⊎_elim
            (λ (one : w ≡ 1).
            absurd (far from (omega arith) (omega arith)
            (subst (λ v. p / span v ≡ from / span v) (sym one) (in_whole from i p even is wide e).2)))
            (λ (ne : w ≢ 1).
            table_under n 1 t p w Absent lower (new_at p e)
            ∙ sym (table_under m 1 t p w (Table c) lower (old_at p e) ∙ no_table m c p w ne))
            (same_or_not w 1))
            (same_or_not w 2))
            (λ ne. other_table old new 1 t i p w (c ∷ []) tree a u ne)
            (same_or_not (index_in 1 p) i);
        covered = λ p x wide all h.
            let e : index_in 1 p ≡ i = at_whole from i p even is (omega (arith, all.0)) (omega (arith, all.1)) in
            subst (λ y. 0 < occurs y (c ∷ [])) (same_Some c x (sym (own_table p e) ∙ h)) has_c;
        cut_only = λ x has.
            let same : c ≡ x = one_if_same_is c x (omega (arith, one_list x c, has)) in
            (from, (omega arith, omega arith, (omega arith, omega arith), own_table from (sym is) ∙ ap (λ y. Some y) same));
        zeroed = λ x has.
            let same : c ≡ x = one_if_same_is c x (omega (arith, one_list x c, has)) in
            subst (λ y. IsZeroed new.words y) same (λ k k_in.
            wrote.1 c k k_in (λ e _. not_itself old t i c tree a names e)
            ∙ ap (λ j. word mid.words c j) (let e : k ≡ (from + k) % SPAN_PAGES = omega arith in e)
            ∙ blank (from + k) (omega arith) (omega arith));
      },
    )
  where
    outside : (from p : ℕ) → IsOutside from (from + SPAN_PAGES) p → from ≤ p → p < from + SPAN_PAGES → ⊥
    outside from p (inl h) low high = omega arith
    outside from p (inr h) low high = omega arith
