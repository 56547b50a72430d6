-- A leaf of 512 pages under an absent entry of a table of level 2.
use Rattle.std.proofs.Common.{◌≡◌, ◌≢◌, ℕ, suc, ◌+◌, ◌-◌, ◌/◌, ◌%◌, ◌<◌, ◌≤◌, inl, ⊎_elim, Option, Some, None, List, [], refl, sym, ap, ◌∙◌}
use Rattle.std.proofs.Common.{arith}
use Rattle.dmatypes.specs.declared.page.TheConstants.{SPAN_PAGES}
use Rattle.tables.specs.declared.entries.TheConstants.{TABLE_ENTRIES}
use Rattle.vtdbits.specs.Translation.{target}
use Rattle.vtdbits.specs.declared.entry.SsEntry.{SsEntry}
use Rattle.vtdbits.specs.declared.entry.SsEntry.TheVariants.{Absent, LargeLeaf}
use Rattle.tables.specs.Under.{ChangesUnder, used_by_entry}
use Rattle.tables.specs.Tree.{Memory, index_in, table_of, table_from, stated, uses, entry_uses}
use Rattle.tables.specs.Pool.{Pool, memory, occurs, IsTree, IsWrite}
use Rattle.tables.specs.Changes.{TakesAndGivesFrames, KeepsSpellings, MapsPages}
use Rattle.tables.proofs.unmaps.UnderEntry.{under_moves, other_leaf, other_table}
use Rattle.tables.proofs.spelled.UnderEntry.{leaf_spelled}
use Rattle.tables.proofs.walks.Levels.{stated_large}
use Rattle.tables.proofs.walks.Steps.{leaf_under, table_under, table_top, same_or_not, same_span, div_span_one, same_index}

-- an entry was written that uses no frame, where there was none
pub under_written : (old new : Pool) (l t i value : ℕ) (before after : SsEntry) → IsWrite old.words new.words t i value
    → new.free ≡ old.free → new.frames ≡ old.frames → memory old.words (suc l) t i ≡ before → memory new.words (suc l) t i ≡ after
    → ((below : ℕ → ℕ) → entry_uses before below ≡ 0) → ((below : ℕ → ℕ) → entry_uses after below ≡ 0) → ChangesUnder old new l t i []
under_written old new l t i value before after wrote free frames was is none none_now =
    let m : Memory = memory old.words in
    let n : Memory = memory new.words in
    record {
      account = λ f.
          let a : used_by_entry m l t f i ≡ 0 = ap (λ e. entry_uses e (λ c. uses m l c f)) was ∙ none (λ c. uses m l c f) in
          let b : used_by_entry n l t f i ≡ 0 = ap (λ e. entry_uses e (λ c. uses n l c f)) is ∙ none_now (λ c. uses n l c f) in
          omega (arith, ap (λ xs. occurs f xs) free);
      fewer = λ f. omega (arith, ap (λ xs. occurs f xs) free);
      others = λ f k k_in ne _. wrote.1 f k k_in (λ e _. ne e);
      row = λ k k_in ne. wrote.1 t k k_in (λ _ e. ne e);
      frames = frames;
    }

-- no table is met at an entry that names none
pub no_table_at : (m : Memory) (l t p w i : ℕ) (e : SsEntry) → index_in l p ≡ i → m (suc l) t i ≡ e
    → ((below : ℕ → Option ℕ) → table_of e below ≡ None) → w ≢ suc l → table_from m (suc l) t p w ≡ None
no_table_at m l t p w i e at is none lower =
    table_under m l t p w e lower (ap (λ j. m (suc l) t j) at ∙ is) ∙ none (λ c. table_from m l c p w)

-- the tables, where one entry without a table took the place of another
pub same_tables : (old new : Pool) (l t i p w : ℕ) (cut : List ℕ) (before after : SsEntry) → IsTree old (suc l) t → i < TABLE_ENTRIES
    → ChangesUnder old new l t i cut → memory old.words (suc l) t i ≡ before → memory new.words (suc l) t i ≡ after
    → ((below : ℕ → Option ℕ) → table_of before below ≡ None) → ((below : ℕ → Option ℕ) → table_of after below ≡ None)
    → table_from (memory new.words) (suc l) t p w ≡ table_from (memory old.words) (suc l) t p w
same_tables old new l t i p w cut before after tree a u was is none none_now =
    ⊎_elim
    (λ e. ⊎_elim
    (λ top. table_top (memory new.words) l t p w top ∙ sym (table_top (memory old.words) l t p w top))
    (λ lower.
    no_table_at (memory new.words) l t p w i after e is none_now lower
    ∙ sym (no_table_at (memory old.words) l t p w i before e was none lower))
    (same_or_not w (suc l)))
    (λ ne. other_table old new l t i p w cut tree a u ne)
    (same_or_not (index_in l p) i)

-- the leaf of 512 pages, from its first page on
pub large_maps : (old new : Pool) (t i from frame rights value : ℕ) → IsTree old 2 t → i < TABLE_ENTRIES → i ≡ index_in 1 from
    → from % SPAN_PAGES ≡ 0 → IsWrite old.words new.words t i value → new.free ≡ old.free → new.frames ≡ old.frames
    → memory old.words 2 t i ≡ Absent → memory new.words 2 t i ≡ LargeLeaf (target frame rights)
    → TakesAndGivesFrames old new 2 t [] × MapsPages old new 2 t from (from + SPAN_PAGES) (λ p. Some (target (frame + (p - from)) rights))
    × ((p w : ℕ) → table_from (memory new.words) 2 t p w ≡ table_from (memory old.words) 2 t p w) × KeepsSpellings old new 2 t
large_maps old new t i from frame rights value tree a at aligned wrote free frames was is =
    let n : Memory = memory new.words in
    let u : ChangesUnder old new 1 t i [] =
    under_written old new 1 t i value Absent (LargeLeaf (target frame rights)) wrote free frames was is (λ below. refl)
    (λ below. refl) in
    let tables : (p w : ℕ) → table_from n 2 t p w ≡ table_from (memory old.words) 2 t p w =
    λ p w. same_tables old new 1 t i p w [] Absent (LargeLeaf (target frame rights)) tree a u was is (λ below. refl) (λ below. refl) in (
      under_moves old new 1 t i [] tree a u,
      record {
        mapped = λ p low high.
            let near : p / SPAN_PAGES ≡ from / SPAN_PAGES = omega arith in
            let e : index_in 1 p ≡ i = same_index 1 p from (div_span_one p ∙ near ∙ sym (div_span_one from)) ∙ sym at in
            let offset : p % SPAN_PAGES ≡ p - from = omega arith in
            ap (stated p) (leaf_under n 1 t p (LargeLeaf (target frame rights)) (ap (λ j. n 2 t j) e ∙ is))
            ∙ stated_large p 1 (target frame rights) refl ∙ ap (λ k. Some (target (frame + k) rights)) offset;
        elsewhere = λ p wide out.
            ⊎_elim
            (λ e.
            let near : p / SPAN_PAGES ≡ from / SPAN_PAGES = sym (div_span_one p) ∙ same_span 1 p from wide (e ∙ at) ∙ div_span_one from in
            ⊎_elim (λ (h : p < from). absurd (omega arith)) (λ (h : from + SPAN_PAGES ≤ p). absurd (omega arith)) out)
            (λ ne. other_leaf old new 1 t i p [] tree a u ne)
            (same_or_not (index_in 1 p) i);
        tables = λ p w c h. tables p w ∙ h;
        taken = λ p w c h. inl (sym (tables p w) ∙ h);
        clear = λ p w wide far. tables p w;
      },
      tables,
      leaf_spelled old new 1 t i [] (LargeLeaf (target frame rights)) tree a u is (λ c e. cc) (λ e. cc),
    )
