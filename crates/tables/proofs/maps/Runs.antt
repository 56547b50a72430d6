-- A run of entries written in a table of level 1, and one leaf of 512 pages.
use Rattle.std.proofs.Common.{◌≡◌, ◌≢◌, ℕ, ◌+◌, ◌-◌, ◌/◌, ◌%◌, ◌<◌, ◌≤◌, inl, inr, ⊎_elim, Some, None, List, [], refl, sym, ap, subst, ◌∙◌}
use Rattle.std.proofs.Common.{arith, mod-lt}
use Rattle.dmatypes.specs.declared.page.TheConstants.{SPAN_PAGES}
use Rattle.tables.specs.declared.entries.TheConstants.{TABLE_ENTRIES}
use Rattle.dmatypes.specs.World.{Target}
use Rattle.vtdbits.specs.Entry.{look}
use Rattle.vtdbits.specs.declared.entry.SsEntry.{SsEntry}
use Rattle.vtdbits.specs.declared.entry.SsEntry.TheVariants.{Absent, Table, Leaf, LargeLeaf}
use Rattle.tables.specs.Tree.{Memory, index_in, leaf_of, table_of, leaf_from, table_from, stated, one_if_same}
use Rattle.tables.specs.Pool.{Pool, word, memory, occurs, KeepsOtherWords}
use Rattle.tables.specs.Changes.{TakesAndGivesFrames, MapsPages, IsOutside}
use Rattle.tables.specs.Extents.{WritesEntries}
use Rattle.tables.proofs.sums.OneFrame.{one_if_same-self}
use Rattle.tables.proofs.walks.Words.{same_entry, memory_at}
use Rattle.tables.proofs.walks.Levels.{stated_small}
use Rattle.tables.proofs.walks.Steps.{leaf_under, table_under, table_top, same_or_not, uses-one}
use Rattle.tables.proofs.walks.Steps.{index-zero, div_span_one, leaf-zero, table-zero}
use Rattle.tables.proofs.walks.Agreeing.{leaf_by}

-- two pages of one span of 512 with one index are one
pub one_page : (p q : ℕ) → p / SPAN_PAGES ≡ q / SPAN_PAGES → p % SPAN_PAGES ≡ q % SPAN_PAGES → p ≡ q
one_page p q a b = omega arith

-- no table lies below one of level 1
pub no_table : (m : Memory) (t p w : ℕ) → w ≢ 1 → table_from m 1 t p w ≡ None
no_table m t p w ne = table_under m 0 t p w (m 1 t (index_in 0 p)) ne refl ∙ by_entry (m 1 t (index_in 0 p))
  where
    by_entry : (e : SsEntry) → table_of e (λ c. table_from m 0 c p w) ≡ None
    by_entry Absent = refl
    by_entry (Table c) = table-zero m c p w
    by_entry (Leaf s) = refl
    by_entry (LargeLeaf s) = refl

pub table_one : (m n : Memory) (t p w : ℕ) → table_from n 1 t p w ≡ table_from m 1 t p w
table_one m n t p w =
    ⊎_elim (λ top. table_top n 0 t p w top ∙ sym (table_top m 0 t p w top)) (λ lower. no_table n t p w lower ∙ sym (no_table m t p w lower))
    (same_or_not w 1)

pub run_moves : (old new : Pool) (t from to : ℕ) (entry : ℕ → SsEntry) → WritesEntries old.words new.words t from to entry
    → new.free ≡ old.free → new.frames ≡ old.frames → TakesAndGivesFrames old new 1 t []
run_moves old new t from to entry run free frames = record {
  account = λ f. omega (arith, uses-one (memory old.words) t f, uses-one (memory new.words) t f, ap (λ xs. occurs f xs) free);
  fewer = λ f. omega (arith, ap (λ xs. occurs f xs) free);
  others = λ f k k_in none. run.rest f k k_in (λ e p low high at.
      let used : one_if_same t f ≡ one_if_same t t = ap (λ x. one_if_same t x) e in
      absurd (omega (arith, none, uses-one (memory old.words) t f, one_if_same-self t)));
  frames = frames;
}

-- the leaf of a page of the run
pub run_leaf : (old new : Pool) (t from to p : ℕ) (entry : ℕ → SsEntry) (e : SsEntry) → WritesEntries old.words new.words t from to entry
    → from ≤ p → p < to → entry p ≡ e → leaf_from (memory new.words) 1 t p ≡ leaf_of e 0 (λ c. leaf_from (memory new.words) 0 c p)
run_leaf old new t from to p entry e run low high is =
    leaf_under (memory new.words) 0 t p e (ap (λ i. memory new.words 1 t i) (index-zero p) ∙ run.entries p low high ∙ is)

not_both : (from to p q : ℕ) → IsOutside from to p → q ≡ p → from ≤ q → q < to → ⊥
not_both from to p q (inl h) e low high = omega arith
not_both from to p q (inr h) e low high = omega arith

-- and of another page in the span
pub run_rest : (old new : Pool) (t from to p : ℕ) (entry : ℕ → SsEntry) → WritesEntries old.words new.words t from to entry
    → ((q : ℕ) → from ≤ q → q < to → q / SPAN_PAGES ≡ from / SPAN_PAGES) → p / SPAN_PAGES ≡ from / SPAN_PAGES → IsOutside from to p
    → leaf_from (memory new.words) 1 t p ≡ leaf_from (memory old.words) 1 t p
run_rest old new t from to p entry run one same out =
    let small : p % SPAN_PAGES < TABLE_ENTRIES = mod-lt p (omega arith) in
    let kept : word new.words t (p % SPAN_PAGES) ≡ word old.words t (p % SPAN_PAGES) =
    run.rest t (p % SPAN_PAGES) small (λ _ q low high e. not_both from to p q out (one_page q p (one q low high ∙ sym same) e) low high) in
    let entry_kept : memory new.words 1 t (index_in 0 p) ≡ memory old.words 1 t (index_in 0 p) =
    subst (λ i. memory new.words 1 t i ≡ memory old.words 1 t i) (sym (index-zero p))
    (same_entry old.words new.words 1 t (p % SPAN_PAGES) kept) in
    leaf_under (memory new.words) 0 t p (memory old.words 1 t (index_in 0 p)) entry_kept
    ∙ leaf_by (memory old.words) (memory new.words) 0 p (memory old.words 1 t (index_in 0 p))
    (λ c e. leaf-zero (memory new.words) c p ∙ sym (leaf-zero (memory old.words) c p))
    ∙ sym (leaf_under (memory old.words) 0 t p (memory old.words 1 t (index_in 0 p)) refl)

pub run_maps : (old new : Pool) (t from to : ℕ) (entry : ℕ → SsEntry) (says : ℕ → Target)
    → WritesEntries old.words new.words t from to entry → ((q : ℕ) → from ≤ q → q < to → q / SPAN_PAGES ≡ from / SPAN_PAGES)
    → ((p : ℕ) → entry p ≡ Leaf (says p)) → MapsPages old new 1 t from to (λ p. Some (says p))
run_maps old new t from to entry says run one leaves = record {
  mapped =
      λ p low high.
      ap (stated p) (run_leaf old new t from to p entry (Leaf (says p)) run low high (leaves p)) ∙ stated_small p 0 (says p) refl;
  elsewhere = λ p wide out. run_rest old new t from to p entry run one (sym (div_span_one p) ∙ wide ∙ div_span_one from) out;
  tables = λ p w c h. table_one (memory old.words) (memory new.words) t p w ∙ h;
  taken = λ p w c h. inl (table_one (memory new.words) (memory old.words) t p w ∙ h);
  clear = λ p w wide far. table_one (memory old.words) (memory new.words) t p w;
}

-- a run by the places of its words
pub run_of : (old new : List ℕ) (t from to : ℕ) (entry : ℕ → SsEntry) → from < to → from / SPAN_PAGES ≡ (to - 1) / SPAN_PAGES
    → ((k : ℕ) → k < to - from → look 1 (word new t (from % SPAN_PAGES + k)) ≡ entry (from + k))
    → KeepsOtherWords old new t (from % SPAN_PAGES) (to - from) → WritesEntries old new t from to entry
run_of old new t from to entry some one words rest = record {
  entries = λ p low high.
      let place : p % SPAN_PAGES ≡ from % SPAN_PAGES + (p - from) = omega arith in
      let page : from + (p - from) ≡ p = omega arith in
      memory_at new 1 t (p % SPAN_PAGES) ∙ ap (λ k. look 1 (word new t k)) place ∙ words (p - from) (omega arith) ∙ ap entry page;
  rest = λ f k k_in other.
      rest f k k_in (λ e low high. other e (from + (k - from % SPAN_PAGES)) (omega arith) (omega arith) (omega arith));
}
