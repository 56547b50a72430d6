-- An extent unmapped in a table of level 2.
use Rattle.std.proofs.Common.{◌≡◌, ◌≢◌, ℕ, ◌+◌, ◌-◌, ◌/◌, ◌%◌, ◌<◌, ◌≤◌, inl, inr, ⊎_elim, Some, None, List, [], ◌∷◌, refl, sym, ap, subst}
use Rattle.std.proofs.Common.{◌∙◌, arith}
use Rattle.std.proofs.lemmas.Bool.{cases_lt}
use Rattle.std.proofs.lemmas.Option.{none-some, same_Some}
use Rattle.std.proofs.lemmas.List.Sums.{sum_by-cons}
use Rattle.dmatypes.specs.declared.page.TheConstants.{SPAN_PAGES}
use Rattle.tables.specs.declared.entries.TheConstants.{TABLE_ENTRIES}
use Rattle.dmatypes.specs.World.{Target}
use Rattle.vtdbits.specs.declared.entry.SsEntry.{SsEntry}
use Rattle.vtdbits.specs.declared.entry.SsEntry.TheVariants.{Absent, Table, LargeLeaf}
use Rattle.tables.specs.Under.{ChangesUnder}
use Rattle.tables.specs.Tree.{Memory, LeafEntry, span, index_in, leaf_from, table_from, stated, one_if_same}
use Rattle.tables.specs.Pool.{Pool, memory, occurs, IsTree, IsWrite}
use Rattle.tables.specs.Changes.{TakesAndGivesFrames, UnmapsPages, IsOutside, IsCovered}
use Rattle.tables.specs.Extents.{WritesEntries}
use Rattle.tables.proofs.unmaps.UnderEntry.{under_moves, below_under, other_leaf}
use Rattle.tables.proofs.maps.Large.{under_written, no_table_at, same_tables}
use Rattle.tables.proofs.maps.Runs.{run_leaf, run_rest, run_moves, table_one}
use Rattle.tables.proofs.walks.Steps.{leaf_under, table_under, same_or_not, same_span, same_index, div_span_one}
use Rattle.tables.proofs.unmaps.Unmapped.{unmaps_up}

one_list : (f c : ℕ) → occurs f (c ∷ []) ≡ one_if_same c f
one_list f c = sum_by-cons (λ y. one_if_same y f) c [] ∙ (let e : one_if_same c f + 0 ≡ one_if_same c f = omega arith in e)

-- a run cleared in a table of level 1, short of the whole
pub run_unmaps : (old new : Pool) (t from to : ℕ) → WritesEntries old.words new.words t from to (λ p. Absent) → from < to
    → ((q : ℕ) → from ≤ q → q < to → q / SPAN_PAGES ≡ from / SPAN_PAGES) → to - from < SPAN_PAGES → UnmapsPages old new 1 t from to []
run_unmaps old new t from to run some one short =
    let m : Memory = memory old.words in
    let n : Memory = memory new.words in
    let kept : (p : ℕ) → p / span 1 ≡ from / span 1 → IsOutside from to p → leaf_from n 1 t p ≡ leaf_from m 1 t p =
    λ p wide out. run_rest old new t from to p (λ q. Absent) run one (sym (div_span_one p) ∙ wide ∙ div_span_one from) out in
    record {
      gone = λ p low high. run_leaf old new t from to p (λ q. Absent) Absent run low high refl;
      elsewhere = λ p wide out. ap (stated p) (kept p wide out);
      leaves = λ p x wide h far.
          ⊎_elim
          (λ (early : p < from). kept p wide (inl early) ∙ h)
          (λ (late : from ≤ p). ⊎_elim
          (λ (among : p < to). absurd (far p late among refl))
          (λ (behind : to ≤ p). kept p wide (inr behind) ∙ h)
          (cases_lt p to))
          (cases_lt p from);
      tables = λ p w c wide h. inl (table_one m n t p w ∙ h);
      taken = λ p w c wide h. inl (table_one n m t p w ∙ h);
      clear = λ p w wide far. table_one m n t p w;
      covered = λ p c wide all h. absurd (omega (arith, all.0, all.1));
      cut_only = λ c has. absurd (omega (arith, has));
      zeroed = λ c has. absurd (omega (arith, has));
    }

-- it is unmapped through the table under its entry
pub run_through : (old new : Pool) (t i c from to : ℕ) → IsTree old 2 t → i < TABLE_ENTRIES → i ≡ index_in 1 from
    → memory old.words 2 t i ≡ Table c → WritesEntries old.words new.words c from to (λ p. Absent) → new.free ≡ old.free
    → new.frames ≡ old.frames → from < to → from / SPAN_PAGES ≡ (to - 1) / SPAN_PAGES → to - from < SPAN_PAGES
    → TakesAndGivesFrames old new 2 t [] × UnmapsPages old new 2 t from to []
run_through old new t i c from to tree a is names run free frames some one short =
    let near : (q : ℕ) → from ≤ q → q < to → q / SPAN_PAGES ≡ from / SPAN_PAGES = λ q low high. omega (arith, low, high) in
    let moves : TakesAndGivesFrames old new 1 c [] = run_moves old new c from to (λ p. Absent) run free frames in (
      under_moves old new 1 t i [] tree a (below_under old new 1 t i c [] tree a names moves).0,
      unmaps_up old new 1 t i c from to [] tree a is (omega arith) names
          (λ p low high. div_span_one p ∙ near p low high ∙ sym (div_span_one from)) (λ p all wide. absurd (omega (arith, all.0, all.1)))
          moves (inr refl) (run_unmaps old new c from to run some near short),
    )

-- ---- an entry that was made absent, with all its 512 pages

-- the walks after an entry became absent
pub record IsGone (old new : Pool) (t i : ℕ) (cut : List ℕ) (before : SsEntry) : Type 0 where
  pub under : ChangesUnder old new 1 t i cut
  pub was : memory old.words 2 t i ≡ before
  pub is : memory new.words 2 t i ≡ Absent

gone_leaf : (old new : Pool) (t i p : ℕ) (cut : List ℕ) (e : SsEntry) → IsGone old new t i cut e → index_in 1 p ≡ i
    → leaf_from (memory new.words) 2 t p ≡ None
gone_leaf old new t i p cut e g at = leaf_under (memory new.words) 1 t p Absent (ap (λ j. memory new.words 2 t j) at ∙ g.is)

gone_table : (old new : Pool) (t i p w : ℕ) (cut : List ℕ) (e : SsEntry) → IsGone old new t i cut e → index_in 1 p ≡ i → w ≢ 2
    → table_from (memory new.words) 2 t p w ≡ None
gone_table old new t i p w cut e g at lower =
    table_under (memory new.words) 1 t p w Absent lower (ap (λ j. memory new.words 2 t j) at ∙ g.is)

-- the pages of a whole span are those of its entry
whole_at : (from to i p : ℕ) → to ≡ from + SPAN_PAGES → from % SPAN_PAGES ≡ 0 → i ≡ index_in 1 from → p / span 2 ≡ from / span 2
    → IsOutside from to p → index_in 1 p ≡ i → ⊥
whole_at from to i p end even is wide out at =
    let near : p / SPAN_PAGES ≡ from / SPAN_PAGES = sym (div_span_one p) ∙ same_span 1 p from wide (at ∙ is) ∙ div_span_one from in
    not_out out near
  where
    not_out : IsOutside from to p → p / SPAN_PAGES ≡ from / SPAN_PAGES → ⊥
    not_out (inl h) near = omega arith
    not_out (inr h) near = omega arith

-- a large leaf, wholly
pub large_gone : (old new : Pool) (t i from value : ℕ) (x : Target) → IsTree old 2 t → i < TABLE_ENTRIES → i ≡ index_in 1 from
    → from % SPAN_PAGES ≡ 0 → IsWrite old.words new.words t i value → new.free ≡ old.free → new.frames ≡ old.frames
    → memory old.words 2 t i ≡ LargeLeaf x → memory new.words 2 t i ≡ Absent
    → TakesAndGivesFrames old new 2 t [] × UnmapsPages old new 2 t from (from + SPAN_PAGES) []
large_gone old new t i from value x tree a is even wrote free frames was now =
    let m : Memory = memory old.words in
    let n : Memory = memory new.words in
    let u : ChangesUnder old new 1 t i [] =
    under_written old new 1 t i value (LargeLeaf x) Absent wrote free frames was now (λ below. refl) (λ below. refl) in
    let g : IsGone old new t i [] (LargeLeaf x) = record { under = u; was = was; is = now } in
    let tables : (p w : ℕ) → table_from n 2 t p w ≡ table_from m 2 t p w =
    λ p w. same_tables old new 1 t i p w [] (LargeLeaf x) Absent tree a u was now (λ below. refl) (λ below. refl) in
    let at : (p : ℕ) → from ≤ p → p < from + SPAN_PAGES → index_in 1 p ≡ i = λ p low high.
    same_index 1 p from (div_span_one p ∙ (let e : p / SPAN_PAGES ≡ from / SPAN_PAGES = omega arith in e) ∙ sym (div_span_one from))
    ∙ sym is in (
      under_moves old new 1 t i [] tree a u,
      record {
        gone = λ p low high. gone_leaf old new t i p [] (LargeLeaf x) g (at p low high);
        elsewhere = λ p wide out.
            ⊎_elim (λ e. absurd (whole_at from (from + SPAN_PAGES) i p refl even is wide out e))
            (λ ne. ap (stated p) (other_leaf old new 1 t i p [] tree a u ne)) (same_or_not (index_in 1 p) i);
        leaves = λ p y wide h far.
            ⊎_elim
            (λ e. let size : y.size ≡ 1 = large_size m t p x y (ap (λ j. m 2 t j) e ∙ was) h in
            absurd
            (far from (omega arith) (omega arith)
            (subst (λ v. p / span v ≡ from / span v) (sym size) (same_span 1 p from wide (e ∙ is)))))
            (λ ne. other_leaf old new 1 t i p [] tree a u ne ∙ h)
            (same_or_not (index_in 1 p) i);
        tables = λ p w c wide h. inl (tables p w ∙ h);
        taken = λ p w c wide h. inl (sym (tables p w) ∙ h);
        clear = λ p w wide far. tables p w;
        covered = λ p c wide all h.
            let e : index_in 1 p ≡ i = at_covered from p i is wide even all in
            absurd (none-some c (sym (no_table_at m 1 t p 1 i (LargeLeaf x) e was (λ below. refl) (λ k. omega arith)) ∙ h));
        cut_only = λ c has. absurd (omega (arith, has));
        zeroed = λ c has. absurd (omega (arith, has));
      },
    )
  where
    large_size : (m : Memory) (t p : ℕ) (x : Target) (y : LeafEntry) → m 2 t (index_in 1 p) ≡ LargeLeaf x → leaf_from m 2 t p ≡ Some y
        → y.size ≡ 1
    large_size m t p x y e h =
        sym (ap (λ (z : LeafEntry). z.size)
        (same_Some (record { size = 1; frame = x.frame; rights = x.rights }) y (sym (leaf_under m 1 t p (LargeLeaf x) e) ∙ h)))

    at_covered : (from p i : ℕ) → i ≡ index_in 1 from → p / span 2 ≡ from / span 2 → from % SPAN_PAGES ≡ 0
        → IsCovered from (from + SPAN_PAGES) p → index_in 1 p ≡ i
    at_covered from p i is wide even all =
        let near : p / SPAN_PAGES ≡ from / SPAN_PAGES = omega (arith, all.0, all.1) in
        same_index 1 p from (div_span_one p ∙ near ∙ sym (div_span_one from)) ∙ sym is
