-- Unmaps one level up, and one after the other.
use Rattle.std.proofs.Common.{◌≡◌, ℕ, suc, ◌+◌, ◌-◌, ◌*◌, ◌/◌, ◌%◌, ◌<◌, ◌≤◌, ◌⊎◌, inl, inr, ⊎_elim, Some, List, [], ◌++◌, refl, sym, ap}
use Rattle.std.proofs.Common.{subst, ◌∙◌, arith}
use Rattle.std.proofs.lemmas.Bool.{cases_lt}
use Rattle.dmatypes.specs.declared.page.TheConstants.{SPAN_PAGES}
use Rattle.tables.specs.declared.entries.TheConstants.{TABLE_ENTRIES}
use Rattle.vtdbits.specs.declared.entry.SsEntry.TheVariants.{Table}
use Rattle.tables.specs.Under.{ChangesUnder}
use Rattle.tables.specs.Tree.{Memory, span, index_in, leaf_from, table_from, stated}
use Rattle.tables.specs.Pool.{Pool, memory, occurs, IsTree}
use Rattle.tables.specs.Changes.{TakesAndGivesFrames, UnmapsPages, IsOutside, MeetsNone, IsCovered}
use Rattle.tables.proofs.pools.GivenBack.{occurs-append}
use Rattle.tables.proofs.pools.Kept.{stated_none}
use Rattle.tables.proofs.maps.Mapped.{table_either}
use Rattle.tables.proofs.unmaps.UnderEntry.{under_moves, below_under, other_leaf, other_table}
use Rattle.tables.proofs.walks.Steps.{leaf_under, table_under, table_top, same_or_not, same_span, same_index, div_span_one}
use Rattle.tables.proofs.walks.Near.{near_at}

-- an unmap under an entry is one of the table
pub unmaps_up : (old new : Pool) (l t i c from to : ℕ) (cut : List ℕ) → IsTree old (suc l) t → i < TABLE_ENTRIES → i ≡ index_in l from
    → 1 ≤ l → memory old.words (suc l) t i ≡ Table c → ((p : ℕ) → from ≤ p → p < to → p / span l ≡ from / span l)
    → ((p : ℕ) → IsCovered from to p → p / span (suc l) ≡ from / span (suc l) → index_in l p ≡ i) → TakesAndGivesFrames old new l c cut
    → (1 < l ⊎ (cut ≡ [])) → UnmapsPages old new l c from to cut → UnmapsPages old new (suc l) t from to cut
unmaps_up old new l t i c from to cut tree a is some names one covers moves deep un =
    let m : Memory = memory old.words in
    let n : Memory = memory new.words in
    let both = below_under old new l t i c cut tree a names moves in
    let u : ChangesUnder old new l t i cut = both.0 in
    let here_old : (p : ℕ) → index_in l p ≡ i → m (suc l) t (index_in l p) ≡ Table c = λ p e. ap (λ j. m (suc l) t j) e ∙ names in
    let here_new : (p : ℕ) → index_in l p ≡ i → n (suc l) t (index_in l p) ≡ Table c = λ p e. ap (λ j. n (suc l) t j) e ∙ both.1 in
    let near : (p : ℕ) → p / span (suc l) ≡ from / span (suc l) → index_in l p ≡ i → p / span l ≡ from / span l =
    λ p wide e. same_span l p from wide (e ∙ is) in
    let at : (p : ℕ) → from ≤ p → p < to → index_in l p ≡ i = λ p low high. same_index l p from (one p low high) ∙ sym is in
    record {
      gone = λ p low high. leaf_under n l t p (Table c) (here_new p (at p low high)) ∙ un.gone p low high;
      elsewhere = λ p wide out.
          ⊎_elim
          (λ e.
          ap (stated p) (leaf_under n l t p (Table c) (here_new p e)) ∙ un.elsewhere p (near p wide e) out
          ∙ ap (stated p) (sym (leaf_under m l t p (Table c) (here_old p e))))
          (λ ne. ap (stated p) (other_leaf old new l t i p cut tree a u ne)) (same_or_not (index_in l p) i);
      leaves = λ p x wide h far.
          ⊎_elim
          (λ e.
          leaf_under n l t p (Table c) (here_new p e)
          ∙ un.leaves p x (near p wide e) (sym (leaf_under m l t p (Table c) (here_old p e)) ∙ h) far)
          (λ ne. other_leaf old new l t i p cut tree a u ne ∙ h) (same_or_not (index_in l p) i);
      tables = λ p w x wide h.
          ⊎_elim
          (λ e.
          table_either m n l t c p w x ((table_from n (suc l) t p w ≡ Some x) ⊎ ((w ≡ 1) × IsCovered from to p × (0 < occurs x cut)))
          (here_old p e) (here_new p e) h (λ k. inl k)
          (λ k up. ⊎_elim (λ there. inl (sym up ∙ there)) (λ gone. inr gone) (un.tables p w x (near p wide e) k)))
          (λ ne. inl (other_table old new l t i p w cut tree a u ne ∙ h)) (same_or_not (index_in l p) i);
      taken = λ p w x wide h.
          ⊎_elim
          (λ e.
          table_either n m l t c p w x ((table_from m (suc l) t p w ≡ Some x) ⊎ ((w ≡ 1) × (0 < occurs x old.free))) (here_new p e) (here_old p e) h
          (λ k. inl k) (λ k up. ⊎_elim (λ there. inl (sym up ∙ there)) (λ free. inr free) (un.taken p w x (near p wide e) k)))
          (λ ne. inl (sym (other_table old new l t i p w cut tree a u ne) ∙ h)) (same_or_not (index_in l p) i);
      clear = λ p w wide far.
          ⊎_elim
          (λ e. ⊎_elim (λ top. table_top n l t p w top ∙ sym (table_top m l t p w top))
          (λ lower.
          table_under n l t p w (Table c) lower (here_new p e) ∙ un.clear p w (near p wide e) far
          ∙ sym (table_under m l t p w (Table c) lower (here_old p e)))
          (same_or_not w (suc l)))
          (λ ne. other_table old new l t i p w cut tree a u ne)
          (same_or_not (index_in l p) i);
      covered = λ p x wide all h.
          let e : index_in l p ≡ i = covers p all wide in
          un.covered p x (near p wide e) all (sym (table_under m l t p 1 (Table c) (λ k. omega arith) (here_old p e)) ∙ h);
      cut_only = λ x has.
          let found = un.cut_only x has in (
            found.0,
            (
              found.1.0,
              found.1.1,
              found.1.2,
              table_under m l t found.0 1 (Table c) (λ k. omega arith) (here_old found.0 (at found.0 found.1.0 found.1.1)) ∙ found.1.3,
            ),
          );
      zeroed = un.zeroed;
    }

pub no_unmaps : (a : Pool) (level t from : ℕ) → UnmapsPages a a level t from from []
no_unmaps a level t from = record {
  gone = λ p low high. absurd (omega (arith, low, high));
  elsewhere = λ p wide out. refl;
  leaves = λ p x wide h far. h;
  tables = λ p w x wide h. inl h;
  taken = λ p w x wide h. inl h;
  clear = λ p w wide far. refl;
  covered = λ p x wide all h. absurd (omega (arith, all.0, all.1));
  cut_only = λ x has. absurd (omega (arith, has));
  zeroed = λ x has. absurd (omega (arith, has));
}

before : (from mid to p : ℕ) → from ≤ mid → mid < to → IsOutside from to p → IsOutside from mid p × IsOutside mid to p
before from mid to p lo hi (inl h) = (inl h, inl (omega arith))
before from mid to p lo hi (inr h) = (inr (omega arith), inr h)

-- a span of 512 lies before a page at its edge, or behind it
split_cover : (from mid to p : ℕ) → mid % SPAN_PAGES ≡ 0 ⊎ (mid ≡ from) → IsCovered from to p → IsCovered from mid p ⊎ IsCovered mid to p
split_cover from mid to p edge all =
    ⊎_elim
    (λ (even : mid % SPAN_PAGES ≡ 0). ⊎_elim
    (λ (low : SPAN_PAGES * (p / SPAN_PAGES) < mid). inl (all.0, omega arith))
    (λ (high : mid ≤ SPAN_PAGES * (p / SPAN_PAGES)). inr (high, all.1))
    (cases_lt (SPAN_PAGES * (p / SPAN_PAGES)) mid))
    (λ (start : mid ≡ from). inr (omega (arith, all.0), all.1))
    edge

-- two unmaps one after the other, of pages one after the other
pub unmaps_then : (a b c : Pool) (level t from mid to : ℕ) (cut more : List ℕ) → from ≤ mid → mid < to
    → (mid % SPAN_PAGES ≡ 0 ⊎ (mid ≡ from)) → IsTree a level t → ((p : ℕ) → from ≤ p → p < to → p / span level ≡ from / span level)
    → TakesAndGivesFrames a b level t cut → TakesAndGivesFrames b c level t more → UnmapsPages a b level t from mid cut
    → UnmapsPages b c level t mid to more → UnmapsPages a c level t from to (cut ++ more)
unmaps_then a b c level t from mid to cut more lo hi edge tree one moves moves' x y =
    let shift : from / span level ≡ mid / span level = sym (one mid lo hi) in
    let joins : (f : ℕ) → occurs f (cut ++ more) ≡ occurs f cut + occurs f more = λ f. occurs-append f cut more in
    let far_both : (w p : ℕ) → MeetsNone w from to p → MeetsNone w from mid p × MeetsNone w mid to p =
    λ w p far. ((λ q low high. far q low (omega arith)), (λ q low high. far q (omega arith) high)) in
    record {
      gone = λ p low high.
          ⊎_elim
          (λ early.
          stated_none p (leaf_from (memory c.words) level t p)
          (y.elsewhere p (one p low high ∙ shift) (inl early) ∙ ap (stated p) (x.gone p low early))) (λ late. y.gone p late high)
          (cases_lt p mid);
      elsewhere = λ p wide out.
          let both = before from mid to p lo hi out in
          y.elsewhere p (wide ∙ shift) both.1 ∙ x.elsewhere p wide both.0;
      leaves = λ p z wide h far.
          let both = far_both z.size p far in
          y.leaves p z (wide ∙ shift) (x.leaves p z wide h both.0) both.1;
      tables = λ p w z wide h.
          ⊎_elim
          (λ there.
          ⊎_elim (λ still. inl still) (λ gone. inr (gone.0, (omega (arith, gone.1.0), gone.1.1), omega (arith, joins z, gone.2)))
          (y.tables p w z (wide ∙ shift) there))
          (λ gone. inr (gone.0, (gone.1.0, omega (arith, gone.1.1)), omega (arith, joins z, gone.2))) (x.tables p w z wide h);
      taken =
          λ p w z wide h.
          ⊎_elim (λ k. x.taken p w z wide k) (λ free. inr (free.0, omega (arith, free.1, moves.fewer z))) (y.taken p w z (wide ∙ shift) h);
      clear = λ p w wide far.
          let both = far_both w p far in
          y.clear p w (wide ∙ shift) both.1 ∙ x.clear p w wide both.0;
      covered = λ p z wide all h.
          ⊎_elim
          (λ first. omega (arith, joins z, x.covered p z wide first h))
          (λ second. ⊎_elim
          (λ there. omega (arith, joins z, y.covered p z (wide ∙ shift) second there))
          (λ gone. omega (arith, joins z, gone.2))
          (x.tables p 1 z wide h))
          (split_cover from mid to p edge all);
      cut_only = λ z has.
          ⊎_elim
          (λ (first : 0 < occurs z cut).
          let found = x.cut_only z first in
          (found.0, (found.1.0, omega (arith, found.1.1), (found.1.2.0, omega (arith, found.1.2.1)), found.1.3)))
          (λ (none : occurs z cut ≤ 0).
          let found = y.cut_only z (omega (arith, joins z, has)) in
          let wide : found.0 / span level ≡ from / span level = one found.0 (omega (arith, found.1.0)) found.1.1 in
          let same : table_from (memory b.words) level t found.0 1 ≡ table_from (memory a.words) level t found.0 1 =
          x.clear found.0 1 wide (λ q low high e. apart_spans from mid to found.0 q found.1.2 low high e) in
          (found.0, (omega (arith, found.1.0), found.1.1, (omega (arith, found.1.2.0), found.1.2.1), sym same ∙ found.1.3)))
          (cases_lt 0 (occurs z cut));
      zeroed = λ z has.
          ⊎_elim
          (λ (first : 0 < occurs z cut). λ k k_in.
          moves'.others z k k_in (omega (arith, moves.account z, tree.once z)) ∙ x.zeroed z first k k_in)
          (λ (none : occurs z cut ≤ 0). y.zeroed z (omega (arith, joins z, has)))
          (cases_lt 0 (occurs z cut));
    }
  where
    apart_spans : (from mid to p q : ℕ) → IsCovered mid to p → from ≤ q → q < mid → p / span 1 ≡ q / span 1 → ⊥
    apart_spans from mid to p q all low high e =
        let same : p / SPAN_PAGES ≡ q / SPAN_PAGES = sym (div_span_one p) ∙ e ∙ div_span_one q in omega (arith, all.0)

-- an unmap of an extent through the table under an entry, at a level one above
pub unmap_through : (old new : Pool) (level l t i c from to : ℕ) (cut : List ℕ) → level ≡ suc l → 1 < l → from < to
    → from / SPAN_PAGES ≡ (to - 1) / SPAN_PAGES → IsTree old level t → i < TABLE_ENTRIES → i ≡ index_in l from
    → memory old.words level t i ≡ Table c → TakesAndGivesFrames old new l c cut → UnmapsPages old new l c from to cut
    → TakesAndGivesFrames old new level t cut × UnmapsPages old new level t from to cut
unmap_through old new level l t i c from to cut up deep some one =
    subst (λ n. IsTree old n t → i < TABLE_ENTRIES → i ≡ index_in l from → memory old.words n t i ≡ Table c
    → TakesAndGivesFrames old new l c cut → UnmapsPages old new l c from to cut
    → TakesAndGivesFrames old new n t cut × UnmapsPages old new n t from to cut) (sym up)
    (λ tree a is names moves un.
    let near : (p : ℕ) → p / SPAN_PAGES ≡ from / SPAN_PAGES → p / span l ≡ from / span l =
    λ p e. near_at 1 l p from (omega arith) (div_span_one p ∙ e ∙ sym (div_span_one from)) in (
      under_moves old new l t i cut tree a (below_under old new l t i c cut tree a names moves).0,
      unmaps_up old new l t i c from to cut tree a is (omega arith) names (λ p low high. near p (omega (arith, low, high)))
          (λ p all wide. same_index l p from (near p (omega (arith, all.0, all.1))) ∙ sym is) moves (inl deep) un,
    ))
