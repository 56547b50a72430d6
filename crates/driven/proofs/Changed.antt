-- Which words a map and an unmap change, from the public contracts of `tables`.
use Rattle.std.proofs.Common.{◌≡◌, ◌≢◌, ◌⊎◌, inl, inr, ⊎_elim, ℕ, zero, suc, ◌/◌, ◌<◌, ◌≤◌, List, [], Option, Some, None, refl, sym, ap}
use Rattle.std.proofs.Common.{subst, ◌∙◌, arith}
use Rattle.std.proofs.lemmas.Bool.{cases_lt}
use Rattle.std.proofs.lemmas.Option.{none-some, same_Some}
use Rattle.dmatypes.specs.World.{Target}
use Rattle.tables.specs.declared.entries.TheConstants.{TABLE_ENTRIES}
use Rattle.tables.specs.Changes.{IsOutside, MapsPages, MeetsNone, TakesAndGivesFrames, UnmapsPages}
use Rattle.tables.specs.Pool.{Pool, memory, occurs, word}
use Rattle.tables.specs.Spelled.{AreSpelled}
use Rattle.tables.specs.Tree.{LeafEntry, Memory, index_in, leaf_from, span, stated, table_from, uses}
use Rattle.tables.proofs.walks.Near.{near_at, near_table, smaller}
use Rattle.tables.proofs.walks.Onward.{deeper, index_lt, leaf_on}
use Rattle.tables.proofs.walks.Steps.{same_index, same_or_not, wide_span}
use Rattle.moments.specs.Moments.{AreFreeZeroed}
use Rattle.quiet.proofs.WhatIsMet.{used_on}
use Rattle.driven.specs.Walks.{IsExchanged, IsOnWalks}
use Rattle.driven.proofs.Entries.{word_fresh, word_named, word_stays}
use Rattle.driven.proofs.Walks.{meets, page_at, passes, way_of_use}

-- the words of a tree spell its entries before and after, and what is free is zeroed
pub record Sound (old new : Pool) (level root from to : ℕ) (cut : List ℕ) : Type 0 where
  pub zeroed : AreFreeZeroed old
  pub zeroed' : AreFreeZeroed new
  pub before : AreSpelled old.words level root
  pub after : AreSpelled new.words level root
  pub moves : TakesAndGivesFrames old new level root cut
  pub some : from < to

-- a page of a span that has none of the pages is none of them
none_inside : (l from to p : ℕ) → MeetsNone l from to p → IsOutside from to p
none_inside l from to p none =
    ⊎_elim (λ (low : p < from). inl low)
    (λ (high : from ≤ p). ⊎_elim (λ (inside : p < to). absurd (none p high inside refl)) (λ (past : to ≤ p). inr past) (cases_lt p to))
    (cases_lt p from)

module _ (old new : Pool) (level root from to : ℕ) where
  abbrev Was : ℕ → ℕ → ℕ → Type 0
  Was p l f = table_from (memory old.words) level root p l ≡ Some f

  abbrev Is : ℕ → ℕ → ℕ → Type 0
  Is p l f = table_from (memory new.words) level root p l ≡ Some f

  -- a table of the new tree, by a page in the span of the pages whose way reads its word at an index
  pub used_place : (f k : ℕ) → 0 < uses (memory new.words) level root f → k < TABLE_ENTRIES
      → (p l : ℕ) × ((p / span level ≡ from / span level) × Is p (suc l) f × (index_in l p ≡ k))
  used_place f k some inside =
      let on = way_of_use (memory new.words) level root f from some in
      let at = page_at on.1 on.0 k inside in (
        at.0,
        on.1,
        (
          near_at (suc on.1) level at.0 on.0 (deeper (memory new.words) level root on.0 (suc on.1) f on.2.1) at.1.0 ∙ on.2.0,
          near_table (memory new.words) level root on.0 at.0 (suc on.1) f (sym at.1.0) on.2.1,
          at.1.1,
        ),
      )

  -- a word on the way of a page whose span below meets one of the pages is on the way of that one
  on_ways : (p l f : ℕ) → Is p (suc l) f → (q : ℕ) × ((from ≤ q) × (q < to) × (p / span l ≡ q / span l))
      → IsOnWalks new.words level root from to f (index_in l p)
  on_ways p l f is (q, (low, high, same)) = (
    q,
    (
      low,
      high,
      (
        l,
        near_table (memory new.words) level root p q (suc l) f (wide_span l p q same) is,
        sym (same_index l p q same),
      ),
    ),
  )

  -- a frame that the new tree doesn't use, and that wasn't cut
  pub unused : (cut : List ℕ) → Sound old new level root from to cut → (f k : ℕ) → k < TABLE_ENTRIES
      → uses (memory new.words) level root f ≡ 0 → occurs f cut ≡ 0 → word old.words f k ≡ word new.words f k
  unused cut s f k inside none kept =
      ⊎_elim
      (λ (free : 0 < occurs f new.free).
      s.zeroed f (omega (arith, free, s.moves.fewer f)) k inside ∙ sym (s.zeroed' f free k inside))
      (λ (gone : occurs f new.free ≤ 0). sym (s.moves.others f k inside (omega (arith, gone, none, kept, s.moves.account f))))
      (cases_lt 0 (occurs f new.free))

  -- ---- above the lowest tables

  -- a way that passes a table of level 1 passes one of each level
  all_above : (m : Memory) (p c w : ℕ) → table_from m level root p 1 ≡ Some c → suc w ≤ level
      → (d : ℕ) × (table_from m level root p (suc w) ≡ Some d)
  all_above m p c zero at up = (c, at)
  all_above m p c (suc w) at up =
      let below = all_above m p c w at (omega (arith, up)) in passes m level root p (suc w) below.0 below.1 up

  -- where it passes the same ones after as before, no word of it above the lowest table changes
  upper_stays : AreSpelled old.words level root → AreSpelled new.words level root → (p l f c : ℕ) → Was p 1 c
      → ((w d : ℕ) → Was p (suc w) d → Is p (suc w) d) → Is p (suc (suc l)) f
      → word old.words f (index_in (suc l) p) ≡ word new.words f (index_in (suc l) p)
  upper_stays before after p l f c lowest kept at =
      let up : suc (suc l) ≤ level = deeper (memory new.words) level root p (suc (suc l)) f at in
      let g = all_above (memory old.words) p c (suc l) lowest up in
      let e = all_above (memory old.words) p c l lowest (omega (arith, up)) in
      let own : g.0 ≡ f = same_Some g.0 f (sym (kept (suc l) g.0 g.1) ∙ at) in
      word_named old.words new.words level root p (suc l) f before after e.0 (subst (λ n. Was p (suc (suc l)) n) own g.1) at e.1
      (kept l e.0 e.1)

  -- ---- a map

  module _ (says : ℕ → Option Target) (s : Sound old new level root from to []) (maps : MapsPages old new level root from to says) where
    map_stays : (p l f : ℕ) → p / span level ≡ from / span level → Was p (suc l) f → Is p (suc l) f → MeetsNone l from to p
        → word old.words f (index_in l p) ≡ word new.words f (index_in l p)
    map_stays p l f near was is none =
        word_stays old.words new.words level root p l f s.before s.after was is (sym (maps.clear p l near none))
        (sym (maps.elsewhere p near (none_inside l from to p none)))

    -- where an old table lies below, the old way passes the new table
    map_was : (p l f : ℕ) → Is p (suc l) f → ((d : ℕ) × Was p (suc l) d) → Was p (suc l) f
    map_was p l f is (d, was) =
        subst (λ n. Was p (suc l) n) (same_Some d f (sym (maps.tables p (suc l) d was) ∙ is)) was

    -- a new table's word, whose span below has none of the pages
    map_fresh : (p l f : ℕ) → p / span level ≡ from / span level → Is p (suc l) f → 0 < occurs f old.free → MeetsNone l from to p
        → word old.words f (index_in l p) ≡ word new.words f (index_in l p)
    map_fresh p l f near is free none = by_tables (table_from (memory old.words) level root p (suc l)) refl
      where
        by_tables : (o : Option ℕ) → table_from (memory old.words) level root p (suc l) ≡ o
            → word old.words f (index_in l p) ≡ word new.words f (index_in l p)
        by_tables (Some d) was = map_stays p l f near (map_was p l f is (d, was)) is none
        by_tables None was = word_fresh old.words new.words level root p l f s.after
            (s.zeroed f free (index_in l p) (index_lt l p)) is was
            (sym (maps.clear p l near none)) (sym (maps.elsewhere p near (none_inside l from to p none)))

    -- no table goes
    pub map_upper : (p l f c : ℕ) → Was p 1 c → Is p (suc (suc l)) f
        → word old.words f (index_in (suc l) p) ≡ word new.words f (index_in (suc l) p)
    map_upper p l f c lowest at = upper_stays s.before s.after p l f c lowest (λ w d was. maps.tables p (suc w) d was) at

    pub map_changes : (f k : ℕ) → k < TABLE_ENTRIES → word old.words f k ≢ word new.words f k
        → IsOnWalks new.words level root from to f k
    map_changes f k inside differs =
        ⊎_elim
        (λ (used : 0 < uses (memory new.words) level root f).
        let (p, l, (near, is, index)) = used_place f k used inside in
        subst (λ i. IsOnWalks new.words level root from to f i) index
        (⊎_elim
        (λ (none : MeetsNone l from to p).
        absurd (differs (subst (λ i. word old.words f i ≡ word new.words f i) index
        (⊎_elim (λ was. map_stays p l f near was is none) (λ free. map_fresh p l f near is free none) (maps.taken p (suc l) f is)))))
        (λ one. on_ways p l f is one) (meets l from to p s.some)))
        (λ (not : uses (memory new.words) level root f ≤ 0).
        absurd (differs (unused [] s f k inside (omega (arith, not)) refl)))
        (cases_lt 0 (uses (memory new.words) level root f))

  -- ---- an unmap

  module _ (cut : List ℕ) (s : Sound old new level root from to cut) (unmaps : UnmapsPages old new level root from to cut) where
    no_leaf : (p : ℕ) (o : Option LeafEntry) → stated p o ≡ None → o ≡ None
    no_leaf p None h = refl
    no_leaf p (Some x) h = absurd (none-some _ (sym h))

    -- a leaf whose span below the table has none of the pages
    unmap_leaf : (p l f : ℕ) → p / span level ≡ from / span level → Was p (suc l) f → MeetsNone l from to p
        → leaf_from (memory old.words) level root p ≡ leaf_from (memory new.words) level root p
    unmap_leaf p l f near was none = by_leaf (leaf_from (memory old.words) level root p) refl
      where
        by_leaf : (o : Option LeafEntry) → leaf_from (memory old.words) level root p ≡ o → o ≡ leaf_from (memory new.words) level root p
        by_leaf None h =
            sym (no_leaf p (leaf_from (memory new.words) level root p)
            (unmaps.elsewhere p near (none_inside l from to p none) ∙ ap (stated p) h))
        by_leaf (Some x) h =
            let size : x.size < suc l = smaller (memory old.words) (suc l) f p x
            (leaf_on (memory old.words) level root p (suc l) f was ∙ h) in
            sym (unmaps.leaves p x near h
            (λ q low high same. none q low high (near_at x.size l p q (omega (arith, size)) same)))

    pub unmap_stays : (p l f : ℕ) → p / span level ≡ from / span level → Was p (suc l) f → Is p (suc l) f → MeetsNone l from to p
        → word old.words f (index_in l p) ≡ word new.words f (index_in l p)
    unmap_stays p l f near was is none =
        word_stays old.words new.words level root p l f s.before s.after was is (sym (unmaps.clear p l near none))
        (unmap_leaf p l f near was none)

    -- no table goes but one of level 1
    pub unmap_upper : (p l f c : ℕ) → p / span level ≡ from / span level → Was p 1 c → Is p 1 c → Is p (suc (suc l)) f
        → word old.words f (index_in (suc l) p) ≡ word new.words f (index_in (suc l) p)
    unmap_upper p l f c near lowest stays at =
        upper_stays s.before s.after p l f c lowest
        (λ w d was. elim (unmaps.tables p (suc w) d near was) [
          | inl is ↦ is
          | inr gone ↦
              let bottom : 1 ≡ suc w = sym gone.0 in
              let own : c ≡ d = same_Some c d (sym lowest ∙ ap (λ n. table_from (memory old.words) level root p n) bottom ∙ was) in
              ap (λ n. table_from (memory new.words) level root p n) (sym bottom) ∙ stays ∙ ap (λ n. Some n) own
        ]) at

    abbrev Changed : ℕ → ℕ → Type 0
    Changed f k = IsOnWalks new.words level root from to f k ⊎ IsExchanged old.words new.words level root from to f

    stood : (p l f k : ℕ) → p / span level ≡ from / span level → Was p (suc l) f → Is p (suc l) f → index_in l p ≡ k
        → word old.words f k ≢ word new.words f k → Changed f k
    stood p l f k near was is index differs =
        subst (λ i. Changed f i) index
        (⊎_elim
        (λ (none : MeetsNone l from to p).
        absurd (differs (subst (λ i. word old.words f i ≡ word new.words f i) index (unmap_stays p l f near was is none))))
        (λ one. inl (on_ways p l f is one)) (meets l from to p s.some))

    -- a new table of level 1
    came : (p f k : ℕ) → p / span level ≡ from / span level → Is p 1 f → index_in 0 p ≡ k
        → word old.words f k ≢ word new.words f k → Changed f k
    came p f k near is index differs =
        ⊎_elim
        (λ (none : MeetsNone 1 from to p). stood p 0 f k near (sym (unmaps.clear p 1 near none) ∙ is) is index differs)
        (λ one.
        let (q, (low, high, same)) = one in
        let there : Is q 1 f = near_table (memory new.words) level root p q 1 f same is in
        by_old q low high same there (table_from (memory old.words) level root q 1) refl)
        (meets 1 from to p s.some)
      where
        by_old : (q : ℕ) → from ≤ q → q < to → p / span 1 ≡ q / span 1 → Is q 1 f → (o : Option ℕ)
            → table_from (memory old.words) level root q 1 ≡ o → Changed f k
        by_old q low high same there None was =
            inr (q, (low, high, (λ e. absurd (none-some f (sym was ∙ e ∙ there))), inr there))
        by_old q low high same there (Some c) was =
            ⊎_elim
            (λ (own : c ≡ f).
            stood p 0 f k near (near_table (memory old.words) level root q p 1 f (sym same) (was ∙ ap (λ n. Some n) own)) is index differs)
            (λ (other : c ≢ f). inr (q, (low, high, (λ e. absurd (other (same_Some c f (sym was ∙ e ∙ there)))), inr there)))
            (same_or_not c f)

    pub unmap_changes : (f k : ℕ) → k < TABLE_ENTRIES → word old.words f k ≢ word new.words f k → Changed f k
    unmap_changes f k inside differs =
        ⊎_elim
        (λ (used : 0 < uses (memory new.words) level root f).
        let (p, l, (near, is, index)) = used_place f k used inside in
        ⊎_elim (λ was. stood p l f k near was is index differs)
        (λ new_one.
        let bottom : l ≡ 0 = omega (arith, new_one.0) in
        came p f k near (subst (λ n. Is p (suc n) f) bottom is) (subst (λ n. index_in n p ≡ k) bottom index) differs)
        (unmaps.taken p (suc l) f near is))
        (λ (not : uses (memory new.words) level root f ≤ 0).
        ⊎_elim
        (λ (gone : 0 < occurs f cut).
        let (p, (low, high, covered, was)) = unmaps.cut_only f gone in
        inr (
          p,
          (
            low,
            high,
            (λ e. absurd (omega (arith, not, used_on (memory new.words) level root p 1 f (sym e ∙ was)))),
            inl was,
          ),
        ))
        (λ (kept : occurs f cut ≤ 0). absurd (differs (unused cut s f k inside (omega (arith, not)) (omega (arith, kept)))))
        (cases_lt 0 (occurs f cut)))
        (cases_lt 0 (uses (memory new.words) level root f))
