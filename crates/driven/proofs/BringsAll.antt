-- That what is told of a call brings all that it changed.
use Rattle.std.proofs.Common.{◌≡◌, ◌≢◌, ◌⊎◌, inl, inr, ⊎_elim, ℕ, zero, suc, ◌+◌, ◌-◌, ◌*◌, ◌/◌, ◌%◌, ◌<◌, ◌≤◌, List}
use Rattle.std.proofs.Common.{Option, Some, None, refl, sym, ap, subst, ◌∙◌, arith, slice_get}
use Rattle.std.proofs.lemmas.Option.{none-some, same_Some}
use Rattle.dmatypes.specs.Page.{levels}
use Rattle.dmatypes.specs.declared.page.TheConstants.{SPAN_PAGES}
use Rattle.dmatypes.specs.declared.width.Width.{Width}
use Rattle.dmatypes.specs.declared.width.Width.TheVariants.{W39, W48}
use Rattle.tables.specs.declared.entries.TheConstants.{TABLE_ENTRIES}
use Rattle.tables.specs.Pool.{memory}
use Rattle.tables.specs.Tree.{index_in, table_from}
use Rattle.tables.proofs.walks.Onward.{deeper}
use Rattle.tables.proofs.walks.Steps.{index-zero, same_or_not}
use Rattle.engine.specs.Domains.{Domain, domain_at}
use Rattle.engine.specs.State.{State}
use Rattle.engine.specs.Walkable.{table_at}
use Rattle.driven.specs.declared.effect.Effect.{Effect}
use Rattle.driven.specs.Effects.{IsBrought}
use Rattle.driven.specs.Telling.{AreTablesOf, BringsUnmapped, BringsWalks, TablesStay}
use Rattle.driven.specs.Walks.{IsExchanged, IsOnWalks}
use Rattle.driven.proofs.Spans.{same_table}

few_levels : (w : Width) → levels w ≤ 4
few_levels W39 = omega arith
few_levels W48 = omega arith

-- a table on a page's way down the domain's tree, as it is found in the state after the call
module _ (t : State) (d : ℕ) (h h' : Domain) (then : domain_at t.domains d ≡ Some h') (root : h'.root ≡ h.root) (width : h'.width ≡
    h.width) where
  pub there : (p w : ℕ) → table_at t.pool (domain_at t.domains d) p w ≡ table_from (memory t.pool.words) (levels h.width) h.root p w
  there p w =
      ap (λ o. table_at t.pool o p w) then
      ∙ ap (λ n. table_from (memory t.pool.words) (levels n) h'.root p w) width
      ∙ ap (λ n. table_from (memory t.pool.words) (levels h.width) n p w) root

  -- ---- a map

  pub on_ways : (from to : ℕ) (es : List Effect) → BringsWalks t.pool (domain_at t.domains d) from to es → (f k : ℕ)
      → IsOnWalks t.pool.words (levels h.width) h.root from to f k → IsBrought es f k
  on_ways from to es brings f k (p, (low, high, (l, at, index))) =
      let few : suc l ≤ levels h.width = deeper (memory t.pool.words) (levels h.width) h.root p (suc l) f at in
      let same : suc l - 1 ≡ l = omega arith in
      subst (λ i. IsBrought es f i) (ap (λ n. index_in n p) same ∙ index)
      (brings.brings (suc l) p f (omega arith) (omega (arith, few, few_levels h.width)) low high (there p (suc l) ∙ at))

  -- ---- an unmap

  module _ (m : State) (first last : ℕ) (before : List (Option ℕ)) (here : domain_at m.domains d ≡ Some h)
      (were : AreTablesOf m.pool (domain_at m.domains d) first last before) where
    -- the table that was on a page's way
    pub was : (p : ℕ) → first ≤ p → p ≤ last → slice_get before (p / SPAN_PAGES - first / SPAN_PAGES)
        ≡ Some (table_from (memory m.pool.words) (levels h.width) h.root p 1)
    was p low high =
        let k : ℕ = p / SPAN_PAGES - first / SPAN_PAGES in
        let same : first / SPAN_PAGES + k ≡ p / SPAN_PAGES = omega (arith, low) in
        were.each k (omega (arith, were.count, low, high))
        ∙ ap (λ o. Some o) (ap (λ n. table_at m.pool (domain_at m.domains d) (n * SPAN_PAGES) 1) same
        ∙ same_table m.pool (domain_at m.domains d) (p / SPAN_PAGES * SPAN_PAGES) p (omega arith)
        ∙ ap (λ o. table_at m.pool o p 1) here)

  module _ (m : State) (first last : ℕ) (before : List (Option ℕ)) (here : domain_at m.domains d ≡ Some h)
      (were : AreTablesOf m.pool (domain_at m.domains d) first last before) (es : List Effect)
      (brings : BringsUnmapped t.pool (domain_at t.domains d) first last before es) where
    -- where the lowest tables stay the word is none of a table above them
    abbrev pub Low : ℕ → ℕ → Type 0
    Low f k =
        TablesStay t.pool (domain_at t.domains d) first last before → (p l : ℕ) → first ≤ p → p ≤ last
        → table_from (memory t.pool.words) (levels h.width) h.root p (suc (suc l)) ≡ Some f → index_in (suc l) p ≡ k → ⊥

    -- on a way after the unmap
    pub stays_or_came : (to : ℕ) → to ≡ last + 1 → (f k : ℕ) → k < TABLE_ENTRIES → Low f k
        → IsOnWalks t.pool.words (levels h.width) h.root first to f k → IsBrought es f k
    stays_or_came to end f k inside lowest (p, (low, high, (zero, at, index))) =
        let b = brings.spans p (table_from (memory m.pool.words) (levels h.width) h.root p 1) low (omega (arith, high, end))
        (was m first last before here were p low (omega (arith, high, end))) in
        by_old b (table_from (memory m.pool.words) (levels h.width) h.root p 1) refl
      where
        by_old : (((g : ℕ) → table_from (memory m.pool.words) (levels h.width) h.root p 1 ≡ Some g
            → table_at t.pool (domain_at t.domains d) p 1 ≡ Some g → IsBrought es g (p % TABLE_ENTRIES))
            × ((g i : ℕ) → table_from (memory m.pool.words) (levels h.width) h.root p 1 ≢ table_at t.pool (domain_at t.domains d) p 1
            → (table_from (memory m.pool.words) (levels h.width) h.root p 1 ≡ Some g) ⊎ (table_at t.pool (domain_at t.domains d) p 1 ≡
            Some g)
            → i < TABLE_ENTRIES → IsBrought es g i))
            → (o : Option ℕ) → table_from (memory m.pool.words) (levels h.width) h.root p 1 ≡ o → IsBrought es f k
        by_old b None old =
            b.1 f k (λ e. none-some f (sym old ∙ e ∙ there p 1 ∙ at)) (inr (there p 1 ∙ at)) inside
        by_old b (Some c) old =
            ⊎_elim
            (λ (own : c ≡ f).
            subst (λ i. IsBrought es f i) (sym (index-zero p) ∙ index) (b.0 f (old ∙ ap (λ n. Some n) own) (there p 1 ∙ at)))
            (λ (other : c ≢ f).
            b.1 f k (λ e. other (same_Some c f (sym old ∙ e ∙ there p 1 ∙ at))) (inr (there p 1 ∙ at)) inside)
            (same_or_not c f)
    stays_or_came to end f k inside lowest (p, (low, high, (suc l, at, index))) =
        let few : suc (suc l) ≤ levels h.width = deeper (memory t.pool.words) (levels h.width) h.root p (suc (suc l)) f at in
        let same : suc (suc l) - 1 ≡ suc l = omega arith in
        elim brings.upper [
          | inl stay ↦ absurd (lowest stay p l low (omega (arith, high, end)) at index)
          | inr told ↦ subst (λ i. IsBrought es f i) (ap (λ n. index_in n p) same ∙ index)
              (told (suc (suc l)) p f (omega arith) (omega (arith, few, few_levels h.width)) low (omega (arith, high, end))
              (there p (suc (suc l)) ∙ at))
        ]

    -- in a table that went or came
    pub exchanged : (to : ℕ) → to ≡ last + 1 → (f k : ℕ) → k < TABLE_ENTRIES
        → IsExchanged m.pool.words t.pool.words (levels h.width) h.root first to f → IsBrought es f k
    exchanged to end f k inside (p, (low, high, ne, either)) =
        let b = brings.spans p (table_from (memory m.pool.words) (levels h.width) h.root p 1) low (omega (arith, high, end))
        (was m first last before here were p low (omega (arith, high, end))) in
        b.1 f k (λ e. ne (e ∙ there p 1)) (⊎_elim (λ w. inl w) (λ n. inr (there p 1 ∙ n)) either) inside
