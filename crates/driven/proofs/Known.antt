-- That what is kept of a map and of an unmap can be told, and is what they ask.
use Rattle.std.proofs.Common.{◌≡◌, ◌≢◌, ◌⊎◌, inl, inr, ⊎_elim, ℕ, zero, suc, ◌+◌, ◌-◌, ◌*◌, ◌/◌, ◌%◌, ◌<◌, ◌≤◌, List, [], ◌∷◌, ◌++◌, Option}
use Rattle.std.proofs.Common.{Some, None, length, Bool, true, false, refl, sym, ap, subst, ◌∙◌, arith}
use Rattle.std.specs.Prelude.{slice_get}
use Rattle.std.proofs.lemmas.Bool.{cases_lt}
use Rattle.std.proofs.lemmas.Option.{none-some, same_Some}
use Rattle.dmatypes.specs.Page.{IsPageRange, levels, pages_end, range_at}
use Rattle.dmatypes.specs.declared.call.Call.{Call}
use Rattle.dmatypes.specs.declared.call.Call.TheVariants as calls
use Rattle.dmatypes.specs.declared.page.TheConstants.{MOST_PAGES, PAGE_BYTES, SPAN_PAGES}
use Rattle.dmatypes.specs.declared.reply.Reply.{Reply}
use Rattle.dmatypes.specs.declared.reply.Reply.TheVariants.{Unmapped}
use Rattle.dmatypes.specs.declared.width.TheConstants.{PAGES_END}
use Rattle.tables.specs.declared.entries.TheConstants.{TABLE_ENTRIES}
use Rattle.tables.specs.Changes.{IsCovered}
use Rattle.tables.specs.Pool.{Pool}
use Rattle.tables.specs.Tree.{span}
use Rattle.moments.proofs.Walks.{one_span}
use Rattle.engine.specs.Domains.{Domain, domain_at}
use Rattle.engine.specs.State.{Becomes, State}
use Rattle.engine.specs.Steps.{Does}
use Rattle.engine.specs.Tickets.{KeepsTickets}
use Rattle.engine.specs.Walkable.{table_at}
use Rattle.quiet.proofs.Calls.{unmap_pages}
use Rattle.quiet.proofs.Onward.{onward}
use Rattle.quiet.specs.Quiet.{IsSound}
use Rattle.driven.specs.declared.effect.Effect.{Effect}
use Rattle.driven.specs.declared.untold.Ended.{Ended}
use Rattle.driven.specs.declared.untold.Lowest.{Lowest}
use Rattle.driven.specs.declared.untold.Lowest.TheVariants.{MayCome, Noted, Stay}
use Rattle.driven.specs.declared.untold.Mapped.{Mapped}
use Rattle.driven.specs.Driven.{AreLowest, AreNoted, IsEnded, IsMapped, TellsMap, TellsUnmap}
use Rattle.driven.specs.Effects.{AreEffects, BringsAll, IsBrought, IsQuiet, in_order, waited}
use Rattle.driven.specs.Telling.{AreLeftOut, AreTablesOf, BringsMapped, BringsUnmapped, IsLowest, IsSentBy, StayInPart, with_wait}
use Rattle.driven.proofs.Asked.{asks}
use Rattle.driven.proofs.BringsAll.{there}
use Rattle.driven.proofs.Cuts.{cuts}
use Rattle.driven.proofs.InFrames.{tables_in_frames}
use Rattle.driven.proofs.Spans.{OfPage, same_table}
use Rattle.driven.proofs.Steady.{ended_stays}
use Rattle.driven.proofs.Told.{has_sent, sends_nothing}
use Rattle.driven.proofs.Trees.{flushed_first, is_range, sends_last, stay_in_part, unmap_brings}

-- who is silent doesn't tell
pub silent : {b : Bool} → b ≡ true → b ≡ false → ⊥
silent on off = let clash : true ≡ false = sym on ∙ off in cc

-- ---- a map

module _ (m t : State) (call : Call) (reply : Reply) (tickets : KeepsTickets m) (does : Does m call reply t) (x : Mapped)
    (d first pages : ℕ) (of_domain : x.domain ≡ d) (of_first : x.first ≡ first) (of_pages : x.pages ≡ pages)
    (waits : x.waits ≡ m.iommu.sent) where
  pub map_can_tell : (1 ≤ pages) × (pages ≤ MOST_PAGES) × (first + pages ≤ PAGES_END) → IsMapped t x
  map_can_tell some = (
    omega (arith, some.0, of_pages),
    omega (arith, some.1, of_pages),
    omega (arith, some.2, of_pages, of_first),
    rw waits (has_sent m t call reply tickets does),
  )

  pub map_tells : ((b s : List Effect) → in_order m call b s ≡ b ++ s) → waited call t.iommu.sent ≡ with_wait true t.iommu.sent
      → ((es : List Effect) → IsQuiet reply es)
      → ((es : List Effect) → BringsMapped t.pool (domain_at t.domains d) first (first + pages) x.grew es → BringsAll m t es)
      → (es : List Effect) → TellsMap t x es → AreEffects m call reply t es
  map_tells order by quiet brings es told =
      asks m t call reply tickets does x.waits true told.brought told.sent es
      (brings told.brought (rw (of_domain, of_first, of_pages) at told.brings))
      (λ other. tables_in_frames told.brought told.brings.for_memory) (told.in_order ∙ sym (order told.brought told.sent))
      waits by told.sends (quiet es)

-- ---- tables as they were

tables_from : Pool → Option Domain → ℕ → ℕ → List (Option ℕ)
tables_from pool h at zero = []
tables_from pool h at (suc n) = table_at pool h (at * SPAN_PAGES) 1 ∷ tables_from pool h (suc at) n

tables_count : (pool : Pool) (h : Option Domain) (at n : ℕ) → length (tables_from pool h at n) ≡ n
unfolding tables_from
tables_count pool h at zero = refl
tables_count pool h at (suc n) = ap suc (tables_count pool h (suc at) n)

tables_each : (pool : Pool) (h : Option Domain) (at n k : ℕ) → k < n
    → slice_get (tables_from pool h at n) k ≡ Some (table_at pool h ((at + k) * SPAN_PAGES) 1)
unfolding tables_from
tables_each pool h at zero k inside = absurd (omega (arith, inside))
tables_each pool h at (suc n) zero inside =
    let same : at ≡ at + 0 = omega arith in ap (λ a. Some (table_at pool h (a * SPAN_PAGES) 1)) same
tables_each pool h at (suc n) (suc k) inside =
    let same : suc at + k ≡ at + suc k = omega arith in
    tables_each pool h (suc at) n k (omega (arith, inside)) ∙ ap (λ a. Some (table_at pool h (a * SPAN_PAGES) 1)) same

-- there is such a list
were_tables : (pool : Pool) (h : Option Domain) (first last : ℕ) → (before : List (Option ℕ)) × AreTablesOf pool h first last before
were_tables pool h first last =
    let n : ℕ = last / SPAN_PAGES + 1 - first / SPAN_PAGES in (
      tables_from pool h (first / SPAN_PAGES) n,
      record {
        count = tables_count pool h (first / SPAN_PAGES) n;
        each = λ k inside. tables_each pool h (first / SPAN_PAGES) n k (omega (arith, inside, tables_count pool h (first / SPAN_PAGES) n));
      },
    )

-- ---- where none is taken for one that was there

module _ (pool : Pool) (h : Option Domain) (first last : ℕ) (before tables : List (Option ℕ)) (some : first ≤ last)
    (stay : StayInPart pool h first last before) (narrow : (p : ℕ) → IsCovered first (last + 1) p → ⊥)
    (out : AreLeftOut first last tables) where
  none_at : (p : ℕ) → first ≤ p → p ≤ last → slice_get tables (p / SPAN_PAGES - first / SPAN_PAGES) ≡ Some None
  none_at p low high = out.1 (p / SPAN_PAGES - first / SPAN_PAGES) (omega (arith, out.0, low, high))

  -- what is told of a page's table is enough, whatever it was
  page : (es : List Effect) (p : ℕ) (was : Option ℕ) → first ≤ p → p ≤ last
      → slice_get before (p / SPAN_PAGES - first / SPAN_PAGES) ≡ Some was → OfPage pool h None es p → OfPage pool h was es p
  page es p was low high at told = (
    (λ f had is. whole f (p % TABLE_ENTRIES) is (omega arith)),
    (λ f k differs which inside. elim which [
      | inl had ↦ absurd (differs (had ∙ sym (stay p f low high (narrow p) (at ∙ ap (λ o. Some o) had))))
      | inr is ↦ whole f k is inside
    ]),
  )
    where
      whole : (f k : ℕ) → table_at pool h p 1 ≡ Some f → k < TABLE_ENTRIES → IsBrought es f k
      whole f k is inside = told.1 f k (λ none. none-some f (none ∙ is)) (inr is) inside

  -- a table that such a span has now is there, whatever it was before
  still : (f : ℕ) → (p : ℕ) × IsLowest pool h first last tables p f → (p : ℕ) × IsLowest pool h first last before p f
  still f (p, (low, high, which)) = (
    p,
    (
      low,
      high,
      elim which [
        | inl had ↦ absurd (none-some f (same_Some None (Some f) (sym (none_at p low high) ∙ had)))
        | inr is ↦ inr is
      ],
    ),
  )

  pub left_out : (es : List Effect) → BringsUnmapped pool h first last tables es → BringsUnmapped pool h first last before es
  left_out es b = record {
    lowest = b.lowest;
    rest = b.rest;
    parted = b.parted;
    ends = b.ends;
    for_memory = b.for_memory;
    only = λ f k inside told.
        elim (b.only f k inside told) [
          | inl lowest ↦ inl (still f lowest)
          | inr above ↦ inr above
        ];
    brings_lowest = record {
      for_memory = b.brings_lowest.for_memory;
      only = λ f k inside told. still f (b.brings_lowest.only f k inside told);
      spans = λ p was low high at.
          page b.lowest p was low high at (b.brings_lowest.spans p None low high (none_at p low high));
    };
    upper = elim b.upper [
      | inl all ↦
          let (f, (had, has)) = all first (omega arith) some in
          absurd (none-some f (same_Some None (Some f) (sym (none_at first (omega arith) some) ∙ had)))
      | inr above ↦ inr above
    ];
    spans = λ p was low high at. page es p was low high at (b.spans p None low high (none_at p low high));
  }

-- ---- what is known

none_or_some : (n : ℕ) → (n ≡ 0) ⊎ (0 < n)
none_or_some zero = inl refl
none_or_some (suc n) = inr (omega arith)

module _ (m t : State) (d address pages released : ℕ) (sound : IsSound m)
    (does : Does m (calls.Unmap d address pages) (Unmapped released) t) where
  abbrev Range : Type 0
  Range = (1 ≤ pages) × (pages ≤ MOST_PAGES)

  pub good : Range
  good =
      ⊎_elim (λ (none : pages < 1). absurd (is_range m t d address pages released sound does (λ r. omega (arith, none, r.some))))
      (λ (some : 1 ≤ pages). ⊎_elim
      (λ (many : MOST_PAGES < pages). absurd (is_range m t d address pages released sound does (λ r. omega (arith, many, r.few))))
      (λ (few : pages ≤ MOST_PAGES). (some, few)) (cases_lt MOST_PAGES pages)) (cases_lt pages 1)

  stays_by : Becomes m (calls.Unmap d address pages) (Unmapped released) t → released ≡ 0 → pages < SPAN_PAGES
      → length t.pool.free ≡ length m.pool.free → (p : ℕ) → address / PAGE_BYTES ≤ p → p < address / PAGE_BYTES + pages
      → table_at t.pool (domain_at t.domains d) p 1 ≡ table_at m.pool (domain_at m.domains d) p 1
  unfolding Becomes
  stays_by (h, new, here, ends, is) none few count p low high =
      let o = onward m t d h sound here (calls.Unmap d address pages) (Unmapped released) does does.becomes (λ is done. cc) in
      let c = cuts m t sound d h here (range_at address pages) (unmap_pages m t d address pages released h sound here does) released new
      h.mode ends in
      let small : p < pages_end h.width = omega (arith, high, c.below) in
      let near : p / span (levels h.width) ≡ address / PAGE_BYTES / span (levels h.width) =
      one_span h.width p small ∙ sym (one_span h.width (address / PAGE_BYTES) (omega (arith, low, small))) in
      there t d h o.0 o.1 o.2.root o.2.width p 1
      ∙ ended_stays m t sound d h here count (range_at address pages) (λ q covered. omega (arith, covered, few)) released new h.mode none
      ends p near
      ∙ sym (ap (λ o. table_at m.pool o p 1) here)

  module _ (last : ℕ) (end : address / PAGE_BYTES + pages ≡ last + 1) where
    -- the tables that are there now are those of before
    same_tables : released ≡ 0 → pages < SPAN_PAGES → length t.pool.free ≡ length m.pool.free → (tables : List (Option ℕ))
        → AreTablesOf t.pool (domain_at t.domains d) (address / PAGE_BYTES) last tables
        → AreTablesOf m.pool (domain_at m.domains d) (address / PAGE_BYTES) last tables
    same_tables none few count tables are = record {
      count = are.count;
      each = λ k inside. are.each k inside ∙ ap (λ o. Some o) (at k (omega (arith, inside, are.count, good, end)));
    }
      where
        by_page : (q p : ℕ) → q / SPAN_PAGES ≡ p / SPAN_PAGES → address / PAGE_BYTES ≤ p → p ≤ last
            → table_at t.pool (domain_at t.domains d) q 1 ≡ table_at m.pool (domain_at m.domains d) q 1
        by_page q p same low high =
            same_table t.pool (domain_at t.domains d) q p same
            ∙ stays_by does.becomes none few count p low (omega (arith, high, end))
            ∙ same_table m.pool (domain_at m.domains d) p q (sym same)

        at : (k : ℕ) → address / PAGE_BYTES / SPAN_PAGES + k ≤ last / SPAN_PAGES
            → table_at t.pool (domain_at t.domains d) ((address / PAGE_BYTES / SPAN_PAGES + k) * SPAN_PAGES) 1
            ≡ table_at m.pool (domain_at m.domains d) ((address / PAGE_BYTES / SPAN_PAGES + k) * SPAN_PAGES) 1
        at k inside =
            ⊎_elim
            (λ (early : (address / PAGE_BYTES / SPAN_PAGES + k) * SPAN_PAGES < address / PAGE_BYTES).
            by_page ((address / PAGE_BYTES / SPAN_PAGES + k) * SPAN_PAGES) (address / PAGE_BYTES) (omega (arith, early)) (omega arith)
            (omega (arith, end, good)))
            (λ (late : address / PAGE_BYTES ≤ (address / PAGE_BYTES / SPAN_PAGES + k) * SPAN_PAGES).
            by_page ((address / PAGE_BYTES / SPAN_PAGES + k) * SPAN_PAGES) ((address / PAGE_BYTES / SPAN_PAGES + k) * SPAN_PAGES) refl late
            (omega (arith, inside)))
            (cases_lt ((address / PAGE_BYTES / SPAN_PAGES + k) * SPAN_PAGES) (address / PAGE_BYTES))

    -- what is known of them before the unmap
    abbrev pub IsKnown : Lowest → List (Option ℕ) → Type 0
    IsKnown Noted noted = AreTablesOf m.pool (domain_at m.domains d) (address / PAGE_BYTES) last noted
    IsKnown Stay noted = (released ≡ 0) × (pages < SPAN_PAGES) × (length t.pool.free ≡ length m.pool.free)
    IsKnown MayCome noted = pages < SPAN_PAGES

    pub known_by : (l : Lowest) (noted : List (Option ℕ)) → (l ≡ Noted → SPAN_PAGES ≤ pages)
        → (l ≡ Stay → (released ≡ 0) × (length t.pool.free ≡ length m.pool.free)) → (l ≢ Noted → pages < SPAN_PAGES)
        → (SPAN_PAGES ≤ pages → (IsPageRange (range_at address pages) → ⊥)
        ⊎ AreTablesOf m.pool (domain_at m.domains d) (address / PAGE_BYTES) last noted) → IsKnown l noted
    known_by Noted noted wide stay narrow tables =
        elim (tables (wide refl)) [ inl bad ↦ absurd (is_range m t d address pages released sound does bad) | inr were ↦ were ]
    known_by Stay noted wide stay narrow tables = ((stay refl).0, narrow (λ (clash : Stay ≡ Noted). cc), (stay refl).1)
    known_by MayCome noted wide stay narrow tables = narrow (λ (clash : MayCome ≡ Noted). cc)

    module _ (tickets : KeepsTickets m) (x : Ended) (of_domain : x.domain ≡ d) (of_first : x.first ≡ address / PAGE_BYTES)
        (of_last : x.last ≡ last) (waits : x.waits ≡ m.iommu.sent) (of_released : x.released ≡ released) (noted : List (Option ℕ))
        (known : IsKnown x.lowest noted) where
      -- what is kept of an unmap can be told
      pub unmap_can_tell : IsEnded t x noted
      unmap_can_tell = (
        omega (arith, end, good, of_first, of_last),
        omega (arith, end, good, of_first, of_last),
        rw waits (has_sent m t (calls.Unmap d address pages) (Unmapped released) tickets does),
        by x.lowest known,
      )
        where
          by : (l : Lowest) → IsKnown l noted → AreNoted t x noted l
          by Noted were =
              rw (of_domain, of_first, of_last) (were.count, stay_in_part m t d address pages released sound does last end noted were)
          by Stay known' = tt
          by MayCome known' = tt

      -- and is what it asks
      pub unmap_tells : (es : List Effect) → TellsUnmap t x noted es → AreEffects m (calls.Unmap d address pages) (Unmapped released) t es
      unmap_tells es told =
          let (before, (were, brings)) = by x.lowest known told.lowest in
          asks m t (calls.Unmap d address pages) (Unmapped released) tickets does x.waits true told.brought told.sent es
          (unmap_brings m t d address pages released sound does last end before were told.brought brings)
          (λ other. tables_in_frames told.brought told.brings.for_memory)
          (elim (none_or_some released) [
            | inl none ↦ told.in_order (of_released ∙ none)
                ∙ sym (sends_last m t d address pages released sound does none told.brought told.sent
                (λ same. sends_nothing m t (calls.Unmap d address pages) (Unmapped released) tickets does told.sent true same
                (subst (λ n. IsSentBy t n true told.sent) waits told.sends)))
            | inr some ↦ told.flushed (rw of_released some)
                ∙ sym (flushed_first m t d address pages released sound does some told.brought told.sent)
          ]) waits refl told.sends tt
        where
          there_told : BringsUnmapped t.pool (domain_at t.domains d) (address / PAGE_BYTES) last told.tables told.brought
          there_told = rw (of_domain, of_first, of_last) at told.brings

          Before : Type 0
          Before =
              (before : List (Option ℕ)) × (AreTablesOf m.pool (domain_at m.domains d) (address / PAGE_BYTES) last before
              × BringsUnmapped t.pool (domain_at t.domains d) (address / PAGE_BYTES) last before told.brought)

          by : (l : Lowest) → IsKnown l noted → AreLowest t x noted l told.tables → Before
          by Noted were same =
              (told.tables, (subst (AreTablesOf m.pool (domain_at m.domains d) (address / PAGE_BYTES) last) (sym same) were, there_told))
          by Stay (none, few, count) are =
              (told.tables, (same_tables none few count told.tables (rw (of_domain, of_first, of_last) at are), there_told))
          by MayCome few out =
              let (before, were) = were_tables m.pool (domain_at m.domains d) (address / PAGE_BYTES) last in (
                before,
                (
                  were,
                  left_out t.pool (domain_at t.domains d) (address / PAGE_BYTES) last before told.tables (omega (arith, end, good))
                      (stay_in_part m t d address pages released sound does last end before were)
                      (λ p covered. omega (arith, covered, few, end)) (rw (of_first, of_last) at out) told.brought there_told,
                ),
              )
