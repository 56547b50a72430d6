-- The words of a level on the ways of pages, table by table.
use Rattle.std.proofs.Common.{◌≡◌, ℕ, suc, ◌+◌, ◌-◌, ◌*◌, ◌/◌, ◌%◌, ◌<◌, ◌≤◌, inl, inr, ⊎_elim, List, [], ◌∷◌, ◌++◌, Option, Some, None}
use Rattle.std.proofs.Common.{refl, sym, ap, subst, ◌∙◌, arith}
use Rattle.std.proofs.Math.Nat.{div-mul-le_self, mul-div_cancel, mul-le-mul_right}
use Rattle.std.proofs.lemmas.Bool.{cases_lt}
use Rattle.std.proofs.lemmas.Option.{none-some, same_Some}
use Rattle.dmatypes.specs.Page.{levels}
use Rattle.tables.specs.declared.entries.TheConstants.{TABLE_ENTRIES}
use Rattle.tables.specs.Pool.{Pool, memory}
use Rattle.tables.specs.Tree.{index_in, span}
use Rattle.tables.proofs.sums.OverSpans.{div_mono}
use Rattle.tables.proofs.walks.Near.{near_table, span_pos}
use Rattle.tables.proofs.walks.Steps.{div_span-suc, span-zero}
use Rattle.engine.specs.Domains.{Domain}
use Rattle.engine.specs.Walkable.{table_at}
use Rattle.driven.specs.declared.effect.Effect.{Effect}
use Rattle.driven.specs.Effects.{IsBrought}
use Rattle.driven.specs.Telling.{BringsPart, IsTableOnWays, most_tables}
use Rattle.driven.proofs.Brought.{brought_by, brought_either, brought_left, brought_one, brought_right, none_brought}

-- the number of the table of a level in which a page's word lies
pub table_number : (level p : ℕ) → 1 ≤ level → p / span level ≡ p / span (level - 1) / TABLE_ENTRIES
table_number level p some =
    subst (λ n. p / span n ≡ p / span (level - 1) / TABLE_ENTRIES) (let e : suc (level - 1) ≡ level = omega (arith, some) in e)
    (div_span-suc (level - 1) p)

-- pages of one span have one table
pub near_at_level : (pool : Pool) (h : Option Domain) (p q level f : ℕ) → p / span level ≡ q / span level → table_at pool h p level ≡ Some f
    → table_at pool h q level ≡ Some f
near_at_level pool None p q level f same at = absurd (none-some f at)
near_at_level pool (Some h) p q level f same at = near_table (memory pool.words) (levels h.width) h.root p q level f same at

module _ (pool : Pool) (h : Option Domain) (level first last width : ℕ) (some : 1 ≤ level) (is_width : width ≡ span (level - 1)) where
  wide : 0 < width
  wide = subst (λ n. 0 < n) (sym is_width) (span_pos (level - 1))

  -- the words in the tables of numbers below this one are told
  abbrev pub Told : List Effect → ℕ → Type 0
  Told more table =
      (p f : ℕ) → first ≤ p → p ≤ last → p / width / TABLE_ENTRIES < table → table_at pool h p level ≡ Some f
      → IsBrought more f (index_in (level - 1) p)

  number : (p : ℕ) → p / span level ≡ p / width / TABLE_ENTRIES
  number p = table_number level p some ∙ ap (λ n. p / n / TABLE_ENTRIES) (sym is_width)

  -- no page's word lies in a table before the first page's
  pub told_none : Told [] (first / width / TABLE_ENTRIES)
  told_none p f low high before at =
      let more : first / width ≤ p / width = div_mono first p width wide low in
      absurd (omega (arith, before, div_mono (first / width) (p / width) TABLE_ENTRIES (omega arith) more))

  -- one table more
  module _ (more : List Effect) (table from to : ℕ) (told : Told more table)
      (begins : from ≤ to) (inside : from / TABLE_ENTRIES ≡ table)
      (low : (e : ℕ) → first / width ≤ e → e / TABLE_ENTRIES ≡ table → from ≤ e)
      (high : (e : ℕ) → e ≤ last / width → e / TABLE_ENTRIES ≡ table → e ≤ to) where
    -- the page by which the table is looked up
    looked : (p : ℕ) → p / width / TABLE_ENTRIES ≡ table → (from * width) / span level ≡ p / span level
    looked p here =
        number (from * width) ∙ ap (λ n. n / TABLE_ENTRIES) (mul-div_cancel from wide) ∙ inside ∙ sym here ∙ sym (number p)

    pub told_part : (frame : ℕ) (e : Effect) → table_at pool h (from * width) level ≡ Some frame → BringsPart frame from to e
        → Told (more ++ e ∷ []) (table + 1)
    told_part frame e there part p f a b less at =
        ⊎_elim
        (λ (before : p / width / TABLE_ENTRIES < table). brought_left more (e ∷ []) f (index_in (level - 1) p) (told p f a b before at))
        (λ (not : table ≤ p / width / TABLE_ENTRIES).
        let here : p / width / TABLE_ENTRIES ≡ table = omega (arith, not, less) in
        let own : frame ≡ f =
        same_Some frame f (sym (near_at_level pool h (from * width) p level frame (looked p here) there) ∙ at) in
        let n : ℕ = p / width in
        let from_here : from ≤ n = low n (div_mono first p width wide a) here in
        let to_here : n ≤ to = high n (div_mono p last width wide b) here in
        brought_right more (e ∷ []) f (index_in (level - 1) p)
        (subst (λ k. IsBrought (e ∷ []) f k) (ap (λ w. p / w % TABLE_ENTRIES) is_width)
        (subst (λ g. IsBrought (e ∷ []) g (n % TABLE_ENTRIES)) own
        (brought_one e frame (n % TABLE_ENTRIES) (part.1 n from_here to_here)))))
        (cases_lt (p / width / TABLE_ENTRIES) table)

    pub told_nothing : table_at pool h (from * width) level ≡ None → Told more (table + 1)
    told_nothing none p f a b less at =
        ⊎_elim (λ (before : p / width / TABLE_ENTRIES < table). told p f a b before at)
        (λ (not : table ≤ p / width / TABLE_ENTRIES).
        let here : p / width / TABLE_ENTRIES ≡ table = omega (arith, not, less) in
        absurd (none-some f (sym none ∙ near_at_level pool h p (from * width) level f (sym (looked p here)) at)))
        (cases_lt (p / width / TABLE_ENTRIES) table)

  -- what is told is of the tables on these ways alone
  abbrev pub Only : List Effect → Type 0
  Only more = (f k : ℕ) → k < TABLE_ENTRIES → IsBrought more f k → IsTableOnWays pool h level first (last + 1) f

  pub only_none : Only []
  only_none f k inside there = absurd (none_brought f k there)

  -- one of the pages has its word where the entry of this number is
  page_of : (from : ℕ) → first ≤ last → first / width ≤ from → from ≤ last / width
      → (p : ℕ) × ((first ≤ p) × (p < last + 1) × (p / width ≡ from))
  page_of from some low high =
      elim (cases_lt (from * width) first) [
        | inl early ↦
            let more : from ≤ first / width =
            subst (λ n. n ≤ first / width) (mul-div_cancel from wide)
            (div_mono (from * width) first width wide (omega (arith, early))) in
            (first, (omega arith, omega (arith, some), omega (arith, low, more)))
        | inr late ↦
            let few : from * width ≤ last / width * width = mul-le-mul_right width high in
            (from * width, (late, omega (arith, few, div-mul-le_self last width), mul-div_cancel from wide))
      ]

  pub only_part : (more : List Effect) (from to frame : ℕ) (e : Effect) → Only more → first ≤ last → first / width ≤ from
      → from ≤ last / width → table_at pool h (from * width) level ≡ Some frame → BringsPart frame from to e → Only (more ++ e ∷ [])
  only_part more from to frame e told some low high there part f k inside brings =
      elim (brought_either more (e ∷ []) f k brings) [
        | inl earlier ↦ told f k inside earlier
        | inr new ↦
            let (p, (from_here, to_here, here)) = page_of from some low high in
            let same : (from * width) / span level ≡ p / span level =
            number (from * width) ∙ ap (λ n. n / TABLE_ENTRIES) (mul-div_cancel from wide ∙ sym here) ∙ sym (number p) in
            let own : frame ≡ f = part.2 f k inside (brought_by e f k new) in
            (p, (from_here, to_here, near_at_level pool h (from * width) p level f same (there ∙ ap (λ n. Some n) own)))
      ]

-- ---- how many tables

unfolding_span : (span 1 ≡ 512) × (span 2 ≡ 262144) × (span 3 ≡ 134217728)
unfolding span
unfolding_span = (refl, refl, refl)

-- the words of a level above the lowest, of at most 4,096 pages, lie in two tables at most
pub two_tables : (level first last : ℕ) → 2 ≤ level → level ≤ 4 → last < first + 4096 → most_tables level first last ≤ 2
two_tables level first last low high near =
    let s = unfolding_span in
    ⊎_elim
    (λ (two : level < 3).
    let e : level - 1 ≡ 1 = omega (arith, low, two) in
    subst (λ n. last / n / TABLE_ENTRIES + 1 - first / n / TABLE_ENTRIES ≤ 2) (sym (ap span e ∙ s.0)) (omega (arith, near)))
    (λ (more : 3 ≤ level). ⊎_elim
    (λ (three : level < 4).
    let e : level - 1 ≡ 2 = omega (arith, more, three) in
    subst (λ n. last / n / TABLE_ENTRIES + 1 - first / n / TABLE_ENTRIES ≤ 2) (sym (ap span e ∙ s.1)) (omega (arith, near)))
    (λ (four : 4 ≤ level).
    let e : level - 1 ≡ 3 = omega (arith, high, four) in
    subst (λ n. last / n / TABLE_ENTRIES + 1 - first / n / TABLE_ENTRIES ≤ 2) (sym (ap span e ∙ s.2)) (omega (arith, near)))
    (cases_lt level 4))
    (cases_lt level 3)

-- so do those of the lowest level in nine
pub nine_tables : (first last : ℕ) → last < first + 4096 → most_tables 1 first last ≤ 9
nine_tables first last near =
    subst (λ n. last / n / TABLE_ENTRIES + 1 - first / n / TABLE_ENTRIES ≤ 9) (sym span-zero) (omega (arith, near))
