-- What became of the tables of level 1 on the ways of pages, span by span.
use Rattle.std.proofs.Common.{◌≡◌, ◌≢◌, ◌⊎◌, inl, inr, ⊎_elim, ℕ, ◌+◌, ◌-◌, ◌*◌, ◌/◌, ◌%◌, ◌<◌, ◌≤◌, List, [], ◌++◌, Option, Some, None}
use Rattle.std.proofs.Common.{refl, sym, ap, ◌∙◌, arith}
use Rattle.std.specs.Prelude.{slice_get}
use Rattle.std.proofs.lemmas.Bool.{cases_lt}
use Rattle.std.proofs.lemmas.Option.{none-some, same_Some}
use Rattle.dmatypes.specs.declared.page.TheConstants.{SPAN_PAGES}
use Rattle.tables.specs.declared.entries.TheConstants.{TABLE_ENTRIES}
use Rattle.tables.specs.Pool.{Pool}
use Rattle.tables.specs.Tree.{span}
use Rattle.tables.proofs.walks.Steps.{div_span_one}
use Rattle.engine.specs.Domains.{Domain}
use Rattle.engine.specs.Walkable.{table_at}
use Rattle.driven.specs.declared.effect.Effect.{Effect}
use Rattle.driven.specs.Effects.{IsBrought}
use Rattle.driven.specs.Telling.{AreTablesOf, BringsTable, IsLowest, StayInPart}
use Rattle.driven.proofs.Brought.{brought_either, brought_left, brought_right, none_brought}
use Rattle.driven.proofs.Levels.{near_at_level}

-- of a page whose table was this one
abbrev pub OfPage : Pool → Option Domain → Option ℕ → List Effect → ℕ → Type 0
OfPage pool h was effects p =
    ((f : ℕ) → was ≡ Some f → table_at pool h p 1 ≡ Some f → IsBrought effects f (p % TABLE_ENTRIES))
    × ((f k : ℕ) → was ≢ table_at pool h p 1 → (was ≡ Some f) ⊎ (table_at pool h p 1 ≡ Some f) → k < TABLE_ENTRIES
    → IsBrought effects f k)

-- what became of the tables of spans below this one is told
abbrev pub Told : Pool → Option Domain → ℕ → ℕ → List (Option ℕ) → List Effect → ℕ → Type 0
Told pool h first last before effects span =
    (p : ℕ) (was : Option ℕ) → first ≤ p → p ≤ last → p / SPAN_PAGES < span
    → slice_get before (p / SPAN_PAGES - first / SPAN_PAGES) ≡ Some was → OfPage pool h was effects p

-- each page of spans below this one had a table, and has it still
abbrev pub Stay : Pool → Option Domain → ℕ → ℕ → List (Option ℕ) → ℕ → Type 0
Stay pool h first last before span =
    (p : ℕ) → first ≤ p → p ≤ last → p / SPAN_PAGES < span
    → (f : ℕ) × ((slice_get before (p / SPAN_PAGES - first / SPAN_PAGES) ≡ Some (Some f)) × (table_at pool h p 1 ≡ Some f))

-- what is told is of the lowest tables of such spans alone
abbrev pub Lowest : Pool → Option Domain → ℕ → ℕ → List (Option ℕ) → List Effect → Type 0
Lowest pool h first last before effects =
    (f k : ℕ) → k < TABLE_ENTRIES → IsBrought effects f k → (p : ℕ) × IsLowest pool h first last before p f

-- pages of one span have one table, or none
pub same_table : (pool : Pool) (h : Option Domain) (p q : ℕ) → p / SPAN_PAGES ≡ q / SPAN_PAGES → table_at pool h p 1 ≡ table_at pool h q 1
same_table pool h p q same = by_tables (table_at pool h p 1) (table_at pool h q 1) refl refl
  where
    near : p / span 1 ≡ q / span 1
    near = div_span_one p ∙ same ∙ sym (div_span_one q)

    by_tables : (a b : Option ℕ) → table_at pool h p 1 ≡ a → table_at pool h q 1 ≡ b → a ≡ b
    by_tables None None at there = refl
    by_tables None (Some c) at there = absurd (none-some c (sym at ∙ near_at_level pool h q p 1 c (sym near) there))
    by_tables (Some c) b at there = sym (near_at_level pool h p q 1 c near at) ∙ there

-- tables that are there now stay
pub stays_now : (pool : Pool) (h : Option Domain) (first last : ℕ) (tables : List (Option ℕ)) → AreTablesOf pool h first last tables
    → StayInPart pool h first last tables
stays_now pool h first last tables are p f low high partly at =
    let k : ℕ = p / SPAN_PAGES - first / SPAN_PAGES in
    let same : (first / SPAN_PAGES + k) * SPAN_PAGES / SPAN_PAGES ≡ p / SPAN_PAGES = omega (arith, low) in
    sym (same_table pool h ((first / SPAN_PAGES + k) * SPAN_PAGES) p same)
    ∙ same_Some (table_at pool h ((first / SPAN_PAGES + k) * SPAN_PAGES) 1) (Some f)
    (sym (are.each k (omega (arith, low, high, are.count))) ∙ at)

module _ (pool : Pool) (h : Option Domain) (first last : ℕ) (before : List (Option ℕ)) where
  pub told_none : Told pool h first last before [] (first / SPAN_PAGES)
  told_none p was low high less at = absurd (omega (arith, low, less))

  -- one span more
  pub told_more : (more : List Effect) (number from to : ℕ) (was now : Option ℕ) (next : List Effect)
      → Told pool h first last before more number → first / SPAN_PAGES ≤ number
      → slice_get before (number - first / SPAN_PAGES) ≡ Some was → now ≡ table_at pool h (number * SPAN_PAGES) 1
      → ((p : ℕ) → first ≤ p → p / SPAN_PAGES ≡ number → from ≤ p) → ((p : ℕ) → p ≤ last → p / SPAN_PAGES ≡ number → p ≤ to)
      → BringsTable was now from to next → Told pool h first last before (more ++ next) (number + 1)
  told_more more number from to was now next told begun stood is low high brings p was' a b less at =
      ⊎_elim
      (λ (earlier : p / SPAN_PAGES < number).
      let t = told p was' a b earlier at in (
        (λ f w n. brought_left more next f (p % TABLE_ENTRIES) (t.0 f w n)),
        (λ f k ne w inside. brought_left more next f k (t.1 f k ne w inside)),
      ))
      (λ (not : number ≤ p / SPAN_PAGES).
      let here : p / SPAN_PAGES ≡ number = omega (arith, not, less) in
      let one : was ≡ was' =
      same_Some was was' (sym stood ∙ ap (λ n. slice_get before (n - first / SPAN_PAGES)) (sym here) ∙ at) in
      let table : table_at pool h p 1 ≡ now =
      same_table pool h p (number * SPAN_PAGES) (omega (arith, here)) ∙ sym is in (
        (λ f w n. brought_right more next f (p % TABLE_ENTRIES)
            (brings.stays f p (one ∙ w) (sym table ∙ n) (low p a here) (high p b here))),
        (λ f k ne w inside. brought_right more next f k
            (brings.changes f k (λ e. ne (sym one ∙ e ∙ sym table))
            (⊎_elim (λ x. inl (one ∙ x)) (λ y. inr (sym table ∙ y)) w) inside)),
      ))
      (cases_lt (p / SPAN_PAGES) number)

  pub stay_none : Stay pool h first last before (first / SPAN_PAGES)
  stay_none p low high less = absurd (omega (arith, low, less))

  pub stay_more : (number f : ℕ) (was now : Option ℕ) → Stay pool h first last before number
      → slice_get before (number - first / SPAN_PAGES) ≡ Some was → now ≡ table_at pool h (number * SPAN_PAGES) 1 → was ≡ Some f
      → now ≡ Some f → Stay pool h first last before (number + 1)
  stay_more number f was now stay stood is had has p a b less =
      ⊎_elim (λ (earlier : p / SPAN_PAGES < number). stay p a b earlier)
      (λ (not : number ≤ p / SPAN_PAGES).
      let here : p / SPAN_PAGES ≡ number = omega (arith, not, less) in (
        f,
        (
          ap (λ n. slice_get before (n - first / SPAN_PAGES)) here ∙ stood ∙ ap (λ o. Some o) had,
          same_table pool h p (number * SPAN_PAGES) (omega (arith, here)) ∙ sym is ∙ has,
        ),
      ))
      (cases_lt (p / SPAN_PAGES) number)

  pub lowest_none : Lowest pool h first last before []
  lowest_none f k inside there = absurd (none_brought f k there)

  pub lowest_more : (more : List Effect) (number from to : ℕ) (was now : Option ℕ) (next : List Effect) → Lowest pool h first last before
      more
      → slice_get before (number - first / SPAN_PAGES) ≡ Some was → now ≡ table_at pool h (number * SPAN_PAGES) 1
      → from / SPAN_PAGES ≡ number → first ≤ from → from ≤ last → BringsTable was now from to next
      → Lowest pool h first last before (more ++ next)
  lowest_more more number from to was now next told stood is here low high brings f k inside there =
      elim (brought_either more next f k there) [
        | inl earlier ↦ told f k inside earlier
        | inr new ↦ (
          from,
          (
            low,
            high,
            elim (brings.only f k inside new) [
              | inl w ↦ inl (ap (λ n. slice_get before (n - first / SPAN_PAGES)) here ∙ stood ∙ ap (λ o. Some o) w)
              | inr n ↦ inr (same_table pool h from (number * SPAN_PAGES) (omega (arith, here)) ∙ sym is ∙ n)
            ],
          ),
        )
      ]
