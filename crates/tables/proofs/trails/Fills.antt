-- A map fills in words: what one write owes, and two calls after each other.
use Rattle.std.proofs.Common.{◌≡◌, ◌⊎◌, inl, inr, ℕ, ◌+◌, ◌-◌, ◌*◌, ◌/◌, ◌%◌, ◌<◌, ◌≤◌, [], ◌∷◌, ◌++◌, ap, ◌∙◌, ⊎_elim, refl, sym, arith}
use Rattle.std.proofs.lemmas.Bool.{cases_eq, cases_lt}
use Rattle.dmatypes.specs.declared.page.TheConstants.{SPAN_PAGES}
use Rattle.vtdbits.specs.declared.entry.SsEntry.{SsEntry}
use Rattle.tables.specs.declared.entries.TheConstants.{TABLE_ENTRIES}
use Rattle.tables.specs.Extents.{WritesEntries}
use Rattle.tables.specs.Pool.{IsWrite, Moment, Pool, moment_of, occurs, word}
use Rattle.tables.specs.Trail.{FillsIn, FillsInOrder, Rests}
use Rattle.tables.proofs.trails.Through.{no_step, one_step, steps_after}

rests_first : (l m n : Moment) → Rests l m → FillsIn m n → FillsIn l n
rests_first l m n rest fills = record {
  fewer = λ f. omega (arith, rest.1 f, fills.fewer f);
  words = λ f k k_in.
      let same : word m.words f k ≡ word l.words f k = ap (λ ws. word ws f k) rest.0 in
      ⊎_elim (λ (e : word n.words f k ≡ word m.words f k). inl (e ∙ same))
      (λ (blank : word m.words f k ≡ 0). inr (sym same ∙ blank)) (fills.words f k k_in);
}

-- nothing is written
pub no_fill : (pool : Pool) → FillsInOrder pool pool
no_fill pool = no_step FillsIn pool pool refl (refl, λ f. omega arith)

-- one call after another
pub fills_after : (old between new : Pool) → FillsInOrder old between → FillsInOrder between new → FillsInOrder old new
fills_after = steps_after FillsIn rests_first

-- a word that was 0 is written
pub fills_word : (old new : Pool) (t i value : ℕ) → new.trail ≡ old.trail ++ moment_of new ∷ []
    → ((f : ℕ) → occurs f new.free ≤ occurs f old.free) → IsWrite old.words new.words t i value → word old.words t i ≡ 0
    → FillsInOrder old new
fills_word old new t i value trail fewer write blank = one_step FillsIn old new trail (record {
  fewer = fewer;
  words = λ f k k_in.
      ⊎_elim
      (λ (e : f ≡ t). ⊎_elim
      (λ (at : k ≡ i). inr (ap (λ x. word old.words x k) e ∙ ap (word old.words t) at ∙ blank))
      (λ (ne : k ≡ i → ⊥). inl (write.1 f k k_in (λ _ at. ne at)))
      (cases_eq k i))
      (λ (ne : f ≡ t → ⊥). inl (write.1 f k k_in (λ e _. ne e)))
      (cases_eq f t);
})

-- entries of a table of level 1 are written whose words were 0
pub fills_run : (old new : Pool) (t from to : ℕ) (entry : ℕ → SsEntry) → new.trail ≡ old.trail ++ moment_of new ∷ []
    → new.free ≡ old.free → WritesEntries old.words new.words t from to entry → from / SPAN_PAGES ≡ (to - 1) / SPAN_PAGES
    → ((p : ℕ) → from ≤ p → p < to → word old.words t (p % SPAN_PAGES) ≡ 0) → FillsInOrder old new
fills_run old new t from to entry trail free run one blank = one_step FillsIn old new trail (record {
  fewer = λ f. omega (arith, ap (occurs f) free);
  words = λ f k k_in.
      ⊎_elim
      (λ (e : f ≡ t). by_page f k k_in e (SPAN_PAGES * (from / SPAN_PAGES) + k) (omega arith) (omega arith))
      (λ (ne : f ≡ t → ⊥). inl (run.rest f k k_in (λ e p _ _ _. ne e)))
      (cases_eq f t);
})
  where
    kept : (f k p : ℕ) → k < TABLE_ENTRIES → p % SPAN_PAGES ≡ k → p / SPAN_PAGES ≡ from / SPAN_PAGES → (from ≤ p → p < to → ⊥)
        → word new.words f k ≡ word old.words f k
    kept f k p k_in at near out = run.rest f k k_in (λ _ q low high e. out (omega arith) (omega arith))

    -- by the page of the index in the span of the run
    by_page : (f k : ℕ) → k < TABLE_ENTRIES → f ≡ t → (p : ℕ) → p % SPAN_PAGES ≡ k → p / SPAN_PAGES ≡ from / SPAN_PAGES
        → (word new.words f k ≡ word old.words f k) ⊎ (word old.words f k ≡ 0)
    by_page f k k_in e p at near =
        ⊎_elim (λ (before : p < from). inl (kept f k p k_in at near (λ low high. absurd (omega arith))))
        (λ (after : from ≤ p).
        ⊎_elim
        (λ (among : p < to). inr (ap (λ x. word old.words x k) e ∙ ap (word old.words t) (sym at) ∙ blank p after among))
        (λ (behind : to ≤ p). inl (kept f k p k_in at near (λ low high. absurd (omega arith))))
        (cases_lt p to))
        (cases_lt p from)
