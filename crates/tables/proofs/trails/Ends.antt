-- A tree ends by steps, and so does what lies under an entry: nothing is written, and two calls after each other.
use Rattle.std.proofs.Common.{◌≡◌, inl, inr, ℕ, Some, refl, ap, sym, subst, ◌∙◌, ⊎_elim, arith}
use Rattle.tables.specs.Pool.{Moment, Pool, memory, word}
use Rattle.tables.specs.Trail.{EndsInOrder, EndsOn, Rests, WritesBySteps}
use Rattle.tables.specs.Tree.{table_from}
use Rattle.tables.specs.Under.{EndsUnder}
use Rattle.tables.proofs.trails.Through.{no_step, steps_after}

-- what rests first is such a step as well
rests_first : (old : Pool) (level root : ℕ) (l m n : Moment) → Rests l m → EndsOn old level root m n → EndsOn old level root l n
rests_first old level root l m n rest e = record {
  named = λ p w c lower found. e.named p w c lower (subst (λ ws. table_from (memory ws) level root p w ≡ Some c) (sym rest.0) found);
  words = λ f k k_in.
      ⊎_elim
      (λ (same : word n.words f k ≡ word m.words f k). inl (same ∙ ap (λ ws. word ws f k) rest.0))
      (λ (gone : word n.words f k ≡ 0). inr gone)
      (e.words f k k_in);
  others = λ f k k_in none. e.others f k k_in none ∙ ap (λ ws. word ws f k) rest.0;
  fewer = λ f none. omega (arith, rest.1 f, e.fewer f none);
}

rests_first_under : (old : Pool) (level t i : ℕ) (l m n : Moment) → Rests l m → EndsUnder old level t i m n → EndsUnder old level t i l n
rests_first_under old level t i l m n rest e = record {
  named = λ p w c at lower found. e.named p w c at lower (subst (λ ws. table_from (memory ws) level t p w ≡ Some c) (sym rest.0) found);
  words = λ f k k_in.
      ⊎_elim
      (λ (same : word n.words f k ≡ word m.words f k). inl (same ∙ ap (λ ws. word ws f k) rest.0))
      (λ (gone : word n.words f k ≡ 0). inr gone)
      (e.words f k k_in);
  row = λ k k_in ne. e.row k k_in ne ∙ ap (λ ws. word ws t k) rest.0;
  others = λ f k k_in ne none. e.others f k k_in ne none ∙ ap (λ ws. word ws f k) rest.0;
  fewer = λ f none. omega (arith, rest.1 f, e.fewer f none);
}

-- nothing is written
pub no_end : (pool : Pool) (level root : ℕ) → EndsInOrder pool pool level root
no_end pool level root = no_step (EndsOn pool level root) pool pool refl (refl, λ f. omega arith)

-- one call after another
pub ends_after : (old between new : Pool) (level root : ℕ) → EndsInOrder old between level root
    → WritesBySteps between new (EndsOn old level root) → EndsInOrder old new level root
ends_after old between new level root = steps_after (EndsOn old level root) (rests_first old level root) old between new

pub under_after : (old between new : Pool) (level t i : ℕ) → WritesBySteps old between (EndsUnder old level t i)
    → WritesBySteps between new (EndsUnder old level t i) → WritesBySteps old new (EndsUnder old level t i)
under_after old between new level t i = steps_after (EndsUnder old level t i) (rests_first_under old level t i) old between new
