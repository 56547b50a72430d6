-- An unmap writes in order: what one write owes, and two calls after each other.
use Rattle.std.proofs.Common.{◌≡◌, inl, inr, ℕ, ◌+◌, ◌-◌, ◌<◌, ◌≤◌, [], ◌∷◌, ◌++◌, ap, sym, ◌∙◌, ⊎_elim, arith}
use Rattle.std.proofs.lemmas.Bool.{cases_eq, cases_lt}
use Rattle.tables.specs.declared.entries.TheConstants.{TABLE_ENTRIES}
use Rattle.tables.specs.Pool.{IsWrite, KeepsOtherWords, Moment, Pool, moment_of, occurs, word}
use Rattle.tables.specs.Trail.{GoesOn, IsNamed, Rests, WritesInOrder}
use Rattle.tables.proofs.trails.Through.{one_step, steps_after}

-- what rests first goes on as well
rests_first : (l m n : Moment) → Rests l m → GoesOn m n → GoesOn l n
rests_first l m n rest on = record {
  fewer = λ f. omega (arith, rest.1 f, on.fewer f);
  words = λ f k k_in none.
      let same : word m.words f k ≡ word l.words f k = ap (λ ws. word ws f k) rest.0 in
      ⊎_elim (λ (e : word n.words f k ≡ word m.words f k). inl (e ∙ same))
      (λ other. ⊎_elim (λ (e : word n.words f k ≡ 0). inr (inl e))
      (λ (named : IsNamed m n f k). inr (inr (record {
        leaf = named.leaf;
        table = named.table;
        was = rw (sym rest.0) named.was;
        is = named.is;
        taken = named.taken;
        filled = named.filled;
      }))) other)
      (on.words f k k_in (omega (arith, rest.1 f)));
}

-- one call after another
pub after : (old between new : Pool) → WritesInOrder old between → WritesInOrder between new → WritesInOrder old new
after = steps_after GoesOn rests_first

-- a word is cleared
pub clears_word : (old new : Pool) (t i : ℕ) → new.trail ≡ old.trail ++ moment_of new ∷ [] → new.free ≡ old.free
    → IsWrite old.words new.words t i 0 → WritesInOrder old new
clears_word old new t i trail free write = one_step GoesOn old new trail (record {
  fewer = λ f. omega (arith, ap (occurs f) free);
  words = λ f k k_in none.
      ⊎_elim
      (λ (e : f ≡ t). ⊎_elim
      (λ (at : k ≡ i). inr (inl (ap (λ x. word new.words x k) e ∙ ap (word new.words t) at ∙ write.0)))
      (λ (ne : k ≡ i → ⊥). inl (write.1 f k k_in (λ _ at. ne at)))
      (cases_eq k i))
      (λ (ne : f ≡ t → ⊥). inl (write.1 f k k_in (λ e _. ne e)))
      (cases_eq f t);
})

-- words of a table are cleared
pub clears_words : (old new : Pool) (t from count : ℕ) → new.trail ≡ old.trail ++ moment_of new ∷ [] → new.free ≡ old.free
    → KeepsOtherWords old.words new.words t from count → ((k : ℕ) → k < count → word new.words t (from + k) ≡ 0) → WritesInOrder old new
clears_words old new t from count trail free rest cleared = one_step GoesOn old new trail (record {
  fewer = λ f. omega (arith, ap (occurs f) free);
  words = λ f k k_in none.
      ⊎_elim
      (λ (e : f ≡ t). ⊎_elim
      (λ (low : k < from). inl (rest f k k_in (λ _ at _. absurd (omega arith))))
      (λ (high : from ≤ k). ⊎_elim
      (λ (inside : k < from + count).
      let place : k ≡ from + (k - from) = omega arith in
      inr (inl (ap (λ x. word new.words x k) e ∙ ap (word new.words t) place ∙ cleared (k - from) (omega arith))))
      (λ (past : from + count ≤ k). inl (rest f k k_in (λ _ _ at. absurd (omega arith))))
      (cases_lt k (from + count)))
      (cases_lt k from))
      (λ (ne : f ≡ t → ⊥). inl (rest f k k_in (λ e _ _. ne e)))
      (cases_eq f t);
})

-- words of a table are written that was free
pub fills : (old new : Pool) (t : ℕ) → new.trail ≡ old.trail ++ moment_of new ∷ [] → ((f : ℕ) → occurs f new.free ≤ occurs f old.free)
    → 0 < occurs t old.free → ((f k : ℕ) → k < TABLE_ENTRIES → (f ≡ t → ⊥) → word new.words f k ≡ word old.words f k)
    → WritesInOrder old new
fills old new t trail fewer was rest = one_step GoesOn old new trail (record {
  fewer = fewer;
  words = λ f k k_in none. inl (rest f k k_in (λ e. let same : occurs f old.free ≡ occurs t old.free = ap (λ x. occurs x old.free) e in
      omega arith));
})

-- a table is named in the place of a leaf
pub names : (old new : Pool) (t i value : ℕ) → new.trail ≡ old.trail ++ moment_of new ∷ [] → new.free ≡ old.free
    → IsWrite old.words new.words t i value → IsNamed (moment_of old) (moment_of new) t i → WritesInOrder old new
names old new t i value trail free write named = one_step GoesOn old new trail (record {
  fewer = λ f. omega (arith, ap (occurs f) free);
  words = λ f k k_in none.
      ⊎_elim
      (λ (e : f ≡ t). ⊎_elim
      (λ (at : k ≡ i). inr (inr (rw (e, at) named)))
      (λ (ne : k ≡ i → ⊥). inl (write.1 f k k_in (λ _ at. ne at)))
      (cases_eq k i))
      (λ (ne : f ≡ t → ⊥). inl (write.1 f k k_in (λ e _. ne e)))
      (cases_eq f t);
})
