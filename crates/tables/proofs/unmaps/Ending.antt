-- In which order a tree is given back: one entry, and all of them.
use Rattle.std.proofs.Common.{◌≡◌, ◌≢◌, ℕ, ◌+◌, ◌-◌, ◌<◌, ◌≤◌, ◌++◌, inl, inr, ⊎_elim, Some, [], ◌∷◌, sym, ap, subst, ◌∙◌, arith}
use Rattle.std.proofs.lemmas.Bool.{cases_eq, cases_lt}
use Rattle.std.proofs.lemmas.Option.{none-some}
use Rattle.dmatypes.specs.declared.page.TheConstants.{SPAN_PAGES}
use Rattle.tables.specs.declared.entries.TheConstants.{TABLE_ENTRIES}
use Rattle.vtdbits.specs.declared.entry.SsEntry.TheVariants.{Absent, Table}
use Rattle.vtdbits.specs.Entry.{look}
use Rattle.vtdbits.proofs.Entries.{look-zero}
use Rattle.tables.specs.Tree.{index_in, table_from, sum_below, one_if_same, uses}
use Rattle.tables.specs.Under.{EndsUnder, used_at}
use Rattle.tables.specs.Pool.{Moment, Pool, word, memory, occurs, moment_of, IsTree, IsWrite}
use Rattle.tables.specs.Trail.{EndsInOrder, EndsOn, WritesBySteps}
use Rattle.tables.proofs.sums.Firsts.{sum_below_le_more}
use Rattle.tables.proofs.sums.OneFrame.{one_if_same-self}
use Rattle.tables.proofs.walks.Words.{memory_at, same_entry, zeroed_bare}
use Rattle.tables.proofs.walks.Agreeing.{AgreeAt, to_agree, table_agrees}
use Rattle.tables.proofs.walks.Onward.{index_lt, table_zeroed}
use Rattle.tables.proofs.walks.Steps.{found_below, found_used, same_or_not}
use Rattle.tables.proofs.trails.Ends.{ends_after, under_after}
use Rattle.tables.proofs.trails.Through.{one_step, steps_by}
use Rattle.tables.proofs.unmaps.Destroyed.{IsTakingDown, part_of, used_left, used_next, used_table, used_then, uses_level}

-- ---- one entry

-- its word is cleared
pub entry_cleared : (old new : Pool) (level t i : ℕ) → new.trail ≡ old.trail ++ moment_of new ∷ [] → IsWrite old.words new.words t i 0
    → new.free ≡ old.free → ((b : ℕ) → memory old.words level t i ≡ Table b → IsTree old (level - 1) b)
    → WritesBySteps old new (EndsUnder old level t i)
entry_cleared old new level t i trail wrote free below = one_step (EndsUnder old level t i) old new trail (record {
  named = λ p w c at lower found.
      let f = found_below (memory old.words) level t p w c lower found in
      let is : memory old.words level t i ≡ Table f.0 = subst (λ k. memory old.words level t k ≡ Table f.0) at f.1.0 in
      omega (
        arith,
        ap (occurs c) free,
        (below f.0 is).once c,
        found_used (memory old.words) (level - 1) f.0 p w c f.1.1,
      );
  words = λ f k k_in.
      ⊎_elim
      (λ (e : f ≡ t). ⊎_elim
      (λ (at : k ≡ i). inr (ap (λ x. word new.words x k) e ∙ ap (word new.words t) at ∙ wrote.0))
      (λ (ne : k ≡ i → ⊥). inl (wrote.1 f k k_in (λ _ at. ne at)))
      (cases_eq k i))
      (λ (ne : f ≡ t → ⊥). inl (wrote.1 f k k_in (λ e _. ne e)))
      (cases_eq f t);
  row = λ k k_in ne. wrote.1 t k k_in (λ _ e. ne e);
  others = λ f k k_in ne unused. wrote.1 f k k_in (λ e _. ne e);
  fewer = λ f unused. omega (arith, ap (occurs f) free);
})

-- an entry whose word is 0 leads nowhere
leads_nowhere : (m : Moment) (level t p w c : ℕ) → w < level → word m.words t (index_in (level - 1) p) ≡ 0
    → table_from (memory m.words) level t p w ≡ Some c → ⊥
leads_nowhere m level t p w c lower none found =
    let f = found_below (memory m.words) level t p w c lower found in
    let absent : memory m.words level t (index_in (level - 1) p) ≡ Absent =
    memory_at m.words level t (index_in (level - 1) p) ∙ ap (look level) none ∙ look-zero level in
    let named : memory m.words level t (index_in (level - 1) p) ≡ Table f.0 = f.1.0 in
    cc

-- and then what it named ends
pub entry_ends : (old mid new : Pool) (level t i c : ℕ) → i < TABLE_ENTRIES → memory old.words level t i ≡ Table c
    → occurs t old.free + used_at old level t t i ≡ 0 → IsWrite old.words mid.words t i 0 → EndsInOrder mid new (level - 1) c
    → WritesBySteps old mid (EndsUnder old level t i) → WritesBySteps old new (EndsUnder old level t i)
entry_ends old mid new level t i c i_in is taken wrote below first =
    under_after old mid new level t i first
    (steps_by (λ m. word m.words t i ≡ 0) (EndsOn mid (level - 1) c) (EndsUnder old level t i) step mid new wrote.0 below)
  where
    same : (f : ℕ) → uses (memory mid.words) (level - 1) c f ≡ used_at old level t f i
    same f = used_then old mid level t i c f is taken wrote

    own : uses (memory mid.words) (level - 1) c t ≡ 0
    own = omega (arith, same t, taken)

    step : (m n : Moment) → word m.words t i ≡ 0 → EndsOn mid (level - 1) c m n → (word n.words t i ≡ 0) × EndsUnder old level t i m n
    step m n none e = (
      e.others t i i_in own ∙ none,
      record {
        named = λ p w x at lower found.
            absurd (leads_nowhere m level t p w x lower (ap (word m.words t) at ∙ none) found);
        words = e.words;
        row = λ k k_in ne. e.others t k k_in own;
        others = λ f k k_in ne unused. e.others f k k_in (same f ∙ unused);
        fewer = λ f unused. e.fewer f (same f ∙ unused);
      },
    )

-- ---- all of them

-- while the turn is an entry's: those before it are cleared, and what doesn't lie under these or it is as it was
record IsInTurn (old : Pool) (level t i : ℕ) (m : Moment) : Type 0 where
  cleared : (k : ℕ) → k < i → word m.words t k ≡ 0
  row : (k : ℕ) → k < TABLE_ENTRIES → i < k → word m.words t k ≡ word old.words t k
  others : (f k : ℕ) → k < TABLE_ENTRIES → f ≢ t → sum_below (used_at old level t f) (i + 1) ≡ 0 → word m.words f k ≡ word old.words f k
  fewer : (f : ℕ) → sum_below (used_at old level t f) (i + 1) ≡ 0 → occurs f m.free ≤ occurs f old.free

module _ (old cur : Pool) (level t i : ℕ) (some : 1 ≤ level) (inside : i < TABLE_ENTRIES) (tree : IsTree old level t)
    (r : IsTakingDown old cur level t i) where
  turn_begins : IsInTurn old level t i (moment_of cur)
  turn_begins = record {
    cleared = r.cleared;
    row = λ k k_in lt. r.row k k_in (omega arith);
    others = λ f k k_in ne none. r.others f k k_in ne (omega (arith, none, used_next old level t f i));
    fewer = λ f none. omega (arith, none, r.free f, used_next old level t f i);
  }

  unused : (f : ℕ) → used_at old level t f i ≡ 0 → used_at cur level t f i ≡ 0
  unused f none = omega (arith, none, used_left old cur level (level - 1) t i f (omega arith) inside tree r)

  turn_goes_on : (m n : Moment) → IsInTurn old level t i m → EndsUnder cur level t i m n → IsInTurn old level t i n
  turn_goes_on m n here e = record {
    cleared = λ k lt. e.row k (omega arith) (λ at. omega arith) ∙ here.cleared k lt;
    row = λ k k_in lt. e.row k k_in (λ at. omega arith) ∙ here.row k k_in lt;
    others = λ f k k_in ne none.
        e.others f k k_in ne (unused f (omega (arith, none, used_next old level t f i))) ∙ here.others f k k_in ne none;
    fewer = λ f none. omega (arith, e.fewer f (unused f (omega (arith, none, used_next old level t f i))), here.fewer f none);
  }

  -- what lies under a later entry is not free
  later : (m n : Moment) (j b p w c : ℕ) → IsInTurn old level t i m → IsInTurn old level t i n → i < j → j < TABLE_ENTRIES
      → memory m.words level t j ≡ Table b → table_from (memory m.words) (level - 1) b p w ≡ Some c → occurs c n.free ≡ 0
  later m n j b p w c here then lt j_in is found =
      omega (arith, then.fewer c (none c (omega (arith, used c, more))), part c, used c, tree.once c, more)
    where
      was : memory old.words level t j ≡ Table b
      was = sym (same_entry old.words m.words level t j (here.row j j_in lt)) ∙ is

      used : (f : ℕ) → used_at old level t f j ≡ uses (memory old.words) (level - 1) b f
      used f = used_table old level t f j b was

      part : (f : ℕ) → one_if_same t f + sum_below (used_at old level t f) j + used_at old level t f j ≤ uses (memory old.words) level t f
      part f = part_of old level (level - 1) t f j (omega arith) j_in

      none : (f : ℕ) → 0 < used_at old level t f j → sum_below (used_at old level t f) (i + 1) ≡ 0
      none f more = omega (arith, more, part f, tree.once f, sum_below_le_more (used_at old level t f) (i + 1) j (omega arith))

      agree : AgreeAt (memory old.words) (memory m.words) (level - 1) b
      agree =
          to_agree (memory old.words) (memory m.words) (level - 1) b (λ g more l' k' k_in.
          same_entry old.words m.words l' g k'
          (here.others g k' k_in
          (λ e. let own : one_if_same t g ≡ one_if_same t t = ap (λ x. one_if_same t x) e in
          omega (arith, own, more, part g, used g, tree.once g, one_if_same-self t))
          (none g (omega (arith, used g, more)))))

      more : 0 < uses (memory old.words) (level - 1) b c
      more =
          found_used (memory old.words) (level - 1) b p w c
          (sym (table_agrees (memory old.words) (memory m.words) (level - 1) b p w agree) ∙ found)

  named : (m n : Moment) → IsInTurn old level t i m → IsInTurn old level t i n → EndsUnder cur level t i m n → (p w c : ℕ) → w < level
      → table_from (memory m.words) level t p w ≡ Some c → occurs c n.free ≡ 0
  named m n here then e p w c lower found =
      let f = found_below (memory m.words) level t p w c lower found in
      ⊎_elim
      (λ (before : index_in (level - 1) p < i).
      absurd (leads_nowhere m level t p w c lower (here.cleared (index_in (level - 1) p) before) found))
      (λ (rest : i ≤ index_in (level - 1) p).
      ⊎_elim
      (λ (at : index_in (level - 1) p ≡ i). e.named p w c at lower found)
      (λ (ne : index_in (level - 1) p ≢ i).
      later m n (index_in (level - 1) p) f.0 p w c here then (omega arith) (index_lt (level - 1) p) f.1.0 f.1.1)
      (same_or_not (index_in (level - 1) p) i))
      (cases_lt (index_in (level - 1) p) i)

  step : (m n : Moment) → IsInTurn old level t i m → EndsUnder cur level t i m n → IsInTurn old level t i n × EndsOn old level t m n
  step m n here e = (
    turn_goes_on m n here e,
    record {
      named = named m n here (turn_goes_on m n here e) e;
      words = e.words;
      others = λ f k k_in none.
          e.others f k k_in
          (λ same. let own : one_if_same t f ≡ one_if_same t t = ap (λ x. one_if_same t x) same in
          omega (arith, own, none, part f, one_if_same-self t))
          (unused f (omega (arith, none, part f)));
      fewer = λ f none. e.fewer f (unused f (omega (arith, none, part f)));
    },
  )
    where
      part : (f : ℕ) → one_if_same t f + sum_below (used_at old level t f) i + used_at old level t f i ≤ uses (memory old.words) level t f
      part f = part_of old level (level - 1) t f i (omega arith) inside

  -- one more entry
  pub ending_more : (new : Pool) → EndsInOrder old cur level t → WritesBySteps cur new (EndsUnder cur level t i)
      → EndsInOrder old new level t
  ending_more new before turn =
      ends_after old cur new level t before
      (steps_by (IsInTurn old level t i) (EndsUnder cur level t i) (EndsOn old level t) step cur new turn_begins turn)

-- and the table itself, which is not below itself
pub ending_last : (old cur new : Pool) (level t i : ℕ) → 1 ≤ level → i ≡ SPAN_PAGES → IsTakingDown old cur level t i
    → EndsInOrder old cur level t → new.trail ≡ cur.trail ++ moment_of new ∷ [] → new.words ≡ cur.words
    → ((f : ℕ) → occurs f new.free ≡ occurs f cur.free + one_if_same t f) → EndsInOrder old new level t
ending_last old cur new level t i some all r before trail words free =
    ends_after old cur new level t before (one_step (EndsOn old level t) cur new trail (record {
      named = λ p w c lower found. absurd (none-some c (sym (table_zeroed (memory cur.words) level t p w (zeroed_bare cur.words t
          (λ k k_in. r.cleared k (omega arith))) lower) ∙ found));
      words = λ f k k_in. inl (ap (λ ws. word ws f k) words);
      others = λ f k k_in none. ap (λ ws. word ws f k) words;
      fewer = λ f none. omega (arith, none, free f, uses_level old level (level - 1) t f (omega arith));
    }))
