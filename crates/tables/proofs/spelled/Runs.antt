-- Where the words of a tree spelled entries, they do so after a run of entries was written in a table of level 1, and
-- after a leaf was split.
use Rattle.std.proofs.Common.{◌≡◌, ℕ, ◌+◌, ◌-◌, ◌*◌, ◌/◌, ◌%◌, ◌<◌, ◌≤◌, ⊎_elim, List, [], subst, arith}
use Rattle.std.proofs.lemmas.Bool.{cases_lt}
use Rattle.dmatypes.specs.declared.page.TheConstants.{SPAN_PAGES}
use Rattle.tables.specs.declared.entries.TheConstants.{TABLE_ENTRIES}
use Rattle.dmatypes.specs.World.{Target}
use Rattle.vtdbits.specs.Translation.{target}
use Rattle.vtdbits.specs.declared.entry.SsEntry.{SsEntry}
use Rattle.vtdbits.specs.declared.entry.SsEntry.TheVariants.{Absent, Leaf}
use Rattle.tables.specs.Under.{IsSplit}
use Rattle.tables.specs.Pool.{Pool, word, memory, IsTree}
use Rattle.tables.specs.Changes.{KeepsSpellings}
use Rattle.tables.specs.Extents.{WritesEntries}
use Rattle.tables.specs.Spelled.{AreSpelled}
use Rattle.tables.proofs.spelled.Stays.{IsSpelledAt, to_spelled, spelled_at, nothing_below, entry_stays, seen_spelled}
use Rattle.tables.proofs.spelled.UnderEntry.{table_spelled}

-- a table of leaves
leaves_spelled : (words : List ℕ) (t : ℕ) (entry : ℕ → SsEntry) → ((k : ℕ) → k < TABLE_ENTRIES → memory words 1 t k ≡ entry k)
    → ((k : ℕ) → entry k ≡ Absent → ⊥) → AreSpelled words 1 t
leaves_spelled words t entry are there =
    to_spelled words 0 t (λ k k_in.
    (seen_spelled words 1 t k (entry k) (are k k_in) (λ e. absurd (there k e)), λ c e. nothing_below words c))

-- a run of entries, for which 0 stands where they are absent
pub run_spelled : (old new : Pool) (t from to : ℕ) (entry : ℕ → SsEntry) → WritesEntries old.words new.words t from to entry → from < to
    → from / SPAN_PAGES ≡ (to - 1) / SPAN_PAGES
    → ((p : ℕ) → from ≤ p → p < to → entry p ≡ Absent → word new.words t (p % SPAN_PAGES) ≡ 0) → KeepsSpellings old new 1 t
run_spelled old new t from to entry run some one blank s =
    to_spelled new.words 0 t (λ k k_in. by_page k k_in (SPAN_PAGES * (from / SPAN_PAGES) + k) (omega arith) (omega arith))
  where
    written : (p : ℕ) → from ≤ p → p < to → IsSpelledAt new.words 0 t (p % SPAN_PAGES)
    written p low high = (
      seen_spelled new.words 1 t (p % SPAN_PAGES) (entry p) (run.entries p low high) (blank p low high),
      λ c e. nothing_below new.words c,
    )

    kept : (k p : ℕ) → k < TABLE_ENTRIES → p % SPAN_PAGES ≡ k → p / SPAN_PAGES ≡ from / SPAN_PAGES → (from ≤ p → p < to → ⊥)
        → IsSpelledAt new.words 0 t k
    kept k p k_in at near out =
        entry_stays old.words new.words 0 t k
        (run.rest t k k_in (λ _ q low high e. out (omega arith) (omega arith)))
        (λ c e x. nothing_below new.words c) (spelled_at old.words 0 t k s k_in)

    -- by the page of the index in the span of the run
    by_page : (k : ℕ) → k < TABLE_ENTRIES → (p : ℕ) → p % SPAN_PAGES ≡ k → p / SPAN_PAGES ≡ from / SPAN_PAGES
        → IsSpelledAt new.words 0 t k
    by_page k k_in p at near =
        ⊎_elim (λ (before : p < from). kept k p k_in at near (λ low high. absurd (omega arith)))
        (λ (after : from ≤ p).
        ⊎_elim (λ (among : p < to). subst (λ j. IsSpelledAt new.words 0 t j) at (written p after among))
        (λ (behind : to ≤ p). kept k p k_in at near (λ low high. absurd (omega arith)))
        (cases_lt p to))
        (cases_lt p from)

-- a table of 512 leaves in the place of one
pub split_spelled : (old new : Pool) (t i page c : ℕ) (x : Target) → IsTree old 2 t → i < TABLE_ENTRIES → IsSplit old new t i page c x
    → KeepsSpellings old new 2 t
split_spelled old new t i page c x tree a s =
    table_spelled old new 1 t i c [] tree a s.under s.is
    (λ _. leaves_spelled new.words c (λ k. Leaf (target (x.frame + k) x.rights)) (λ k k_in. leaf k (SPAN_PAGES * (page / SPAN_PAGES) + k)
    (omega arith) (omega arith)) (λ k e. cc))
  where
    leaf : (k p : ℕ) → p / SPAN_PAGES ≡ page / SPAN_PAGES → p % SPAN_PAGES ≡ k
        → memory new.words 1 c k ≡ Leaf (target (x.frame + k) x.rights)
    leaf k p near at = subst (λ j. memory new.words 1 c j ≡ Leaf (target (x.frame + j) x.rights)) at (s.spelled p near)
