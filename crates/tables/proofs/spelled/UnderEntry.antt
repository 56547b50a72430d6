-- Where the words of a tree spelled entries, they do so after a change under one entry that spells one then.
use Rattle.std.proofs.Common.{◌≡◌, ℕ, suc, ◌<◌, ⊎_elim, List, sym, subst, ◌∙◌}
use Rattle.tables.specs.declared.entries.TheConstants.{TABLE_ENTRIES}
use Rattle.vtdbits.specs.declared.entry.SsEntry.{SsEntry}
use Rattle.vtdbits.specs.declared.entry.SsEntry.TheVariants.{Absent, Table}
use Rattle.tables.specs.Under.{ChangesUnder}
use Rattle.tables.specs.Pool.{Pool, word, memory, IsTree}
use Rattle.tables.specs.Changes.{TakesAndGivesFrames, KeepsSpellings}
use Rattle.tables.specs.Spelled.{AreSpelled}
use Rattle.tables.proofs.spelled.Stays.{IsSpelledAt, to_spelled, spelled_at, entry_stays, words_stay, seen_spelled}
use Rattle.tables.proofs.unmaps.UnderEntry.{apart_words, below_under, some_child}
use Rattle.tables.proofs.walks.Steps.{same_or_not}

under_spelled : (old new : Pool) (l t i : ℕ) (cut : List ℕ) → IsTree old (suc l) t → i < TABLE_ENTRIES → ChangesUnder old new l t i cut
    → IsSpelledAt new.words l t i → KeepsSpellings old new (suc l) t
under_spelled old new l t i cut tree a u here s =
    to_spelled new.words l t (λ k k_in.
    ⊎_elim (λ same. subst (λ j. IsSpelledAt new.words l t j) (sym same) here)
    (λ ne. entry_stays old.words new.words l t k (u.row k k_in ne)
    (λ c e. words_stay old.words new.words l c
    (λ f some. apart_words old new l t i k f cut tree a k_in ne u (some_child (memory old.words) l t f k c e some)))
    (spelled_at old.words l t k s k_in))
    (same_or_not k i))

-- an entry that names no table
pub leaf_spelled : (old new : Pool) (l t i : ℕ) (cut : List ℕ) (e : SsEntry) → IsTree old (suc l) t → i < TABLE_ENTRIES
    → ChangesUnder old new l t i cut → memory new.words (suc l) t i ≡ e → ((c : ℕ) → e ≡ Table c → ⊥)
    → (e ≡ Absent → word new.words t i ≡ 0) → KeepsSpellings old new (suc l) t
leaf_spelled old new l t i cut e tree a u is no_table blank =
    under_spelled old new l t i cut tree a u
    (seen_spelled new.words (suc l) t i e is blank, λ c named. absurd (no_table c (sym is ∙ named)))

-- one that names a table
pub table_spelled : (old new : Pool) (l t i c : ℕ) (cut : List ℕ) → IsTree old (suc l) t → i < TABLE_ENTRIES
    → ChangesUnder old new l t i cut → memory new.words (suc l) t i ≡ Table c
    → (AreSpelled old.words (suc l) t → AreSpelled new.words l c) → KeepsSpellings old new (suc l) t
table_spelled old new l t i c cut tree a u is below s =
    under_spelled old new l t i cut tree a u (
      seen_spelled new.words (suc l) t i (Table c) is (λ e. absurd (there e)),
      λ d named. subst (λ x. AreSpelled new.words l x) (same_table d (sym is ∙ named)) (below s),
    )
    s
  where
    there : Table c ≡ Absent → ⊥
    there e = cc

    same_table : (d : ℕ) → Table c ≡ Table d → c ≡ d
    same_table d e = cc

-- one that named a table before, at a level one above
pub through_spelled : (old new : Pool) (level l t i c : ℕ) (cut : List ℕ) → level ≡ suc l → IsTree old level t → i < TABLE_ENTRIES
    → memory old.words level t i ≡ Table c → TakesAndGivesFrames old new l c cut → KeepsSpellings old new l c
    → KeepsSpellings old new level t
through_spelled old new level l t i c cut up =
    subst (λ n. IsTree old n t → i < TABLE_ENTRIES → memory old.words n t i ≡ Table c → TakesAndGivesFrames old new l c cut
    → KeepsSpellings old new l c → KeepsSpellings old new n t) (sym up)
    (λ tree a names moves below.
    let both = below_under old new l t i c cut tree a names moves in
    table_spelled old new l t i c cut tree a both.0 both.1 (λ s. below ((spelled_at old.words l t i s a).1 c names)))
