-- The words of a table spell its entries where they are 0, and where they did so and stay.
use Rattle.std.proofs.Common.{◌≡◌, ℕ, zero, suc, ◌<◌, ◌%◌, List, None, refl, sym, ap, subst, ◌∙◌, arith}
use Rattle.std.proofs.lemmas.Option.{none-some}
use Rattle.dmatypes.specs.declared.page.TheConstants.{SPAN_PAGES}
use Rattle.tables.specs.declared.entries.TheConstants.{TABLE_ENTRIES}
use Rattle.vtdbits.specs.Entry.{Spells, look}
use Rattle.vtdbits.specs.declared.entry.SsEntry.{SsEntry}
use Rattle.vtdbits.specs.declared.entry.SsEntry.TheVariants.{Absent, Table, Leaf, LargeLeaf}
use Rattle.vtdbits.proofs.Entries.{spelled_of-look}
use Rattle.tables.specs.Tree.{index_in, leaf_from, uses}
use Rattle.tables.specs.Pool.{word, memory, IsZeroed}
use Rattle.tables.specs.Spelled.{AreSpelled}
use Rattle.tables.proofs.walks.Agreeing.{root_used, under}
use Rattle.tables.proofs.walks.Onward.{index_lt}
use Rattle.tables.proofs.walks.Steps.{index-zero, leaf_under}
use Rattle.tables.proofs.walks.Words.{memory_at, same_entry, zeroed_bare}

-- a word of a table spells its entry, and so do those of the table that it names
abbrev pub IsSpelledAt : List ℕ → ℕ → ℕ → ℕ → Type 0
IsSpelledAt words l t k =
    Spells (suc l) (word words t k) (memory words (suc l) t k)
    × ((c : ℕ) → memory words (suc l) t k ≡ Table c → AreSpelled words l c)

pub to_spelled : (words : List ℕ) (l t : ℕ) → ((k : ℕ) → k < TABLE_ENTRIES → IsSpelledAt words l t k) → AreSpelled words (suc l) t
unfolding AreSpelled
to_spelled words l t h = h

pub spelled_at : (words : List ℕ) (l t k : ℕ) → AreSpelled words (suc l) t → k < TABLE_ENTRIES → IsSpelledAt words l t k
unfolding AreSpelled
spelled_at words l t k s k_in = s k k_in

-- the table that an entry names
pub named_spelled : (words : List ℕ) (level l t k c : ℕ) → level ≡ suc l → AreSpelled words level t → k < TABLE_ENTRIES
    → memory words level t k ≡ Table c → AreSpelled words l c
named_spelled words level l t k c up s k_in names =
    (spelled_at words l t k (subst (λ n. AreSpelled words n t) up s) k_in).1 c (subst (λ n. memory words n t k ≡ Table c) up names)

-- where an entry is absent, its word is 0
pub absent_blank : (words : List ℕ) (level l t k : ℕ) → level ≡ suc l → AreSpelled words level t → k < TABLE_ENTRIES
    → memory words level t k ≡ Absent → word words t k ≡ 0
absent_blank words level l t k up s k_in absent =
    subst (λ e. Spells (suc l) (word words t k) e) (subst (λ n. memory words n t k ≡ Absent) up absent)
    (spelled_at words l t k (subst (λ n. AreSpelled words n t) up s) k_in).0

-- where a table of level 1 states nothing of a page, its word is 0
pub page_blank : (words : List ℕ) (level t p : ℕ) → level ≡ 1 → AreSpelled words level t → leaf_from (memory words) level t p ≡ None
    → word words t (p % SPAN_PAGES) ≡ 0
page_blank words level t p up s none =
    ap (word words t) (sym (index-zero p))
    ∙ by_entry (memory words 1 t i) refl (subst (λ n. leaf_from (memory words) n t p ≡ None) up none)
    (spelled_at words 0 t i (subst (λ n. AreSpelled words n t) up s) (index_lt 0 p)).0
  where
    i : ℕ
    i = index_in 0 p

    by_entry : (e : SsEntry) → memory words 1 t i ≡ e → leaf_from (memory words) 1 t p ≡ None → Spells 1 (word words t i) e
        → word words t i ≡ 0
    by_entry Absent is none h = h
    by_entry (Table c) is none h = absurd (omega (arith, h.0))
    by_entry (Leaf x) is none h = absurd (none-some _ (sym none ∙ leaf_under (memory words) 0 t p (Leaf x) is))
    by_entry (LargeLeaf x) is none h = absurd (none-some _ (sym none ∙ leaf_under (memory words) 0 t p (LargeLeaf x) is))

-- below a table of level 1 there is nothing
pub nothing_below : (words : List ℕ) (t : ℕ) → AreSpelled words 0 t
unfolding AreSpelled
nothing_below words t = tt

-- a word spells what is seen there, where it is 0 if that is absent
pub seen_spelled : (words : List ℕ) (l t k : ℕ) (e : SsEntry) → memory words l t k ≡ e → (e ≡ Absent → word words t k ≡ 0)
    → Spells l (word words t k) (memory words l t k)
seen_spelled words l t k e is blank =
    subst (λ x. Spells l (word words t k) x) (sym is) (by_entry e (sym (memory_at words l t k) ∙ is) blank)
  where
    by_entry : (e : SsEntry) → look l (word words t k) ≡ e → (e ≡ Absent → word words t k ≡ 0) → Spells l (word words t k) e
    by_entry Absent h blank = blank refl
    by_entry (Table c) h blank = spelled_of-look l (word words t k) (Table c) (λ x. cc) h
    by_entry (Leaf s) h blank = spelled_of-look l (word words t k) (Leaf s) (λ x. cc) h
    by_entry (LargeLeaf s) h blank = spelled_of-look l (word words t k) (LargeLeaf s) (λ x. cc) h

no_table : (e : SsEntry) (c : ℕ) → e ≡ Absent → e ≡ Table c → ⊥
no_table e c a b = cc

-- a table that was just taken
pub zeroed_spelled : (words : List ℕ) (l t : ℕ) → IsZeroed words t → AreSpelled words l t
zeroed_spelled words zero t z = nothing_below words t
zeroed_spelled words (suc l) t z =
    to_spelled words l t (λ k k_in.
    let absent : memory words (suc l) t k ≡ Absent = zeroed_bare words t z (suc l) k k_in in
    (seen_spelled words (suc l) t k Absent absent (λ _. z k k_in), λ c e. absurd (no_table (memory words (suc l) t k) c absent e)))

-- an entry whose word stays
pub entry_stays : (old new : List ℕ) (l t k : ℕ) → word new t k ≡ word old t k
    → ((c : ℕ) → memory old (suc l) t k ≡ Table c → AreSpelled old l c → AreSpelled new l c) → IsSpelledAt old l t k
    → IsSpelledAt new l t k
entry_stays old new l t k same below s =
    let entry : memory new (suc l) t k ≡ memory old (suc l) t k = same_entry old new (suc l) t k same in (
      subst (λ e. Spells (suc l) (word new t k) e) (sym entry)
          (subst (λ w. Spells (suc l) w (memory old (suc l) t k)) (sym same) s.0),
      λ c e. below c (sym entry ∙ e) (s.1 c (sym entry ∙ e)),
    )

-- the words of the frames that the tree uses stay
pub words_stay : (old new : List ℕ) (l t : ℕ)
    → ((f : ℕ) → 0 < uses (memory old) l t f → (k : ℕ) → k < TABLE_ENTRIES → word new f k ≡ word old f k) → AreSpelled old l t
    → AreSpelled new l t
words_stay old new zero t same s = nothing_below new t
words_stay old new (suc l) t same s =
    to_spelled new l t (λ k k_in.
    entry_stays old new l t k (same t (root_used (memory old) l t) k k_in)
    (λ c e. words_stay old new l c (λ f some. same f (under (memory old) l t k c f k_in e some))) (spelled_at old l t k s k_in))
