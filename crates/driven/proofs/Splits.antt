-- Where a table takes the place of a leaf of 2 MiB.
use Rattle.std.proofs.Common.{◌≡◌, ◌≢◌, ◌⊎◌, inl, inr, ⊎_elim, ℕ, suc, ◌/◌, ◌<◌, ◌≤◌, List, [], Option, Some, None, refl, sym, ap}
use Rattle.std.proofs.Common.{subst, ◌∙◌, arith}
use Rattle.std.proofs.lemmas.Bool.{cases_lt}
use Rattle.std.proofs.lemmas.Option.{none-some}
use Rattle.dmatypes.specs.World.{Target}
use Rattle.vtdbits.proofs.Entries.{large_leaf_looked, look-zero}
use Rattle.vtdbits.specs.Entry.{Spells, look}
use Rattle.vtdbits.specs.declared.entry.SsEntry.{SsEntry}
use Rattle.vtdbits.specs.declared.entry.SsEntry.TheVariants.{Absent, Table, Leaf, LargeLeaf}
use Rattle.tables.specs.declared.entries.TheConstants.{TABLE_ENTRIES}
use Rattle.tables.specs.Changes.{MapsPages, UnmapsPages}
use Rattle.tables.specs.Pool.{IsZeroed, Pool, memory, occurs, word}
use Rattle.tables.specs.Spelled.{AreSpelled}
use Rattle.tables.specs.Tree.{index_in, leaf_from, span, stated, states, table_from, uses}
use Rattle.tables.proofs.walks.Near.{near_table}
use Rattle.tables.proofs.walks.Onward.{leaf_on, table_on}
use Rattle.tables.proofs.walks.Steps.{leaf_under, same_index, same_or_not, table_top, table_under, wide_span}
use Rattle.tables.proofs.walks.Words.{memory_at}
use Rattle.moments.proofs.ReadWords.{spelled_on}
use Rattle.driven.proofs.Changed.{Sound, map_changes, unmap_stays, unused, used_place}
use Rattle.driven.proofs.Walks.{meets}

-- a word of a table of another level spells no leaf of 2 MiB
no_large : (l w : ℕ) (e : SsEntry) (x : Target) → Spells l w e → l ≢ 2 → look 2 w ≡ LargeLeaf x → ⊥
no_large l w Absent x s other at = let t = large_leaf_looked 2 w x at in omega (arith, s, t.2)
no_large l w (Table c) x s other at = let t = large_leaf_looked 2 w x at in omega (arith, s.3, t.2, t.1.0.1)
no_large l w (Leaf y) x s other at = let t = large_leaf_looked 2 w x at in omega (arith, s.2, s.1.1, t.2, t.1.0.1)
no_large l w (LargeLeaf y) x s other at = other s.0

-- so a table in which one stands is of level 2
large_level : (words : List ℕ) (level root p l f k : ℕ) (x : Target) → AreSpelled words level root
    → table_from (memory words) level root p (suc l) ≡ Some f → k < TABLE_ENTRIES → memory words 2 f k ≡ LargeLeaf x → l ≡ 1
large_level words level root p l f k x spelled there inside large =
    ⊎_elim (λ (one : l ≡ 1). one)
    (λ (other : l ≢ 1).
    absurd (no_large (suc l) (word words f k) (memory words (suc l) f k) x (spelled_on words level root p l f k spelled there inside)
    (λ same. other (omega (arith, same))) (sym (memory_at words 2 f k) ∙ large)))
    (same_or_not l 1)

-- and none stands in a zeroed one
no_zeroed : (words : List ℕ) (f k : ℕ) (x : Target) → IsZeroed words f → k < TABLE_ENTRIES → memory words 2 f k ≡ LargeLeaf x → ⊥
no_zeroed words f k x zeroed inside large =
    let clash : Absent ≡ LargeLeaf x =
    sym (look-zero 2) ∙ ap (look 2) (sym (zeroed k inside)) ∙ sym (memory_at words 2 f k) ∙ large in
    absurd cc

-- the word that gave way isn't as before
pub gave_way : (old new : List ℕ) (f k c : ℕ) (x : Target) → memory old 2 f k ≡ LargeLeaf x → memory new 2 f k ≡ Table c
    → word old f k ≢ word new f k
gave_way old new f k c x large named same =
    let clash : LargeLeaf x ≡ Table c =
    sym large ∙ memory_at old 2 f k ∙ ap (look 2) same ∙ sym (memory_at new 2 f k) ∙ named in
    absurd cc

-- ---- an unmap

module _ (old new : Pool) (level root from to : ℕ) (cut : List ℕ) (s : Sound old new level root from to cut)
    (unmaps : UnmapsPages old new level root from to cut) (f k : ℕ) (x : Target) (inside : k < TABLE_ENTRIES)
    (large : memory old.words 2 f k ≡ LargeLeaf x) where
  abbrev Was : ℕ → ℕ → ℕ → Type 0
  Was p l g = table_from (memory old.words) level root p l ≡ Some g

  abbrev Is : ℕ → ℕ → ℕ → Type 0
  Is p l g = table_from (memory new.words) level root p l ≡ Some g

  -- the table in which the leaf stood is none of the lowest, before or after
  pub not_lowest : (p : ℕ) → p / span level ≡ from / span level → Was p 1 f ⊎ Is p 1 f → ⊥
  not_lowest p near (inl was) = absurd (omega (arith, large_level old.words level root p 0 f k x s.before was inside large))
  not_lowest p near (inr is) =
      elim (unmaps.taken p 1 f near is) [
        | inl was ↦ absurd (omega (arith, large_level old.words level root p 0 f k x s.before was inside large))
        | inr fresh ↦ no_zeroed old.words f k x (s.zeroed f fresh.1) inside large
      ]

  module _ (c : ℕ) (named : memory new.words 2 f k ≡ Table c) where
    -- it stays on the way of one of the pages, which reads the word
    abbrev pub OnWay : Type 0
    OnWay = (q : ℕ) × ((from ≤ q) × (q < to) × Was q 2 f × Is q 2 f × (index_in 1 q ≡ k))

    by_page : (p : ℕ) → p / span level ≡ from / span level → Was p 2 f → Is p 2 f → index_in 1 p ≡ k → OnWay
    by_page p near was is index =
        elim (meets 1 from to p s.some) [
          | inl none ↦
              absurd (gave_way old.words new.words f k c x large named
              (subst (λ i. word old.words f i ≡ word new.words f i) index
              (unmap_stays old new level root from to cut s unmaps p 1 f near was is none)))
          | inr one ↦
              let (q, (low, high, same)) = one in
              let wide : p / span 2 ≡ q / span 2 = wide_span 1 p q same in (
                q,
                (
                  low,
                  high,
                  near_table (memory old.words) level root p q 2 f wide was,
                  near_table (memory new.words) level root p q 2 f wide is,
                  sym (same_index 1 p q same) ∙ index,
                ),
              )
        ]

    pub on_way : OnWay
    on_way =
        ⊎_elim
        (λ (used : 0 < uses (memory new.words) level root f).
        let (p, l, (near, is, index)) = used_place old new level root from to f k used inside in
        ⊎_elim
        (λ (was : Was p (suc l) f).
        let two : l ≡ 1 = large_level old.words level root p l f k x s.before was inside large in
        by_page p near (subst (λ n. Was p (suc n) f) two was) (subst (λ n. Is p (suc n) f) two is)
        (subst (λ n. index_in n p ≡ k) two index))
        (λ fresh. absurd (no_zeroed old.words f k x (s.zeroed f fresh.1) inside large))
        (unmaps.taken p (suc l) f near is))
        (λ (not : uses (memory new.words) level root f ≤ 0).
        ⊎_elim
        (λ (gone : 0 < occurs f cut).
        let (p, (low, high, covered, was)) = unmaps.cut_only f gone in
        absurd (omega (arith, large_level old.words level root p 0 f k x s.before was inside large)))
        (λ (kept : occurs f cut ≤ 0).
        absurd (gave_way old.words new.words f k c x large named
        (unused old new level root from to cut s f k inside (omega (arith, not)) (omega (arith, kept)))))
        (cases_lt 0 (occurs f cut)))
        (cases_lt 0 (uses (memory new.words) level root f))

    -- the table that it names then is of level 1 on that way, where none was
    pub came : (q : ℕ) → Is q 2 f → index_in 1 q ≡ k → Is q 1 c
    came q is index =
        sym (table_on (memory new.words) level root q 2 1 f (omega arith) is)
        ∙ table_under (memory new.words) 1 f q 1 (Table c) (λ same. absurd (omega (arith, same)))
        (ap (memory new.words 2 f) index ∙ named)
        ∙ table_top (memory new.words) 0 c q 1 refl

    pub was_none : (q : ℕ) → Was q 2 f → index_in 1 q ≡ k → table_from (memory old.words) level root q 1 ≡ None
    was_none q was index =
        sym (table_on (memory old.words) level root q 2 1 f (omega arith) was)
        ∙ table_under (memory old.words) 1 f q 1 (LargeLeaf x) (λ same. absurd (omega (arith, same)))
        (ap (memory old.words 2 f) index ∙ large)

-- ---- a map

-- no table takes the place of a leaf
module _ (old new : Pool) (level root from to : ℕ) (says : ℕ → Option Target) (s : Sound old new level root from to [])
    (maps : MapsPages old new level root from to says)
    (absent : (p : ℕ) → from ≤ p → p < to → states (memory old.words) level root p ≡ None) where
  pub map_none : (f k c : ℕ) (x : Target) → k < TABLE_ENTRIES → memory old.words 2 f k ≡ LargeLeaf x → memory new.words 2 f k ≡ Table c → ⊥
  map_none f k c x inside large named =
      let (p, (low, high, (l, is, index))) =
      map_changes old new level root from to says s maps f k inside (gave_way old.words new.words f k c x large named) in
      elim (maps.taken p (suc l) f is) [
        | inl was ↦
            let two : l ≡ 1 = large_level old.words level root p l f k x s.before was inside large in
            absurd (stated_there p (subst (λ n. table_from (memory old.words) level root p (suc n) ≡ Some f) two was)
            (subst (λ n. index_in n p ≡ k) two index) (absent p low high))
        | inr free ↦ no_zeroed old.words f k x (s.zeroed f free) inside large
      ]
    where
      met : (p : ℕ) → table_from (memory old.words) level root p 2 ≡ Some f → index_in 1 p ≡ k
          → leaf_from (memory old.words) level root p ≡ Some (record { size = 1; frame = x.frame; rights = x.rights })
      met p was index =
          sym (leaf_on (memory old.words) level root p 2 f was)
          ∙ leaf_under (memory old.words) 1 f p (LargeLeaf x) (ap (memory old.words 2 f) index ∙ large)

      stated_there : (p : ℕ) → table_from (memory old.words) level root p 2 ≡ Some f → index_in 1 p ≡ k
          → states (memory old.words) level root p ≡ None → ⊥
      stated_there p was index none = absurd (none-some _ (sym none ∙ ap (stated p) (met p was index)))
