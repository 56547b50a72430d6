-- The tables that a walk passes while a map or an unmap is written.
use Rattle.std.proofs.Common.{◌≡◌, ◌⊎◌, inl, inr, ⊎_elim, ℕ, zero, suc, ◌/◌, ◌≤◌, Option, Some, List, refl, sym, ◌∙◌, arith}
use Rattle.std.proofs.lemmas.Option.{none-some, same_Some}
use Rattle.dmatypes.specs.World.{Target}
use Rattle.vtdbits.specs.declared.entry.SsEntry.{SsEntry}
use Rattle.vtdbits.specs.declared.entry.SsEntry.TheVariants.{Absent, Table, Leaf, LargeLeaf}
use Rattle.tables.specs.Tree.{Memory, index_in, span, table_from}
use Rattle.tables.specs.Pool.{Pool, memory}
use Rattle.tables.specs.Changes.{MapsPages, UnmapsPages}
use Rattle.tables.proofs.walks.Onward.{IsBare, index_lt}
use Rattle.tables.proofs.walks.Steps.{same_or_not, table-zero, table_top, table_under}
use Rattle.tables.proofs.walks.Words.{zeroed_bare}
use Rattle.moments.specs.Moments.{AreFreeZeroed}
use Rattle.moments.proofs.Between.{IsBetween, down}

-- a table that a walk passes is the one where it begins, or lies below one that an entry of that names
abbrev pub Step : Memory → ℕ → ℕ → ℕ → ℕ → ℕ → Type 0
Step m l t p w c =
    ((w ≡ suc l) × (t ≡ c)) ⊎ ((d : ℕ) × (m (suc l) t (index_in l p) ≡ Table d) × (table_from m l d p w ≡ Some c))

pub step : (m : Memory) (l t p w c : ℕ) → table_from m (suc l) t p w ≡ Some c → Step m l t p w c
step m l t p w c h =
    ⊎_elim (λ same. inl (same, same_Some t c (sym (table_top m l t p w same) ∙ h)))
    (λ other. inr (by_entry (m (suc l) t (index_in l p)) refl (λ e is. sym (table_under m l t p w e other is) ∙ h))) (same_or_not w (suc l))
  where
    by_entry : (e : SsEntry) → m (suc l) t (index_in l p) ≡ e
        → ((e' : SsEntry) → m (suc l) t (index_in l p) ≡ e' → Rattle.tables.specs.Tree.table_of e' (λ d. table_from m l d p w) ≡ Some c)
        → (d : ℕ) × (m (suc l) t (index_in l p) ≡ Table d) × (table_from m l d p w ≡ Some c)
    by_entry Absent is on = absurd (none-some c (on Absent is))
    by_entry (Table d) is on = (d, is, on (Table d) is)
    by_entry (Leaf x) is on = absurd (none-some c (on (Leaf x) is))
    by_entry (LargeLeaf x) is on = absurd (none-some c (on (LargeLeaf x) is))

clash : (c : ℕ) → Absent ≡ Table c → ⊥
clash c h = cc

nowhere : (m : Memory) (d p w c : ℕ) → table_from m 0 d p w ≡ Some c → ⊥
nowhere m d p w c h = none-some c (sym (table-zero m d p w) ∙ h)

module _ (old new : Pool) (now : Memory) (level root from to page : ℕ) (zeroed : AreFreeZeroed old) (between : IsBetween old new now) where
  abbrev Before : ℕ → ℕ → Type 0
  Before l t = table_from (memory old.words) level root page l ≡ Some t

  abbrev After : ℕ → ℕ → Type 0
  After l t = table_from (memory new.words) level root page l ≡ Some t

  -- ---- a map

  module _ (says : ℕ → Option Target) (maps : MapsPages old new level root from to says) where
    map_walk : (l t w c : ℕ) → (1 ≤ l → After l t) → (1 ≤ l → Before l t ⊎ IsBare (memory old.words) t)
        → table_from now l t page w ≡ Some c → After w c
    map_walk zero t w c at stood h = absurd (nowhere now t page w c h)
    map_walk (suc zero) t w c at stood h =
        elim (step now 0 t page w c h)
        [ inl here ↦ rw here.0 (rw (← here.1) (at (omega arith))) | inr below ↦ absurd (nowhere now below.0 page w c below.2) ]
    map_walk (suc (suc l)) t w c at stood h =
        elim (step now (suc l) t page w c h) [
          | inl here ↦ rw here.0 (rw (← here.1) (at (omega arith)))
          | inr below ↦ elim (between (suc (suc l)) t (index_in (suc l) page) (index_lt (suc l) page)) [
            | inl was ↦ ⊎_elim
                (λ before.
                let d : Before (suc l) below.0 =
                down (memory old.words) level root page (suc l) t below.0 (omega arith) before (sym was ∙ below.1) in
                map_walk (suc l) below.0 w c (λ _. maps.tables page (suc l) below.0 d) (λ _. inl d) below.2)
                (λ bare. absurd (clash below.0
                (sym (bare (suc (suc l)) (index_in (suc l) page) (index_lt (suc l) page)) ∙ sym was ∙ below.1)))
                (stood (omega arith))
            | inr is ↦
                let d : After (suc l) below.0 =
                down (memory new.words) level root page (suc l) t below.0 (omega arith) (at (omega arith)) (sym is ∙ below.1) in
                map_walk (suc l) below.0 w c (λ _. d)
                (λ _. ⊎_elim (λ b. inl b) (λ free. inr (zeroed_bare old.words below.0 (zeroed below.0 free)))
                (maps.taken page (suc l) below.0 d)) below.2
          ]
        ]

  -- ---- an unmap

  module _ (cut : List ℕ) (unmaps : UnmapsPages old new level root from to cut) (near : page / span level ≡ from / span level) where
    -- a table stood on the way, or is a new one there, which was free
    abbrev Stood : ℕ → ℕ → Type 0
    Stood l t = Before l t ⊎ (IsBare (memory old.words) t × After l t)

    -- one that stood and isn't of level 1 stays
    stays : (l t : ℕ) → 2 ≤ l → Before l t → After l t
    stays l t high at = ⊎_elim (λ on. on) (λ gone. absurd (omega (arith, gone.0, high))) (unmaps.tables page l t near at)

    standing : (l t : ℕ) → After l t → Stood l t
    standing l t at =
        ⊎_elim (λ before. inl before) (λ free. inr (zeroed_bare old.words t (zeroed t free.1), at)) (unmaps.taken page l t near at)

    here_too : (l t w c : ℕ) → w ≡ l → t ≡ c → Stood l t → Before w c ⊎ After w c
    here_too l t w c at same (inl before) = inl (rw at (rw (← same) before))
    here_too l t w c at same (inr bare) = inr (rw at (rw (← same) bare.1))

    unmap_walk : (l t w c : ℕ) → (1 ≤ l → Stood l t) → table_from now l t page w ≡ Some c → Before w c ⊎ After w c
    unmap_walk zero t w c stood h = absurd (nowhere now t page w c h)
    unmap_walk (suc zero) t w c stood h =
        elim (step now 0 t page w c h)
        [ inl here ↦ here_too 1 t w c here.0 here.1 (stood (omega arith)) | inr below ↦ absurd (nowhere now below.0 page w c below.2) ]
    unmap_walk (suc (suc l)) t w c stood h =
        elim (step now (suc l) t page w c h) [
          | inl here ↦ here_too (suc (suc l)) t w c here.0 here.1 (stood (omega arith))
          | inr below ↦ elim (between (suc (suc l)) t (index_in (suc l) page) (index_lt (suc l) page)) [
            | inl was ↦ ⊎_elim
                (λ before. unmap_walk (suc l) below.0 w c
                (λ _. inl (down (memory old.words) level root page (suc l) t below.0 (omega arith) before (sym was ∙ below.1))) below.2)
                (λ bare. absurd (clash below.0
                (sym (bare.0 (suc (suc l)) (index_in (suc l) page) (index_lt (suc l) page)) ∙ sym was ∙ below.1)))
                (stood (omega arith))
            | inr is ↦
                let on : After (suc (suc l)) t =
                ⊎_elim (λ before. stays (suc (suc l)) t (omega arith) before) (λ bare. bare.1) (stood (omega arith)) in
                let d : After (suc l) below.0 =
                down (memory new.words) level root page (suc l) t below.0 (omega arith) on (sym is ∙ below.1) in
                unmap_walk (suc l) below.0 w c (λ _. standing (suc l) below.0 d) below.2
          ]
        ]

pub map_passed : (old new : Pool) (now : Memory) (level root from to page : ℕ) (says : ℕ → Option Target) → AreFreeZeroed old
    → IsBetween old new now → MapsPages old new level root from to says → (w c : ℕ) → table_from now level root page w ≡ Some c
    → table_from (memory new.words) level root page w ≡ Some c
map_passed old new now zero root from to page says zeroed between maps w c h = absurd (nowhere now root page w c h)
map_passed old new now (suc l) root from to page says zeroed between maps w c h =
    map_walk old new now (suc l) root from to page zeroed between says maps (suc l) root w c
    (λ _. table_top (memory new.words) l root page (suc l) refl) (λ _. inl (table_top (memory old.words) l root page (suc l) refl)) h

pub unmap_passed : (old new : Pool) (now : Memory) (level root from to page : ℕ) (cut : List ℕ) → AreFreeZeroed old
    → IsBetween old new now → UnmapsPages old new level root from to cut → page / span level ≡ from / span level → (w c : ℕ)
    → table_from now level root page w ≡ Some c
    → (table_from (memory old.words) level root page w ≡ Some c) ⊎ (table_from (memory new.words) level root page w ≡ Some c)
unmap_passed old new now zero root from to page cut zeroed between unmaps near w c h = absurd (nowhere now root page w c h)
unmap_passed old new now (suc l) root from to page cut zeroed between unmaps near w c h =
    unmap_walk old new now (suc l) root from to page zeroed between cut unmaps near (suc l) root w c
    (λ _. inl (table_top (memory old.words) l root page (suc l) refl)) h
