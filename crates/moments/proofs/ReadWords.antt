-- Every word that a walk reads spells what it sees there.
use Rattle.std.proofs.Common.{◌≡◌, inl, inr, ⊎_elim, ℕ, zero, suc, ◌+◌, ◌/◌, ◌<◌, Bool, true, false, cond, List, Some, sym, ap, subst}
use Rattle.std.proofs.Common.{◌∙◌, arith}
use Rattle.std.proofs.lemmas.Option.{none-some}
use Rattle.dmatypes.specs.Page.{levels, pages_end}
use Rattle.dmatypes.specs.declared.width.Width.{Width}
use Rattle.vtdbits.proofs.Entries.{look-zero}
use Rattle.vtdbits.specs.Entry.{Spells, look}
use Rattle.vtdbits.specs.declared.entry.SsEntry.TheVariants.{Absent}
use Rattle.tables.specs.declared.entries.TheConstants.{TABLE_ENTRIES}
use Rattle.tables.specs.Pool.{Pool, memory, word}
use Rattle.tables.specs.Spelled.{AreSpelled}
use Rattle.tables.specs.Tree.{index_in, span, table_from}
use Rattle.tables.proofs.spelled.Stays.{seen_spelled, spelled_at}
use Rattle.tables.proofs.walks.Onward.{index_lt}
use Rattle.tables.proofs.walks.Steps.{table-zero}
use Rattle.tables.proofs.walks.Words.{memory_at}
use Rattle.moments.specs.Laws.{WordsReadAreSpelled}
use Rattle.moments.specs.Moments.{IsMap, IsUnmap, Reached, meanwhile, word_read}
use Rattle.moments.proofs.Between.{between, meanwhile_at}
use Rattle.moments.proofs.Passed.{map_passed, step, unmap_passed}
use Rattle.moments.proofs.Walks.{near}

-- a word of a table on a way
pub spelled_on : (words : List ℕ) (level root p l t k : ℕ) → AreSpelled words level root
    → table_from (memory words) level root p (suc l) ≡ Some t → k < TABLE_ENTRIES
    → Spells (suc l) (word words t k) (memory words (suc l) t k)
spelled_on words zero root p l t k spelled at inside = absurd (none-some t (sym (table-zero (memory words) root p (suc l)) ∙ at))
spelled_on words (suc level) root p l t k spelled at inside =
    elim (step (memory words) level root p (suc l) t at) [
      | inl here ↦
          let same : level ≡ l = omega (arith, here.0) in
          subst (λ n. Spells (suc n) (word words t k) (memory words (suc n) t k)) same
          (subst (λ n. Spells (suc level) (word words n k) (memory words (suc level) n k)) here.1
          (spelled_at words level root k spelled inside).0)
      | inr below ↦
          spelled_on words level below.0 p l t k
          ((spelled_at words level root (index_in level p) spelled (index_lt level p)).1 below.0 below.1) below.2 inside
    ]

-- and one that is 0
zero_spelled : (words : List ℕ) (l t k : ℕ) → word words t k ≡ 0 → Spells l (word words t k) (memory words l t k)
zero_spelled words l t k zero_there =
    seen_spelled words l t k Absent (memory_at words l t k ∙ ap (look l) zero_there ∙ look-zero l) (λ _. zero_there)

pub by_reached : (b : Bool) (x y l : ℕ) → Spells l x (look l x) → Spells l y (look l y) → Spells l (cond b x y) (look l (cond b x y))
by_reached true x y l new old = new
by_reached false x y l new old = old

module _ (old new : Pool) (width : Width) (root page : ℕ) (reached : Reached) (before : AreSpelled old.words (levels width) root)
    (after : AreSpelled new.words (levels width) root) where
  abbrev Way : List ℕ → ℕ → ℕ → Type 0
  Way words l t = table_from (memory words) (levels width) root page (suc l) ≡ Some t

  abbrev ReadHere : ℕ → ℕ → Type 0
  ReadHere l t =
      Spells (suc l) (word_read old.words new.words reached (suc l) t (index_in l page))
      (meanwhile old.words new.words reached (suc l) t (index_in l page))

  -- what is read of a table where both its words spell
  read : (l t : ℕ) → Spells (suc l) (word old.words t (index_in l page)) (memory old.words (suc l) t (index_in l page))
      → Spells (suc l) (word new.words t (index_in l page)) (memory new.words (suc l) t (index_in l page))
      → ReadHere l t
  read l t was is =
      let k : ℕ = index_in l page in
      subst (λ e. Spells (suc l) (cond (reached (suc l) t k) (word new.words t k) (word old.words t k)) e)
      (sym (meanwhile_at old.words new.words reached (suc l) t k))
      (by_reached (reached (suc l) t k) (word new.words t k) (word old.words t k) (suc l)
      (subst (λ e. Spells (suc l) (word new.words t k) e) (memory_at new.words (suc l) t k) is)
      (subst (λ e. Spells (suc l) (word old.words t k) e) (memory_at old.words (suc l) t k) was))

  old_on : (l t : ℕ) → Way old.words l t
      → Spells (suc l) (word old.words t (index_in l page)) (memory old.words (suc l) t (index_in l page))
  old_on l t at = spelled_on old.words (levels width) root page l t (index_in l page) before at (index_lt l page)

  new_on : (l t : ℕ) → Way new.words l t
      → Spells (suc l) (word new.words t (index_in l page)) (memory new.words (suc l) t (index_in l page))
  new_on l t at = spelled_on new.words (levels width) root page l t (index_in l page) after at (index_lt l page)

  map_reads : (range : _) (says : _) → IsMap old new width root range says → (l t : ℕ)
      → table_from (meanwhile old.words new.words reached) (levels width) root page (suc l) ≡ Some t
      → ReadHere l t
  map_reads range says map l t at =
      let then : Way new.words l t =
      map_passed old new (meanwhile old.words new.words reached) (levels width) root range.first (range.first + range.pages) page says
      map.zeroed (between old new reached) map.maps (suc l) t at in
      read l t
      (⊎_elim (λ was. old_on l t was)
      (λ free. zero_spelled old.words (suc l) t (index_in l page) (map.zeroed t free (index_in l page) (index_lt l page)))
      (map.maps.taken page (suc l) t then))
      (new_on l t then)

  unmap_reads : (range : _) (cut : List ℕ) → IsUnmap old new width root range cut → page < pages_end width → (l t : ℕ)
      → table_from (meanwhile old.words new.words reached) (levels width) root page (suc l) ≡ Some t
      → ReadHere l t
  unmap_reads range cut unmap small l t at =
      let same : page / span (levels width) ≡ range.first / span (levels width) = near width range page unmap.below small in
      elim (unmap_passed old new (meanwhile old.words new.words reached) (levels width) root range.first (range.first + range.pages) page
      cut unmap.zeroed (between old new reached) unmap.unmaps same (suc l) t at) [
        | inl was ↦ read l t (old_on l t was)
            (⊎_elim (λ on. new_on l t on)
            (λ gone. zero_spelled new.words (suc l) t (index_in l page)
            (unmap.unmaps.zeroed t gone.2 (index_in l page) (index_lt l page)))
            (unmap.unmaps.tables page (suc l) t same was))
        | inr is ↦ read l t
            (⊎_elim (λ was. old_on l t was)
            (λ free. zero_spelled old.words (suc l) t (index_in l page) (unmap.zeroed t free.1 (index_in l page) (index_lt l page)))
            (unmap.unmaps.taken page (suc l) t same is))
            (new_on l t is)
      ]

pub words_spelled : WordsReadAreSpelled
words_spelled old new width root range says cut reached page (inl map) before after small =
    map_reads old new width root page reached before after range says map
words_spelled old new width root range says cut reached page (inr unmap) before after small =
    unmap_reads old new width root page reached before after range cut unmap small
