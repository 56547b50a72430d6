-- A table that is named before it is written.
use Rattle.std.proofs.Common.{◌≡◌, ◌≢◌, ⊎_elim, ℕ, zero, suc, ◌/◌, ◌==◌, false, cond, Some, None, List, refl, sym}
use Rattle.std.proofs.Common.{ap, ◌∙◌, arith}
use Rattle.std.proofs.lemmas.Bool.Decides.{nat_tests}
use Rattle.std.proofs.lemmas.Option.{none-some}
use Rattle.dmatypes.specs.World.{Target}
use Rattle.vtdbits.specs.Entry.{look}
use Rattle.vtdbits.specs.declared.entry.SsEntry.TheVariants.{Absent, Table, LargeLeaf}
use Rattle.tables.specs.Tree.{Memory, index_in, leaf_from, span, table_from}
use Rattle.tables.specs.Pool.{Pool, memory, word}
use Rattle.tables.specs.Changes.{UnmapsPages}
use Rattle.tables.proofs.walks.Agreeing.{table_by}
use Rattle.tables.proofs.walks.Onward.{index_lt, leaf_on, table_on}
use Rattle.tables.proofs.walks.Steps.{leaf_under, same_or_not, table-zero, table_top, table_under}
use Rattle.tables.proofs.walks.Words.{memory_at, zeroed_bare}
use Rattle.moments.specs.Moments.{AreFreeZeroed, Reached, meanwhile}
use Rattle.moments.proofs.Between.{down, meanwhile_at}

-- the words of level 2 have reached memory, and no others
abbrev links : Reached
links = λ l t k. l == 2

not_yet : (old new : List ℕ) (l t k : ℕ) → l ≢ 2 → meanwhile old new links l t k ≡ memory old l t k
not_yet old new l t k other =
    let no : (l == 2) ≡ false = grind (arith, nat_tests) in
    meanwhile_at old new links l t k ∙ ap (λ b. look l (cond b (word new t k) (word old t k))) no ∙ sym (memory_at old l t k)

reached_two : (old new : List ℕ) (t k : ℕ) → meanwhile old new links 2 t k ≡ memory new 2 t k
reached_two old new t k = meanwhile_at old new links 2 t k ∙ sym (memory_at new 2 t k)

-- the way to the table of level 2 is as before
same_way : (old new : List ℕ) (l t p : ℕ) → table_from (meanwhile old new links) l t p 2 ≡ table_from (memory old) l t p 2
same_way old new zero t p = table-zero (meanwhile old new links) t p 2 ∙ sym (table-zero (memory old) t p 2)
same_way old new (suc l) t p =
    ⊎_elim
    (λ (here : 2 ≡ suc l). table_top (meanwhile old new links) l t p 2 here ∙ sym (table_top (memory old) l t p 2 here))
    (λ (other : 2 ≢ suc l).
    table_under (meanwhile old new links) l t p 2 (memory old (suc l) t (index_in l p)) other
    (not_yet old new (suc l) t (index_in l p) (λ e. other (sym e)))
    ∙ table_by (memory old) (meanwhile old new links) l p 2 (memory old (suc l) t (index_in l p)) (λ c e. same_way old new l c p)
    ∙ sym (table_under (memory old) l t p 2 (memory old (suc l) t (index_in l p)) other refl))
    (same_or_not 2 (suc l))

pub was_there : (m : Memory) (level root page table : ℕ) (leaf : Target) → table_from m level root page 2 ≡ Some table
    → m 2 table (index_in 1 page) ≡ LargeLeaf leaf
    → leaf_from m level root page ≡ Some (record { size = 1; frame = leaf.frame; rights = leaf.rights })
was_there m level root page table leaf at was = sym (leaf_on m level root page 2 table at) ∙ leaf_under m 1 table page (LargeLeaf leaf) was

pub goes_missing : (old new : Pool) (level root from to : ℕ) (cut : List ℕ) (page table below : ℕ) (leaf : Target) → AreFreeZeroed old
    → UnmapsPages old new level root from to cut → page / span level ≡ from / span level
    → table_from (memory old.words) level root page 2 ≡ Some table → memory old.words 2 table (index_in 1 page) ≡ LargeLeaf leaf
    → memory new.words 2 table (index_in 1 page) ≡ Table below
    → leaf_from (meanwhile old.words new.words links) level root page ≡ None
goes_missing old new level root from to cut page table below leaf zeroed unmaps near at was is =
    sym (leaf_on now level root page 2 table (same_way old.words new.words level root page ∙ at))
    ∙ leaf_under now 1 table page (Table below) (reached_two old.words new.words table (index_in 1 page) ∙ is)
    ∙ leaf_under now 0 below page Absent (not_yet old.words new.words 1 below (index_in 0 page) (λ e. absurd (omega (arith, e))) ∙ bare)
  where
    now : Memory
    now = meanwhile old.words new.words links

    none : table_from (memory old.words) level root page 1 ≡ None
    none =
        sym (table_on (memory old.words) level root page 2 1 table (omega arith) at)
        ∙ table_under (memory old.words) 1 table page 1 (LargeLeaf leaf) (λ e. absurd (omega (arith, e))) was

    stays : table_from (memory new.words) level root page 2 ≡ Some table
    stays = ⊎_elim (λ on. on) (λ gone. absurd (omega (arith, gone.0))) (unmaps.tables page 2 table near at)

    bare : memory old.words 1 below (index_in 0 page) ≡ Absent
    bare =
        ⊎_elim (λ before. absurd (none-some below (sym none ∙ before)))
        (λ free. zeroed_bare old.words below (zeroed below free.1) 1 (index_in 0 page) (index_lt 0 page))
        (unmaps.taken page 1 below near (down (memory new.words) level root page 1 table below (omega arith) stays is))
