-- A walk while the words of an unmap are written.
use Rattle.std.proofs.Common.{◌≡◌, ◌⊎◌, inl, inr, ⊎_elim, ℕ, zero, suc, ◌/◌, ◌<◌, ◌≤◌, Some, None, List, refl, sym, subst}
use Rattle.std.proofs.Common.{◌∙◌, arith}
use Rattle.dmatypes.specs.World.{Target}
use Rattle.vtdbits.proofs.Entries.{leaf_looked, large_leaf_looked}
use Rattle.vtdbits.specs.declared.entry.SsEntry.{SsEntry}
use Rattle.vtdbits.specs.declared.entry.SsEntry.TheVariants.{Absent, Table, Leaf, LargeLeaf}
use Rattle.tables.specs.declared.entries.TheConstants.{TABLE_ENTRIES}
use Rattle.tables.specs.Tree.{Memory, index_in, leaf_of, leaf_from, table_from, span}
use Rattle.tables.specs.Pool.{Pool, memory, word}
use Rattle.tables.specs.Changes.{IsCovered, UnmapsPages}
use Rattle.tables.proofs.walks.Onward.{IsBare, index_lt, leaf_on, leaf_zeroed}
use Rattle.tables.proofs.walks.Steps.{leaf_under, leaf-zero, table_top}
use Rattle.tables.proofs.walks.Words.{memory_at, zeroed_bare}
use Rattle.moments.specs.Moments.{AreFreeZeroed}
use Rattle.moments.proofs.Between.{IsBetween, IsWhole, down}

record Unmapping (old new : Pool) (now : Memory) (level root from to page : ℕ) (cut : List ℕ) : Type 0 where
  zeroed : AreFreeZeroed old
  unmaps : UnmapsPages old new level root from to cut
  between : IsBetween old new now
  whole : IsWhole old new now
  near : page / span level ≡ from / span level

abbrev Result : Pool → Pool → Memory → ℕ → ℕ → ℕ → ℕ → ℕ → Type 0
Result old new now level root page l t =
    (leaf_from now l t page ≡ leaf_from (memory old.words) level root page)
    ⊎ (leaf_from now l t page ≡ leaf_from (memory new.words) level root page)

-- nothing may be found
abbrev MayMiss : Pool → Pool → ℕ → ℕ → ℕ → Type 0
MayMiss old new level root page =
    (leaf_from (memory old.words) level root page ≡ None) ⊎ (leaf_from (memory new.words) level root page ≡ None)

missed : (old new : Pool) (now : Memory) (level root page l t : ℕ) → MayMiss old new level root page → leaf_from now l t page ≡ None
    → Result old new now level root page l t
missed old new now level root page l t may none =
    elim may [ inl h ↦ inl (none ∙ sym h) | inr h ↦ inr (none ∙ sym h) ]

-- a table that stood on the page's way, or a new one, which was free
abbrev Stood : Pool → Pool → ℕ → ℕ → ℕ → ℕ → ℕ → Type 0
Stood old new level root page l t =
    (table_from (memory old.words) level root page l ≡ Some t)
    ⊎ (IsBare (memory old.words) t × MayMiss old new level root page × (table_from (memory new.words) level root page l ≡ Some t))

abbrev Onward : Pool → Pool → Memory → ℕ → ℕ → ℕ → ℕ → Type 0
Onward old new now level root page l =
    (c : ℕ) → (leaf_from (memory new.words) l c page ≡ leaf_from (memory new.words) level root page)
    → (1 ≤ l → Stood old new level root page l c) → Result old new now level root page l c

-- a page of a span that the pages cover is one of them
covered_in : (from to p : ℕ) → IsCovered from to p → (from ≤ p) × (p < to)
covered_in from to p h = (omega (arith, h.0, h.1), omega (arith, h.0, h.1))

gone : (old new : Pool) (now : Memory) (level root from to page : ℕ) (cut : List ℕ)
    → Unmapping old new now level root from to page cut → IsCovered from to page → leaf_from (memory new.words) level root page ≡ None
gone old new now level root from to page cut g all =
    let is : (from ≤ page) × (page < to) = covered_in from to page all in g.unmaps.gone page is.0 is.1

-- a table that stood is on the way still, or was cut
on_way : (old new : Pool) (now : Memory) (level root from to page : ℕ) (cut : List ℕ) (l c : ℕ)
    → Unmapping old new now level root from to page cut → table_from (memory old.words) level root page l ≡ Some c
    → (table_from (memory new.words) level root page l ≡ Some c)
    ⊎ ((l ≡ 1) × IsBare (memory new.words) c × (leaf_from (memory new.words) level root page ≡ None))
on_way old new now level root from to page cut l c g at =
    ⊎_elim (λ there. inl there)
    (λ gone'. inr (gone'.0, zeroed_bare new.words c (g.unmaps.zeroed c gone'.2), gone old new now level root from to page cut g gone'.1))
    (g.unmaps.tables page l c g.near at)

-- from it the new memory finds what the root states
leaf_there : (old new : Pool) (now : Memory) (level root from to page : ℕ) (cut : List ℕ) (l c : ℕ)
    → Unmapping old new now level root from to page cut → table_from (memory old.words) level root page l ≡ Some c
    → leaf_from (memory new.words) l c page ≡ leaf_from (memory new.words) level root page
leaf_there old new now level root from to page cut l c g at =
    ⊎_elim (λ there. leaf_on (memory new.words) level root page l c there)
    (λ bare. leaf_zeroed (memory new.words) l c page bare.1 ∙ sym bare.2)
    (on_way old new now level root from to page cut l c g at)

-- ---- a table in the place of a large leaf

one_level : (now new : Memory) (c p : ℕ) (e : SsEntry) → leaf_of e 0 (λ d. leaf_from now 0 d p) ≡ leaf_of e 0 (λ d. leaf_from new 0 d p)
one_level now new c p Absent = refl
one_level now new c p (Table d) = leaf-zero now d p ∙ sym (leaf-zero new d p)
one_level now new c p (Leaf x) = refl
one_level now new c p (LargeLeaf x) = refl

whole_leaf : (now new : Memory) (c p : ℕ) → ((i : ℕ) → i < TABLE_ENTRIES → now 1 c i ≡ new 1 c i)
    → leaf_from now 1 c p ≡ leaf_from new 1 c p
whole_leaf now new c p same =
    leaf_under now 0 c p (new 1 c (index_in 0 p)) (same (index_in 0 p) (index_lt 0 p)) ∙ one_level now new c p (new 1 c (index_in 0 p))
    ∙ sym (leaf_under new 0 c p (new 1 c (index_in 0 p)) refl)

replaced : (old new : Pool) (now : Memory) (j t c p : ℕ) (x : Target) → IsWhole old new now
    → memory old.words (suc (suc j)) t (index_in (suc j) p) ≡ LargeLeaf x → now (suc (suc j)) t (index_in (suc j) p) ≡ Table c
    → leaf_from now (suc j) c p ≡ leaf_from (memory new.words) (suc j) c p
replaced old new now j t c p x whole was is =
    let s = large_leaf_looked (suc (suc j)) (word old.words t (index_in (suc j) p)) x
    (sym (memory_at old.words (suc (suc j)) t (index_in (suc j) p)) ∙ was) in
    let z : 0 ≡ j = omega (arith, s.0) in
    subst (λ i. memory old.words (suc (suc i)) t (index_in (suc i) p) ≡ LargeLeaf x → now (suc (suc i)) t (index_in (suc i) p) ≡ Table c
    → leaf_from now (suc i) c p ≡ leaf_from (memory new.words) (suc i) c p) z
    (λ was' is'. whole_leaf now (memory new.words) c p (whole t (index_in 1 p) c x (index_lt 1 p) was' is')) was is

-- ---- one step

-- the new memory's entry names a table
new_table : (old new : Pool) (now : Memory) (level root from to page : ℕ) (cut : List ℕ) (l t c : ℕ)
    → Unmapping old new now level root from to page cut → Onward old new now level root page (suc l)
    → leaf_from (memory new.words) (suc l) c page ≡ leaf_from (memory new.words) level root page
    → (e : SsEntry) → table_from (memory old.words) level root page (suc (suc l)) ≡ Some t
    → memory old.words (suc (suc l)) t (index_in (suc l) page) ≡ e → now (suc (suc l)) t (index_in (suc l) page) ≡ Table c
    → memory new.words (suc (suc l)) t (index_in (suc l) page) ≡ Table c
    → table_from (memory new.words) level root page (suc l) ≡ Some c → Result old new now level root page (suc l) c
new_table old new now level root from to page cut l t c g go n Absent at was read is there =
    let none : leaf_from (memory old.words) level root page ≡ None =
    sym (leaf_on (memory old.words) level root page (suc (suc l)) t at) ∙ leaf_under (memory old.words) (suc l) t page Absent was in
    go c n (λ _. ⊎_elim (λ before. inl before) (λ free. inr (zeroed_bare old.words c (g.zeroed c free.1), inl none, there))
    (g.unmaps.taken page (suc l) c g.near there))
new_table old new now level root from to page cut l t c g go n (Table d) at was read is there =
    let before : table_from (memory old.words) level root page (suc l) ≡ Some d =
    down (memory old.words) level root page (suc l) t d (omega arith) at was in
    go c n (λ _. ⊎_elim
    (λ same. inl (before ∙ same ∙ there))
    (λ bare. ⊎_elim (λ stood. inl stood) (λ free. inr (zeroed_bare old.words c (g.zeroed c free.1), inr bare.2, there))
    (g.unmaps.taken page (suc l) c g.near there))
    (⊎_elim (λ on. inl (sym on)) (λ bare. inr bare) (on_way old new now level root from to page cut (suc l) d g before)))
new_table old new now level root from to page cut l t c g go n (Leaf x) at was read is there =
    let s = leaf_looked (suc (suc l)) (word old.words t (index_in (suc l) page)) x
    (sym (memory_at old.words (suc (suc l)) t (index_in (suc l) page)) ∙ was) in
    absurd (omega (arith, s.0))
new_table old new now level root from to page cut l t c g go n (LargeLeaf x) at was read is there =
    inr (replaced old new now l t c page x g.whole was read ∙ n)

-- the table itself is on the new way, since an entry of it names one
still_there : (old new : Pool) (now : Memory) (level root from to page : ℕ) (cut : List ℕ) (l t : ℕ)
    → Unmapping old new now level root from to page cut → table_from (memory old.words) level root page (suc (suc l)) ≡ Some t
    → table_from (memory new.words) level root page (suc (suc l)) ≡ Some t
still_there old new now level root from to page cut l t g at =
    ⊎_elim (λ on. on) (λ bare. absurd (omega (arith, bare.0))) (on_way old new now level root from to page cut (suc (suc l)) t g at)

new_entry : (old new : Pool) (now : Memory) (level root from to page : ℕ) (cut : List ℕ) (l t : ℕ) (e : SsEntry)
    → Unmapping old new now level root from to page cut → Onward old new now level root page l
    → leaf_from (memory new.words) (suc l) t page ≡ leaf_from (memory new.words) level root page
    → Stood old new level root page (suc l) t
    → memory new.words (suc l) t (index_in l page) ≡ e → now (suc l) t (index_in l page) ≡ e
    → Result old new now level root page (suc l) t
new_entry old new now level root from to page cut l t Absent g go n stood is read =
    inr (leaf_under now l t page Absent read ∙ sym (leaf_under (memory new.words) l t page Absent is) ∙ n)
new_entry old new now level root from to page cut l t (Leaf x) g go n stood is read =
    inr (leaf_under now l t page (Leaf x) read ∙ sym (leaf_under (memory new.words) l t page (Leaf x) is) ∙ n)
new_entry old new now level root from to page cut l t (LargeLeaf x) g go n stood is read =
    inr (leaf_under now l t page (LargeLeaf x) read ∙ sym (leaf_under (memory new.words) l t page (LargeLeaf x) is) ∙ n)
new_entry old new now level root from to page cut zero t (Table c) g go n stood is read =
    inr (leaf_under now 0 t page (Table c) read ∙ leaf-zero now c page ∙ sym (leaf-zero (memory new.words) c page)
    ∙ sym (leaf_under (memory new.words) 0 t page (Table c) is) ∙ n)
new_entry old new now level root from to page cut (suc l) t (Table c) g go n stood is read =
    let n' : leaf_from (memory new.words) (suc l) c page ≡ leaf_from (memory new.words) level root page =
    sym (leaf_under (memory new.words) (suc l) t page (Table c) is) ∙ n in
    let below : Result old new now level root page (suc l) c =
    ⊎_elim
    (λ before.
    new_table old new now level root from to page cut l t c g go n' (memory old.words (suc (suc l)) t (index_in (suc l) page)) before
    refl read is
    (down (memory new.words) level root page (suc l) t c (omega arith)
    (still_there old new now level root from to page cut l t g before) is))
    (λ bare.
    let there : table_from (memory new.words) level root page (suc l) ≡ Some c =
    down (memory new.words) level root page (suc l) t c (omega arith) bare.2 is in
    go c n' (λ _. ⊎_elim (λ stood'. inl stood') (λ free. inr (zeroed_bare old.words c (g.zeroed c free.1), bare.1, there))
    (g.unmaps.taken page (suc l) c g.near there)))
    stood in
    elim below
    [ inl h ↦ inl (leaf_under now (suc l) t page (Table c) read ∙ h) | inr h ↦ inr (leaf_under now (suc l) t page (Table c) read ∙ h) ]

old_entry : (old new : Pool) (now : Memory) (level root from to page : ℕ) (cut : List ℕ) (l t : ℕ) (e : SsEntry)
    → Unmapping old new now level root from to page cut → Onward old new now level root page l
    → table_from (memory old.words) level root page (suc l) ≡ Some t
    → memory old.words (suc l) t (index_in l page) ≡ e → now (suc l) t (index_in l page) ≡ e
    → Result old new now level root page (suc l) t
old_entry old new now level root from to page cut l t Absent g go at is read =
    inl (leaf_under now l t page Absent read ∙ sym (leaf_under (memory old.words) l t page Absent is)
    ∙ leaf_on (memory old.words) level root page (suc l) t at)
old_entry old new now level root from to page cut l t (Leaf x) g go at is read =
    inl (leaf_under now l t page (Leaf x) read ∙ sym (leaf_under (memory old.words) l t page (Leaf x) is)
    ∙ leaf_on (memory old.words) level root page (suc l) t at)
old_entry old new now level root from to page cut l t (LargeLeaf x) g go at is read =
    inl (leaf_under now l t page (LargeLeaf x) read ∙ sym (leaf_under (memory old.words) l t page (LargeLeaf x) is)
    ∙ leaf_on (memory old.words) level root page (suc l) t at)
old_entry old new now level root from to page cut zero t (Table c) g go at is read =
    inl (leaf_under now zero t page (Table c) read ∙ leaf-zero now c page ∙ sym (leaf-zero (memory old.words) c page)
    ∙ sym (leaf_under (memory old.words) zero t page (Table c) is) ∙ leaf_on (memory old.words) level root page 1 t at)
old_entry old new now level root from to page cut (suc l) t (Table c) g go at is read =
    let before : table_from (memory old.words) level root page (suc l) ≡ Some c =
    down (memory old.words) level root page (suc l) t c (omega arith) at is in
    let below : Result old new now level root page (suc l) c =
    go c (leaf_there old new now level root from to page cut (suc l) c g before) (λ _. inl before) in
    elim below
    [ inl h ↦ inl (leaf_under now (suc l) t page (Table c) read ∙ h) | inr h ↦ inr (leaf_under now (suc l) t page (Table c) read ∙ h) ]

walk : (old new : Pool) (now : Memory) (level root from to page : ℕ) (cut : List ℕ)
    → Unmapping old new now level root from to page cut → (l : ℕ) → Onward old new now level root page l
walk old new now level root from to page cut g zero t n stood =
    inr (leaf-zero now t page ∙ sym (leaf-zero (memory new.words) t page) ∙ n)
walk old new now level root from to page cut g (suc l) t n stood =
    let go : Onward old new now level root page l = walk old new now level root from to page cut g l in
    elim (g.between (suc l) t (index_in l page) (index_lt l page)) [
      | inl h ↦ ⊎_elim
          (λ before.
          old_entry old new now level root from to page cut l t (memory old.words (suc l) t (index_in l page)) g go before refl h)
          (λ bare. missed old new now level root page (suc l) t bare.1
          (leaf_under now l t page Absent (h ∙ bare.0 (suc l) (index_in l page) (index_lt l page))))
          (stood (omega arith))
      | inr h ↦
          new_entry old new now level root from to page cut l t (memory new.words (suc l) t (index_in l page)) g go n (stood (omega arith))
          refl h
    ]

top : (old new : Pool) (now : Memory) (level root from to page : ℕ) (cut : List ℕ)
    → Unmapping old new now level root from to page cut → Result old new now level root page level root
top old new now zero root from to page cut g = inr (leaf-zero now root page ∙ sym (leaf-zero (memory new.words) root page))
top old new now (suc l) root from to page cut g =
    walk old new now (suc l) root from to page cut g (suc l) root refl (λ _. inl (table_top (memory old.words) l root page (suc l) refl))

pub unmap_leaf : (old new : Pool) (now : Memory) (level root from to : ℕ) (cut : List ℕ) → AreFreeZeroed old
    → UnmapsPages old new level root from to cut → IsBetween old new now → IsWhole old new now → (page : ℕ)
    → page / span level ≡ from / span level → Result old new now level root page level root
unmap_leaf old new now level root from to cut zeroed unmaps between whole page near =
    top old new now level root from to page cut (record {
      zeroed = zeroed;
      unmaps = unmaps;
      between = between;
      whole = whole;
      near = near;
    })
