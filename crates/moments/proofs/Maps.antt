-- A walk while the words of a map are written.
use Rattle.std.proofs.Common.{◌≡◌, ◌⊎◌, inl, inr, ⊎_elim, ℕ, zero, suc, ◌/◌, ◌<◌, ◌≤◌, Option, Some, None, refl, sym, ap, ◌∙◌, arith}
use Rattle.std.proofs.lemmas.Bool.{cases_lt}
use Rattle.std.proofs.lemmas.Option.{none-some, same_Some}
use Rattle.dmatypes.specs.World.{Target}
use Rattle.vtdbits.specs.declared.entry.SsEntry.{SsEntry}
use Rattle.vtdbits.specs.declared.entry.SsEntry.TheVariants.{Absent, Table, Leaf, LargeLeaf}
use Rattle.tables.specs.Tree.{Memory, LeafEntry, index_in, leaf_from, table_from, span, stated, states}
use Rattle.tables.specs.Pool.{Pool, memory}
use Rattle.tables.specs.Changes.{MapsPages}
use Rattle.tables.proofs.walks.Near.{smaller}
use Rattle.tables.proofs.walks.Onward.{IsBare, index_lt, leaf_on}
use Rattle.tables.proofs.walks.Steps.{leaf_under, leaf-zero, table_top}
use Rattle.tables.proofs.walks.Words.{zeroed_bare}
use Rattle.moments.specs.Moments.{AreFreeZeroed}
use Rattle.moments.proofs.Between.{IsBetween, down}

pub nothing_stated : (p : ℕ) (o : Option LeafEntry) → stated p o ≡ None → o ≡ None
nothing_stated p None h = refl
nothing_stated p (Some x) h = absurd (none-some _ (sym h))

record Mapping (old new : Pool) (now : Memory) (level root from to page : ℕ) (says : ℕ → Option Target) : Type 0 where
  zeroed : AreFreeZeroed old
  maps : MapsPages old new level root from to says
  absent : from ≤ page → page < to → leaf_from (memory old.words) level root page ≡ None
  between : IsBetween old new now
  near : page / span level ≡ from / span level

-- from a table of the level the walk finds what the root states before or after
abbrev Result : Pool → Pool → Memory → ℕ → ℕ → ℕ → ℕ → ℕ → Type 0
Result old new now level root page l t =
    (leaf_from now l t page ≡ leaf_from (memory old.words) level root page)
    ⊎ (leaf_from now l t page ≡ leaf_from (memory new.words) level root page)

-- the table stands there before, or was free, and then the page is absent
abbrev Stood : Pool → ℕ → ℕ → ℕ → ℕ → ℕ → Type 0
Stood old level root page l t =
    (table_from (memory old.words) level root page l ≡ Some t)
    ⊎ (IsBare (memory old.words) t × (leaf_from (memory old.words) level root page ≡ None))

-- how the walk goes on
abbrev Onward : Pool → Pool → Memory → ℕ → ℕ → ℕ → ℕ → Type 0
Onward old new now level root page l =
    (c : ℕ) → (leaf_from (memory new.words) l c page ≡ leaf_from (memory new.words) level root page)
    → (1 ≤ l → table_from (memory new.words) level root page l ≡ Some c) → (1 ≤ l → Stood old level root page l c)
    → Result old new now level root page l c

-- a leaf that was on the page's way is there, and so the way goes no deeper
no_leaf : (old new : Pool) (now : Memory) (level root from to page : ℕ) (says : ℕ → Option Target) (l c : ℕ) (x : LeafEntry)
    → Mapping old new now level root from to page says → leaf_from (memory old.words) level root page ≡ Some x → x.size ≡ l
    → leaf_from (memory new.words) l c page ≡ leaf_from (memory new.words) level root page → ⊥
no_leaf old new now level root from to page says l c x g there size n =
    let outside : (page < from) ⊎ (to ≤ page) =
    ⊎_elim (λ low. inl low)
    (λ high. ⊎_elim (λ inside. absurd (none-some x (sym (g.absent high inside) ∙ there))) (λ past. inr past) (cases_lt page to))
    (cases_lt page from) in
    let stays : leaf_from (memory new.words) l c page ≡ Some x = n ∙ g.maps.elsewhere page g.near outside ∙ there in
    let lt : x.size < l = smaller (memory new.words) l c page x stays in
    absurd (omega (arith, lt, size))

stood_below : (old new : Pool) (now : Memory) (level root from to page : ℕ) (says : ℕ → Option Target) (l t c : ℕ) (e : SsEntry)
    → Mapping old new now level root from to page says → 1 ≤ l → table_from (memory old.words) level root page (suc l) ≡ Some t
    → memory old.words (suc l) t (index_in l page) ≡ e
    → leaf_from (memory new.words) l c page ≡ leaf_from (memory new.words) level root page
    → table_from (memory new.words) level root page l ≡ Some c → Stood old level root page l c
stood_below old new now level root from to page says l t c Absent g some at is n there =
    ⊎_elim (λ before. inl before)
    (λ free. inr (
      zeroed_bare old.words c (g.zeroed c free),
      sym (leaf_on (memory old.words) level root page (suc l) t at) ∙ leaf_under (memory old.words) l t page Absent is,
    ))
    (g.maps.taken page l c there)
stood_below old new now level root from to page says l t c (Table d) g some at is n there =
    let before : table_from (memory old.words) level root page l ≡ Some d = down (memory old.words) level root page l t d some at is in
    let same : d ≡ c = same_Some d c (sym (g.maps.tables page l d before) ∙ there) in
    inl (before ∙ ap (λ x. Some x) same)
stood_below old new now level root from to page says l t c (Leaf x) g some at is n there =
    absurd (no_leaf old new now level root from to page says l c _ g
    (sym (leaf_on (memory old.words) level root page (suc l) t at) ∙ leaf_under (memory old.words) l t page (Leaf x) is) refl n)
stood_below old new now level root from to page says l t c (LargeLeaf x) g some at is n there =
    absurd (no_leaf old new now level root from to page says l c _ g
    (sym (leaf_on (memory old.words) level root page (suc l) t at) ∙ leaf_under (memory old.words) l t page (LargeLeaf x) is) refl n)

new_entry : (old new : Pool) (now : Memory) (level root from to page : ℕ) (says : ℕ → Option Target) (l t : ℕ) (e : SsEntry)
    → Mapping old new now level root from to page says → Onward old new now level root page l
    → leaf_from (memory new.words) (suc l) t page ≡ leaf_from (memory new.words) level root page
    → table_from (memory new.words) level root page (suc l) ≡ Some t → Stood old level root page (suc l) t
    → memory new.words (suc l) t (index_in l page) ≡ e → now (suc l) t (index_in l page) ≡ e
    → Result old new now level root page (suc l) t
new_entry old new now level root from to page says l t Absent g go n at stood is read =
    inr (leaf_under now l t page Absent read ∙ sym (leaf_under (memory new.words) l t page Absent is) ∙ n)
new_entry old new now level root from to page says l t (Leaf x) g go n at stood is read =
    inr (leaf_under now l t page (Leaf x) read ∙ sym (leaf_under (memory new.words) l t page (Leaf x) is) ∙ n)
new_entry old new now level root from to page says l t (LargeLeaf x) g go n at stood is read =
    inr (leaf_under now l t page (LargeLeaf x) read ∙ sym (leaf_under (memory new.words) l t page (LargeLeaf x) is) ∙ n)
new_entry old new now level root from to page says l t (Table c) g go n at stood is read =
    let n' : leaf_from (memory new.words) l c page ≡ leaf_from (memory new.words) level root page =
    sym (leaf_under (memory new.words) l t page (Table c) is) ∙ n in
    let there : 1 ≤ l → table_from (memory new.words) level root page l ≡ Some c =
    λ some. down (memory new.words) level root page l t c some at is in
    let below : Result old new now level root page l c = go c n' there (λ some. ⊎_elim
    (λ before. stood_below old new now level root from to page says l t c (memory old.words (suc l) t (index_in l page)) g some before refl
    n' (there some))
    (λ bare. ⊎_elim (λ before. inl before) (λ free. inr (zeroed_bare old.words c (g.zeroed c free), bare.1))
    (g.maps.taken page l c (there some)))
    stood) in
    elim below
    [ inl h ↦ inl (leaf_under now l t page (Table c) read ∙ h) | inr h ↦ inr (leaf_under now l t page (Table c) read ∙ h) ]

old_entry : (old new : Pool) (now : Memory) (level root from to page : ℕ) (says : ℕ → Option Target) (l t : ℕ) (e : SsEntry)
    → Mapping old new now level root from to page says → Onward old new now level root page l
    → table_from (memory old.words) level root page (suc l) ≡ Some t
    → memory old.words (suc l) t (index_in l page) ≡ e → now (suc l) t (index_in l page) ≡ e
    → Result old new now level root page (suc l) t
old_entry old new now level root from to page says l t Absent g go at is read =
    inl (leaf_under now l t page Absent read ∙ sym (leaf_under (memory old.words) l t page Absent is)
    ∙ leaf_on (memory old.words) level root page (suc l) t at)
old_entry old new now level root from to page says l t (Leaf x) g go at is read =
    inl (leaf_under now l t page (Leaf x) read ∙ sym (leaf_under (memory old.words) l t page (Leaf x) is)
    ∙ leaf_on (memory old.words) level root page (suc l) t at)
old_entry old new now level root from to page says l t (LargeLeaf x) g go at is read =
    inl (leaf_under now l t page (LargeLeaf x) read ∙ sym (leaf_under (memory old.words) l t page (LargeLeaf x) is)
    ∙ leaf_on (memory old.words) level root page (suc l) t at)
old_entry old new now level root from to page says zero t (Table c) g go at is read =
    inl (leaf_under now zero t page (Table c) read ∙ leaf-zero now c page ∙ sym (leaf-zero (memory old.words) c page)
    ∙ sym (leaf_under (memory old.words) zero t page (Table c) is) ∙ leaf_on (memory old.words) level root page 1 t at)
old_entry old new now level root from to page says (suc l) t (Table c) g go at is read =
    let before : table_from (memory old.words) level root page (suc l) ≡ Some c =
    down (memory old.words) level root page (suc l) t c (omega arith) at is in
    let there : table_from (memory new.words) level root page (suc l) ≡ Some c = g.maps.tables page (suc l) c before in
    let below : Result old new now level root page (suc l) c =
    go c (leaf_on (memory new.words) level root page (suc l) c there) (λ _. there) (λ _. inl before) in
    elim below
    [ inl h ↦ inl (leaf_under now (suc l) t page (Table c) read ∙ h) | inr h ↦ inr (leaf_under now (suc l) t page (Table c) read ∙ h) ]

walk : (old new : Pool) (now : Memory) (level root from to page : ℕ) (says : ℕ → Option Target)
    → Mapping old new now level root from to page says → (l : ℕ) → Onward old new now level root page l
walk old new now level root from to page says g zero t n at stood =
    inr (leaf-zero now t page ∙ sym (leaf-zero (memory new.words) t page) ∙ n)
walk old new now level root from to page says g (suc l) t n at stood =
    let go : Onward old new now level root page l = walk old new now level root from to page says g l in
    elim (g.between (suc l) t (index_in l page) (index_lt l page)) [
      | inl h ↦ ⊎_elim
          (λ before.
          old_entry old new now level root from to page says l t (memory old.words (suc l) t (index_in l page)) g go before refl h)
          (λ bare. inl (leaf_under now l t page Absent (h ∙ bare.0 (suc l) (index_in l page) (index_lt l page)) ∙ sym bare.1))
          (stood (omega arith))
      | inr h ↦
          new_entry old new now level root from to page says l t (memory new.words (suc l) t (index_in l page)) g go n (at (omega arith))
          (stood (omega arith)) refl h
    ]

top : (old new : Pool) (now : Memory) (level root from to page : ℕ) (says : ℕ → Option Target)
    → Mapping old new now level root from to page says → Result old new now level root page level root
top old new now zero root from to page says g =
    inr (leaf-zero now root page ∙ sym (leaf-zero (memory new.words) root page))
top old new now (suc l) root from to page says g =
    walk old new now (suc l) root from to page says g (suc l) root refl (λ _. table_top (memory new.words) l root page (suc l) refl)
    (λ _. inl (table_top (memory old.words) l root page (suc l) refl))

pub map_leaf : (old new : Pool) (now : Memory) (level root from to : ℕ) (says : ℕ → Option Target) → AreFreeZeroed old
    → MapsPages old new level root from to says
    → ((p : ℕ) → from ≤ p → p < to → states (memory old.words) level root p ≡ None) → IsBetween old new now → (page : ℕ)
    → page / span level ≡ from / span level → Result old new now level root page level root
map_leaf old new now level root from to says zeroed maps absent between page near =
    top old new now level root from to page says (record {
      zeroed = zeroed;
      maps = maps;
      absent = λ low high. nothing_stated page (leaf_from (memory old.words) level root page) (absent page low high);
      between = between;
      near = near;
    })
