-- A walk that begins at a table in its place is one from the root that reads the levels above as before the call.
use Rattle.std.proofs.Common.{◌≡◌, ◌≢◌, inl, inr, ⊎_elim, ℕ, zero, suc, ◌+◌, ◌<◌, ◌≤◌, true, false, cond, List, [], ◌∷◌}
use Rattle.std.proofs.Common.{Some, nat_eq, nat_lt, refl, sym, ap, subst, ◌∙◌, arith}
use Rattle.std.proofs.lemmas.Bool.{cases_lt}
use Rattle.std.proofs.lemmas.Bool.Decides.{nat_tests}
use Rattle.std.proofs.lemmas.Option.{none-some}
use Rattle.dmatypes.specs.Page.{levels}
use Rattle.vtdbits.specs.Entry.{look}
use Rattle.vtdbits.specs.declared.entry.SsEntry.{SsEntry}
use Rattle.vtdbits.specs.declared.entry.SsEntry.TheVariants.{Absent, Table, Leaf, LargeLeaf}
use Rattle.tables.specs.Pool.{Moment, memory, word}
use Rattle.tables.specs.Tree.{Memory, index_in, leaf_from, leaf_of, table_from, table_of}
use Rattle.tables.proofs.walks.Agreeing.{leaf_by, table_by}
use Rattle.tables.proofs.walks.Onward.{deeper, leaf_on, table_on}
use Rattle.tables.proofs.walks.Steps.{leaf-suc, leaf-zero, same_or_not, table-suc, table-zero, table_top, table_under}
use Rattle.tables.proofs.walks.Words.{memory_at}
use Rattle.moments.specs.Moments.{GoesDown, IsFilledFirst, Reached, in_place, meanwhile, words_at}
use Rattle.moments.proofs.Between.{meanwhile_at}
use Rattle.moments.proofs.InPlace.{in_place_at}
use Rattle.unit.specs.Caches.{CachedNonLeaf}
use Rattle.engine.specs.Domains.{Domain}
use Rattle.quiet.specs.Laws.{WalksFromTablesAreFromRoot, WalksFromTablesInPlaceAreFromRoot}
use Rattle.quiet.specs.Quiet.{GoesOnFromRoot, IsInPlace}

-- ---- a memory that is one above a level, and another from there down

module _ (old now whole : Memory) (w : ℕ) (above : (l f k : ℕ) → w < l → whole l f k ≡ old l f k)
    (below : (l f k : ℕ) → l ≤ w → whole l f k ≡ now l f k) where
  -- the way to a table of the level
  same_way : (l t p c : ℕ) → table_from old l t p w ≡ Some c → table_from whole l t p w ≡ Some c
  same_way zero t p c at = absurd (none-some c (sym (table-zero old t p w) ∙ at))
  same_way (suc l) t p c at = elim (same_or_not w (suc l)) [
    | inl top ↦ table_top whole l t p w top ∙ sym (table_top old l t p w top) ∙ at
    | inr ne ↦ by_entry ne (old (suc l) t (index_in l p)) refl (λ c' h. same_way l c' p c h)
  ]
    where
      by_entry : w ≢ suc l → (e : SsEntry) → old (suc l) t (index_in l p) ≡ e
          → ((c' : ℕ) → table_from old l c' p w ≡ Some c → table_from whole l c' p w ≡ Some c) → table_from whole (suc l) t p w ≡ Some c
      by_entry ne Absent is go = absurd (none-some c (sym (table_under old l t p w Absent ne is) ∙ at))
      by_entry ne (Table c') is go =
          let deep : w ≤ suc l = deeper old (suc l) t p w c at in
          let high : w < suc l = omega (arith, deep, ne) in
          table_under whole l t p w (Table c') ne (above (suc l) t (index_in l p) high ∙ is)
          ∙ go c' (sym (table_under old l t p w (Table c') ne is) ∙ at)
      by_entry ne (Leaf x) is go = absurd (none-some c (sym (table_under old l t p w (Leaf x) ne is) ∙ at))
      by_entry ne (LargeLeaf x) is go = absurd (none-some c (sym (table_under old l t p w (LargeLeaf x) ne is) ∙ at))

  -- and the way on from there
  low_leaf : (l t p : ℕ) → l ≤ w → leaf_from whole l t p ≡ leaf_from now l t p
  low_leaf zero t p le = leaf-zero whole t p ∙ sym (leaf-zero now t p)
  low_leaf (suc l) t p le =
      leaf-suc whole l t p ∙ ap (λ e. leaf_of e l (λ c. leaf_from whole l c p)) (below (suc l) t (index_in l p) le)
      ∙ leaf_by now whole l p (now (suc l) t (index_in l p)) (λ c e. low_leaf l c p (omega (arith, le))) ∙ sym (leaf-suc now l t p)

  low_table : (l t p v : ℕ) → l ≤ w → table_from whole l t p v ≡ table_from now l t p v
  low_table zero t p v le = table-zero whole t p v ∙ sym (table-zero now t p v)
  low_table (suc l) t p v le =
      table-suc whole l t p v
      ∙ ap (λ e. cond (nat_eq v (suc l)) (Some t) (table_of e (λ c. table_from whole l c p v))) (below (suc l) t (index_in l p) le)
      ∙ ap (λ o. cond (nat_eq v (suc l)) (Some t) o)
      (table_by now whole l p v (now (suc l) t (index_in l p)) (λ c e. low_table l c p v (omega (arith, le))))
      ∙ sym (table-suc now l t p v)

  goes_on : (h : Domain) (table : CachedNonLeaf) (page : ℕ) → table.level ≡ w
      → table_from old (levels h.width) h.root page table.level ≡ Some table.frame → GoesOnFromRoot now table whole h page
  goes_on h table page is at =
      let way : table_from whole (levels h.width) h.root page table.level ≡ Some table.frame =
      subst (λ n. table_from whole (levels h.width) h.root page n ≡ Some table.frame) (sym is)
      (same_way (levels h.width) h.root page table.frame
      (subst (λ n. table_from old (levels h.width) h.root page n ≡ Some table.frame) is at)) in
      let low : table.level ≤ w = omega (arith, is) in
      record {
        leaf = sym (low_leaf table.level table.frame page low) ∙ leaf_on whole (levels h.width) h.root page table.level table.frame way;
        tables = λ v less. sym (low_table table.level table.frame page v low)
            ∙ table_on whole (levels h.width) h.root page table.level v table.frame less way;
      }

-- the table lies on the way of each page of its span
on_way : (words : List ℕ) (h : Domain) (table : CachedNonLeaf) (page : ℕ) → IsInPlace words h table → table.first ≤ page
    → page < table.first + table.pages → table_from (memory words) (levels h.width) h.root page table.level ≡ Some table.frame
on_way words h table page at from to = at.1.4 page from (omega (arith, to, at.0))

-- a function of levels, with another value above one of them
abbrev up_to : {A : Type 0} → ℕ → A → (ℕ → A) → ℕ → A
up_to w other f l = cond (nat_lt w l) other (f l)

above_it : {A : Type 0} (w l : ℕ) (other : A) (f : ℕ → A) → w < l → up_to w other f l ≡ other
above_it w l other f high = let yes : nat_lt w l ≡ true = grind (arith, nat_tests) in ap (λ b. cond b other (f l)) yes

from_it : {A : Type 0} (w l : ℕ) (other : A) (f : ℕ → A) → l ≤ w → up_to w other f l ≡ f l
from_it w l other f low = let no : nat_lt w l ≡ false = grind (arith, nat_tests) in ap (λ b. cond b other (f l)) no

-- ---- whatever words have reached memory

-- none has where a level above is read
abbrev read_up_to : ℕ → Reached → Reached
read_up_to w reached = up_to w (λ f k. false) reached

filled_up_to : (old new : List ℕ) (w : ℕ) (reached : Reached) → IsFilledFirst old new reached
    → IsFilledFirst old new (read_up_to w reached)
filled_up_to old new w reached filled table index below k leaf inside small was is read =
    ⊎_elim
    (λ (high : w < 2). absurd (no_true (sym (ap (λ g. g table index) (above_it w 2 (λ f k. false) reached high)) ∙ read)))
    (λ (low : 2 ≤ w).
    ⊎_elim
    (λ (yes : reached 1 below k ≡ true). inl (ap (λ g. g below k) (from_it w 1 (λ f k. false) reached (omega (arith, low))) ∙ yes))
    (λ same. inr same)
    (filled table index below k leaf inside small was is
    (sym (ap (λ g. g table index) (from_it w 2 (λ f k. false) reached low)) ∙ read)))
    (cases_lt w 2)
  where
    no_true : false ≡ true → ⊥
    no_true e = cc

pub from_root_meanwhile : WalksFromTablesAreFromRoot
from_root_meanwhile m t h table reached page at filled from to = (
  whole,
  filled_up_to m.pool.words t.pool.words table.level reached filled,
  goes_on (memory m.pool.words) (meanwhile m.pool.words t.pool.words reached) (meanwhile m.pool.words t.pool.words whole) table.level above
      below h table page refl (on_way m.pool.words h table page at from to),
)
  where
    whole : Reached
    whole = read_up_to table.level reached

    above : (l f k : ℕ) → table.level < l → meanwhile m.pool.words t.pool.words whole l f k ≡ memory m.pool.words l f k
    above l f k high =
        meanwhile_at m.pool.words t.pool.words whole l f k
        ∙ ap (λ g. look l (cond (g f k) (word t.pool.words f k) (word m.pool.words f k)))
        (above_it table.level l (λ f k. false) reached high)
        ∙ sym (memory_at m.pool.words l f k)

    below : (l f k : ℕ) → l ≤ table.level
        → meanwhile m.pool.words t.pool.words whole l f k ≡ meanwhile m.pool.words t.pool.words reached l f k
    below l f k low =
        meanwhile_at m.pool.words t.pool.words whole l f k
        ∙ ap (λ g. look l (cond (g f k) (word t.pool.words f k) (word m.pool.words f k)))
        (from_it table.level l (λ f k. false) reached low)
        ∙ sym (meanwhile_at m.pool.words t.pool.words reached l f k)

-- ---- where the tables lie in place

at_first : (words : List ℕ) (moments : List Moment) → words_at words moments 0 ≡ words
unfolding words_at
at_first words [] = refl
at_first words (m ∷ ms) = refl

pub from_root_in_place : WalksFromTablesInPlaceAreFromRoot
from_root_in_place m moments h table moment page at down from to = (
  whole,
  all_down,
  goes_on (memory m.pool.words) (in_place m.pool.words moments moment) (in_place m.pool.words moments whole) table.level above below h table
      page refl (on_way m.pool.words h table page at from to),
)
  where
    whole : ℕ → ℕ
    whole = up_to table.level 0 moment

    all_down : GoesDown whole
    all_down l =
        ⊎_elim
        (λ (high : table.level < suc l). omega (arith, above_it table.level (suc l) 0 moment high))
        (λ (low : suc l ≤ table.level).
        omega (arith, down l, from_it table.level (suc l) 0 moment low, from_it table.level l 0 moment (omega (arith, low))))
        (cases_lt table.level (suc l))

    above : (l f k : ℕ) → table.level < l → in_place m.pool.words moments whole l f k ≡ memory m.pool.words l f k
    above l f k high =
        in_place_at m.pool.words moments whole l f k
        ∙ ap (λ n. look l (word (words_at m.pool.words moments n) f k)) (above_it table.level l 0 moment high)
        ∙ ap (λ ws. look l (word ws f k)) (at_first m.pool.words moments) ∙ sym (memory_at m.pool.words l f k)

    below : (l f k : ℕ) → l ≤ table.level → in_place m.pool.words moments whole l f k ≡ in_place m.pool.words moments moment l f k
    below l f k low =
        in_place_at m.pool.words moments whole l f k
        ∙ ap (λ n. look l (word (words_at m.pool.words moments n) f k)) (from_it table.level l 0 moment low)
        ∙ sym (in_place_at m.pool.words moments moment l f k)
