-- What words of second-stage tables spell.
use Rattle.std.proofs.Common.{◌≡◌, ℕ, ◌/◌, ◌%◌, ◌^◌, ◌-◌, true, ◌&&◌, nat_le, nat_lt, ◌==◌, Option, Some, None, refl, sym, ap, subst, ◌∙◌}
use Rattle.std.proofs.Common.{arith, unwrap_or, inl, inr}
use Rattle.std.proofs.lemmas.Bool.Decides.{nat_tests}
use Rattle.vtdbits.proofs.Cascades.{if_some, same_some, not_some, none_read}
use Rattle.dmatypes.specs.World.{Target}
use Rattle.vtdbits.specs.Translation.{target}
use Rattle.vtdbits.specs.Entry.{Spells, entry_at, entry_of, look}
use Rattle.vtdbits.specs.declared.entry.SsEntry.{SsEntry}
use Rattle.dmatypes.specs.declared.page.TheConstants.{FRAMES_END, SPAN_PAGES}
use Rattle.vtdbits.specs.declared.entry.SsEntry.TheVariants.{Absent, Table, Leaf, LargeLeaf}

-- a word that spells an entry is read as that entry
pub entry_of-spelled : (level word : ℕ) (e : SsEntry) → Spells level word e → entry_of level word ≡ Some e
unfolding entry_of
entry_of-spelled level word Absent s = grind (arith, nat_tests)
entry_of-spelled level word (Table frame) s = grind (arith, nat_tests)
entry_of-spelled level word (Leaf t) s = grind (arith, nat_tests)
entry_of-spelled level word (LargeLeaf t) s = grind (arith, nat_tests)

-- each test makes its word spell its form
leaf_tested : (level word : ℕ) → nat_lt (word / 2 ^ 12) FRAMES_END ≡ true
    → ((level == 1) && nat_le 1 (word % 2 ^ 12) && nat_le (word % 2 ^ 12) 3) ≡ true
    → Spells level word (Leaf (target (word / 2 ^ 12) (word % 2 ^ 12)))
leaf_tested level word frame t = grind (arith, nat_tests)

table_tested : (level word : ℕ) → nat_lt (word / 2 ^ 12) FRAMES_END ≡ true
    → (nat_le 2 level && nat_le level 4 && (word % 2 ^ 12 == 3)) ≡ true → Spells level word (Table (word / 2 ^ 12))
table_tested level word frame t = grind (arith, nat_tests)

large_tested : (level word : ℕ) → nat_lt (word / 2 ^ 12) FRAMES_END ≡ true
    → ((level == 2) && nat_le 0x81 (word % 2 ^ 12) && nat_le (word % 2 ^ 12) 0x83 && (word / 2 ^ 12 % SPAN_PAGES == 0)) ≡ true
    → Spells level word (LargeLeaf (target (word / 2 ^ 12) (word % 2 ^ 12 - 2 ^ 7)))
large_tested level word frame t = grind (arith, nat_tests)

zero_tested : (level word : ℕ) → (word == 0) ≡ true → Spells level word Absent
zero_tested level word t = grind (arith, nat_tests)

-- what is read of a word other than 0 is spelled
spelled_at : (level word : ℕ) (e : SsEntry) → nat_lt (word / 2 ^ 12) FRAMES_END ≡ true
    → entry_at level (word % 2 ^ 12) (word / 2 ^ 12) ≡ Some e → Spells level word e
spelled_at level word e fits h =
    let low : ℕ = word % 2 ^ 12 in
    let frame : ℕ = word / 2 ^ 12 in
    let P : SsEntry → Type 0 = λ e. Spells level word e in
    elim (if_some ((level == 1) && nat_le 1 low && nat_le low 3) (Some (Leaf (target frame low))) _ e h) [
      | inl (t, s) ↦ subst P (same_some (Leaf (target frame low)) e s) (leaf_tested level word fits t)
      | inr h ↦ elim (if_some (nat_le 2 level && nat_le level 4 && (low == 3)) (Some (Table frame)) _ e h) [
        | inl (t, s) ↦ subst P (same_some (Table frame) e s) (table_tested level word fits t)
        | inr h ↦ elim (if_some ((level == 2) && nat_le 0x81 low && nat_le low 0x83 && (frame % SPAN_PAGES == 0))
            (Some (LargeLeaf (target frame (low - 2 ^ 7)))) _ e h) [
              | inl (t, s) ↦ subst P (same_some (LargeLeaf (target frame (low - 2 ^ 7))) e s) (large_tested level word fits t)
              | inr h ↦ absurd (not_some e h)
            ]
      ]
    ]

-- what is read is spelled
pub spelled_of-entry : (level word : ℕ) (e : SsEntry) → entry_of level word ≡ Some e → Spells level word e
unfolding entry_of
spelled_of-entry level word e h =
    let P : SsEntry → Type 0 = λ e. Spells level word e in
    elim (if_some (word == 0) (Some Absent) _ e h) [
      | inl (t, s) ↦ subst P (same_some Absent e s) (zero_tested level word t)
      | inr h ↦ elim (if_some (nat_lt (word / 2 ^ 12) FRAMES_END) (entry_at level (word % 2 ^ 12) (word / 2 ^ 12)) None e h) [
        | inl (fits, h) ↦ spelled_at level word e fits h
        | inr h ↦ absurd (not_some e h)
      ]
    ]

-- where no entry is spelled, none is read
pub entry_of-none : (level word : ℕ) → ((e : SsEntry) → Spells level word e → ⊥) → entry_of level word ≡ None
entry_of-none level word none = none_read (entry_of level word) (λ e h. none e (spelled_of-entry level word e h))

-- a word spells one entry at a level
pub one_entry : (level word : ℕ) (a b : SsEntry) → Spells level word a → Spells level word b → a ≡ b
one_entry level word a b s t =
    same_some a b (sym (entry_of-spelled level word a s) ∙ entry_of-spelled level word b t)

-- an entry has one word, the same at each level
pub one_word : (j k v w : ℕ) (e : SsEntry) → Spells j v e → Spells k w e → v ≡ w
one_word j k v w Absent s t = cc
one_word j k v w (Table frame) s t = cc
one_word j k v w (Leaf page) s t = cc
one_word j k v w (LargeLeaf pages) s t = cc

-- ---- what a walk sees

-- a word that spells an entry is seen as that entry
pub look-spelled : (level word : ℕ) (e : SsEntry) → Spells level word e → look level word ≡ e
unfolding look
look-spelled level word e s = ap (λ r. unwrap_or r Absent) (entry_of-spelled level word e s)

-- 0 is seen as absent at every level
pub look-zero : (level : ℕ) → look level 0 ≡ Absent
look-zero level = look-spelled level 0 Absent refl

-- what is seen and is not absent is spelled
pub spelled_of-look : (level word : ℕ) (e : SsEntry) → (e ≡ Absent → ⊥) → look level word ≡ e → Spells level word e
unfolding look
spelled_of-look level word e there h = spelled_of-entry level word e (read (entry_of level word) h)
  where
    read : (r : Option SsEntry) → unwrap_or r Absent ≡ e → r ≡ Some e
    read None h = absurd (there (sym h))
    read (Some x) h = ap (λ y. Some y) h

pub table_looked : (level word frame : ℕ) → look level word ≡ Table frame → Spells level word (Table frame)
table_looked level word frame h = spelled_of-look level word (Table frame) (λ e. cc) h

pub leaf_looked : (level word : ℕ) (t : Target) → look level word ≡ Leaf t → Spells level word (Leaf t)
leaf_looked level word t h = spelled_of-look level word (Leaf t) (λ e. cc) h

pub large_leaf_looked : (level word : ℕ) (t : Target) → look level word ≡ LargeLeaf t → Spells level word (LargeLeaf t)
large_leaf_looked level word t h = spelled_of-look level word (LargeLeaf t) (λ e. cc) h
