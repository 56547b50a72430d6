-- What is read while a call is written, entry by entry.
use Rattle.std.proofs.Common.{◌≡◌, ◌⊎◌, inl, inr, ℕ, suc, ◌-◌, ◌<◌, ◌≤◌, Bool, true, false, cond, List, Some, refl, sym, ap, ◌∙◌, arith}
use Rattle.dmatypes.specs.World.{Target}
use Rattle.vtdbits.specs.Entry.{look}
use Rattle.vtdbits.specs.declared.entry.SsEntry.TheVariants.{LargeLeaf, Table}
use Rattle.tables.specs.declared.entries.TheConstants.{TABLE_ENTRIES}
use Rattle.tables.specs.Tree.{Memory, index_in, table_from}
use Rattle.tables.specs.Pool.{Pool, memory, word}
use Rattle.tables.proofs.walks.Levels.{top_level}
use Rattle.tables.proofs.walks.Onward.{table_on}
use Rattle.tables.proofs.walks.Steps.{table_under}
use Rattle.tables.proofs.walks.Words.{memory_at}
use Rattle.moments.specs.Moments.{IsFilledFirst, Reached, meanwhile, word_read}

-- each entry is read as it was or as it is then
abbrev pub IsBetween : Pool → Pool → Memory → Type 0
IsBetween old new now =
    (l t k : ℕ) → k < TABLE_ENTRIES → (now l t k ≡ memory old.words l t k) ⊎ (now l t k ≡ memory new.words l t k)

-- where a table is read in the place of a large leaf, its entries are read as they are then
abbrev pub IsWhole : Pool → Pool → Memory → Type 0
IsWhole old new now =
    (t k c : ℕ) (x : Target) → k < TABLE_ENTRIES → memory old.words 2 t k ≡ LargeLeaf x → now 2 t k ≡ Table c
    → (i : ℕ) → i < TABLE_ENTRIES → now 1 c i ≡ memory new.words 1 c i

pub meanwhile_at : (old new : List ℕ) (reached : Reached) (l t k : ℕ)
    → meanwhile old new reached l t k ≡ look l (word_read old new reached l t k)
unfolding meanwhile
meanwhile_at old new reached l t k = refl

either : (b : Bool) (x y l : ℕ) → (look l (cond b x y) ≡ look l y) ⊎ (look l (cond b x y) ≡ look l x)
either true x y l = inr refl
either false x y l = inl refl

pub between : (old new : Pool) (reached : Reached) → IsBetween old new (meanwhile old.words new.words reached)
between old new reached l t k inside =
    let at = meanwhile_at old.words new.words reached l t k in
    elim (either (reached l t k) (word new.words t k) (word old.words t k) l)
    [ inl h ↦ inl (at ∙ h ∙ sym (memory_at old.words l t k)) | inr h ↦ inr (at ∙ h ∙ sym (memory_at new.words l t k)) ]

no_leaf : (c : ℕ) (x : Target) → LargeLeaf x ≡ Table c → ⊥
no_leaf c x h = cc

-- a table that is read where a large leaf was has reached memory
named : (b : Bool) (old new : List ℕ) (t k c : ℕ) (x : Target) → look 2 (cond b (word new t k) (word old t k)) ≡ Table c
    → memory old 2 t k ≡ LargeLeaf x → (b ≡ true) × (memory new 2 t k ≡ Table c)
named true old new t k c x is was = (refl, memory_at new 2 t k ∙ is)
named false old new t k c x is was = absurd (no_leaf c x (sym was ∙ memory_at old 2 t k ∙ is))

is_new : (b : Bool) (x y : ℕ) → (b ≡ true) ⊎ (x ≡ y) → cond b x y ≡ x
is_new true x y h = refl
is_new false x y (inr same) = sym same
is_new false x y (inl there) = absurd (let clash : false ≡ true = there in cc)

pub whole : (old new : Pool) (reached : Reached) → IsFilledFirst old.words new.words reached
    → IsWhole old new (meanwhile old.words new.words reached)
whole old new reached first t k c x inside was names i small =
    let n = named (reached 2 t k) old.words new.words t k c x (sym (meanwhile_at old.words new.words reached 2 t k) ∙ names) was in
    meanwhile_at old.words new.words reached 1 c i
    ∙ ap (look 1) (is_new (reached 1 c i) (word new.words c i) (word old.words c i) (first t k c i x inside small was n.1 n.0))
    ∙ sym (memory_at new.words 1 c i)

-- the table that an entry names is the next one on the way
pub down : (m : Memory) (level root p l t c : ℕ) → 1 ≤ l → table_from m level root p (suc l) ≡ Some t
    → m (suc l) t (index_in l p) ≡ Table c → table_from m level root p l ≡ Some c
down m level root p l t c some at names =
    sym (table_on m level root p (suc l) l t (omega arith) at) ∙ table_under m l t p l (Table c) (λ e. absurd (omega (arith, e))) names
    ∙ top_level m (l - 1) c p l l (omega arith) refl
