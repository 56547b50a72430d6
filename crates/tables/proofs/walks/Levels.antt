-- Steps of walks at a level that is one above another.
use Rattle.std.proofs.Common.{◌≡◌, ◌≢◌, ℕ, suc, ◌+◌, ◌%◌, ◌<◌, Some, sym, ap, subst, ◌∙◌, arith}
use Rattle.std.proofs.Common.{true, false, nat_lt}
use Rattle.std.proofs.Math.Nat.{mod-one}
use Rattle.dmatypes.specs.declared.page.TheConstants.{SPAN_PAGES}
use Rattle.tables.specs.declared.entries.TheConstants.{TABLE_ENTRIES}
use Rattle.vtdbits.specs.declared.entry.SsEntry.{SsEntry}
use Rattle.vtdbits.specs.declared.entry.SsEntry.TheVariants.{Table}
use Rattle.vtdbits.specs.Translation.{target}
use Rattle.dmatypes.specs.World.{Target}
use Rattle.tables.specs.Tree.{Memory, span, index_in, leaf_of, table_of, leaf_from, table_from, stated, states, is_large_leaf}
use Rattle.tables.specs.Pool.{Pool, memory, occurs, IsTree}
use Rattle.tables.proofs.walks.Steps.{leaf_under, table_under, table_top, span-zero, span-one}
use Rattle.tables.proofs.unmaps.UnderEntry.{root_in, root_taken, below_in}

pub leaf_level : (m : Memory) (l t p level : ℕ) (e : SsEntry) → level ≡ suc l → m level t (index_in l p) ≡ e
    → leaf_from m level t p ≡ leaf_of e l (λ c. leaf_from m l c p)
leaf_level m l t p level e up =
    subst (λ n. m n t (index_in l p) ≡ e → leaf_from m n t p ≡ leaf_of e l (λ c. leaf_from m l c p)) (sym up) (leaf_under m l t p e)

pub table_level : (m : Memory) (l t p w level : ℕ) (e : SsEntry) → level ≡ suc l → w ≢ level → m level t (index_in l p) ≡ e
    → table_from m level t p w ≡ table_of e (λ c. table_from m l c p w)
table_level m l t p w level e up =
    subst (λ n. w ≢ n → m n t (index_in l p) ≡ e → table_from m n t p w ≡ table_of e (λ c. table_from m l c p w)) (sym up)
    (table_under m l t p w e)

pub top_level : (m : Memory) (l t p w level : ℕ) → level ≡ suc l → w ≡ level → table_from m level t p w ≡ Some t
top_level m l t p w level up = subst (λ n. w ≡ n → table_from m n t p w ≡ Some t) (sym up) (table_top m l t p w)

pub root_in_level : (pool : Pool) (l t level : ℕ) → level ≡ suc l → IsTree pool level t → t < pool.frames
root_in_level pool l t level up tree = root_in pool l t (subst (λ n. IsTree pool n t) up tree)

pub root_taken_level : (pool : Pool) (l t level : ℕ) → level ≡ suc l → IsTree pool level t → occurs t pool.free ≡ 0
root_taken_level pool l t level up tree = root_taken pool l t (subst (λ n. IsTree pool n t) up tree)

pub below_level : (pool : Pool) (l t i c level : ℕ) → level ≡ suc l → IsTree pool level t → i < TABLE_ENTRIES
    → memory pool.words level t i ≡ Table c → IsTree pool l c
below_level pool l t i c level up =
    subst (λ n. IsTree pool n t → i < TABLE_ENTRIES → memory pool.words n t i ≡ Table c → IsTree pool l c) (sym up) (below_in pool l t i c)

-- what is stated where the entry was read
pub stated_level : (m : Memory) (l t p level index : ℕ) (e : SsEntry) → level ≡ suc l → index ≡ index_in l p → m level t index ≡ e
    → states m level t p ≡ stated p (leaf_of e l (λ c. leaf_from m l c p))
stated_level m l t p level index e up is read = ap (stated p) (leaf_level m l t p level e up (ap (λ i. m level t i) (sym is) ∙ read))

-- a leaf of 512 pages states the frame of its page
pub stated_large : (p l : ℕ) (t : Target) → l ≡ 1
    → stated p (Some (record { size = l; frame = t.frame; rights = t.rights })) ≡ Some (target (t.frame + p % SPAN_PAGES) t.rights)
stated_large p l t e = ap (λ n. Some (target (t.frame + p % n) t.rights)) (ap span e ∙ span-one)

-- and a leaf of one page its own
pub stated_small : (p l : ℕ) (t : Target) → l ≡ 0 → stated p (Some (record { size = l; frame = t.frame; rights = t.rights })) ≡ Some t
stated_small p l t e =
    let none : p % span l ≡ 0 = ap (λ n. p % n) (ap span e ∙ span-zero) ∙ mod-one p in
    ap (λ n. Some (target (t.frame + n) t.rights)) none ∙ ap (λ n. Some (target n t.rights)) (omega arith)

-- whether what was read is a large leaf
pub large_level : (m : Memory) (l t p level index : ℕ) (e : SsEntry) → level ≡ suc l → index ≡ index_in l p → m level t index ≡ e
    → is_large_leaf (leaf_from m level t p) ≡ is_large_leaf (leaf_of e l (λ c. leaf_from m l c p))
large_level m l t p level index e up is read = ap is_large_leaf (leaf_level m l t p level e up (ap (λ i. m level t i) (sym is) ∙ read))

pub is_large-one : (l frame rights : ℕ) → l ≡ 1 → is_large_leaf (Some (record { size = l; frame = frame; rights = rights })) ≡ true
is_large-one l frame rights e = ap (λ n. nat_lt 0 n) e

pub is_large-zero : (l frame rights : ℕ) → l ≡ 0 → is_large_leaf (Some (record { size = l; frame = frame; rights = rights })) ≡ false
is_large-zero l frame rights e = ap (λ n. nat_lt 0 n) e

pub table_read : (m : Memory) (l t p w level index : ℕ) (e : SsEntry) → level ≡ suc l → (level ≡ w → ⊥) → index ≡ index_in l p
    → m level t index ≡ e → table_from m level t p w ≡ table_of e (λ c. table_from m l c p w)
table_read m l t p w level index e up ne is read =
    table_level m l t p w level e up (λ same. ne (sym same)) (ap (λ i. m level t i) (sym is) ∙ read)
