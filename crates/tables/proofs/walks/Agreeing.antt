-- Walks read only the frames that the tree uses.
use Rattle.std.proofs.Common.{◌≡◌, ℕ, zero, suc, ◌+◌, ◌/◌, ◌<◌, true, cond, nat_eq, Some, refl, ap, ◌∙◌, arith, mod-lt}
use Rattle.std.proofs.lemmas.Bool.Decides.{nat_tests}
use Rattle.tables.specs.declared.entries.TheConstants.{TABLE_ENTRIES}
use Rattle.vtdbits.specs.declared.entry.SsEntry.{SsEntry}
use Rattle.vtdbits.specs.declared.entry.SsEntry.TheVariants.{Absent, Table, Leaf, LargeLeaf}
use Rattle.tables.specs.Tree.{Memory, span, index_in, leaf_of, table_of, leaf_from, table_from, uses, entry_uses, one_if_same}
use Rattle.tables.proofs.sums.Firsts.{sum_below_part, sum_below_same}

-- the frames of the tree are as they were
pub AgreeAt : Memory → Memory → ℕ → ℕ → Type 0
AgreeAt a b l t = (f : ℕ) → 0 < uses a l t f → (l' k : ℕ) → k < TABLE_ENTRIES → b l' f k ≡ a l' f k

pub to_agree : (a b : Memory) (l t : ℕ) → ((f : ℕ) → 0 < uses a l t f → (l' k : ℕ) → k < TABLE_ENTRIES → b l' f k ≡ a l' f k)
    → AgreeAt a b l t
unfolding AgreeAt
to_agree a b l t h = h

pub root_used : (a : Memory) (l t : ℕ) → 0 < uses a (suc l) t t
unfolding uses
root_used a l t = let is : nat_eq t t ≡ true = grind (arith, nat_tests) in rw is (omega arith)

pub under : (a : Memory) (l t k c f : ℕ) → k < TABLE_ENTRIES → a (suc l) t k ≡ Table c → 0 < uses a l c f → 0 < uses a (suc l) t f
unfolding uses
under a l t k c f lt e some =
    let part = sum_below_part (λ i. entry_uses (a (suc l) t i) (λ c. uses a l c f)) TABLE_ENTRIES k lt in
    let here : entry_uses (a (suc l) t k) (λ c. uses a l c f) ≡ uses a l c f = ap (λ x. entry_uses x (λ c. uses a l c f)) e in
    omega (arith, part)

root_same : (a b : Memory) (l t k : ℕ) → k < TABLE_ENTRIES → AgreeAt a b (suc l) t → b (suc l) t k ≡ a (suc l) t k
unfolding AgreeAt
root_same a b l t k lt h = h t (root_used a l t) (suc l) k lt

below_same : (a b : Memory) (l t k c : ℕ) → k < TABLE_ENTRIES → a (suc l) t k ≡ Table c → AgreeAt a b (suc l) t → AgreeAt a b l c
unfolding AgreeAt
below_same a b l t k c lt e h f some = h f (under a l t k c f lt e some)

pub leaf_by : (a b : Memory) (l p : ℕ) (e : SsEntry) → ((c : ℕ) → e ≡ Table c → leaf_from b l c p ≡ leaf_from a l c p)
    → leaf_of e l (λ c. leaf_from b l c p) ≡ leaf_of e l (λ c. leaf_from a l c p)
leaf_by a b l p Absent h = refl
leaf_by a b l p (Table c) h = h c refl
leaf_by a b l p (Leaf s) h = refl
leaf_by a b l p (LargeLeaf s) h = refl

pub leaf_agrees : (a b : Memory) (l t p : ℕ) → AgreeAt a b l t → leaf_from b l t p ≡ leaf_from a l t p
unfolding leaf_from
leaf_agrees a b zero t p h = refl
leaf_agrees a b (suc l) t p h =
    let lt : index_in l p < TABLE_ENTRIES = mod-lt (p / span l) (omega arith) in
    ap (λ e. leaf_of e l (λ c. leaf_from b l c p)) (root_same a b l t (index_in l p) lt h)
    ∙ leaf_by a b l p (a (suc l) t (index_in l p)) (λ c e. leaf_agrees a b l c p (below_same a b l t (index_in l p) c lt e h))

pub table_by : (a b : Memory) (l p w : ℕ) (e : SsEntry) → ((c : ℕ) → e ≡ Table c → table_from b l c p w ≡ table_from a l c p w)
    → table_of e (λ c. table_from b l c p w) ≡ table_of e (λ c. table_from a l c p w)
table_by a b l p w Absent h = refl
table_by a b l p w (Table c) h = h c refl
table_by a b l p w (Leaf s) h = refl
table_by a b l p w (LargeLeaf s) h = refl

pub table_agrees : (a b : Memory) (l t p w : ℕ) → AgreeAt a b l t → table_from b l t p w ≡ table_from a l t p w
unfolding table_from
table_agrees a b zero t p w h = refl
table_agrees a b (suc l) t p w h =
    let lt : index_in l p < TABLE_ENTRIES = mod-lt (p / span l) (omega arith) in
    ap (cond (nat_eq w (suc l)) (Some t))
    (ap (λ e. table_of e (λ c. table_from b l c p w)) (root_same a b l t (index_in l p) lt h)
    ∙ table_by a b l p w (a (suc l) t (index_in l p)) (λ c e. table_agrees a b l c p w (below_same a b l t (index_in l p) c lt e h)))

pub uses_by : (a b : Memory) (l f : ℕ) (e : SsEntry) → ((c : ℕ) → e ≡ Table c → uses b l c f ≡ uses a l c f)
    → entry_uses e (λ c. uses b l c f) ≡ entry_uses e (λ c. uses a l c f)
uses_by a b l f Absent h = refl
uses_by a b l f (Table c) h = h c refl
uses_by a b l f (Leaf s) h = refl
uses_by a b l f (LargeLeaf s) h = refl

pub uses_agree : (a b : Memory) (l t f : ℕ) → AgreeAt a b l t → uses b l t f ≡ uses a l t f
unfolding uses
uses_agree a b zero t f h = refl
uses_agree a b (suc l) t f h =
    ap (λ x. one_if_same t f + x)
    (sum_below_same (λ i. entry_uses (a (suc l) t i) (λ c. uses a l c f)) (λ i. entry_uses (b (suc l) t i) (λ c. uses b l c f))
    TABLE_ENTRIES
    (λ i lt.
    ap (λ e. entry_uses e (λ c. uses b l c f)) (root_same a b l t i lt h)
    ∙ uses_by a b l f (a (suc l) t i) (λ c e. uses_agree a b l c f (below_same a b l t i c lt e h))))
