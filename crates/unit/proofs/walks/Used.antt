-- A table on a page's way is a frame of the tree.
use Rattle.std.proofs.Common.{◌≡◌, ℕ, zero, suc, ◌<◌, Bool, true, false, cond, nat_eq, Some, arith}
use Rattle.std.proofs.lemmas.Bool.Decides.{nat_tests}
use Rattle.std.proofs.lemmas.Option.{none-some, same_Some}
use Rattle.vtdbits.specs.declared.entry.SsEntry.{SsEntry}
use Rattle.vtdbits.specs.declared.entry.SsEntry.TheVariants.{Absent, Table, Leaf, LargeLeaf}
use Rattle.tables.specs.Tree.{Memory, index_in, table_of, table_from, uses, entry_uses}
use Rattle.tables.proofs.sums.Firsts.{sum_below_part}
use Rattle.dmatypes.specs.declared.page.TheConstants.{SPAN_PAGES}
use Rattle.tables.proofs.walks.Onward.{index_lt}

root_used : (m : Memory) (l t c : ℕ) → t ≡ c → 0 < uses m (suc l) t c
unfolding uses
root_used m l t c same = let is : nat_eq t c ≡ true = grind (arith, nat_tests) in rw is (omega arith)

below_used : (m : Memory) (l p w c : ℕ) (e : SsEntry) → ((t : ℕ) → table_from m l t p w ≡ Some c → 0 < uses m l t c)
    → table_of e (λ t. table_from m l t p w) ≡ Some c → 0 < entry_uses e (λ t. uses m l t c)
below_used m l p w c Absent go h = absurd (none-some c h)
below_used m l p w c (Table t) go h = go t h
below_used m l p w c (Leaf x) go h = absurd (none-some c h)
below_used m l p w c (LargeLeaf x) go h = absurd (none-some c h)

entry_used : (m : Memory) (l t p c : ℕ) → 0 < entry_uses (m (suc l) t (index_in l p)) (λ t. uses m l t c) → 0 < uses m (suc l) t c
unfolding uses
entry_used m l t p c some =
    let part = sum_below_part (λ i. entry_uses (m (suc l) t i) (λ t. uses m l t c)) SPAN_PAGES (index_in l p) (index_lt l p) in
    omega (arith, part)

used_by : (m : Memory) (l t p w c : ℕ) (b : Bool) → ((t' : ℕ) → table_from m l t' p w ≡ Some c → 0 < uses m l t' c)
    → cond b (Some t) (table_of (m (suc l) t (index_in l p)) (λ t'. table_from m l t' p w)) ≡ Some c → 0 < uses m (suc l) t c
used_by m l t p w c true go h = root_used m l t c (same_Some t c h)
used_by m l t p w c false go h = entry_used m l t p c (below_used m l p w c (m (suc l) t (index_in l p)) go h)

pub table_used : (m : Memory) (l t p w c : ℕ) → table_from m l t p w ≡ Some c → 0 < uses m l t c
unfolding table_from
table_used m zero t p w c h = absurd (none-some c h)
table_used m (suc l) t p w c h = used_by m l t p w c (nat_eq w (suc l)) (λ t' k. table_used m l t' p w c k) h
