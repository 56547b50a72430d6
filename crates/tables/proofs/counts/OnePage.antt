-- The tables that one page lacks.
use Rattle.std.proofs.Common.{◌≡◌, ℕ, zero, suc, ◌+◌, ◌≤◌, Bool, true, false, cond, eqb, ◌&&◌, is_some, Option, Some, None, refl, sym, ap}
use Rattle.std.proofs.Common.{◌∙◌, arith}
use Rattle.std.proofs.lemmas.Bool.Decides.{nat_tests}
use Rattle.vtdbits.specs.declared.entry.SsEntry.TheVariants.{Absent, Table}
use Rattle.tables.specs.Tree.{Memory, index_in, table_from, sum_below}
use Rattle.tables.specs.Lacks.{lacks_table, tables_lacking_at}
use Rattle.tables.proofs.sums.Firsts.{sum_below_same, sum_below-suc, sum_below-zero}
use Rattle.tables.proofs.walks.Steps.{table_under, table_top}
use Rattle.tables.proofs.walks.Onward.{IsBare, table_zeroed}

-- what is lacking, by the table there
unfoldable pub lacking_by : Option ℕ → ℕ → Bool → ℕ
lacking_by o w large = cond (is_some o) 0 (cond (eqb w 1 && large) 0 1)

pub lacking_is : (m : Memory) (level t : ℕ) (large : Bool) (w p : ℕ) (o : Option ℕ) → table_from m level t p w ≡ o
    → lacks_table m level t large w p ≡ lacking_by o w large
unfolding lacks_table lacking_by
lacking_is m level t large w p o e = ap (λ x. cond (is_some x) 0 (cond (eqb w 1 && large) 0 1)) e

pub lacking_none : (m : Memory) (level t : ℕ) (large : Bool) (w p c : ℕ) → table_from m level t p w ≡ Some c
    → lacks_table m level t large w p ≡ 0
unfolding lacking_by
lacking_none m level t large w p c e = lacking_is m level t large w p (Some c) e

pub lacking_same : (m n : Memory) (level level' t t' : ℕ) (large : Bool) (w p q : ℕ) → table_from n level' t' q w ≡ table_from m level t p w
    → lacks_table n level' t' large w q ≡ lacks_table m level t large w p
lacking_same m n level level' t t' large w p q e =
    lacking_is n level' t' large w q (table_from m level t p w) e ∙ sym (lacking_is m level t large w p (table_from m level t p w) refl)

-- what is lacking below an absent entry
absent_lacks : Bool → ℕ → ℕ
absent_lacks large n = sum_below (λ v. lacking_by None (v + 1) large) n

pub lacks_at-suc : (m : Memory) (l t : ℕ) (large : Bool) (p : ℕ)
    → tables_lacking_at m (suc l) t large p ≡ sum_below (λ v. lacks_table m (suc l) t large (v + 1) p) l
unfolding tables_lacking_at
lacks_at-suc m l t large p = ap (sum_below (λ v. lacks_table m (suc l) t large (v + 1) p)) (omega arith)

pub lacks_at-one : (m : Memory) (t : ℕ) (large : Bool) (p : ℕ) → tables_lacking_at m 1 t large p ≡ 0
lacks_at-one m t large p = lacks_at-suc m 0 t large p ∙ sum_below-zero (λ v. lacks_table m 1 t large (v + 1) p)

pub lacks_at-table : (m : Memory) (l t c : ℕ) (large : Bool) (p : ℕ) → m (suc (suc l)) t (index_in (suc l) p) ≡ Table c
    → tables_lacking_at m (suc (suc l)) t large p ≡ tables_lacking_at m (suc l) c large p
lacks_at-table m l t c large p is =
    let g : ℕ → ℕ = λ v. lacks_table m (suc (suc l)) t large (v + 1) p in
    let h : ℕ → ℕ = λ v. lacks_table m (suc l) c large (v + 1) p in
    let last : g l ≡ 0 =
    lacking_none m (suc (suc l)) t large (l + 1) p c
    (table_under m (suc l) t p (l + 1) (Table c) (λ e. omega arith) is ∙ table_top m l c p (l + 1) (omega arith)) in
    let rest : sum_below g l ≡ sum_below h l =
    sum_below_same h g l (λ v v_in.
    lacking_same m m (suc l) (suc (suc l)) c t large (v + 1) p p
    (table_under m (suc l) t p (v + 1) (Table c) (λ e. omega arith) is)) in
    omega (arith, lacks_at-suc m (suc l) t large p, sum_below-suc g l, lacks_at-suc m l c large p, last, rest)

absent_at : (m : Memory) (l t : ℕ) (large : Bool) (p : ℕ) → m (suc l) t (index_in l p) ≡ Absent
    → tables_lacking_at m (suc l) t large p ≡ absent_lacks large l
unfolding absent_lacks
absent_at m l t large p is =
    lacks_at-suc m l t large p
    ∙ sum_below_same (λ v. lacking_by None (v + 1) large) (λ v. lacks_table m (suc l) t large (v + 1) p) l
    (λ v v_in. lacking_is m (suc l) t large (v + 1) p None (table_under m l t p (v + 1) Absent (λ e. omega arith) is))

bare_at : (m : Memory) (l c : ℕ) (large : Bool) (p : ℕ) → IsBare m c → tables_lacking_at m (suc l) c large p ≡ absent_lacks large l
unfolding absent_lacks
bare_at m l c large p bare =
    lacks_at-suc m l c large p
    ∙ sum_below_same (λ v. lacking_by None (v + 1) large) (λ v. lacks_table m (suc l) c large (v + 1) p) l
    (λ v v_in. lacking_is m (suc l) c large (v + 1) p None (table_zeroed m (suc l) c p (v + 1) bare (omega arith)))

one_more : (l : ℕ) (large : Bool) → (l ≡ 0 → large ≡ false) → absent_lacks large (suc l) ≡ absent_lacks large l + 1
unfolding absent_lacks lacking_by
one_more zero large h = let no : large ≡ false = h refl in rw no (omega (arith, sum_below-suc (λ v. cond (eqb (v + 1) 1 && false) 0 1) 0))
one_more (suc l) large h =
    let no : eqb (suc l + 1) 1 ≡ false = grind (arith, nat_tests) in
    let last : lacking_by None (suc l + 1) large ≡ 1 = ap (λ b. cond (b && large) 0 1) no in
    sum_below-suc (λ v. lacking_by None (v + 1) large) (suc l) ∙ ap (λ k. sum_below (λ v. lacking_by None (v + 1) large) (suc l) + k) last

-- a new table is one of them
pub lacks_at-added : (m n : Memory) (l t c : ℕ) (large : Bool) (p : ℕ) → m (suc (suc l)) t (index_in (suc l) p) ≡ Absent → IsBare n c
    → (l ≡ 0 → large ≡ false) → tables_lacking_at m (suc (suc l)) t large p ≡ tables_lacking_at n (suc l) c large p + 1
lacks_at-added m n l t c large p is bare h =
    absent_at m (suc l) t large p is ∙ one_more l large h ∙ ap (λ k. k + 1) (sym (bare_at n l c large p bare))

none_large : absent_lacks true 1 ≡ 0
unfolding absent_lacks lacking_by
none_large = omega (arith, sum_below-suc (λ v. cond (eqb (v + 1) 1 && true) 0 1) 0, sum_below-zero (λ v. cond (eqb (v + 1) 1 && true) 0 1))

-- and none is lacking for a large leaf
pub lacks_at-large : (m : Memory) (t p : ℕ) → m 2 t (index_in 1 p) ≡ Absent → tables_lacking_at m 2 t true p ≡ 0
lacks_at-large m t p is = absent_at m 1 t true p is ∙ none_large

-- something is lacking under an absent entry
pub lacks_some : (m : Memory) (l t : ℕ) (large : Bool) (p : ℕ) → m (suc (suc l)) t (index_in (suc l) p) ≡ Absent → (l ≡ 0 → large ≡ false)
    → 1 ≤ tables_lacking_at m (suc (suc l)) t large p
lacks_some m l t large p is h = omega (arith, absent_at m (suc l) t large p is, one_more l large h)

-- what is lacking, by whether there is a table
pub lacking_there : (m : Memory) (level t : ℕ) (large : Bool) (w p : ℕ) → is_some (table_from m level t p w) ≡ true
    → lacks_table m level t large w p ≡ 0
unfolding lacks_table
lacking_there m level t large w p e = ap (λ b. cond b 0 (cond (eqb w 1 && large) 0 1)) e

pub lacking_else : (m : Memory) (level t : ℕ) (large : Bool) (w p : ℕ) → is_some (table_from m level t p w) ≡ false
    → lacks_table m level t large w p ≡ cond (eqb w 1 && large) 0 1
unfolding lacks_table
lacking_else m level t large w p e = ap (λ b. cond b 0 (cond (eqb w 1 && large) 0 1)) e
