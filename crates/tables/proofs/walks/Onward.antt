-- A walk that goes on from a table on a page's way is the walk from the root.
use Rattle.std.proofs.Common.{◌≡◌, ℕ, zero, suc, ◌/◌, ◌<◌, ◌≤◌, Bool, true, false, cond, nat_eq, Some, None, refl, ap, arith, mod-lt}
use Rattle.std.proofs.lemmas.Bool.Decides.{nat_tests}
use Rattle.std.proofs.lemmas.Option.{none-some, same_Some}
use Rattle.std.proofs.lemmas.Bool.{eqb-true}
use Rattle.tables.specs.declared.entries.TheConstants.{TABLE_ENTRIES}
use Rattle.vtdbits.specs.declared.entry.SsEntry.{SsEntry}
use Rattle.vtdbits.specs.declared.entry.SsEntry.TheVariants.{Absent, Table, Leaf, LargeLeaf}
use Rattle.tables.specs.Tree.{Memory, span, index_in, leaf_of, table_of, leaf_from, table_from}

Goes : Memory → ℕ → ℕ → ℕ → ℕ → ℕ → Type 0
Goes m l t p w c = leaf_from m w c p ≡ leaf_from m l t p

by_leaf : (m : Memory) (l p w c : ℕ) (e : SsEntry) → ((t : ℕ) → table_from m l t p w ≡ Some c → leaf_from m w c p ≡ leaf_from m l t p)
    → table_of e (λ t. table_from m l t p w) ≡ Some c → leaf_from m w c p ≡ leaf_of e l (λ t. leaf_from m l t p)
by_leaf m l p w c Absent go h = absurd (none-some c h)
by_leaf m l p w c (Table t) go h = go t h
by_leaf m l p w c (Leaf s) go h = absurd (none-some c h)
by_leaf m l p w c (LargeLeaf s) go h = absurd (none-some c h)

leaf_here : (m : Memory) (l t p w c : ℕ) (b : Bool) → nat_eq w (suc l) ≡ b
    → ((t' : ℕ) → table_from m l t' p w ≡ Some c → leaf_from m w c p ≡ leaf_from m l t' p)
    → cond b (Some t) (table_of (m (suc l) t (index_in l p)) (λ c. table_from m l c p w)) ≡ Some c
    → leaf_from m w c p ≡ leaf_from m (suc l) t p
unfolding leaf_from
leaf_here m l t p w c true e go h = let w_is : w ≡ suc l = eqb-true w (suc l) e in let same : t ≡ c = same_Some t c h in cc
leaf_here m l t p w c false e go h = by_leaf m l p w c (m (suc l) t (index_in l p)) go h

pub leaf_on : (m : Memory) (l t p w c : ℕ) → table_from m l t p w ≡ Some c → leaf_from m w c p ≡ leaf_from m l t p
unfolding table_from
leaf_on m zero t p w c h = absurd (none-some c h)
leaf_on m (suc l) t p w c h = leaf_here m l t p w c (nat_eq w (suc l)) refl (λ t' h'. leaf_on m l t' p w c h') h

by_table : (m : Memory) (l p w v c : ℕ) (e : SsEntry)
    → ((t : ℕ) → table_from m l t p w ≡ Some c → table_from m w c p v ≡ table_from m l t p v)
    → table_of e (λ t. table_from m l t p w) ≡ Some c → table_from m w c p v ≡ table_of e (λ t. table_from m l t p v)
by_table m l p w v c Absent go h = absurd (none-some c h)
by_table m l p w v c (Table t) go h = go t h
by_table m l p w v c (Leaf s) go h = absurd (none-some c h)
by_table m l p w v c (LargeLeaf s) go h = absurd (none-some c h)

pub deeper : (m : Memory) (l t p w c : ℕ) → table_from m l t p w ≡ Some c → w ≤ l
unfolding table_from
deeper m zero t p w c h = absurd (none-some c h)
deeper m (suc l) t p w c h = deeper_at m l t p w c (nat_eq w (suc l)) refl (m (suc l) t (index_in l p)) (λ t' h'. deeper m l t' p w c h') h
  where
    under : (m : Memory) (l p w c : ℕ) (e : SsEntry) → ((t' : ℕ) → table_from m l t' p w ≡ Some c → w ≤ l)
        → table_of e (λ c. table_from m l c p w) ≡ Some c → w ≤ l
    under m l p w c Absent go h = absurd (none-some c h)
    under m l p w c (Table t) go h = go t h
    under m l p w c (Leaf s) go h = absurd (none-some c h)
    under m l p w c (LargeLeaf s) go h = absurd (none-some c h)

    deeper_at : (m : Memory) (l t p w c : ℕ) (b : Bool) → nat_eq w (suc l) ≡ b → (e : SsEntry)
        → ((t' : ℕ) → table_from m l t' p w ≡ Some c → w ≤ l) → cond b (Some t) (table_of e (λ c. table_from m l c p w)) ≡ Some c
        → w ≤ suc l
    deeper_at m l t p w c true e x go h = let w_is : w ≡ suc l = eqb-true w (suc l) e in omega arith
    deeper_at m l t p w c false e x go h = let k : w ≤ l = under m l p w c x go h in omega arith

table_here : (m : Memory) (l t p w v c : ℕ) (b : Bool) → nat_eq w (suc l) ≡ b → v < w
    → ((t' : ℕ) → table_from m l t' p w ≡ Some c → table_from m w c p v ≡ table_from m l t' p v)
    → cond b (Some t) (table_of (m (suc l) t (index_in l p)) (λ c. table_from m l c p w)) ≡ Some c → (w ≤ l → nat_eq v (suc l) ≡ false)
    → table_from m w c p v ≡ table_from m (suc l) t p v
unfolding table_from
table_here m l t p w v c true e lt go h ne = let w_is : w ≡ suc l = eqb-true w (suc l) e in let same : t ≡ c = same_Some t c h in cc
table_here m l t p w v c false e lt go h ne =
    let deep : w ≤ suc l = deeper m (suc l) t p w c (rw e h) in
    let ok : nat_eq v (suc l) ≡ false = grind (arith, nat_tests) in
    rw ok (by_table m l p w v c (m (suc l) t (index_in l p)) go h)

-- the way goes on from a table in it
pub table_on : (m : Memory) (l t p w v c : ℕ) → v < w → table_from m l t p w ≡ Some c → table_from m w c p v ≡ table_from m l t p v
unfolding table_from
table_on m zero t p w v c lt h = absurd (none-some c h)
table_on m (suc l) t p w v c lt h =
    table_here m l t p w v c (nat_eq w (suc l)) refl lt (λ t' h'. table_on m l t' p w v c lt h') h (λ le. grind (arith, nat_tests))

-- the frame has no entry at any level
abbrev pub IsBare : Memory → ℕ → Type 0
IsBare m f = (l k : ℕ) → k < TABLE_ENTRIES → m l f k ≡ Absent

pub index_lt : (l p : ℕ) → index_in l p < TABLE_ENTRIES
index_lt l p = mod-lt (p / span l) (omega arith)

-- nothing is met from a bare table
pub leaf_zeroed : (m : Memory) (l f p : ℕ) → IsBare m f → leaf_from m l f p ≡ None
unfolding leaf_from
leaf_zeroed m zero f p z = refl
leaf_zeroed m (suc l) f p z = ap (λ e. leaf_of e l (λ c. leaf_from m l c p)) (z (suc l) (index_in l p) (index_lt l p))

pub table_zeroed : (m : Memory) (l f p v : ℕ) → IsBare m f → v < l → table_from m l f p v ≡ None
unfolding table_from
table_zeroed m zero f p v z lt = refl
table_zeroed m (suc l) f p v z lt =
    let ne : nat_eq v (suc l) ≡ false = grind (arith, nat_tests) in
    rw ne (ap (λ e. table_of e (λ c. table_from m l c p v)) (z (suc l) (index_in l p) (index_lt l p)))
