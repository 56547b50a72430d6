-- Trees that end, and trees that stand apart.
use Rattle.std.proofs.Common.{◌≡◌, ◌⊎◌, inl, inr, ℕ, zero, suc, ◌<◌, Bool, true, false, cond, List, None, refl, sym, ap, ◌∙◌, arith}
use Rattle.dmatypes.specs.Page.{levels}
use Rattle.dmatypes.specs.declared.width.Width.{Width}
use Rattle.vtdbits.proofs.Entries.{look-zero}
use Rattle.vtdbits.specs.Entry.{look}
use Rattle.vtdbits.specs.declared.entry.SsEntry.{SsEntry}
use Rattle.vtdbits.specs.declared.entry.SsEntry.TheVariants.{Absent, Table, Leaf, LargeLeaf}
use Rattle.tables.specs.Tree.{Memory, index_in, leaf_from, uses}
use Rattle.tables.specs.Pool.{IsZeroed, Pool, memory, word}
use Rattle.tables.specs.Changes.{IsApart, TakesAndGivesFrames}
use Rattle.tables.proofs.walks.Agreeing.{leaf_agrees, root_used, to_agree, under}
use Rattle.tables.proofs.walks.Onward.{index_lt}
use Rattle.tables.proofs.walks.Steps.{leaf-zero, leaf_under}
use Rattle.tables.proofs.walks.Words.{memory_at}
use Rattle.moments.specs.Moments.{IsDestroyed, Reached, meanwhile}
use Rattle.moments.proofs.Between.{meanwhile_at}

-- ---- a tree that ends

abbrev OldOrNone : Memory → Memory → ℕ → ℕ → ℕ → Type 0
OldOrNone old now l t p = (leaf_from now l t p ≡ leaf_from old l t p) ⊎ (leaf_from now l t p ≡ None)

zero_or : (b : Bool) (x y l : ℕ) → x ≡ 0 → (look l (cond b x y) ≡ look l y) ⊎ (look l (cond b x y) ≡ Absent)
zero_or true x y l z = inr (ap (look l) z ∙ look-zero l)
zero_or false x y l z = inl refl

module _ (old new : List ℕ) (reached : Reached) where
  abbrev now : Memory
  now = meanwhile old new reached

  -- each frame that the tree uses is zeroed then
  abbrev Ends : ℕ → ℕ → Type 0
  Ends l t = (f : ℕ) → 0 < uses (memory old) l t f → IsZeroed new f

  old_entry : (l t p : ℕ) (e : SsEntry) → now (suc l) t (index_in l p) ≡ e → memory old (suc l) t (index_in l p) ≡ e
      → ((c : ℕ) → e ≡ Table c → OldOrNone (memory old) now l c p) → OldOrNone (memory old) now (suc l) t p
  old_entry l t p Absent read was go = inr (leaf_under now l t p Absent read)
  old_entry l t p (Table c) read was go =
      elim (go c refl) [
        | inl h ↦ inl (leaf_under now l t p (Table c) read ∙ h ∙ sym (leaf_under (memory old) l t p (Table c) was))
        | inr h ↦ inr (leaf_under now l t p (Table c) read ∙ h)
      ]
  old_entry l t p (Leaf x) read was go = inl (leaf_under now l t p (Leaf x) read ∙ sym (leaf_under (memory old) l t p (Leaf x) was))
  old_entry l t p (LargeLeaf x) read was go =
      inl (leaf_under now l t p (LargeLeaf x) read ∙ sym (leaf_under (memory old) l t p (LargeLeaf x) was))

  ending : (l t p : ℕ) → Ends l t → OldOrNone (memory old) now l t p
  ending zero t p ends = inr (leaf-zero now t p)
  ending (suc l) t p ends =
      let k : ℕ = index_in l p in
      let gone : word new t k ≡ 0 = ends t (root_used (memory old) l t) k (index_lt l p) in
      elim (zero_or (reached (suc l) t k) (word new t k) (word old t k) (suc l) gone) [
        | inl h ↦ old_entry l t p (memory old (suc l) t k)
            (meanwhile_at old new reached (suc l) t k ∙ h ∙ sym (memory_at old (suc l) t k)) refl
            (λ c is. ending l c p (λ f some. ends f (under (memory old) l t k c f (index_lt l p) is some)))
        | inr h ↦ inr (leaf_under now l t p Absent (meanwhile_at old new reached (suc l) t k ∙ h))
      ]

pub destroyed : (old new : Pool) (width : Width) (root : ℕ) (reached : Reached) (page : ℕ) → IsDestroyed old new width root
    → (leaf_from (meanwhile old.words new.words reached) (levels width) root page ≡ leaf_from (memory old.words) (levels width) root page)
    ⊎ (leaf_from (meanwhile old.words new.words reached) (levels width) root page ≡ None)
destroyed old new width root reached page ended =
    ending old.words new.words reached (levels width) root page
    (λ f some. ended.zeroed f (omega (arith, ended.free f, some)))

-- ---- a tree that stands apart

unchanged : (b : Bool) (x y l : ℕ) → x ≡ y → look l (cond b x y) ≡ look l y
unchanged true x y l same = ap (look l) same
unchanged false x y l same = refl

pub steady : (old new : Pool) (level root level' root' : ℕ) (cut : List ℕ) (reached : Reached) (page : ℕ)
    → TakesAndGivesFrames old new level root cut → IsApart old level root level' root'
    → leaf_from (meanwhile old.words new.words reached) level' root' page ≡ leaf_from (memory old.words) level' root' page
steady old new level root level' root' cut reached page moves apart =
    leaf_agrees (memory old.words) (meanwhile old.words new.words reached) level' root' page
    (to_agree (memory old.words) (meanwhile old.words new.words reached) level' root'
    (λ f some l k inside. meanwhile_at old.words new.words reached l f k
    ∙ unchanged (reached l f k) (word new.words f k) (word old.words f k) l (moves.others f k inside (apart f some))
    ∙ sym (memory_at old.words l f k)))
