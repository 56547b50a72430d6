-- What a call makes of the words of one domain's tree.
use Rattle.std.proofs.Common.{◌≡◌, ◌⊎◌, inl, inr, ℕ, ◌<◌, ◌≤◌, Bool, true, false, cond, List, Option, Some, None, IsSome}
use Rattle.std.proofs.Common.{nat_lt, refl, sym, ap, subst, ◌∙◌, arith}
use Rattle.dmatypes.specs.Page.{Range, levels, pages_end}
use Rattle.dmatypes.specs.World.{Target}
use Rattle.dmatypes.specs.World as world
use Rattle.dmatypes.specs.declared.width.Width.{Width}
use Rattle.iova.specs.Pieces.{state_at}
use Rattle.iova.specs.Space.{IsSpace, Space}
use Rattle.piece_tree.specs.declared.piece.PageState.{PageState}
use Rattle.vtdbits.specs.Entry.{look}
use Rattle.tables.specs.declared.entries.TheConstants.{TABLE_ENTRIES}
use Rattle.tables.specs.Tree.{Memory, leaf_from, stated, uses}
use Rattle.tables.specs.Pool.{Pool, memory, word}
use Rattle.tables.proofs.walks.Agreeing.{AgreeAt, leaf_agrees, table_agrees, to_agree}
use Rattle.tables.proofs.walks.Words.{memory_at}
use Rattle.moments.specs.Moments.{IsFilledFirst, IsMap, IsOldOrNew, IsOldOrNewIn, IsUnmap, Reached, meanwhile}
use Rattle.moments.proofs.Between.{meanwhile_at}
use Rattle.moments.proofs.Walks.{maps_old_or_new, unmaps_old_or_new}
use Rattle.engine.specs.Quarantine.{PartsPages}

-- ---- the words of one tree

-- the words of its tables stay
abbrev pub Stays : List ℕ → List ℕ → Width → ℕ → Type 0
Stays old new width root =
    (f k : ℕ) → 0 < uses (memory old) (levels width) root f → k < TABLE_ENTRIES → word new f k ≡ word old f k

-- pages were mapped in it
abbrev pub Maps : List ℕ → List ℕ → Width → ℕ → Type 0
Maps old new width root =
    (p p' : Pool) × (range : Range) × (says : ℕ → Option Target) × (p.words ≡ old) × (p'.words ≡ new) × IsMap p p' width root range says

-- pages were unmapped in it
abbrev pub Unmaps : List ℕ → List ℕ → Width → ℕ → Type 0
Unmaps old new width root =
    (p p' : Pool) × (range : Range) × (cut : List ℕ) × (p.words ≡ old) × (p'.words ≡ new) × IsUnmap p p' width root range cut

-- they stay, or pages were mapped in it, or unmapped by a call that is an unmap
abbrev pub Change : Type 0 → List ℕ → List ℕ → Width → ℕ → Type 0
Change IsByUnmap old new width root =
    Stays old new width root ⊎ (Maps old new width root ⊎ (IsByUnmap × Unmaps old new width root))

unchanged : (b : Bool) (x y l : ℕ) → x ≡ y → look l (cond b x y) ≡ look l y
unchanged true x y l same = ap (look l) same
unchanged false x y l same = refl

-- a walk that reads the words of its tables as they were finds each page so
pub steady : (old new : List ℕ) (now : Memory) (width : Width) (root page : ℕ) → AgreeAt (memory old) now (levels width) root
    → IsOldOrNewIn old new now width root page
steady old new now width root page agree =
    let same : leaf_from now (levels width) root page ≡ leaf_from (memory old) (levels width) root page =
    leaf_agrees (memory old) now (levels width) root page agree in
    record {
      found = inl (ap (λ o. cond (nat_lt page (pages_end width)) (stated page o) None) same);
      leaf = λ small. inl same;
      tables = λ l t small h. inl (sym (table_agrees (memory old) now (levels width) root page l agree) ∙ h);
    }

module _ (old new : List ℕ) (reached : Reached) (width : Width) (root : ℕ) where
  pub agrees : Stays old new width root → AgreeAt (memory old) (meanwhile old new reached) (levels width) root
  agrees stays =
      to_agree (memory old) (meanwhile old new reached) (levels width) root
      (λ f some l k inside. meanwhile_at old new reached l f k
      ∙ unchanged (reached l f k) (word new f k) (word old f k) l (stays f k some inside) ∙ sym (memory_at old l f k))

  pub old_or_new : {P : Type 0} (page : ℕ) → Change P old new width root → IsFilledFirst old new reached
      → IsOldOrNew old new reached width root page
  old_or_new page (inl stays) first = steady old new (meanwhile old new reached) width root page (agrees stays)
  old_or_new page (inr (inl (p, p', range, says, was, is, map))) first =
      subst (λ ws. IsOldOrNew ws new reached width root page) was
      (subst (λ ws. IsOldOrNew p.words ws reached width root page) is (maps_old_or_new p p' width root range says reached page map))
  old_or_new page (inr (inr (by, (p, p', range, cut, was, is, unmap)))) first =
      subst (λ ws. IsFilledFirst ws new reached → IsOldOrNew ws new reached width root page) was
      (subst (λ ws. IsFilledFirst p.words ws reached → IsOldOrNew p.words ws reached width root page) is
      (λ filled. unmaps_old_or_new p p' width root range cut reached page unmap filled)) first

-- ---- a page of a space

-- a page that lies in a piece of a space is one of the space
pub space_end : (space : Space) (p : ℕ) (s : PageState) → IsSpace space → state_at space.pieces p ≡ Some s → p ≤ space.last
space_end space p s is at = (is.others p (subst (λ o. IsSome o) (sym at) refl)).1

pub below_end : (space : Space) (v : world.Domain) (p : ℕ) (s : PageState) → PartsPages space v → state_at space.pieces p ≡ Some s
    → p < pages_end v.width
below_end space v p s parts at = omega (arith, space_end space p s parts.is_space at, parts.whole, parts.is_space.some)
