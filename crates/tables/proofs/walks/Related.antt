-- The relation of walks along words, and the function that tells what a tree states.
use Rattle.std.proofs.Common.{◌≡◌, ℕ, zero, suc, ◌+◌, ◌%◌, inl, inr, Some, List, refl, ap, sym, ◌∙◌, subst, arith}
use Rattle.std.proofs.lemmas.Option.{none-some, same_Some}
use Rattle.dmatypes.specs.declared.page.TheConstants.{SPAN_PAGES}
use Rattle.dmatypes.specs.World.{Target}
use Rattle.vtdbits.specs.Entry.{look, Spells}
use Rattle.vtdbits.specs.Translation.{target}
use Rattle.vtdbits.proofs.Entries.{look-spelled, table_looked, leaf_looked, large_leaf_looked}
use Rattle.vtdbits.specs.declared.entry.SsEntry.{SsEntry}
use Rattle.vtdbits.specs.declared.entry.SsEntry.TheVariants.{Absent, Table, Leaf, LargeLeaf}
use Rattle.tables.specs.Tree.{index_in, leaf_of, leaf_from, stated, states}
use Rattle.tables.specs.Pool.{word, memory}
use Rattle.tables.specs.Walks.{Walks}
use Rattle.tables.proofs.walks.Steps.{leaf_under, leaf-zero}
use Rattle.tables.proofs.walks.Levels.{stated_small, stated_large}
use Rattle.tables.proofs.walks.Words.{memory_at}

read_there : (words : List ℕ) (l t p : ℕ) (e : SsEntry) → Spells (suc l) (word words t (index_in l p)) e
    → memory words (suc l) t (index_in l p) ≡ e
read_there words l t p e s = memory_at words (suc l) t (index_in l p) ∙ look-spelled (suc l) (word words t (index_in l p)) e s

pub stated_of_walks : (words : List ℕ) (l t p f r : ℕ) → Walks (word words) l t p f r → states (memory words) l t p ≡ Some (target f r)
unfolding Walks
stated_of_walks words zero t p f r h = absurd h
stated_of_walks words (suc l) t p f r (inl s) =
    ap (stated p) (leaf_under (memory words) l t p (Leaf (target f r)) (read_there words l t p (Leaf (target f r)) s))
    ∙ stated_small p l (target f r) (omega (arith, s.0))
stated_of_walks words (suc l) t p f r (inr (inl (first, s))) =
    ap (stated p) (leaf_under (memory words) l t p (LargeLeaf (target first r)) (read_there words l t p (LargeLeaf (target first r)) s.0))
    ∙ stated_large p l (target first r) (omega (arith, s.0.0)) ∙ ap (λ x. Some (target x r)) (sym s.1)
stated_of_walks words (suc l) t p f r (inr (inr (below, s))) =
    ap (stated p) (leaf_under (memory words) l t p (Table below) (read_there words l t p (Table below) s.0))
    ∙ stated_of_walks words l below p f r s.1

by_entry : (words : List ℕ) (l t p f r : ℕ) (e : SsEntry) → look (suc l) (word words t (index_in l p)) ≡ e
    → stated p (leaf_of e l (λ c. leaf_from (memory words) l c p)) ≡ Some (target f r)
    → ((c : ℕ) → states (memory words) l c p ≡ Some (target f r) → Walks (word words) l c p f r) → Walks (word words) (suc l) t p f r
unfolding Walks
by_entry words l t p f r Absent is h below = absurd (none-some (target f r) h)
by_entry words l t p f r (Table c) is h below = inr (inr (c, (table_looked (suc l) (word words t (index_in l p)) c is, below c h)))
by_entry words l t p f r (Leaf x) is h below =
    let s = leaf_looked (suc l) (word words t (index_in l p)) x is in
    let same : x ≡ target f r = same_Some x (target f r) (sym (stated_small p l x (omega (arith, s.0))) ∙ h) in
    inl (subst (λ y. Spells (suc l) (word words t (index_in l p)) (Leaf y)) same s)
by_entry words l t p f r (LargeLeaf x) is h below =
    let s = large_leaf_looked (suc l) (word words t (index_in l p)) x is in
    let same : target (x.frame + p % SPAN_PAGES) x.rights ≡ target f r =
    same_Some (target (x.frame + p % SPAN_PAGES) x.rights) (target f r) (sym (stated_large p l x (omega (arith, s.0))) ∙ h) in
    let rights : x.rights ≡ r = ap (λ (y : Target). y.rights) same in
    let frame : f ≡ x.frame + p % SPAN_PAGES = sym (ap (λ (y : Target). y.frame) same) in
    inr (inl (x.frame, (subst (λ y. Spells (suc l) (word words t (index_in l p)) (LargeLeaf (target x.frame y))) rights s, frame)))

pub walks_of_stated : (words : List ℕ) (l t p f r : ℕ) → states (memory words) l t p ≡ Some (target f r) → Walks (word words) l t p f r
walks_of_stated words zero t p f r h = absurd (none-some (target f r) (ap (stated p) (sym (leaf-zero (memory words) t p)) ∙ h))
walks_of_stated words (suc l) t p f r h =
    by_entry words l t p f r (look (suc l) (word words t (index_in l p))) refl
    (ap (stated p)
    (sym (leaf_under (memory words) l t p (look (suc l) (word words t (index_in l p))) (memory_at words (suc l) t (index_in l p)))) ∙ h)
    (λ c e. walks_of_stated words l c p f r e)
