-- What a page's translation was read off.
use Rattle.std.proofs.Common.{◌≡◌, ℕ, ◌+◌, ◌-◌, ◌%◌, ◌⊎◌, inl, inr, Bool, IsTrue, List, Option, Some, None, refl, sym, ap, subst, ◌∙◌}
use Rattle.std.proofs.Common.{arith, ◌<◌, mod-lt, ◌==◌, ◌&&◌, true, ap₂}
use Rattle.std.proofs.lemmas.Bool.{eqb-true}
use Rattle.std.specs.List.{list_any}
use Rattle.std.proofs.Math.Nat.{mod-le}
use Rattle.std.proofs.lemmas.Option.{same_Some}
use Rattle.dmatypes.specs.World.{IsIn, Target}
use Rattle.vtdbits.specs.Translation.{target}
use Rattle.std.proofs.lemmas.Bool.Decides.{nat_tests}
use Rattle.tables.proofs.walks.Near.{span_pos}
use Rattle.tables.specs.Tree.{Memory, LeafEntry, span, leaf_from, stated, states}
use Rattle.unit.specs.Caches.{CachedLeaf, CachedNonLeaf, CachedContext, CachedFault, fault}
use Rattle.unit.proofs.caches.Found.{both}
use Rattle.unit.proofs.caches.Remembered.{any_in}
use Rattle.unit.specs.Lists.{Gains}
use Rattle.unit.specs.Walking.{hold, met, met_leaf, stated_by, IsPassed}
use Rattle.unit.specs.Answers.{Entries, IsStart, IsRead, entries}

met_none : (d p : ℕ) (r : Option LeafEntry) → None ≡ met d p r → None ≡ stated p r
met_none d p None e = refl
met_none d p (Some x) e = absurd (cc)

behind : (p s : ℕ) → p - (p - p % s) ≡ p % s
behind p s = let low = mod-le p s in omega arith

met_some : (d p : ℕ) (r : Option LeafEntry) (l : CachedLeaf) → Some l ≡ met d p r → Some (stated_by p l) ≡ stated p r
met_some d p None l e = absurd (cc)
met_some d p (Some x) l e =
    let same : l ≡ met_leaf d p x = same_Some l (met_leaf d p x) e in
    ap (λ (k : CachedLeaf). Some (stated_by p k)) same ∙ ap (λ (n : ℕ). Some (target (x.frame + n) x.rights)) (behind p (span x.size))

-- the leaf that a walk met is of the domain and holds the page
pub met_domain : (d p : ℕ) (r : Option LeafEntry) (l : CachedLeaf) → Some l ≡ met d p r → l.domain ≡ d
met_domain d p None l e = absurd (cc)
met_domain d p (Some x) l e = ap (λ (k : CachedLeaf). k.domain) (same_Some l (met_leaf d p x) e)

pub met_holds : (d p : ℕ) (r : Option LeafEntry) (l : CachedLeaf) → Some l ≡ met d p r → IsTrue (hold l.first l.pages p)
met_holds d p None l e = absurd (cc)
met_holds d p (Some x) l e =
    let within : p % span x.size < span x.size = mod-lt p (span_pos x.size) in
    let low = mod-le p (span x.size) in
    subst (λ (k : CachedLeaf). IsTrue (hold k.first k.pages p)) (sym (same_Some l (met_leaf d p x) e)) (grind (arith, nat_tests))

met_gain : {A : Type 0} {fill : Bool} (met : Option CachedLeaf) (l y : CachedLeaf) → Some l ≡ met → A ⊎ (IsTrue fill × (y ≡ l))
    → A ⊎ (IsTrue fill × (met ≡ Some y))
met_gain met l y is (inl h) = inl h
met_gain met l y is (inr (f, e)) = inr (f, sym is ∙ ap (λ (k : CachedLeaf). Some k) (sym e))

-- what is remembered as absent is in the list
absent_in : (d page : ℕ) (cached : List CachedFault) → list_any (λ f. (f.domain == d) && (f.page == page)) cached ≡ true
    → IsIn (fault d page) cached
absent_in d page cached any =
    any_in (λ (f g : CachedFault). (f.domain == g.domain) && (f.page == g.page)) (fault d page) cached
    (λ y h. let both' = both _ _ h in ap₂ fault (eqb-true _ _ both'.0) (eqb-true _ _ both'.1)) any

absent_gain : {A : Type 0} {fill : Bool} (t : Option Target) (d e page : ℕ) (y : CachedFault) → t ≡ None → d ≡ e
    → A ⊎ (IsTrue fill × (y ≡ fault d page)) → A ⊎ (IsTrue fill × ((t ≡ None) × (y ≡ fault e page)))
absent_gain t d e page y none same (inl h) = inl h
absent_gain t d e page y none same (inr (f, is)) = inr (f, (none, is ∙ ap (λ (n : ℕ). fault n page) same))

module _ (m : Memory) (x : CachedContext) (look fill caching : Bool) (page : ℕ) (old : Entries) where
  -- off a cached leaf
  pub read_cached : (l : CachedLeaf) (t : Target) → IsTrue look → IsIn l old.leaves → l.domain ≡ x.domain
      → IsTrue (hold l.first l.pages page) → t ≡ stated_by page l → IsRead m x look fill caching page old old (Some t)
  read_cached l t looks cached domain holds states =
      inl (inl (looks, (l, cached, domain, holds, ap (λ (y : Target). Some y) states)), refl)

  -- remembered as absent
  pub read_absent : (d : ℕ) → d ≡ x.domain → IsTrue look
      → list_any (λ f. (f.domain == d) && (f.page == page)) old.faults ≡ true → IsRead m x look fill caching page old old None
  read_absent d same looks any =
      inl (inr (looks, subst (λ (e : ℕ). IsIn (fault e page) old.faults) same (absent_in d page old.faults any), refl), refl)

  module _ (level table d : ℕ) (tables' : List CachedNonLeaf) (same : d ≡ x.domain) (start : IsStart old.tables look x page level table)
      (passed : Gains fill (IsPassed m level table d page) old.tables tables') where
    -- off a walk that met no leaf
    pub read_nothing : (faults' : List CachedFault) → None ≡ met d page (leaf_from m level table page)
        → Gains (fill && caching) (λ f. f ≡ fault d page) old.faults faults'
        → IsRead m x look fill caching page old (entries old.leaves tables' faults') None
    read_nothing faults' is gains = inr (
      level,
      table,
      record {
        start = start;
        meaning = met_none d page (leaf_from m level table page) is;
        leaves_gain = λ y h. inl h;
        tables_gain = subst (λ (e : ℕ). Gains fill (IsPassed m level table e page) old.tables tables') same passed;
        faults_gain = λ y h. absent_gain None d x.domain page y refl same (gains y h);
      },
    )

    -- off one that met a leaf
    pub read_walked : (l : CachedLeaf) (t : Target) (leaves' : List CachedLeaf) → Some l ≡ met d page (leaf_from m level table page)
        → Gains fill (λ y. y ≡ l) old.leaves leaves' → t ≡ stated_by page l
        → IsRead m x look fill caching page old (entries leaves' tables' old.faults) (Some t)
    read_walked l t leaves' is gains states = inr (
      level,
      table,
      record {
        start = start;
        meaning = ap (λ (y : Target). Some y) states ∙ met_some d page (leaf_from m level table page) l is;
        leaves_gain =
            λ y h. met_gain (met x.domain page (leaf_from m level table page)) l y
            (is ∙ ap (λ (e : ℕ). met e page (leaf_from m level table page)) same) (gains y h);
        tables_gain = subst (λ (e : ℕ). Gains fill (IsPassed m level table e page) old.tables tables') same passed;
        faults_gain = λ y h. inl h;
      },
    )
