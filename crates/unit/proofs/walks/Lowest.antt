-- A walk that begins below each remembered table that serves passes none that is remembered.
use Rattle.std.proofs.Common.{◌≡◌, ◌-◌, ◌%◌, ◌<◌, ◌≤◌, ℕ, ◌⊎◌, inl, inr, Bool, IsTrue, List, refl, ap, arith, mod-lt, ◌∙◌}
use Rattle.std.proofs.Math.Nat.{mod-le}
use Rattle.std.proofs.lemmas.Bool.Decides.{nat_tests}
use Rattle.dmatypes.specs.World.{IsIn}
use Rattle.tables.proofs.walks.Near.{span_pos}
use Rattle.tables.specs.Tree.{span}
use Rattle.unit.specs.Caches.{CachedNonLeaf}
use Rattle.unit.specs.Lists.{Gains}
use Rattle.unit.specs.Walking.{hold, met_non_leaf}
use Rattle.unit.specs.Answers.{IsLowest}

-- a table on a page's way covers the page
met_covers : (d p l f : ℕ) → IsTrue (hold (met_non_leaf d p l f).first (met_non_leaf d p l f).pages p)
met_covers d p l f =
    let within : p % span l < span l = mod-lt p (span_pos l) in
    let low = mod-le p (span l) in
    grind (arith, nat_tests)

module _ (domain page level below : ℕ) (cached : List CachedNonLeaf) (deep : 2 ≤ level) (lowest : IsLowest cached domain page level) where
  -- the next table isn't remembered yet
  pub table_new : IsIn (met_non_leaf domain page (level - 1) below) cached → ⊥
  table_new there =
      let least = lowest (met_non_leaf domain page (level - 1) below) there refl (met_covers domain page (level - 1) below) (omega arith) in
      omega arith

  -- and once it is, the walk goes on below each that is
  pub lowest_below : (fill : Bool) (next : CachedNonLeaf) → next ≡ met_non_leaf domain page (level - 1) below
      → (new : List CachedNonLeaf) → Gains fill (λ y. y ≡ next) cached new → IsLowest new domain page (level - 1)
  lowest_below fill next at new gains i there of holds some = by_gain (gains i there)
    where
      by_gain : IsIn i cached ⊎ (IsTrue fill × (i ≡ next)) → level - 1 ≤ i.level
      by_gain (inl old) = let least = lowest i old of holds some in omega arith
      by_gain (inr (f, is)) = let at : i.level ≡ level - 1 = ap (λ (t : CachedNonLeaf). t.level) (is ∙ at) in omega arith
