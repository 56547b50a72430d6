-- Where a walk may begin, by the tables that a search by level found.
use Rattle.std.proofs.Common.{◌≡◌, ◌≢◌, ℕ, ◌+◌, ◌==◌, ◌&&◌, Bool, true, false, List, Some, None, IsTrue, find, refl}
use Rattle.std.proofs.Common.{arith, eq-eqb}
use Rattle.std.proofs.lemmas.Bool.{eqb-true}
use Rattle.dmatypes.specs.World.{IsIn}
use Rattle.unit.specs.Caches.{CachedNonLeaf}
use Rattle.unit.specs.Walking.{hold}
use Rattle.unit.specs.Answers.{IsLowest}
use Rattle.unit.proofs.caches.Found.{find_in, find_none, both}

-- the table is of the level and the domain, and its span holds the page
abbrev pub serves : ℕ → ℕ → ℕ → CachedNonLeaf → Bool
serves domain page level t = (t.level == level) && ((t.domain == domain) && hold t.first t.pages page)

module _ (cached : List CachedNonLeaf) (domain page level : ℕ) where
  -- one that was found serves, and is of the level
  pub found_serves : (t : CachedNonLeaf) → find (serves domain page level) cached ≡ Some t
      → IsIn t cached × (t.domain ≡ domain) × IsTrue (hold t.first t.pages page) × (t.level ≡ level)
  found_serves t is =
      let found = find_in (serves domain page level) cached t is in
      let outer = both _ _ found.1 in
      let inner = both _ _ outer.1 in
      (found.0, eqb-true _ _ inner.0, inner.1, eqb-true _ _ outer.0)

  all_true : (a b c : Bool) → a ≡ true → b ≡ true → c ≡ true → (a && (b && c)) ≡ true
  all_true true true true p q r = refl
  all_true true true false p q r = absurd (cc)
  all_true true false c p q r = absurd (cc)
  all_true false b c p q r = absurd (cc)

  -- where none was found of a level and none serves of one below, each that serves is of one above
  pub none_at_level : find (serves domain page level) cached ≡ None → IsLowest cached domain page level
      → IsLowest cached domain page (level + 1)
  none_at_level is lowest i there of holds some =
      let least = lowest i there of holds some in
      let other : i.level ≢ level =
      λ e. find_none (serves domain page level) cached is i there
      (all_true _ _ _ (eq-eqb i.level level e) (eq-eqb i.domain domain of) holds) in
      omega arith
