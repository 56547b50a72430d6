-- Runs that are put into a map, or taken out of one.
use Rattle.std.proofs.Common.{◌≡◌, ◌≢◌, ℕ, ◌+◌, ◌^◌, ◌<◌, ◌≤◌, List, Option, Some, None, sym, subst, ◌∙◌}
use Rattle.std.specs.Prelude.{Result, Ok, Err, OnOk, OnErr}
use Rattle.std.specs.BTreeMap as tree
use Rattle.std.specs.BTreeMap.{BTreeMap, IsUnchanged, Updates, is_at}
use Rattle.std.specs.Map.{lookup}
use Rattle.std.specs.Ordering.{nat_cmp}
use Rattle.dmatypes.specs.declared.page.TheConstants.{FRAMES_END}
use Rattle.checker.specs.declared.run.Run.{Run}
use Rattle.checker.specs.Runs.{AreApart, Holds, by_runs}
use Rattle.checker.proofs.worlds.Keys.{is_other}
use Rattle.checker.proofs.worlds.Runs.{HasMore}
use Rattle.checker.proofs.worlds.Taken.{HasLess}

pub unchanged_apart : (old new : BTreeMap ℕ Run) → IsUnchanged old new → AreApart (tree.get nat_cmp old) → AreApart (tree.get nat_cmp new)
unchanged_apart old new same a = subst (λ (es : List (ℕ × Run)). AreApart (λ k. lookup (is_at (nat_cmp k)) es)) (sym same) a

-- whether or not there was memory
pub put_apart : {X E : Type 0} (o : Result X E) (old new : BTreeMap ℕ Run) (first : ℕ) (r : Run)
    → OnOk o (Updates nat_cmp old new first (Some r)) → OnErr o (IsUnchanged old new) → AreApart (tree.get nat_cmp old)
    → (Updates nat_cmp old new first (Some r) → AreApart (tree.get nat_cmp new)) → AreApart (tree.get nat_cmp new)
put_apart (Ok x) old new first r put kept a later = later put
put_apart (Err e) old new first r put kept a later = unchanged_apart old new kept a

-- there is always memory where the key has an entry
pub always_put : {X E A : Type 0} (o : Result X E) (old : BTreeMap ℕ Run) (first : ℕ) (r : Run) → OnOk o A
    → OnErr o (tree.get nat_cmp old first ≡ None) → tree.get nat_cmp old first ≡ Some r → A
always_put (Ok x) old first r put none there = put
always_put (Err e) old first r put none there = let clash : None ≡ Some r = sym none ∙ there in absurd cc

-- another key has what it had
pub other_run : (old new : BTreeMap ℕ Run) (first : ℕ) (o : Option Run) → Updates nat_cmp old new first o → (k : ℕ) → k ≢ first
    → tree.get nat_cmp new k ≡ tree.get nat_cmp old k
other_run old new first o put k other = put.2 k (is_other first k other)

pub more_of : (old new : BTreeMap ℕ Run) (first : ℕ) (r : Run) → Updates nat_cmp old new first (Some r) → 1 ≤ r.pages
    → first + r.pages < 2 ^ 64 → r.frame + r.pages ≤ FRAMES_END → ((p : ℕ) → Holds first r p → by_runs (tree.get nat_cmp old) p p ≡ None)
    → HasMore (tree.get nat_cmp old) (tree.get nat_cmp new) first r
more_of old new first r put some ends frames free = record {
  here = put.1;
  others = other_run old new first (Some r) put;
  some = some;
  ends = ends;
  frames = frames;
  free = free;
}

pub less_of : (old new : BTreeMap ℕ Run) (first : ℕ) (r : Run) → tree.get nat_cmp old first ≡ Some r → Updates nat_cmp old new first None
    → HasLess (tree.get nat_cmp old) (tree.get nat_cmp new) first r
less_of old new first r there gone = record { there = there; gone = gone.1; others = other_run old new first None gone }
