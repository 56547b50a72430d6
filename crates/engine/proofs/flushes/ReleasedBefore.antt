-- The records that were there before a flush was begun, released one after the other.
use Rattle.std.proofs.Common.{◌≡◌, ℕ, ◌+◌, ◌<◌, ◌≤◌, Bool, true, false, cond, List, [], ◌∷◌, ◌++◌, drop, filter, length, take}
use Rattle.std.proofs.Common.{slice_index_or, refl, sym, ap, subst, ◌∙◌, arith}
use Rattle.std.proofs.lemmas.Bool.Decides.{nat_tests}
use Rattle.std.proofs.lemmas.List.{append-nil, drop_more, length-append}
use Rattle.std.proofs.lemmas.List.Elements.{filter_more}
use Rattle.std.proofs.Math.Seq.{take-length}
use Rattle.dmatypes.specs.Page.{Range}
use Rattle.iova.specs.Space.{Space, MayRetire}
use Rattle.tables.specs.Pool.{Pool}
use Rattle.engine.specs.declared.record.Record.{Record}
use Rattle.engine.specs.Ending.{Releases, ReleasesAll, was_before}
use Rattle.engine.specs.Ready.{AreReleasable, IsReleasable}
use Rattle.engine.proofs.flushes.MayRelease.{first_releasable, first_released, rest_releasable}
use Rattle.engine.proofs.flushes.OneByOne.{releases_last, releases_none}

-- of the first records those that were there before are released, and the others can be
pub record IsReleasingBefore (number : ℕ) (pool : Pool) (space : Space) (all : List Record) (i : ℕ) (pool1 : Pool) (space1 : Space)
    (released : ℕ) : Type 0 where
  pub so_far : ReleasesAll pool space (filter (was_before number) (take i all)) pool1 space1
  pub ready : AreReleasable pool1 space1 (drop i all)
  pub count : released ≡ length (filter (was_before number) (take i all))
  pub few : released ≤ i

pub before_start : (number : ℕ) (pool : Pool) (space : Space) (all : List Record) → AreReleasable pool space all
    → IsReleasingBefore number pool space all 0 pool space 0
before_start number pool space all are = record {
  so_far = releases_none pool space all are;
  ready = are;
  count = refl;
  few = omega arith;
}

is_before : (number : ℕ) (r : Record) → r.mark < number → was_before number r ≡ true
is_before number r less = grind (arith, nat_tests)

is_later : (number : ℕ) (r : Record) → number ≤ r.mark → was_before number r ≡ false
is_later number r later = grind (arith, nat_tests)

module _ (number : ℕ) (pool : Pool) (space : Space) (all : List Record) (i : ℕ) (pool1 : Pool) (space1 : Space) (released : ℕ)
    (so_far : IsReleasingBefore number pool space all i pool1 space1 released) (r : Record) (less : i < length all)
    (is : r ≡ slice_index_or all i r) where
  here : AreReleasable pool1 space1 (r ∷ drop (i + 1) all)
  here =
      subst (AreReleasable pool1 space1) (drop_more all i r less ∙ ap (λ x. x ∷ drop (i + 1) all) (sym is)) so_far.ready

  passed : (b : Bool) → was_before number r ≡ b
      → filter (was_before number) (take (i + 1) all) ≡ filter (was_before number) (take i all) ++ cond b (r ∷ []) []
  passed b test =
      filter_more (was_before number) all i r less
      ∙ ap (λ x. filter (was_before number) (take i all) ++ cond (was_before number x) (x ∷ []) []) (sym is)
      ∙ ap (λ c. filter (was_before number) (take i all) ++ cond c (r ∷ []) []) test

  pub before_one : IsReleasable pool1 space1 r
  before_one = first_releasable pool1 space1 r (drop (i + 1) all) here

  pub before_goes : (pool2 : Pool) (space2 : Space) → r.mark < number → Releases pool1 space1 r pool2 space2
      → ((other : Range) → MayRetire space1.pieces other → MayRetire space2.pieces other) → length pool1.free ≤ length pool2.free
      → IsReleasingBefore number pool space all (i + 1) pool2 space2 (released + 1)
  before_goes pool2 space2 old went retirable more =
      let now = passed true (is_before number r old) in
      record {
        so_far =
            subst (λ rs. ReleasesAll pool space rs pool2 space2) (sym now)
            (releases_last pool pool1 pool2 space space1 space2 (filter (was_before number) (take i all)) r so_far.so_far went retirable
            more);
        ready = first_released pool1 pool2 space1 space2 r (drop (i + 1) all) here went;
        count =
            let many = ap length now in
            omega (arith, many, length-append (filter (was_before number) (take i all)) (r ∷ []), so_far.count);
        few = omega (arith, so_far.few);
      }

  pub before_stays : number ≤ r.mark → IsReleasingBefore number pool space all (i + 1) pool1 space1 released
  before_stays later =
      let now = passed false (is_later number r later) ∙ append-nil (filter (was_before number) (take i all)) in
      record {
        so_far = subst (λ rs. ReleasesAll pool space rs pool1 space1) (sym now) so_far.so_far;
        ready = rest_releasable pool1 space1 r (drop (i + 1) all) here;
        count = so_far.count ∙ sym (ap length now);
        few = omega (arith, so_far.few);
      }

-- and so all of them, at the end
pub before_end : (number : ℕ) (all : List Record) (i : ℕ) → i ≡ length all
    → filter (was_before number) (take i all) ≡ filter (was_before number) all
before_end number all i is = ap (λ n. filter (was_before number) (take n all)) is ∙ ap (filter (was_before number)) (take-length all)
