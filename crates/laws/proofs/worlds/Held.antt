-- From a lazy unmap on its pages are held by its record, until what was unmapped is released.
use Rattle.std.proofs.Common.{◌≡◌, ◌≢◌, ◌⊎◌, ℕ, ◌<◌, ◌≤◌, inl, inr, true, false, List, [], ◌∷◌, length, Some}
use Rattle.std.proofs.Common.{None, refl, sym, ap, subst, ◌∙◌, arith}
use Rattle.std.specs.Prelude.{not}
use Rattle.std.proofs.lemmas.Bool.{eq-eqb, le-ltb, lt-ltb, ne_eqb}
use Rattle.dmatypes.specs.declared.call.Mode.{Mode}
use Rattle.dmatypes.specs.declared.call.Mode.TheVariants as modes
use Rattle.dmatypes.specs.declared.call.Segment.{Segment}
use Rattle.dmatypes.specs.declared.limits.TheConstants.{MOST_RECORDS}
use Rattle.dmatypes.specs.declared.reply.Reply.{Reply}
use Rattle.dmatypes.specs.declared.reply.Reply.TheVariants.{Unmapped}
use Rattle.dmatypes.specs.Page.{Range, IsWithin}
use Rattle.dmatypes.specs.World.{Target, Retired, Domain, AreFreePages, IsIn, IsRetired, begun_once_more, flushed, is_before}
use Rattle.dmatypes.specs.World.{mapped, put_off, reaped, record_of, unmapped_by, with_room}
use Rattle.dmatypes.specs.Conditions.{total_pages}
use Rattle.dmatypes.specs.Step.{IsUnmapAnswer}
use Rattle.dmatypes.proofs.lists.Filtered.{in_filter, to_filter}
use Rattle.laws.proofs.lists.Options.{in_either, in_left}
use Rattle.laws.proofs.worlds.Apart.{not_left, not_mapped}
use Rattle.laws.proofs.worlds.Kept.{restricted_live}

-- the page isn't live, a record of this mark holds it, and no record of another mark has a target for it
pub record Holds (p mark : ℕ) (v : Domain) : Type 0 where
  pub not_live : v.live p ≡ None
  pub by : Retired
  pub inside : IsIn by v.retired
  pub within : IsWithin by.range p
  pub marked : by.mark ≡ mark
  pub only : (r : Retired) (t : Target) → IsIn r v.retired → IsWithin r.range p → r.targets p ≡ Some t → r.mark ≡ mark
  pub begun : mark ≤ v.begun

-- no page live and no target in a record
pub record HasNone (p : ℕ) (v : Domain) : Type 0 where
  pub not_live : v.live p ≡ None
  pub not_retired : (t : Target) → IsRetired v p t → ⊥

-- ---- domains that change

pub holds_mapped : (p mark : ℕ) (v : Domain) (ss : List Segment) (first rights : ℕ)
    → AreFreePages v (record { first = first; pages = total_pages ss }) → Holds p mark v → Holds p mark (mapped ss first rights v)
holds_mapped p mark v ss first rights free h = record {
  not_live = not_mapped v ss first rights p h.by free h.inside h.within h.not_live;
  by = h.by;
  inside = h.inside;
  within = h.within;
  marked = h.marked;
  only = h.only;
  begun = h.begun;
}

pub holds_begun : (p mark : ℕ) (v : Domain) → Holds p mark v → Holds p mark (begun_once_more v)
holds_begun p mark v h = record {
  not_live = h.not_live;
  by = h.by;
  inside = h.inside;
  within = h.within;
  marked = h.marked;
  only = h.only;
  begun = omega (arith, h.begun);
}

no_target : (range : Range) (v : Domain) (p : ℕ) (t : Target) (r : Retired) → v.live p ≡ None → r ≡ record_of range v
    → r.targets p ≡ Some t → ⊥
no_target range v p t r none last at =
    let was : v.live p ≡ Some t = restricted_live range v.live p t (ap (λ (x : Retired). x.targets p) (sym last) ∙ at) in
    let both : None ≡ Some t = sym none ∙ was in
    cc

holds_put_off : (p mark : ℕ) (v : Domain) (range : Range) → Holds p mark v → Holds p mark (put_off range v)
holds_put_off p mark v range h = record {
  not_live = not_left range v.live p h.not_live;
  by = h.by;
  inside = in_left h.by v.retired (record_of range v ∷ []) h.inside;
  within = h.within;
  marked = h.marked;
  only = λ r t inside within at. elim (in_either r (record_of range v) v.retired inside) [
    | inl old ↦ h.only r t old within at
    | inr last ↦ absurd (no_target range v p t r h.not_live last at)
  ];
  begun = h.begun;
}

-- a flush leaves none, nor does an unmap that flushes first
pub none_flushed : (p mark : ℕ) (v : Domain) → Holds p mark v → HasNone p (flushed v)
none_flushed p mark v h = record { not_live = h.not_live; not_retired = λ t retired. absurd retired.1 }

none_put_off : (p : ℕ) (v : Domain) (range : Range) → HasNone p v → HasNone p (put_off range v)
none_put_off p v range none = record {
  not_live = not_left range v.live p none.not_live;
  not_retired = λ t h. elim (in_either h.0 (record_of range v) v.retired h.1) [
    | inl old ↦ none.not_retired t (h.0, old, h.2, h.3)
    | inr last ↦ no_target range v p t h.0 none.not_live last h.3
  ];
}

released_in : Reply → ℕ
released_in (Unmapped n) = n
released_in reply = 0

-- an unmap answers that it released some, and leaves none; or that it released none, and the page is still held
pub unmapped_held : (p mark : ℕ) (mode : Mode) (v : Domain) (range : Range) (released : ℕ)
    → IsUnmapAnswer mode v.retired (Unmapped released) → Holds p mark v
    → ((released ≢ 0) × HasNone p (unmapped_by mode range v)) ⊎ ((released ≡ 0) × Holds p mark (unmapped_by mode range v))
unfolding released_in
unmapped_held p mark modes.Strict v range released answer h = inr (
  ap released_in answer,
  record {
    not_live = not_left range v.live p h.not_live;
    by = h.by;
    inside = h.inside;
    within = h.within;
    marked = h.marked;
    only = h.only;
    begun = h.begun;
  },
)
unmapped_held p mark modes.Lazy v range released (inl full) h =
    let is : released ≡ MOST_RECORDS = ap released_in full.1 in
    let room : with_room v ≡ flushed v = rw (eq-eqb (length v.retired) MOST_RECORDS full.0) refl in
    inl (
      λ zero. omega (arith, is, zero),
      subst (λ (u : Domain). HasNone p (put_off range u)) (sym room)
          (none_put_off p (flushed v) range (none_flushed p mark v h)),
    )
unmapped_held p mark modes.Lazy v range released (inr some) h =
    let room : with_room v ≡ v = rw (ne_eqb (length v.retired) MOST_RECORDS some.0) refl in
    inr (ap released_in some.1, subst (λ (u : Domain). Holds p mark (put_off range u)) (sym room) (holds_put_off p mark v range h))

-- ---- the end of a flush

before_is : (r : Retired) (number : ℕ) → r.mark < number → not (is_before number r) ≡ false
before_is r number less = rw (lt-ltb r.mark number less) refl

before_not : (r : Retired) (number : ℕ) → number ≤ r.mark → not (is_before number r) ≡ true
before_not r number le = rw (le-ltb r.mark number le) refl

-- one that was begun after the unmap leaves none
pub none_reaped : (p mark number : ℕ) (v : Domain) → mark < number → Holds p mark v → HasNone p (reaped number v)
none_reaped p mark number v less h = record {
  not_live = h.not_live;
  not_retired = λ t x.
      let passes = in_filter (λ (r : Retired). not (is_before number r)) x.0 v.retired x.1 in
      let at : x.0.mark ≡ mark = h.only x.0 t passes.0 x.2 x.3 in
      let both : true ≡ false = sym passes.1 ∙ before_is x.0 number (omega (arith, at, less)) in
      cc;
}

-- one that was begun before it leaves the record
pub holds_reaped : (p mark number : ℕ) (v : Domain) → number ≤ mark → Holds p mark v → Holds p mark (reaped number v)
holds_reaped p mark number v le h = record {
  not_live = h.not_live;
  by = h.by;
  inside =
      to_filter (λ (r : Retired). not (is_before number r)) h.by v.retired h.inside
      (before_not h.by number (omega (arith, h.marked, le)));
  within = h.within;
  marked = h.marked;
  only = λ r t inside within at.
      h.only r t (in_filter (λ (x : Retired). not (is_before number x)) r v.retired inside).0 within at;
  begun = h.begun;
}
