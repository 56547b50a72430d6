-- Where segments are mapped, and which frame each page of them has.
use Rattle.std.proofs.Common.{◌≡◌, ◌⊎◌, ℕ, ◌+◌, ◌-◌, ◌<◌, ◌≤◌, inl, inr, List, [], ◌∷◌, Some, refl, sym, ap, ◌∙◌, arith}
use Rattle.std.proofs.lemmas.List.Sums.{sum_by-cons}
use Rattle.std.proofs.lemmas.Option.{same_Some}
use Rattle.dmatypes.specs.declared.call.Segment.{Segment}
use Rattle.dmatypes.specs.Page.{Range, IsWithin}
use Rattle.dmatypes.specs.World.{Target, placed}
use Rattle.dmatypes.specs.Conditions.{total_pages}
use Rattle.dmatypes.proofs.numbers.Ranges.{within_is, within_not, within_or_not}
use Rattle.laws.specs.Events.{HasFrame}

-- the range of one segment
abbrev range_of : ℕ → Segment → Range
range_of first s = record { first = first; pages = s.pages }

pub record IsMember (ss : List Segment) (first rights p : ℕ) (t : Target) : Type 0 where
  pub number : ℕ
  pub is : p ≡ first + number
  pub has : HasFrame ss number t.frame
  pub right : t.rights ≡ rights

member_here : (s : Segment) (ss : List Segment) (first rights p : ℕ) (t : Target) → IsWithin (range_of first s) p
    → record { frame = s.frame + (p - first); rights = rights } ≡ t → IsMember (s ∷ ss) first rights p t
member_here s ss first rights p t here same = record {
  number = p - first;
  is = omega (arith, here.0);
  has = inl (omega (arith, here.0, here.1), sym (ap (λ (x : Target). x.frame) same));
  right = sym (ap (λ (x : Target). x.rights) same);
}

-- a page that segments map has one of their frames
pub member_of : (ss : List Segment) (first rights p : ℕ) (t : Target) → placed ss first rights p ≡ Some t → IsMember ss first rights p t
member_of [] first rights p t e = absurd cc
member_of (s ∷ ss) first rights p t e = elim (within_or_not (range_of first s) p) [
  | inl here ↦ member_here s ss first rights p t here (same_Some _ t (sym (rw (within_is (range_of first s) p here) refl) ∙ e))
  | inr past ↦
      let m = member_of ss (first + s.pages) rights p t (sym (rw (within_not (range_of first s) p past) refl) ∙ e) in
      record {
        number = s.pages + m.number;
        is = omega (arith, m.is);
        has = inr (m.number, refl, m.has);
        right = m.right;
      }
]

-- a frame of the segments is one of so many
pub frame_below : (ss : List Segment) (number frame : ℕ) → HasFrame ss number frame → number < total_pages ss
frame_below [] number frame h = absurd h
frame_below (s ∷ ss) number frame (inl here) = omega (arith, here.0, sum_by-cons (λ (x : Segment). x.pages) s ss)
frame_below (s ∷ ss) number frame (inr later) =
    let below = frame_below ss later.0 frame later.2 in
    omega (arith, below, later.1, sum_by-cons (λ (x : Segment). x.pages) s ss)

-- each page of their range is mapped
pub placed_there : (ss : List Segment) (first rights p : ℕ) → IsWithin (record { first = first; pages = total_pages ss }) p
    → (t : Target) × (placed ss first rights p ≡ Some t)
placed_there [] first rights p h = absurd (omega (arith, h.0, h.1))
placed_there (s ∷ ss) first rights p h = elim (within_or_not (range_of first s) p) [
  | inl here ↦ (record { frame = s.frame + (p - first); rights = rights }, rw (within_is (range_of first s) p here) refl)
  | inr past ↦
      let later = placed_there ss (first + s.pages) rights p
      (rest past, omega (arith, h.1, sum_by-cons (λ (x : Segment). x.pages) s ss)) in
      (later.0, rw (within_not (range_of first s) p past) later.1)
]
  where
    rest : ((p < first) ⊎ (first + s.pages ≤ p)) → first + s.pages ≤ p
    rest (inl below) = absurd (omega (arith, below, h.0))
    rest (inr past) = past
