-- What maps ask for, where nothing stands against it.
use Rattle.std.proofs.Common.{◌≡◌, inl, inr, ℕ, ◌+◌, ◌<◌, ◌≤◌, ◌%◌, ◌^◌, List, [], ◌∷◌, Option, None, Some, refl, sym, subst, arith}
use Rattle.std.specs.Prelude.{IsNone, IsSome, IsSomeAnd, MatchOption}
use Rattle.std.specs.List.{AllByRecursion}
use Rattle.std.proofs.lemmas.Bool.{cases_lt}
use Rattle.std.proofs.lemmas.List.Sums.{sum_by-cons}
use Rattle.dmatypes.specs.declared.call.Segment.{Segment}
use Rattle.dmatypes.specs.declared.page.TheConstants.{FRAMES_END, MOST_PAGES}
use Rattle.dmatypes.specs.Conditions.{IsBadMap, IsBadUnmap, SomeHas, total_pages}
use Rattle.dmatypes.specs.Page.{IsPage, IsPageRange, IsWithin, Range, range_at}
use Rattle.dmatypes.specs.World as world
use Rattle.dmatypes.specs.World.{AreFreePages}
use Rattle.checker.specs.Refusing.{IsUnmapRange}
use Rattle.checker.specs.World.{HasFreeRange}

pub some_pages : (segments : List Segment) (order rights : ℕ) → (IsBadMap segments order rights → ⊥) → 1 ≤ total_pages segments
some_pages [] order rights good = absurd (good (inl refl))
some_pages (s ∷ ss) order rights good =
    let is : total_pages (s ∷ ss) ≡ s.pages + total_pages ss = sum_by-cons (λ (x : Segment). x.pages) s ss in
    elim (cases_lt 0 s.pages) [
      | inl some ↦ omega arith
      | inr none ↦ absurd (good (inr (inl (inl (omega arith)))))
    ]

near : (segments : List Segment) → (SomeHas (λ s. FRAMES_END < s.frame + s.pages) segments → ⊥)
    → AllByRecursion (λ s. s.frame + s.pages ≤ FRAMES_END) segments
near [] h = tt
near (s ∷ ss) h =
    elim (cases_lt FRAMES_END (s.frame + s.pages)) [
      | inl far ↦ absurd (h (inl far))
      | inr at ↦ (at, near ss (λ k. h (inr k)))
    ]

pub near_frames : (segments : List Segment) (order rights : ℕ) → (IsBadMap segments order rights → ⊥)
    → AllByRecursion (λ s. s.frame + s.pages ≤ FRAMES_END) segments
near_frames segments order rights good = near segments (λ far. good (inr (inr (inr (inl far)))))

filled : (segments : List Segment) → (SomeHas (λ s. s.pages ≡ 0) segments → ⊥) → AllByRecursion (λ s. 1 ≤ s.pages) segments
filled [] h = tt
filled (s ∷ ss) h =
    elim (cases_lt 0 s.pages) [
      | inl some ↦ (omega (arith, some), filled ss (λ k. h (inr k)))
      | inr none ↦ absurd (h (inl (omega (arith, none))))
    ]

pub filled_segments : (segments : List Segment) (order rights : ℕ) → (IsBadMap segments order rights → ⊥)
    → AllByRecursion (λ s. 1 ≤ s.pages) segments
filled_segments segments order rights good = filled segments (λ empty. good (inr (inl empty)))

pub free_range_stands : (o : Option world.Domain) (v : world.Domain) (n order : ℕ) → o ≡ Some v → HasFreeRange v n order
    → IsSomeAnd o (λ u. (s : ℕ) → s % 2 ^ order ≡ 0 → AreFreePages u (record { first = s; pages = n }) → ⊥) → ⊥
free_range_stands o v n order is free none =
    let at : (s : ℕ) → s % 2 ^ order ≡ 0 → AreFreePages v (record { first = s; pages = n }) → ⊥ =
    subst (λ (x : Option world.Domain). IsSomeAnd x (λ u. (s : ℕ) → s % 2 ^ order ≡ 0
    → AreFreePages u (record { first = s; pages = n }) → ⊥)) is none in
    at free.0 free.1.0 free.1.1

pub no_free_range : (o : Option world.Domain) (v : world.Domain) (n order : ℕ) → o ≡ Some v → (HasFreeRange v n order → ⊥)
    → IsSomeAnd o (λ u. (s : ℕ) → s % 2 ^ order ≡ 0 → AreFreePages u (record { first = s; pages = n }) → ⊥)
no_free_range o v n order is none =
    subst (λ (x : Option world.Domain). IsSomeAnd x (λ u. (s : ℕ) → s % 2 ^ order ≡ 0
    → AreFreePages u (record { first = s; pages = n }) → ⊥))
    (sym is) (λ s aligned free. none (s, (aligned, free)))

pub some_and_from : (P : world.Domain → Type 0) (o : Option world.Domain) (v : world.Domain) → o ≡ Some v → P v → IsSomeAnd o P
some_and_from P o v is h = subst (λ (x : Option world.Domain). IsSomeAnd x P) (sym is) h

pub some_and_at : (P : world.Domain → Type 0) (o : Option world.Domain) (v : world.Domain) → o ≡ Some v → IsSomeAnd o P → P v
some_and_at P o v is h = let at : IsSomeAnd (Some v) P = subst (λ (x : Option world.Domain). IsSomeAnd x P) is h in at

pub free_members : (o : Option world.Domain) (r : Range) → IsSomeAnd o (λ v. AreFreePages v r) → (p : ℕ) → IsWithin r p → IsPage p
free_members None r h p within = absurd h
free_members (Some v) r h p within = (h p within).0.0

pub some_not_none : (o : Option world.Domain) → IsSome o → IsNone o → ⊥
some_not_none None is none = absurd cc
some_not_none (Some v) is none = absurd cc

-- the range of an unmap, by the domain that it is an unmap of
pub unmap_range_of : (o : Option world.Domain) (v : world.Domain) (r : Option Range) (a n : ℕ) → o ≡ Some v
    → MatchOption r (IsBadUnmap v.width a n) (λ x. (x ≡ range_at a n) × (IsBadUnmap v.width a n → ⊥))
    → IsUnmapRange o a n r
unmap_range_of o v None a n is bad = λ there. some_and_from (λ u. IsBadUnmap u.width a n) o v is bad
unmap_range_of o v (Some x) a n is h = (h.0, λ bad. h.1 (some_and_at (λ u. IsBadUnmap u.width a n) o v is bad))

few_pages : (segments : List Segment) (order rights : ℕ) → (IsBadMap segments order rights → ⊥) → total_pages segments ≤ MOST_PAGES
few_pages segments order rights good =
    elim (cases_lt MOST_PAGES (total_pages segments)) [
      | inl many ↦ absurd (good (inr (inr (inl many))))
      | inr few ↦ few
    ]

pub page_range_of : (o : Option world.Domain) (segments : List Segment) (order rights s : ℕ) → (IsBadMap segments order rights → ⊥)
    → IsSomeAnd o (λ v. AreFreePages v (record { first = s; pages = total_pages segments }))
    → IsPageRange (record { first = s; pages = total_pages segments })
page_range_of o segments order rights s good free = record {
  some = some_pages segments order rights good;
  few = few_pages segments order rights good;
  members = free_members o (record { first = s; pages = total_pages segments }) free;
}

pub has_a_range : (o : Option world.Domain) (n order s : ℕ) → s % 2 ^ order ≡ 0
    → IsSomeAnd o (λ v. AreFreePages v (record { first = s; pages = n }))
    → IsSomeAnd o (λ u. (s : ℕ) → s % 2 ^ order ≡ 0 → AreFreePages u (record { first = s; pages = n }) → ⊥) → ⊥
has_a_range None n order s aligned free none = free
has_a_range (Some v) n order s aligned free none = none s aligned free
