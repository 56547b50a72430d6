-- Which pages are free.
use Rattle.std.proofs.Common.{◌≡◌, inl, inr, ℕ, ◌+◌, ◌<◌, Bool, true, false, None, Some, refl, subst, arith}
use Rattle.std.specs.Prelude.{◌&&◌, nat_lt, not}
use Rattle.std.proofs.lemmas.Bool.{and_parts, and_from, lt-ltb, ltb-true, both_ways, cases_lt, not-true}
use Rattle.std.specs.Prelude.{MatchOption, Option}
use Rattle.dmatypes.specs.Page.{Fits, IsPageOf, IsWithin, Range}
use Rattle.dmatypes.specs.World.{AreFreePages, IsFree, IsIn, Retired}
use Rattle.checker.specs.declared.domain.Domain.{Domain}
use Rattle.checker.specs.declared.record.Record.{Record}
use Rattle.checker.specs.Pages.{IsMappedIn, NoneIsMappedIn, target_at}
use Rattle.checker.specs.World.{do_meet, domain_of, meets_some, retired_of}
use Rattle.checker.proofs.lists.Members.{any_in, in_any, in_map, to_map}

-- ---- ranges with a page number in common

pub met_there : (a b : Range) (p : ℕ) → IsWithin a p → IsWithin b p → do_meet a b ≡ true
met_there a b p h k =
    and_from (nat_lt 0 a.pages && nat_lt 0 b.pages && nat_lt a.first (b.first + b.pages)) (nat_lt b.first (a.first + a.pages))
    (and_from (nat_lt 0 a.pages && nat_lt 0 b.pages) (nat_lt a.first (b.first + b.pages))
    (and_from (nat_lt 0 a.pages) (nat_lt 0 b.pages) (lt-ltb 0 a.pages (omega arith)) (lt-ltb 0 b.pages (omega arith)))
    (lt-ltb a.first (b.first + b.pages) (omega arith))) (lt-ltb b.first (a.first + a.pages) (omega arith))

pub meet_at : (a b : Range) → do_meet a b ≡ true → (p : ℕ) × IsWithin a p × IsWithin b p
meet_at a b e =
    let one = and_parts (nat_lt 0 a.pages && nat_lt 0 b.pages && nat_lt a.first (b.first + b.pages)) (nat_lt b.first
    (a.first + a.pages)) e in
    let two = and_parts (nat_lt 0 a.pages && nat_lt 0 b.pages) (nat_lt a.first (b.first + b.pages)) one.0 in
    let three = and_parts (nat_lt 0 a.pages) (nat_lt 0 b.pages) two.0 in
    let u : 0 < a.pages = ltb-true 0 a.pages three.0 in
    let v : 0 < b.pages = ltb-true 0 b.pages three.1 in
    let x : a.first < b.first + b.pages = ltb-true a.first (b.first + b.pages) two.1 in
    let y : b.first < a.first + a.pages = ltb-true b.first (a.first + a.pages) one.1 in
    elim (cases_lt a.first b.first) [
      | inl below ↦ (b.first, (omega arith, omega arith), (omega arith, omega arith))
      | inr above ↦ (a.first, (omega arith, omega arith), (omega arith, omega arith))
    ]

-- ---- free pages

pub free_pages : (d : Domain) (r : Range) → Fits r d.width → NoneIsMappedIn d.live r → meets_some d r ≡ false
    → AreFreePages (domain_of d) r
free_pages d r fits none apart = λ p within. (
  fits p within,
  record {
    not_live = none p within;
    not_retired = λ x there at.
        let k = in_map retired_of x d.retired.items there in
        let met : do_meet k.0.range r ≡ true = met_there k.0.range r p (subst (λ (y : Retired). IsWithin y.range p) k.2 at) within in
        both_ways (meets_some d r) apart (in_any (λ (y : Record). do_meet y.range r) k.0 d.retired.items k.1 met);
  },
)

pub mapped_not_free : (d : Domain) (r : Range) (p : ℕ) → IsMappedIn d.live r p → AreFreePages (domain_of d) r → ⊥
mapped_not_free d r p mapped free = let none : target_at d.live p ≡ None = (free p mapped.0).1.not_live in grind (arith, none, mapped.1)

pub held_not_free : (d : Domain) (r : Range) → meets_some d r ≡ true → AreFreePages (domain_of d) r → ⊥
held_not_free d r met free =
    let k = any_in (λ (y : Record). do_meet y.range r) d.retired.items met in
    let at = meet_at k.0.range r k.2 in
    (free at.0 at.2).1.not_retired (retired_of k.0) (to_map retired_of k.0 d.retired.items k.1) at.1

pub not_from : (b : Bool) → (b ≡ true → ⊥) → not b ≡ true
not_from true f = absurd (f refl)
not_from false f = refl

pub in_record_not_free : (d : Domain) (x : Record) (p : ℕ) → IsIn x d.retired.items → IsWithin x.range p → IsFree (domain_of d) p → ⊥
in_record_not_free d x p there within free = free.not_retired (retired_of x) (to_map retired_of x d.retired.items there) within

pub obstacle_of : (o : Option ℕ) (d : Domain) (r : Range) → Fits r d.width → NoneIsMappedIn d.live r
    → MatchOption o (not (meets_some d r) ≡ true) (λ p. IsWithin r p × (x : Record) × IsIn x d.retired.items × IsWithin x.range p)
    → MatchOption o (AreFreePages (domain_of d) r) (λ p. IsWithin r p × (IsPageOf d.width p × IsFree (domain_of d) p → ⊥))
obstacle_of None d r fits none h = free_pages d r fits none (not-true (meets_some d r) h)
obstacle_of (Some p) d r fits none h = (h.0, λ free. in_record_not_free d h.1 p h.2 h.3 free.1)
