-- The domains of the state and of a world, once one of them changes.
use Rattle.std.proofs.Common.{◌≡◌, ◌≢◌, ℕ, zero, suc, ◌+◌, ◌-◌, ◌<◌, ◌≤◌, inl, inr, List, [], ◌∷◌, length, Option, Some, None, refl, sym}
use Rattle.std.proofs.Common.{ap, subst, ◌∙◌, arith, slice_get, slice_set}
use Rattle.std.proofs.lemmas.Bool.{ne_eqb}
use Rattle.std.proofs.lemmas.List.Sums.{sum_by-cons}
use Rattle.std.proofs.lemmas.Option.{none-some, same_Some, slice_get_cases}
use Rattle.std.specs.Option.{option_flatten}
use Rattle.dmatypes.specs.World.{World, put}
use Rattle.dmatypes.specs.World as world
use Rattle.tables.specs.Tree.{stated}
use Rattle.engine.specs.Domains.{Domain, domain_at}
use Rattle.engine.specs.Whole.{HasRooms, domain_count, one_if_there}
use Rattle.vtdbits.specs.Numbers.{IsDomainId}
use Rattle.engine.specs.State.{State}
use Rattle.engine.specs.Quarantine.{MirrorsIfAny, IsOfSomeWorld, Mirrors, Quarantine}
use Rattle.engine.specs.Placing.{CanPlace}
use Rattle.engine.proofs.domains.Trees.{SameTree}
use Rattle.engine.proofs.frames.Owners.{tree_of}
use Rattle.dmatypes.proofs.histories.Maps.{put_same, put_other, same_or_not}
use Rattle.engine.proofs.lists.Places.{get_set, get_set_other}
use Rattle.dmatypes.specs.declared.limits.TheConstants.{MOST_DOMAINS}
use Rattle.dmatypes.specs.Page.{pages_end}

-- ---- the list of domains

pub domain_of_place : (domains : List (Option Domain)) (i : ℕ) → domain_at domains (i + 1) ≡ option_flatten (slice_get domains i)
domain_of_place domains i = let same : i + 1 - 1 ≡ i = omega arith in rw (ne_eqb (i + 1) 0 (λ e. absurd (omega (arith, e))), same) refl

pub domain_set : (domains : List (Option Domain)) (i : ℕ) (o : Option Domain) → i < length domains → (d : ℕ)
    → domain_at (slice_set domains i o) d ≡ put (i + 1) o (domain_at domains) d
domain_set domains i o less zero = sym (put_other (i + 1) o (domain_at domains) zero (λ e. absurd (omega (arith, e))))
domain_set domains i o less (suc e) =
    let next : suc e ≡ e + 1 = omega arith in
    elim (same_or_not e i) [
      | inl same ↦ let at : suc e ≡ i + 1 = omega (arith, same) in
          rw (at, put_same (i + 1) o (domain_at domains), domain_of_place (slice_set domains i o) i, get_set domains i o less) refl
      | inr ne ↦ rw (
        put_other (i + 1) o (domain_at domains) (suc e) (λ same. ne (omega (arith, same))),
        next,
        domain_of_place (slice_set domains i o) e,
        domain_of_place domains e,
        get_set_other domains i e o ne,
      ) refl
    ]

-- there is no domain past the places
pub domain_low : (domains : List (Option Domain)) (d : ℕ) (h : Domain) → length domains ≡ MOST_DOMAINS → domain_at domains d ≡ Some h
    → d < MOST_DOMAINS + 1
domain_low domains zero h many there = omega arith
domain_low domains (suc e) h many there =
    let next : suc e ≡ e + 1 = omega arith in
    elim (slice_get_cases domains e).1 [
      | inl x ↦ omega (arith, x.1, many)
      | inr x ↦
          let gone : domain_at domains (e + 1) ≡ None =
          domain_of_place domains e ∙ ap (λ (o : Option (Option Domain)). option_flatten o) x.1 in
          absurd (none-some h (sym gone ∙ (rw next at there)))
    ]

-- there is none of a number that is no id
pub no_id_no_domain : (domains : List (Option Domain)) (d : ℕ) → length domains ≡ MOST_DOMAINS → (IsDomainId d → ⊥)
    → domain_at domains d ≡ None
no_id_no_domain domains d many no_id = by_domain (domain_at domains d) refl
  where
    by_domain : (o : Option Domain) → domain_at domains d ≡ o → domain_at domains d ≡ None
    by_domain None there = there
    by_domain (Some h) there = absurd (no_id (positive d there, omega (arith, domain_low domains d h many there)))
      where
        positive : (e : ℕ) → domain_at domains e ≡ Some h → 1 ≤ e
        positive zero there = absurd cc
        positive (suc e) there = omega arith

-- the domain of an id is what stands at its place
pub at_place : (domains : List (Option Domain)) (d i : ℕ) (o : Option Domain) → d ≡ i + 1 → slice_get domains i ≡ Some o
    → domain_at domains d ≡ o
at_place domains d i o id at =
    ap (domain_at domains) id ∙ domain_of_place domains i ∙ ap (λ (x : Option (Option Domain)). option_flatten x) at

-- ---- a domain of the state and one of the world

pub both_there : (words : List ℕ) (o : Option Domain) (p : Option world.Domain) (h : Domain) → MirrorsIfAny words o p → o ≡ Some h
    → (v : world.Domain) × (p ≡ Some v) × Mirrors words h v
both_there words None p h both e = absurd cc
both_there words (Some g) None h both e = absurd both
both_there words (Some g) (Some v) h both e = (v, refl, subst (λ (x : Domain). Mirrors words x v) (same_Some g h e) both)

pub both_absent : (words : List ℕ) (o : Option Domain) (p : Option world.Domain) → MirrorsIfAny words o p → o ≡ None → p ≡ None
both_absent words None None both e = refl
both_absent words None (Some v) both e = absurd both
both_absent words (Some h) p both e = absurd cc

-- it stays where its tree does
both_stays : (words words' : List ℕ) (o : Option Domain) (p : Option world.Domain) → MirrorsIfAny words o p
    → ((h : Domain) → o ≡ Some h → SameTree words words' h.width h.root) → MirrorsIfAny words' o p
both_stays words words' None None both same = tt
both_stays words words' None (Some v) both same = both
both_stays words words' (Some h) None both same = both
both_stays words words' (Some h) (Some v) both same = record {
  ids = both.ids;
  tree = λ page low. ap (stated page) ((same h refl).leaves page) ∙ both.tree page low;
  spelled = (same h refl).spelled both.spelled;
  pieces = both.pieces;
}

-- one domain of the state and of the world changes alike, and the trees of the others stay
pub domains_put : (m t : State) (w : World) (d : ℕ) (h : Domain) (v : world.Domain) → Quarantine m w
    → ((e : ℕ) → domain_at t.domains e ≡ put d (Some h) (domain_at m.domains) e) → Mirrors t.pool.words h v
    → ((e : ℕ) (k : Domain) → e ≢ d → domain_at m.domains e ≡ Some k → SameTree m.pool.words t.pool.words k.width k.root)
    → (e : ℕ) → MirrorsIfAny t.pool.words (domain_at t.domains e) (put d (Some v) w.domains e)
domains_put m t w d h v q is mirrors stay e = elim (same_or_not e d) [
  | inl same ↦ rw (is e, same, put_same d (Some h) (domain_at m.domains), put_same d (Some v) w.domains) mirrors
  | inr ne ↦ rw (is e, put_other d (Some h) (domain_at m.domains) e ne, put_other d (Some v) w.domains e ne)
      (both_stays m.pool.words t.pool.words (domain_at m.domains e) (w.domains e) (q.domains e) (λ k there. stay e k ne there))
]

-- one domain of the state and of the world goes
pub domain_out : (m t : State) (w : World) (d : ℕ) → Quarantine m w → ((e : ℕ) → domain_at t.domains e ≡ put d None (domain_at m.domains) e)
    → ((e : ℕ) (k : Domain) → e ≢ d → domain_at m.domains e ≡ Some k → SameTree m.pool.words t.pool.words k.width k.root)
    → (e : ℕ) → MirrorsIfAny t.pool.words (domain_at t.domains e) (put d None w.domains e)
domain_out m t w d q is stay e = elim (same_or_not e d) [
  | inl same ↦ rw (is e, same, put_same d None (domain_at m.domains), put_same d None w.domains) tt
  | inr ne ↦ rw (is e, put_other d None (domain_at m.domains) e ne, put_other d None w.domains e ne)
      (both_stays m.pool.words t.pool.words (domain_at m.domains e) (w.domains e) (q.domains e) (λ k there. stay e k ne there))
]

-- a state of some world can place pages in each of its domains
pub can_place : (m : State) (d : ℕ) (h : Domain) → IsOfSomeWorld m → length m.domains ≡ MOST_DOMAINS → domain_at m.domains d ≡ Some h
    → CanPlace m.pool h
can_place m d h (w, q) many there = record {
  tree = tree_of m.pool (domain_at m.domains) d h q.frames (domain_low m.domains d h many there) there;
  absent = λ p free.
      let v = both_there m.pool.words (domain_at m.domains d) (w.domains d) h (q.domains d) there in
      let page = (v.2.pieces.free p).0 free in
      v.2.tree p (subst (λ n. p < pages_end n) (sym v.2.ids.width) page.0.1) ∙ page.1.not_live;
}

-- ---- how many there are

-- an entry of the list of places turned over
pub count_set : (domains : List (Option Domain)) (i : ℕ) (old new : Option Domain) → slice_get domains i ≡ Some old
    → domain_count (slice_set domains i new) + one_if_there old ≡ domain_count domains + one_if_there new
count_set [] i old new at = absurd cc
count_set (o ∷ rest) zero old new at =
    let same : o ≡ old = same_Some o old at in
    let now = sum_by-cons one_if_there new rest in
    let was = sum_by-cons one_if_there o rest in
    let ones : one_if_there o ≡ one_if_there old = ap one_if_there same in
    omega (arith, now, was, ones)
count_set (o ∷ rest) (suc i) old new at =
    let now = sum_by-cons one_if_there o (slice_set rest i new) in
    let was = sum_by-cons one_if_there o rest in
    omega (arith, now, was, count_set rest i old new at)

-- a domain that stays leaves the rooms as they are
pub rooms_stay : (rooms capacity i : ℕ) (domains : List (Option Domain)) (old new : Domain) → slice_get domains i ≡ Some (Some old)
    → HasRooms rooms capacity domains → HasRooms rooms capacity (slice_set domains i (Some new))
rooms_stay rooms capacity i domains old new at has =
    record { count = omega (arith, has.count, count_set domains i (Some old) (Some new) at); roomy = has.roomy }

-- where a place is vacant, a room is there
count_le : (domains : List (Option Domain)) → domain_count domains ≤ length domains
count_le [] = omega arith
count_le (None ∷ rest) = omega (arith, sum_by-cons one_if_there None rest, count_le rest)
count_le (Some d ∷ rest) = omega (arith, sum_by-cons one_if_there (Some d) rest, count_le rest)

vacant_fewer : (domains : List (Option Domain)) (i : ℕ) → slice_get domains i ≡ Some None → domain_count domains < length domains
vacant_fewer [] i at = absurd cc
vacant_fewer (o ∷ rest) zero at =
    let none : one_if_there o ≡ 0 = ap one_if_there (same_Some o None at) in
    omega (arith, sum_by-cons one_if_there o rest, none, count_le rest)
vacant_fewer (None ∷ rest) (suc i) at = omega (arith, sum_by-cons one_if_there None rest, vacant_fewer rest i at)
vacant_fewer (Some d ∷ rest) (suc i) at = omega (arith, sum_by-cons one_if_there (Some d) rest, vacant_fewer rest i at)

pub some_room : (rooms capacity i : ℕ) (domains : List (Option Domain)) → length domains ≡ MOST_DOMAINS → slice_get domains i ≡ Some None
    → HasRooms rooms capacity domains → 0 < rooms
some_room rooms capacity i domains many at has = omega (arith, many, vacant_fewer domains i at, has.count)
