-- Whether so many pages have room in pieces, from a floor on, at a multiple of a unit.
use Rattle.piece_tree.proofs.Names.{◌≡◌, ℕ, ◌+◌, ◌-◌, ◌*◌, ◌/◌, ◌%◌, ◌^◌, ◌<◌, ◌≤◌, max, bit_and, List, [], ◌∷◌, ap, sym, ◌∙◌, inl}
use Rattle.piece_tree.proofs.Names.{inr, arith, AllByRecursion, and_mask, div-add-mod, mul-mod_right, mul-le-mul_left}
use Rattle.piece_tree.proofs.Names.{lt_of_mul-lt-mul_left, Piece, AreSorted, HasNoRoom, IsRoundUp, Shape, Empty, Fork, free_pages, items}
use Rattle.piece_tree.proofs.Names.{longest_of}
use Rattle.piece_tree.proofs.shapes.Sorted.{all_append}
use Rattle.piece_tree.proofs.shapes.Tall.{order}

-- ---- multiples

-- a multiple of the unit is unit times a quotient
quotient : (m unit : ℕ) → m % unit ≡ 0 → m ≡ unit * (m / unit)
quotient m unit e = sym (div-add-mod m unit) ∙ ap (λ r. unit * (m / unit) + r) e ∙ omega arith

rounds_up : (page unit up : ℕ) → up % unit ≡ 0 → page ≤ up → up < page + unit → IsRoundUp page unit up
rounds_up page unit up e l h = (
  e,
  l,
  (λ other f k. elim (order up other) [
    | inl x ↦ x
    | inr x ↦
        let q : up ≡ unit * (up / unit) = quotient up unit e in
        let r : other ≡ unit * (other / unit) = quotient other unit f in
        let less : other / unit < up / unit = lt_of_mul-lt-mul_left unit (omega (arith, q, r, x)) in
        let more : unit * (other / unit + 1) ≤ unit * (up / unit) = mul-le-mul_left unit (omega (arith, less)) in
        let next : unit * (other / unit + 1) ≡ unit * (other / unit) + unit = grind arith in
        absurd (omega (arith, q, r, more, next, h, k))
  ]),
)

-- a power of two rounds up by a mask
pub masked_up : (page unit order : ℕ) → unit ≡ 2 ^ order → 0 < unit
    → IsRoundUp page unit (page + (unit - 1) - bit_and (page + (unit - 1)) (unit - 1))
masked_up page unit order e some =
    let most = page + (unit - 1) in
    let masked : bit_and most (unit - 1) ≡ most % unit =
    ap (λ u. bit_and most (u - 1)) e ∙ and_mask most order ∙ ap (λ u. most % u) (sym e) in
    let up : most - bit_and most (unit - 1) ≡ unit * (most / unit) = omega (arith, masked, div-add-mod most unit) in
    let less : most % unit < unit = omega arith in
    rounds_up page unit (most - bit_and most (unit - 1)) (ap (λ m. m % unit) up ∙ mul-mod_right unit (most / unit))
    (omega (arith, masked, less)) (omega (arith, some))

-- ---- no room

-- where all that is free is too short
pub none_short : (floor pages unit : ℕ) (t : Shape) → longest_of t < pages → AllByRecursion (HasNoRoom floor pages unit) (items t)
none_short floor pages unit Empty h = tt
none_short floor pages unit (Fork k p l r) h =
    all_append (HasNoRoom floor pages unit) (items l) (p ∷ items r) (none_short floor pages unit l (omega arith)) (
      λ free t a b c. let e : free_pages p ≡ p.last + 1 - p.first = grind (arith, free) in omega arith,
      none_short floor pages unit r (omega arith),
    )

-- where pieces end before so many pages from the floor on would
pub none_between : (floor pages unit least end : ℕ) (ps : List Piece) → IsRoundUp floor unit least → end < least + pages
    → AllByRecursion (λ p. p.last < end) ps → AllByRecursion (HasNoRoom floor pages unit) ps
none_between floor pages unit least end [] up short h = tt
none_between floor pages unit least end (p ∷ ps) up short h = (
  λ free t a b c. let k : least ≤ t = up.2 t b (omega (arith, a)) in absurd (omega (arith, k, c, h.0, short)),
  none_between floor pages unit least end ps up short h.1,
)

-- ---- a floor that is raised to where the pieces begin

pub none_raised : (floor low from pages unit : ℕ) (ps : List Piece) → AreSorted from ps → low ≤ from
    → AllByRecursion (HasNoRoom (max floor low) pages unit) ps → AllByRecursion (HasNoRoom floor pages unit) ps
none_raised floor low from pages unit [] o h n = tt
none_raised floor low from pages unit (p ∷ ps) o h n = (
  λ free t a b c. n.0 free t (omega (arith, a, o.0, h)) b c,
  none_raised floor low (p.last + 1) pages unit ps o.2 (omega (arith, o.0, o.1, h)) n.1,
)
