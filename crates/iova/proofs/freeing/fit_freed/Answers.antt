use Rattle.iova.proofs.Names.{arith, ℕ, ◌≡◌, ◌+◌, ◌-◌, ◌%◌, ◌^◌, ◌<◌, ◌≤◌, bit_and, Option, Some, subst, sym, and_mask, IsIn, Free, Live}
use Rattle.iova.proofs.Names.{Piece, NUMBERS_END, Ends, free_start, pages_as, Space, IsLowestFit, IsSpace, AreLive, shown, stored}
use Rattle.iova.proofs.Among.{in_le}
use Rattle.iova.proofs.FirstFreed.{alone_lowest, first_fit}
use Rattle.iova.proofs.Keep.{in_narrow}
use Rattle.iova.proofs.Shown.{wide}
use Rattle.iova.proofs.freeing.fit_freed.Goals as goal

module _ {a : Space} {ends : Ends} {freed : Option Ends} (is : freed ≡ Some ends) (sp : IsSpace a) (k : AreLive freed a.pieces) where
  there : IsIn (pages_as ends Live) a.pieces
  there = subst (λ f. AreLive f a.pieces) is k

  numbers : (ends.first ≤ ends.last) × (ends.last < NUMBERS_END) × (1 ≤ ends.first)
  numbers = (
    wide a ends sp there,
    in_narrow a (pages_as ends Live) sp there,
    (in_le 1 (pages_as ends Live) a.pieces sp.ordered there).0,
  )

  module _ {pages : ℕ} (e : pages ≡ ends.last - ends.first + 1) where
    -- as many pages as are taken lie in the piece
    ends_there : ends.last + 1 ≡ ends.first + pages
    ends_there = omega (arith, numbers, e)

    -- the piece is the first that has so many pages
    fits_there : {unit : ℕ} → (order : ℕ) × (unit ≡ 2 ^ order) → 1 ≤ pages → bit_and ends.first (unit - 1) ≡ 0
        → free_start a.pieces ends.first ≡ ends.first
        → ((p : Piece) → IsIn p a.pieces → p.state ≡ Free → p.first < ends.first → p.last + 1 < p.first + pages)
        → IsLowestFit (shown freed a.pieces) pages unit ends.first
    fits_there {unit} power some aligned alone first =
        let multiple : ends.first % unit ≡ 0 = cc (power.1, and_mask ends.first power.0) in
        subst (λ f. IsLowestFit (shown f a.pieces) pages unit ends.first) (sym is)
        (first_fit a ends sp there pages unit alone first some ends_there multiple)

pub overflow_sub-ends : goal.overflow_sub-ends
overflow_sub-ends c = (numbers c.in_ok-ends.was c.requires.space.1 c.requires.freed).0

pub overflow_add-ends : goal.overflow_add-ends
overflow_add-ends c = omega (arith, numbers c.in_ok-ends.was c.requires.space.1 c.requires.freed)

pub returns-then-ends-low-clause-pages : goal.returns-then-ends-low-clause-pages
returns-then-ends-low-clause-pages c =
    ends_there c.in_ok-ends.was c.requires.space.1 c.requires.freed (omega (arith, c.if-pages-ends.false))

pub returns-then-ends-low-clause-lowest : goal.returns-then-ends-low-clause-lowest
returns-then-ends-low-clause-lowest c =
    let s = c.requires.space in
    let i = there c.in_ok-ends.was s.1 c.requires.freed in
    let alone = alone_lowest (stored s.0 c.args.tree.now) c.in_ok-ends.ends s.1 i c.args.low c.requires.low c.if-ends-low.true in
    fits_there c.in_ok-ends.was s.1 c.requires.freed (omega (arith, c.if-pages-ends.false)) c.requires.unit c.requires.some_pages
    c.if-ends-unit-ne0.false alone (λ p m free less. absurd (omega (arith, c.requires.low p m free, less, c.if-ends-low.true)))

pub returns-clause-pages : goal.returns-clause-pages
returns-clause-pages c = ends_there c.in_ok-ends.was c.requires.space.1 c.requires.freed (omega (arith, c.if-pages-ends.false))

pub returns-clause-lowest : goal.returns-clause-lowest
returns-clause-lowest c =
    fits_there c.in_ok-ends.was c.requires.space.1 c.requires.freed (omega (arith, c.if-pages-ends.false)) c.requires.unit
    c.requires.some_pages c.if-ends-unit-ne0.false c.in_ok-low.ensures.alone c.in_ok-low.ensures.first
