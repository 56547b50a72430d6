use Rattle.iova.proofs.Names.{◌≡◌, ℕ, ◌+◌, ◌-◌, ◌<◌, List, if◌then◌else◌, ap, arith, inl, inr, subst, AllByRecursion, IsIn, Free, Live}
use Rattle.iova.proofs.Names.{Piece, is_free, IsShortBefore, free_pages, IsOrdered, NoneFreeBelow, pages_as, stored}
use Rattle.iova.proofs.Among.{in_all, in_le}
use Rattle.iova.proofs.FirstFreed.{alone_lowest}
use Rattle.iova.proofs.Pieces.{order}
use Rattle.iova.proofs.freeing.low_of_first.Goals as goal
use Rattle.iova.proofs.freeing.low_of_first.Goals.{then-pages-eq1-via-then-pages-eq1}
use Rattle.iova.proofs.freeing.low_of_first.Goals.{then-pages-eq1-via-else-pages-eq1+then-are_short_before}

-- a free piece that is short ends before so many pages of it would
short_ends : (pages : ℕ) (p : Piece) → free_pages p < pages → p.state ≡ Free → p.last + 1 < p.first + pages
short_ends pages p short free =
    let e : free_pages p ≡ p.last + 1 - p.first = ap (λ s. if is_free s then p.last + 1 - p.first else 0) free in omega (arith, short, e)

ends_before : (page pages : ℕ) (ps : List Piece) → AllByRecursion (IsShortBefore page pages) ps → (p : Piece) → IsIn p ps → p.state ≡ Free
    → p.first < page → p.last + 1 < p.first + pages
ends_before page pages ps short p m free before = short_ends pages p (in_all (IsShortBefore page pages) p ps short m before) free

-- where no free piece before the page has a page, none begins before it
none_before : (page : ℕ) (ps : List Piece) → IsOrdered 1 ps → AllByRecursion (IsShortBefore page 1) ps → NoneFreeBelow page ps
none_before page ps o short p m free = elim (order page p.first) [
  | inl h ↦ h
  | inr h ↦ absurd (omega (arith, ends_before page 1 ps short p m free h, in_le 1 p ps o m))
]

-- all that a space has lies behind page 0
pub free_start_at-requires-clause-some : goal.free_start_at-requires-clause-some
free_start_at-requires-clause-some c =
    let s = c.requires.space in
    (in_le 1 (pages_as c.args.freed Live) c.args.tree.now s.1.ordered c.requires.freed).0

pub returns-then-pages-eq1-clause-low : goal.returns-then-pages-eq1-clause-low
returns-then-pages-eq1-clause-low c =
    let ps = c.args.tree.now in
    none_before c.args.freed.first ps c.requires.space.1.ordered (elim c.then-pages-eq1.branch [
      | then-pages-eq1-via-then-pages-eq1 v ↦
          subst (λ n. AllByRecursion (IsShortBefore c.args.freed.first n) ps) v.if-pages-eq1.true
          (c.are_short_before.ensures.0 c.if-not-are_short_before.false)
      | then-pages-eq1-via-else-pages-eq1+then-are_short_before v ↦
          v.are_short_before-else-pages-eq1.ensures.0 v.if-are_short_before.true
    ])

pub returns-then-pages-eq1-clause-alone : goal.returns-then-pages-eq1-clause-alone
returns-then-pages-eq1-clause-alone c =
    let s = c.requires.space in
    alone_lowest (stored s.0 c.args.tree.now) c.args.freed s.1 c.requires.freed c.args.freed.first
    (returns-then-pages-eq1-clause-low c) (omega arith)

pub returns-then-pages-eq1-clause-first : goal.returns-then-pages-eq1-clause-first
returns-then-pages-eq1-clause-first c =
    ends_before c.args.freed.first c.args.pages c.args.tree.now (c.are_short_before.ensures.0 c.if-not-are_short_before.false)

pub returns-clause-first : goal.returns-clause-first
returns-clause-first c =
    ends_before c.args.freed.first c.args.pages c.args.tree.now (c.are_short_before.ensures.0 c.if-not-are_short_before.false)
