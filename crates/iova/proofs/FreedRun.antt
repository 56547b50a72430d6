-- What freeing a run of pieces leaves of a space.
use Rattle.iova.proofs.Names.{◌≡◌, ◌≢◌, ℕ, ◌+◌, ◌-◌, ◌<◌, ◌≤◌, List, length, Some, IsSome, refl, ap, sym, inl, inr, subst, arith, lit≤}
use Rattle.iova.proofs.Names.{MOST_PIECES, IsWithin, Range, IsIn, PageState, Free, Live, Retired, Piece, free_end, free_start, with_free}
use Rattle.iova.proofs.Names.{AllIn, IsOrdered, IsRun, piece_of, state_at, Holds, Space, IsSpace, MayRetire, PagesBecome, FreesRun}
use Rattle.iova.proofs.Names.{LosesRun}
use Rattle.iova.proofs.Pieces.{put_inside, put_outside}
use Rattle.iova.proofs.Puts.{StandsAlone}
use Rattle.iova.proofs.Among.{in_le, in_one, in_other, in_state, is_apart, put_keeps, put_only}
use Rattle.iova.proofs.FreeRange.{free_end_alone, free_end_free, free_end_ge, free_start_alone, free_start_free, free_start_le}
use Rattle.iova.proofs.Keep.{NoneCut, length_put_whole, space_put}

-- the piece that the run begins with, and the one that it ends with
begins_with : (q : Piece) (ps : List Piece) → q.first ≤ q.last → IsRun q ps → (p : Piece) × IsIn p ps × (p.first ≡ q.first)
begins_with q ps w run = let p = run q.first (omega arith, w) in (p.0, p.1, omega (arith, p.2.0, p.4))

ends_with : (q : Piece) (ps : List Piece) → q.first ≤ q.last → IsRun q ps → (p : Piece) × IsIn p ps × (p.last ≡ q.last)
ends_with q ps w run = let p = run q.last (w, omega arith) in (p.0, p.1, omega (arith, p.2.1, p.5))

-- its pages are in its state
pub run_state : (q : Piece) (ps : List Piece) (page : ℕ) → IsOrdered 1 ps → IsRun q ps → Holds q page → state_at ps page ≡ Some q.state
run_state q ps page o run h =
    let p = run page h in cc (in_state 1 p.0 ps page o p.1 p.2.0 p.2.1, p.3)

-- the range that becomes one free piece: its pages are the run's or free, and no free piece touches it
pub record Joined (q : Piece) (ps : List Piece) : Type 0 where
  pub low : free_start ps q.first ≤ q.first
  pub high : q.last ≤ free_end ps q.last
  pub wide : free_start ps q.first ≤ free_end ps q.last
  pub under : (page : ℕ) → free_start ps q.first ≤ page → page < q.first → state_at ps page ≡ Some Free
  pub inside : (page : ℕ) → Holds q page → state_at ps page ≡ Some q.state
  pub past : (page : ℕ) → q.last < page → page ≤ free_end ps q.last → state_at ps page ≡ Some Free
  pub some : (page : ℕ) → free_start ps q.first ≤ page → page ≤ free_end ps q.last → IsSome (state_at ps page)
  pub alone : StandsAlone (free_start ps q.first) (free_end ps q.last) Free ps

pub joined : (q : Piece) (ps : List Piece) → IsOrdered 1 ps → q.first ≤ q.last → IsRun q ps → Joined q ps
joined q ps o w run =
    let b = begins_with q ps w run in
    let e = ends_with q ps w run in
    let a = in_le 1 b.0 ps o b.1 in
    let l = free_start_le 1 q.first ps o (omega (arith, a.0, b.2)) in
    let h = free_end_ge 1 q.last ps o in
    record {
      low = l.1;
      high = h;
      wide = omega (arith, l.1, h);
      under = λ page x y. free_start_free 1 q.first ps page o x y;
      inside = λ page x. run_state q ps page o run x;
      past = λ page x y. (free_end_free 1 q.last ps page o x y).1;
      some = λ page x y.
          let under = free_start_free 1 q.first ps page o x in
          let inside = run_state q ps page o run in
          let past = free_end_free 1 q.last ps page o in grind arith;
      alone = λ f. (λ s. free_start_alone 1 b.0 ps o (lit≤ tt) b.1 (cc (b.2)), λ s. free_end_alone 1 e.0 ps o e.1 (cc (e.2)));
    }

-- it cuts no piece
joined_whole : (q : Piece) (ps : List Piece) → IsOrdered 1 ps → q.first ≤ q.last → IsRun q ps → Joined q ps
    → NoneCut (free_start ps q.first) (free_end ps q.last) ps
joined_whole q ps o w run j p n =
    let lo : ℕ = free_start ps q.first in
    let hi : ℕ = free_end ps q.last in
    let a = begins_with q ps w run in
    let b = ends_with q ps w run in
    let aw = in_le 1 a.0 ps o a.1 in
    let bw = in_le 1 b.0 ps o b.1 in (
      (λ x y.
          let here = in_state 1 p ps lo o n in
          let before = in_state 1 p ps (lo - 1) o n in
          let under = j.under lo in
          let alone = (j.alone refl).0 in
          let low = j.low in
          let same = in_one 1 p a.0 ps lo o n a.1 in grind arith),
      (λ x y.
          let here = in_state 1 p ps hi o n in
          let behind = in_state 1 p ps (hi + 1) o n in
          let past = j.past hi in
          let alone = (j.alone refl).1 in
          let high = j.high in
          let same = in_one 1 p b.0 ps hi o n b.1 in grind arith),
    )

-- no more pieces than before
pub length_with_free : (q : Piece) (ps : List Piece) → IsOrdered 1 ps → q.first ≤ q.last → IsRun q ps → length (with_free q ps) ≤ length ps
length_with_free q ps o w run =
    let j = joined q ps o w run in
    length_put_whole (free_start ps q.first) (free_end ps q.last) Free ps o j.wide (j.some (free_start ps q.first) (omega arith) j.wide)
    (joined_whole q ps o w run j)

pub space_freed : (a : Space) (q : Piece) → IsSpace a → q.first ≤ q.last → IsRun q a.pieces
    → IsSpace (record a { pieces = with_free q a.pieces })
space_freed a q sp w run =
    let j = joined q a.pieces sp.ordered w run in
    let few : length (with_free q a.pieces) ≤ MOST_PIECES = omega (arith, length_with_free q a.pieces sp.ordered w run, sp.few) in
    space_put a (free_start a.pieces q.first) (free_end a.pieces q.last) Free sp j.wide j.some j.alone few

-- the run's pages are free, and the others lie as before
freed_states : (range : Range) (s : PageState) (ps : List Piece) → IsOrdered 1 ps → 1 ≤ range.pages → IsRun (piece_of range s) ps
    → PagesBecome ps (with_free (piece_of range s) ps) range Free
freed_states range s ps o pos run =
    let q : Piece = piece_of range s in
    let j = joined q ps o (omega (arith, pos)) run in
    let lo : ℕ = free_start ps q.first in
    let hi : ℕ = free_end ps q.last in
    record {
      inside = λ page w. put_inside lo hi Free ps page (omega (arith, j.low, w.0)) (omega (arith, j.high, w.1));
      outside = λ page n.
          let inside = put_inside lo hi Free ps page in
          let outside = put_outside 1 lo hi Free ps page o j.wide in
          let under = j.under page in
          let past = j.past page in grind arith;
    }

-- the pieces in use stay but for those that are freed
freed_pieces : (q : Piece) (ps : List Piece) → IsOrdered 1 ps → q.first ≤ q.last → IsRun q ps → LosesRun ps (with_free q ps) q
freed_pieces q ps o w run r n =
    let j = joined q ps o w run in
    let lo : ℕ = free_start ps q.first in
    let hi : ℕ = free_end ps q.last in
    let whole = joined_whole q ps o w run j in (
      (λ k. elim (put_only lo hi Free r ps o k) [
        | inl e ↦ absurd (n (ap (λ p. p.state) e))
        | inr x ↦ elim x.2.whole [
          | inl e ↦ (subst (λ p. IsIn p ps) (sym e) x.1, λ page u v. omega (arith, x.2.apart, j.low, j.high, u, v))
          | inr c ↦ absurd (elim c [ inl z ↦ (whole x.0 x.1).0 z.0 z.1 | inr z ↦ (whole x.0 x.1).1 z.0 z.1 ])
        ]
      ]),
      (λ k.
          let b = in_le 1 r ps o k.0 in
          put_keeps lo hi Free r ps o k.0 (is_apart r lo hi b.1 j.wide (λ page h x y.
          let under = j.under page x in
          let past = j.past page in
          let shares = k.1 page in
          let other = in_other r ps page Free o k.0 in grind arith))),
    )

pub frees_run : (old new : Space) (range : Range) (s : PageState) → IsSpace old → 1 ≤ range.pages → IsRun (piece_of range s) old.pieces
    → new ≡ record old { pieces = with_free (piece_of range s) old.pieces } → FreesRun old new range s
frees_run old new range s sp pos run e =
    let q : Piece = piece_of range s in
    let w : q.first ≤ q.last = omega (arith, pos) in
    subst (λ a. FreesRun old a range s) (sym e) (record {
      is = refl;
      states = freed_states range s old.pieces sp.ordered pos run;
      in_use = freed_pieces q old.pieces sp.ordered w run;
      fewer = length_with_free q old.pieces sp.ordered w run;
    })

-- what may be retired may still be retired once retired pieces are free
pub may_still_run : (old new : Space) (range other : Range) → IsSpace old → IsSpace new → IsRun (piece_of range Retired) old.pieces
    → FreesRun old new range Retired → MayRetire old.pieces other → MayRetire new.pieces other
may_still_run old new range other so sn run f may =
    let live : AllIn Live other new.pieces = λ page w.
    let was = run_state (piece_of range Retired) old.pieces page so.ordered run in
    let out = f.states.outside page in
    let now = may.live page w in grind arith in
    let in_use : (p : Piece) (page : ℕ) → IsIn p new.pieces → Holds p page → IsWithin other page → p.state ≢ Free =
    λ p page n h w e. in_other p new.pieces page Live sn.ordered n (live page w) (λ g. absurd (cc)) h in
    record {
      live = live;
      room = λ t.
          let c = t.0 in
          let was = (f.in_use c.0 (in_use c.0 c.2.some.0 c.1 c.2.some.1 c.2.some.2)).0 c.1 in
          may.room ((c.0, was.0, c.2), omega (arith, t.1, f.fewer));
    }
