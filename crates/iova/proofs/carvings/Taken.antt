-- One more piece is carved: pages are taken.
use Rattle.iova.proofs.Names.{◌≡◌, ℕ, ◌+◌, ◌≤◌, List, [], ◌∷◌, ◌++◌, length, max, refl, ap, sym, ◌∙◌, subst, arith, Option, Some}
use Rattle.iova.proofs.Names.{IsPageRange, Range, IsIn, MOST_PAGES, Ends, Stock, Sought, Free, Live, Piece, MOST_PIECES, MOST_PIECES_TO_CUT}
use Rattle.iova.proofs.Names.{Takes, AreCarved, CanCarve, IsCarved, IsSought, NoneBelow, with_carved, with_pieces, AllIn, IsOrdered}
use Rattle.iova.proofs.Names.{NoneFreeBelow, piece_of, with_piece, Space, IsSpace, IsTooMany, pages_as}
use Rattle.iova.proofs.LowestFree.{holding}
use Rattle.iova.proofs.Taken.{page_range, space_taken, takes}
use Rattle.iova.proofs.carvings.InPlace.{follow_both, follow_le}
use Rattle.iova.proofs.carvings.Carved.{carved_in}
use Rattle.iova.proofs.carvings.State.{carved_space, carving, follow_in, recarved, untouched, was_free}

-- the last is put last
pub with_last : (es : List Piece) (e : Piece) (ps : List Piece) → with_pieces (es ++ e ∷ []) ps
    ≡ with_piece e (with_pieces es ps)
with_last [] e ps = refl
with_last (x ∷ es) e ps = with_last es e (with_piece x ps)

-- so many pages right behind the others
abbrev pub with_more : List Piece → (start pages : ℕ) → List Piece
with_more chain start pages = chain ++ piece_of (record { first = start; pages = pages }) Live ∷ []

module _ {a : Space} (sp : IsSpace a) {chain : List Piece} {stock : Stock} (c : AreCarved a.pieces chain stock) (start pages : ℕ)
    (some : 1 ≤ pages) (p : CanCarve chain stock start pages) where
  abbrev range : Range
  range = record { first = start; pages = pages }

  abbrev view : Space
  view = with_carved chain a

  sv : IsSpace view
  sv = carved_space (carving sp c)

  -- the pages are free
  all_free : AllIn Free range view.pieces
  all_free page w =
      untouched (carving sp c) page (λ q m h. let f = follow_in p.0 chain start p.2 q m in omega arith)
      ∙ was_free (carving sp c) page (omega (arith, p.1, follow_le p.0 chain start p.2)) (omega (arith, p.3))

  pub carved_range : pages ≤ MOST_PAGES → IsPageRange range
  carved_range few = page_range view range Free sv some few all_free

  pub carved_takes : Takes view (with_carved (with_more chain start pages) a) range
  carved_takes = takes view (with_carved (with_more chain start pages) a) range sv some all_free
      (ap (λ (l : List Piece). record a { pieces = l }) (with_last chain (piece_of range Live) a.pieces))

  -- and it is carved then
  pub carved_more : (IsTooMany view.pieces range → ⊥) → AreCarved a.pieces (with_more chain start pages) stock
  carved_more n = recarved c (with_more chain start pages) p.0 (start + pages) p.1
      (follow_both p.0 chain (piece_of range Live ∷ []) start (start + pages) p.2 (refl, omega arith, (λ h. absurd (cc)), omega arith)) p.3
      (subst (λ l. length l ≤ MOST_PIECES) (sym (with_last chain (piece_of range Live) a.pieces))
      (space_taken view range sv some all_free n).few)

-- a free piece that was found, of which nothing is carved yet
pub uncarved : {a : Space} → IsSpace a → (pages : Ends) (least : Sought) (start count : ℕ) → IsSought least
    → IsIn (pages_as pages Free) a.pieces → NoneBelow least pages.first a.pieces → least.floor ≤ start → pages.first ≤ start
    → start + count ≤ pages.last
    → AreCarved a.pieces [] (record { pages = pages; sought = least }) × CanCarve [] (record { pages = pages; sought = least }) start count
uncarved sp pages least start count s there none above inside left =
    let low : max pages.first least.floor ≤ start = omega arith in
    let inside : start ≤ pages.last = omega arith in (
      record { there = there; sought = s; none = none; from = start; end = start; low = low; follow = refl; left = inside; few = sp.few },
      (start, low, refl, left),
    )

-- nothing begins before the lowest free piece
pub none_before_lowest : (ps : List Piece) (page floor : ℕ) → IsOrdered 1 ps → NoneFreeBelow page ps
    → NoneBelow (record { floor = floor; pages = 1; unit = 1 }) page ps
none_before_lowest ps page floor o low start fit h =
    let q = holding ps start Free (fit.free start (omega arith)) in omega (arith, low q.0 q.1 q.3, q.2)

-- what a space is once pages were carved
pub record Carves (a old : Space) (now : List Piece) (stock : Option Stock) (start pages : ℕ) : Type 0 where
  pub carved : IsCarved a.pieces now stock
  pub spaces : IsSpace old × IsSpace (with_carved now a)
  pub range : IsPageRange (record { first = start; pages = pages })
  pub taken : Takes old (with_carved now a) (record { first = start; pages = pages })

pub carves : (a old : Space) (chain now : List Piece) (known : Option Stock) (start pages : ℕ) → IsSpace a → IsCarved a.pieces chain known
    → with_carved chain a ≡ old → 1 ≤ pages → pages ≤ MOST_PAGES
    → (stock : Stock) × (known ≡ Some stock) × CanCarve chain stock start pages → length old.pieces ≤ MOST_PIECES_TO_CUT
    → now ≡ chain ++ piece_of (record { first = start; pages = pages }) Live ∷ [] → Carves a old now known start pages
carves a old chain now known start pages sp k was some few p room set =
    let c = carved_in a.pieces chain known p.0 p.1 k in
    let more = carved_more sp c start pages some p.2 (λ t. let n = ap (λ (v : Space). length v.pieces) was in omega (arith, t.1)) in
    rw (← was, p.1, set) (record {
      carved = more;
      spaces = (carved_space (carving sp c), carved_space (carving sp more));
      range = carved_range sp c start pages some p.2 few;
      taken = carved_takes sp c start pages some p.2;
    })
