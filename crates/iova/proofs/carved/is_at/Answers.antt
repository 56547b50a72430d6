use Rattle.iova.proofs.Names.{◌≡◌, arith, refl, slice_index_or, nat_tests, Free, Piece}
use Rattle.iova.proofs.carvings.At.{at_place}
use Rattle.iova.proofs.carved.is_at.Goals as goal

pub returns-then-piece-pages : goal.returns-then-piece-pages
returns-then-piece-pages c t =
    let d : Piece = record { first = 0; last = 0; state = Free } in
    let p : Piece = slice_index_or c.args.pieces.now c.args.place d in
    let last : p.last ≡ c.args.pages.last = grind (arith, nat_tests) in
    at_place c.args.pieces.now c.args.place p d c.args.pages c.requires refl c.if-piece-pages.true last
