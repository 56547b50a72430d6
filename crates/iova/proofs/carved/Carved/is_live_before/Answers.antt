use Rattle.iova.proofs.Names.{ap, sym, ◌∙◌, get_or, subst, IsAt, Free, Piece}
use Rattle.iova.proofs.carvings.At.{live_there}
use Rattle.iova.proofs.carved.Carved.is_live_before.Goals as goal

pub returns-in-Live : goal.returns-in-Live
returns-in-Live c h =
    let d : Piece = record { first = 0; last = 0; state = Free } in
    live_there c.args.self.now.chain c.args.pages c.in-Some.place d
    (subst (λ l. IsAt l c.args.pages c.in-Some.place) c.as_slice.ensures c.in-Some.ensures)
    (ap (λ l. (get_or l c.in-Some.place d).state) (sym c.as_slice-in-Some.ensures) ∙ c.in-Live.is)
