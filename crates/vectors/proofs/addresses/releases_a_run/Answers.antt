use Rattle.std.proofs.Common.{rules, ◌≡◌, refl, ap, inl, inr, arith}
use Rattle.dmatypes.specs.Page.{Range}
use Rattle.dmatypes.specs.World.{IsIn}
use Rattle.piece_tree.specs.declared.piece.PageState.TheVariants.{Retired}
use Rattle.iova.specs.Pieces.{piece_of}
use Rattle.iova.proofs.Pieces.{order}
use Rattle.vectors.proofs.addresses.releases_a_run.Goals as goal

pub release-requires : goal.release-requires
release-requires g c page h =
    let low : c.in_ok-low.low ≡ record { first = 2; pages = 1 } = search rules in
    let high : c.in_ok-high.high ≡ record { first = 3; pages = 3 } = search rules in
    let run' : c.in_ok-run.run' ≡ record { first = 2; pages = 4 } = search rules in
    let l1 = ap (λ (r : Range). r.first) low in
    let l2 = ap (λ (r : Range). r.pages) low in
    let h1 = ap (λ (r : Range). r.first) high in
    let h2 = ap (λ (r : Range). r.pages) high in
    let r1 = ap (λ (r : Range). r.first) run' in
    let r2 = ap (λ (r : Range). r.pages) run' in
    let there : IsIn (piece_of c.in_ok-low.low Retired) c.retire-2.new.self.pieces =
    (c.retire-2.ensures.retired.retired (piece_of c.in_ok-low.low Retired) refl).1 (inr c.retire.ensures.retired.piece) in
    elim (order page 2) [
      | inl k ↦ (
        piece_of c.in_ok-low.low Retired,
        there,
        (omega (arith, h.0, h.1, l1, l2, r1, r2), omega (arith, h.0, h.1, l1, l2, r1, r2)),
        refl,
        omega (arith, l1, r1),
        omega (arith, l1, l2, r1, r2),
      )
      | inr k ↦ (
        piece_of c.in_ok-high.high Retired,
        c.retire-2.ensures.retired.piece,
        (omega (arith, h.0, h.1, h1, h2, r1, r2), omega (arith, h.0, h.1, h1, h2, r1, r2)),
        refl,
        omega (arith, h1, r1),
        omega (arith, h1, h2, r1, r2),
      )
    ]
