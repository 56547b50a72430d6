use Rattle.std.proofs.Common.{◌≡◌, ◌-◌, Option, None, Some, IsSome, IfSome, inl, inr, ⊎_elim, refl, sym, subst, arith}
use Rattle.std.proofs.lemmas.Bool.{cases_lt}
use Rattle.dmatypes.specs.Page.{Range}
use Rattle.dmatypes.specs.World.{IsIn}
use Rattle.piece_tree.specs.declared.piece.PageState.TheVariants.{Retired}
use Rattle.iova.specs.Pieces.{IsRun, piece_of}
use Rattle.vectors.proofs.addresses.agreeing.retired_run.Goals as goal

at : (o : Option Range) (P : Range → Type 0) (r : Range) → IfSome o (λ x. x ≡ r) → (IsSome o → P r) → IfSome o P
at None P r e p = tt
at (Some x) P r e p = subst P (sym e) (p refl)

pub loop-piece-preserved-then-piece-lt-PAGES_END : goal.loop-piece-preserved-then-piece-lt-PAGES_END
loop-piece-preserved-then-piece-lt-PAGES_END c =
    let i = c.loop-piece.invariant in
    let piece = c.in-Some.piece in
    let end = c.if-piece-end.true in
    let ordered = c.if-piece.true in (
      λ q there. i.0 q (subst (λ l. IsIn q l) (sym c.in-Some.ensures.steps) (inr there)),
      omega (arith, i.1, end, ordered),
      λ page low below.
          ⊎_elim
          (λ before.
          let p = i.2 page low before in (p.0, p.1, p.2, p.3, p.4, omega (arith, p.5, end, ordered)))
          (λ from. (
            piece,
            i.0 piece (subst (λ l. IsIn piece l) (sym c.in-Some.ensures.steps) (inl refl)),
            (omega (arith, from, end), omega (arith, below)),
            c.in-Retired.is,
            omega (arith, i.1, end),
            omega arith,
          ))
          (cases_lt page c.loop-piece.end),
    )

pub loop-piece-preserved-else-piece : goal.loop-piece-preserved-else-piece
loop-piece-preserved-else-piece c =
    let i = c.loop-piece.invariant in
    (λ q there. i.0 q (subst (λ l. IsIn q l) (sym c.in-Some.ensures.steps) (inr there)), i.1, i.2)

pub loop-piece-preserved-in_default-state : goal.loop-piece-preserved-in_default-state
loop-piece-preserved-in_default-state c =
    let i = c.loop-piece.invariant in
    (λ q there. i.0 q (subst (λ l. IsIn q l) (sym c.in-Some.ensures.steps) (inr there)), i.1, i.2)

pub loop-piece-preserved : goal.loop-piece-preserved
loop-piece-preserved c =
    let i = c.loop-piece.invariant in
    (λ q there. i.0 q (subst (λ l. IsIn q l) (sym c.in-Some.ensures.steps) (inr there)), i.1, i.2)

pub returns : goal.returns
returns c =
    let i = c.loop-piece.invariant in
    let run : Range = record { first = c.args.first; pages = c.loop-piece.end - c.args.first } in
    at c.new.result (λ range. IsRun (piece_of range Retired) c.args.space.now.pieces) run c.new.ensures.value
    (λ some.
    let pages = (c.new.ensures.some.0 some).some in
    λ page held.
    let p = i.2 page held.0 (omega (arith, held.1, pages, i.1)) in
    (p.0, p.1, p.2, p.3, p.4, omega (arith, p.5, pages, i.1)))
