use Rattle.std.proofs.Common.{◌≡◌, ◌+◌, ◌-◌, ◌≤◌, Option, None, Some, IfSome, inl, inr, refl, ap, sym, subst, arith, ◌∙◌}
use Rattle.dmatypes.specs.Page.{Range}
use Rattle.dmatypes.specs.World.{IsIn}
use Rattle.piece_tree.specs.declared.piece.Piece.{Piece}
use Rattle.piece_tree.specs.declared.piece.PageState.TheVariants.{Retired}
use Rattle.iova.specs.Pieces.{piece_of}
use Rattle.vectors.proofs.addresses.agreeing.retired_at.Goals as goal

at : (o : Option Range) (P : Range → Type 0) (r : Range) → IfSome o (λ x. x ≡ r) → P r → IfSome o P
at None P r e p = tt
at (Some x) P r e p = subst P (sym e) p

whole : (p : Piece) → p.first ≤ p.last → p.state ≡ Retired → p ≡ piece_of (record { first = p.first; pages = p.last - p.first + 1 }) Retired
whole p h e =
    let l : p.last ≡ p.first + (p.last - p.first + 1) - 1 = omega arith in
    ap (λ n. record { first = p.first; last = n; state = p.state }) l
    ∙ ap (λ s. record { first = p.first; last = p.first + (p.last - p.first + 1) - 1; state = s }) e

pub returns-then-piece-lt-PAGES_END : goal.returns-then-piece-lt-PAGES_END
returns-then-piece-lt-PAGES_END c =
    at c.new.result (λ range. IsIn (piece_of range Retired) c.args.space.now.pieces)
    (record { first = c.in-Some.piece.first; pages = c.in-Some.piece.last - c.in-Some.piece.first + 1 }) c.new.ensures.value
    (subst (λ p. IsIn p c.args.space.now.pieces) (whole c.in-Some.piece c.if-piece.true c.in-Retired.is)
    (c.loop-piece.invariant c.in-Some.piece (subst (λ l. IsIn c.in-Some.piece l) (sym c.in-Some.ensures.steps) (inl refl))))

pub loop-piece-preserved-else-piece : goal.loop-piece-preserved-else-piece
loop-piece-preserved-else-piece c q i = c.loop-piece.invariant q (subst (λ l. IsIn q l) (sym c.in-Some.ensures.steps) (inr i))

pub loop-piece-preserved-in_default-state : goal.loop-piece-preserved-in_default-state
loop-piece-preserved-in_default-state c q i = c.loop-piece.invariant q (subst (λ l. IsIn q l) (sym c.in-Some.ensures.steps) (inr i))

pub loop-piece-preserved : goal.loop-piece-preserved
loop-piece-preserved c q i = c.loop-piece.invariant q (subst (λ l. IsIn q l) (sym c.in-Some.ensures.steps) (inr i))
