use Rattle.std.proofs.Common.{◌≡◌, ◌+◌, ◌<◌, ℕ, List, [], ◌∷◌, None, inl, refl, ap, ◌∙◌, arith}
use Rattle.std.proofs.lemmas.List.Sums.{sum_by-cons}
use Rattle.dmatypes.specs.declared.call.Segment.{Segment}
use Rattle.dmatypes.specs.Conditions.{total_pages}
use Rattle.dmatypes.specs.World.{placed}
use Rattle.dmatypes.proofs.numbers.Ranges.{within_not}
use Rattle.checker.proofs.pages.Pages.+put_all.Goals as goal

-- no page before the first is one of the segments'
placed_before : (ss : List Segment) (first rights p : ℕ) → p < first → placed ss first rights p ≡ None
placed_before [] first rights p h = refl
placed_before (s ∷ ss) first rights p h =
    rw (within_not (record { first = first; pages = s.pages }) p (inl h)) (placed_before ss (first + s.pages) rights p (omega (arith, h)))

pub put-requires-clause-free : goal.put-requires-clause-free
put-requires-clause-free t c = λ p inside.
    let s = c.in-Some.segment.now in
    let total : total_pages c.args.segments.now ≡ s.pages + total_pages c.in-Some.rest.now =
    ap total_pages c.in-Some.ensures.cases.0 ∙ sum_by-cons (λ (x : Segment). x.pages) s c.in-Some.rest.now in
    c.in_ok-put_all.ensures p
    ∙ rw (placed_before c.in-Some.rest.now (c.args.first + s.pages) c.args.rights p inside.1)
    (c.requires.free p (inside.0, omega (arith, inside.1, total)))
