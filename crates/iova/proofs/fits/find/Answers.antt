use Rattle.iova.proofs.Names.{ℕ, IfNone, sym, subst, arith, AllByRecursion, HasNoRoom, IsFound, IsFit}
use Rattle.iova.proofs.searches.CutAt.{no_fit}
use Rattle.iova.proofs.searches.Found.{found_above, found_lowest}
use Rattle.iova.proofs.searches.FromFloor.{from_all, from_found, start_some}
use Rattle.iova.proofs.searches.Narrow.{found_narrow, found_there}
use Rattle.iova.proofs.fits.find.Goals as goal

pub returns-in-Some-clause-lowest : goal.returns-in-Some-clause-lowest
returns-in-Some-clause-lowest c =
    let s = c.args.sought in
    let ps = c.args.tree.now in
    let found = c.in-Some.ensures.some in
    let narrow = found_narrow c.min-least.result s.pages s.unit ps c.in-Some.start c.in-Some.piece c.in-Some.ensures.sorted found in
    let least = found_above c.min-least.result 1 s.pages s.unit ps c.in-Some.start c.in-Some.piece c.requires.ordered
    c.requires.sought.some found in
    from_found s.floor c.min-least.result s.pages s.unit c.in-Some.start ps (omega (arith, c.min-least.ensures))
    (omega (arith, c.min-least.ensures, least.above, narrow, c.requires.sought.some)) least

pub returns-in-Some-clause-there : goal.returns-in-Some-clause-there
returns-in-Some-clause-there c =
    found_there c.min-least.result c.args.sought.pages c.args.sought.unit c.args.tree.now c.in-Some.start c.in-Some.piece
    c.in-Some.ensures.some c.of-pages.result c.of-pages.ensures

pub returns-then-least-le1-clause-none : goal.returns-then-least-le1-clause-none
returns-then-least-le1-clause-none c start fit =
    let s = c.args.sought in
    let ps = c.args.tree.now in
    let some = start_some s.pages s.unit start ps c.requires.ordered c.requires.sought.some fit in
    no_fit c.min-least.result 1 s.pages s.unit ps c.requires.ordered c.requires.sought.some c.in_default.ensures.none start fit
    (omega (arith, some, c.if-least-le1.true))

pub returns-in_err-start-clause-none : goal.returns-in_err-start-clause-none
returns-in_err-start-clause-none c =
    let s = c.args.sought in
    let ps = c.args.tree.now in
    subst (λ o. IfNone o ((start : ℕ) → IsFit ps s.pages s.unit start → ⊥)) (sym c.from_residual.ensures)
    (λ start fit. no_fit 0 1 s.pages s.unit ps c.requires.ordered c.requires.sought.some
    (subst (λ l. AllByRecursion (HasNoRoom 0 s.pages s.unit) l) c.in_default.ensures.unchanged c.in_err-start.ensures.none) start fit
    (omega arith))

pub returns-clause-lowest : goal.returns-clause-lowest
returns-clause-lowest c =
    let s = c.args.sought in
    let ps = c.args.tree.now in
    from_all s.floor c.min-least.result s.pages s.unit c.in_ok-start.start ps (omega (arith, c.min-least.ensures))
    (no_fit c.min-least.result 1 s.pages s.unit ps c.requires.ordered c.requires.sought.some c.in_default.ensures.none)
    (found_lowest 1 s.pages s.unit ps c.in_ok-start.start c.in_ok-start.piece c.requires.ordered c.requires.sought.some
    (subst (λ l. IsFound 0 s.pages s.unit l c.in_ok-start.start c.in_ok-start.piece) c.in_default.ensures.unchanged
    c.in_ok-start.ensures.some))

pub returns-clause-there : goal.returns-clause-there
returns-clause-there c =
    let s = c.args.sought in
    found_there 0 s.pages s.unit c.args.tree.now c.in_ok-start.start c.in_ok-start.piece
    (subst (λ l. IsFound 0 s.pages s.unit l c.in_ok-start.start c.in_ok-start.piece) c.in_default.ensures.unchanged
    c.in_ok-start.ensures.some)
    c.of-pages-2.result c.of-pages-2.ensures
