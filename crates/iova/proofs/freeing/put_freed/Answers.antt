use Rattle.iova.proofs.Names.{Some, subst, sym, IsSpace, AreLive, stored}
use Rattle.iova.proofs.Shown.{space_shown, wide}
use Rattle.iova.proofs.freeing.put_freed.Goals as goal

pub set_free-requires-clause-space : goal.set_free-requires-clause-space
set_free-requires-clause-space c =
    let s = c.requires.space in
    let i = subst (λ f. AreLive f c.args.tree.now) c.in-Some.is c.requires.freed in
    (s.0, s.1, space_shown s.0 c.args.tree.now s.1 (Some c.in-Some.pages) i)

pub set_free-requires-clause-some : goal.set_free-requires-clause-some
set_free-requires-clause-some c =
    let s = c.requires.space in
    wide (stored s.0 c.args.tree.now) c.in-Some.pages s.1 (subst (λ f. AreLive f c.args.tree.now) c.in-Some.is c.requires.freed)

pub returns-in-Some-clause-space : goal.returns-in-Some-clause-space
returns-in-Some-clause-space c last sp =
    let i = subst (λ f. AreLive f c.args.tree.now) c.in-Some.is c.requires.freed in
    subst (λ l. IsSpace (stored last l)) (sym c.set_free.ensures.tree) (space_shown last c.args.tree.now sp (Some c.in-Some.pages) i)
