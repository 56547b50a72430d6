use Rattle.iova.proofs.Names.{◌∙◌, ap, subst, sym, Free, with_free, pages_as, Space, IsSpace, stored}
use Rattle.iova.proofs.Known.{live_none, shown_none}
use Rattle.iova.proofs.parts.Shows.{shows}
use Rattle.iova.proofs.page_tree.PageTree.free.Goals as goal

pub set_free-self-inside-requires-clause-space : goal.set_free-self-inside-requires-clause-space
set_free-self-inside-requires-clause-space c =
    let t = shows c.put_freed.ensures.pieces c.self.view_is (c.put_freed.ensures.space c.self.inside.last c.self.invariant.0) in (
      c.self.inside.last,
      t.space,
      subst (λ (v : Space). IsSpace (record v { pieces = with_free (pages_as c.args.pages Free) v.pieces })) (sym t.is)
          (c.requires.space t.now_space),
    )

pub invariant_of-self : goal.invariant_of-self
invariant_of-self c =
    let t = shows c.put_freed.ensures.pieces c.self.view_is (c.put_freed.ensures.space c.self.inside.last c.self.invariant.0) in
    let new = ap (λ ps. stored c.self.inside.last ps) c.set_free-self-inside.ensures.tree
    ∙ ap (λ (v : Space). record v { pieces = with_free (pages_as c.args.pages Free) v.pieces }) t.is in
    (subst (λ v. IsSpace v) (sym new) (c.requires.space t.now_space), c.set_free-self-inside.ensures.low, live_none c.put_freed.ensures.none _, tt)

pub returns-clause-space : goal.returns-clause-space
returns-clause-space c =
    let t = shows c.put_freed.ensures.pieces c.self.view_is (c.put_freed.ensures.space c.self.inside.last c.self.invariant.0) in
    let is = ap (λ ps. stored c.self.inside.last ps) (shown_none c.put_freed.ensures.none ∙ c.set_free-self-inside.ensures.tree)
    ∙ ap (λ (v : Space). record v { pieces = with_free (pages_as c.args.pages Free) v.pieces }) t.is in
    (t.now_space, subst (λ v. IsSpace v) (sym is) (c.requires.space t.now_space))
