use Rattle.iova.proofs.Names.{◌≡◌, ◌∙◌, ◌≤◌, IsSome, ap, subst, sym, state_at, Space, shown}
use Rattle.iova.proofs.Shown.{space_shown}
use Rattle.iova.proofs.page_tree.PageTree.state_of.Goals as goal

pub returns-clause-some : goal.returns-clause-some
returns-clause-some c =
    let a = c.self.inside in
    let sp = space_shown a.last a.tree c.self.invariant.0 a.freed c.self.invariant.2 in
    let ps = shown a.freed a.tree in
    let state : c.state_of.result ≡ state_at ps c.args.page = c.state_of.ensures ∙ ap (λ n. state_at ps n) c.number.ensures.value in
    let last = ap (λ (v : Space). v.last) c.self.view_is in (
      (λ h. subst (λ n. c.args.page ≤ n) last (sp.others c.args.page (subst (λ o. IsSome o) state h)).1),
      (λ h. subst (λ o. IsSome o) (sym state) (sp.pages c.args.page (c.number.ensures.page, subst (λ n. c.args.page ≤ n) (sym last) h))),
    )
