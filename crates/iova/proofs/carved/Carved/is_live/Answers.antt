use Rattle.iova.proofs.Names.{◌∷◌, [], inl, refl, sym, subst, IsIn, pages_as}
use Rattle.iova.proofs.Among.{in_append_right}
use Rattle.iova.proofs.carved.Carved.is_live.Goals as goal

pub returns-in-Live : goal.returns-in-Live
returns-in-Live c t =
    let q = pages_as c.args.pages c.in-Some.state in
    subst (λ s. IsIn (pages_as c.args.pages s) c.args.self.now.chain) c.in-Live.is
    (subst (λ l. IsIn q l) (sym c.in-Some.ensures.1) (in_append_right q c.in-Some.ensures.0 (q ∷ []) (inl refl)))
