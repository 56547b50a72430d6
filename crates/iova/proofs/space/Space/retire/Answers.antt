use Rattle.iova.proofs.carvings.Retired.{NowRetired, retired_at}
use Rattle.iova.proofs.space.Space.retire.Goals as goal
use Rattle.iova.proofs.space.Space.retire.Goals.{After-retire}

-- a piece of the chain is retired
retired : (c : After-retire) → NowRetired c.self.inside.tree c.args.self.now c.retire.new.self c.self.inside.carved.stock c.args.range
retired c =
    let k = c.self.inside.carved in
    let pages = c.ends_of-pages in
    retired_at c.self.inside.tree c.args.self.now k.chain c.retire.new.self k.stock pages.result c.in-Some.place c.args.range
    c.self.invariant.0 c.self.invariant.1 c.self.view_is c.in-Some.ensures c.retire.ensures pages.ensures.first pages.ensures.last
    pages.ensures.range.some

pub invariant_of-self : goal.invariant_of-self
invariant_of-self c = (c.self.invariant.0, (retired c).carved)

pub returns-in-Some : goal.returns-in-Some
returns-in-Some c = let e = retired c in record { retired = e.retired c.requires; space = e.spaces }
