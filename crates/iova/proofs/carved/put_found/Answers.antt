use Rattle.iova.proofs.Names.{◌≡◌, [], sym, subst, arith, Range, AreCarved, with_carved, Takes, IsSpace}
use Rattle.iova.proofs.Taken.{space_taken, takes}
use Rattle.iova.proofs.carvings.Taken.{carved_more, carved_takes, uncarved, with_more}
use Rattle.iova.proofs.carved.put_found.Goals as goal
use Rattle.iova.proofs.carved.put_found.Goals.{then-start-sought-via-then-start-sought}
use Rattle.iova.proofs.carved.put_found.Goals.{then-start-sought-via-else-start-sought+then-is_short}
use Rattle.iova.proofs.carved.put_found.Goals.{then-start-sought-via-else-start-sought+else-is_short+then-not-carve}

pub put-requires-clause-space : goal.put-requires-clause-space
put-requires-clause-space c =
    space_taken c.args.tree.now (record { first = c.args.found.start; pages = c.args.sought.pages }) c.requires.space
    c.requires.sought.some c.requires.lowest.fit.free c.requires.few

pub returns-then-start-sought-clause-taken : goal.returns-then-start-sought-clause-taken
returns-then-start-sought-clause-taken c =
    let range : Range = record { first = c.args.found.start; pages = c.args.sought.pages } in
    let none : c.then-start-sought.carved.chain ≡ [] = elim c.then-start-sought.branch [
      | then-start-sought-via-then-start-sought w ↦ cc (w.carved-is, c.requires.chain)
      | then-start-sought-via-else-start-sought+then-is_short w ↦ cc (w.carved-is, c.requires.chain)
      | then-start-sought-via-else-start-sought+else-is_short+then-not-carve w ↦
          cc (w.carved-is, w.carve.ensures.unchanged w.if-not-carve.true, c.requires.chain)
    ] in
    subst (λ l. Takes c.args.tree.now (with_carved l c.put.new.self) range) (sym none)
    (takes c.args.tree.now c.put.new.self range c.requires.space c.requires.sought.some c.requires.lowest.fit.free c.put.ensures.is)

pub returns-then-start-sought-clause-space : goal.returns-then-start-sought-clause-space
returns-then-start-sought-clause-space c = subst (λ v. IsSpace v) (sym c.put.ensures.is)
    (space_taken c.args.tree.now (record { first = c.args.found.start; pages = c.args.sought.pages }) c.requires.space
    c.requires.sought.some c.requires.lowest.fit.free c.requires.few)

pub returns-clause-taken : goal.returns-clause-taken
returns-clause-taken c =
    let f = c.args.found in
    let least = c.least_sought-sought.ensures in
    let free = uncarved c.requires.space f.pages c.least_sought-sought.result f.start c.args.sought.pages least.sought
    c.requires.there least.none (omega (arith, least.floor, c.if-start-sought.false)) c.requires.inside.0
    (omega (arith, c.if-is_short.false, c.requires.sought.some)) in
    let is : c.carve.new.self.chain ≡ with_more [] f.start c.args.sought.pages =
    cc (c.carve.ensures.carved c.if-not-carve.false, c.requires.chain) in
    subst (λ l. Takes c.args.tree.now (with_carved l c.args.tree.now) (record { first = f.start; pages = c.args.sought.pages })) (sym is)
    (carved_takes c.requires.space free.0 f.start c.args.sought.pages c.requires.sought.some free.1)

pub returns-clause-carved : goal.returns-clause-carved
returns-clause-carved c =
    let f = c.args.found in
    let least = c.least_sought-sought.ensures in
    let free = uncarved c.requires.space f.pages c.least_sought-sought.result f.start c.args.sought.pages least.sought
    c.requires.there least.none (omega (arith, least.floor, c.if-start-sought.false)) c.requires.inside.0
    (omega (arith, c.if-is_short.false, c.requires.sought.some)) in
    let is : c.carve.new.self.chain ≡ with_more [] f.start c.args.sought.pages =
    cc (c.carve.ensures.carved c.if-not-carve.false, c.requires.chain) in
    subst (λ l. AreCarved c.args.tree.now.pieces l (record { pages = f.pages; sought = c.least_sought-sought.result })) (sym is)
    (carved_more c.requires.space free.0 f.start c.args.sought.pages c.requires.sought.some free.1 c.requires.few)
