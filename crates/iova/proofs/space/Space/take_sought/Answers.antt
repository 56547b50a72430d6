use Rattle.iova.proofs.Names.{refl, sym, subst, arith, IsPageRange, Free}
use Rattle.iova.proofs.Taken.{page_range, start_is}
use Rattle.iova.proofs.carvings.State.{view_space}
use Rattle.iova.proofs.space.Space.take_sought.Goals as goal

pub unwrap-requires : goal.unwrap-requires
unwrap-requires c =
    c.new.ensures.some.1 ((page_range c.hand_over.new.tree (record { first = c.in_ok-start.start; pages = c.args.sought.pages }) Free
    c.hand_over.ensures.space c.requires.sought.some c.requires.sought.few c.in_ok-start.ensures.taken.free).members c.in_ok-start.start
    (omega arith, omega (arith, c.requires.sought.some)))

pub returns-clause-range : goal.returns-clause-range
returns-clause-range c =
    subst (λ n. IsPageRange (record { first = n; pages = c.args.sought.pages }))
    (sym (start_is c.new.result c.unwrap.result c.in_ok-start.start c.unwrap.ensures c.new.ensures.value))
    (page_range c.hand_over.new.tree (record { first = c.in_ok-start.start; pages = c.args.sought.pages }) Free
    c.hand_over.ensures.space c.requires.sought.some c.requires.sought.few c.in_ok-start.ensures.taken.free)

pub returns-clause-space : goal.returns-clause-space
returns-clause-space c = (
  c.take_behind.ensures.space.0,
  view_space c.take.new.carved.chain c.take.new.carved.stock c.take.ensures.space c.take.ensures.carved refl,
)
