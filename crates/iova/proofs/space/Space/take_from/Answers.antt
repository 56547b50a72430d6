use Rattle.iova.proofs.Taken.{unit_is}
use Rattle.iova.proofs.space.Space.take_from.Goals as goal

pub take_sought-requires : goal.take_sought-requires
take_sought-requires c = record {
  sought = record {
    floor = c.requires.floor;
    some = c.requires.some_pages;
    few = c.requires.few_pages;
    power = (c.args.order, c.requires.order, unit_is c.args.order c.requires.order);
  };
}
