use Rattle.std.proofs.Common.{List, map, ap, sym, ◌∙◌}
use Rattle.std.specs.Prelude.{not}
use Rattle.dmatypes.specs.World as world
use Rattle.dmatypes.specs.World.{Retired}
use Rattle.checker.specs.World.{domain_of, retired_of}
use Rattle.checker.proofs.lists.Members.{filter-map}
use Rattle.checker.proofs.domain.Domain.reap.Goals as goal

pub returns : goal.returns
returns c =
    let d = c.args.self.now in
    let with_records : List Retired → world.Domain = λ rs. record (domain_of d) { retired = rs } in
    ap with_records (ap (map retired_of) c.keep_later.ensures
    ∙ sym (filter-map retired_of (λ r. not (world.is_before c.args.number r)) d.retired.items))
