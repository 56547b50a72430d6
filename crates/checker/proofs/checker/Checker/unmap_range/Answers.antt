use Rattle.std.proofs.Common.{◌≡◌, Some, ap, sym, ◌∙◌}
use Rattle.std.specs.Option.{option_copied, option_map}
use Rattle.checker.specs.World.{domain_of, world_of}
use Rattle.checker.proofs.calls.Asked.{unmap_range_of}
use Rattle.checker.proofs.checker.Checker.unmap_range.Goals as goal

pub returns : goal.returns
returns c =
    let o = (world_of c.args.self.now).domains c.args.domain in
    let v = domain_of c.in_ok-domain.domain.now in
    let is : o ≡ Some v = ap (option_map domain_of) (sym c.domain.ensures ∙ ap option_copied c.in_ok-domain.was) in
    unmap_range_of o v c.unmap_range.result c.args.address c.args.pages is (rw (← c.width.ensures) c.unmap_range.ensures)
