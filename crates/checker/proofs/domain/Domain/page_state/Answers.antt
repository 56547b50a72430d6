use Rattle.std.proofs.Common.{◌≡◌, false, refl, ap, subst, sym, ◌∙◌}
use Rattle.std.specs.List.{list_any}
use Rattle.std.specs.Option.{option_copied}
use Rattle.std.proofs.lemmas.Bool.{both_ways}
use Rattle.dmatypes.specs.Page.{IsWithin}
use Rattle.dmatypes.specs.World.{Retired, is_within}
use Rattle.dmatypes.proofs.numbers.Ranges.{within_is}
use Rattle.checker.specs.declared.page_state.PageState.{PageState}
use Rattle.checker.specs.declared.record.Record.{Record}
use Rattle.checker.specs.PageStates.{IsStateOf}
use Rattle.checker.specs.World.{domain_of, retired_of}
use Rattle.checker.proofs.lists.Members.{find_none, find_some, in_any, in_map, to_map}
use Rattle.checker.proofs.worlds.Reached.{is_inside}
use Rattle.checker.proofs.domain.Domain.page_state.Goals as goal

pub returns-in-Some-record_of : goal.returns-in-Some-record_of
returns-in-Some-record_of c =
    let d = c.args.self.now in
    let r = c.in-Some-record_of.record.now in
    let p = c.args.page in
    let found =
    find_some (λ (x : Record). is_within x.range p) r d.retired.items
    (sym c.record_of.ensures ∙ ap option_copied c.in-Some-record_of.is) in
    subst (λ (s : PageState). IsStateOf (domain_of d) p s) (sym c.page_state.ensures)
    (retired_of r, to_map retired_of r d.retired.items found.0, is_inside r.range p found.1, refl, refl)

pub returns-in-None : goal.returns-in-None
returns-in-None c =
    let d = c.args.self.now in
    let p = c.args.page in
    let none : list_any (λ (x : Record). is_within x.range p) d.retired.items ≡ false =
    find_none (λ (x : Record). is_within x.range p) d.retired.items (sym c.record_of.ensures ∙ ap option_copied c.in-None.is) in
    record {
      not_live = sym c.get.ensures ∙ c.in_default.is;
      not_retired = λ x there at.
          let k = in_map retired_of x d.retired.items there in
          let within : IsWithin k.0.range p = subst (λ (y : Retired). IsWithin y.range p) k.2 at in
          both_ways (list_any (λ (y : Record). is_within y.range p) d.retired.items) none
          (in_any (λ (y : Record). is_within y.range p) k.0 d.retired.items k.1 (within_is k.0.range p within));
    }
