use Rattle.std.proofs.Common.{ap, sym, ◌∙◌}
use Rattle.std.specs.Option.{option_copied}
use Rattle.std.proofs.lemmas.Bool.{not_from_false}
use Rattle.checker.specs.declared.record.Record.{Record}
use Rattle.checker.specs.World.{do_meet, meets_some}
use Rattle.checker.proofs.lists.Members.{find_none, find_some}
use Rattle.checker.proofs.domain.Domain.last_held.Goals as goal

pub returns-in-None : goal.returns-in-None
returns-in-None c =
    not_from_false (meets_some c.args.self.now c.args.range)
    (find_none (λ (x : Record). do_meet x.range c.args.range) c.args.self.now.retired.items
    (sym c.held_by.ensures ∙ ap option_copied c.in-None.is))

pub returns-in-Some : goal.returns-in-Some
returns-in-Some c =
    let found = find_some (λ (x : Record). do_meet x.range c.args.range) c.in-Some.record.now c.args.self.now.retired.items
    (sym c.held_by.ensures ∙ ap option_copied c.in-Some.is) in
    (c.last_shared.ensures.there, c.in-Some.record.now, found.0, c.last_shared.ensures.here)

pub last_shared-requires : goal.last_shared-requires
last_shared-requires c =
    (find_some (λ (x : Record). do_meet x.range c.args.range) c.in-Some.record.now c.args.self.now.retired.items
    (sym c.held_by.ensures ∙ ap option_copied c.in-Some.is)).1
