use Rattle.std.proofs.Common.{◌≡◌, ◌∙◌, ap, List, set, unwrap_or, Option, map}
use Rattle.std.proofs.lemmas.List.{map-set}
use Rattle.vtdbits.specs.declared.context.ContextEntry.{ContextEntry}
use Rattle.vtdbits.specs.declared.context.ContextEntry.TheVariants.{Absent}
use Rattle.unit.specs.Row.{entry_in}
use Rattle.unit.proofs.contexts.Contexts.set.Goals as goal

-- the words written spell the entry, and the others spell what they spelled
pub returns : goal.returns
returns c =
    let spelled : entry_in c.encode.result ≡ c.args.entry = ap (λ (r : Option ContextEntry). unwrap_or r Absent) c.encode.ensures.read in
    map-set entry_in c.self.inside.words c.args.device c.encode.result
    ∙ ap (λ (e : ContextEntry). set (map entry_in c.self.inside.words) c.args.device e) spelled
    ∙ ap (λ (row : List ContextEntry). set row c.args.device c.args.entry) c.self.view_is
