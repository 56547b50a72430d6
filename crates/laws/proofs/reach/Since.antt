-- Where a domain has a page only by maps after an event, a device reaches by it only what such a map gives.
use Rattle.std.proofs.Common.{◌≡◌, ℕ, inl, inr, List, ◌∷◌, ◌++◌, Some, sym, ap, subst, ◌∙◌}
use Rattle.std.proofs.lemmas.Option.{same_Some}
use Rattle.dmatypes.specs.declared.call.Access.{Access}
use Rattle.dmatypes.specs.declared.reply.Event.{Event}
use Rattle.dmatypes.specs.Page.{page_of}
use Rattle.dmatypes.specs.World.{World, empty}
use Rattle.dmatypes.specs.Step.{next}
use Rattle.dmatypes.specs.History.{after, after_from, IsLegal}
use Rattle.laws.specs.Events.{Drops, Gives, IsAttached, Occurs, EndsPage}
use Rattle.laws.proofs.lists.Courses.{lasts_occurs, occurs_as}
use Rattle.laws.proofs.reach.Reached.{IsReached, gives}
use Rattle.laws.proofs.worlds.Attached.{attached_after}
use Rattle.laws.proofs.worlds.Kept.{IsExplained, WasPut}
use Rattle.laws.proofs.worlds.Runs.{after_from-append, legal_front}

given : (d address : ℕ) (access : Access) (host : ℕ) (w : World) (device : ℕ) (between : List Event)
    (r : IsReached w device address access host) → r.id ≡ d → IsExplained d (page_of address) between (w.domains d)
    → Occurs (Gives d address access host) between
given d address access host w device between r same kept =
    let there : w.domains d ≡ Some r.domain = ap w.domains (sym same) ∙ r.there in
    occurs_as (WasPut d (page_of address) r.by.target) (Gives d address access host) (gives d address access host r.domain r.by) between
    (elim r.by.held [
      | inl live ↦
          lasts_occurs (WasPut d (page_of address) r.by.target) (EndsPage d (page_of address)) between
          (kept.live r.domain r.by.target there live)
      | inr retired ↦
          lasts_occurs (WasPut d (page_of address) r.by.target) (Drops d) between (kept.retired r.domain r.by.target there retired)
    ])

-- from an event on, after which only maps give the page
pub given_since : (frames : ℕ) (before between more : List Event) (e : Event) (d device address : ℕ) (access : Access) (host : ℕ)
    → IsLegal frames ((before ++ e ∷ between) ++ more)
    → IsReached (after frames (before ++ e ∷ between)) device address access host
    → IsAttached device d (before ++ e ∷ between)
    → IsExplained d (page_of address) between ((after_from (next (after frames before) e.call e.reply) between).domains d)
    → Occurs (Gives d address access host) between
given_since frames before between more e d device address access host legal r attached kept =
    let history = before ++ e ∷ between in
    let legal_before = legal_front (empty frames) history more legal in
    let same : r.id ≡ d = same_Some r.id d (sym r.attached ∙ attached_after frames history device d legal_before attached) in
    given d address access host (after frames history) device between r same
    (subst (λ (w : World). IsExplained d (page_of address) between (w.domains d))
    (sym (after_from-append (empty frames) before (e ∷ between))) kept)
