-- After a strict unmap a device reaches by its pages only what a later map gives.
use Rattle.std.proofs.Common.{◌≡◌, ℕ, List, [], ◌∷◌, ◌++◌, Some, None, refl, sym, ap, subst, ◌∙◌}
use Rattle.std.proofs.lemmas.Option.{same_Some}
use Rattle.dmatypes.specs.declared.call.Access.{Access}
use Rattle.dmatypes.specs.declared.call.Mode.TheVariants as modes
use Rattle.dmatypes.specs.declared.call.Whim.{Whim}
use Rattle.dmatypes.specs.declared.reply.Event.{Event}
use Rattle.dmatypes.specs.Page.{Range, IsWithin, page_of, range_at}
use Rattle.dmatypes.specs.World.{Target, Domain, World, IsRetired, empty, unmapped_by}
use Rattle.dmatypes.specs.Step.{IsStep, next}
use Rattle.dmatypes.specs.History.{after, IsLegal}
use Rattle.laws.specs.Events.{Gives, IsAttached, IsOfMode, Occurs, Unmaps, reaching}
use Rattle.laws.proofs.reach.Mapped.{bare_none}
use Rattle.laws.proofs.reach.Reached.{IsReached, reached_after}
use Rattle.laws.proofs.reach.Since.{given_since}
use Rattle.laws.proofs.worlds.Kept.{IsExplained, kept_none, kept_step}
use Rattle.laws.proofs.worlds.Live.{unmapped_live, without_here}
use Rattle.laws.proofs.worlds.Modes.{IsOf, mode_after, unmapped_bare}
use Rattle.laws.proofs.worlds.Runs.{carried, legal_from, legal_front}
use Rattle.laws.proofs.worlds.Turns.{unmap_step}

-- an unmapped page isn't live
pub not_live : (v : Domain) (range : Range) (p : ℕ) (t : Target) → IsWithin range p → (unmapped_by v.mode range v).live p ≡ Some t → ⊥
not_live v range p t within live =
    let both : None ≡ Some t = sym (without_here range v.live p within) ∙ sym (unmapped_live v.mode range v p) ∙ live in cc

-- after a strict unmap its pages are neither live nor in a record
pub kept_strict : (w : World) (e : Event) (d p : ℕ) → IsStep w e.call e.reply → Unmaps d p e → IsOf modes.Strict (w.domains d)
    → IsExplained d p [] ((next w e.call e.reply).domains d)
kept_strict w e d p step u mode =
    let by = unmap_step w e d p step u in
    let same : mode.domain ≡ by.0 = same_Some mode.domain by.0 (sym mode.there ∙ by.1) in
    let strict : by.0.mode ≡ modes.Strict = ap (λ (v : Domain). v.mode) (sym same) ∙ mode.is in
    let bare : (unmapped_by by.0.mode (range_at u.0 u.1) by.0).retired ≡ [] =
    unmapped_bare by.0.mode (range_at u.0 u.1) by.0 strict ∙ ap (λ (v : Domain). v.retired) (sym same) ∙ mode.bare refl in
    subst (IsExplained d p []) (sym by.3)
    (kept_none d p [] (Some (unmapped_by by.0.mode (range_at u.0 u.1) by.0))
    (λ v t at live.
    not_live by.0 (range_at u.0 u.1) p t u.4 (ap (λ (x : Domain). x.live p) (same_Some _ v at) ∙ live))
    (λ v t at retired.
    bare_none (unmapped_by by.0.mode (range_at u.0 u.1) by.0) p t bare
    (subst (λ (x : Domain). IsRetired x p t) (sym (same_Some _ v at)) retired)))

-- whatever is reached after the history
pub strict_ends_reach : (frames : ℕ) (before between more : List Event) (unmap : Event) (domain device address : ℕ) (access : Access)
    (host : ℕ) → IsLegal frames ((before ++ unmap ∷ between) ++ more)
    → IsReached (after frames (before ++ unmap ∷ between)) device address access host
    → IsOfMode modes.Strict domain before → Unmaps domain (page_of address) unmap
    → IsAttached device domain (before ++ unmap ∷ between) → Occurs (Gives domain address access host) between
strict_ends_reach frames before between more unmap domain device address access host legal reached strict unmaps attached =
    let p = page_of address in
    let from = legal_from (empty frames) before unmap between more legal in
    let w = after frames before in
    let legal_before =
    legal_front (empty frames) before (unmap ∷ between) (legal_front (empty frames) (before ++ unmap ∷ between) more legal) in
    let first = kept_strict w unmap domain p from.0 unmaps (mode_after frames before modes.Strict domain legal_before strict) in
    given_since frames before between more unmap domain device address access host legal reached attached
    (carried (λ es x. IsExplained domain p es (x.domains domain)) (kept_step domain p) [] (next w unmap.call unmap.reply) between first
    (legal_front (next w unmap.call unmap.reply) between more from.1))

pub strict_ends : (frames : ℕ) (before between rest : List Event) (unmap : Event) (domain device address : ℕ) (access : Access)
    (whim : Whim) (host : ℕ) → IsLegal frames ((before ++ unmap ∷ between) ++ reaching device address access whim host ∷ rest)
    → IsOfMode modes.Strict domain before → Unmaps domain (page_of address) unmap
    → IsAttached device domain (before ++ unmap ∷ between) → Occurs (Gives domain address access host) between
strict_ends frames before between rest unmap domain device address access whim host legal =
    strict_ends_reach frames before between (reaching device address access whim host ∷ rest) unmap domain device address access host legal
    (reached_after frames (before ++ unmap ∷ between) rest device address access whim host legal)
