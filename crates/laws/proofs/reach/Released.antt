-- After a lazy unmap its pages are handed out again only once what was unmapped is released; and from then on a device
-- reaches by them only what a later map gives.
use Rattle.std.proofs.Common.{◌≡◌, ℕ, inl, inr, List, [], ◌∷◌, ◌++◌, sym, subst, ◌∙◌}
use Rattle.std.proofs.lemmas.Option.{same_Some}
use Rattle.dmatypes.specs.declared.call.Access.{Access}
use Rattle.dmatypes.specs.declared.call.Mode.TheVariants as modes
use Rattle.dmatypes.specs.declared.call.Whim.{Whim}
use Rattle.dmatypes.specs.declared.reply.Event.{Event}
use Rattle.dmatypes.specs.Page.{page_of}
use Rattle.dmatypes.specs.World.{Domain, World, IsFree, empty, with_room}
use Rattle.dmatypes.specs.Step.{IsStep, next}
use Rattle.dmatypes.specs.History.{after, after_from, IsLegal}
use Rattle.laws.specs.Events.{Gives, IsAttached, IsOfMode, IsReleased, Maps, Occurs, Unmaps, reaching}
use Rattle.laws.proofs.reach.Reached.{IsReached, reached_after}
use Rattle.laws.proofs.reach.Since.{given_since}
use Rattle.laws.proofs.worlds.Apart.{apart_after}
use Rattle.laws.proofs.worlds.Live.{put_in}
use Rattle.laws.proofs.worlds.Modes.{mode_after}
use Rattle.laws.proofs.worlds.Releases.{IsHeld, IsHeldOrReleased, held_first, held_step}
use Rattle.laws.proofs.worlds.Runs.{carried, legal_from, legal_front, legal_rest}
use Rattle.laws.proofs.worlds.Tickets.{begun_after}

-- in the course of the events after the unmap
held_or_released : (frames : ℕ) (before between rest : List Event) (unmap : Event) (d p : ℕ)
    → IsLegal frames ((before ++ unmap ∷ between) ++ rest) → IsOfMode modes.Lazy d before → Unmaps d p unmap
    → (mark : ℕ) × IsHeldOrReleased d p mark between (after_from (next (after frames before) unmap.call unmap.reply) between)
held_or_released frames before between rest unmap d p legal lazy unmaps =
    let from = legal_from (empty frames) before unmap between rest legal in
    let w = after frames before in
    let legal_before =
    legal_front (empty frames) before (unmap ∷ between) (legal_front (empty frames) (before ++ unmap ∷ between) rest legal) in
    let is = mode_after frames before modes.Lazy d legal_before lazy in
    let mark = (with_room is.domain).begun in
    let apart = apart_after frames before d legal_before in
    let first = held_first w unmap d p from.0 unmaps is apart (λ n. begun_after frames before d n legal_before) in (
      mark,
      carried (IsHeldOrReleased d p mark) (held_step d p mark) [] (next w unmap.call unmap.reply) between (inl first)
          (legal_front (next w unmap.call unmap.reply) between rest from.1),
    )

-- a page that is held isn't put in
not_put_in : (w : World) (e : Event) (d p mark : ℕ) (es : List Event) → IsStep w e.call e.reply → Maps d p e → IsHeld d p mark es w → ⊥
not_put_in w e d p mark es step maps held =
    let at = put_in w e d p step maps in
    let same : held.domain ≡ at.domain = same_Some held.domain at.domain (sym held.there ∙ at.there) in
    (subst (λ (x : Domain). IsFree x p) (sym same) at.free).not_retired held.holds.by held.holds.inside held.holds.within

pub released_between : (frames : ℕ) (before between rest : List Event) (unmap map : Event) (d p : ℕ)
    → IsLegal frames ((before ++ unmap ∷ between) ++ map ∷ rest) → IsOfMode modes.Lazy d before → Unmaps d p unmap → Maps d p map
    → IsReleased d between
released_between frames before between rest unmap map d p legal lazy unmaps maps =
    let from = legal_from (empty frames) before unmap between (map ∷ rest) legal in
    let w = next (after frames before) unmap.call unmap.reply in
    let h = held_or_released frames before between (map ∷ rest) unmap d p legal lazy unmaps in
    elim h.1 [
      | inl held ↦
          absurd (not_put_in (after_from w between) map d p h.0 between (legal_rest w between (map ∷ rest) from.1).0 maps held)
      | inr released ↦ released.0
    ]

-- whatever is reached after the history
pub release_ends_reach : (frames : ℕ) (before between more : List Event) (unmap : Event) (domain device address : ℕ) (access : Access)
    (host : ℕ) → IsLegal frames ((before ++ unmap ∷ between) ++ more)
    → IsReached (after frames (before ++ unmap ∷ between)) device address access host
    → IsOfMode modes.Lazy domain before → Unmaps domain (page_of address) unmap → IsReleased domain between
    → IsAttached device domain (before ++ unmap ∷ between) → Occurs (Gives domain address access host) between
release_ends_reach frames before between more unmap domain device address access host legal reached lazy unmaps released attached =
    let h = held_or_released frames before between more unmap domain (page_of address) legal lazy unmaps in
    elim h.1 [
      | inl held ↦ absurd (held.unreleased released)
      | inr kept ↦ given_since frames before between more unmap domain device address access host legal reached attached kept.1
    ]

pub release_ends : (frames : ℕ) (before between rest : List Event) (unmap : Event) (domain device address : ℕ) (access : Access)
    (whim : Whim) (host : ℕ) → IsLegal frames ((before ++ unmap ∷ between) ++ reaching device address access whim host ∷ rest)
    → IsOfMode modes.Lazy domain before → Unmaps domain (page_of address) unmap → IsReleased domain between
    → IsAttached device domain (before ++ unmap ∷ between) → Occurs (Gives domain address access host) between
release_ends frames before between rest unmap domain device address access whim host legal =
    release_ends_reach frames before between (reaching device address access whim host ∷ rest) unmap domain device address access host legal
    (reached_after frames (before ++ unmap ∷ between) rest device address access whim host legal)
