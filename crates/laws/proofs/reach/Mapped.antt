-- A device reaches only what a map put into the domain that it is attached to.
use Rattle.std.proofs.Common.{◌≡◌, ℕ, inl, inr, List, [], ◌∷◌, ◌++◌, None, refl, sym, ap, subst, ◌∙◌}
use Rattle.std.proofs.lemmas.Option.{same_Some}
use Rattle.dmatypes.specs.declared.call.Access.{Access}
use Rattle.dmatypes.specs.declared.call.Mode.TheVariants as modes
use Rattle.dmatypes.specs.declared.call.Whim.{Whim}
use Rattle.dmatypes.specs.declared.reply.Event.{Event}
use Rattle.dmatypes.specs.Page.{page_of}
use Rattle.dmatypes.specs.World.{Domain, IsIn, IsRetired, Retired, empty}
use Rattle.dmatypes.specs.History.{after, IsLegal}
use Rattle.laws.specs.Events.{Drops, Gives, IsAttached, IsOfMode, Lasts, EndsPage, reaching}
use Rattle.laws.proofs.lists.Courses.{lasts_as, lasts_less}
use Rattle.laws.proofs.reach.Reached.{IsReached, gives, reached_after}
use Rattle.laws.proofs.worlds.Attached.{attached_by}
use Rattle.laws.proofs.worlds.Kept.{IsExplained, WasPut, kept_none, kept_step}
use Rattle.laws.proofs.worlds.Modes.{mode_after}
use Rattle.laws.proofs.worlds.Runs.{carried, legal_front}

kept_after : (frames : ℕ) (history : List Event) (d p : ℕ) → IsLegal frames history
    → IsExplained d p history ((after frames history).domains d)
kept_after frames history d p legal =
    carried (λ es w. IsExplained d p es (w.domains d)) (kept_step d p) [] (empty frames) history
    (kept_none d p [] None (λ v t none live. absurd cc) (λ v t none retired. absurd cc)) legal

-- a domain without records has no page in one
pub bare_none : (v : Domain) (p : ℕ) (t : _) → v.retired ≡ [] → IsRetired v p t → ⊥
bare_none v p t bare retired = subst (λ (rs : List Retired). IsIn retired.0 rs) bare retired.1

pub reaches_mapped : (frames : ℕ) (before rest : List Event) (device address : ℕ) (access : Access) (whim : Whim) (host : ℕ)
    → IsLegal frames (before ++ reaching device address access whim host ∷ rest)
    → (domain : ℕ) × IsAttached device domain before
    × Lasts (Gives domain address access host) (Drops domain) before
    × (IsOfMode modes.Strict domain before
    → Lasts (Gives domain address access host) (EndsPage domain (page_of address)) before)
reaches_mapped frames before rest device address access whim host legal = (r.id, attached, put, strictly)
  where
    r : IsReached (after frames before) device address access host
    r = reached_after frames before rest device address access whim host legal

    legal_before : IsLegal frames before
    legal_before = legal_front (empty frames) before (reaching device address access whim host ∷ rest) legal

    attached : IsAttached device r.id before
    attached = attached_by frames before device r.id legal_before r.attached

    kept : IsExplained r.id (page_of address) before ((after frames before).domains r.id)
    kept = kept_after frames before r.id (page_of address) legal_before

    put : Lasts (Gives r.id address access host) (Drops r.id) before
    put =
        lasts_as (WasPut r.id (page_of address) r.by.target) (Gives r.id address access host) (Drops r.id)
        (gives r.id address access host r.domain r.by) before
        (elim r.by.held [
          | inl live ↦
              lasts_less (WasPut r.id (page_of address) r.by.target) (EndsPage r.id (page_of address)) (Drops r.id)
              (λ e drops. inr drops) before (kept.live r.domain r.by.target r.there live)
          | inr retired ↦ kept.retired r.domain r.by.target r.there retired
        ])

    strictly : IsOfMode modes.Strict r.id before
        → Lasts (Gives r.id address access host) (EndsPage r.id (page_of address)) before
    strictly strict =
        let mode = mode_after frames before modes.Strict r.id legal_before strict in
        let same : mode.domain ≡ r.domain = same_Some mode.domain r.domain (sym mode.there ∙ r.there) in
        let bare : r.domain.retired ≡ [] = ap (λ (v : Domain). v.retired) (sym same) ∙ mode.bare refl in
        lasts_as (WasPut r.id (page_of address) r.by.target) (Gives r.id address access host) (EndsPage r.id (page_of address))
        (gives r.id address access host r.domain r.by) before
        (elim r.by.held [
          | inl live ↦ kept.live r.domain r.by.target r.there live
          | inr retired ↦ absurd (bare_none r.domain (page_of address) r.by.target bare retired)
        ])
