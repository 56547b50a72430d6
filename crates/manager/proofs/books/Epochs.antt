-- Events that are handed on, and those that are kept.
use Rattle.std.proofs.Common.{◌≡◌, ℕ, ◌+◌, ◌≤◌, List, [], ◌∷◌, ◌++◌, length, drop, ap, sym, ◌∙◌, arith}
use Rattle.std.proofs.lemmas.List.{drop-append-le, drop_all, drop_at, length-drop}
use Rattle.std.specs.List.{flat_map}
use Rattle.dmatypes.specs.declared.reply.Event.{Event}
use Rattle.manager.specs.Kept.{AreFrom, Epoch, events_of}

-- one event more is kept
pub kept_more : (handed : ℕ) (history now kept : List Event) (e : Event) → handed ≤ length history → kept ≡ drop handed history
    → now ≡ history ++ e ∷ [] → kept ++ e ∷ [] ≡ drop handed now
kept_more handed history now kept e le was is =
    ap (λ (l : List Event). l ++ e ∷ []) was ∙ sym (drop-append-le handed history (e ∷ []) le) ∙ sym (ap (drop handed) is)

-- all events are handed on or kept
pub all_told : (handed : ℕ) (history kept : List Event) → handed ≤ length history → kept ≡ drop handed history
    → handed + length kept ≡ length history
all_told handed history kept le is = omega (arith, ap length is, length-drop handed history, le)

-- ---- epochs

joined : (first : ℕ) (history : List Event) (epochs : List Epoch) → AreFrom first history epochs
    → flat_map events_of epochs ≡ drop first history
joined first history [] are = sym (drop_all first history (omega (arith, are)))
joined first history (e ∷ epochs) are =
    let seen = are.1.0 in
    let rest = are.1.1.0 in
    let is : seen ++ rest ≡ history = are.1.1.1 in
    let end = are.1.2 in
    let le : first ≤ length seen = omega (arith, are.0, end.0) in
    let events : e.events ≡ drop first seen = end.1 ∙ ap (λ (n : ℕ). drop n seen) are.0 in
    let len : first + length e.events ≡ length seen = omega (arith, ap length events, length-drop first seen, le) in
    let others : flat_map events_of epochs ≡ rest =
    joined (first + length e.events) history epochs are.2 ∙ ap (drop (first + length e.events)) (sym is)
    ∙ drop_at seen rest (first + length e.events) (sym len) in
    ap (λ (l : List Event). e.events ++ l) others ∙ ap (λ (l : List Event). l ++ rest) events ∙ sym (drop-append-le first seen rest le)
    ∙ ap (drop first) is

pub epochs_whole : (history : List Event) (epochs : List Epoch) → AreFrom 0 history epochs → flat_map events_of epochs ≡ history
epochs_whole history epochs are = joined 0 history epochs are
