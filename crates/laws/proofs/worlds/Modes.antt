-- The mode of a domain is that of the event that made it; and a strict domain has no records.
use Rattle.std.proofs.Common.{◌≡◌, ℕ, inl, inr, Bool, true, false, List, [], ◌∷◌, ◌++◌, Option, Some, None, refl, sym, ap, subst, ◌∙◌}
use Rattle.std.specs.Prelude.{if◌then◌else◌}
use Rattle.std.proofs.lemmas.Option.{same_Some}
use Rattle.dmatypes.specs.declared.call.Call.TheVariants as calls
use Rattle.dmatypes.specs.declared.call.Mode.{Mode}
use Rattle.dmatypes.specs.declared.call.Mode.TheVariants as modes
use Rattle.dmatypes.specs.declared.reply.Event.{Event}
use Rattle.dmatypes.specs.declared.reply.Reply.TheVariants.{Made}
use Rattle.dmatypes.specs.declared.width.Width.{Width}
use Rattle.dmatypes.specs.Page.{Range, page_of, range_at}
use Rattle.dmatypes.specs.World.{Domain, World, begun_once_more, empty, empty_domain, flushed, is_full, mapped, reaped, unmapped_by}
use Rattle.dmatypes.specs.Step.{IsStep, next}
use Rattle.dmatypes.specs.History.{after, IsLegal}
use Rattle.dmatypes.proofs.histories.Maps.{put_same}
use Rattle.laws.specs.Events.{Drops, IsOfMode, Makes}
use Rattle.laws.proofs.lists.Courses.{lasts_either}
use Rattle.laws.proofs.worlds.Runs.{carried}
use Rattle.laws.proofs.worlds.Turns.{Turn, turn}

-- there is a domain of the mode, and without records if it is strict
pub record IsOf (mode : Mode) (o : Option Domain) : Type 0 where
  pub domain : Domain
  pub there : o ≡ Some domain
  pub is : domain.mode ≡ mode
  pub bare : mode ≡ modes.Strict → domain.retired ≡ []

-- ---- domains that change

room_mode : (v : Domain) (b : Bool) → (if b then flushed v else v).mode ≡ v.mode
room_mode v true = refl
room_mode v false = refl

unmapped_mode : (mode : Mode) (range : Range) (v : Domain) → (unmapped_by mode range v).mode ≡ v.mode
unmapped_mode modes.Strict range v = refl
unmapped_mode modes.Lazy range v = room_mode v (is_full v)

pub unmapped_bare : (mode : Mode) (range : Range) (v : Domain) → mode ≡ modes.Strict → (unmapped_by mode range v).retired ≡ v.retired
unmapped_bare modes.Strict range v strict = refl
unmapped_bare modes.Lazy range v strict = absurd cc

reaped_bare : (number : ℕ) (v : Domain) → v.retired ≡ [] → (reaped number v).retired ≡ []
reaped_bare number v none = ap (λ rs. (reaped number (record v { retired = rs })).retired) none

changed : (mode : Mode) (o : Option Domain) (v u : Domain) (new : Option Domain) → IsOf mode o → o ≡ Some v → new ≡ Some u
    → u.mode ≡ v.mode → ((v.mode ≡ modes.Strict) → v.retired ≡ [] → u.retired ≡ []) → IsOf mode new
changed mode o v u new old there is same still =
    let one : old.domain ≡ v = same_Some old.domain v (sym old.there ∙ there) in
    let was : v.mode ≡ mode = ap (λ (x : Domain). x.mode) (sym one) ∙ old.is in
    record {
      domain = u;
      there = is;
      is = same ∙ was;
      bare = λ strict. still (was ∙ strict) (ap (λ (x : Domain). x.retired) (sym one) ∙ old.bare strict);
    }

mode_turn : (mode : Mode) (w : World) (d : ℕ) (e : Event) (new : Option Domain) → (Drops d e → ⊥) → IsOf mode (w.domains d)
    → Turn w d e new → IsOf mode new
mode_turn mode w d e new keeps old (Turn.stays same unnamed) = subst (IsOf mode) (sym same) old
mode_turn mode w d e new keeps old (Turn.made other width none is of) =
    absurd (let both : None ≡ Some old.domain = sym none ∙ old.there in cc)
mode_turn mode w d e new keeps old (Turn.dropped none of) = absurd (keeps of)
mode_turn mode w d e new keeps old (Turn.maps v ss rights address there free is of) =
    changed mode (w.domains d) v (mapped ss (page_of address) rights v) new old there is refl (λ strict none. none)
mode_turn mode w d e new keeps old (Turn.unmaps v address pages released there answer is of) =
    changed mode (w.domains d) v (unmapped_by v.mode (range_at address pages) v) new old there is
    (unmapped_mode v.mode (range_at address pages) v) (λ strict none. unmapped_bare v.mode (range_at address pages) v strict ∙ none)
mode_turn mode w d e new keeps old (Turn.flushes v released there is of) =
    changed mode (w.domains d) v (flushed v) new old there is refl (λ strict none. refl)
mode_turn mode w d e new keeps old (Turn.begins v there is of) =
    changed mode (w.domains d) v (begun_once_more v) new old there is refl (λ strict none. none)
mode_turn mode w d e new keeps old (Turn.reaps v number there is of) =
    changed mode (w.domains d) v (reaped number v) new old there is refl (λ strict none. reaped_bare number v none)

-- ---- along a history

made_next : (w : World) (mode : Mode) (d : ℕ) (width : Width)
    → IsOf mode ((next w (calls.Domain mode width) (Made d)).domains d)
unfolding next
made_next w mode d width = record {
  domain = empty_domain mode width;
  there = put_same d (Some (empty_domain mode width)) w.domains;
  is = refl;
  bare = λ strict. refl;
}

abbrev HasMode : Mode → ℕ → List Event → World → Type 0
HasMode mode d es w = IsOfMode mode d es → IsOf mode (w.domains d)

mode_step : (mode : Mode) (d : ℕ) (es : List Event) (w : World) (e : Event) → HasMode mode d es w → IsStep w e.call e.reply
    → HasMode mode d (es ++ e ∷ []) (next w e.call e.reply)
mode_step mode d es w e so_far step lasts = elim (lasts_either (Makes mode d) (Drops d) es e lasts) [
  | inl makes ↦
      subst (λ (x : Event). IsOf mode ((next w x.call x.reply).domains d)) (sym makes.1) (made_next w mode d makes.0)
  | inr still ↦ mode_turn mode w d e ((next w e.call e.reply).domains d) still.1 (so_far still.0) (turn w e.call e.reply d step)
]

-- after a legal history
pub mode_after : (frames : ℕ) (history : List Event) (mode : Mode) (d : ℕ) → IsLegal frames history → IsOfMode mode d history
    → IsOf mode ((after frames history).domains d)
mode_after frames history mode d legal lasts =
    carried (HasMode mode d) (mode_step mode d) [] (empty frames) history (λ none. absurd none) legal lasts
