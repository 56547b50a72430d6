use Rattle.std.proofs.Common.{arith, sym, ap, ◌∙◌}
use Rattle.dmatypes.specs.History.{IsLegal}
use Rattle.ports.specs.Lawful.{IsLawfulAfter}
use Rattle.ports.specs.Seen.{Rows}
use Rattle.ports.specs.declared.known.View.{View}
use Rattle.ports.proofs.histories.LawfulWords.{legal_empty, lawful_zero}
use Rattle.ports.proofs.steps.Loads.{hosts}
use Rattle.ports.proofs.steps.Seats.{leaves, visits, goes}
use Rattle.ports.proofs.desk.host.Goals as goal

pub split_seat-guest-requires : goal.split_seat-guest-requires
split_seat-guest-requires c = (
  c.requires.rows.2 ∙ ap (λ (r : Rows). r.table) (sym c.rows.view_is),
  omega (arith, c.rows.invariant),
  leaves (IsLegal c.rows.inside.words.shared.key.frames) (IsLawfulAfter c.rows.inside.words.shared.key.frames)
      (legal_empty c.rows.inside.words.shared.key.frames) (lawful_zero c.rows.inside.words.shared.key.frames) _ _ _ _ c.requires.caller,
)

pub join_seat-requires : goal.join_seat-requires
join_seat-requires c =
    let guest = c.split_seat-guest.ensures in
    let table = ap (λ (r : Rows). r.table) (sym c.rows.view_is) in (
      c.requires.rows.0 ∙ table,
      guest.3 ∙ c.requires.rows.2 ∙ table,
      ap (λ m. m.1) guest.4,
      omega (arith, c.rows.invariant),
      visits (IsLegal c.rows.inside.words.shared.key.frames) (IsLawfulAfter c.rows.inside.words.shared.key.frames)
          (legal_empty c.rows.inside.words.shared.key.frames)
          (lawful_zero c.rows.inside.words.shared.key.frames) _ _ _ _ _ _ c.requires.desk
          (ap (λ m. m.0.mine.who) guest.4 ∙ c.requires.caller),
    )

pub load-requires : goal.load-requires
load-requires c =
    let joined = c.join_seat.ensures in (
      joined.0 ∙ c.requires.rows.0 ∙ ap (λ (r : Rows). r.table) (sym c.rows.view_is),
      omega (arith, c.rows.invariant),
      hosts (IsLegal c.rows.inside.words.shared.key.frames) (IsLawfulAfter c.rows.inside.words.shared.key.frames)
          (legal_empty c.rows.inside.words.shared.key.frames) (lawful_zero c.rows.inside.words.shared.key.frames) _ _ _ _ _
          (ap (λ m. m.0.is_desk) joined.2)
          (ap (λ m. m.0.guest.who) joined.2 ∙ ap (λ m. m.0.mine.who) c.split_seat-guest.ensures.4 ∙ c.requires.caller),
    )

pub split_seat-requires : goal.split_seat-requires
split_seat-requires c =
    let loaded = c.load.ensures in (
      loaded.0 ∙ c.join_seat.ensures.0 ∙ c.requires.rows.0 ∙ ap (λ (r : Rows). r.table) (sym c.rows.view_is),
      omega (arith, c.rows.invariant),
      goes (IsLegal c.rows.inside.words.shared.key.frames) (IsLawfulAfter c.rows.inside.words.shared.key.frames)
          (legal_empty c.rows.inside.words.shared.key.frames) (lawful_zero c.rows.inside.words.shared.key.frames) _ _ _ _
          (ap (λ (v : View). v.is_desk) loaded.2.0)
          (ap (λ (v : View). v.guest.who) loaded.2.0 ∙ ap (λ m. m.0.guest.who) c.join_seat.ensures.2
          ∙ ap (λ m. m.0.mine.who) c.split_seat-guest.ensures.4 ∙ c.requires.caller),
    )
