use Rattle.std.proofs.Common.{◌≡◌, rules, ℕ, ◌<◌, length, get_or-set_same, arith, sym, ap, ◌∙◌, subst}
use Rattle.std.specs.Prelude.{slice_index, slice_set}
use Rattle.dmatypes.specs.History.{IsLegal}
use Rattle.ports.specs.Lawful.{IsLawfulAfter}
use Rattle.ports.specs.Seen.{Desk, Rows}
use Rattle.ports.specs.Steps.{place_of}
use Rattle.ports.specs.declared.known.View.{View}
use Rattle.ports.proofs.histories.LawfulWords.{legal_empty, lawful_zero}
use Rattle.ports.proofs.lists.Rows.{stored_filled}
use Rattle.ports.proofs.steps.Stores.{fills}
use Rattle.ports.proofs.desk.Desk.store.Goals as goal

pub store-requires : goal.store-requires
store-requires c =
    let rows = ap (λ (v : Desk). v.rows) c.self.view_is ∙ c.requires.rows ∙ sym c.rows.view_is in
    let lawful =
    subst (λ (v : Desk). IsLawfulAfter v.rows.frames v.history c.args.device c.args.word) (sym c.self.view_is) c.requires.lawful in
    let frames = ap (λ (r : Rows). r.frames) rows in (
      ap (λ (r : Rows). r.table) rows,
      omega (arith, c.rows.invariant, c.place-place.ensures, c.requires.place),
      rw c.place-place.ensures
          (fills (IsLegal c.rows.inside.words.shared.key.frames) (IsLawfulAfter c.rows.inside.words.shared.key.frames)
          (legal_empty c.rows.inside.words.shared.key.frames)
          (lawful_zero c.rows.inside.words.shared.key.frames) _ _ _ _ _ _ _ c.requires.place.0 c.requires.place.1 c.self.invariant.0
          c.self.invariant.1
          (subst (λ (f : ℕ). IsLawfulAfter f c.self.inside.seat.me.0.mine.seen c.args.device c.args.word) frames lawful)),
    )

pub returns-clause-stored : goal.returns-clause-stored
returns-clause-stored c =
    let i : ℕ = place_of c.args.device c.args.slot in
    let lt : i < length c.self.inside.seat.me.0.last = rw c.self.invariant.1 (omega (arith, c.requires.place)) in
    ap (λ (v : View). slice_index v.last i) c.store.ensures.2
    ∙ rw c.place-place.ensures (get_or-set_same c.self.inside.seat.me.0.last i c.args.word 0 lt)

pub invariant_of-self : goal.invariant_of-self
invariant_of-self c =
    let is : c.store.new.seat.me.0.last ≡ slice_set c.self.inside.seat.me.0.last (place_of c.args.device c.args.slot) c.args.word =
    ap (λ (v : View). v.last) c.store.ensures.2
    ∙ ap (λ (k : ℕ). slice_set c.self.inside.seat.me.0.last k c.args.word) c.place-place.ensures in (
      search rules,
      search rules,
      stored_filled c.self.inside.filled c.args.device c.args.slot c.args.word c.self.inside.seat.me.0.last c.store.new.seat.me.0.last
          c.requires.place.0 c.requires.place.1 is c.self.invariant.2,
    )
