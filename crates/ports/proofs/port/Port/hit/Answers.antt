use Rattle.std.proofs.Common.{◌≡◌, ℕ, ◌/◌, ◌%◌, ◌<◌, IfSome, List, [], ◌∷◌, ◌++◌, append_assoc, arith, sym, ap, ◌∙◌, subst}
use Rattle.std.specs.Prelude.{slice_index}
use mathlib.Core.List.{IsPrefix}
use Rattle.dmatypes.specs.declared.reply.Event.{Event}
use Rattle.dmatypes.specs.declared.reply.Reply.TheVariants.{Host}
use Rattle.dmatypes.specs.Allows.{Allows}
use Rattle.dmatypes.specs.History.{IsLegal, after}
use Rattle.dmatypes.specs.Page.{page_of}
use Rattle.ports.specs.Lawful.{IsLawfulAfter}
use Rattle.ports.specs.Seen.{Port, Rows}
use Rattle.ports.specs.Steps.{IsSeenInRun, counter, place_of, slot_of}
use Rattle.ports.specs.declared.known.OwnStep.{OwnStep}
use Rattle.ports.specs.declared.known.OwnStep.TheVariants.{Loaded}
use Rattle.ports.proofs.lists.Members.{some_of}
use Rattle.ports.proofs.steps.Told.{looked}
use Rattle.ports.proofs.histories.Allowed.{allowed_word, spelled_word}
use Rattle.dmatypes.specs.declared.page.TheConstants.{PAGE_BYTES}
use Rattle.ports.specs.declared.rule.TheConstants.{SLOTS}
use Rattle.ports.proofs.port.Port.hit.Goals as goal

pub load-word-requires : goal.load-word-requires
load-word-requires c =
    let rows = ap (λ (v : Port). v.rows) c.self.view_is ∙ c.count-count.ensures.same.0 ∙ c.requires ∙ sym c.rows.view_is in
    let slot : c.args.address / PAGE_BYTES % SLOTS < SLOTS = omega arith in (
      ap (λ (r : Rows). r.table) rows,
      omega (arith, c.rows.invariant, c.place-place.ensures, c.self.invariant.0),
      rw c.place-place.ensures (looked _ _ _ _ _ _ _ (ap (λ (r : Rows). r.frames) rows) c.self.invariant.0 slot c.self.invariant.1),
    )

pub host-requires : goal.host-requires
host-requires c =
    let slot : c.args.address / PAGE_BYTES % SLOTS < SLOTS = omega arith in
    spelled_word c.self.inside.seat.me.0.frames c.load-word.new.seat.me.0.mine.seen c.self.inside.device c.load-word.result
    (c.load-word.ensures.2.1 _ _ c.self.invariant.0 slot c.place-place.ensures)

pub returns-clause-hit : goal.returns-clause-hit
returns-clause-hit c =
    let counted = c.count-count.ensures.count in
    let count = c.count-count.result in
    let looked = c.load-word.ensures.2 in
    let word = c.load-word.result in
    let seen = c.load-word.new.seat.me.0.mine.seen in
    let own = c.load-word.new.seat.me.0.mine.did in
    let slot = slot_of (page_of c.args.address) in
    let frames = ap (λ (v : Port). v.rows.frames) c.self.view_is ∙ ap (λ (r : Rows). r.frames) c.count-count.ensures.same.0 in
    let device = ap (λ (v : Port). v.device) c.self.view_is ∙ c.count-count.ensures.same.1 in
    let place = c.place-place.ensures ∙ ap (λ (d : ℕ). place_of d slot) device in
    let did = c.args.self.now.did in
    let mid = ap (λ (v : Port). v.seen) c.self.view_is in
    let before = ap (λ (v : Port). v.did) c.self.view_is ∙ counted.did in
    let fits : slot < SLOTS = omega arith in
    let lawful = looked.1 _ _ c.self.invariant.0 fits c.place-place.ensures in
    let allowed =
    some_of _ _ _
    (λ host states.
    allowed_word c.self.inside.seat.me.0.frames seen c.self.inside.device word c.args.address c.args.access host
    looked.0.is_legal lawful states)
    c.host.ensures.some in
    record {
      word = word;
      did = looked.0.did ∙ ap (λ (l : List OwnStep). l ++ Loaded c.place-place.result word ∷ []) before
          ∙ append_assoc did (Loaded counter count ∷ []) (Loaded c.place-place.result word ∷ [])
          ∙ ap (λ (k : ℕ). did ++ Loaded counter count ∷ Loaded k word ∷ []) place;
      some = c.host.ensures.some;
      none = c.host.ensures.none;
      run = subst (λ (x : ℕ × ℕ).
          IsSeenInRun (IsLegal x.0) (IsLawfulAfter x.0) c.self.inside.device seen own (λ words. slice_index words x.1 ≡ word))
          (λ i. (frames i, place i)) (looked.2 c.self.inside.device c.self.invariant.1);
      counted = c.count-count.new.self.seen;
      counted_legal = counted.legal;
      count_is = counted.count_is;
      begins = counted.begins;
      front = subst (λ (l : List Event). IsPrefix l seen) mid looked.0.more;
      legal = subst (λ (f : ℕ). IsLegal f seen) frames looked.0.is_legal;
      allowed = subst (λ (x : ℕ × ℕ).
          IfSome c.host.result (λ host. Allows (after x.0 seen) x.1 c.args.address c.args.access (Host host)))
          (λ i. (frames i, device i)) allowed;
    }
