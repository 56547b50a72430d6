use Rattle.std.proofs.Common.{rules, ◌≡◌, ◌+◌, ◌<◌, ◌∷◌, ◌++◌, [], All, length, sum_by, vec_len, arith, ap, sym, subst, ◌∙◌}
use Rattle.manager.specs.Kept.{AllSaw, Book, Share, new_share}
use Rattle.std.proofs.lemmas.Option.{get_or_from_slice_get}
use Rattle.ports.specs.Seen.{new_port}
use Rattle.storm.specs.Storms.{HasMet}
use Rattle.storm.proofs.Meeting.{new_from}
use Rattle.storm.proofs.Storms.{all_made, split_last}
use Rattle.storm.proofs.storming.outcome_on.Goals as goal

pub workers_of-requires-clause-shares : goal.workers_of-requires-clause-shares
workers_of-requires-clause-shares g c =
    let fresh : All (λ (s : Share). s ≡ new_share) c.in_ok-manager.field-0.shares.items = rw c.in_ok-manager.was at c.requires.fresh in
    (split_last (λ (s : Share). s ≡ new_share) c.pop.new.self.items c.in-Some.first
    (subst (All (λ (s : Share). s ≡ new_share)) c.in-Some.ensures.items fresh)).0

pub workers_of-requires-clause-ports : goal.workers_of-requires-clause-ports
workers_of-requires-clause-ports g c =
    let made = c.in_ok-manager.field-0.ports in
    let rows = g.B.Owner.rows in
    let ports = rw c.in_ok-manager.was at c.requires.ports in
    new_from rows 0 made.items
    (λ k within d. let few : k < 16 = omega (arith, within, made.ok, ports.0) in
    get_or_from_slice_get made.items k (new_port rows k) d (ports.1 k few) ∙ ap (new_port rows) (omega arith))

pub unreachable-requires-in_default-finish : goal.unreachable-requires-in_default-finish
unreachable-requires-in_default-finish g c =
    let made : vec_len c.in_ok-manager.field-0.shares ≡ g.B.Owner.shares = rw c.in_ok-manager.was at c.requires.shares in
    search (rules, made)

pub returns : goal.returns
returns g c =
    let plan = c.args.plan in
    let shares = c.in_ok-shares.field-0.shares in
    let mine = c.set_up.new.first in
    let history = c.in-Ok.history.history in
    let made : vec_len c.in_ok-manager.field-0.shares ≡ g.B.Owner.shares = rw c.in_ok-manager.was at c.requires.shares in
    let items : c.push_reserved.new.self.items ≡ shares.items ++ mine ∷ [] = c.push_reserved.ensures.items in
    let len : length shares.items ≡ plan.drivers + plan.devices + 1 = omega (
      arith,
      shares.ok.0,
      c.in_ok-shares.ensures.len,
      c.in_ok-workers.ensures.len,
      c.in-Some.ensures.cases,
      made,
      c.requires.few,
    ) in
    record {
      room = ap (λ (b : Book). length b.history) c.meet_all.ensures.same
          ∙ all_made (plan.drivers + plan.devices + 1) plan.calls (2 + plan.devices) g.B.Owner.room history shares.items mine
          c.requires.room len c.in_ok-shares.ensures.made c.set_up.ensures
          (subst (AllSaw history) items c.in-Ok.ensures.saw)
          (subst (λ xs. length history ≡ sum_by (λ (s : Share). s.calls) xs) items c.in-Ok.ensures.counted)
          (omega (arith, c.in-Ok.ensures.kept.within, c.requires.most));
      met = subst (λ (b : Book). All (HasMet plan.calls b.history) c.meet_all.new.ports.items) (sym c.meet_all.ensures.same)
          (c.meet_all.ensures.met plan.calls c.in_ok-shares.ensures.checked);
    }
