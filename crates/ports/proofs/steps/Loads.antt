-- Loads keep the rule, and tell who makes them of the history.
-- Of `legal` and `lawful` these proofs use only that the empty history is legal and 0 always lawful.
use Rattle.std.proofs.Common.{◌≡◌, ◌≢◌, ℕ, suc, ◌<◌, true, false, List, [], ◌∷◌, ◌++◌, length, set, refl, sym, ap, ◌∙◌, subst}
use Rattle.std.proofs.Common.{inl, inr, ⊎_elim, arith, length-set, get_or-set_same, get_or-set_other}
use Rattle.std.specs.Prelude.{slice_index}
use mathlib.Core.Option.{none, some}
use mathlib.Core.List.{IsPrefix}
use lib.ListN.{get_elem?}
use Rattle.atomic_table.specs.Table.{step, keeps, stepped as table_after, Allows}
use Rattle.dmatypes.specs.declared.reply.Event.{Event}
use Rattle.ports.specs.declared.known.OwnStep.TheVariants.{Loaded}
use Rattle.ports.specs.declared.known.Known.{Known}
use Rattle.ports.specs.declared.known.View.{View}
use Rattle.ports.specs.declared.known.OwnStep.{OwnStep}
use Rattle.ports.specs.Steps.{PortStep, loads_word, loads_counter, counter, place_of, seen_by, own_steps, Core, IsSeenInRun, led_to}
use Rattle.ports.specs.Rule.{caller_view, with_guest, Fits, Table, Sat, FollowsRule, IsReached, Counted, Looked, Hosted}
use Rattle.ports.proofs.lists.Fronts.{prefix_self}
use Rattle.ports.proofs.runs.OwnSteps.{IsOwn, loaded_word, loaded_counter, own_more, own_same, stores_same}
use Rattle.ports.proofs.runs.Reaching.{reached_more}
use Rattle.dmatypes.specs.declared.limits.TheConstants.{DEVICES}
use Rattle.ports.specs.declared.rule.TheConstants.{COUNTER, ROW_WORDS, SLOTS, WORDS}
use Rattle.ports.proofs.steps.Views.{named_as, caller_fits, desk_fits_as, others, set_same, seeing, seeing_else}

module _ (legal : List Event → Type 0) (lawful : List Event → ℕ → ℕ → Type 0) (none_legal : legal [])
    (zeros : (log : List Event) (device : ℕ) → lawful log device 0) (passes : ℕ) where
  abbrev K : Table → Type 0
  K s = FollowsRule legal lawful passes s

  -- a word is loaded, by which the caller p sees the history
  loads : (s : Table) (r : K s) (i id p : ℕ) (one : PortStep) (step : OwnStep) (c : List (ℕ × Unit {0})) (w : View) → i < WORDS
      → p < r.truth.made → IsOwn p one step → IsReached legal lawful passes (seeing r.truth p one)
      → ((j : ℕ) (v : View) → get_elem? (set s.views id w) j ≡ some v → Fits (seeing r.truth p one) j v)
      → K (table_after s i (slice_index s.words i) id c w keeps)
  unfolding seeing
  loads s r i id p one step c w lt lp own reached fits =
      let lt' : i < length s.words = rw r.wide lt in
      let same = set_same s.words i lt' in
      record {
        truth = seeing r.truth p one;
        reached = reached;
        wide = length-set s.words i (slice_index s.words i) ∙ r.wide;
        count = same COUNTER ∙ r.count;
        is_legal = r.is_legal;
        core_wide = r.core_wide;
        words = λ k h. r.words k h ∙ sym (same k);
        rows = λ k h. ⊎_elim (λ e. inl (same k ∙ e)) (λ e. inr (same k ∙ e)) (r.rows k h);
        each_lawful = r.each_lawful;
        callers = length-set r.truth.core.seen p r.truth.core.history ∙ r.callers;
        made = r.made;
        fresh = λ q h. let two : q ≢ p = λ e. absurd (omega arith) in (
          get_or-set_other r.truth.core.seen p q r.truth.core.history [] two ∙ (r.fresh q h).0,
          own_same q r.truth.steps one (own.others q two) ∙ (r.fresh q h).1,
        );
        each_seat = fits;
      }

  -- the caller at its own seat
  own_load : (s : Table) (r : K s) (id p frames : ℕ) (one : PortStep) (step : OwnStep) (v : View) (known : Known)
      → get_elem? s.views id ≡ some v → v.mine.who ≡ suc p → known.who ≡ suc p → known.seen ≡ r.truth.core.history
      → IsOwn p one step → known.did ≡ v.mine.did ++ step ∷ []
      → (j : ℕ) (u : View) → get_elem? (set s.views id (caller_view frames known)) j ≡ some u → Fits (seeing r.truth p one) j u
  unfolding seeing
  own_load s r id p frames one step v known at who who' seen own did =
      let is = (r.each_seat id v at).mine_named.is p who in
      let lt : p < length r.truth.core.seen = omega (arith, r.callers, r.made, is.0) in
      let now = seeing r.truth p one in
      others now id s.views (caller_view frames known)
      (λ j u ne e. seeing_else r.truth p one step id false own is.1 j u ne (r.each_seat j u e))
      (caller_fits now id frames known
      (subst (λ (l : List Event). IsPrefix l r.truth.core.history) (sym seen) (prefix_self r.truth.core.history))
      (named_as now id false known p who' is.0 is.1
      (get_or-set_same r.truth.core.seen p r.truth.core.history [] lt ∙ sym seen)
      (own_more p r.truth.steps one step v.mine.did own is.3 ∙ sym did)))

  -- a run leads to where the caller has seen the history
  in_run : (s : Table) (r : K s) (p q : ℕ) (one : PortStep) (known : Known) (words : List ℕ → Type 0) → p < r.truth.made
      → known.who ≡ suc p → known.who ≡ suc q → own_steps p (r.truth.steps ++ one ∷ []) ≡ known.did
      → IsReached legal lawful passes (seeing r.truth p one) → words r.truth.core.words
      → IsSeenInRun legal lawful q r.truth.core.history known.did words
  unfolding seeing
  in_run s r p q one known words made who who' did reached are =
      let lt : p < length r.truth.core.seen = omega (arith, r.callers, r.made, made) in
      let same : p ≡ q = omega (arith, who, who') in
      let steps = r.truth.steps ++ one ∷ [] in
      let seen = ap (λ (c : Core). seen_by c p) reached.leads ∙ get_or-set_same r.truth.core.seen p r.truth.core.history [] lt in
      record {
        passes = passes;
        steps = steps;
        is_run = reached.is_run;
        history_is = ap (λ (c : Core). c.history) reached.leads;
        seen = subst (λ (x : ℕ). seen_by (led_to passes steps) x ≡ r.truth.core.history) same seen;
        did = subst (λ (x : ℕ). own_steps x steps ≡ known.did) same did;
        words = subst (λ (c : Core). words c.words) (sym reached.leads) are;
      }

  -- a caller loads the counter
  pub counts : (slots id : ℕ) (me : Sat) (p : ℕ) → me.0.mine.who ≡ suc p
      → Allows K slots id me counter (λ n. n) (Counted legal lawful (step slots counter 0 0 none) me)
  unfolding seeing
  counts slots id me p who s r _ at _ =
      let n = slice_index s.words counter in
      let now : Known = record { who = me.0.mine.who; seen = r.truth.core.history; did = me.0.mine.did ++ Loaded counter n ∷ [] } in
      let fits = r.each_seat id me.0 at in
      let is = fits.mine_named.is p who in
      let lt : p < length r.truth.core.seen = omega (arith, r.callers, r.made, is.0) in
      let one = loads_counter p n in
      let own = loaded_counter p n in
      let reached = reached_more legal lawful passes r.truth one r.reached (lt, r.count) in (
        caller_view me.0.frames now,
        keeps,
        tt,
        loads s r counter id p one (Loaded counter n) me.1 (caller_view me.0.frames now) (omega arith) is.0 own reached
            (own_load s r id p me.0.frames one (Loaded counter n) me.0 now at who who refl own refl),
        (
          record { more = fits.seen; is_legal = r.is_legal; did = refl; who = refl },
          sym r.count,
          λ q who'. in_run s r p q one now (λ words. Unit {0}) is.0 who who'
              (own_more p r.truth.steps one (Loaded counter n) me.0.mine.did own is.3) reached tt,
          refl,
        ),
      )

  -- a port looks at a word of its row
  pub looks : (slots id : ℕ) (me : Sat) (port slot : ℕ) → port < DEVICES → slot < SLOTS → me.0.mine.who ≡ suc port
      → Allows K slots id me (place_of port slot) (λ n. n) (Looked legal lawful (step slots (place_of port slot) 0 0 none) me)
  unfolding seeing
  looks slots id me port slot hp hs who s r _ at _ =
      let i : ℕ = place_of port slot in
      let n = slice_index s.words i in
      let lt : i < ROW_WORDS = omega arith in
      let now : Known = record { who = me.0.mine.who; seen = r.truth.core.history; did = me.0.mine.did ++ Loaded i n ∷ [] } in
      let fits = r.each_seat id me.0 at in
      let is = fits.mine_named.is port who in
      let one = loads_word port slot n in
      let own = loaded_word port slot n in
      let reached = reached_more legal lawful passes r.truth one r.reached (hp, hs, sym (r.words i lt)) in (
        caller_view me.0.frames now,
        keeps,
        tt,
        loads s r i id port one (Loaded i n) me.1 (caller_view me.0.frames now) (omega arith) is.0 own reached
            (own_load s r id port me.0.frames one (Loaded i n) me.0 now at who who refl own refl),
        (
          record { more = fits.seen; is_legal = r.is_legal; did = refl; who = refl },
          λ device slot' d k same. ⊎_elim
              (λ (e : n ≡ 0). subst (lawful r.truth.core.history device) (sym e) (zeros r.truth.core.history device))
              (λ (e : n ≡ slice_index r.truth.last i).
              subst (lawful r.truth.core.history device) (sym (e ∙ ap (slice_index r.truth.last) same))
              (r.each_lawful device slot' d k))
              (r.rows i lt),
          λ q who'. in_run s r port q one now (λ words. slice_index words i ≡ n) is.0 who who'
              (own_more port r.truth.steps one (Loaded i n) me.0.mine.did own is.3) reached (r.words i lt),
          refl,
        ),
      )

  -- the desk loads the counter for its guest
  pub hosts : (slots id : ℕ) (me : Sat) (p : ℕ) → me.0.is_desk ≡ true → me.0.guest.who ≡ suc p
      → Allows K slots id me counter (λ n. n) (Hosted (step slots counter 0 0 none) me)
  unfolding seeing
  hosts slots id me p is_desk who s r _ at _ =
      let n : ℕ = slice_index s.words counter in
      let fits = r.each_seat id me.0 at in
      let whole = fits.whole is_desk in
      let is = fits.guest_named.is p who in
      let lt : p < length r.truth.core.seen = omega (arith, r.callers, r.made, is.0) in
      let guest : Known = record { who = me.0.guest.who; seen = me.0.mine.seen; did = me.0.guest.did ++ Loaded counter n ∷ [] } in
      let w = with_guest me.0 guest in
      let one = loads_counter p n in
      let own = loaded_counter p n in
      let now = seeing r.truth p one in (
        w,
        keeps,
        tt,
        loads s r counter id p one (Loaded counter n) me.1 w (omega arith) is.0 own
            (reached_more legal lawful passes r.truth one r.reached (lt, r.count))
            (others now id s.views w
            (λ j u ne e. seeing_else r.truth p one (Loaded counter n) id true own is.1 j u ne (r.each_seat j u e))
            (desk_fits_as now id me.0.frames me.0.mine.seen me.0.mine.did me.0.last me.0.made guest whole.1 whole.2 whole.3
            (whole.4 ∙ stores_same r.truth.steps one refl) whole.0
            (subst (λ (l : List Event). IsPrefix l r.truth.core.history) (sym whole.1) (prefix_self r.truth.core.history))
            (named_as now id true guest p who is.0 is.1
            (get_or-set_same r.truth.core.seen p r.truth.core.history [] lt ∙ sym whole.1)
            (own_more p r.truth.steps one (Loaded counter n) me.0.guest.did own is.3)))),
        (refl, subst (IsPrefix me.0.guest.seen) (sym whole.1) fits.guest, r.count ∙ ap length (sym whole.1)),
      )
