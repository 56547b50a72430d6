-- Stores and the addition of an event keep the rule.
-- Of `legal` and `lawful` these proofs use only that the empty history is legal and 0 always lawful.
use Rattle.std.proofs.Common.{◌≡◌, ◌≢◌, ◌⊎◌, ℕ, suc, ◌+◌, ◌%◌, ◌^◌, ◌<◌, ◌≤◌, false, true, List, [], ◌∷◌, ◌++◌, length, set, refl, sym, ap}
use Rattle.std.proofs.Common.{◌∙◌, subst, inl, inr, ⊎_elim, arith, length-set, length-append, get_or-set_same, get_or-set_other}
use Rattle.std.specs.Prelude.{slice_index, slice_set}
use mathlib.Core.Option.{none, some}
use mathlib.Core.Logic.{dite}
use mathlib.Core.List.{IsPrefix}
use native.Mathlib.Decide.{ℕ_discrete}
use lib.ListN.{get_elem?}
use Rattle.atomic_table.specs.Table.{step, keeps, stepped as table_after, Allows}
use Rattle.dmatypes.specs.declared.reply.Event.{Event}
use Rattle.ports.specs.declared.known.OwnStep.TheVariants.{Stored}
use Rattle.ports.specs.declared.known.Known.{Known}
use Rattle.ports.specs.declared.known.View.{View}
use Rattle.ports.specs.Steps.{PortStep, empties_word, stores_word, adds_event, counter, place_of, own_steps, AreLawful}
use Rattle.ports.specs.Rule.{caller_view, desk_view, Truth, Fits, Table, Sat, FollowsRule, IsReached, Emptied, Filled, Appended}
use Rattle.ports.proofs.lists.Fronts.{prefix_self, prefix_trans}
use Rattle.ports.proofs.runs.OwnSteps.{emptied_word, own_more, own_same, stores_more, stores_same}
use Rattle.ports.proofs.runs.Reaching.{reached_more, with_step}
use Rattle.dmatypes.specs.declared.limits.TheConstants.{CALLS_END, DEVICES}
use Rattle.ports.specs.declared.rule.TheConstants.{COUNTER, ROW_WORDS, SLOTS}
use Rattle.ports.proofs.steps.Views.{Stays, apart, caller_fits, desk_fits_as, fits_stays, named_as, named_stays, desk_else, others}

module _ (legal : List Event → Type 0) (lawful : List Event → ℕ → ℕ → Type 0) (none_legal : legal [])
    (zeros : (log : List Event) (device : ℕ) → lawful log device 0) (passes : ℕ) where
  abbrev K : Table → Type 0
  K s = FollowsRule legal lawful passes s

  -- the word at a place becomes n, which is 0 or the last word that the desk stored there
  stores : (s : Table) (r : K s) (device slot n id : ℕ) (c : List (ℕ × Unit {0})) (w : View) (last : List ℕ) (steps : List PortStep)
      (t : Truth) → device < DEVICES → slot < SLOTS
      → t ≡ record {
        steps = steps;
        core =
            record {
              history = r.truth.core.history;
              words = slice_set r.truth.core.words (place_of device slot) n;
              seen = r.truth.core.seen;
            };
        last = last;
        desk = r.truth.desk;
        made = r.truth.made;
        place = r.truth.place;
      }
      → (n ≡ 0) ⊎ (n ≡ slice_index last (place_of device slot))
      → ((k : ℕ) → k ≢ place_of device slot → slice_index last k ≡ slice_index r.truth.last k)
      → AreLawful lawful r.truth.core.history last → IsReached legal lawful passes t
      → ((p : ℕ) → r.truth.made ≤ p → own_steps p steps ≡ own_steps p r.truth.steps)
      → ((j : ℕ) (v : View) → get_elem? (set s.views id w) j ≡ some v → Fits t j v)
      → K (table_after s (place_of device slot) n id c w keeps)
  stores s r device slot n id c w last steps t hd hs is here there lawfuls reached newer fits =
      let i : ℕ = place_of device slot in
      let now : Truth =
      record {
        steps = steps;
        core = record { history = r.truth.core.history; words = slice_set r.truth.core.words i n; seen = r.truth.core.seen };
        last = last;
        desk = r.truth.desk;
        made = r.truth.made;
        place = r.truth.place;
      } in
      let lt : i < ROW_WORDS = omega arith in
      let lt' : i < length s.words = rw r.wide (omega arith) in
      let lt'' : i < length r.truth.core.words = rw r.core_wide lt in
      let ne : counter ≢ i = omega arith in
      record {
        truth = now;
        reached = subst (λ (x : Truth). IsReached legal lawful passes x) is reached;
        wide = length-set s.words i n ∙ r.wide;
        count = get_or-set_other s.words i COUNTER n 0 ne ∙ r.count;
        is_legal = r.is_legal;
        core_wide = length-set r.truth.core.words i n ∙ r.core_wide;
        words = λ k h. dite (ℕ_discrete k i)
            (λ e. ap (slice_index (slice_set r.truth.core.words i n)) e ∙ get_or-set_same r.truth.core.words i n 0 lt''
            ∙ sym (ap (slice_index (slice_set s.words i n)) e ∙ get_or-set_same s.words i n 0 lt'))
            (λ e. get_or-set_other r.truth.core.words i k n 0 e ∙ r.words k h ∙ sym (get_or-set_other s.words i k n 0 e));
        rows = λ k h. dite (ℕ_discrete k i)
            (λ e. let same : slice_index (slice_set s.words i n) k ≡ n = ap (slice_index (slice_set s.words i n)) e
            ∙ get_or-set_same s.words i n 0 lt' in
            ⊎_elim (λ (z : n ≡ 0). inl (same ∙ z)) (λ (z : n ≡ slice_index last i). inr (same ∙ z ∙ ap (slice_index last) (sym e))) here)
            (λ e. let same : slice_index (slice_set s.words i n) k ≡ slice_index s.words k = get_or-set_other s.words i k n 0 e in
            ⊎_elim (λ (z : slice_index s.words k ≡ 0). inl (same ∙ z))
            (λ (z : slice_index s.words k ≡ slice_index r.truth.last k). inr (same ∙ z ∙ sym (there k e))) (r.rows k h));
        each_lawful = lawfuls;
        callers = r.callers;
        made = r.made;
        fresh = λ p h. ((r.fresh p h).0, newer p h ∙ (r.fresh p h).1);
        each_seat = λ j v e. subst (λ (x : Truth). Fits x j v) is (fits j v e);
      }

  -- a port stores 0 in its row
  pub empties : (slots id : ℕ) (me : Sat) (port slot : ℕ) → port < DEVICES → slot < SLOTS → me.0.mine.who ≡ suc port
      → Allows K slots id me (place_of port slot) (λ _. 0) (λ _. Emptied (step slots (place_of port slot) 0 0 none) me 0)
  unfolding Stays
  empties slots id me port slot hp hs who s r _ at _ =
      let i : ℕ = place_of port slot in
      let now : Known = record { who = me.0.mine.who; seen = me.0.mine.seen; did = me.0.mine.did ++ Stored i 0 ∷ [] } in
      let one = empties_word port slot in
      let own = emptied_word port slot in
      let t : Truth = with_step r.truth one in
      let fits = r.each_seat id me.0 at in
      let is = fits.mine_named.is port who in (
        caller_view me.0.frames now,
        keeps,
        tt,
        stores s r port slot 0 id me.1 (caller_view me.0.frames now) r.truth.last t.steps t hp hs refl (inl refl) (λ k _. refl)
            r.each_lawful (reached_more legal lawful passes r.truth one r.reached (hp, hs))
            (λ q h. own_same q r.truth.steps one (own.others q (λ e. absurd (omega arith))))
            (others t id s.views (caller_view me.0.frames now)
            (λ j v ne e.
            fits_stays r.truth t j v (prefix_self r.truth.core.history) (omega arith)
            (λ _. (refl, refl, refl, refl, stores_same r.truth.steps one refl))
            (λ q side _ x. (refl, refl, own_same q r.truth.steps one (own.others q (apart r.truth q port j id side false x is.1 ne))))
            (r.each_seat j v e))
            (caller_fits t id me.0.frames now fits.seen
            (named_as t id false now port who is.0 is.1 is.2 (own_more port r.truth.steps one (Stored i 0) me.0.mine.did own is.3)))),
        refl,
      )

  -- the desk stores a lawful word in a row
  pub fills : (slots id : ℕ) (me : Sat) (device slot n : ℕ) → device < DEVICES → slot < SLOTS → me.0.is_desk ≡ true
      → length me.0.last ≡ ROW_WORDS
      → lawful me.0.mine.seen device n
      → Allows K slots id me (place_of device slot) (λ _. n) (λ _. Filled (step slots (place_of device slot) n 0 none) me n)
  unfolding Stays
  fills slots id me device slot n d k is long may s r _ at _ =
      let i : ℕ = place_of device slot in
      let lt : i < ROW_WORDS = omega arith in
      let fits = r.each_seat id me.0 at in
      let whole = fits.whole is in
      let lt' : i < length r.truth.last = rw (sym (ap length whole.2), long) lt in
      let last = slice_set r.truth.last i n in
      let did = me.0.mine.did ++ Stored i n ∷ [] in
      let w = desk_view me.0.frames me.0.mine.seen did (slice_set me.0.last i n) me.0.made me.0.guest in
      let may' : lawful r.truth.core.history device n = subst (λ (l : List Event). lawful l device n) whole.1 may in
      let one = stores_word device slot n in
      let t : Truth = with_step r.truth one in
      let same = λ (q : ℕ). own_same q r.truth.steps one refl in (
        w,
        keeps,
        tt,
        stores s r device slot n id me.1 w last t.steps t d k refl (inr (sym (get_or-set_same r.truth.last i n 0 lt')))
            (λ j ne. get_or-set_other r.truth.last i j n 0 ne)
            (λ device' slot' d' k'. dite (ℕ_discrete (place_of device' slot') i)
            (λ e. let same : device ≡ device' = omega arith in
            subst (λ (x : ℕ × ℕ). lawful r.truth.core.history x.0 x.1)
            (λ j. (same j, sym (ap (slice_index last) e ∙ get_or-set_same r.truth.last i n 0 lt') j)) may')
            (λ e. subst (lawful r.truth.core.history device')
            (sym (get_or-set_other r.truth.last i (place_of device' slot') n 0 e)) (r.each_lawful device' slot' d' k')))
            (reached_more legal lawful passes r.truth one r.reached (d, k, may'))
            (λ q _. same q)
            (others t id s.views w
            (λ j v ne e.
            desk_else r.truth t id whole.0 (prefix_self r.truth.core.history) (omega arith) j (λ q side _ x. (refl, refl, same q)) v ne
            (r.each_seat j v e))
            (desk_fits_as t id me.0.frames me.0.mine.seen did (slice_set me.0.last i n) me.0.made me.0.guest whole.1
            (ap (λ (l : List ℕ). slice_set l i n) whole.2) whole.3
            (stores_more r.truth.steps one (Stored i n) me.0.mine.did refl whole.4) whole.0 fits.guest
            (named_stays r.truth t id true me.0.guest (omega arith) (λ q side _ x. (refl, refl, same q)) fits.guest_named))),
        refl,
      )

  -- every word is lawful where every last one is
  words_lawful : (s : Table) (r : K s) (log : List Event) → AreLawful lawful log r.truth.last → AreLawful lawful log r.truth.core.words
  words_lawful s r log all device slot d k =
      let i : ℕ = place_of device slot in
      let lt : i < ROW_WORDS = omega arith in
      subst (lawful log device) (sym (r.words i lt))
      (⊎_elim (λ (e : slice_index s.words i ≡ 0). subst (lawful log device) (sym e) (zeros log device))
      (λ (e : slice_index s.words i ≡ slice_index r.truth.last i). subst (lawful log device) (sym e) (all device slot d k)) (r.rows i lt))

  -- the desk appends an event
  pub appends : (slots id : ℕ) (me : Sat) (event : Event) → me.0.is_desk ≡ true → length me.0.mine.seen < CALLS_END
      → legal (me.0.mine.seen ++ event ∷ []) → AreLawful lawful (me.0.mine.seen ++ event ∷ []) me.0.last
      → Allows K slots id me counter (λ n. (n + 1) % 2 ^ 64) (Appended event (step slots counter 1 0 none) me)
  unfolding Stays
  appends slots id me event is room may lawfuls s r _ at _ =
      let n : ℕ = slice_index s.words counter in
      let fits = r.each_seat id me.0 at in
      let whole = fits.whole is in
      let log = r.truth.core.history ++ event ∷ [] in
      let now : me.0.mine.seen ++ event ∷ [] ≡ log = ap (λ (l : List Event). l ++ event ∷ []) whole.1 in
      let one = adds_event event in
      let t : Truth = with_step r.truth one in
      let same = λ (q : ℕ). own_same q r.truth.steps one refl in
      let w = desk_view me.0.frames (me.0.mine.seen ++ event ∷ []) me.0.mine.did me.0.last me.0.made me.0.guest in
      let wide : counter < length s.words = rw r.wide (omega arith) in
      let room' : length r.truth.core.history < CALLS_END = subst (λ (l : List Event). length l < CALLS_END) whole.1 room in
      let count = r.count in
      let more : (n + 1) % 18446744073709551616 ≡ length log = omega (arith, length-append r.truth.core.history (event ∷ [])) in
      let may' : legal log = subst legal now may in
      let lawfuls' : AreLawful lawful log r.truth.last =
      subst (λ (x : List Event × List ℕ). AreLawful lawful x.0 x.1) (λ j. (now j, whole.2 j)) lawfuls in
      let pre : IsPrefix r.truth.core.history log = (event ∷ [], refl) in (
        w,
        keeps,
        tt,
        record {
          truth = t;
          reached = reached_more legal lawful passes r.truth one r.reached (may', words_lawful s r log lawfuls');
          wide = length-set s.words counter ((n + 1) % 2 ^ 64) ∙ r.wide;
          count = get_or-set_same s.words counter ((n + 1) % 2 ^ 64) 0 wide ∙ more;
          is_legal = may';
          core_wide = r.core_wide;
          words = λ k h. let ne : k ≢ counter =
              omega arith in r.words k h ∙ sym (get_or-set_other s.words counter k ((n + 1) % 2 ^ 64) 0 ne);
          rows = λ k h. let ne : k ≢ counter = omega arith in
              let was : slice_index (slice_set s.words counter ((n + 1) % 2 ^ 64)) k ≡ slice_index s.words k =
              get_or-set_other s.words counter k ((n + 1) % 2 ^ 64) 0 ne in
              ⊎_elim (λ (z : slice_index s.words k ≡ 0). inl (was ∙ z))
              (λ (z : slice_index s.words k ≡ slice_index r.truth.last k). inr (was ∙ z)) (r.rows k h);
          each_lawful = lawfuls';
          callers = r.callers;
          made = r.made;
          fresh = λ p h. ((r.fresh p h).0, same p ∙ (r.fresh p h).1);
          each_seat =
              others t id s.views w
              (λ j v ne e. desk_else r.truth t id whole.0 pre (omega arith) j (λ q side _ x. (refl, refl, same q)) v ne (r.each_seat j v e))
              (desk_fits_as t id me.0.frames (me.0.mine.seen ++ event ∷ []) me.0.mine.did me.0.last me.0.made me.0.guest now whole.2 whole.3
              (whole.4 ∙ stores_same r.truth.steps one refl) whole.0
              (prefix_trans me.0.guest.seen r.truth.core.history log fits.guest pre)
              (named_stays r.truth t id true me.0.guest (omega arith) (λ q side _ x. (refl, refl, same q)) fits.guest_named));
        },
        refl,
      )
