-- Callers take seats, visit the desk and leave it; the table at the start. All keep the rule.
-- Of `legal` and `lawful` these proofs use only that the empty history is legal and 0 always lawful.
use Rattle.std.proofs.Common.{◌≡◌, ◌≢◌, ℕ, zero, suc, ◌+◌, ◌<◌, Bool, true, false, List, [], ◌∷◌, ◌++◌, length, get_or, set, replicate}
use Rattle.std.proofs.Common.{refl, sym, ap, ◌∙◌, subst, inl, ⊎_elim, arith}
use Rattle.std.proofs.lemmas.List.{length-replicate}
use mathlib.Core.Option.{some, some-injective, some-ne-none}
use lib.ListN.{get_elem?}
use Rattle.atomic_table.specs.Table.{opening, Splits, Joins}
use Rattle.atomic_table.proofs.Lists.{at_set}
use Rattle.dmatypes.specs.declared.reply.Event.{Event}
use Rattle.ports.specs.declared.known.Known.{Known}
use Rattle.ports.specs.declared.known.View.{View}
use Rattle.ports.specs.Steps.{empty, own_steps, place_of, seen_by}
use Rattle.ports.specs.Rule.{nobody, newcomer, left_seat, caller_view, made_desk, with_guest, one_more, Truth, IsNamed, Fits, Table}
use Rattle.ports.specs.Rule.{FollowsRule}
use Rattle.ports.proofs.lists.Fronts.{prefix_self, prefix_nil}
use Rattle.ports.proofs.steps.Views.{Stays, nobody_named, named_as, named_stays, caller_fits, left_seat_fits, desk_fits, desk_fits_as}
use Rattle.dmatypes.specs.declared.limits.TheConstants.{DEVICES}
use Rattle.ports.specs.declared.rule.TheConstants.{ROW_WORDS, WORDS}
use Rattle.ports.proofs.steps.Views.{desk_else, others, snoc_fits, placing, placing_else, put_at, put_here, put_else}

module _ (legal : List Event → Type 0) (lawful : List Event → ℕ → ℕ → Type 0) (none_legal : legal [])
    (zeros : (log : List Event) (device : ℕ) → lawful log device 0) (passes : ℕ) where
  abbrev K : Table → Type 0
  K s = FollowsRule legal lawful passes s

  -- views change, and who sits where
  shown : (s : Table) (r : K s) (p : ℕ) (x : ℕ × Bool) (views : List View)
      → ((j : ℕ) (v : View) → get_elem? views j ≡ some v → Fits (placing r.truth p x) j v)
      → K (record { words = s.words; homes = s.homes; views = views })
  unfolding placing
  shown s r p x views fits = record {
    truth = placing r.truth p x;
    reached = record { is_run = r.reached.is_run; leads = r.reached.leads; last = r.reached.last };
    wide = r.wide;
    count = r.count;
    is_legal = r.is_legal;
    core_wide = r.core_wide;
    words = r.words;
    rows = r.rows;
    each_lawful = r.each_lawful;
    callers = r.callers;
    made = r.made;
    fresh = r.fresh;
    each_seat = fits;
  }

  -- the caller p has a new place
  placed_as : (t : Truth) (p : ℕ) (j : ℕ) (b : Bool) (known : Known) → known.who ≡ suc p → p < t.made → seen_by t.core p ≡ known.seen
      → own_steps p t.steps ≡ known.did → IsNamed (placing t p (j, b)) j b known
  unfolding placing
  placed_as t p j b known who lt seen did = named_as (placing t p (j, b)) j b known p who lt (put_here t.place p (j, b)) seen did

  -- a caller leaves its seat for a new one
  pub leaves : (id : ℕ) (v : View) (p : ℕ) → v.mine.who ≡ suc p → Splits K id v left_seat (caller_view v.frames v.mine)
  unfolding placing
  leaves id v p who s r at =
      let fits = r.each_seat id v at in
      let is = fits.mine_named.is p who in
      let left = set s.views id left_seat in
      let x : ℕ × Bool = (length left, false) in
      shown s r p x (left ++ caller_view v.frames v.mine ∷ [])
      (snoc_fits (placing r.truth p x) left (caller_view v.frames v.mine)
      (others (placing r.truth p x) id s.views left_seat (λ j u ne e. placing_else r.truth p id false x is.1 j u ne (r.each_seat j u e))
      (left_seat_fits (placing r.truth p x) id))
      (caller_fits (placing r.truth p x) (length left) v.frames v.mine fits.seen
      (placed_as r.truth p (length left) false v.mine who is.0 is.2 is.3)))

  -- a caller comes to the desk as its guest
  pub visits : (id : ℕ) (v : View) (other : ℕ) (w : View) (p : ℕ) → v.is_desk ≡ true → w.mine.who ≡ suc p
      → Joins K id v other w (with_guest v w.mine) left_seat
  unfolding placing
  visits id v other w p is_desk who s r at apart there =
      let theirs : get_elem? s.views other ≡ some w =
      ⊎_elim (λ (t : (other ≡ id) × (with_guest v w.mine ≡ w)). absurd (apart t.0))
      (λ (t : (other ≢ id) × (get_elem? s.views other ≡ some w)). t.1) (at_set s.views id other (with_guest v w.mine) w there) in
      let fits = r.each_seat other w theirs in
      let whole = (r.each_seat id v at).whole is_desk in
      let is = fits.mine_named.is p who in
      let x : ℕ × Bool = (id, true) in
      let t = placing r.truth p x in
      let desk =
      desk_fits_as t id v.frames v.mine.seen v.mine.did v.last v.made w.mine whole.1 whole.2 whole.3 whole.4 whole.0 fits.seen
      (placed_as r.truth p id true w.mine who is.0 is.2 is.3) in
      shown s r p x (set (set s.views id (with_guest v w.mine)) other left_seat)
      (others t other (set s.views id (with_guest v w.mine)) left_seat
      (λ j u ne e. ⊎_elim
      (λ (y : (j ≡ id) × (with_guest v w.mine ≡ u)). subst (λ (z : ℕ × View). Fits t z.0 z.1) (λ i. (sym y.0 i, y.1 i)) desk)
      (λ (y : (j ≢ id) × (get_elem? s.views j ≡ some u)). placing_else r.truth p other false x is.1 j u ne (r.each_seat j u y.1))
      (at_set s.views id j (with_guest v w.mine) u e))
      (left_seat_fits t other))

  -- the guest goes to a seat
  pub goes : (id : ℕ) (v : View) (p : ℕ) → v.is_desk ≡ true → v.guest.who ≡ suc p
      → Splits K id v (with_guest v nobody) (caller_view v.frames v.guest)
  unfolding placing
  goes id v p is_desk who s r at =
      let fits = r.each_seat id v at in
      let whole = fits.whole is_desk in
      let is = fits.guest_named.is p who in
      let left = set s.views id (with_guest v nobody) in
      let x : ℕ × Bool = (length left, false) in
      let t = placing r.truth p x in
      shown s r p x (left ++ caller_view v.frames v.guest ∷ [])
      (snoc_fits t left (caller_view v.frames v.guest)
      (others t id s.views (with_guest v nobody) (λ j u ne e. placing_else r.truth p id true x is.1 j u ne (r.each_seat j u e))
      (desk_fits_as t id v.frames v.mine.seen v.mine.did v.last v.made nobody whole.1 whole.2 whole.3 whole.4 whole.0
      (prefix_nil r.truth.core.history) (nobody_named t id true)))
      (caller_fits t (length left) v.frames v.guest fits.guest (placed_as r.truth p (length left) false v.guest who is.0 is.2 is.3)))

  -- the desk makes a caller
  pub comes : (id : ℕ) (v : View) → v.is_desk ≡ true → v.made < DEVICES + passes
      → Splits K id v (one_more v) (caller_view v.frames (newcomer v.made))
  unfolding Stays
  comes id v is_desk room s r at =
      let fits = r.each_seat id v at in
      let whole = fits.whole is_desk in
      let left = set s.views id (one_more v) in
      let x : ℕ × Bool = (length left, false) in
      let made = whole.3 in
      let t : Truth =
      record {
        steps = r.truth.steps;
        core = r.truth.core;
        last = r.truth.last;
        desk = r.truth.desk;
        made = suc r.truth.made;
        place = put_at r.truth.place r.truth.made x;
      } in
      record {
        truth = t;
        reached = record { is_run = r.reached.is_run; leads = r.reached.leads; last = r.reached.last };
        wide = r.wide;
        count = r.count;
        is_legal = r.is_legal;
        core_wide = r.core_wide;
        words = r.words;
        rows = r.rows;
        each_lawful = r.each_lawful;
        callers = r.callers;
        made = omega arith;
        fresh = λ q h. r.fresh q (omega arith);
        each_seat = snoc_fits t left (caller_view v.frames (newcomer v.made))
            (others t id s.views (one_more v)
            (λ j u ne e.
            desk_else r.truth t id whole.0 (prefix_self r.truth.core.history) (omega arith) j
            (λ q side lt y. (put_else r.truth.place r.truth.made x q (λ z. absurd (omega arith)), refl, refl)) u ne (r.each_seat j u e))
            (desk_fits_as t id v.frames v.mine.seen v.mine.did v.last (suc v.made) v.guest whole.1 whole.2 (ap suc whole.3) whole.4
            whole.0 fits.guest
            (named_stays r.truth t id true v.guest (omega arith)
            (λ q side lt y. (put_else r.truth.place r.truth.made x q (λ z. absurd (omega arith)), refl, refl)) fits.guest_named)))
            (caller_fits t (length left) v.frames (newcomer v.made) (prefix_nil r.truth.core.history)
            (named_as t (length left) false (newcomer v.made) r.truth.made (ap suc whole.3) (omega arith)
            (put_here r.truth.place r.truth.made x) (r.fresh r.truth.made (omega arith)).0 (r.fresh r.truth.made (omega arith)).1));
      }

  -- the table at the start
  pub opens : (frames : ℕ) → K (opening (replicate WORDS 0) [] (made_desk frames 0))
  opens frames = record {
    truth = record { steps = []; core = empty passes; last = replicate ROW_WORDS 0; desk = 0; made = 0; place = λ _. (0, false) };
    reached = record { is_run = tt; leads = refl; last = refl };
    wide = refl;
    count = refl;
    is_legal = none_legal;
    core_wide = refl;
    words = λ k h. replicated 0 ROW_WORDS k ∙ sym (replicated 0 WORDS k);
    rows = λ k h. inl (replicated 0 WORDS k);
    each_lawful = λ device slot _ _. subst (lawful [] device) (sym (replicated 0 ROW_WORDS (place_of device slot))) (zeros [] device);
    callers = length-replicate {A = List Event} (DEVICES + passes) [];
    made = omega arith;
    fresh = λ p _. (replicated [] (DEVICES + passes) p, refl);
    each_seat = first;
  }
    where
      replicated : {A : Type 0} (x : A) (n k : ℕ) → get_or (replicate n x) k x ≡ x
      replicated x zero k = refl
      replicated x (suc n) zero = refl
      replicated x (suc n) (suc k) = replicated x n k

      start : Truth
      start = record { steps = []; core = empty passes; last = replicate ROW_WORDS 0; desk = 0; made = 0; place = λ _. (0, false) }

      first : (j : ℕ) (v : View) → get_elem? (made_desk frames 0 ∷ []) j ≡ some v → Fits start j v
      first zero v e =
          subst (Fits start 0) (some-injective (made_desk frames 0) v e)
          (desk_fits start 0 frames nobody refl (prefix_nil []) (nobody_named start 0 true))
      first (suc j) v e = absurd (some-ne-none v (sym e))
