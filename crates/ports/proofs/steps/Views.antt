-- What stays true of the views of all seats when one of them changes.
use Rattle.std.proofs.Common.{◌≡◌, ◌≢◌, ◌⊎◌, ℕ, zero, suc, ◌<◌, ◌≤◌, Bool, true, false, true≢false, cond, eqb, List, [], ◌∷◌, ◌++◌, length}
use Rattle.std.proofs.Common.{get_or, set, refl, sym, ap, ◌∙◌, subst, inl, inr, ⊎_elim, arith, get_or-set_same, get_or-set_other, eq-eqb}
use Rattle.std.proofs.Common.{ne_eqb}
use mathlib.Core.Option.{some, some-injective, some-ne-none}
use mathlib.Core.Logic.{dite}
use mathlib.Core.List.{IsPrefix}
use native.Mathlib.Decide.{ℕ_discrete}
use lib.ListN.{get_elem?}
use Rattle.atomic_table.proofs.Lists.{at_set}
use Rattle.dmatypes.specs.declared.reply.Event.{Event}
use Rattle.ports.specs.declared.known.Known.{Known}
use Rattle.ports.specs.declared.known.View.{View}
use Rattle.ports.specs.declared.known.OwnStep.{OwnStep}
use Rattle.ports.specs.Steps.{PortStep, desk_stores, own_steps, seen_by, shown_to}
use Rattle.ports.specs.Rule.{nobody, left_seat, caller_view, desk_view, Truth, IsNamed, Fits}
use Rattle.ports.proofs.lists.Fronts.{prefix_self, prefix_nil, prefix_trans}
use Rattle.ports.proofs.runs.OwnSteps.{IsOwn, own_same, stores_same}

off : {X : Type 0} → false ≡ true → X
off e = absurd (true≢false (sym e))

at_snoc : {A : Type 0} (l : List A) (a b : A) (j : ℕ) → get_elem? (l ++ a ∷ []) j ≡ some b
    → (get_elem? l j ≡ some b) ⊎ ((j ≡ length l) × (a ≡ b))
at_snoc [] a b zero e = inr (refl, some-injective a b e)
at_snoc [] a b (suc j) e = absurd (some-ne-none b (sym e))
at_snoc (x ∷ xs) a b zero e = inl e
at_snoc (x ∷ xs) a b (suc j) e = ⊎_elim (λ h. inl h) (λ h. inr (ap suc h.0, h.1)) (at_snoc xs a b j e)

unfoldable pub put_at : (ℕ → ℕ × Bool) → ℕ → ℕ × Bool → ℕ → ℕ × Bool
put_at place p x q = cond (eqb q p) x (place q)

pub put_here : (place : ℕ → ℕ × Bool) (p : ℕ) (x : ℕ × Bool) → put_at place p x p ≡ x
unfolding put_at
put_here place p x = rw (eq-eqb p p refl)

pub put_else : (place : ℕ → ℕ × Bool) (p : ℕ) (x : ℕ × Bool) (q : ℕ) → q ≢ p → put_at place p x q ≡ place q
unfolding put_at
put_else place p x q ne = rw (ne_eqb q p ne)

pub nobody_named : (t : Truth) (j : ℕ) (as_guest : Bool) → IsNamed t j as_guest nobody
nobody_named t j g = record { is = λ p e. absurd (omega arith) }

pub named_as : (t : Truth) (j : ℕ) (as_guest : Bool) (known : Known) (p : ℕ) → known.who ≡ suc p → p < t.made → t.place p ≡ (j, as_guest)
    → seen_by t.core p ≡ known.seen → own_steps p t.steps ≡ known.did → IsNamed t j as_guest known
named_as t j g known p who lt at seen did = record {
  is = λ q e. let same : p ≡ q = omega arith in
      subst (λ (x : ℕ). (x < t.made) × (t.place x ≡ (j, g)) × (seen_by t.core x ≡ known.seen) × (own_steps x t.steps ≡ known.did)) same
      (lt, at, seen, did);
}

pub caller_fits : (t : Truth) (j frames : ℕ) (known : Known) → IsPrefix known.seen t.core.history → IsNamed t j false known
    → Fits t j (caller_view frames known)
caller_fits t j frames known pre named =
    record { seen = pre; guest = prefix_nil t.core.history; whole = λ e. off e; mine_named = named; guest_named = nobody_named t j true }

pub left_seat_fits : (t : Truth) (j : ℕ) → Fits t j left_seat
left_seat_fits t j = caller_fits t j 0 nobody (prefix_nil t.core.history) (nobody_named t j false)

pub desk_fits : (t : Truth) (j frames : ℕ) (guest : Known) → j ≡ t.desk → IsPrefix guest.seen t.core.history → IsNamed t j true guest
    → Fits t j (desk_view frames t.core.history (desk_stores t.steps) t.last t.made guest)
desk_fits t j frames guest at pre named = record {
  seen = prefix_self t.core.history;
  guest = pre;
  whole = λ _. (at, refl, refl, refl, refl);
  mine_named = record { is = λ p e. absurd (omega arith) };
  guest_named = named;
}

-- the same, where the desk's view is known to be this
pub desk_fits_as : (t : Truth) (j frames : ℕ) (log : List Event) (did : List OwnStep) (last : List ℕ) (made : ℕ) (guest : Known)
    → log ≡ t.core.history → last ≡ t.last → made ≡ t.made → did ≡ desk_stores t.steps
    → j ≡ t.desk → IsPrefix guest.seen t.core.history → IsNamed t j true guest → Fits t j (desk_view frames log did last made guest)
desk_fits_as t j frames log did last made guest a b c d at pre named =
    subst (λ (x : List Event × List OwnStep × List ℕ × ℕ). Fits t j (desk_view frames x.0 x.1 x.2 x.3 guest))
    (λ i. (sym a i, sym d i, sym b i, sym c i))
    (desk_fits t j frames guest at pre named)

-- what the callers at the seat k know stays true
unfoldable pub Stays : Truth → Truth → ℕ → Type 0
Stays t t' k = (q : ℕ) (as_guest : Bool) → q < t.made → t.place q ≡ (k, as_guest)
    → (t'.place q ≡ t.place q) × (seen_by t'.core q ≡ seen_by t.core q) × (own_steps q t'.steps ≡ own_steps q t.steps)

pub named_stays : (t t' : Truth) (k : ℕ) (as_guest : Bool) (known : Known) → t.made ≤ t'.made → Stays t t' k → IsNamed t k as_guest known
    → IsNamed t' k as_guest known
unfolding Stays
named_stays t t' k g known more same n =
    record { is = λ p e. let x = n.is p e in let y = same p g x.0 x.1 in (omega arith, y.0 ∙ x.1, y.1 ∙ x.2, y.2 ∙ x.3) }

pub fits_stays : (t t' : Truth) (k : ℕ) (v : View) → IsPrefix t.core.history t'.core.history → t.made ≤ t'.made
    → (k ≡ t.desk → (t.desk ≡ t'.desk) × (t.core.history ≡ t'.core.history) × (t.last ≡ t'.last) × (t.made ≡ t'.made)
    × (desk_stores t.steps ≡ desk_stores t'.steps)) → Stays t t' k
    → Fits t k v → Fits t' k v
fits_stays t t' k v pre more keep same f = record {
  seen = prefix_trans v.mine.seen t.core.history t'.core.history f.seen pre;
  guest = prefix_trans v.guest.seen t.core.history t'.core.history f.guest pre;
  whole = λ e. let w = f.whole e in let d = keep w.0 in (w.0 ∙ d.0, w.1 ∙ d.1, w.2 ∙ d.2, w.3 ∙ d.3, w.4 ∙ d.4);
  mine_named = named_stays t t' k false v.mine more same f.mine_named;
  guest_named = named_stays t t' k true v.guest more same f.guest_named;
}

-- where the desk moves, the others stay
pub desk_else : (t t' : Truth) (id : ℕ) → id ≡ t.desk → IsPrefix t.core.history t'.core.history → t.made ≤ t'.made → (j : ℕ) → Stays t t' j
    → (v : View) → j ≢ id → Fits t j v → Fits t' j v
desk_else t t' id at pre more j same v ne f = fits_stays t t' j v pre more (λ e. absurd (ne (e ∙ sym at))) same f

pub others : (t : Truth) (id : ℕ) (views : List View) (w : View) → ((j : ℕ) (v : View) → j ≢ id → get_elem? views j ≡ some v → Fits t j v)
    → Fits t id w
    → (j : ℕ) (v : View) → get_elem? (set views id w) j ≡ some v → Fits t j v
others t id views w rest mine j v e =
    ⊎_elim
    (λ (x : (j ≡ id) × (w ≡ v)). subst (λ (y : ℕ × View). Fits t y.0 y.1) (λ i. (sym x.0 i, x.1 i)) mine)
    (λ (x : (j ≢ id) × (get_elem? views j ≡ some v)). rest j v x.0 x.1)
    (at_set views id j w v e)

-- one more view
pub snoc_fits : (t : Truth) (views : List View) (w : View) → ((j : ℕ) (v : View) → get_elem? views j ≡ some v → Fits t j v)
    → Fits t (length views) w
    → (j : ℕ) (v : View) → get_elem? (views ++ w ∷ []) j ≡ some v → Fits t j v
snoc_fits t views w all new j v e =
    ⊎_elim (λ was. all j v was)
    (λ (x : (j ≡ length views) × (w ≡ v)). subst (λ (y : ℕ × View). Fits t y.0 y.1) (λ i. (sym x.0 i, x.1 i)) new)
    (at_snoc views w v j e)

pub set_same : (ws : List ℕ) (i : ℕ) → i < length ws → (k : ℕ) → get_or (set ws i (get_or ws i 0)) k 0 ≡ get_or ws k 0
set_same ws i lt k = dite (ℕ_discrete k i)
    (λ e. rw e (get_or-set_same ws i (get_or ws i 0) 0 lt))
    (λ ne. get_or-set_other ws i k (get_or ws i 0) 0 ne)

-- two callers at two seats are two
pub apart : (t : Truth) (q p j id : ℕ) (a b : Bool) → t.place q ≡ (j, a) → t.place p ≡ (id, b) → j ≢ id → q ≢ p
apart t q p j id a b x y ne e = ne (ap (λ (z : ℕ × Bool). z.0) (sym x ∙ ap t.place e ∙ y))

-- a caller sees the history, by a load
unfoldable pub seeing : Truth → ℕ → PortStep → Truth
seeing t p s =
    record { steps = t.steps ++ s ∷ []; core = shown_to p t.core; last = t.last; desk = t.desk; made = t.made; place = t.place }

pub seeing_else : (t : Truth) (p : ℕ) (s : PortStep) (step : OwnStep) (id : ℕ) (b : Bool) → IsOwn p s step → t.place p ≡ (id, b)
    → (j : ℕ) (v : View) → j ≢ id → Fits t j v → Fits (seeing t p s) j v
unfolding seeing Stays
seeing_else t p s step id b own at j v ne f =
    fits_stays t (seeing t p s) j v (prefix_self t.core.history) (omega arith)
    (λ _. (refl, refl, refl, refl, stores_same t.steps s own.not_desk))
    (λ q side _ x. let two = apart t q p j id side b x at ne in
    (refl, get_or-set_other t.core.seen p q t.core.history [] two, own_same q t.steps s (own.others q two))) f

-- a caller takes another place
unfoldable pub placing : Truth → ℕ → ℕ × Bool → Truth
placing t p x = record { steps = t.steps; core = t.core; last = t.last; desk = t.desk; made = t.made; place = put_at t.place p x }

pub placing_else : (t : Truth) (p id : ℕ) (b : Bool) (x : ℕ × Bool) → t.place p ≡ (id, b) → (j : ℕ) (v : View) → j ≢ id → Fits t j v
    → Fits (placing t p x) j v
unfolding placing Stays
placing_else t p id b x at j v ne f =
    fits_stays t (placing t p x) j v (prefix_self t.core.history) (omega arith) (λ _. (refl, refl, refl, refl, refl))
    (λ q side _ y. (put_else t.place p x q (apart t q p j id side b y at ne), refl, refl)) f
