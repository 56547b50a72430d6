-- Which domains have devices, and which tickets are open.
use Rattle.std.proofs.Common.{◌≡◌, ℕ, Bool, true, false, List, [], ◌∷◌, Some, cond, sym, ap, ◌∙◌}
use Rattle.std.specs.Prelude.{◌==◌}
use Rattle.std.specs.Bool.{Decides}
use Rattle.std.specs.BTreeMap as tree
use Rattle.std.specs.BTreeMap.{BTreeMap, is_at}
use Rattle.std.specs.Cmp.{nat_cmp_total}
use Rattle.std.specs.List.{list_any}
use Rattle.std.specs.Map.{lookup, values_of}
use Rattle.std.specs.Ordering.{nat_cmp}
use Rattle.std.proofs.lemmas.Bool.{and_parts, and_from, eq-eqb, eqb-true, or_left, or_right}
use Rattle.std.proofs.lemmas.Map.Entries.{btree_map_get_place}
use Rattle.std.proofs.lemmas.Option.{same_Some}
use Rattle.dmatypes.specs.World.{Ticket, is_ticket}
use Rattle.checker.proofs.lists.Members.{any_in, in_map, place_of}

pub same_ticket : (a b : Ticket) → Decides (is_ticket a b) (a ≡ b)
same_ticket a b = (
  λ e.
      let both = and_parts (a.domain == b.domain) (a.number == b.number) e in
      let d = eqb-true a.domain b.domain both.0 in
      let n = eqb-true a.number b.number both.1 in
      λ i. record { domain = d i; number = n i },
  λ e.
      and_from (a.domain == b.domain) (a.number == b.number) (eq-eqb a.domain b.domain (ap (λ (t : Ticket). t.domain) e))
      (eq-eqb a.number b.number (ap (λ (t : Ticket). t.number) e)),
)

pub attached_by : (m : BTreeMap ℕ ℕ) (d : ℕ) → tree.IsOrdered nat_cmp m → list_any (λ x. x == d) (tree.values m) ≡ true
    → (k : ℕ) × (tree.get nat_cmp m k ≡ Some d)
attached_by m d ordered e =
    let found = any_in (λ x. x == d) (tree.values m) e in
    let entry = in_map (λ (e : ℕ × ℕ). e.1) found.0 m.entries found.1 in
    let place = place_of entry.0 m.entries entry.1 in
    let value : entry.0.1 ≡ d = sym entry.2 ∙ eqb-true found.0 d found.2 in
    (entry.0.0, btree_map_get_place nat_cmp_total m place.0 entry.0.0 entry.0.1 ordered place.1 ∙ ap Some value)

by_entry : (test : ℕ → Bool) (k v d : ℕ) (es : List (ℕ × ℕ)) (b : Bool) → (lookup test es ≡ Some d
    → list_any (λ x. x == d) (values_of es) ≡ true)
    → cond b (Some v) (lookup test es) ≡ Some d → list_any (λ x. x == d) (values_of ((k, v) ∷ es)) ≡ true
by_entry test k v d es true later e = or_left (v == d) (list_any (λ x. x == d) (values_of es)) (eq-eqb v d (same_Some v d e))
by_entry test k v d es false later e = or_right (v == d) (list_any (λ x. x == d) (values_of es)) (later e)

value_of : (test : ℕ → Bool) (d : ℕ) (es : List (ℕ × ℕ)) → lookup test es ≡ Some d → list_any (λ x. x == d) (values_of es) ≡ true
value_of test d [] e = absurd cc
value_of test d (e ∷ es) h = by_entry test e.0 e.1 d es (test e.0) (value_of test d es) h

pub to_attached : (m : BTreeMap ℕ ℕ) (d k : ℕ) → tree.get nat_cmp m k ≡ Some d → list_any (λ x. x == d) (tree.values m) ≡ true
to_attached m d k e = value_of (is_at (nat_cmp k)) d m.entries e
