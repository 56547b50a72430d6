-- What a call finds at the place of a domain's id, and the state once something was put back there.
use Rattle.std.proofs.Common.{◌≡◌, ℕ, ◌+◌, ◌<◌, ◌∙◌, List, Option, Some, get_or, length, refl, sym, ap, subst, arith, slice_get, slice_set}
use Rattle.std.proofs.lemmas.Option.{slice_get_read}
use Rattle.dmatypes.specs.declared.call.Call.{Call}
use Rattle.dmatypes.specs.declared.limits.TheConstants.{MOST_DOMAINS}
use Rattle.dmatypes.specs.declared.reply.Reply.{Reply}
use Rattle.engine.specs.Domains.{Domain, domain_at}
use Rattle.engine.specs.State.{State}
use Rattle.engine.specs.Steps.{Does}
use Rattle.engine.specs.Whole.{HasRooms, IsWhole}
use Rattle.engine.proofs.domains.OneChanged.{at_place, rooms_stay}
use Rattle.engine.proofs.lists.Places.{set_again}
use Rattle.engine.proofs.states.Refused.{counted, whole_quiet}

-- this stands at the place of the id
pub record Finds (m : State) (domain i : ℕ) (o : Option Domain) : Type 0 where
  pub id : domain ≡ i + 1
  pub less : i < length m.domains
  pub at : slice_get m.domains i ≡ Some o
  pub there : domain_at m.domains domain ≡ o

-- what is read at the place of an id is found there
pub finds : {frames domain id i : ℕ} {m : State} {read o : Option Domain} → IsWhole frames m → id ≡ domain → id ≡ i + 1
    → i < MOST_DOMAINS → read ≡ get_or m.domains i read → read ≡ o → Finds m domain i o
finds {frames} {domain} {id} {i} {m} {read} {o} whole value place low reads same =
    let less : i < length m.domains = omega (arith, whole.places, low) in
    let at : slice_get m.domains i ≡ Some o = slice_get_read m.domains (length m.domains) i read refl less reads ∙ ap Some same in
    record { id = sym value ∙ place; less = less; at = at; there = at_place m.domains domain i o (sym value ∙ place) at }

module _ {m : State} {domain i : ℕ} where
  -- the state with what it found put back is the one that counted the call
  pub put_back : {o : Option Domain} → Finds m domain i o → record m { domains = slice_set m.domains i o; calls = m.calls + 1 } ≡ counted m
  put_back {o} found =
      ap (λ (ds : List (Option Domain)). record m { domains = ds; calls = m.calls + 1 }) (set_again m.domains i o found.at)

  -- what the type of a state keeps then
  pub keeps_found : {rooms capacity : ℕ} {o : Option Domain} {call : Call} {reply : Reply}
      → IsWhole m.pool.frames m × HasRooms rooms capacity m.domains → Finds m domain i o
      → Does m call reply (record m { domains = slice_set m.domains i o; calls = m.calls + 1 })
      → IsWhole m.pool.frames (record m { domains = slice_set m.domains i o; calls = m.calls + 1 })
      × HasRooms rooms capacity (slice_set m.domains i o)
  keeps_found {rooms} {capacity} {o} {call} {reply} keeps found does = (
    whole_quiet m (record m { domains = slice_set m.domains i o; calls = m.calls + 1 }) call reply keeps.0 does
        (ap length (set_again m.domains i o found.at)) refl refl refl refl,
    subst (HasRooms rooms capacity) (sym (set_again m.domains i o found.at)) keeps.1,
  )

  -- another domain that is put there leaves the rooms as they are
  pub keeps_rooms : {rooms capacity : ℕ} {h : Domain} → Finds m domain i (Some h) → (new : Domain) → HasRooms rooms capacity m.domains
      → HasRooms rooms capacity (slice_set m.domains i (Some new))
  keeps_rooms {rooms} {capacity} {h} found new has = rooms_stay rooms capacity i m.domains h new found.at has
