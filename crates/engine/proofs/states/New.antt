-- A new state is one of the empty world.
use Rattle.std.proofs.Common.{map, ◌≡◌, ℕ, zero, suc, ◌+◌, ◌*◌, ◌<◌, ◌≤◌, ⊎_elim, inl, inr, List, [], ◌∷◌, ◌++◌, length, length-append}
use Rattle.std.proofs.Common.{Bool, Option, Some, None, refl, sym, ap, subst, ◌∙◌, arith, replicate, slice_get}
use Rattle.std.proofs.lemmas.Bool.{cases_lt}
use Rattle.dmatypes.specs.World.{World, IsIn, empty}
use Rattle.dmatypes.specs.declared.width.Width.{Width}
use Rattle.queue.specs.Ring.{Ring, ring_of}
use Rattle.unit.specs.Caches.{Caches, UnitState, nothing, unit_state}
use Rattle.vtdbits.specs.declared.context.ContextEntry.TheVariants.{Absent, Present}
use Rattle.std.proofs.lemmas.Option.{none-some}
use Rattle.tables.specs.Pool.{memory, occurs}
use Rattle.tables.specs.Tree.{sum_below}
use Rattle.tables.proofs.pools.FreeList.{counted_up, counted_past, zero_words}
use Rattle.tables.proofs.sums.Firsts.{sum_below-none}
use Rattle.std.specs.Option.{option_flatten}
use Rattle.engine.specs.Tickets.{AreDifferent, Follow, KeepsTickets, pairs_of}
use Rattle.engine.specs.Domains.{Domain, domain_at}
use Rattle.engine.specs.State.{IsNew, State}
use Rattle.engine.specs.Whole.{IsWhole}
use Rattle.engine.specs.Quarantine.{AreLawfulCaches, Quarantine, owned, ticket_there}
use Rattle.vtdbits.specs.Context.{attached}
use Rattle.engine.proofs.domains.OneChanged.{domain_of_place}
use Rattle.dmatypes.specs.declared.limits.TheConstants.{DEVICES, MOST_DOMAINS}
use Rattle.tables.specs.declared.entries.TheConstants.{TABLE_ENTRIES}

-- a list of no domains
abbrev none_there : ℕ → List (Option Domain)
none_there n = replicate n None

none_in : (n i : ℕ) → option_flatten (slice_get (none_there n) i) ≡ None
none_in zero i = refl
none_in (suc n) zero = refl
none_in (suc n) (suc i) = none_in n i

not_there : (n : ℕ) (h : Domain) → IsIn (Some h) (none_there n) → ⊥
not_there zero h inside = inside
not_there (suc n) h (inl same) = cc
not_there (suc n) h (inr rest) = not_there n h rest

no_domain : (domains : List (Option Domain)) (d : ℕ) → domains ≡ replicate MOST_DOMAINS None → domain_at domains d ≡ None
no_domain domains zero is = refl
no_domain domains (suc i) is = let next : suc i ≡ i + 1 = omega arith in rw (next, domain_of_place domains i, is) (none_in MOST_DOMAINS i)

no_device_in : (n v : ℕ) → attached (slice_get (replicate n Absent) v) ≡ None
no_device_in zero v = refl
no_device_in (suc n) zero = refl
no_device_in (suc n) (suc v) = no_device_in n v

no_entry_in : (n v root domain : ℕ) (width : Width) → slice_get (replicate n Absent) v ≡ Some (Present root width domain) → ⊥
no_entry_in zero v root domain width at = absurd cc
no_entry_in (suc n) zero root domain width at = cc
no_entry_in (suc n) (suc v) root domain width at = no_entry_in n v root domain width at

-- nothing is remembered
nothing_cached : (m : State) (w : World) (c : Caches) → c ≡ nothing → AreLawfulCaches m w c
nothing_cached m w c is = rw is (record { leaves = λ l inside. absurd inside; tables = λ i inside. absurd inside })

pub of_empty_world : (m : State) (frames : ℕ) (caching : Bool) → IsNew frames caching m → Quarantine m (empty frames)
of_empty_world m frames caching new = record {
  table_frames = sym new.frames_are;
  domains = λ d. rw (no_domain m.domains d new.domains_are) tt;
  caches = nothing_cached m (empty frames) m.iommu.unit.caches (ap (λ (u : UnitState). u.caches) new.unit_is);
  faults = λ f inside. let none = subst (λ (u : UnitState). IsIn f u.caches.faults) new.unit_is inside in absurd none;
  contexts = record {
    devices = λ v. sym (ap (λ row. attached (slice_get row v)) new.contexts_are ∙ no_device_in DEVICES v);
    roots = λ v root domain width at. absurd (no_entry_in DEVICES v root domain width
        (ap (λ row. slice_get row v) (sym new.contexts_are) ∙ at));
    cached = λ x inside. let none = subst (λ (u : UnitState). IsIn x u.caches.contexts) new.unit_is inside in absurd none;
  };
  frames = record {
    once = λ f less. omega (arith, none f, new.free f (omega (arith, less, new.frames_are)));
    past = λ f past. omega (arith, none f, new.past f (omega (arith, past, new.frames_are)));
    zeroed =
        λ f some.
        ⊎_elim (λ (low : f < frames). new.zeroed f low) (λ (high : frames ≤ f). absurd (omega (arith, some, new.past f high)))
        (cases_lt f frames);
    held = λ d f h there some. absurd (none-some h (sym (no_domain m.domains d new.domains_are) ∙ there));
  };
  tickets = sym (ap (map ticket_there) new.tickets_are);
} where
  none : (f : ℕ) → sum_below (λ d. owned (memory m.pool.words) (domain_at m.domains d) f) (MOST_DOMAINS + 1) ≡ 0
  none f =
      sum_below-none (λ d. owned (memory m.pool.words) (domain_at m.domains d) f) (MOST_DOMAINS + 1)
      (λ d less. ap (λ (o : Option Domain). owned (memory m.pool.words) o f) (no_domain m.domains d new.domains_are))

-- no ticket is open
no_tickets : (m : State) (frames : ℕ) (caching : Bool) → IsNew frames caching m → KeepsTickets m
unfolding pairs_of Follow AreDifferent
no_tickets m frames caching new = record {
  done = [];
  half = [];
  ahead = [];
  reached = 0;
  split = new.tickets_are;
  one = omega arith;
  ring = ap (λ (r : Ring). r.waiting) new.ring_is;
  status = ap (λ (r : Ring). r.status) new.ring_is;
  sent = sym new.sent_is;
  past = λ t none. absurd none;
  clear = λ t none. absurd none;
  different = subst AreDifferent (sym new.tickets_are) tt;
  begun = λ t inside. absurd (subst (IsIn t) new.tickets_are inside);
  few = let none = ap length new.tickets_are in omega (arith, none);
}

pub whole_new : (m : State) (frames : ℕ) (caching : Bool) → IsNew frames caching m → IsWhole frames m
whole_new m frames caching new = record {
  of_world = (empty frames, of_empty_world m frames caching new);
  places = ap length new.domains_are;
  devices = ap length new.contexts_are;
  frames_are = sym new.frames_are;
  tickets = no_tickets m frames caching new;
  sent = omega (arith, new.sent_is);
  steps = (
      let zero_steps : m.iommu.unit.steps ≡ 0 = ap (λ (u : UnitState). u.steps) new.unit_is in
      let none = ap (λ (r : Ring). length r.waiting) new.ring_is in
      omega (arith, zero_steps, none)
      );
  begun = λ h inside. absurd (not_there MOST_DOMAINS h (subst (λ ds. IsIn (Some h) ds) new.domains_are inside));
  made = λ h inside. absurd (not_there MOST_DOMAINS h (subst (λ ds. IsIn (Some h) ds) new.domains_are inside));
}

-- ---- there is a new state of each size and either mode

-- the frames below a number, from the first on
frames_up : ℕ → List ℕ
frames_up zero = []
frames_up (suc n) = frames_up n ++ n ∷ []

past : (n f : ℕ) → n ≤ f → occurs f (frames_up n) ≡ 0
unfolding frames_up
past zero f high = refl
past (suc n) f high = counted_past (frames_up n) n (past n) f (omega (arith, high))

below : (n f : ℕ) → f < n → occurs f (frames_up n) ≡ 1
unfolding frames_up
below zero f low = absurd (omega (arith, low))
below (suc n) f low = counted_up (frames_up n) n (below n) (past n) f (omega (arith, low))

many : (n : ℕ) → length (frames_up n) ≡ n
unfolding frames_up
many zero = refl
many (suc n) = omega (arith, length-append (frames_up n) (n ∷ []), many n)

pub new_state : ℕ → Bool → State
new_state frames caching = record {
  pool = record { words = replicate (frames * TABLE_ENTRIES) 0; free = frames_up frames; frames = frames; trail = [] };
  domains = replicate MOST_DOMAINS None;
  iommu = record {
    contexts = replicate DEVICES Absent;
    ring = ring_of [] 0 [];
    unit = unit_state nothing 0 0 caching;
    sent = 0;
    shown = None;
  };
  tickets = [];
  calls = 0;
}

pub new_is_new : (frames : ℕ) (caching : Bool) → IsNew frames caching (new_state frames caching)
unfolding new_state
new_is_new frames caching = record {
  frames_are = refl;
  free = below frames;
  past = past frames;
  count = many frames;
  zeroed = λ f low k small. zero_words (replicate (frames * TABLE_ENTRIES) 0) frames refl f k low small;
  domains_are = refl;
  contexts_are = refl;
  ring_is = refl;
  unit_is = refl;
  sent_is = refl;
  shown_is = refl;
  tickets_are = refl;
  calls_are = refl;
}
