-- What holds along every run.
-- Of `legal` and `lawful` the module below uses only that the empty history is legal and 0 always lawful.
use Rattle.std.proofs.Common.{◌≡◌, ℕ, zero, suc, ◌+◌, ◌<◌, ◌≤◌, List, [], ◌∷◌, ◌++◌, length, get_or, set, replicate, refl, sym, ap, ◌∙◌}
use Rattle.std.proofs.Common.{subst, arith, length-set, get_or-set_same, get_or-set_other}
use Rattle.std.specs.Prelude.{slice_index, slice_index_or, slice_set}
use Rattle.std.proofs.lemmas.List.{length-replicate}
use mathlib.Core.Logic.{dite}
use mathlib.Core.List.{IsPrefix}
use native.Mathlib.Decide.{ℕ_discrete}
use Rattle.dmatypes.specs.declared.reply.Event.{Event}
use Rattle.dmatypes.specs.History.{IsLegal}
use Rattle.ports.specs.Lawful.{IsLawfulAfter}
use Rattle.ports.specs.Steps.{Core, PortStep, loads_word, empties_word, stores_word, adds_event, loads_counter, empty, place_of, seen_by}
use Rattle.ports.specs.Steps.{shown_to, word_at, stepped, stepped_by, IsPortStep, IsRun, IsRunOf, AreLawful, led_to}
use Rattle.ports.proofs.runs.Reaching.{stepped_by-append}
use Rattle.ports.proofs.lists.Fronts.{prefix_self, prefix_nil, prefix_more, prefix_trans}
use Rattle.dmatypes.specs.declared.limits.TheConstants.{DEVICES}
use Rattle.ports.specs.declared.rule.TheConstants.{ROW_WORDS, SLOTS}
use Rattle.ports.proofs.histories.LawfulWords.{legal_empty, lawful_zero}

-- the history only grows
grows_one : (c : Core) (s : PortStep) → IsPrefix c.history (stepped c s).history
grows_one c (loads_word p i n) = prefix_self c.history
grows_one c (empties_word p i) = prefix_self c.history
grows_one c (stores_word d i n) = prefix_self c.history
grows_one c (adds_event e) = (e ∷ [], refl)
grows_one c (loads_counter p n) = prefix_self c.history

grows : (c : Core) (steps : List PortStep) → IsPrefix c.history (stepped_by c steps).history
grows c [] = prefix_self c.history
grows c (s ∷ ss) =
    prefix_trans c.history (stepped c s).history (stepped_by (stepped c s) ss).history (grows_one c s) (grows (stepped c s) ss)

set_front : (l : List (List Event)) (i : ℕ) (x : List Event) → IsPrefix (get_or (set l i x) i []) x
set_front [] i x = prefix_nil x
set_front (y ∷ ys) zero x = prefix_self x
set_front (y ∷ ys) (suc i) x = set_front ys i x

replicated : {A : Type 0} (x : A) (n k : ℕ) → get_or (replicate n x) k x ≡ x
replicated x zero k = refl
replicated x (suc n) zero = refl
replicated x (suc n) (suc k) = replicated x n k

module _ (legal : List Event → Type 0) (lawful : List Event → ℕ → ℕ → Type 0) (none_legal : legal [])
    (zeros : (history : List Event) (device : ℕ) → lawful history device 0) where
  -- what every step keeps
  pub record IsSoundCore (c : Core) : Type 0 where
    pub is_legal : legal c.history
    pub wide : length c.words ≡ ROW_WORDS
    pub each_lawful : AreLawful lawful c.history c.words
    pub ports : DEVICES ≤ length c.seen
    pub fronts : (p : ℕ) → IsPrefix (seen_by c p) c.history

  run_front : (c : Core) (xs ys : List PortStep) → IsRun legal lawful c (xs ++ ys) → IsRun legal lawful c xs
  run_front c [] ys r = tt
  run_front c (x ∷ xs) ys r = (r.0, run_front (stepped c x) xs ys r.1)

  run_rest : (c : Core) (xs ys : List PortStep) → IsRun legal lawful c (xs ++ ys) → IsRun legal lawful (stepped_by c xs) ys
  run_rest c [] ys r = r
  run_rest c (x ∷ xs) ys r = run_rest (stepped c x) xs ys r.1

  seen_now : (c : Core) (s : IsSoundCore c) (caller p : ℕ) → IsPrefix (slice_index_or (slice_set c.seen caller c.history) p []) c.history
  seen_now c s caller p =
      dite (ℕ_discrete p caller)
      (λ e. subst (λ (q : ℕ). IsPrefix (slice_index_or (slice_set c.seen caller c.history) q []) c.history) (sym e)
      (set_front c.seen caller c.history))
      (λ ne. subst (λ (l : List Event). IsPrefix l c.history) (sym (get_or-set_other c.seen caller p c.history [] ne)) (s.fronts p))

  sound_shown : (c : Core) (caller : ℕ) → IsSoundCore c → IsSoundCore (shown_to caller c)
  sound_shown c caller s = record {
    is_legal = s.is_legal;
    wide = s.wide;
    each_lawful = s.each_lawful;
    ports = rw (length-set c.seen caller c.history) s.ports;
    fronts = seen_now c s caller;
  }

  stored : (c : Core) (s : IsSoundCore c) (d i n : ℕ) → d < DEVICES → i < SLOTS → lawful c.history d n
      → AreLawful lawful c.history (slice_set c.words (place_of d i) n)
  stored c s d i n hd hi may d' i' hd' hi' =
      let lt : place_of d i < length c.words = rw s.wide (omega arith) in
      dite (ℕ_discrete (place_of d' i') (place_of d i))
      (λ e. let same : d ≡ d' = omega arith in
      subst (λ (x : ℕ × ℕ). lawful c.history x.0 x.1)
      (λ j. (same j, sym (ap (slice_index (slice_set c.words (place_of d i) n)) e ∙ get_or-set_same c.words (place_of d i) n 0 lt) j))
      may)
      (λ ne. subst (lawful c.history d') (sym (get_or-set_other c.words (place_of d i) (place_of d' i') n 0 ne))
      (s.each_lawful d' i' hd' hi'))

  sound_one : (c : Core) (step : PortStep) → IsSoundCore c → IsPortStep legal lawful c step → IsSoundCore (stepped c step)
  sound_one c (loads_word p i n) s may = sound_shown c p s
  sound_one c (empties_word p i) s may = record {
    is_legal = s.is_legal;
    wide = length-set c.words (place_of p i) 0 ∙ s.wide;
    each_lawful = stored c s p i 0 may.0 may.1 (zeros c.history p);
    ports = s.ports;
    fronts = s.fronts;
  }
  sound_one c (stores_word d i n) s may = record {
    is_legal = s.is_legal;
    wide = length-set c.words (place_of d i) n ∙ s.wide;
    each_lawful = stored c s d i n may.0 may.1 may.2;
    ports = s.ports;
    fronts = s.fronts;
  }
  sound_one c (adds_event e) s may = record {
    is_legal = may.0;
    wide = s.wide;
    each_lawful = may.1;
    ports = s.ports;
    fronts = λ p. prefix_more (seen_by c p) c.history (e ∷ []) (s.fronts p);
  }
  sound_one c (loads_counter p n) s may = sound_shown c p s

  pub sound : (c : Core) (steps : List PortStep) → IsSoundCore c → IsRun legal lawful c steps → IsSoundCore (stepped_by c steps)
  sound c [] s r = s
  sound c (x ∷ xs) s r = sound (stepped c x) xs (sound_one c x s r.0) r.1

  pub sound_empty : (passes : ℕ) → IsSoundCore (empty passes)
  sound_empty passes = record {
    is_legal = none_legal;
    wide = refl;
    each_lawful = λ d i _ _. subst (lawful [] d) (sym (replicated 0 ROW_WORDS (place_of d i))) (zeros [] d);
    ports = rw (length-replicate {A = List Event} (DEVICES + passes) []) (omega arith);
    fronts = λ p. subst (λ (l : List Event). IsPrefix l []) (sym (replicated [] (DEVICES + passes) p)) (prefix_self []);
  }

module _ (frames passes : ℕ) where
  abbrev legal : List Event → Type 0
  legal = IsLegal frames

  abbrev lawful : List Event → ℕ → ℕ → Type 0
  lawful = IsLawfulAfter frames

  abbrev IsSound : Core → Type 0
  IsSound = IsSoundCore legal lawful (legal_empty frames) (lawful_zero frames)

  sound_start : IsSound (empty passes)
  sound_start = sound_empty legal lawful (legal_empty frames) (lawful_zero frames) passes

  -- the state after a front of a run
  at_front : (front rest : List PortStep) → IsRunOf frames passes (front ++ rest) → IsSound (led_to passes front)
  at_front front rest r =
      sound legal lawful (legal_empty frames) (lawful_zero frames) (empty passes) front sound_start
      (run_front legal lawful (legal_empty frames) (lawful_zero frames) (empty passes) front rest r)

  pub last_legal : (steps : List PortStep) → IsRunOf frames passes steps → IsLegal frames (led_to passes steps).history
  last_legal steps r = (sound legal lawful (legal_empty frames) (lawful_zero frames) (empty passes) steps sound_start r).is_legal

  pub seen_begins : (front rest : List PortStep) (caller : ℕ) → IsRunOf frames passes (front ++ rest)
      → IsPrefix (seen_by (led_to passes front) caller) (led_to passes (front ++ rest)).history
  seen_begins front rest caller r =
      prefix_trans (seen_by (led_to passes front) caller) (led_to passes front).history (led_to passes (front ++ rest)).history
      ((at_front front rest r).fronts caller)
      (subst (λ (c : Core). IsPrefix (led_to passes front).history c.history) (sym (stepped_by-append (empty passes) front rest))
      (grows (led_to passes front) rest))

  -- the load is a step of the state that the front leads to
  load_of : (front rest : List PortStep) (port slot word : ℕ) → IsRunOf frames passes (front ++ loads_word port slot word ∷ rest)
      → (port < DEVICES) × (slot < SLOTS) × (word ≡ word_at (led_to passes front) port slot)
  load_of front rest port slot word r =
      let all = run_rest legal lawful (legal_empty frames) (lawful_zero frames) (empty passes) front (loads_word port slot word ∷ rest) r in
      all.0

  pub load_lawful : (front rest : List PortStep) (port slot word : ℕ) → IsRunOf frames passes (front ++ loads_word port slot word ∷ rest)
      → IsLawfulAfter frames (led_to passes front).history port word
  load_lawful front rest port slot word r =
      let may = load_of front rest port slot word r in
      let s = at_front front (loads_word port slot word ∷ rest) r in
      subst (lawful (led_to passes front).history port) (sym may.2) (s.each_lawful port slot may.0 may.1)

  pub load_learns : (front rest : List PortStep) (port slot word : ℕ) → IsRunOf frames passes (front ++ loads_word port slot word ∷ rest)
      → seen_by (led_to passes (front ++ loads_word port slot word ∷ [])) port ≡ (led_to passes front).history
  load_learns front rest port slot word r =
      let may = load_of front rest port slot word r in
      let s = at_front front (loads_word port slot word ∷ rest) r in
      let c : Core = led_to passes front in
      let lt : port < length c.seen = omega (arith, s.ports, may.0) in
      ap (λ (d : Core). seen_by d port) (stepped_by-append (empty passes) front (loads_word port slot word ∷ []))
      ∙ get_or-set_same c.seen port c.history [] lt

  pub later_longer : (front between : List PortStep) (one : PortStep)
      → IsPrefix (led_to passes front).history (led_to passes (front ++ one ∷ between)).history
  later_longer front between one =
      subst (λ (c : Core). IsPrefix (led_to passes front).history c.history)
      (sym (stepped_by-append (empty passes) front (one ∷ between))) (grows (led_to passes front) (one ∷ between))
