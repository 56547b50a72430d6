-- The unit works off what waits, a descriptor and a wait, and what was ended may then be released.
use Rattle.std.proofs.Common.{◌≡◌, ◌≢◌, ℕ, ◌+◌, ◌-◌, ◌%◌, ◌^◌, ◌<◌, ◌≤◌, inl, inr, List, [], ◌∷◌, ◌++◌, length, reverse, take, refl}
use Rattle.std.proofs.Common.{sym, ap, ap₂, subst}
use Rattle.std.proofs.Common.{Option, ◌∙◌, append_assoc, arith}
use Rattle.std.proofs.lemmas.List.{append-nil, length-append, reverse-append, take-take}
use Rattle.std.specs.Prelude.{Result, Ok, Err, IsErr, OnOk}
use Rattle.queue.specs.Ring.{Ring, ring_of, with_last}
use Rattle.engine.specs.declared.record.Record.{Record}
use Rattle.unit.specs.Caches.{Caches, UnitState, unit_state}
use Rattle.unit.specs.Filters.{after_first, done_after, left_by, left_by_first, status_after}
use Rattle.vtdbits.specs.declared.descriptor.Descriptor.{Descriptor}
use Rattle.vtdbits.specs.declared.descriptor.Descriptor.TheVariants.{IotlbDomain, Wait}
use Rattle.engine.specs.declared.iommu.Iommu.{Iommu}
use Rattle.engine.specs.declared.iommu.Shown.{Shown}
use Rattle.engine.specs.Domains.{AreMadeBefore}
use Rattle.engine.specs.Ending.{Invalidates, IsSent, left_by_all, status_of}
use Rattle.engine.specs.Ready.{AreInvalidated, Covers, IsDone, NoneWrites}
use Rattle.queue.specs.declared.ring.TheConstants.Ring.{CAPACITY}

-- ---- descriptors, one after the other

-- the status that they leave
abbrev pub status_after_all : List Descriptor → ℕ → ℕ
status_after_all [] status = status
status_after_all (d ∷ ds) status = status_after_all ds (status_after d status)

status_push : (ds : List Descriptor) (d : Descriptor) (status : ℕ)
    → status_after_all (ds ++ d ∷ []) status ≡ status_after d (status_after_all ds status)
status_push [] d status = refl
status_push (x ∷ xs) d status = status_push xs d (status_after x status)

left_push : (ds : List Descriptor) (d : Descriptor) (c : Caches) → left_by_all (ds ++ d ∷ []) c ≡ left_by d (left_by_all ds c)
unfolding left_by_all
left_push [] d c = refl
left_push (x ∷ xs) d c = left_push xs d (left_by x c)

-- where none of them leaves a status, it isn't there that wasn't before
not_written : (status : ℕ) (ds : List Descriptor) (old : ℕ) → NoneWrites status ds → status_after_all ds old ≡ status → old ≡ status
unfolding NoneWrites
not_written status [] old none is = is
not_written status (d ∷ ds) old none is = none.0 old (not_written status ds (status_after d old) none.1 is)

left_none : (unit : UnitState) → unit ≡ unit_state (left_by_all [] unit.caches) unit.steps unit.done unit.caching
unfolding left_by_all
left_none unit = refl

-- nor does a front of them
front_writes_none : (status : ℕ) (ran rest : List Descriptor) → NoneWrites status (ran ++ rest) → NoneWrites status ran
unfolding NoneWrites
front_writes_none status [] rest none = tt
front_writes_none status (d ∷ ds) rest none = (none.0, front_writes_none status ds rest none.1)

-- one more that leaves the status as it is
none_push : (status : ℕ) (ds : List Descriptor) (d : Descriptor) → NoneWrites status ds → ((old : ℕ) → status_after d old ≡ old)
    → NoneWrites status (ds ++ d ∷ [])
unfolding NoneWrites
none_push status [] d none quiet = (λ old is. sym (quiet old) ∙ is, tt)
none_push status (x ∷ xs) d none quiet = (none.0, none_push status xs d none.1 quiet)

abbrev first_or : Descriptor → List Descriptor → Descriptor
first_or d [] = d
first_or d (x ∷ xs) = x

abbrev without_first : List Descriptor → List Descriptor
without_first [] = []
without_first (x ∷ xs) = xs

-- a front that isn't all of a list is a front of it without its last
all_but_last : (ran front : List Descriptor) (x last : Descriptor) (xs : List Descriptor) → front ++ last ∷ [] ≡ ran ++ x ∷ xs
    → (more : List Descriptor) × (front ≡ ran ++ more)
all_but_last [] front x last xs is = (front, refl)
all_but_last (d ∷ ds) [] x last xs is =
    let counted = ap length is in absurd (omega (arith, counted, length-append ds (x ∷ xs)))
all_but_last (d ∷ ds) (e ∷ es) x last xs is =
    let more = all_but_last ds es x last xs (ap without_first is) in
    (more.0, ap₂ (λ (h : Descriptor) (t : List Descriptor). h ∷ t) (ap (first_or d) is) more.1)

-- ---- a step

-- of these descriptors, which wait in a ring of this status, some were taken and done, one after the other, and the rest
-- waits
pub record IsStage (ds : List Descriptor) (status : ℕ) (taken : List Descriptor) (old : UnitState) (ring : Ring) (unit : UnitState)
    : Type 0 where
  pub ran : List Descriptor
  pub rest : List Descriptor
  pub parts : ds ≡ ran ++ rest
  pub ring_is : ring ≡ ring_of rest (status_after_all ran status) (reverse ran ++ taken)
  pub unit_is : unit ≡ unit_state (left_by_all ran old.caches) (old.steps + length ran) (old.done + length ran) old.caching

-- where the status isn't there yet that the last of them writes, something waits
something_waits : (front : List Descriptor) (n status : ℕ) (ran rest : List Descriptor) → front ++ Wait n ∷ [] ≡ ran ++ rest
    → status_after_all ran status ≢ n → rest ≡ [] → ⊥
something_waits front n status ran rest parts other none =
    other (ap (λ ds. status_after_all ds status) (sym (append-nil ran) ∙ ap (λ ds. ran ++ ds) (sym none) ∙ sym parts)
    ∙ status_push front (Wait n) status)

did_first : (ds : List Descriptor) (status : ℕ) (taken : List Descriptor) (old : UnitState) (ring ring' : Ring) (unit unit' : UnitState)
    (ran rest : List Descriptor) → ds ≡ ran ++ rest → ring ≡ ring_of rest (status_after_all ran status) (reverse ran ++ taken)
    → unit ≡ unit_state (left_by_all ran old.caches) (old.steps + length ran) (old.done + length ran) old.caching → (rest ≡ [] → ⊥)
    → ring' ≡ after_first ring.waiting ring.status ring.taken
    → unit' ≡ unit_state (left_by_first ring.waiting unit.caches) (unit.steps + 1) (done_after ring.waiting unit.done) unit.caching
    → IsStage ds status taken old ring' unit' × (length ring'.waiting < length ring.waiting)
did_first ds status taken old ring ring' unit unit' ran [] parts r u some r' u' = absurd (some refl)
did_first ds status taken old ring ring' unit unit' ran (x ∷ xs) parts r u some r' u' =
    let waiting : ring.waiting ≡ x ∷ xs = ap (λ (q : Ring). q.waiting) r in
    let counted : length (ran ++ x ∷ []) ≡ length ran + 1 = length-append ran (x ∷ []) in
    let now : ring' ≡ ring_of xs (status_after x (status_after_all ran status)) (x ∷ reverse ran ++ taken) =
    r' ∙ ap (λ (q : Ring). after_first q.waiting q.status q.taken) r in
    let then : unit' ≡ unit_state (left_by x (left_by_all ran old.caches)) (old.steps + length ran + 1) (old.done + length ran + 1)
    old.caching =
    u' ∙ ap₂ (λ ws (y : UnitState). unit_state (left_by_first ws y.caches) (y.steps + 1) (done_after ws y.done) y.caching) waiting u in
    let steps : old.steps + length ran + 1 ≡ old.steps + length (ran ++ x ∷ []) = omega (arith, counted) in
    let done : old.done + length ran + 1 ≡ old.done + length (ran ++ x ∷ []) = omega (arith, counted) in (
      record {
        ran = ran ++ x ∷ [];
        rest = xs;
        parts = parts ∙ sym (append_assoc ran (x ∷ []) xs);
        ring_is =
            now
            ∙ ap₂ (ring_of xs) (sym (status_push ran x status)) (ap (λ ts. ts ++ taken) (sym (reverse-append ran (x ∷ []))));
        unit_is =
            then
            ∙ ap (λ c. unit_state c (old.steps + length ran + 1) (old.done + length ran + 1) old.caching) (sym (left_push ran x old.caches))
            ∙ ap₂ (λ n k. unit_state (left_by_all (ran ++ x ∷ []) old.caches) n k old.caching) steps done;
      },
      (let less = ap (λ (q : Ring). length q.waiting) now in
          let was = ap (λ (ws : List Descriptor). length ws) waiting in omega (arith, less, was)),
    )

-- a step goes from one stage to the next, and fewer wait
pub next_stage : (front : List Descriptor) (n status : ℕ) (taken : List Descriptor) (old : UnitState) (ring ring' : Ring)
    (unit unit' : UnitState) → IsStage (front ++ Wait n ∷ []) status taken old ring unit → ring.status ≢ n
    → ring' ≡ after_first ring.waiting ring.status ring.taken
    → unit' ≡ unit_state (left_by_first ring.waiting unit.caches) (unit.steps + 1) (done_after ring.waiting unit.done) unit.caching
    → IsStage (front ++ Wait n ∷ []) status taken old ring' unit' × (length ring'.waiting < length ring.waiting)
next_stage front n status taken old ring ring' unit unit' stage other r u =
    did_first (front ++ Wait n ∷ []) status taken old ring ring' unit unit' stage.ran stage.rest stage.parts stage.ring_is stage.unit_is
    (something_waits front n status stage.ran stage.rest stage.parts
    (λ is. other (ap (λ (q : Ring). q.status) stage.ring_is ∙ is))) r u

some_length : (ds : List Descriptor) → (ds ≡ [] → ⊥) → 0 < length ds
some_length [] some = absurd (some refl)
some_length (d ∷ ds) some = omega arith

-- fewer steps were made than there are descriptors
pub few_steps : (front : List Descriptor) (n status : ℕ) (taken : List Descriptor) (old : UnitState) (ring : Ring) (unit : UnitState)
    → IsStage (front ++ Wait n ∷ []) status taken old ring unit → ring.status ≢ n → unit.steps < old.steps + (length front + 1)
few_steps front n status taken old ring unit stage other =
    let counted : length front + 1 ≡ length stage.ran + length stage.rest =
    sym (length-append front (Wait n ∷ [])) ∙ ap length stage.parts ∙ length-append stage.ran stage.rest in
    let steps : unit.steps ≡ old.steps + length stage.ran = ap (λ (x : UnitState). x.steps) stage.unit_is in
    omega (
      arith,
      counted,
      steps,
      some_length stage.rest (something_waits front n status stage.ran stage.rest stage.parts
          (λ is. other (ap (λ (q : Ring). q.status) stage.ring_is ∙ is))),
    )

by_rest : (waiting : List Descriptor) (d : Descriptor) (n status : ℕ) (taken : List Descriptor) (old : UnitState) (ring : Ring)
    (unit : UnitState) (ran rest : List Descriptor) → NoneWrites n waiting → ((k : ℕ) → status_after d k ≡ k) → status ≢ n
    → (waiting ++ d ∷ []) ++ Wait n ∷ [] ≡ ran ++ rest → ring ≡ ring_of rest (status_after_all ran status) (reverse ran ++ taken)
    → unit ≡ unit_state (left_by_all ran old.caches) (old.steps + length ran) (old.done + length ran) old.caching → ring.status ≡ n
    → (ring ≡ ring_of [] n (reverse (waiting ++ d ∷ Wait n ∷ []) ++ taken))
    × (unit ≡ unit_state (left_by_all (waiting ++ d ∷ Wait n ∷ []) old.caches)
    (old.steps + (length waiting + 2)) (old.done + (length waiting + 2)) old.caching)
by_rest waiting d n status taken old ring unit ran [] none quiet fresh parts r u is =
    let all : ran ≡ waiting ++ d ∷ Wait n ∷ [] = sym (append-nil ran) ∙ sym parts ∙ append_assoc waiting (d ∷ []) (Wait n ∷ []) in
    let counted : length ran ≡ length waiting + 2 = ap length all ∙ length-append waiting (d ∷ Wait n ∷ []) in
    let at : status_after_all ran status ≡ n = sym (ap (λ (q : Ring). q.status) r) ∙ is in (
      r ∙ ap₂ (λ k ds. ring_of [] k (reverse ds ++ taken)) at all,
      u ∙ ap₂ (λ ds m. unit_state (left_by_all ds old.caches) (old.steps + m) (old.done + m) old.caching) all counted,
    )
by_rest waiting d n status taken old ring unit ran (x ∷ xs) none quiet fresh parts r u is =
    let more = all_but_last ran (waiting ++ d ∷ []) x (Wait n) xs parts in
    let silent = front_writes_none n ran more.0 (subst (NoneWrites n) more.1 (none_push n waiting d none quiet)) in
    absurd (fresh (not_written n ran status silent (sym (ap (λ (q : Ring). q.status) r) ∙ is)))

-- once its status is there, the wait was the last that was done, and nothing waits
pub last_stage : (waiting : List Descriptor) (d : Descriptor) (n status : ℕ) (taken : List Descriptor) (old : UnitState) (ring : Ring)
    (unit : UnitState) → NoneWrites n waiting → ((k : ℕ) → status_after d k ≡ k) → status ≢ n
    → IsStage ((waiting ++ d ∷ []) ++ Wait n ∷ []) status taken old ring unit → ring.status ≡ n
    → (ring ≡ ring_of [] n (reverse (waiting ++ d ∷ Wait n ∷ []) ++ taken))
    × (unit ≡ unit_state (left_by_all (waiting ++ d ∷ Wait n ∷ []) old.caches)
    (old.steps + (length waiting + 2)) (old.done + (length waiting + 2)) old.caching)
last_stage waiting d n status taken old ring unit none quiet fresh stage is =
    by_rest waiting d n status taken old ring unit stage.ran stage.rest none quiet fresh stage.parts stage.ring_is stage.unit_is is

-- what was submitted where there was room
pub submitted : {A E : Type 0} {P : Type 0} (r : Result A E) (n : ℕ) → (IsErr r → n ≡ CAPACITY) → n < CAPACITY → OnOk r P → P
submitted (Ok a) n full less ok = ok
submitted (Err e) n full less ok = absurd (omega (arith, less, full refl))

-- of what was taken before, as much as the page still holds once these were taken too
abbrev pub taken_before : List Descriptor → Descriptor → ℕ → List Descriptor → List Descriptor
taken_before waiting d n taken = take (CAPACITY + 1 - length (waiting ++ d ∷ Wait n ∷ [])) taken

-- both were submitted behind what waited, and nothing was taken yet
pub first_stage : (d : Descriptor) (n : ℕ) (old ring ring' : Ring) (unit : UnitState) → length old.waiting + 2 ≤ CAPACITY
    → ring ≡ with_last d old → ring' ≡ with_last (Wait n) ring
    → IsStage ((old.waiting ++ d ∷ []) ++ Wait n ∷ []) old.status (taken_before old.waiting d n old.taken) unit ring' unit
first_stage d n old ring ring' unit room one two =
    let counted : length (old.waiting ++ d ∷ []) ≡ length old.waiting + 1 = length-append old.waiting (d ∷ []) in
    let all : length (old.waiting ++ d ∷ Wait n ∷ []) ≡ length old.waiting + 2 = length-append old.waiting (d ∷ Wait n ∷ []) in
    let both : ring' ≡ ring_of ((old.waiting ++ d ∷ []) ++ Wait n ∷ []) old.status
    (take (CAPACITY - length (old.waiting ++ d ∷ [])) (take (CAPACITY - length old.waiting) old.taken)) =
    two ∙ ap (λ (q : Ring). with_last (Wait n) q) one in
    let less : CAPACITY - length (old.waiting ++ d ∷ []) ≤ CAPACITY - length old.waiting = omega (arith, counted) in
    let same : CAPACITY - length (old.waiting ++ d ∷ []) ≡ CAPACITY + 1 - length (old.waiting ++ d ∷ Wait n ∷ []) =
    omega (arith, counted, all, room) in
    record {
      ran = [];
      rest = (old.waiting ++ d ∷ []) ++ Wait n ∷ [];
      parts = refl;
      ring_is =
          both
          ∙ ap (λ ts. ring_of ((old.waiting ++ d ∷ []) ++ Wait n ∷ []) old.status ts)
          (take-take (CAPACITY - length (old.waiting ++ d ∷ [])) (CAPACITY - length old.waiting) old.taken less
          ∙ ap (λ k. take k old.taken) same);
      unit_is =
          (let steps : unit.steps ≡ unit.steps + 0 = omega arith in let done : unit.done ≡ unit.done + 0 = omega arith in
          left_none unit ∙ ap₂ (λ n k. unit_state (left_by_all [] unit.caches) n k unit.caching) steps done);
    }

-- ---- what is asked of whoever releases

-- with the last one's status there, all are done
all_done : (sent : ℕ) → sent ≤ sent - (status_of sent + 2 ^ 32 - status_of sent) % 2 ^ 32
all_done sent = omega arith

-- what was invalidated is done
pub done_then : (old : Iommu) (d : Descriptor) (new : Iommu) {seen : Option Shown} → Invalidates old d seen new → IsDone new d new.sent
done_then old d new sends = record {
  later = [];
  earlier =
      reverse old.ring.waiting
      ++ take (CAPACITY + 1 - length (old.ring.waiting ++ d ∷ Wait (status_of new.sent) ∷ [])) old.ring.taken;
  taken =
      ap (λ (q : Ring). q.taken) sends.done
      ∙ ap (λ ds. ds ++ take (CAPACITY + 1 - length (old.ring.waiting ++ d ∷ Wait (status_of new.sent) ∷ [])) old.ring.taken)
      (reverse-append old.ring.waiting (d ∷ Wait (status_of new.sent) ∷ []));
  reached =
      subst (λ k. new.sent ≤ new.sent - (status_of new.sent + 2 ^ 32 - k) % 2 ^ 32) (sym (ap (λ (q : Ring). q.status) sends.done))
      (all_done new.sent);
}

-- a domain's own descriptor invalidates all of its records that were made by now
pub all_invalidated : (old new : Iommu) (domain : ℕ) (records : List Record) {seen : Option Shown} → AreMadeBefore (old.sent + 1) records
    → Invalidates old (IotlbDomain domain) seen new → AreInvalidated new domain records
all_invalidated old new domain records made sends r inside = record {
  descriptor = IotlbDomain domain;
  covers = refl;
  number = new.sent;
  made = omega (arith, made r inside, sends.number);
  sent = omega arith;
  done = done_then old (IotlbDomain domain) new sends;
}

-- the descriptor of an unmap covers what the unmap ends
pub sent_covers : (domain : ℕ) (r : Record) (d : Descriptor) → IsSent domain r.range r.cut d → Covers domain r d
sent_covers domain r d (b, is, inl (small, same)) = rw same (refl, is.aligned, is.holds, is.wide, λ hint. hint)
sent_covers domain r d (b, is, inr (large, same)) = rw same refl
