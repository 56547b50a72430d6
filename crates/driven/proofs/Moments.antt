-- What a walk reads while a call's effects reach memory.
use Rattle.std.proofs.Common.{◌≡◌, inl, inr, ℕ, Bool, true, false, cond, List, [], ◌∷◌, ◌++◌, Option, None, Some, refl, sym, ap}
use Rattle.std.proofs.Common.{subst, ◌∙◌}
use Rattle.std.proofs.lemmas.List.{append-nil, append_assoc}
use Rattle.dmatypes.specs.declared.call.Call.{Call}
use Rattle.dmatypes.specs.declared.call.Call.TheVariants as calls
use Rattle.dmatypes.specs.declared.call.Mode.{Mode}
use Rattle.dmatypes.specs.declared.call.Mode.TheVariants.{Lazy, Strict}
use Rattle.vtdbits.specs.declared.descriptor.Descriptor.{Descriptor}
use Rattle.tables.specs.Pool.{word}
use Rattle.tables.proofs.walks.Steps.{same_or_not}
use Rattle.moments.specs.Moments.{IsFilledFirst, Reached}
use Rattle.engine.specs.Domains.{Domain, domain_at}
use Rattle.engine.specs.State.{State}
use Rattle.quiet.proofs.Every.{calls_old_or_new}
use Rattle.driven.specs.declared.effect.Effect.{Effect}
use Rattle.driven.specs.declared.effect.Effect.TheVariants.{Await, Barrier, Context, Send, Words}
use Rattle.driven.specs.Effects.{AreEffects, Brings, IsBrought, IsSending, Sends, by_mode, in_mode, in_order, waited}
use Rattle.driven.specs.Laws.{EffectsAreOldOrNew, EffectsFillFirst, EffectsLeadThere, IsReadInOrder}
use Rattle.driven.proofs.Splits.{gave_way}
use Rattle.driven.proofs.Brought.{brought_by, brought_either, brought_left, brought_right, none_brought}

-- ---- what is sent brings nothing

abbrev BringsNone : List Effect → Type 0
BringsNone es = (f k : ℕ) → IsBrought es f k → ⊥

none_of : (d : Descriptor) (e : Effect) → IsSending d e → (f k : ℕ) → Brings e f k → ⊥
none_of d (Send low high) sends f k brings = brings
none_of d (Words frame first count) sends f k brings = sends
none_of d Barrier sends f k brings = sends
none_of d (Context device first) sends f k brings = sends
none_of d (Await number) sends f k brings = sends

after_one : (e : Effect) (es : List Effect) → ((f k : ℕ) → Brings e f k → ⊥) → BringsNone es → BringsNone (e ∷ es)
after_one e es head tail f k (x, (inl same, brings)) = head f k (subst (λ y. Brings y f k) same brings)
after_one e es head tail f k (x, (inr rest, brings)) = tail f k (x, (rest, brings))

await_none : (number : ℕ) → BringsNone (Await number ∷ [])
await_none number = after_one (Await number) [] (λ f k brings. brings) none_brought

waited_none : (call : Call) (number : ℕ) → BringsNone (waited call number)
waited_none (calls.Begin domain) number = none_brought
waited_none (calls.Domain mode width) number = await_none number
waited_none (calls.Attach device domain) number = await_none number
waited_none (calls.Detach device) number = await_none number
waited_none (calls.Drop domain) number = await_none number
waited_none (calls.Map domain frame pages order rights) number = await_none number
waited_none (calls.MapList domain order rights segments) number = await_none number
waited_none (calls.Unmap domain address pages) number = await_none number
waited_none (calls.Flush domain) number = await_none number
waited_none calls.Unit number = await_none number
waited_none (calls.Reap domain number) n = await_none n
waited_none (calls.Dma device address access whim) number = await_none number
waited_none (calls.Evict kind place) number = await_none number

sent_none : (m : State) (call : Call) (t : State) (es : List Effect) → Sends m call t es → BringsNone es
sent_none m call t es (inl none) f k brought = none_brought f k (subst (λ xs. IsBrought xs f k) none.none brought)
sent_none m call t es (inr (d, e, w, (sent, one, two, is))) f k brought =
    after_one e (w ∷ waited call t.iommu.sent) (none_of d e one)
    (after_one w (waited call t.iommu.sent) (none_of _ w two) (waited_none call t.iommu.sent)) f k
    (subst (λ xs. IsBrought xs f k) is brought)

-- ---- where the words are among a call's effects

-- after what brings nothing, and before anything
abbrev Among : List Effect → List Effect → Type 0
Among brought effects = (pre post : List Effect) × ((effects ≡ pre ++ (brought ++ post)) × BringsNone pre)

first_among : (brought sent : List Effect) → Among brought (brought ++ sent)
first_among brought sent = ([], sent, (refl, none_brought))

last_among : (brought sent : List Effect) → BringsNone sent → Among brought (sent ++ brought)
last_among brought sent none = (sent, [], (ap (λ xs. sent ++ xs) (sym (append-nil brought)), none))

mode_among : (d : Option Domain) (brought sent : List Effect) → BringsNone sent → Among brought (in_mode d brought sent)
mode_among None brought sent none = first_among brought sent
mode_among (Some h) brought sent none = by h.mode
  where
    by : (mode : Mode) → Among brought (by_mode mode brought sent)
    by Strict = first_among brought sent
    by Lazy = last_among brought sent none

among : (m : State) (call : Call) (brought sent : List Effect) → BringsNone sent → Among brought (in_order m call brought sent)
among m (calls.Drop domain) brought sent none = last_among brought sent none
among m (calls.Unmap domain address pages) brought sent none = mode_among (domain_at m.domains domain) brought sent none
among m (calls.Domain mode width) brought sent none = first_among brought sent
among m (calls.Attach device domain) brought sent none = first_among brought sent
among m (calls.Detach device) brought sent none = first_among brought sent
among m (calls.Map domain frame pages order rights) brought sent none = first_among brought sent
among m (calls.MapList domain order rights segments) brought sent none = first_among brought sent
among m (calls.Flush domain) brought sent none = first_among brought sent
among m (calls.Begin domain) brought sent none = first_among brought sent
among m calls.Unit brought sent none = first_among brought sent
among m (calls.Reap domain number) brought sent none = first_among brought sent
among m (calls.Dma device address access whim) brought sent none = first_among brought sent
among m (calls.Evict kind place) brought sent none = first_among brought sent

module _ (m t : State) (call : Call) (reply : _) (effects : List Effect) (are : AreEffects m call reply t effects) where
  there : Among are.brought effects
  there = subst (λ es. Among are.brought es) (sym are.ordered) (among m call are.brought are.sent (sent_none m call t are.sent are.sends))

  in_all : (f k : ℕ) → IsBrought are.brought f k → IsBrought effects f k
  in_all f k brought =
      let (pre, post, (is, none)) = there in
      subst (λ es. IsBrought es f k) (sym is)
      (brought_right pre (are.brought ++ post) f k (brought_left are.brought post f k brought))

  filled_first : (reached : Reached) → IsReadInOrder effects reached → IsFilledFirst m.pool.words t.pool.words reached
  filled_first reached keeps f i below k x inside less large named read =
      let (first, rest, (parted, filled, unnamed)) = are.brings.fills f i below x inside large named in
      let (pre, post, (is, none)) = there in
      let all : effects ≡ (pre ++ first) ++ Barrier ∷ (rest ++ post) =
      is ∙ ap (λ xs. pre ++ (xs ++ post)) parted ∙ ap (λ xs. pre ++ xs) (append_assoc first (Barrier ∷ rest) post)
      ∙ sym (append_assoc pre first (Barrier ∷ (rest ++ post))) in
      let changed : IsBrought (first ++ Barrier ∷ rest) f i =
      subst (λ es. IsBrought es f i) parted
      (are.brings.words f i inside (gave_way m.pool.words t.pool.words f i below x large named)) in
      let after : IsBrought (rest ++ post) f i =
      elim (brought_either first (Barrier ∷ rest) f i changed) [
        | inl told ↦ absurd (unnamed told)
        | inr told ↦ elim (brought_either (Barrier ∷ []) rest f i told) [
          | inl barrier ↦ absurd (brought_by Barrier f i barrier)
          | inr told' ↦ brought_left rest post f i told'
        ]
      ] in
      inl (keeps (pre ++ first) (rest ++ post) 1 f i below k all
      (λ told. elim (brought_either pre first f i told) [ inl a ↦ none f i a | inr b ↦ unnamed b ]) after read
      (brought_right pre first below k (filled k less)))

pub effects_fill_first : EffectsFillFirst
effects_fill_first m t call reply effects reached are keeps = filled_first m t call reply effects are reached keeps

pub effects_old_or_new : EffectsAreOldOrNew
effects_old_or_new m t call reply effects domain h h' reached page sound does are here then keeps =
    calls_old_or_new m t call reply domain h h' reached page sound does here then (filled_first m t call reply effects are reached keeps)

pub lead_there : EffectsLeadThere
lead_there m t call reply effects reached level f k are inside all = by (reached level f k) refl
  where
    by : (b : Bool) → reached level f k ≡ b → cond b (word t.pool.words f k) (word m.pool.words f k) ≡ word t.pool.words f k
    by true is = refl
    by false is =
        elim (same_or_not (word m.pool.words f k) (word t.pool.words f k)) [
          | inl same ↦ same
          | inr other ↦
              absurd (let clash : true ≡ false =
              sym (all (in_all m t call reply effects are f k (are.brings.words f k inside other))) ∙ is in cc)
        ]
