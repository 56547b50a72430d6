-- A descriptor and its wait are told by their words.
use Rattle.std.proofs.Common.{◌≡◌, ◌≢◌, ◌<◌, ◌≤◌, ◌∙◌, inl, inr, ℕ, List, [], ◌∷◌, ◌++◌, Bool, true, false, Some, length, slice_get}
use Rattle.std.proofs.Common.{refl, sym, ap, subst, arith}
use Rattle.std.specs.Prelude.{IfSome}
use Rattle.std.proofs.lemmas.List.{append_assoc}
use Rattle.std.proofs.lemmas.Option.{slice_get_cases}
use Rattle.vtdbits.specs.Descriptor.{descriptor_of}
use Rattle.vtdbits.specs.declared.descriptor.Descriptor.{Descriptor}
use Rattle.vtdbits.specs.declared.words.Words.{Words}
use Rattle.queue.specs.Ring.{submitted_in}
use Rattle.engine.specs.State.{State}
use Rattle.driven.specs.declared.effect.Effect.{Effect}
use Rattle.driven.specs.declared.effect.Effect.TheVariants.{Await}
use Rattle.driven.specs.Effects.{IsSending}
use Rattle.driven.specs.Telling.{HasSent, IsSentBy, with_wait}
use Rattle.driven.proofs.telling.send.Goals as goal

-- what the words of one of the descriptors send
spelled : (ds : List Descriptor) (k : ℕ) (ws : Words) (e : Effect) → k < length ds → descriptor_of ws ≡ slice_get ds k
    → IfSome (descriptor_of ws) (λ d. IsSending d e) → (d : Descriptor) × ((slice_get ds k ≡ Some d) × IsSending d e)
spelled ds k ws e within is sends = elim (slice_get_cases ds k).1 [
  | inl there ↦ (there.0, (there.2, subst (λ o. IfSome o (λ d. IsSending d e)) (is ∙ there.2) sends))
  | inr past ↦ absurd (omega (arith, past.0, within))
]

module _ (t : State) (waits : ℕ) (awaits : Bool) (sent : HasSent t waits) (ne : t.iommu.sent ≢ waits) where
  two : 2 ≤ length (submitted_in t.iommu.ring)
  two = elim sent [ inl same ↦ absurd (ne same) | inr some ↦ some ]

  told : (first last : Words) (e f : Effect) → descriptor_of first ≡ slice_get (submitted_in t.iommu.ring) 1
      → descriptor_of last ≡ slice_get (submitted_in t.iommu.ring) 0 → IfSome (descriptor_of first) (λ d. IsSending d e)
      → IfSome (descriptor_of last) (λ d. IsSending d f) → IsSentBy t waits awaits (e ∷ f ∷ with_wait awaits t.iommu.sent)
  told first last e f one zero se sf =
      let (d, (is, sends)) = spelled (submitted_in t.iommu.ring) 1 first e (omega (arith, two)) one se in
      let (w, (is', sends')) = spelled (submitted_in t.iommu.ring) 0 last f (omega (arith, two)) zero sf in
      inr (d, w, e, f, (ne, is, is', sends, sends', refl))

pub returns-then-awaits : goal.returns-then-awaits
returns-then-awaits c =
    let e = c.sending.result in
    let f = c.sending-2.result in (
      e ∷ f ∷ Await c.args.state.now.iommu.sent ∷ [],
      c.push-then-awaits.ensures.items
          ∙ ap (λ n. c.push-2.new.self.items ++ Await n ∷ []) c.waits-then-awaits.ensures
          ∙ ap (λ xs. xs ++ Await c.args.state.now.iommu.sent ∷ [])
          (c.push-2.ensures.items ∙ ap (λ xs. xs ++ f ∷ []) c.push.ensures.items ∙ append_assoc c.args.effects.now.items (e ∷ []) (f ∷ []))
          ∙ append_assoc c.args.effects.now.items (e ∷ f ∷ []) (Await c.args.state.now.iommu.sent ∷ []),
      subst (λ b. IsSentBy c.args.state.now c.args.waits b (e ∷ f ∷ Await c.args.state.now.iommu.sent ∷ [])) (sym c.if-awaits.true)
          (told c.args.state.now c.args.waits true c.requires.sent (λ same. c.if-waits.false (c.waits.ensures ∙ same))
          c.sent_words-descriptor.result c.sent_words-wait.result e f c.sent_words-descriptor.ensures c.sent_words-wait.ensures
          c.sending.ensures c.sending-2.ensures),
    )

pub returns-else-awaits : goal.returns-else-awaits
returns-else-awaits c =
    let e = c.sending.result in
    let f = c.sending-2.result in (
      e ∷ f ∷ [],
      c.push-2.ensures.items ∙ ap (λ xs. xs ++ f ∷ []) c.push.ensures.items ∙ append_assoc c.args.effects.now.items (e ∷ []) (f ∷ []),
      subst (λ b. IsSentBy c.args.state.now c.args.waits b (e ∷ f ∷ [])) (sym c.if-awaits.false)
          (told c.args.state.now c.args.waits false c.requires.sent (λ same. c.if-waits.false (c.waits.ensures ∙ same))
          c.sent_words-descriptor.result c.sent_words-wait.result e f c.sent_words-descriptor.ensures c.sent_words-wait.ensures
          c.sending.ensures c.sending-2.ensures),
    )
