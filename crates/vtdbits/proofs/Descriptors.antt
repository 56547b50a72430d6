-- What the words of descriptors spell.
use Rattle.std.proofs.Common.{◌≡◌, Some, None, sym, ◌∙◌, subst, inl, inr, ◌/◌, ◌%◌, ◌^◌, ◌==◌, true, arith}
use Rattle.std.proofs.lemmas.Bool.Decides.{nat_tests}
use Rattle.vtdbits.proofs.Cascades.{if_some, same_some, not_some, none_read}
use Rattle.vtdbits.specs.Descriptor.{Spells, descriptor_of, is_global, is_of_domain, is_of_device, is_of_pages, is_wait, block_in}
use Rattle.vtdbits.specs.declared.words.Words.{Words}
use Rattle.vtdbits.specs.declared.descriptor.Descriptor.{Descriptor}
use Rattle.vtdbits.specs.declared.descriptor.Descriptor.TheVariants.{ContextGlobal, ContextDomain, ContextDevice, IotlbGlobal, IotlbDomain}
use Rattle.vtdbits.specs.declared.descriptor.Descriptor.TheVariants.{IotlbPages, Wait}

-- words that spell a descriptor are read as that descriptor
pub descriptor_of-spelled : (words : Words) (d : Descriptor) → Spells words d → descriptor_of words ≡ Some d
unfolding descriptor_of
descriptor_of-spelled words ContextGlobal s = grind (arith, nat_tests)
descriptor_of-spelled words (ContextDomain domain) s = grind (arith, nat_tests)
descriptor_of-spelled words (ContextDevice domain device) s = grind (arith, nat_tests)
descriptor_of-spelled words IotlbGlobal s = grind (arith, nat_tests)
descriptor_of-spelled words (IotlbDomain domain) s = grind (arith, nat_tests)
descriptor_of-spelled words (IotlbPages domain pages hint) s = grind (arith, nat_tests)
descriptor_of-spelled words (Wait status) s = grind (arith, nat_tests)

-- each test makes its words spell its form
context_global_spelled : (words : Words) → (is_global 0x11 words) ≡ true → Spells words (ContextGlobal)
context_global_spelled words t = grind (arith, nat_tests)

context_domain_spelled : (words : Words) → (is_of_domain 0x21 words) ≡ true → Spells words (ContextDomain (words.low / 2 ^ 16))
context_domain_spelled words t = grind (arith, nat_tests)

context_device_spelled : (words : Words) → (is_of_device 0x31 words) ≡ true
    → Spells words (ContextDevice (words.low / 2 ^ 16 % 2 ^ 16) (words.low / 2 ^ 35))
context_device_spelled words t = grind (arith, nat_tests)

iotlb_global_spelled : (words : Words) → (is_global 0xd2 words) ≡ true → Spells words (IotlbGlobal)
iotlb_global_spelled words t = grind (arith, nat_tests)

iotlb_domain_spelled : (words : Words) → (is_of_domain 0xe2 words) ≡ true → Spells words (IotlbDomain (words.low / 2 ^ 16))
iotlb_domain_spelled words t = grind (arith, nat_tests)

iotlb_pages_spelled : (words : Words) → (is_of_pages 0xf2 words) ≡ true
    → Spells words (IotlbPages (words.low / 2 ^ 16) (block_in words) (words.high / 2 ^ 6 % 2 == 1))
iotlb_pages_spelled words t = grind (arith, nat_tests)

wait_spelled : (words : Words) → (is_wait 0x25 words) ≡ true → Spells words (Wait (words.low / 2 ^ 32))
wait_spelled words t = grind (arith, nat_tests)

-- and what is read is spelled
pub spelled_of-descriptor : (words : Words) (d : Descriptor) → descriptor_of words ≡ Some d → Spells words d
unfolding descriptor_of
spelled_of-descriptor words d h =
    let P : Descriptor → Type 0 = λ d. Spells words d in
    elim (if_some (is_global 0x11 words) (Some (ContextGlobal)) _ d h) [
      | inl (t, e) ↦ subst P (same_some (ContextGlobal) d e) (context_global_spelled words t)
      | inr h ↦
          elim (if_some (is_of_domain 0x21 words) (Some (ContextDomain (words.low / 2 ^ 16))) _ d h) [
            | inl (t, e) ↦ subst P (same_some (ContextDomain (words.low / 2 ^ 16)) d e) (context_domain_spelled words t)
            | inr h ↦
                elim (if_some (is_of_device 0x31 words) (Some (ContextDevice (words.low / 2 ^ 16 % 2 ^ 16) (words.low / 2 ^ 35))) _ d h) [
                  | inl (t, e) ↦
                      subst P (same_some (ContextDevice (words.low / 2 ^ 16 % 2 ^ 16) (words.low / 2 ^ 35)) d e)
                      (context_device_spelled words t)
                  | inr h ↦
                      elim (if_some (is_global 0xd2 words) (Some (IotlbGlobal)) _ d h) [
                        | inl (t, e) ↦ subst P (same_some (IotlbGlobal) d e) (iotlb_global_spelled words t)
                        | inr h ↦
                            elim (if_some (is_of_domain 0xe2 words) (Some (IotlbDomain (words.low / 2 ^ 16))) _ d h) [
                              | inl (t, e) ↦ subst P (same_some (IotlbDomain (words.low / 2 ^ 16)) d e) (iotlb_domain_spelled words t)
                              | inr h ↦
                                  elim (if_some (is_of_pages 0xf2 words)
                                  (Some (IotlbPages (words.low / 2 ^ 16) (block_in words) (words.high / 2 ^ 6 % 2 == 1))) _ d h) [
                                    | inl (t, e) ↦
                                        subst P (same_some
                                        (IotlbPages (words.low / 2 ^ 16) (block_in words) (words.high / 2 ^ 6 % 2 == 1)) d e)
                                        (iotlb_pages_spelled words t)
                                    | inr h ↦
                                        elim (if_some (is_wait 0x25 words) (Some (Wait (words.low / 2 ^ 32))) _ d h) [
                                          | inl (t, e) ↦ subst P (same_some (Wait (words.low / 2 ^ 32)) d e) (wait_spelled words t)
                                          | inr h ↦
                                              absurd (not_some d h)
                                        ]
                                  ]
                            ]
                      ]
                ]
          ]
    ]

-- where no descriptor is spelled, none is read
pub descriptor_of-none : (words : Words) → ((d : Descriptor) → Spells words d → ⊥) → descriptor_of words ≡ None
descriptor_of-none words none = none_read (descriptor_of words) (λ d h. none d (spelled_of-descriptor words d h))

-- two words spell one descriptor
pub one_descriptor : (words : Words) (a b : Descriptor) → Spells words a → Spells words b → a ≡ b
one_descriptor words a b s t =
    same_some a b (sym (descriptor_of-spelled words a s) ∙ descriptor_of-spelled words b t)

-- a descriptor has one spelling
pub one_spelling : (v w : Words) (d : Descriptor) → Spells v d → Spells w d → v ≡ w
one_spelling v w ContextGlobal s t = grind arith
one_spelling v w (ContextDomain domain) s t = grind arith
one_spelling v w (ContextDevice domain device) s t = grind arith
one_spelling v w IotlbGlobal s t = grind arith
one_spelling v w (IotlbDomain domain) s t = grind arith
one_spelling v w (IotlbPages domain pages hint) s t = grind arith
one_spelling v w (Wait status) s t = grind arith
