-- What words of the row of contexts spell.
use Rattle.std.proofs.Common.{◌≡◌, Some, None, sym, ◌∙◌, arith}
use Rattle.std.proofs.lemmas.Bool.Decides.{nat_tests}
use Rattle.dmatypes.specs.declared.width.Width.TheVariants.{W39, W48}
use Rattle.vtdbits.proofs.Cascades.{same_some, none_read}
use Rattle.vtdbits.specs.Context.{Spells, context_of}
use Rattle.vtdbits.specs.declared.words.Words.{Words}
use Rattle.vtdbits.specs.declared.context.ContextEntry.{ContextEntry}
use Rattle.vtdbits.specs.declared.context.ContextEntry.TheVariants.{Absent, Present}

-- words that spell an entry are read as that entry
pub context_of-spelled : (words : Words) (e : ContextEntry) → Spells words e → context_of words ≡ Some e
unfolding context_of
context_of-spelled words Absent s = grind (arith, nat_tests)
context_of-spelled words (Present root W39 domain) s = grind (arith, nat_tests)
context_of-spelled words (Present root W48 domain) s = grind (arith, nat_tests)

-- and what is read is spelled
pub spelled_of-context : (words : Words) (e : ContextEntry) → context_of words ≡ Some e → Spells words e
unfolding context_of
spelled_of-context words Absent s = grind (arith, nat_tests)
spelled_of-context words (Present root W39 domain) s = grind (arith, nat_tests)
spelled_of-context words (Present root W48 domain) s = grind (arith, nat_tests)

-- where no entry is spelled, none is read
pub context_of-none : (words : Words) → ((e : ContextEntry) → Spells words e → ⊥) → context_of words ≡ None
context_of-none words none = none_read (context_of words) (λ e h. none e (spelled_of-context words e h))

-- two words spell one entry
pub one_entry : (words : Words) (a b : ContextEntry) → Spells words a → Spells words b → a ≡ b
one_entry words a b s t =
    same_some a b (sym (context_of-spelled words a s) ∙ context_of-spelled words b t)

-- an entry has one spelling
pub one_spelling : (v w : Words) (e : ContextEntry) → Spells v e → Spells w e → v ≡ w
one_spelling v w Absent s t = grind arith
one_spelling v w (Present root width domain) s t = grind arith
