-- What port words spell.
use Rattle.std.proofs.Common.{◌≡◌, ℕ, inr, Some, None, sym, ◌∙◌, arith}
use Rattle.std.proofs.lemmas.Bool.Decides.{nat_tests}
use Rattle.vtdbits.proofs.Cascades.{same_some, none_read}
use Rattle.vtdbits.specs.Port.{IsEmptyOrSpelling, Spells, port_of}
use Rattle.vtdbits.specs.declared.port.PortWord.{PortWord}

-- a word that spells a page with its translation is read as these
pub port_of-spelled : (word : ℕ) (p : PortWord) → Spells word p → port_of word ≡ Some p
unfolding port_of
port_of-spelled word p s = grind (arith, nat_tests)

-- and what is read is spelled
pub spelled_of-port : (word : ℕ) (p : PortWord) → port_of word ≡ Some p → Spells word p
unfolding port_of
spelled_of-port word p s = grind (arith, nat_tests)

-- where nothing is spelled, none is read
pub port_of-none : (word : ℕ) → ((p : PortWord) → Spells word p → ⊥) → port_of word ≡ None
port_of-none word none = none_read (port_of word) (λ p h. none p (spelled_of-port word p h))

-- a word spells one page with its translation
pub one_value : (word : ℕ) (a b : PortWord) → Spells word a → Spells word b → a ≡ b
one_value word a b s t = same_some a b (sym (port_of-spelled word a s) ∙ port_of-spelled word b t)

-- a page with its translation has one word
pub one_word : (v w : ℕ) (p : PortWord) → Spells v p → Spells w p → v ≡ w
one_word v w p s t = s.2 ∙ sym t.2

-- the empty word spells nothing
pub not_empty : (p : PortWord) → Spells 0 p → ⊥
not_empty p s = omega arith

pub port_of-zero : port_of 0 ≡ None
port_of-zero = port_of-none 0 not_empty

-- a word that spells something is empty or a spelling
pub is_spelling : (word : ℕ) (p : PortWord) → Spells word p → IsEmptyOrSpelling word
is_spelling word p s = inr (p, s)
