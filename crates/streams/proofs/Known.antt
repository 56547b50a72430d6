-- Bytes that are known, part by part.
use Rattle.std.proofs.Common.{◌≡◌, ℕ, ◌≤◌, List, [], ◌∷◌, ◌++◌, length, take, drop, Option, Some, None, refl, sym, ap, ◌∙◌, arith}
use Rattle.std.proofs.Common.{append_assoc, length-drop}
use Rattle.std.proofs.lemmas.List.{append-nil, drop_all, take-append-drop}
use Rattle.std.specs.Io.KnownBytes.{Appends, Consumes, IsAtEnd, prepend_known}
use Rattle.streams.specs.Bytes.{IsUnbroken, PutsSome, Sent, SentFront}

-- nothing is left past the end, and nowhere else
pub all_gone : (n : ℕ) (bytes : List ℕ) → n ≡ length bytes → drop n bytes ≡ []
all_gone n bytes e = drop_all n bytes (omega (arith, e))

pub none_gone : (n : ℕ) (bytes : List ℕ) → n ≤ length bytes → drop n bytes ≡ [] → n ≡ length bytes
none_gone n bytes le e = omega (arith, le, length-drop n bytes, ap length e)

-- ---- a writer

appends_nothing : (before : Option (List ℕ)) → Appends before before []
appends_nothing None = tt
appends_nothing (Some a) = sym (append-nil a)

appends_more : (x y z : Option (List ℕ)) (a b : List ℕ) → Appends x y a → Appends y z b → Appends x z (a ++ b)
appends_more None y z a b p q = tt
appends_more (Some x) None z a b p q = absurd p
appends_more (Some x) (Some y) None a b p q = absurd q
appends_more (Some x) (Some y) (Some z) a b p q = q ∙ ap (λ (r : List ℕ). r ++ b) p ∙ append_assoc x a b

pub sent_nothing : (before : Option (List ℕ)) (block : List ℕ) → Sent before before block block []
sent_nothing before block = ([], appends_nothing before, sym (append-nil block))

-- one text behind the other
pub sent_more : (x y z : Option (List ℕ)) (a b c s t : List ℕ) → Sent x y a b s → Sent y z b c t → Sent x z a c (s ++ t)
sent_more x y z a b c s t p q = (
  p.0 ++ q.0,
  appends_more x y z p.0 q.0 p.1 q.1,
  append_assoc p.0 q.0 c ∙ ap (λ (r : List ℕ). p.0 ++ r) q.2 ∙ sym (append_assoc p.0 b t) ∙ ap (λ (r : List ℕ). r ++ t) p.2
      ∙ append_assoc a s t,
)

-- nothing more is written
pub sent_on : (x y z : Option (List ℕ)) (a b c s : List ℕ) → Sent x y a b s → Sent y z b c [] → Sent x z a c s
sent_on x y z a b c s p q = rw (append-nil s) at (sent_more x y z a b c s [] p q)

-- some text behind the other
pub puts_nothing : (before : Option (List ℕ)) (block : List ℕ) → PutsSome before before block block
puts_nothing before block = ([], sent_nothing before block)

pub puts_more : (x y z : Option (List ℕ)) (a b c : List ℕ) → PutsSome x y a b → PutsSome y z b c → PutsSome x z a c
puts_more x y z a b c p q = (p.0 ++ q.0, sent_more x y z a b c p.0 q.0 p.1 q.1)

-- a front of what was still to be written is one of this and a text behind it
pub front_without : (x y : Option (List ℕ)) (a b s : List ℕ) → Sent x y a b [] → SentFront x y a s
front_without x y a b s p = (p.0, b ++ s, p.1, sym (append_assoc p.0 b s) ∙ ap (λ (r : List ℕ). r ++ s) (p.2 ∙ append-nil a))

pub front_with : (x y : Option (List ℕ)) (a b s : List ℕ) → Sent x y a b s → SentFront x y a s
front_with x y a b s p = (p.0, b, p.1, p.2)

-- a write took the front of the block
pub sent_front : (x y z : Option (List ℕ)) (a b text : List ℕ) (count : ℕ) → Sent x y a b text → Appends y z (take count b)
    → Sent x z a (drop count b) text
sent_front x y z a b text count p q = (
  p.0 ++ take count b,
  appends_more x y z p.0 (take count b) p.1 q,
  append_assoc p.0 (take count b) (drop count b) ∙ ap (λ (r : List ℕ). p.0 ++ r) (take-append-drop count b) ∙ p.2,
)

-- ---- a reader

pub consumes_nothing : (a : Option (List ℕ)) → Consumes a a []
consumes_nothing None = tt
consumes_nothing (Some xs) = refl

pub consumes_more : (a b c : Option (List ℕ)) (xs ys : List ℕ) → Consumes a b xs → Consumes b c ys → Consumes a c (xs ++ ys)
consumes_more None b c xs ys p q = tt
consumes_more (Some us) None c xs ys p q = absurd p
consumes_more (Some us) (Some bs) None xs ys p q = absurd q
consumes_more (Some us) (Some bs) (Some cs) xs ys p q = p ∙ ap (λ (r : List ℕ). xs ++ r) q ∙ sym (append_assoc xs ys cs)

-- bytes of the block were used
pub consumes_block : (a : Option (List ℕ)) (block used rest : List ℕ) → block ≡ used ++ rest
    → Consumes (prepend_known block a) (prepend_known rest a) used
consumes_block None block used rest e = tt
consumes_block (Some xs) block used rest e = ap (λ (r : List ℕ). r ++ xs) e ∙ append_assoc used rest xs

-- a block was read, and none of it is used
pub consumes_fill : (a b : Option (List ℕ)) (block : List ℕ) → Consumes a b block → Consumes (prepend_known [] a) (prepend_known block b) []
consumes_fill None b block h = tt
consumes_fill (Some xs) None block h = absurd h
consumes_fill (Some xs) (Some ys) block h = h

-- at the end, with an empty block
pub ends_known : (a : Option (List ℕ)) → IsAtEnd a → IsAtEnd (prepend_known [] a)
ends_known None h = tt
ends_known (Some xs) h = h

-- ---- lines

pub unbroken_append : (xs ys : List ℕ) → IsUnbroken xs → IsUnbroken ys → IsUnbroken (xs ++ ys)
unbroken_append [] ys p q = q
unbroken_append (x ∷ xs) ys p q = (p.0, unbroken_append xs ys p.1 q)

pub unbroken_front : (xs ys : List ℕ) → IsUnbroken (xs ++ ys) → IsUnbroken xs
unbroken_front [] ys p = tt
unbroken_front (x ∷ xs) ys p = (p.0, unbroken_front xs ys p.1)
