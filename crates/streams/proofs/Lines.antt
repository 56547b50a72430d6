-- Lines that say something.
use Rattle.std.proofs.Common.{◌≡◌, ◌≢◌, ℕ, ◌≤◌, ◌<◌, List, [], ◌∷◌, ◌++◌, length, Option, Some, None, refl, sym, ap, subst, ◌∙◌}
use Rattle.std.proofs.Common.{arith, append_assoc}
use Rattle.streams.specs.Bytes.{IsUnbroken}
use Rattle.streams.specs.Lines.{LineSays, LinesSay, BeginsBadly}

-- what follows is the rest
pub lines_rest : {A : Type 0} (said : List ℕ → Option A) (bytes : List ℕ) (items : List A) (rest more : List ℕ)
    → LinesSay said bytes items rest → LinesSay said (bytes ++ more) items (rest ++ more)
lines_rest said bytes [] rest more e = ap (λ (b : List ℕ). b ++ more) e
lines_rest said bytes (a ∷ items) rest more s =
    (s.0, s.1 ++ more, ap (λ (b : List ℕ). b ++ more) s.2 ∙ append_assoc s.0 (10 ∷ s.1) more, s.3, lines_rest said s.1 items rest more s.4)

-- one line more
pub lines_then : {A : Type 0} (said : List ℕ → Option A) (bytes : List ℕ) (items : List A) (rest line more : List ℕ) (a : A)
    → LinesSay said bytes items rest → rest ≡ line ++ 10 ∷ more → LineSays said line a → LinesSay said bytes (items ++ a ∷ []) more
lines_then said bytes [] rest line more a s e says = (line, more, s ∙ e, says, refl)
lines_then said bytes (first ∷ items) rest line more a s e says =
    (s.0, s.1, s.2, s.3, lines_then said s.1 items rest line more a s.4 e says)

head_is : (a b : ℕ) (xs ys : List ℕ) → a ∷ xs ≡ b ∷ ys → a ≡ b
head_is a b xs ys e = cc

tail_is : (a b : ℕ) (xs ys : List ℕ) → a ∷ xs ≡ b ∷ ys → xs ≡ ys
tail_is a b xs ys e = cc

-- two first lines are one
pub first_line : (a b x y : List ℕ) → IsUnbroken a → IsUnbroken b → a ++ 10 ∷ x ≡ b ++ 10 ∷ y → a ≡ b
first_line [] [] x y p q e = refl
first_line [] (c ∷ b) x y p q e = absurd (q.0 (sym (head_is 10 c x (b ++ 10 ∷ y) e)))
first_line (c ∷ a) [] x y p q e = absurd (p.0 (head_is c 10 (a ++ 10 ∷ x) y e))
first_line (c ∷ a) (d ∷ b) x y p q e =
    let rest = first_line a b x y p.1 q.1 (tail_is c d (a ++ 10 ∷ x) (b ++ 10 ∷ y) e) in
    let first = head_is c d (a ++ 10 ∷ x) (b ++ 10 ∷ y) e in
    rw (first, rest) refl

-- a line that stands first is no shorter than the bytes before a newline that are known
no_shorter : (known x line more : List ℕ) → IsUnbroken known → known ++ x ≡ line ++ 10 ∷ more → length known ≤ length line
no_shorter [] x line more p e = omega arith
no_shorter (c ∷ known) x [] more p e = absurd (p.0 (head_is c 10 (known ++ x) more e))
no_shorter (c ∷ known) x (d ∷ line) more p e = omega
    (arith, no_shorter known x line more p.1 (tail_is c d (known ++ x) (line ++ 10 ∷ more) e))

longer : (a b : List ℕ) → a ++ b ≡ [] → a ≡ []
longer [] b e = refl
longer (x ∷ a) b e = absurd cc

-- the first line says nothing
pub bad_line : {A : Type 0} (said : List ℕ → Option A) (line more : List ℕ) → IsUnbroken line → said line ≡ None
    → BeginsBadly said (line ++ 10 ∷ more)
bad_line {A} said line more whole none = record {
  something = λ e. not_nil line more e;
  no_line = λ other rest a e says. none_some line other a none (first_line line other more rest whole says.whole e) says.is;
} where
  not_nil : (line more : List ℕ) → line ++ 10 ∷ more ≡ [] → ⊥
  not_nil [] more e = cc
  not_nil (x ∷ line) more e = cc

  none_some : (line other : List ℕ) (a : A) → said line ≡ None → line ≡ other → said other ≡ Some a → ⊥
  none_some line other a n e s = absurd cc

unbroken_no : (line other rest : List ℕ) → IsUnbroken line → line ≡ other ++ 10 ∷ rest → ⊥
unbroken_no [] [] rest whole e = cc
unbroken_no [] (d ∷ other) rest whole e = cc
unbroken_no (c ∷ line) [] rest whole e = whole.0 (head_is c 10 line rest e)
unbroken_no (c ∷ line) (d ∷ other) rest whole e = unbroken_no line other rest whole.1 (tail_is c d line (other ++ 10 ∷ rest) e)

-- the bytes end before a newline
pub cut_line : {A : Type 0} (said : List ℕ → Option A) (line : List ℕ) → IsUnbroken line → line ≢ [] → BeginsBadly said line
cut_line said line whole some = record {
  something = some;
  no_line = λ other rest a e says. unbroken_no line other rest whole e;
}

-- a line of more bytes than one that says something has
pub long_line : {A : Type 0} (said : List ℕ → Option A) (most : ℕ) (known x : List ℕ)
    → ((line : List ℕ) (a : A) → said line ≡ Some a → length line ≤ most) → IsUnbroken known → most < length known
    → BeginsBadly said (known ++ x)
long_line said most known x short whole long = record {
  something = λ e. nonempty (longer known x e);
  no_line = λ other rest a e says. absurd (omega (arith, no_shorter known x other rest whole e, short other a says.is, long));
} where
  nonempty : known ≡ [] → ⊥
  nonempty e = absurd (omega (arith, long, ap length e))

-- ---- what bytes say, they say in one way

-- lines to the end, and lines at the beginning of the same bytes: these are a front of those, and the rest says what follows
pub one_reading : {A : Type 0} (said : List ℕ → Option A) (bytes : List ℕ) (all front : List A) (rest : List ℕ)
    → LinesSay said bytes all [] → LinesSay said bytes front rest
    → (more : List A) × (all ≡ front ++ more) × LinesSay said rest more []
one_reading said bytes all [] rest s t = (all, refl, subst (λ (b : List ℕ). LinesSay said b all []) t s)
one_reading said bytes [] (a ∷ front) rest s t = absurd (not_nil t.0 t.1 (sym t.2 ∙ s)) where
  not_nil : (line more : List ℕ) → line ++ 10 ∷ more ≡ [] → ⊥
  not_nil [] more e = cc
  not_nil (x ∷ line) more e = cc
one_reading {A} said bytes (b ∷ all) (a ∷ front) rest s t =
    let bytes_are : s.0 ++ 10 ∷ s.1 ≡ t.0 ++ 10 ∷ t.1 = sym s.2 ∙ t.2 in
    let line : s.0 ≡ t.0 = first_line s.0 t.0 s.1 t.1 s.3.whole t.3.whole bytes_are in
    let behind : s.1 ≡ t.1 = rest_is s.0 t.0 s.1 t.1 line bytes_are in
    let item : b ≡ a = same (said s.0) b a s.3.is (ap said line ∙ t.3.is) in
    let next = one_reading said s.1 all front rest s.4 (subst (λ (r : List ℕ). LinesSay said r front rest) (sym behind) t.4) in
    (next.0, joined b a all (front ++ next.0) item next.1, next.2) where
      joined : (x y : A) (xs ys : List A) → x ≡ y → xs ≡ ys → x ∷ xs ≡ y ∷ ys
      joined x y xs ys p q = cc

      rest_is : (x y u v : List ℕ) → x ≡ y → x ++ 10 ∷ u ≡ y ++ 10 ∷ v → u ≡ v
      rest_is [] [] u v e is = cc
      rest_is [] (d ∷ y) u v e is = absurd cc
      rest_is (c ∷ x) [] u v e is = absurd cc
      rest_is (c ∷ x) (d ∷ y) u v e is = rest_is x y u v (tail_is c d x y e) (tail_is c d (x ++ 10 ∷ u) (y ++ 10 ∷ v) is)

      same : (o : Option A) (x y : A) → o ≡ Some x → o ≡ Some y → x ≡ y
      same o x y p q = cc
