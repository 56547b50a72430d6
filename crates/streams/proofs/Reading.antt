-- What was read, between two lines, and how it ends.
use Rattle.std.proofs.Common.{◌≡◌, ◌≢◌, ℕ, ◌+◌, ◌-◌, ◌^◌, ◌≤◌, min, List, [], ◌∷◌, ◌++◌, length, Option, Some, None, refl}
use Rattle.std.proofs.Common.{sym, ap, subst, ◌∙◌, arith, append_assoc}
use Rattle.std.specs.Io.KnownBytes.{Consumes, IsAtEnd}
use Rattle.std.proofs.lemmas.List.{append-nil, length-append}
use Rattle.streams.specs.Bytes.{IsUnbroken}
use Rattle.streams.specs.Lines.{LineSays, LinesSay, BeginsBadly, IsOfOneLine, ReadToEnd, ReadToBadLine, ReadToFailure, ReadPartly, IfKnown}
use Rattle.streams.proofs.Known.{unbroken_front, consumes_nothing, consumes_more}
use Rattle.streams.proofs.Lines.{lines_rest, lines_then, bad_line, cut_line, long_line}

-- the whole lines that were read say these
pub record Reading {A : Type 0} (said : List ℕ → Option A) (old left : Option (List ℕ)) (items : List A) (number : ℕ) : Type 0 where
  pub taken : List ℕ
  pub read : Consumes old left taken
  pub lines : LinesSay said taken items []
  pub place : number ≡ min (length items + 1) (2 ^ 64 - 1)

pub begins_reading : {A : Type 0} (said : List ℕ → Option A) (old : Option (List ℕ)) → Reading said old old [] 1
begins_reading said old = record { taken = []; read = consumes_nothing old; lines = refl; place = refl }

-- one line more
pub reads_on : {A : Type 0} (said : List ℕ → Option A) (old left left' : Option (List ℕ)) (items : List A) (number : ℕ)
    (line : List ℕ) (a : A)
    → Reading said old left items number → Consumes left left' (line ++ 10 ∷ []) → LineSays said line a
    → Reading said old left' (items ++ a ∷ []) (min (number + 1) (2 ^ 64 - 1))
reads_on said old left left' items number line a r more says = record {
  taken = r.taken ++ (line ++ 10 ∷ []);
  read = consumes_more old left left' r.taken (line ++ 10 ∷ []) r.read more;
  lines = lines_then said (r.taken ++ (line ++ 10 ∷ [])) items (line ++ 10 ∷ []) line [] a
      (lines_rest said r.taken items [] (line ++ 10 ∷ []) r.lines) refl says;
  place = omega (arith, r.place, length-append items (a ∷ []));
}

-- ---- what is to show where the bytes are known

known : (old left : Option (List ℕ)) (taken : List ℕ) (P : List ℕ → List ℕ → Type 0) → Consumes old left taken
    → ((input rest : List ℕ) → left ≡ Some rest → input ≡ taken ++ rest → P input rest) → IfKnown old left P
known None left taken P c h = tt
known (Some input) None taken P c h = absurd c
known (Some input) (Some rest) taken P c h = h input rest refl c

-- ---- the ends

pub reads_to_end : {A : Type 0} (said : List ℕ → Option A) (old left left' : Option (List ℕ)) (items : List A) (number : ℕ)
    → Reading said old left items number → Consumes left left' [] → IsAtEnd left'
    → IfKnown old left' (λ input rest. ReadToEnd said input rest items)
reads_to_end said old left left' items number r none at_end =
    known old left' (r.taken ++ []) _ (consumes_more old left left' r.taken [] r.read none) (λ input rest is e.
    let nothing : rest ≡ [] = subst IsAtEnd is at_end in record {
      lines = subst (λ (b : List ℕ). LinesSay said b items [])
          (sym (e ∙ ap (λ (r' : List ℕ). (r.taken ++ []) ++ r') nothing ∙ append-nil (r.taken ++ []) ∙ append-nil r.taken)) r.lines;
      all_read = nothing;
    })

-- the whole lines are a front of what was there
front_says : {A : Type 0} (said : List ℕ → Option A) (taken line rest input : List ℕ) (items : List A) → LinesSay said taken items []
    → input ≡ (taken ++ line) ++ rest → LinesSay said input items (line ++ rest)
front_says said taken line rest input items lines e = subst (λ (b : List ℕ). LinesSay said b items (line ++ rest))
    (sym (e ∙ append_assoc taken line rest)) (lines_rest said taken items [] (line ++ rest) lines)

pub reads_to_failure : {A : Type 0} (said : List ℕ → Option A) (most : ℕ) (old left left' : Option (List ℕ)) (items : List A) (number : ℕ)
    (line : List ℕ) → Reading said old left items number → Consumes left left' line → IsUnbroken line → length line ≤ most
    → IfKnown old left' (λ input rest. ReadToFailure said most input rest items)
reads_to_failure said most old left left' items number line r more whole few =
    known old left' (r.taken ++ line) _ (consumes_more old left left' r.taken line r.read more) (λ input rest is e. record {
      taken = r.taken ++ line;
      parts = e;
      rest = line;
      lines = lines_rest said r.taken items [] line r.lines;
      no_more = whole;
      short = few;
    })

-- the lines so far are lines at the beginning
pub reads_partly : {A : Type 0} (said : List ℕ → Option A) (old left left' : Option (List ℕ)) (items : List A) (number : ℕ) (line : List ℕ)
    → Reading said old left items number → Consumes left left' line → IfKnown old left' (λ input rest. ReadPartly said input items)
reads_partly said old left left' items number line r more =
    known old left' (r.taken ++ line) _ (consumes_more old left left' r.taken line r.read more) (λ input rest is e. record {
      rest = line ++ rest;
      lines = front_says said r.taken line rest input items r.lines e;
    })

-- ---- a bad line

-- whatever was read of it
stops : {A : Type 0} (said : List ℕ → Option A) (most : ℕ) (old left left' : Option (List ℕ)) (items : List A) (number : ℕ) (line : List ℕ)
    → Reading said old left items number → Consumes left left' line → IsOfOneLine most line
    → ((rest : List ℕ) → left' ≡ Some rest → BeginsBadly said (line ++ rest))
    → IfKnown old left' (λ input rest. ReadToBadLine said most input rest items number)
stops said most old left left' items number line r more one bad =
    known old left' (r.taken ++ line) _ (consumes_more old left left' r.taken line r.read more) (λ input rest is e. record {
      rest = line ++ rest;
      lines = front_says said r.taken line rest input items r.lines e;
      bad = bad rest is;
      taken = line;
      of_line = one;
      parts = refl;
      place = r.place;
    })

cut_of_line : (most : ℕ) (line : List ℕ) → IsUnbroken line → length line ≤ most → IsOfOneLine most line
cut_of_line most line whole few =
    record { line = line; last = []; parts = sym (append-nil line); whole = whole; few = few; one = omega arith }

of_line : (most : ℕ) (line : List ℕ) (b : ℕ) → IsUnbroken line → length line ≤ most → IsOfOneLine most (line ++ b ∷ [])
of_line most line b whole few = record { line = line; last = b ∷ []; parts = refl; whole = whole; few = few; one = omega arith }

-- the bytes end in it
pub stops_cut : {A : Type 0} (said : List ℕ → Option A) (most : ℕ) (old left left' : Option (List ℕ)) (items : List A) (number : ℕ)
    (line : List ℕ) → Reading said old left items number → Consumes left left' line → IsUnbroken line → length line ≤ most → line ≢ []
    → IsAtEnd left' → IfKnown old left' (λ input rest. ReadToBadLine said most input rest items number)
stops_cut said most old left left' items number line r more whole few some at_end =
    stops said most old left left' items number line r more (cut_of_line most line whole few) (λ rest is.
    let nothing : rest ≡ [] = subst IsAtEnd is at_end in
    subst (BeginsBadly said) (sym (ap (λ (r' : List ℕ). line ++ r') nothing ∙ append-nil line)) (cut_line said line whole some))

-- it is too long
pub stops_long : {A : Type 0} (said : List ℕ → Option A) (most : ℕ) (old left left' : Option (List ℕ)) (items : List A) (number : ℕ)
    (line : List ℕ) (b : ℕ) → Reading said old left items number
    → ((short : List ℕ) (a : A) → said short ≡ Some a → length short ≤ most)
    → Consumes left left' (line ++ b ∷ []) → IsUnbroken (line ++ b ∷ []) → length line ≡ most
    → IfKnown old left' (λ input rest. ReadToBadLine said most input rest items number)
stops_long said most old left left' items number line b r short more whole long =
    stops said most old left left' items number (line ++ b ∷ []) r more
    (of_line most line b (unbroken_front line (b ∷ []) whole) (omega (arith, long))) (λ rest is.
    long_line said most (line ++ b ∷ []) rest short whole (omega (arith, long, length-append line (b ∷ []))))

-- it says nothing
pub stops_unsaid : {A : Type 0} (said : List ℕ → Option A) (most : ℕ) (old left left' : Option (List ℕ)) (items : List A) (number : ℕ)
    (line : List ℕ) → Reading said old left items number → Consumes left left' (line ++ 10 ∷ []) → IsUnbroken line → length line ≤ most
    → said line ≡ None → IfKnown old left' (λ input rest. ReadToBadLine said most input rest items number)
stops_unsaid said most old left left' items number line r more whole few unsaid =
    stops said most old left left' items number (line ++ 10 ∷ []) r more (of_line most line 10 whole few) (λ rest is.
    rw (append_assoc line (10 ∷ []) rest) (bad_line said line rest whole unsaid))

-- ---- however it ended, whole lines stand at the beginning

pub end_partly : {A : Type 0} (said : List ℕ → Option A) (input left : List ℕ) (items : List A) → ReadToEnd said input left items
    → ReadPartly said input items
end_partly said input left items r = record { rest = []; lines = r.lines }

pub bad_partly : {A : Type 0} (said : List ℕ → Option A) (most : ℕ) (input left : List ℕ) (items : List A) (number : ℕ)
    → ReadToBadLine said most input left items number → ReadPartly said input items
bad_partly said most input left items number r = record { rest = r.rest; lines = r.lines }

pub failure_partly : {A : Type 0} (said : List ℕ → Option A) (most : ℕ) (input left : List ℕ) (items : List A)
    → ReadToFailure said most input left items → ReadPartly said input items
failure_partly said most input left items r =
    record { rest = r.rest ++ left; lines = rw r.parts (lines_rest said r.taken items r.rest left r.lines) }

-- the lines that were read are lines at the beginning, and what is left follows them
pub reads_all : {A : Type 0} (said : List ℕ → Option A) (old left : Option (List ℕ)) (items : List A) (number : ℕ)
    → Reading said old left items number → IfKnown old left (λ input rest. LinesSay said input items rest)
reads_all said old left items number r =
    known old left r.taken _ r.read (λ input rest is e. subst (λ (b : List ℕ). LinesSay said b items rest) (sym e)
    (lines_rest said r.taken items [] rest r.lines))
