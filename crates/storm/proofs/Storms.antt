-- How many events there are once each worker of a storm made its calls, or met the end of the history.
use Rattle.std.proofs.Common.{◌≡◌, ℕ, ◌+◌, ◌*◌, ◌≤◌, ◌⊎◌, List, [], ◌∷◌, ◌++◌, All, sum_by, length, length-append, inl, inr, arith, ap}
use Rattle.std.proofs.lemmas.List.Elements.{All-cons, All-head, All-nil, All-tail}
use Rattle.std.proofs.lemmas.List.Sums.{sum_by-cons, sum_by_push}
use mathlib.Core.List.{IsPrefix}
use Rattle.dmatypes.specs.declared.reply.Event.{Event}
use Rattle.manager.specs.Kept.{AllSaw, Share}
use Rattle.storm.specs.Storms.{HasMade}

prefix_length : {A : Type 0} (xs ys : List A) → IsPrefix xs ys → length xs ≤ length ys
prefix_length xs ys (rest, e) = omega (arith, ap length e, length-append xs rest)

-- what all of a list have, all but the last have, and the last
pub split_last : {A : Type 0} (P : A → Type 0) (xs : List A) (x : A) → All P (xs ++ x ∷ []) → All P xs × P x
split_last P [] x all = (All-nil P, All-head P x [] all)
split_last P (y ∷ ys) x all =
    let rest = split_last P ys x (All-tail P y (ys ++ x ∷ []) all) in (All-cons P y ys (All-head P y (ys ++ x ∷ []) all) rest.0, rest.1)

-- a share that found no room saw a history as long as the room, and the one handed out is no shorter
counted : (room calls : ℕ) (history : List Event) (s : Share) → IsPrefix s.seen history → HasMade room calls s
    → (s.calls ≡ calls) ⊎ (room ≤ length history)
counted room calls history s saw (inl all) = inl all
counted room calls history s saw (inr long) = inr (omega (arith, long, prefix_length s.seen history saw))

one_more : {R : Type 0} (a b n m calls : ℕ) → m ≡ n + 1 → (a ≡ calls) ⊎ R → (b ≡ n * calls) ⊎ R → (a + b ≡ m * calls) ⊎ R
one_more a b n m calls next (inr r) other = inr r
one_more a b n m calls next (inl e) (inr r) = inr r
one_more a b n m calls next (inl e) (inl f) = inl (rw (next, e, f) (grind arith))

-- all made their calls, or the history is as long as the room
all_counted : (room calls : ℕ) (history : List Event) (shares : List Share) → AllSaw history shares → All (HasMade room calls) shares
    → (sum_by (λ (s : Share). s.calls) shares ≡ length shares * calls) ⊎ (room ≤ length history)
all_counted room calls history [] saw made = inl (grind arith)
all_counted room calls history (s ∷ rest) saw made =
    let P : Share → Type 0 = λ s. IsPrefix s.seen history in
    rw (sum_by-cons (λ (s : Share). s.calls) s rest)
    (one_more s.calls (sum_by (λ (s : Share). s.calls) rest) (length rest) (length (s ∷ rest)) calls (omega arith)
    (counted room calls history s (All-head P s rest saw) (All-head (HasMade room calls) s rest made))
    (all_counted room calls history rest (All-tail P s rest saw) (All-tail (HasMade room calls) s rest made)))

-- the room is exactly that for the calls of the set-up and of the workers, so the history is as long as the room
pub all_made : (workers calls first room : ℕ) (history : List Event) (shares : List Share) (mine : Share)
    → room ≡ first + calls * workers
    → length shares ≡ workers
    → All (HasMade room calls) shares
    → HasMade room first mine
    → AllSaw history (shares ++ mine ∷ [])
    → length history ≡ sum_by (λ (s : Share). s.calls) (shares ++ mine ∷ [])
    → length history ≤ room
    → length history ≡ room
all_made workers calls first room history shares mine size len made made' saw sum few =
    let P : Share → Type 0 = λ s. IsPrefix s.seen history in
    let parts = split_last P shares mine saw in
    elim (all_counted room calls history shares parts.0 made) [
      | inl each ↦ elim (counted room first history mine parts.1 made') [
        | inl own ↦ grind (arith, size, len, sum, each, own, sum_by_push (λ (s : Share). s.calls) shares mine)
        | inr long ↦ omega (arith, long, few)
      ]
      | inr long ↦ omega (arith, long, few)
    ]
