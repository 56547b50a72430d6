-- A part of a list that may go around its end.
use Rattle.std.proofs.Common.{◌≡◌, ℕ, ◌+◌, ◌-◌, ◌%◌, ◌<◌, ◌≤◌, ◌⊎◌, List, [], ◌∷◌, ◌++◌, length, get_or, set, refl, ap, ◌∙◌, ap₂, inl, inr}
use Rattle.std.proofs.Common.{mod-eq_of_lt, arith, length-append, length-drop, length-set, length-take-le, get_or-drop, get_or-take}
use native.Mathlib.Nat.{mod-eq-sub-mod, mod-add-mod}
use Rattle.std.proofs.lemmas.List.{same_lists, drop_more, get_or_append_left, get_or-append_right}
use Rattle.std.proofs.lemmas.Bool.{cases_lt}
use Rattle.std.proofs.lemmas.Grind.{common_steps}
use Rattle.queue.specs.Pairs.{window}

-- a place below twice the length goes around once at most
pub around_once : (N j : ℕ) → j < N + N → ((j < N) × (j % N ≡ j)) ⊎ ((N ≤ j) × (j % N ≡ j - N))
around_once N j below = elim (cases_lt j N) [
  | inl low ↦ inl (low, mod-eq_of_lt low)
  | inr high ↦ inr (high, mod-eq-sub-mod high ∙ mod-eq_of_lt (omega arith))
]

pub window-none : {A : Type 0} (k : ℕ) (xs : List A) → window k 0 xs ≡ []
unfolding window
window-none k xs = refl

module _ {A : Type 0} (N k n : ℕ) (xs : List A) (inside : k < N) (fits : n ≤ N) (all : length xs ≡ N) where
  pub length-window : length (window k n xs) ≡ n
  unfolding window
  length-window = length-take-le n _ (simp (length-append, length-drop) (omega (arith, length-take-le k xs (omega arith))))

  -- the element at a place of the window
  pub get_or-window : (i : ℕ) (d : A) → i < n → get_or (window k n xs) i d ≡ get_or xs ((k + i) % N) d
  unfolding window
  get_or-window i d within =
      let length_behind = length-drop k xs in
      get_or-take n _ i d within ∙ elim (around_once N (k + i) (omega arith)) [
        | inl straight ↦ get_or_append_left _ _ d i (omega arith) ∙ get_or-drop k xs i d ∙ ap (λ j. get_or xs j d) (omega arith)
        | inr around ↦
            get_or-append_right _ _ (N - k) i d (omega arith) (omega arith) ∙ get_or-take k xs _ d (omega arith)
            ∙ ap (λ j. get_or xs j d) (omega arith)
      ]

module _ {A : Type 0} (N k n : ℕ) (xs : List A) (inside : k < N) (fits : n ≤ N) (all : length xs ≡ N) where
  -- an element written behind the window makes it longer by this one
  pub window_set : (x : A) → n < N → window k (n + 1) (set xs ((k + n) % N) x) ≡ window k n xs ++ x ∷ []
  window_set x room =
      let ys = set xs ((k + n) % N) x in
      let all_written = length-set xs ((k + n) % N) x ∙ all in
      let length_old = length-window N k n xs inside fits all in
      let length_new = length-window N k (n + 1) ys inside (omega arith) all_written in
      let written = around_once N (k + n) (omega arith) in
      same_lists _ _ (grind (arith, common_steps)) (λ i d within. grind (
        arith,
        common_steps,
        around_once N (k + i) (omega arith),
        get_or-window N k n xs inside fits all i d,
        get_or-window N k (n + 1) ys inside (omega arith) all_written i d,
      ))

  -- a window is its first element, then the window from the next place on
  pub window_first : (d : A) → 0 < n → window k n xs ≡ get_or xs k d ∷ window ((k + 1) % N) (n - 1) xs
  window_first d some =
      let next_inside : (k + 1) % N < N = grind (arith, around_once N (k + 1) (omega arith)) in
      let length_old = length-window N k n xs inside fits all in
      let length_new = length-window N ((k + 1) % N) (n - 1) xs next_inside (omega arith) all in
      let old_at = get_or-window N k n xs inside fits all in
      drop_more _ 0 d (omega arith)
      ∙ ap₂ ◌∷◌ (grind (arith, old_at 0 d, around_once N k)) (same_lists _ _ (simp length-drop (omega arith)) (λ i e within. grind (
        arith,
        length-drop 1 (window k n xs),
        get_or-drop 1 (window k n xs) i e,
        mod-add-mod (k + 1) N i,
        old_at (1 + i) e,
        get_or-window N _ (n - 1) xs next_inside (omega arith) all i e,
      )))
