-- Words of one frame replaced, in the middle of the pool's list of words.
use Rattle.std.proofs.Common.{◌≡◌, ℕ, ◌+◌, ◌-◌, ◌*◌, ◌<◌, ◌≤◌, List, ◌++◌, length, take, drop, length-append, length-drop, get_or, ap, sym}
use Rattle.std.proofs.Common.{◌∙◌, subst, ⊎_elim, arith}
use Rattle.std.proofs.Math.Seq.{take-length}
use Rattle.std.proofs.lemmas.List.{take-append-le, length-take-le, get_or-take, get_or-drop, get_or_append_left, get_or-append_right}
use Rattle.std.proofs.lemmas.Bool.{cases_lt}
use Rattle.tables.specs.declared.entries.TheConstants.{TABLE_ENTRIES}
use Rattle.tables.specs.Pool.{Moment, Pool, word, occurs, IsPool, KeepsOtherWords}

-- a list whose elements from a up to b were lent, and came back as others
abbrev pub put_back : ℕ → ℕ → List ℕ → List ℕ → List ℕ
put_back a b xs new = take a xs ++ (new ++ drop (b - a) (drop a xs))

-- a vector of so many elements then
abbrev pub patched : ℕ → ℕ → ℕ → List ℕ → List ℕ → List ℕ → List ℕ
patched limit a b xs ys new = take limit (put_back a b ys new ++ drop (length (put_back a b ys new)) xs)

length_put : (a b : ℕ) (xs new : List ℕ) → a ≤ b → b ≤ length xs → length new ≡ b - a → length (put_back a b xs new) ≡ length xs
length_put a b xs new le within long =
    omega (
      arith,
      length-append (take a xs) (new ++ drop (b - a) (drop a xs)),
      length-append new (drop (b - a) (drop a xs)),
      length-drop (b - a) (drop a xs),
      length-drop a xs,
      length-take-le a xs (omega arith),
    )

patched_is : (limit a b : ℕ) (xs ys new : List ℕ) → ys ≡ xs → limit ≡ length xs → a ≤ b → b ≤ length xs → length new ≡ b - a
    → patched limit a b xs ys new ≡ put_back a b xs new
patched_is limit a b xs ys new same all le within long =
    let size : length (put_back a b xs new) ≡ length xs = length_put a b xs new le within long in
    let whole : limit ≡ length (put_back a b xs new) = omega arith in
    ap (λ zs. patched limit a b xs zs new) same
    ∙ take-append-le limit (put_back a b xs new) (drop (length (put_back a b xs new)) xs) (omega arith)
    ∙ ap (λ n. take n (put_back a b xs new)) whole
    ∙ take-length (put_back a b xs new)

read_inside : (a b k : ℕ) (xs new : List ℕ) → a ≤ b → b ≤ length xs → length new ≡ b - a → k < b - a
    → get_or (put_back a b xs new) (a + k) 0 ≡ get_or new k 0
read_inside a b k xs new le within long k_in =
    let past : a + k - a ≡ k = omega arith in
    get_or-append_right (take a xs) (new ++ drop (b - a) (drop a xs)) a (a + k) 0 (length-take-le a xs (omega arith)) (omega arith)
    ∙ ap (λ n. get_or (new ++ drop (b - a) (drop a xs)) n 0) past
    ∙ get_or_append_left new (drop (b - a) (drop a xs)) 0 k (omega arith)

read_below : (a b i : ℕ) (xs new : List ℕ) → a ≤ length xs → i < a → get_or (put_back a b xs new) i 0 ≡ get_or xs i 0
read_below a b i xs new within low =
    get_or_append_left (take a xs) (new ++ drop (b - a) (drop a xs)) 0 i (omega (arith, length-take-le a xs within))
    ∙ get_or-take a xs i 0 low

read_above : (a b i : ℕ) (xs new : List ℕ) → a ≤ b → b ≤ length xs → length new ≡ b - a → b ≤ i
    → get_or (put_back a b xs new) i 0 ≡ get_or xs i 0
read_above a b i xs new le within long high =
    let place : a + (b - a + (i - a - (b - a))) ≡ i = omega arith in
    get_or-append_right (take a xs) (new ++ drop (b - a) (drop a xs)) a i 0 (length-take-le a xs (omega arith)) (omega arith)
    ∙ get_or-append_right new (drop (b - a) (drop a xs)) (b - a) (i - a) 0 long (omega arith)
    ∙ get_or-drop (b - a) (drop a xs) (i - a - (b - a)) 0
    ∙ get_or-drop a xs (b - a + (i - a - (b - a))) 0
    ∙ ap (λ n. get_or xs n 0) place

-- in a pool a run of words of a frame in use was replaced
pub record IsPatch (pool : Pool) (new : List ℕ) (table from : ℕ) (run : List ℕ) : Type 0 where
  pub keeps : (trail : List Moment) → IsPool (record pool { words = new; trail = trail })
  pub inside : (k : ℕ) → k < length run → word new table (from + k) ≡ get_or run k 0
  pub rest : KeepsOtherWords pool.words new table from (length run)

-- the words of such a pool, where the place of the run in the list is counted from the frame's number
pub patch : (limit n t i count : ℕ) (pool : Pool) (ys run : List ℕ) → n ≡ t → ys ≡ pool.words → limit ≡ length pool.words → IsPool pool
    → t < pool.frames → occurs t pool.free ≡ 0 → i + count ≤ TABLE_ENTRIES → length run ≡ count
    → IsPatch pool (patched limit (n * TABLE_ENTRIES + i) (n * TABLE_ENTRIES + i + count) pool.words ys run) t i run
unfolding word
patch limit n t i count pool ys run at same all ok t_in taken i_in long =
    let xs : List ℕ = pool.words in
    let a : ℕ = n * TABLE_ENTRIES + i in
    let b : ℕ = n * TABLE_ENTRIES + i + count in
    let within : b ≤ length xs = omega (arith, ok.fit) in
    let size : length run ≡ b - a = omega arith in
    let low : a ≤ b = omega arith in
    let is : patched limit a b xs ys run ≡ put_back a b xs run = patched_is limit a b xs ys run same all low within size in
    let inside : (k : ℕ) → k < length run → word (put_back a b xs run) t (i + k) ≡ get_or run k 0 =
    λ k k_in.
    let place : t * TABLE_ENTRIES + (i + k) ≡ a + k = omega arith in
    ap (λ p. get_or (put_back a b xs run) p 0) place ∙ read_inside a b k xs run low within size (omega arith) in
    let rest : KeepsOtherWords xs (put_back a b xs run) t i (length run) =
    λ f k k_in other.
    ⊎_elim
    (λ (l : f * TABLE_ENTRIES + k < a). read_below a b (f * TABLE_ENTRIES + k) xs run (omega arith) l)
    (λ (g : a ≤ f * TABLE_ENTRIES + k).
    ⊎_elim
    (λ (l : f * TABLE_ENTRIES + k < b). absurd (other (omega arith) (omega arith) (omega arith)))
    (λ (h : b ≤ f * TABLE_ENTRIES + k). read_above a b (f * TABLE_ENTRIES + k) xs run low within size h)
    (cases_lt (f * TABLE_ENTRIES + k) b))
    (cases_lt (f * TABLE_ENTRIES + k) a) in
    subst (λ zs. IsPatch pool zs t i run) (sym is) (record {
      keeps = λ trail. record {
        fit = length_put a b xs run low within size ∙ ok.fit;
        few = ok.few;
        once = ok.once;
        within = ok.within;
        zeroed = λ f free k k_in.
            rest f k k_in
            (λ e _ _. let one : occurs f pool.free ≡ occurs t pool.free = ap (λ x. occurs x pool.free) e in absurd (omega arith))
            ∙ ok.zeroed f free k k_in;
      };
      inside = inside;
      rest = rest;
    })

-- the same where what came back is as long as what was lent
pub patch_lent : (limit n t i count m : ℕ) (pool : Pool) (ys run : List ℕ) → n ≡ t → ys ≡ pool.words → limit ≡ length pool.words
    → IsPool pool → t < pool.frames → occurs t pool.free ≡ 0 → i + count ≤ TABLE_ENTRIES → m ≡ count
    → length run ≡ length (take m (drop (n * TABLE_ENTRIES + i) ys))
    → (length run ≡ count)
    × IsPatch pool (patched limit (n * TABLE_ENTRIES + i) (n * TABLE_ENTRIES + i + count) pool.words ys run) t i run
patch_lent limit n t i count m pool ys run at same all ok t_in taken i_in is lent =
    let long : length run ≡ count =
    lent ∙ length-take-le m (drop (n * TABLE_ENTRIES + i) ys)
    (omega (arith, length-drop (n * TABLE_ENTRIES + i) ys, ap (λ xs. length xs) same, ok.fit))
    ∙ is in
    (long, patch limit n t i count pool ys run at same all ok t_in taken i_in long)
