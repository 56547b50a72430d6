-- Through the pieces in their order, to the first aligned range: no piece that was passed has room for one.
use Rattle.piece_tree.proofs.Names.{◌≡◌, ℕ, zero, suc, ◌+◌, ◌*◌, ◌<◌, ◌≤◌, max, Bool, true, false, List, [], ◌∷◌, ◌++◌, length, Option}
use Rattle.piece_tree.proofs.Names.{Some, None, IsSome, refl, inl, inr, ap, ◌∙◌, subst, arith, append_assoc, length-append, slice_set}
use Rattle.piece_tree.proofs.Names.{append-nil, AllByRecursion, Slab, get, Node, Top, Piece, Step, AreSorted, IsPiece, HasNoRoom, IsFound}
use Rattle.piece_tree.proofs.Names.{IsNarrowBefore, IsRoundUp, IsStartIn, Look, Shape, Empty, Fork, IsWhole, Stands, at_root, contents}
use Rattle.piece_tree.proofs.Names.{height_of, items, joint_at, longest_of, fork, root_of, top_of, Above, Whole, Beside, AreAbove, AreSteps}
use Rattle.piece_tree.proofs.Names.{GoesBehind, IsHand, IsStepAbove, back, front, plug, step_at, within}
use Rattle.piece_tree.proofs.shapes.Forks.{fork-height}
use Rattle.piece_tree.proofs.shapes.Led.{Place, Roots, placed, placed-all, placed-few, placed-is, placed-low, placed-there, steps_more}
use Rattle.piece_tree.proofs.shapes.Led.{under}
use Rattle.piece_tree.proofs.shapes.Mended.{plug-high, plug-items}
use Rattle.piece_tree.proofs.shapes.Rising.{on-back, within-back, within-front, within-plug}
use Rattle.piece_tree.proofs.shapes.Room.{none_between, none_raised, none_short}
use Rattle.piece_tree.proofs.shapes.Sorted.{all_append, all_left, ends_below, plug-parts, sorted_at, sorted_back, sorted_front}
use Rattle.piece_tree.proofs.shapes.Tall.{contents_is}

-- ---- what was gone through, and what is left

-- of a tree whose left was passed, or wasn't: the pieces that were gone through, and those that weren't
abbrev pub gone : (passed : Bool) → Shape → List Piece
gone true Empty = []
gone true (Fork key p l r) = items l
gone false t = []

abbrev pub rest : (passed : Bool) → Shape → List Piece
rest true Empty = []
rest true (Fork key p l r) = p ∷ items r
rest false t = items t

-- so far: no piece before the place has room, and those that are left begin at the raised floor or behind
pub record Fits (way : List Step) (at : Option ℕ) (depth low : ℕ) (passed : Bool) (floor pages unit : ℕ) (t : Shape) : Type 0 where
  pub path : Above
  pub there : Shape
  pub is : t ≡ plug path there
  pub root : at ≡ root_of there
  pub some : IsSome at
  pub steps : AreSteps way depth path
  pub none : AllByRecursion (HasNoRoom floor pages unit) (front path ++ gone passed there)
  pub from : ℕ
  pub low_is : low ≡ max floor from
  pub sorted : AreSorted from (rest passed there ++ back path)

abbrev pub IsFitting : Slab Node → Top → List Step → Option ℕ → ℕ → ℕ → Bool → ℕ → ℕ → ℕ → Type 0
IsFitting nodes root way at depth low passed floor pages unit =
    ((t : Shape) → IsWhole nodes root t → Fits way at depth low passed floor pages unit t) × (length way ≡ 14)

some_root : (t : Shape) → 1 ≤ longest_of t → IsSome (root_of t)
some_root Empty h = absurd (omega arith)
some_root (Fork key p l r) h = refl

pub fitting_start : (nodes : Slab Node) (root : Top) (way : List Step) (floor pages unit : ℕ) → length way ≡ 14 → 1 ≤ pages
    → pages ≤ root.longest → (at : Option ℕ) → at ≡ root.root → IsFitting nodes root way at 0 floor false floor pages unit
fitting_start nodes root way floor pages unit e pos h at at_it = (
  (λ t w.
      let r : at ≡ root_of t = at_it ∙ ap (λ (v : Top). v.root) w.here in
      record {
        path = Whole;
        there = t;
        is = refl;
        root = r;
        some = rw r (some_root t (omega (arith, h, ap (λ (v : Top). v.longest) w.here)));
        steps = refl;
        none = tt;
        from = 0;
        low_is = omega arith;
        sorted = rw append-nil w.sorted;
      }),
  e,
)

-- ---- how much is left: each key before that wasn't tested counts once, and each of a tree that wasn't gone down twice

abbrev size : Look → Option ℕ → ℕ
size look root = length (contents look 14 root)

abbrev size_behind : Look → Option Node → ℕ
size_behind look None = 0
size_behind look (Some node) = size look node.right.root

abbrev counted : (before : Bool) → ℕ → ℕ
counted true n = 1 + 2 * n
counted false n = 0

-- above a place
abbrev left_above : Look → List Step → ℕ → ℕ
left_above look way zero = 0
left_above look way (suc d) = counted (step_at way d).before (size_behind look (look (step_at way d).key)) + left_above look way d

abbrev left_here : Look → (passed : Bool) → Option ℕ → ℕ
left_here look true at = 1 + 2 * size_behind look (at_root look at)
left_here look false at = 2 * size look at

abbrev pub how_much : Look → List Step → Option ℕ → ℕ → (passed : Bool) → ℕ
how_much look way at depth passed = left_above look way depth + left_here look passed at

-- the same of shapes
abbrev above : Above → ℕ
above Whole = 0
above (Beside before key p o up) = counted before (length (items o)) + above up

abbrev here : (passed : Bool) → Shape → ℕ
here true Empty = 1
here true (Fork key p l r) = 1 + 2 * length (items r)
here false t = 2 * length (items t)

size_is : (look : Look) (t : Shape) → Stands look t → height_of t ≤ 14 → size look (root_of t) ≡ length (items t)
size_is look t s h = ap length (contents_is look 14 (root_of t) t refl s h)

behind_is : (look : Look) (key : ℕ) (b : Bool) (p : Piece) (t o : Shape) → look key ≡ Some (joint_at b p (top_of t) (top_of o))
    → Stands look o → height_of o ≤ 14 → counted b (size_behind look (look key)) ≡ counted b (length (items o))
behind_is look key true p t o e s h = rw (e, size_is look o s h) refl
behind_is look key false p t o e s h = refl

above_is : (look : Look) (way : List Step) (depth : ℕ) (path : Above) (t : Shape) → AreSteps way depth path → AreAbove look path t
    → height_of (plug path t) ≤ 14 → left_above look way depth ≡ above path
above_is look way depth Whole t s a h = ap (left_above look way) s
above_is look way depth (Beside b key p o up) t s a h =
    let e : depth ≡ suc s.0 = omega (arith, s.1) in
    let low : height_of o ≤ 14 = omega (arith, h, plug-high up (fork b key p t o), fork-height) in
    rw (e, s.2, behind_is look key b p t o a.0 a.3 low, above_is look way s.0 up (fork b key p t o) s.3 a.4 h) refl

here_is : (look : Look) (b : Bool) (at : Option ℕ) (t : Shape) → at ≡ root_of t → Stands look t → height_of t ≤ 14
    → left_here look b at ≡ here b t
here_is look true at Empty e s h = rw e
here_is look true at (Fork key p l r) e s h = rw (e, s.0, size_is look r s.4 (omega (arith, h))) refl
here_is look false at t e s h = rw (e, size_is look t s h) refl

above_within : (inner up : Above) → above (within inner up) ≡ above inner + above up
above_within Whole up = omega arith
above_within (Beside b key p o inner) up = omega (arith, above_within inner up)

here_some : (b : Bool) (key : ℕ) (p : Piece) (l r : Shape) → 1 ≤ here b (Fork key p l r)
here_some true key p l r = omega arith
here_some false key p l r = omega (arith, length-append {A = Piece})

here_more : (b : Bool) (key : ℕ) (p : Piece) (l r : Shape) → 2 * length (items r) < here b (Fork key p l r)
here_more true key p l r = omega arith
here_more false key p l r = omega (arith, length-append {A = Piece})

-- ---- lists

rest_sorted : (b : Bool) (from key : ℕ) (p : Piece) (l r : Shape) (ys : List Piece) → AreSorted from (rest b (Fork key p l r) ++ ys)
    → (from ≤ p.first) × IsPiece p × AreSorted (p.last + 1) (items r ++ ys)
rest_sorted true from key p l r ys s = s
rest_sorted false from key p l r ys s = sorted_at from (items l) p (items r ++ ys) (rw append_assoc at s)

-- ---- at a place

abbrev pub fits_at : {way : List Step} {at : Option ℕ} {depth low : ℕ} {passed : Bool} {floor pages unit : ℕ} {t : Shape}
    → Fits way at depth low passed floor pages unit t → Place at t
fits_at g = record { path = g.path; there = g.there; is = g.is; root = g.root }

module _ {nodes : Slab Node} {root : Top} {way : List Step} {at : Option ℕ} {depth low : ℕ} {passed : Bool} {floor pages unit : ℕ}
    {t : Shape} (w : IsWhole nodes root t) (g : Fits way at depth low passed floor pages unit t) where
  much : how_much (get nodes) way at depth passed ≡ above g.path + here passed g.there
  much =
      let s = placed w (fits_at g) in
      let low = placed-low w (fits_at g) in
      let a = above_is (get nodes) way depth g.path g.there g.steps s.1 low in
      let b = here_is (get nodes) passed at g.there g.root s.0 (omega (arith, low, plug-high g.path g.there)) in
      omega (arith, a, b)

  pub fit-end : at ≡ None → ⊥
  fit-end e = let s = g.some in absurd (cc)

-- another place, from which on less is left
abbrev pub Next : {way : List Step} {at : Option ℕ} {depth low : ℕ} {passed : Bool} {floor pages unit : ℕ} {t : Shape}
    → Fits way at depth low passed floor pages unit t → List Step → Option ℕ → ℕ → ℕ → Bool → Type 0
Next {passed = passed} {floor = floor} {pages = pages} {unit = unit} {t = t} g then to deep next by =
    (x : Fits then to deep next by floor pages unit t) × (above x.path + here by x.there < above g.path + here passed g.there)

module _ {nodes : Slab Node} {root : Top} {way : List Step} {at : Option ℕ} {depth low : ℕ} {passed : Bool} {floor pages unit : ℕ}
    {t : Shape} (w : IsWhole nodes root t) (g : Fits way at depth low passed floor pages unit t) where
  pub fit-smaller : (then : List Step) (to : Option ℕ) (deep next : ℕ) (by : Bool) → Next g then to deep next by
      → how_much (get nodes) then to deep by < how_much (get nodes) way at depth passed
  fit-smaller then to deep next by n = omega (arith, much w g, much w n.0, n.1)

  module _ {key : ℕ} (e : at ≡ Some key) where
    pub fit-there : IsSome (get nodes key)
    fit-there = placed-there w (fits_at g) e

    pub fit-few : depth < 14
    fit-few = placed-few w (fits_at g) e way depth g.steps

    module _ {node : Node} (f : get nodes key ≡ Some node) where
      abbrev y : Roots key node g.there
      y = under w (fits_at g) e f

      sorted-at : (g.from ≤ node.piece.first) × IsPiece node.piece × AreSorted (node.piece.last + 1) (items y.r ++ back g.path)
      sorted-at = rest_sorted passed g.from key node.piece y.l y.r (back g.path)
          (subst (λ x. AreSorted g.from (rest passed x ++ back g.path)) y.is g.sorted)

      pub fit-piece : IsPiece node.piece
      fit-piece = sorted-at.1

      pub fit-low : floor ≤ 1099511627776 → low ≤ 1099511627776
      fit-low h = omega (arith, g.low_is, h, sorted-at.0, sorted-at.1)

      pub fit-shape : t ≡ plug g.path (Fork key node.piece y.l y.r)
      fit-shape = placed-is w (fits_at g) e f

      -- before the piece
      abbrev NoneBefore : Type 0
      NoneBefore = AllByRecursion (HasNoRoom floor pages unit) (front g.path ++ items y.l)

      before-passed : passed ≡ true → NoneBefore
      before-passed b = subst (λ x. AllByRecursion (HasNoRoom floor pages unit) (front g.path ++ x))
          (ap (gone passed) y.is ∙ ap (λ x. gone x (Fork key node.piece y.l y.r)) b) g.none

      module _ (new : passed ≡ false) where
        none-front : AllByRecursion (HasNoRoom floor pages unit) (front g.path)
        none-front = all_left (HasNoRoom floor pages unit) (front g.path) (gone passed g.there) g.none

        sorted-new : AreSorted g.from (items y.l ++ node.piece ∷ (items y.r ++ back g.path))
        sorted-new = rw append_assoc at (subst (λ x. AreSorted g.from (x ++ back g.path))
            (ap (λ x. rest x g.there) new ∙ ap items y.is) g.sorted)

        before-short : node.left.longest < pages → NoneBefore
        before-short h = all_append (HasNoRoom floor pages unit) (front g.path) (items y.l) none-front
            (none_short floor pages unit y.l (omega (arith, h, ap (λ (v : Top). v.longest) y.left)))

        before-under : (least : ℕ) → IsRoundUp low unit least → node.piece.first < least + pages → NoneBefore
        before-under least up short =
            let ends = ends_below g.from node.piece.first (items y.l) node.piece (items y.r ++ back g.path) sorted-new (omega arith) in
            all_append (HasNoRoom floor pages unit) (front g.path) (items y.l) none-front
            (none_raised floor g.from g.from pages unit (items y.l)
            (sorted_front g.from (items y.l) (node.piece ∷ (items y.r ++ back g.path)) sorted-new) (omega arith)
            (none_between (max floor g.from) pages unit least node.piece.first (items y.l) (rw g.low_is at up) short ends))

        -- down before the piece
        pub go-before : length way ≡ 14 → 1 ≤ node.left.longest → (to : Option ℕ) → to ≡ node.left.root
            → Next g (slice_set way depth (record { key = key; before = true })) to (depth + 1) low passed
        go-before long some to at_it =
            let r : to ≡ root_of y.l = at_it ∙ ap (λ (v : Top). v.root) y.left in (
              record {
                path = Beside true key node.piece y.r g.path;
                there = y.l;
                is = fit-shape;
                root = r;
                some = rw r (some_root y.l (omega (arith, some, ap (λ (v : Top). v.longest) y.left)));
                steps = steps_more way depth key true node.piece y.r g.path g.steps (omega (arith, long, fit-few));
                none = rw (new, append-nil) none-front;
                from = g.from;
                low_is = g.low_is;
                sorted = rw new sorted-new;
              },
              (let a = ap (λ x. here x g.there) new ∙ ap (here false) y.is in
                  let b = ap (λ x. here x y.l) new in
                  omega (arith, a, b, length-append {A = Piece})),
            )

      before-none : (passed ≡ false → IsNarrowBefore low pages unit node) → NoneBefore
      before-none narrow = by_state passed refl
        where
          by_state : (b : Bool) → passed ≡ b → NoneBefore
          by_state true b = before-passed b
          by_state false b = elim (narrow b) [ inl h ↦ before-short b h | inr h ↦ before-under b h.0 h.1 h.2 ]

      -- the piece has room
      pub fit-here : (start : ℕ) → (passed ≡ false → IsNarrowBefore low pages unit node) → IsStartIn low pages unit node.piece start
          → (h : IsHand way (record { key = key; depth = depth }) t) × IsFound floor pages unit (items t) start h.piece
      fit-here start narrow s =
          let same : max node.piece.first low ≡ max node.piece.first floor = omega (arith, g.low_is, sorted-at.0) in (
            record { path = g.path; piece = node.piece; left = y.l; right = y.r; is = fit-shape; steps = g.steps },
            record {
              before = front g.path ++ items y.l;
              behind = items y.r ++ back g.path;
              parts = placed-all w (fits_at g) e f;
              none = before-none narrow;
              here = record { free = s.free; up = rw same at s.up; room = s.room };
            },
          )

      -- the piece has none
      module _ (narrow : passed ≡ false → IsNarrowBefore low pages unit node) (no : HasNoRoom low pages unit node.piece) where
        none : NoneBefore
        none = before-none narrow

        no-here : HasNoRoom floor pages unit node.piece
        no-here free x a b c = no free x (omega (arith, a, g.low_is, sorted-at.0)) b c

        raised : (next : ℕ) → next ≡ max low (node.piece.last + 1) → next ≡ max floor (node.piece.last + 1)
        raised next e = omega (arith, e, g.low_is, sorted-at.0, sorted-at.1)

        none-with : AllByRecursion (HasNoRoom floor pages unit) (front g.path ++ (items y.l ++ node.piece ∷ []))
        none-with = rw append_assoc at
            (all_append (HasNoRoom floor pages unit) (front g.path ++ items y.l) (node.piece ∷ []) none (no-here, tt))

        -- down behind the piece
        pub go-behind : length way ≡ 14 → (next : ℕ) → next ≡ max low (node.piece.last + 1) → (by : Bool) → by ≡ false
            → 1 ≤ node.right.longest
            → (to : Option ℕ) → to ≡ node.right.root
            → Next g (slice_set way depth (record { key = key; before = false })) to (depth + 1) next by
        go-behind long next e by new some to at_it =
            let r : to ≡ root_of y.r = at_it ∙ ap (λ (v : Top). v.root) y.right in (
              record {
                path = Beside false key node.piece y.l g.path;
                there = y.r;
                is = fit-shape;
                root = r;
                some = rw r (some_root y.r (omega (arith, some, ap (λ (v : Top). v.longest) y.right)));
                steps = steps_more way depth key false node.piece y.l g.path g.steps (omega (arith, long, fit-few));
                none = rw (new, append-nil) none-with;
                from = node.piece.last + 1;
                low_is = raised next e;
                sorted = rw new sorted-at.2;
              },
              (let a = ap (here passed) y.is in
                  let b = ap (λ x. here x y.r) new in
                  omega (arith, a, b, here_more passed key node.piece y.l y.r)),
            )

        -- nothing behind it either
        module _ (short : node.right.longest < pages) where
          none-there : AllByRecursion (HasNoRoom floor pages unit) ((front g.path ++ items y.l) ++ node.piece ∷ items y.r)
          none-there = all_append (HasNoRoom floor pages unit) (front g.path ++ items y.l) (node.piece ∷ items y.r) none
              (no-here, none_short floor pages unit y.r (omega (arith, short, ap (λ (v : Top). v.longest) y.right)))

          pub none-all : GoesBehind g.path → AllByRecursion (HasNoRoom floor pages unit) (items t)
          none-all on = subst (λ x. AllByRecursion (HasNoRoom floor pages unit) x)
              (cc (append-nil (items y.r), on-back g.path on, placed-all w (fits_at g) e f)) none-there

          -- up to the next piece
          module _ {up : ℕ} (s : IsStepAbove way up g.path) (next : ℕ) (high : next ≡ max low (node.piece.last + 1)) where
            abbrev inside : Shape
            inside = plug s.inner g.there

            no-back : back s.inner ≡ []
            no-back = on-back s.inner s.on

            inside-items : front s.up ++ items inside ≡ (front g.path ++ items y.l) ++ node.piece ∷ items y.r
            inside-items =
                let a : items inside ≡ front s.inner ++ items g.there =
                plug-items s.inner g.there ∙ plug-parts s.inner (items g.there) ∙ rw (no-back, append-nil) refl in
                let b : front g.path ≡ front s.up ++ front s.inner =
                ap front s.is ∙ within-front s.inner (Beside true s.key s.piece s.other s.up) in
                ap (λ x. front s.up ++ x) (a ∙ ap (λ x. front s.inner ++ items x) y.is) ∙ rw b (simp append_assoc)

            back-is : back g.path ≡ s.piece ∷ (items s.other ++ back s.up)
            back-is = cc (ap back s.is, within-back s.inner (Beside true s.key s.piece s.other s.up), no-back)

            pub go-above : (to : Option ℕ) → to ≡ Some s.key → (by : Bool) → by ≡ true → Next g way to up next by
            go-above to at_it by old = (
              record {
                path = s.up;
                there = Fork s.key s.piece inside s.other;
                is = g.is ∙ ap (λ x. plug x g.there) s.is ∙ within-plug s.inner (Beside true s.key s.piece s.other s.up) g.there;
                root = at_it;
                some = rw at_it refl;
                steps = s.steps;
                none = rw (old, inside-items) none-there;
                from = node.piece.last + 1;
                low_is = raised next high;
                sorted = rw old (rw back-is at (sorted_back (node.piece.last + 1) (items y.r) (back g.path) sorted-at.2));
              },
              (let a = ap (here passed) y.is in
                  let d = ap (λ x. here x (Fork s.key s.piece inside s.other)) old in
                  let b = ap above s.is ∙ above_within s.inner (Beside true s.key s.piece s.other s.up) in
                  omega (arith, a, b, d, here_some passed key node.piece y.l y.r)),
            )
