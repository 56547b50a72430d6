-- Ways down a tree.
use Rattle.std.specs.Bool.{IsTrue}
use Rattle.piece_tree.proofs.Names.{◌≡◌, ℕ, ◌+◌, ◌<◌, ◌≤◌, max, Bool, true, false, List, [], ◌∷◌, ◌++◌, length, Option, Some, None, refl}
use Rattle.piece_tree.proofs.Names.{ap, sym, ◌∙◌, arith, append_assoc, get_or-set_same, get_or-set_other, slice_set, IsSome, Slab}
use Rattle.piece_tree.proofs.Names.{get, Top, Piece, Node, Held, Step, AreSorted, Look, Shape, Empty, Fork, items, height_of, root_of}
use Rattle.piece_tree.proofs.Names.{top_of, joint, at_root, Stands, IsWhole, Above, Whole, Beside, plug, front, back, AreSteps, IsHand}
use Rattle.piece_tree.proofs.Names.{among, append-nil, AreAbove, HasAny, IsPiece, AllByRecursion, Lies, Reaches, nat_lt, nat_tests, inl, inr}
use Rattle.piece_tree.proofs.shapes.Forks.{is_there, none_empty}
use Rattle.piece_tree.proofs.shapes.Mended.{plug-items, plug_stands, steps_few}
use Rattle.piece_tree.proofs.shapes.Tall.{order}
use Rattle.piece_tree.proofs.shapes.Sorted.{all_append, all_left, all_right, plug-parts, sorted_at, ends_below, begins_above}

-- ---- what lies at a root

abbrev pub node_height : Option Node → ℕ
node_height None = 0
node_height (Some node) = 1 + max node.left.height node.right.height

-- as many as lie on the longest way down
pub root_height : (look : Look) (at : Option ℕ) (t : Shape) → at ≡ root_of t → Stands look t → node_height (at_root look at) ≡ height_of t
root_height look at Empty e s = rw e
root_height look at (Fork k p l r) e s = rw (e, s.0)

-- a lower tree
pub root_falls : (look : Look) (at to : Option ℕ) (t s : Shape) → at ≡ root_of t → Stands look t → to ≡ root_of s → Stands look s
    → height_of s < height_of t → node_height (at_root look to) < node_height (at_root look at)
root_falls look at to t s e x f y less = omega (arith, less, root_height look at t e x, root_height look to s f y)

-- a node, and the trees below it
pub record Roots (key : ℕ) (node : Node) (t : Shape) : Type 0 where
  pub l : Shape
  pub r : Shape
  pub is : t ≡ Fork key node.piece l r
  pub left : node.left ≡ top_of l
  pub right : node.right ≡ top_of r

pub roots : (look : Look) (key : ℕ) (node : Node) (t : Shape) → root_of t ≡ Some key → Stands look t → look key ≡ Some node
    → Roots key node t
roots look key node Empty e s f = absurd (cc)
roots look key node (Fork k p l r) e s f =
    let here = s.0 in
    let same : k ≡ key = cc in
    let at : look k ≡ Some node = cc in
    let is : node ≡ joint p (top_of l) (top_of r) = cc in
    record { l = l; r = r; is = rw (is, same) refl; left = rw is refl; right = rw is refl }

pub root_there : (look : Look) (key : ℕ) (t : Shape) → root_of t ≡ Some key → Stands look t → IsSome (look key)
root_there look key Empty e s = absurd (cc)
root_there look key (Fork k p l r) e s = let same : k ≡ key = cc in is_there (rw same at s.0)

-- ---- steps

-- steps further down are no matter
pub steps_kept : (way : List Step) (s : Step) (n d : ℕ) (up : Above) → AreSteps way d up → d ≤ n → AreSteps (slice_set way n s) d up
steps_kept way s n d Whole a h = a
steps_kept way s n d (Beside b key p o up) a h = (
  a.0,
  a.1,
  get_or-set_other way n a.0 s _ (omega (arith, a.1)) ∙ a.2,
  steps_kept way s n a.0 up a.3 (omega (arith, a.1)),
)

pub steps_more : (way : List Step) (depth key : ℕ) (b : Bool) (p : Piece) (o : Shape) (up : Above) → AreSteps way depth up
    → depth < length way → AreSteps (slice_set way depth (record { key = key; before = b })) (depth + 1) (Beside b key p o up)
steps_more way depth key b p o up s h = (depth, refl, get_or-set_same way depth _ _ h, steps_kept way _ depth depth up s (omega arith))

some_height : (t : Shape) (key : ℕ) → root_of t ≡ Some key → 1 ≤ height_of t
some_height Empty key e = absurd (cc)
some_height (Fork k p l r) key e = omega arith

-- ---- at a place of the whole

pub record Place (at : Option ℕ) (t : Shape) : Type 0 where
  pub path : Above
  pub there : Shape
  pub is : t ≡ plug path there
  pub root : at ≡ root_of there

-- all pieces, by one at a place
pub all_placed : (path : Above) (key : ℕ) (p : Piece) (l r : Shape)
    → items (plug path (Fork key p l r)) ≡ (front path ++ items l) ++ p ∷ (items r ++ back path)
all_placed path key p l r = plug-items path (Fork key p l r) ∙ plug-parts path (items l ++ p ∷ items r) ∙ simp append_assoc

-- or none
pub placed-none : {at : Option ℕ} {t : Shape} (x : Place at t) → at ≡ None → items t ≡ front x.path ++ back x.path
placed-none x e =
    let z = none_empty x.there (sym x.root ∙ e) in
    ap items x.is ∙ plug-items x.path x.there ∙ ap (λ y. among x.path (items y)) z ∙ plug-parts x.path [] ∙ simp append-nil

module _ {nodes : Slab Node} {root : Top} {at : Option ℕ} {t : Shape} (w : IsWhole nodes root t) (x : Place at t) where
  pub placed : Stands (get nodes) x.there × AreAbove (get nodes) x.path x.there
  placed = plug_stands (get nodes) x.path x.there (rw x.is at w.stands)

  pub placed-low : height_of (plug x.path x.there) ≤ 14
  placed-low = rw x.is at w.low

  module _ {key : ℕ} (e : at ≡ Some key) where
    pub placed-there : IsSome (get nodes key)
    placed-there = root_there (get nodes) key x.there (sym x.root ∙ e) placed.0

    pub placed-few : (way : List Step) (depth : ℕ) → AreSteps way depth x.path → depth < 14
    placed-few way depth s = omega (arith, steps_few way depth x.path x.there s, some_height x.there key (sym x.root ∙ e), placed-low)

    module _ {node : Node} (f : get nodes key ≡ Some node) where
      abbrev pub under : Roots key node x.there
      under = roots (get nodes) key node x.there (sym x.root ∙ e) placed.0 f

      pub placed-is : t ≡ plug x.path (Fork key node.piece under.l under.r)
      placed-is = x.is ∙ ap (plug x.path) under.is

      pub placed-all : items t ≡ (front x.path ++ items under.l) ++ node.piece ∷ (items under.r ++ back x.path)
      placed-all = ap items placed-is ∙ all_placed x.path key node.piece under.l under.r

      pub placed-sorted : AreSorted 0 ((front x.path ++ items under.l) ++ node.piece ∷ (items under.r ++ back x.path))
      placed-sorted = rw placed-all at w.sorted

      pub placed-piece : IsPiece node.piece
      placed-piece = (sorted_at 0 (front x.path ++ items under.l) node.piece (items under.r ++ back x.path) placed-sorted).1

      -- the tree on a side, and the one beside it
      abbrev pub down : Bool → Shape
      down true = under.l
      down false = under.r

      abbrev pub beside : Bool → Shape
      beside true = under.r
      beside false = under.l

      pub down-is : (b : Bool) → t ≡ plug (Beside b key node.piece (beside b) x.path) (down b)
      down-is true = placed-is
      down-is false = placed-is

      pub down-root : (b : Bool) (child : Top) → (b ≡ true → child ≡ node.left) → (b ≡ false → child ≡ node.right)
          → child.root ≡ root_of (down b)
      down-root true child left right = ap (λ (v : Top). v.root) (left refl ∙ under.left)
      down-root false child left right = ap (λ (v : Top). v.root) (right refl ∙ under.right)

      pub down-falls : (b : Bool) (to : Option ℕ) → to ≡ root_of (down b)
          → node_height (at_root (get nodes) to) < node_height (at_root (get nodes) at)
      down-falls b to y = falls b y (rw under.is at placed.0)
        where
          falls : (b : Bool) → to ≡ root_of (down b) → Stands (get nodes) (Fork key node.piece under.l under.r)
              → node_height (at_root (get nodes) to) < node_height (at_root (get nodes) at)
          falls true y s = root_falls (get nodes) at to x.there under.l x.root placed.0 y s.3 (omega (arith, ap height_of under.is))
          falls false y s = root_falls (get nodes) at to x.there under.r x.root placed.0 y s.4 (omega (arith, ap height_of under.is))

-- ---- down to pages

-- pages of which a piece has none lie behind it, where they don't lie before it
pub comes-behind : (p : Piece) (first last : ℕ) → (HasAny p first last → IsTrue false) → nat_lt last p.first ≡ false → p.last < first
comes-behind p first last none e = elim (order first p.last) [
  | inl a ↦ let no = none (grind (arith, nat_tests), a) in absurd (cc)
  | inr a ↦ a
]

abbrev pub lies_at : {first last : ℕ} {at : Option ℕ} {t : Shape} → Lies first last at t → Place at t
lies_at q = record { path = q.path; there = q.there; is = q.is; root = q.root }

module _ {nodes : Slab Node} {root : Top} {first last : ℕ} {at : Option ℕ} {key : ℕ} {t : Shape} (w : IsWhole nodes root t)
    (q : Lies first last at t) (e : at ≡ Some key) {node : Node} (f : get nodes key ≡ Some node) (b : Bool) (child : Top)
    (left : b ≡ true → child ≡ node.left) (right : b ≡ false → child ≡ node.right) (to : Option ℕ) (to_it : to ≡ child.root) where
  pub lies-falls : node_height (at_root (get nodes) to) < node_height (at_root (get nodes) at)
  lies-falls = down-falls w (lies_at q) e f b to (to_it ∙ down-root w (lies_at q) e f b child left right)

  pub lies-on : (b ≡ true → last < node.piece.first) → (b ≡ false → node.piece.last < first)
      → (x : Lies first last to t) × (x.path ≡ Beside b key node.piece (beside w (lies_at q) e f b) q.path)
  lies-on on off = (
    record {
      path = Beside b key node.piece (beside w (lies_at q) e f b) q.path;
      there = down w (lies_at q) e f b;
      is = down-is w (lies_at q) e f b;
      root = to_it ∙ down-root w (lies_at q) e f b child left right;
      before = before b off;
      behind = behind b on;
    },
    refl,
  )
    where
      u : Roots key node q.there
      u = under w (lies_at q) e f

      s : (0 ≤ node.piece.first) × IsPiece node.piece × AreSorted (node.piece.last + 1) (items u.r ++ back q.path)
      s = sorted_at 0 (front q.path ++ items u.l) node.piece (items u.r ++ back q.path) (placed-sorted w (lies_at q) e f)

      before : (b : Bool) → (b ≡ false → node.piece.last < first)
          → AllByRecursion (λ x. x.last < first) (front (Beside b key node.piece (beside w (lies_at q) e f b) q.path))
      before true off = q.before
      before false off = rw append_assoc at (all_append (λ x. x.last < first) (front q.path ++ items u.l) (node.piece ∷ [])
          (ends_below 0 first (front q.path ++ items u.l) node.piece (items u.r ++ back q.path) (placed-sorted w (lies_at q) e f)
          (omega (arith, s.1, off refl))) (off refl, tt))

      behind : (b : Bool) → (b ≡ true → last < node.piece.first)
          → AllByRecursion (λ x. last < x.first) (back (Beside b key node.piece (beside w (lies_at q) e f b) q.path))
      behind true on = (on refl, begins_above (node.piece.last + 1) last (items u.r ++ back q.path) s.2 (omega (arith, s.1, on refl)))
      behind false on = q.behind

  pub walk-leads : (way : List Step) (depth : ℕ) → AreSteps way depth q.path → length way ≡ 14 → (b ≡ true → last < node.piece.first)
      → (b ≡ false → node.piece.last < first)
      → (x : Lies first last to t) × AreSteps (slice_set way depth (record { key = key; before = b })) (depth + 1) x.path
  walk-leads way depth s long on off =
      let x = lies-on on off in (
        x.0,
        rw x.1 (steps_more way depth key b node.piece (beside w (lies_at q) e f b) q.path s
            (omega (arith, long, placed-few w (lies_at q) e way depth s))),
      )

abbrev pub IsLooking : Slab Node → Top → ℕ → Option ℕ → Type 0
IsLooking nodes root page at = (t : Shape) → IsWhole nodes root t → Lies page page at t

pub look_start : {nodes : Slab Node} {root : Top} (first last : ℕ) (at : Option ℕ) → at ≡ root.root → {t : Shape} → IsWhole nodes root t
    → (q : Lies first last at t) × (q.path ≡ Whole)
look_start first last at e {t} w =
    (record { path = Whole; there = t; is = refl; root = e ∙ ap (λ (v : Top). v.root) w.here; before = tt; behind = tt }, refl)

-- the page lies in a node's piece, or below it
abbrev pub IsLookingIn : Slab Node → Top → ℕ → Node → Type 0
IsLookingIn nodes root page node = (key : ℕ) × (get nodes key ≡ Some node) × IsLooking nodes root page (Some key)

abbrev pub IsWalking : Slab Node → Top → ℕ → ℕ → List Step → Option ℕ → ℕ → Type 0
IsWalking nodes root first last way at depth =
    ((t : Shape) → IsWhole nodes root t → (q : Lies first last at t) × AreSteps way depth q.path) × (length way ≡ 14)

pub walk-few : {nodes : Slab Node} {root : Top} {first last : ℕ} {at : Option ℕ} {t : Shape} {key : ℕ} (way : List Step) (depth : ℕ)
    → IsWhole nodes root t → (q : Lies first last at t) × AreSteps way depth q.path → at ≡ Some key → depth < 14
walk-few way depth w l e = placed-few w (lies_at l.0) e way depth l.1

-- ---- what is at hand

module _ {nodes : Slab Node} {root : Top} {way : List Step} {held : Held} {t : Shape}
    (w : IsWhole nodes root t) (h : IsHand way held t) where
  hand-here : get nodes held.key ≡ Some (joint h.piece (top_of h.left) (top_of h.right))
  hand-here = let x : Place (Some held.key) t = record { path = h.path; there = _; is = h.is; root = refl } in (placed w x).0.0

  pub hand-there : IsSome (get nodes held.key)
  hand-there = is_there hand-here

  module _ {n : Node} (f : get nodes held.key ≡ Some n) where
    pub hand-piece : n.piece ≡ h.piece
    hand-piece =
        let a = hand-here in
        let is : n ≡ joint h.piece (top_of h.left) (top_of h.right) = cc in
        rw is refl

    pub hand-reaches : {from end : ℕ} → n.piece.first ≤ from → end ≤ n.piece.last → from ≤ end → Reaches nodes way from end held t
    hand-reaches {from} {end} low high some =
        let same = hand-piece in
        let sorted = rw (all_placed h.path held.key h.piece h.left h.right) at (rw h.is at w.sorted) in
        let behind = (sorted_at 0 (front h.path ++ items h.left) h.piece (items h.right ++ back h.path) sorted).2 in
        record {
          lies = record {
            path = h.path;
            there = Fork held.key h.piece h.left h.right;
            is = h.is;
            root = refl;
            before = all_left (λ q. q.last < from) (front h.path) (items h.left)
                (ends_below 0 from (front h.path ++ items h.left) h.piece (items h.right ++ back h.path) sorted (rw same at low));
            behind = all_right (λ q. end < q.first) (items h.right) (back h.path)
                (begins_above (h.piece.last + 1) end (items h.right ++ back h.path) behind (omega (arith, rw same at high)));
          };
          steps = h.steps;
          node = n;
          there = f;
          has = (omega (arith, low, some), omega (arith, high, some));
        }
