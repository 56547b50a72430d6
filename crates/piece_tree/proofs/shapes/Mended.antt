-- A way back up a tree, where another tree lies at its end.
use Rattle.piece_tree.proofs.Names.{◌≡◌, ℕ, ◌+◌, ◌-◌, ◌<◌, ◌≤◌, Bool, true, false, List, Some, refl, ap, sym, ◌∙◌, subst, arith, Slab}
use Rattle.piece_tree.proofs.Names.{get, Piece, Node, Top, Step, Look, Shape, items, height_of, uses, fork, top_of}
use Rattle.piece_tree.proofs.Names.{joint_at, CanHang, Stands, Joins, KeepsCount, Above, Whole, Beside, plug, among, uses_above, AreAbove}
use Rattle.piece_tree.proofs.Names.{step_at, AreSteps, CanLift, CanMend, Mends}
use Rattle.piece_tree.proofs.shapes.Forks.{one-same, same_stands, fork-height, fork-uses, stands_by, by_stands}
use Rattle.piece_tree.proofs.shapes.Hung.{hung-on}

-- ---- what lies above a place

pub plug-high : (up : Above) (t : Shape) → height_of t ≤ height_of (plug up t)
plug-high Whole t = omega arith
plug-high (Beside b key p o up) t = omega (arith, plug-high up (fork b key p t o), fork-height)

among-fork : (b : Bool) (key : ℕ) (p : Piece) (t o : Shape) (up : Above)
    → among up (items (fork b key p t o)) ≡ among (Beside b key p o up) (items t)
among-fork true key p t o up = refl
among-fork false key p t o up = refl

pub plug-items : (up : Above) (t : Shape) → items (plug up t) ≡ among up (items t)
plug-items Whole t = refl
plug-items (Beside b key p o up) t = plug-items up (fork b key p t o) ∙ among-fork b key p t o up

pub plug-uses : (up : Above) (t : Shape) (k : ℕ) → uses (plug up t) k ≡ uses_above up k + uses t k
plug-uses Whole t k = omega arith
plug-uses (Beside b key p o up) t k = omega (arith, plug-uses up (fork b key p t o) k, fork-uses)

pub plug_stands : (look : Look) (up : Above) (t : Shape) → Stands look (plug up t) → Stands look t × AreAbove look up t
plug_stands look Whole t s = (s, tt)
plug_stands look (Beside b key p o up) t s =
    let a = plug_stands look up (fork b key p t o) s in
    let c = stands_by look b key p t o a.0 in
    (c.one, (c.here, c.piece, c.near, c.other, a.1))

pub same_above : (look next : Look) (up : Above) (t : Shape) → AreAbove look up t → ((k : ℕ) → 0 < uses_above up k → next k ≡ look k)
    → AreAbove next up t
same_above look next Whole t a h = tt
same_above look next (Beside b key p o up) t a h = (
  h key (let own = one-same key in omega arith) ∙ a.0,
  a.1,
  a.2,
  same_stands look next o a.3 (λ k g. h k (omega arith)),
  same_above look next up (fork b key p t o) a.4 (λ k g. h k (omega arith)),
)

pub fork-shows : (b : Bool) (key : ℕ) (p : Piece) (s t o : Shape) → top_of s ≡ top_of t
    → top_of (fork b key p s o) ≡ top_of (fork b key p t o)
fork-shows true key p s t o e = cc (ap (λ (v : Top). v.height) e, ap (λ (v : Top). v.longest) e)
fork-shows false key p s t o e = cc (ap (λ (v : Top). v.height) e, ap (λ (v : Top). v.longest) e)

-- where a tree shows what another did, the keys above it are as they must be
pub stops : (look : Look) (up : Above) (old new : Shape) → AreAbove look up old → Stands look new → top_of new ≡ top_of old
    → Stands look (plug up new) × (top_of (plug up new) ≡ top_of (plug up old))
stops look Whole old new a s e = (s, e)
stops look (Beside b key p o up) old new a s e =
    let h : height_of new ≡ height_of old = ap (λ (v : Top). v.height) e in
    stops look up (fork b key p old o) (fork b key p new o) a.4 (by_stands look b key p new o (record {
      here = a.0 ∙ ap (λ v. Some (joint_at b p v (top_of o))) (sym e);
      piece = a.1;
      near = (omega (arith, a.2), omega (arith, a.2));
      one = s;
      other = a.3;
    })) (fork-shows b key p new old o e)

-- ---- the last step

pub record Last (way : List Step) (depth : ℕ) (up : Above) : Type 0 where
  pub piece : Piece
  pub other : Shape
  pub more : Above
  pub is : up ≡ Beside (step_at way (depth - 1)).before (step_at way (depth - 1)).key piece other more
  pub steps : AreSteps way (depth - 1) more

pub last_step : (way : List Step) (depth : ℕ) (up : Above) → AreSteps way depth up → 0 < depth → Last way depth up
last_step way depth Whole s pos = absurd (omega arith)
last_step way depth (Beside b key p o up) s pos =
    let e : depth - 1 ≡ s.0 = omega (arith, s.1) in
    record {
      piece = p;
      other = o;
      more = up;
      is = ap (λ (x : Step). Beside x.before x.key p o up) (sym (ap (step_at way) e ∙ s.2));
      steps = subst (λ d. AreSteps way d up) (sym e) s.3;
    }

pub steps_few : (way : List Step) (depth : ℕ) (up : Above) (t : Shape) → AreSteps way depth up → depth + height_of t ≤ height_of (plug up t)
steps_few way depth Whole t s = omega arith
steps_few way depth (Beside b key p o up) t s = omega (arith, s.1, steps_few way s.0 up (fork b key p t o) s.3, fork-height)

pub counts_twice : (old mid new : Slab Node) → KeepsCount old mid → KeepsCount mid new → KeepsCount old new
counts_twice old mid new a b = record { len = b.len ∙ a.len; capacity = b.capacity ∙ a.capacity }

-- ---- up

-- so far: what lies at a place further up, and what becomes of the whole
pub record Mending (old now : Slab Node) (way : List Step) (depth : ℕ) (root : Top) (top : Top) (path : Above) (t new : Shape)
    : Type 0 where
  pub up : Above
  pub there : Shape
  pub here : Shape
  pub can : CanMend (get now) way depth root top up there here
  pub back : (then : Slab Node) (whole : Top) → Mends (get now) (get then) whole up there here
      → Mends (get old) (get then) whole path t new
  pub count : KeepsCount old now

abbrev pub IsMending : Slab Node → Slab Node → List Step → ℕ → Top → Top → ℕ → Top → Type 0
IsMending old now way steps root end depth top = (path : Above) (t new : Shape) → CanMend (get old) way steps root end path t new
    → Mending old now way depth root top path t new

unfoldable pub mending_start : (old : Slab Node) (way : List Step) (steps : ℕ) (root : Top) (end : Top)
    → IsMending old old way steps root end steps end
mending_start old way steps root end path t new can = record {
  up = path;
  there = t;
  here = new;
  can = can;
  back = λ then whole m. m;
  count = record { len = refl; capacity = refl };
}

mended_end : (look : Look) (way : List Step) (root : Top) (top : Top) (up : Above) (there here : Shape)
    → CanMend look way 0 root top up there here → Mends look look top up there here
mended_end look way root top Whole there here can = record {
  shape = here;
  here = can.is;
  stands = can.stands;
  all = refl;
  keys = λ k. omega arith;
  others = λ k z. refl;
  plain = λ e. refl;
}
mended_end look way root top (Beside b key p o up) there here can = absurd (omega (arith, can.steps.1))

pub mending_end : {old now : Slab Node} {way : List Step} {depth : ℕ} {root top : Top} {path : Above} {t new : Shape}
    → Mending old now way depth root top path t new → depth ≡ 0 → Mends (get old) (get now) top path t new
mending_end {now = now} {way} {root = root} {top} m e =
    m.back now top (mended_end (get now) way root top m.up m.there m.here (rw e at m.can))

-- where the tree shows what was there, the whole is up to date
pub stopped : {look : Look} {way : List Step} {depth : ℕ} {root top : Top} {up : Above} {there here : Shape}
    → CanMend look way depth root top up there here → top_of here ≡ top_of there → Mends look look root up there here
stopped {look} {up = up} {there} {here} can e =
    let s = stops look up there here can.above can.stands e in
    record {
      shape = plug up here;
      here = can.here ∙ sym s.1;
      stands = s.0;
      all = plug-items up here;
      keys = λ k. plug-uses up here k;
      others = λ k z. refl;
      plain = λ h. refl;
    }

module _ {old now : Slab Node} {way : List Step} {depth : ℕ} {root top : Top} {path : Above} {t new : Shape}
    (m : Mending old now way depth root top path t new) (pos : 0 < depth) where
  pub mending-few : depth ≤ 14
  mending-few = omega (arith, steps_few way depth m.up m.there m.can.steps, m.can.low)

  abbrev s : Step
  s = step_at way (depth - 1)

  pub la : Last way depth m.up
  la = last_step way depth m.up m.can.steps pos

  abbrev was : Shape
  was = fork s.before s.key la.piece m.there la.other

  can : CanMend (get now) way depth root top (Beside s.before s.key la.piece la.other la.more) m.there m.here
  can = rw la.is at m.can

  pub mending-can : CanHang (get now) s.before s.key top la.piece m.there m.here la.other
  mending-can =
      let h = plug-high la.more was in
      record {
        here = can.above.0;
        fine = can.above.1;
        near = can.above.2;
        tree_is = can.is;
        stands = can.stands;
        beside = can.above.3;
        once = λ k. omega (arith, can.once k);
        low = (omega (arith, can.fair), omega (arith, can.low, fork-height));
      }

  -- the key has a tree with that root and that height there
  pub mending-lifts : {node : Node} → get now s.key ≡ Some node → (child : Top) → (s.before ≡ true → child ≡ node.left)
      → (s.before ≡ false → child ≡ node.right) → (child.root ≡ top.root) × (child.height ≡ top.height) → (longest : ℕ)
      → longest ≡ top.longest → CanLift (get now) way depth root longest m.up m.there m.here
  mending-lifts f child left right same longest l =
      let on = hung-on mending-can f child left right in
      let is = m.can.is in
      record { can = rw is at m.can; same_root = rw (is, on) at (sym same.0); same_height = rw (is, on) at (sym same.1); is = rw is at l }

  module _ {next : Slab Node} {then : Top} (j : Joins (get now) (get next) s.before then s.key la.piece m.here la.other)
      (c : KeepsCount now next) where
    stays-fair : height_of j.shape + (depth - 1) ≤ 28
    stays-fair = omega (arith, fork-height, j.short, can.fair, can.low, steps_few way (depth - 1) la.more was la.steps)

    pub further : CanMend (get next) way (depth - 1) root then la.more was j.shape
    further = record {
      steps = la.steps;
      above = same_above (get now) (get next) la.more was can.above.4 (λ k g. j.others k (omega (arith, can.once k)));
      here = can.here;
      is = j.is;
      stands = j.stands;
      once = λ k. omega (arith, can.once k, j.keys k);
      low = can.low;
      fair = stays-fair;
    }

    pub back : (end : Slab Node) (whole : Top) → Mends (get next) (get end) whole la.more was j.shape
        → Mends (get old) (get end) whole path t new
    back end whole n = m.back end whole (subst (λ u. Mends (get now) (get end) whole u m.there m.here) (sym la.is) (record {
      shape = n.shape;
      here = n.here;
      stands = n.stands;
      all = n.all ∙ ap (λ ps. among la.more ps) j.all ∙ among-fork s.before s.key la.piece m.here la.other la.more;
      keys = λ k. omega (arith, n.keys k, j.keys k);
      others = λ k z. n.others k (omega (arith, j.keys k)) ∙ j.others k (omega arith);
      plain = λ e.
          let x = j.plain (omega (arith, can.above.2), omega (arith, can.above.2)) in
          n.plain (ap height_of x ∙ omega (arith, e, fork-height)) ∙ ap (λ y. plug la.more y) x;
    }))

    unfoldable pub mending-next : Mending old next way (depth - 1) root then path t new
    mending-next = record {
      up = la.more;
      there = was;
      here = j.shape;
      can = further;
      back = back;
      count = counts_twice old now next m.count c;
    }
