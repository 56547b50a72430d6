-- A way back up a tree, where the tree at its end has the root and the height that it had: what is longest changes alone.
use Rattle.piece_tree.proofs.Names.{◌≡◌, ℕ, ◌+◌, ◌-◌, ◌<◌, max, true, false, List, Some, ap, sym, ◌∙◌, subst, arith, Slab, Updates, get}
use Rattle.piece_tree.proofs.Names.{Node, Top, Step, Shape, CanHang, Joins, KeepsCount, Links, fork, height_of, longest_at, longest_of}
use Rattle.piece_tree.proofs.Names.{root_of, top_of, IsPiece, tree_at, with_child, Above, Whole, Beside, CanLift, CanMend, Mends, step_at}
use Rattle.piece_tree.proofs.shapes.Forks.{fork-height, fork-root}
use Rattle.piece_tree.proofs.shapes.Hung.{hung-links, hung-on, hung-piece, link_joins, shows}
use Rattle.piece_tree.proofs.shapes.Mended.{Last, Mending, back, fork-shows, further, la, mending_end, mending_start, mending-can}
use Rattle.piece_tree.proofs.shapes.Mended.{mending-next, stopped}

-- so far: what lies further up has the root and the height of what was there, and so much is longest in it
pub record Lifting (old now : Slab Node) (way : List Step) (depth : ℕ) (root : Top) (longest : ℕ) (path : Above) (t new : Shape)
    : Type 0 where
  pub top : Top
  pub mending : Mending old now way depth root top path t new
  pub same_root : root_of mending.here ≡ root_of mending.there
  pub same_height : height_of mending.here ≡ height_of mending.there
  pub is : longest ≡ longest_of mending.here

abbrev pub IsLifting : Slab Node → Slab Node → List Step → ℕ → Top → ℕ → ℕ → ℕ → Type 0
IsLifting old now way steps root from depth longest = (path : Above) (t new : Shape) → CanLift (get old) way steps root from path t new
    → Lifting old now way depth root longest path t new

pub lifting_start : (old : Slab Node) (way : List Step) (steps : ℕ) (root : Top) (longest : ℕ)
    → IsLifting old old way steps root longest steps longest
unfolding mending_start
lifting_start old way steps root longest path t new can = record {
  top = top_of new;
  mending = mending_start old way steps root (top_of new) path t new can.can;
  same_root = can.same_root;
  same_height = can.same_height;
  is = can.is;
}

module _ {old now : Slab Node} {way : List Step} {depth : ℕ} {root : Top} {longest : ℕ} {path : Above} {t new : Shape}
    (i : Lifting old now way depth root longest path t new) where
  abbrev m : Mending old now way depth root i.top path t new
  m = i.mending

  pub lifting_end : depth ≡ 0 → Mends (get old) (get now) (record root { longest = longest }) path t new
  lifting_end e =
      subst (λ top. Mends (get old) (get now) top path t new) (m.can.is ∙ sym (go m.up m.can)) (mending_end m e)
    where
      go : (up : Above) → CanMend (get now) way depth root i.top up m.there m.here → record root { longest = longest } ≡ top_of m.here
      go Whole can = shows m.here m.there root longest can.here i.same_root i.same_height i.is
      go (Beside b key p o up) can = absurd (omega (arith, can.steps.1, e))

  module _ (pos : 0 < depth) where
    abbrev s : Step
    s = step_at way (depth - 1)

    abbrev l : Last way depth m.up
    l = la m pos

    pub lifting-can : CanHang (get now) s.before s.key (top_of m.here) l.piece m.there m.here l.other
    lifting-can = subst (λ v. CanHang (get now) s.before s.key v l.piece m.there m.here l.other) m.can.is (mending-can m pos)

    module _ {node : Node} (e : get now s.key ≡ Some node) (child : Top) (on : s.before ≡ true → child ≡ node.left)
        (off : s.before ≡ false → child ≡ node.right) where
      was : child ≡ top_of m.there
      was = hung-on lifting-can e child on off

      shown : record child { longest = longest } ≡ top_of m.here
      shown = shows m.here m.there child longest was i.same_root i.same_height i.is

      pub lifting-piece : (tree : Top) → IsPiece (with_child s.before node tree).piece
      lifting-piece tree = subst IsPiece (sym (hung-piece lifting-can e tree)) lifting-can.fine

      module _ {written : Top} (w : written ≡ record child { longest = longest }) {next : Slab Node}
          (u : Updates now next s.key (Some (with_child s.before node written))) (c : KeepsCount now next) where
        links : Links (get now) (get next) s.before (tree_at s.key (with_child s.before node (top_of m.here))) s.key l.piece m.here l.other
        links = hung-links lifting-can e (rw (w ∙ shown) at u)
            (omega (arith, lifting-can.near, i.same_height), omega (arith, lifting-can.near, i.same_height))

        abbrev j : Joins (get now) (get next) s.before (top_of (fork s.before s.key l.piece m.here l.other)) s.key l.piece m.here l.other
        j = link_joins (rw links.is at links)

        pub lifting-next : (then : ℕ) → then ≡ longest_at (with_child s.before node written)
            → Lifting old next way (depth - 1) root then path t new
        unfolding mending-next link_joins
        lifting-next then is = record {
          top = top_of (fork s.before s.key l.piece m.here l.other);
          mending = mending-next m pos j c;
          same_root = fork-root s.before s.key l.piece m.here l.other ∙ sym (fork-root s.before s.key l.piece m.there l.other);
          same_height = fork-height s.before s.key l.piece m.here l.other ∙ ap (λ h. 1 + max h (height_of l.other)) i.same_height
              ∙ sym (fork-height s.before s.key l.piece m.there l.other);
          is = is ∙ ap (λ v. longest_at (with_child s.before node v)) (w ∙ shown) ∙ ap (λ (v : Top). v.longest) links.is;
        }

        -- as much was longest there before
        pub lifting-stops : child.longest ≡ longest → Mends (get old) (get next) root path t new
        unfolding link_joins
        lifting-stops same =
            back m pos j c next root (stopped (further m pos j c) (fork-shows s.before s.key l.piece m.here m.there l.other
            (sym shown ∙ ap (λ x. record child { longest = x }) (sym same) ∙ was)))
