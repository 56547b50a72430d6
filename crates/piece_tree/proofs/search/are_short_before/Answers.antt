use Rattle.piece_tree.proofs.Names.{◌∙◌, arith, refl, subst, sym, AllByRecursion, IsShortBefore}
use Rattle.piece_tree.proofs.shapes.Shorter.{AreShortBefore, shorter_start, shorter-there, shorter-piece, shorter-falls}
use Rattle.piece_tree.proofs.shapes.Shorter.{shorter_all, shorter-long, shorter-long_left, shorter-before, shorter-behind, shorter_end}
use Rattle.piece_tree.proofs.shapes.Tall.{whole_view}
use Rattle.piece_tree.proofs.search.are_short_before.Goals as goal
use Rattle.piece_tree.proofs.search.are_short_before.Goals.{then-free_length-pages-via-then-free_length-pages}
use Rattle.piece_tree.proofs.search.are_short_before.Goals.{then-free_length-pages-via-else-free_length-pages+then-longest-pages-2}

pub loop-key-init : goal.loop-key-init
loop-key-init c = shorter_start c.args.nodes.now c.args.root c.args.page c.args.pages

pub index-node-requires : goal.index-node-requires
index-node-requires c = let q = c.requires in shorter-there (c.loop-key.invariant q.0 q.1) (sym c.root.ensures ∙ c.in-Some.is)

pub returns-then-longest-pages : goal.returns-then-longest-pages
returns-then-longest-pages c =
    let q = c.requires in (
      λ true.
          subst (λ l. AllByRecursion (IsShortBefore c.args.page c.args.pages) l) (sym (whole_view q.1))
          (shorter_all (c.loop-key.invariant q.0 q.1) (omega (arith, c.longest.ensures, c.if-longest-pages.true))),
      λ all. refl,
    )

pub loop-key-smaller-then-page-node : goal.loop-key-smaller-then-page-node
loop-key-smaller-then-page-node c =
    let q = c.requires in
    (shorter-falls (c.loop-key.invariant q.0 q.1) (sym c.root.ensures ∙ c.in-Some.is) c.index-node.ensures).0

pub loop-key-preserved-then-page-node : goal.loop-key-preserved-then-page-node
loop-key-preserved-then-page-node c t w =
    shorter-before (c.loop-key.invariant t w) (sym c.root.ensures ∙ c.in-Some.is) c.index-node.ensures c.if-page-node.true

pub free_length-requires : goal.free_length-requires
free_length-requires c =
    let q = c.requires in
    shorter-piece (c.loop-key.invariant q.0 q.1) (sym c.root.ensures ∙ c.in-Some.is) c.index-node.ensures

pub returns-then-free_length-pages : goal.returns-then-free_length-pages
returns-then-free_length-pages c =
    let q = c.requires in
    let i = c.loop-key.invariant q.0 q.1 in
    let none : AreShortBefore c.args.page c.args.pages q.0 → ⊥ = elim c.then-free_length-pages.branch [
      | then-free_length-pages-via-then-free_length-pages v ↦
          shorter-long i (sym c.root.ensures ∙ c.in-Some.is) c.index-node.ensures c.if-page-node.false
          (omega (arith, c.free_length.ensures, v.if-free_length-pages.true))
      | then-free_length-pages-via-else-free_length-pages+then-longest-pages-2 v ↦
          shorter-long_left i (sym c.root.ensures ∙ c.in-Some.is)
          c.index-node.ensures c.if-page-node.false (omega (arith, v.if-free_length-pages.false))
          (omega (arith, v.longest-else-free_length-pages.ensures, v.if-longest-pages-2.true))
    ] in (
      λ false. absurd (cc),
      λ all. absurd (none
          (subst (λ l. AllByRecursion (IsShortBefore c.args.page c.args.pages) l) (whole_view q.1) all)),
    )

pub loop-key-smaller : goal.loop-key-smaller
loop-key-smaller c =
    let q = c.requires in
    (shorter-falls (c.loop-key.invariant q.0 q.1) (sym c.root.ensures ∙ c.in-Some.is) c.index-node.ensures).1

pub loop-key-preserved : goal.loop-key-preserved
loop-key-preserved c t w =
    shorter-behind (c.loop-key.invariant t w) (sym c.root.ensures ∙ c.in-Some.is) c.index-node.ensures
    (omega (arith, c.free_length.ensures, c.if-free_length-pages.false))
    (omega (arith, c.longest-else-free_length-pages.ensures, c.if-longest-pages-2.false))

pub returns : goal.returns
returns c =
    let q = c.requires in (
      λ true.
          subst (λ l. AllByRecursion (IsShortBefore c.args.page c.args.pages) l) (sym (whole_view q.1))
          (shorter_end (c.loop-key.invariant q.0 q.1) (sym c.root.ensures ∙ c.in_default.is)),
      λ all. refl,
    )
