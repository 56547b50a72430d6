-- The names of definitions, and of std's lemmas, that this crate's proofs cite, passed on from one place. Declares nothing.
pub use Rattle.piece_tree.specs.Graft.{Adds, CanKeep, CanReplace, Flanked, Halved, IsLeastHeight, IsTree, LiesBeside, LiesOff, Makes}
pub use Rattle.piece_tree.specs.Graft.{Parted, Removes, side_by_side, some_of}
pub use Rattle.piece_tree.specs.Laid.{IsRow, part_beside, rest_above, rest_below, rest_beside, with_piece, with_row}
unfoldable pub use Rattle.piece_tree.specs.Laid.{part_above, part_below}
pub use Rattle.piece_tree.specs.Pieces.{AreSorted, HasAny, Holds, IsPiece}
unfoldable pub use Rattle.piece_tree.specs.Pieces.{piece_at}
pub use Rattle.piece_tree.specs.Search.{HasNoRoom, IsFound, IsNarrowBefore, IsRoundUp, IsShortBefore, IsStartIn, first_of, IsStarting}
unfoldable pub use Rattle.piece_tree.specs.Search.{pieces_from}
pub use Rattle.piece_tree.specs.Top.{Top}
pub use Rattle.piece_tree.specs.Tree.{AreNear, AreParts, CanHang, Empty, Fork, IsBelow, IsTop, IsWhole, Joins, KeepsCount, Links, Look}
pub use Rattle.piece_tree.specs.Tree.{Opens, Shape, Stands, around, at_root, fork, free_pages, height_of, items, joint, joint_at}
pub use Rattle.piece_tree.specs.Tree.{longest_at, longest_of, one, pieces_of, root_of, top_of, tree_at, uses, with_child}
unfoldable pub use Rattle.piece_tree.specs.Tree.{contents}
pub use Rattle.piece_tree.specs.Way.{Above, AreAbove, AreSteps, Beside, CanLay, CanLift, CanMend, GoesBehind, IsAtHand, IsHand, IsHeld}
pub use Rattle.piece_tree.specs.Way.{IsStepAbove, LaysOver, Lies, Mends, Reaches, Whole, WholeBecomes, among, back, front, plug, step_at}
pub use Rattle.piece_tree.specs.Way.{uses_above, within}
pub use Rattle.piece_tree.specs.declared.node.Node.{Node}
pub use Rattle.piece_tree.specs.declared.node.Opened.{Opened}
pub use Rattle.piece_tree.specs.declared.piece.Piece.{Piece}
pub use Rattle.piece_tree.specs.declared.piece.TheConstants.{MOST_PIECES, NUMBERS_END}
pub use Rattle.piece_tree.specs.declared.top.TheConstants.{KEYS_END}
pub use Rattle.piece_tree.specs.declared.way.Held.{Held}
pub use Rattle.piece_tree.specs.declared.way.Step.{Step}
pub use Rattle.slab.specs.Slab.{Slab, Updates, get, slab_len, with_value}
pub use Rattle.std.proofs.Common.{Bool, IfNone, IfSome, IsSome, List, None, Option, Some, [], add-one, ap, append_assoc, arith, bit_and}
pub use Rattle.std.proofs.Common.{cond, drop, drop-cons, false, get_or, get_or-set_other, get_or-set_same, inl, inr, is_some, length}
pub use Rattle.std.proofs.Common.{length-append, length-set, max, nat_lt, refl, slice_index_or, slice_set, subst, suc, sym, take, true}
pub use Rattle.std.proofs.Common.{zero, ℕ, ◌%◌, ◌*◌, ◌++◌, ◌+◌, ◌-◌, ◌/◌, ◌<◌, ◌==◌, ◌^◌, ◌↔◌, ◌∙◌, ◌∷◌, ◌≡◌, ◌≢◌, ◌≤◌, ◌⊎◌}
pub use Rattle.std.proofs.Math.Nat.{div-add-mod, lt_of_mul-lt-mul_left, mul-le-mul_left, mul-mod_right, two-pow-succ}
pub use Rattle.std.proofs.Math.Pow.{pow_mono}
pub use Rattle.std.proofs.lemmas.Bool.Decides.{leb_tells, nat_tests}
pub use Rattle.std.proofs.lemmas.List.{append-nil, length-drop, length-take-le, take-append-drop, take_rest}
pub use Rattle.std.proofs.lemmas.List.Sums.{sum_by-set}
pub use Rattle.std.proofs.lemmas.Nat.{and_mask, pow_pos}
pub use Rattle.std.specs.Int.{abs_diff}
pub use Rattle.std.specs.List.{AllByRecursion}
pub use Rattle.std.specs.Prelude.{not}
