-- The names of definitions, and of std's lemmas, that this crate's proofs cite, passed on from one place. Declares nothing.
pub use Rattle.dmatypes.specs.Page.{IsPageRange, IsWithin, Range}
pub use Rattle.dmatypes.specs.World.{IsIn}
pub use Rattle.dmatypes.specs.declared.page.TheConstants.{MOST_PAGES, WINDOW_LAST}
pub use Rattle.dmatypes.specs.declared.width.TheConstants.{PAGES_END}
pub use Rattle.iova.specs.Carved.{AreCarved, CanCarve, FollowOn, IsAt, IsCarved, IsSought, LosesEnd, NoneBelow, free_of, in_place_of}
pub use Rattle.iova.specs.Carved.{with_carved, with_pieces}
pub use Rattle.iova.specs.Changes.{Frees, FreesLive, FreesRun, LosesRun, PagesBecome, Retires, Takes}
pub use Rattle.iova.specs.Freed.{widened, with_free}
unfoldable pub use Rattle.iova.specs.Freed.{free_end, free_start}
pub use Rattle.iova.specs.Pieces.{AllIn, IsOrdered, IsRun, NoneFreeBelow, Touches, end_by, pages_as, piece_of, start_by}
unfoldable pub use Rattle.iova.specs.Pieces.{state_at}
pub use Rattle.iova.specs.Space.{AllFree, CutsPiece, IsFit, IsLowestFit, IsLowestFrom, IsPageTo, IsSpace, IsTooMany, MayRetire, Space}
pub use Rattle.iova.specs.Space.{new_space}
pub use Rattle.iova.specs.Stored.{AreLive, CanList, IsFirstOrNone, TakesPlace, shown, stored, with_freed}
pub use Rattle.iova.specs.declared.carved.Parts.{Parts}
pub use Rattle.iova.specs.declared.carved.Sought.{Sought}
pub use Rattle.iova.specs.declared.carved.Stock.{Stock}
pub use Rattle.iova.specs.declared.ends.Ends.{Ends}
pub use Rattle.iova.specs.declared.page_tree.TheConstants.{ABOVE_WINDOW, BELOW_WINDOW}
pub use Rattle.iova.specs.declared.space.TheConstants.{MOST_PIECES_TO_CUT}
pub use Rattle.piece_tree.specs.Laid.{IsRow, rest_above, rest_below, with_piece, with_row}
unfoldable pub use Rattle.piece_tree.specs.Laid.{part_above, part_below}
pub use Rattle.piece_tree.specs.Pieces.{AreSorted, Holds, IsPiece, is_free}
unfoldable pub use Rattle.piece_tree.specs.Pieces.{piece_at}
pub use Rattle.piece_tree.specs.Search.{HasNoRoom, IsFound, IsRoundUp, IsShortBefore, IsStarting, first_or}
unfoldable pub use Rattle.piece_tree.specs.Search.{pieces_from}
pub use Rattle.piece_tree.specs.Tree.{free_pages}
pub use Rattle.piece_tree.specs.declared.piece.PageState.{PageState}
pub use Rattle.piece_tree.specs.declared.piece.PageState.TheVariants.{Free, Live, Retired}
pub use Rattle.piece_tree.specs.declared.piece.Piece.{Piece}
pub use Rattle.piece_tree.specs.declared.piece.TheConstants.{MOST_PIECES, NUMBERS_END}
pub use Rattle.std.proofs.Common.{Bool, Err, IfNone, IfOk, IfSome, IsSome, IsTrue, List, None, Ok, Option, Result, Some, [], ap, append-nil}
pub use Rattle.std.proofs.Common.{append_assoc, arith, bit_and, cond, drop, false, get_or, if◌then◌else◌, inl, inr, length, length-append}
pub use Rattle.std.proofs.Common.{lit≤, lt-ltb, ltb-false, ltb-true, max, min, nat_lt, refl, rules, slice_get, slice_index_or, slice_set}
pub use Rattle.std.proofs.Common.{subst, suc, sym, take, true, zero, ℕ, ◌%◌, ◌*◌, ◌++◌, ◌+◌, ◌-◌, ◌<◌, ◌==◌, ◌^◌, ◌↔◌, ◌∙◌, ◌∷◌, ◌≡◌, ◌≢◌}
pub use Rattle.std.proofs.Common.{◌≤◌, ◌⊎◌}
pub use Rattle.std.proofs.Math.ListN.{drop_of_length-le}
pub use Rattle.std.proofs.Math.Nat.{zero-mod}
pub use Rattle.std.proofs.Math.Pow.{mod-mod-pow, pow_mono}
pub use Rattle.std.proofs.Math.Seq.{get_or-append_seam, set-append_seam}
pub use Rattle.std.proofs.lemmas.Bool.{le-ltb, leb-true}
pub use Rattle.std.proofs.lemmas.Bool.Decides.{leb_tells, nat_tests}
pub use Rattle.std.proofs.lemmas.List.{drop-set-add, get_or-drop, length-drop, take-append-drop}
pub use Rattle.std.proofs.lemmas.List.Elements.{All-from_recursion, All-weaker}
pub use Rattle.std.proofs.lemmas.List.Sorted.{IsPartitionPoint-from_clause, IsPartitionedBy-ltb}
pub use Rattle.std.proofs.lemmas.Nat.{and_mask}
pub use Rattle.std.proofs.lemmas.Option.{slice_get-get_or}
pub use Rattle.std.specs.List.{All, AllByRecursion}
pub use Rattle.std.specs.List.Sorted.{IsNonDecreasingBy, IsPartitionPoint, IsPartitionedBy}
pub use Rattle.std.specs.Option.{is_some, option_copied}
pub use Rattle.std.specs.Prelude.{not}
