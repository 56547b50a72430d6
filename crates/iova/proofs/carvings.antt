-- Pieces that are carved out of a free piece.
pub mod InPlace
pub mod State
pub mod GivenBack
pub mod Counts
pub mod Ends
pub mod Retired
pub mod Cuts
pub mod Sought
pub mod Taken
pub mod At
pub mod Carved
pub mod PageIn
pub mod PieceAt
pub mod Placed
pub mod Run
pub mod Row
