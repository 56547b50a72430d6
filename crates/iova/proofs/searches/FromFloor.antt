-- The lowest start at or above a floor, or else of all.
use Rattle.iova.proofs.Names.{◌≡◌, ℕ, ◌<◌, ◌≤◌, List, inl, inr, arith, Piece, IsOrdered, IsFit, IsLowestFit, IsLowestFrom}
use Rattle.iova.proofs.Pieces.{order}
use Rattle.iova.proofs.searches.Fit.{IsLowestAbove, fit_from}

-- found from a page on that is no higher than the floor, and not below the floor
pub from_found : (floor least pages unit start : ℕ) (ps : List Piece) → least ≤ floor → floor ≤ start
    → IsLowestAbove least ps pages unit start → IsLowestFrom floor ps pages unit start
from_found floor least pages unit start ps less high i =
    record { fit = i.fit; above = λ h other g k. i.lowest other g (omega arith); below = λ h other g. absurd (omega arith) }

-- the lowest of all, where none is found from such a page on
pub from_all : (floor least pages unit start : ℕ) (ps : List Piece) → least ≤ floor
    → ((other : ℕ) → IsFit ps pages unit other → least ≤ other → ⊥) → IsLowestFit ps pages unit start
    → IsLowestFrom floor ps pages unit start
from_all floor least pages unit start ps less none i = record {
  fit = i.fit;
  above = λ h other g k. i.lowest other g;
  below = λ h other g. elim (order least other) [
    | inl k ↦ absurd (none other g k)
    | inr k ↦ (omega arith, i.lowest other g)
  ];
}

-- there is one at most
pub one_from : (floor pages unit start x : ℕ) (ps : List Piece) → IsLowestFrom floor ps pages unit start
    → IsLowestFrom floor ps pages unit x → x ≡ start
one_from floor pages unit start x ps i j =
    let a : floor ≤ start → floor ≤ x → start ≤ x = λ h. i.above h x j.fit in
    let b : floor ≤ x → floor ≤ start → x ≤ start = λ h. j.above h start i.fit in
    let c : start < floor → (x < floor) × (start ≤ x) = λ h. i.below h x j.fit in
    let d : x < floor → (start < floor) × (x ≤ start) = λ h. j.below h start i.fit in grind arith

-- ---- a floor that no page is below

pub start_some : (pages unit start : ℕ) (ps : List Piece) → IsOrdered 1 ps → 1 ≤ pages → IsFit ps pages unit start → 1 ≤ start
start_some pages unit start ps o pos f = fit_from 1 pages unit start ps o pos f

pub from_first : (floor pages unit start : ℕ) (ps : List Piece) → floor ≤ 1 → IsOrdered 1 ps → 1 ≤ pages
    → IsLowestFit ps pages unit start → IsLowestFrom floor ps pages unit start
from_first floor pages unit start ps low o pos i =
    let some = start_some pages unit start ps o pos i.fit in
    record { fit = i.fit; above = λ h other g k. i.lowest other g; below = λ h other g. absurd (omega arith) }

pub first_from : (floor pages unit start : ℕ) (ps : List Piece) → floor ≤ 1 → IsOrdered 1 ps → 1 ≤ pages
    → IsLowestFrom floor ps pages unit start → IsLowestFit ps pages unit start
first_from floor pages unit start ps low o pos i =
    let a = start_some pages unit start ps o pos i.fit in
    let lowest = λ (other : ℕ) (g : IsFit ps pages unit other).
    let b = start_some pages unit other ps o pos g in i.above (omega arith) other g (omega arith) in
    record { fit = i.fit; lowest = lowest }
