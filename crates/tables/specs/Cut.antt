-- What an unmap took out of a tree: the table frames, and whether a large leaf was split.
use Rattle.std.specs.Prelude.{ℕ, List, Bool}

pub record Cut : Type 0 where
  pub frames : List ℕ
  pub split : Bool
