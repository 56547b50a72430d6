-- What a call is refused for where a space refuses.
use Rattle.dmatypes.specs.declared.refusal.Refusal.{Refusal}
use Rattle.dmatypes.specs.declared.refusal.Refusal.TheVariants as refusals
use Rattle.iova.specs.declared.space.RetireError.{RetireError}
use Rattle.iova.specs.declared.space.RetireError.TheVariants as retires
use Rattle.iova.specs.declared.space.TakeError.{TakeError}
use Rattle.iova.specs.declared.space.TakeError.TheVariants as takes

-- of the error of a take
abbrev pub refusal_of_take : TakeError → Refusal
refusal_of_take takes.NoRange = refusals.NoRange
refusal_of_take takes.TooManyPieces = refusals.TooManyPieces

-- of the error of a retirement
abbrev pub refusal_of_retire : RetireError → Refusal
refusal_of_retire retires.NotLive = refusals.NotLive
refusal_of_retire retires.TooManyPieces = refusals.TooManyPieces
