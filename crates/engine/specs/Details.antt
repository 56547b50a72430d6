-- What an answer says besides its reply.
use Rattle.std.specs.Prelude.{ℕ, Option, None, Some, Result, Ok, Err}
use Rattle.dmatypes.specs.declared.call.Mode.{Mode}
use Rattle.dmatypes.specs.declared.call.Mode.TheVariants.{Strict, Lazy}
use Rattle.dmatypes.specs.declared.refusal.Fault.{Fault}
use Rattle.dmatypes.specs.declared.refusal.Refusal.{Refusal}
use Rattle.unit.specs.declared.hit.Hit.{Hit}
use Rattle.engine.specs.declared.answer.Detail.{Detail}
use Rattle.engine.specs.declared.answer.Detail.TheVariants as details
use Rattle.engine.specs.declared.answer.Unmapped.{Unmapped}
use Rattle.engine.specs.declared.answer.Unmapped.TheVariants.{Free, Retired}

-- how many records were released for an unmap
abbrev pub released_by : Unmapped → ℕ
released_by Free = 0
released_by (Retired n) = n

-- the mode of the domain that its pages were in
abbrev pub mode_by : Unmapped → Mode
mode_by Free = Strict
mode_by (Retired n) = Lazy

abbrev pub hit_of : Detail → Option Hit
hit_of details.Nothing = None
hit_of (details.Hit hit) = Some hit
hit_of (details.Unmapped unmapped) = None

-- the detail of what a request, or an unmap, answered
abbrev pub request_detail : Result (Result Hit Fault) Refusal → Detail
request_detail (Ok (Ok hit)) = details.Hit hit
request_detail (Ok (Err fault)) = details.Nothing
request_detail (Err refusal) = details.Nothing

abbrev pub unmapped_detail : Result Unmapped Refusal → Detail
unmapped_detail (Ok unmapped) = details.Unmapped unmapped
unmapped_detail (Err refusal) = details.Nothing
