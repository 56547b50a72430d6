-- What whoever draws a domain's address space reads of the state.
use Rattle.std.specs.Prelude.{ℕ, List, Option, None, Some, slice_get}
use Rattle.piece_tree.specs.declared.piece.Piece.{Piece}
use Rattle.engine.specs.declared.record.Record.{Record}
use Rattle.engine.specs.declared.state.spaces.RetiredRecord.{RetiredRecord}
use Rattle.engine.specs.Domains.{Domain}

-- the pieces of a domain that may be there
abbrev pub pieces_of : Option Domain → Option (List Piece)
pieces_of None = None
pieces_of (Some domain) = Some domain.space.pieces

-- what is shown of a record that may be there
abbrev pub shown_of : Option Record → Option RetiredRecord
shown_of None = None
shown_of (Some r) = Some (record { range = r.range; mark = r.mark })

-- the record at an index, of a domain that may be there
abbrev pub retired_record_of : Option Domain → ℕ → Option RetiredRecord
retired_record_of None index = None
retired_record_of (Some domain) index = shown_of (slice_get domain.records index)
