-- What a leaf states of its pages: the frame and the rights, at least one.
use Rattle.std.specs.Prelude.{◌≡◌, ℕ, ◌%◌}
use Rattle.dmatypes.specs.Page.{IsFrame}
use Rattle.dmatypes.specs.Rights.{AreRights}
use Rattle.dmatypes.specs.declared.page.TheConstants.{SPAN_PAGES}
use Rattle.dmatypes.specs.World.{Target}

abbrev pub target : ℕ → ℕ → Target
target frame rights = record { frame = frame; rights = rights }

-- of one page
abbrev pub IsTranslation : Target → Type 0
IsTranslation t = IsFrame t.frame × AreRights t.rights

-- of the pages of a span, onto the frames from an aligned one on
abbrev pub IsLargeTranslation : Target → Type 0
IsLargeTranslation t = IsTranslation t × (t.frame % SPAN_PAGES ≡ 0)
