-- What a page of a domain is.
use Rattle.std.specs.Prelude.{◌≡◌, ℕ}
use Rattle.dmatypes.specs.Page.{IsWithin}
use Rattle.dmatypes.specs.World as world
use Rattle.dmatypes.specs.World.{Domain, IsFree, IsIn, IsLive}
use Rattle.checker.specs.declared.page_state.PageState.{PageState}
use Rattle.checker.specs.declared.page_state.PageState.TheVariants.{Free, Live, Retired}

-- the page is free, or live with this target, or in a record of this range and mark
abbrev pub IsStateOf : Domain → ℕ → PageState → Type 0
IsStateOf v p Free = IsFree v p
IsStateOf v p (Live frame rights) = IsLive v p (record { frame = frame; rights = rights })
IsStateOf v p (Retired first pages mark) =
    (r : world.Retired) × IsIn r v.retired × IsWithin r.range p × (r.range ≡ record { first = first; pages = pages }) × (r.mark ≡ mark)
