-- Which rows may hold a word.
use Rattle.std.proofs.Common.{◌≡◌, ◌≢◌, ◌<◌, ◌*◌, ◌^◌, ◌%◌, ℕ, List, replicate, arith, sym, ap, ◌∙◌, get_or-set_other}
use Rattle.std.specs.Prelude.{slice_index, slice_set}
use Rattle.std.specs.Int.{w16, bit_at, bit_not}
use Rattle.std.specs.Int.Bits.{bit_and, bit_or}
use Rattle.std.proofs.lemmas.List.{get_or-replicate}
use Rattle.std.proofs.lemmas.Nat.Bits.{bit_at_set_same, bit_at_set_other, bit_at_clear_other}
use mathlib.Core.Logic.{dite}
use native.Mathlib.Decide.{ℕ_discrete}
use Rattle.ports.specs.Seen.{AreEmptyBut}
use Rattle.ports.specs.Steps.{place_of}
use Rattle.dmatypes.specs.declared.limits.TheConstants.{DEVICES}
use Rattle.ports.specs.declared.rule.TheConstants.{ROW_WORDS, SLOTS}

-- new rows are empty
pub none_filled : AreEmptyBut 0 (replicate ROW_WORDS 0)
none_filled device slot low small not = get_or-replicate ROW_WORDS (place_of device slot) 0 0 (omega (arith, low, small))

-- a row in which a word is stored may hold one
pub stored_filled : (filled device slot word : ℕ) (last last' : List ℕ) → device < DEVICES → slot < SLOTS
    → last' ≡ slice_set last (place_of device slot) word → AreEmptyBut filled last
    → AreEmptyBut (bit_or filled (1 * 2 ^ device % 2 ^ 16)) last'
stored_filled filled device slot word last last' low small is empty d s hd hs not =
    dite (ℕ_discrete d device)
    (λ e. absurd (not (rw e (bit_at_set_same w16 filled device low))))
    (λ ne.
    let apart : place_of d s ≢ place_of device slot = λ same. ne (omega (arith, same, hs, small)) in
    ap (λ (l : List ℕ). slice_index l (place_of d s)) is
    ∙ get_or-set_other last (place_of device slot) (place_of d s) word 0 apart
    ∙ empty d s hd hs (λ one. not (bit_at_set_other w16 filled device low d ne ∙ one)))

-- a row in which every word is 0 holds none
pub cleared_filled : (filled device : ℕ) (last : List ℕ) → device < DEVICES
    → ((slot : ℕ) → slot < SLOTS → slice_index last (place_of device slot) ≡ 0) → AreEmptyBut filled last
    → AreEmptyBut (bit_and filled (bit_not w16 (1 * 2 ^ device % 2 ^ 16))) last
cleared_filled filled device last low cleared empty d s hd hs not =
    dite (ℕ_discrete d device)
    (λ e. rw e (cleared s hs))
    (λ ne. empty d s hd hs (λ one. not (bit_at_clear_other w16 filled device low d hd ne ∙ one)))
