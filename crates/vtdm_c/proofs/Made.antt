-- A manager that was made at a handle with none.
use Rattle.std.proofs.Common.{◌≡◌, ◌≤◌, Bool, ℕ, Option, None, Some, is_some, false, inl, inr, refl, true≢false, arith}
use Rattle.dmatypes.specs.declared.limits.TheConstants.{LEAST_TABLE_FRAMES, MOST_TABLE_FRAMES}
use Rattle.vtdm_c.specs.Called.{Creates, HasBase, IsNewSession, WritesStatus}
use Rattle.vtdm_c.specs.declared.answer.TheConstants.Answer.{OK}
use Rattle.vtdm_c.specs.declared.life.DrivenUnit.{DrivenUnit}
use Rattle.vtdm_c.specs.declared.session.Session.{Session}

pub made : (h : Option Session) (frames : ℕ) (caching : Bool) (unit : Option DrivenUnit) (s : Session) (after : Option Session)
    → is_some h ≡ false → LEAST_TABLE_FRAMES ≤ frames → frames ≤ MOST_TABLE_FRAMES → WritesStatus unit → HasBase frames unit
    → after ≡ Some s → IsNewSession frames caching unit s → Creates h frames caching unit OK after
made (Some old) frames caching unit s after none some few at base is new = absurd (true≢false none)
made None frames caching unit s after none some few at base is new = record {
  bad = λ wrong. elim wrong [ inl less ↦ absurd (omega (arith, less, some)) | inr more ↦ absurd (omega (arith, more, few)) ];
  askew = λ _ _ not. absurd (not at);
  nowhere = λ _ _ _ not. absurd (not base);
  good = λ _ _ _ _. inr (refl, s, is, new);
}
