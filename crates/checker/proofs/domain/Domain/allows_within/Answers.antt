use Rattle.std.proofs.Common.{◌≡◌, inl, inr, sym, ◌∙◌, false, true}
use Rattle.dmatypes.specs.declared.reply.Reply.TheVariants.{Faulted}
use Rattle.dmatypes.specs.Allows.{fault_of, IsLiveFor}
use Rattle.dmatypes.specs.World.{Target}
use Rattle.checker.specs.World.{domain_of}
use Rattle.checker.proofs.worlds.Reached.{reached, to_reach}
use Rattle.checker.proofs.domain.Domain.allows_within.Goals as goal

pub returns-else-is_fault : goal.returns-else-is_fault
returns-else-is_fault c =
    let d = c.args.self.now in
    let a = c.args.address in
    let not_live : (t : Target) → IsLiveFor (domain_of d) a c.args.access t → ⊥ = c.in-None.ensures in
    let no_fault : c.args.reply ≡ Faulted (fault_of c.args.access) → ⊥ = λ e.
    let yes : c.is_fault.result ≡ true = c.is_fault.ensures.1 e in absurd (let clash : true ≡ false = sym yes
    ∙ c.if-is_fault.false in cc) in (
      λ yes. inr (not_live, inl (reached d a c.args.access c.args.reply (sym c.reaches_retired.ensures ∙ yes))),
      λ allowed. elim allowed [
        | inl live ↦ absurd (not_live live.0 live.1)
        | inr others ↦ elim others.1 [
          | inl there ↦ c.reaches_retired.ensures ∙ to_reach d a c.args.access c.args.reply there
          | inr fault ↦ absurd (no_fault fault)
        ]
      ],
    )
