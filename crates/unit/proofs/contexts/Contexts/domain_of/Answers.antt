-- The upper word of a pair that spells an entry says the domain alone.
use Rattle.std.proofs.Common.{◌≡◌, ◌≢◌, ◌∙◌, ℕ, ◌/◌, ◌<◌, List, Option, None, Some, IsSome, ap, arith, length, map, option_map, refl, slice_get}
use Rattle.std.proofs.Common.{slice_index_or, sym, unwrap_or}
use Rattle.std.proofs.lemmas.Option.{slice_get-get_or, slice_get-map}
use Rattle.dmatypes.specs.declared.width.Width.TheVariants.{W39, W48}
use Rattle.vtdbits.proofs.Contexts.{spelled_of-context}
use Rattle.vtdbits.specs.Context.{Spells, attached, context_of}
use Rattle.vtdbits.specs.declared.context.ContextEntry.{ContextEntry}
use Rattle.vtdbits.specs.declared.context.ContextEntry.TheVariants.{Absent, Present}
use Rattle.vtdbits.specs.declared.words.Words.{Words}
use Rattle.unit.specs.Row.{IsRow, entry_in}
use Rattle.unit.proofs.contexts.Contexts.domain_of.Goals as goal

vacant : (w : Words) (e : ContextEntry) → Spells w e → w.high / 256 ≡ 0 → attached (Some e) ≡ None
vacant w Absent s zero = refl
vacant w (Present root W39 domain) s zero = absurd (omega (arith, s.1.0, s.3, zero))
vacant w (Present root W48 domain) s zero = absurd (omega (arith, s.1.0, s.3, zero))

named : (w : Words) (e : ContextEntry) → Spells w e → w.high / 256 ≢ 0 → attached (Some e) ≡ Some (w.high / 256)
named w Absent s some = absurd (some (omega (arith, s.1)))
named w (Present root W39 domain) s some = ap (λ n. Some n) (omega (arith, s.3))
named w (Present root W48 domain) s some = ap (λ n. Some n) (omega (arith, s.3))

read : (w : Words) (o : Option ContextEntry) → context_of w ≡ o → IsSome o → Spells w (unwrap_or o Absent)
read w None is some = cc
read w (Some e) is some = spelled_of-context w e is

abbrev blank : Words
blank = record { low = 0; high = 0 }

-- the row's entry of the device, in its words
entry_at : (words : List Words) (row : List ContextEntry) (device : ℕ) → row ≡ map entry_in words → device < length words
    → slice_get row device ≡ Some (entry_in (slice_index_or words device blank))
entry_at words row device is less =
    ap (λ r. slice_get r device) is ∙ slice_get-map entry_in words device
    ∙ ap (λ o. option_map entry_in o) (slice_get-get_or words device blank less)

spelled_at : (words : List Words) (device : ℕ) → IsRow words → device < length words
    → Spells (slice_index_or words device blank) (entry_in (slice_index_or words device blank))
spelled_at words device row less = read (slice_index_or words device blank) _ refl (row.spelled device blank less)

pub returns-then-domain-eq0 : goal.returns-then-domain-eq0
returns-then-domain-eq0 c =
    let less : c.args.device < length c.self.inside.words = omega (arith, c.requires, c.self.invariant.devices) in
    sym (ap attached (entry_at c.self.inside.words c.args.self.now c.args.device (sym c.self.view_is) less)
    ∙ vacant _ _ (spelled_at c.self.inside.words c.args.device c.self.invariant less) c.if-domain-eq0.true)

pub returns-else-domain-eq0 : goal.returns-else-domain-eq0
returns-else-domain-eq0 c =
    let less : c.args.device < length c.self.inside.words = omega (arith, c.requires, c.self.invariant.devices) in
    sym (ap attached (entry_at c.self.inside.words c.args.self.now c.args.device (sym c.self.view_is) less)
    ∙ named _ _ (spelled_at c.self.inside.words c.args.device c.self.invariant less) c.if-domain-eq0.false)
