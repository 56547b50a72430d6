use Rattle.std.proofs.Common.{◌≡◌, ◌+◌, ◌*◌, drop, get_or, ap, ◌∙◌, arith, get_or-drop, get_or-take}
use Rattle.tables.specs.declared.entries.TheConstants.{TABLE_ENTRIES}
use Rattle.tables.specs.Pool.{Pool, word}
use Rattle.tables.proofs.frames.Pool.words_of.Goals as goal

pub returns-clause-words : goal.returns-clause-words
unfolding word
returns-clause-words c k k_in =
    let words : c.self.inside.words.items ≡ c.args.self.now.words = ap (λ (p : Pool). p.words) c.self.view_is in
    let named : c.number.result ≡ c.args.frame = c.number.ensures.value in
    get_or-take _ (drop (c.number.result * TABLE_ENTRIES) c.deref.result.now) k 0 (omega (arith, k_in))
    ∙ get_or-drop (c.number.result * TABLE_ENTRIES) c.deref.result.now k 0
    ∙ ap (λ xs. get_or xs (c.number.result * TABLE_ENTRIES + k) 0) c.deref.ensures.value
    ∙ ap (λ f. word c.self.inside.words.items f k) named
    ∙ ap (λ w. word w c.args.frame k) words
