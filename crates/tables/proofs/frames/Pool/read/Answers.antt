use Rattle.std.proofs.Common.{◌≡◌, ◌+◌, ◌*◌, ◌<◌, ◌≤◌, length, ap, sym, ◌∙◌, arith}
use Rattle.std.proofs.lemmas.List.{get_or_past, get_or_read}
use Rattle.tables.specs.declared.entries.TheConstants.{TABLE_ENTRIES}
use Rattle.tables.specs.Pool.{Pool, word}
use Rattle.tables.proofs.frames.Pool.read.Goals as goal

pub returns-then-place-len : goal.returns-then-place-len
unfolding word
returns-then-place-len c =
    let words : c.self.inside.words.items ≡ c.args.self.now.words = ap (λ (p : Pool). p.words) c.self.view_is in
    let named : c.number.result ≡ c.args.frame = c.number.ensures.value in
    let inside : c.number.result * TABLE_ENTRIES + c.args.index < length c.self.inside.words.items = omega arith in
    get_or_read c.self.inside.words.items _ _ inside c.index.ensures 0 ∙ ap (λ f. word c.self.inside.words.items f c.args.index) named
    ∙ ap (λ w. word w c.args.frame c.args.index) words

pub returns-else-place-len : goal.returns-else-place-len
unfolding word
returns-else-place-len c =
    let words : c.self.inside.words.items ≡ c.args.self.now.words = ap (λ (p : Pool). p.words) c.self.view_is in
    let named : c.number.result ≡ c.args.frame = c.number.ensures.value in
    let past : length c.self.inside.words.items ≤ c.number.result * TABLE_ENTRIES + c.args.index = omega arith in
    sym (get_or_past c.self.inside.words.items _ 0 past) ∙ ap (λ f. word c.self.inside.words.items f c.args.index) named
    ∙ ap (λ w. word w c.args.frame c.args.index) words
