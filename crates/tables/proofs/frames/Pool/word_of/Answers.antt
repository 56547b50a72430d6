use Rattle.std.proofs.Common.{◌≡◌, ◌+◌, ◌*◌, ◌<◌, length, ap, ◌∙◌, arith}
use Rattle.std.proofs.lemmas.List.{get_or_read}
use Rattle.tables.specs.declared.entries.TheConstants.{TABLE_ENTRIES}
use Rattle.tables.specs.Pool.{Pool, word}
use Rattle.tables.proofs.frames.Pool.word_of.Goals as goal

pub returns : goal.returns
unfolding word
returns c =
    let words : c.self.inside.words.items ≡ c.args.self.now.words = ap (λ (p : Pool). p.words) c.self.view_is in
    let frames : length c.self.inside.slots.items ≡ c.args.self.now.frames = ap (λ (p : Pool). p.frames) c.self.view_is in
    let named : c.number.result ≡ c.args.frame = c.number.ensures.value in
    let inside : c.number.result * TABLE_ENTRIES + c.args.index < length c.self.inside.words.items =
    omega (arith, c.self.invariant.0.fit, frames, named, c.requires.frame, c.requires.index) in
    get_or_read c.self.inside.words.items _ _ inside c.index.ensures 0 ∙ ap (λ f. word c.self.inside.words.items f c.args.index) named
    ∙ ap (λ w. word w c.args.frame c.args.index) words
