use Rattle.std.proofs.Common.{◌≡◌, ◌+◌, ◌-◌, ◌++◌, ◌⊎◌, List, ℕ, take, refl, subst, sym, ap, ◌∙◌, drop, length, length-append}
use Rattle.std.proofs.Common.{arith, inl, inr}
use Rattle.std.proofs.lemmas.List.{length-take-le}
use Rattle.streams.specs.Bytes.{TakesLine}
use Rattle.streams.specs.declared.stream.LineScan.{LineScan}
use Rattle.streams.specs.declared.stream.LineScan.TheVariants as parts
use Rattle.streams.proofs.Past.{ended}
use Rattle.streams.proofs.stream.Stream.take_line.Goals as goal

not_more : (taken : LineScan) → (taken ≡ parts.Newline) ⊎ (taken ≡ parts.Long) → taken ≡ parts.More → ⊥
not_more parts.Newline is e = cc
not_more parts.Long is e = cc
not_more parts.More (inl e) more = cc
not_more parts.More (inr e) more = cc

pub returns-in-Newline : goal.returns-in-Newline
returns-in-Newline g c =
    let count = c.line_end-count.result.0 in
    let left : c.advance.new.self ≡ drop 1 (drop count c.as_slice.result.now) =
    c.advance.ensures ∙ ap (λ (b : List ℕ). drop 1 b) (c.move_to.ensures.rest)
    ∙ ap (λ (b : List ℕ). drop 1 (drop count b)) (sym c.as_slice.ensures) in
    let line : c.move_to.new.line.items ≡ c.args.line.now.items ++ take count c.as_slice.result.now =
    c.move_to.ensures.line ∙ ap (λ (b : List ℕ). c.args.line.now.items ++ take count b) (sym c.as_slice.ensures) in
    let full : length c.args.line.now.items + (g.row.MOST - c.len.result) ≡ g.row.MOST = omega (arith, c.len.ensures.value, c.requires) in
    record {
      few = omega (
        arith,
        ap length line ∙ length-append c.args.line.now.items (take count c.as_slice.result.now),
        length-take-le count c.as_slice.result.now c.line_end-count.ensures.within.1,
        c.line_end-count.ensures.within.0,
        full,
      );
      bytes = subst
          (λ (b : List ℕ). TakesLine g.row.MOST b c.advance.new.self c.args.line.now.items c.move_to.new.line.items
          c.line_end-count.result.1)
          c.as_slice.ensures
          (ended g.row.MOST (g.row.MOST - c.len.result) count c.as_slice.result.now c.advance.new.self
          c.args.line.now.items c.move_to.new.line.items c.line_end-count.result.1 c.line_end-count.ensures.end
          (not_more c.line_end-count.result.1 c.in-Newline.is) c.line_end-count.ensures.within.1 line left full);
      wrapped = refl;
    }
