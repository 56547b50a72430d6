use Rattle.std.proofs.Common.{◌≡◌, ◌*◌, [], ◌∷◌, ◌++◌, length, take, ap, ◌∙◌, arith, ⊎_elim, replicate}
use Rattle.std.proofs.lemmas.Bool.{cases_lt}
use Rattle.std.proofs.Math.ListN.{length-replicate}
use Rattle.std.proofs.Math.Seq.{take-length}
use Rattle.tables.specs.declared.entries.TheConstants.{TABLE_ENTRIES}
use Rattle.tables.specs.Pool.{occurs}
use Rattle.tables.proofs.pools.FreeList.{zero_words, counted_up, counted_past, counted_once}
use Rattle.tables.proofs.frames.Pool.new.Goals as goal

pub loop-number-preserved : goal.loop-number-preserved
loop-number-preserved c =
    let named : c.unwrap.result ≡ c.loop-number.number = (rw c.unwrap.ensures at c.new.ensures.value) in
    let pushed : c.push.new.self.items ≡ c.loop-number.slots.items ++ c.loop-number.number ∷ [] =
    c.in_ok-push.ensures.items ∙ ap (λ x. c.loop-number.slots.items ++ x ∷ []) named in
    record {
      long = omega (arith, c.in_ok-push.ensures.len);
      below =
          rw pushed (counted_up c.loop-number.slots.items c.loop-number.number c.loop-number.invariant.below c.loop-number.invariant.past);
      past = rw pushed (counted_past c.loop-number.slots.items c.loop-number.number c.loop-number.invariant.past);
    }

pub returns-clause-free : goal.returns-clause-free
returns-clause-free c f h =
    let slots = c.loop-number.slots.items in
    let whole : take c.args.frames slots ≡ slots = ap (λ n. take n slots) (omega arith) ∙ take-length slots in
    ap (occurs f) whole ∙ c.loop-number.invariant.below f (omega arith)

pub returns-clause-zeroed : goal.returns-clause-zeroed
returns-clause-zeroed c f h k k_in =
    let made : c.in_ok-words.words.items ≡ replicate (c.args.frames * TABLE_ENTRIES) 0 =
    c.in_ok-words.ensures.items_if_clones_equal (λ y e. e) in
    zero_words _ c.args.frames made f k h k_in

pub invariant_of-result : goal.invariant_of-result
invariant_of-result c =
    let slots = c.loop-number.slots.items in
    let long : c.args.frames ≡ length c.loop-number.slots.items = omega arith in
    let whole : take c.args.frames slots ≡ slots = ap (λ n. take n slots) long ∙ take-length slots in
    let made : c.in_ok-words.words.items ≡ replicate (c.args.frames * TABLE_ENTRIES) 0 =
    c.in_ok-words.ensures.items_if_clones_equal (λ y e. e) in (
      record {
        fit = ap length made ∙ length-replicate _ _ ∙ ap (λ n. n * TABLE_ENTRIES) long;
        few = omega arith;
        once =
            λ f.
            omega (
              arith,
              ap (occurs f) whole,
              counted_once slots c.loop-number.number c.loop-number.invariant.below c.loop-number.invariant.past f,
            );
        within = λ f g. ap (occurs f) whole ∙ c.loop-number.invariant.past f (omega arith);
        zeroed =
            λ f g k k_in.
            ⊎_elim (λ l. zero_words _ c.args.frames made f k l k_in)
            (λ past. absurd (omega (arith, ap (occurs f) whole, c.loop-number.invariant.past f (omega arith))))
            (cases_lt f c.args.frames);
      },
      omega arith,
    )

pub returns-clause-pool : goal.returns-clause-pool
returns-clause-pool c = (invariant_of-result c).0
