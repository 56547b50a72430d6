use Rattle.std.specs.BTreeMap as tree
use Rattle.std.specs.Ordering.{nat_cmp}
use Rattle.checker.specs.declared.run.Run.{Run}
use Rattle.checker.proofs.worlds.Entries.{more_of, put_apart}
use Rattle.checker.proofs.worlds.Runs.{more_apart, more_pages}
use Rattle.checker.proofs.pages.Pages.put.Goals as goal

pub invariant_of-self : goal.invariant_of-self
invariant_of-self c =
    let old = c.args.self.now.runs in
    let new = c.insert.new.self in
    let r : Run = record { pages = c.args.segment.pages; frame = c.args.segment.frame; rights = c.args.rights } in
    record {
      apart = put_apart c.insert.result old new c.args.first r c.insert.ensures.updates c.insert.ensures.err c.args.self.now.apart (λ put.
          more_apart (tree.get nat_cmp old) (tree.get nat_cmp new) c.args.first r c.args.self.now.apart
          (more_of old new c.args.first r put c.requires.some c.requires.pages c.requires.frames c.requires.free));
    }

pub returns : goal.returns
returns c = λ p.
    let old = c.args.self.now.runs in
    let new = c.insert.new.self in
    let r : Run = record { pages = c.args.segment.pages; frame = c.args.segment.frame; rights = c.args.rights } in
    more_pages (tree.get nat_cmp old) (tree.get nat_cmp new) c.args.first r p c.args.self.now.apart
    (more_of old new c.args.first r c.in_ok-insert.ensures.updates c.requires.some c.requires.pages c.requires.frames c.requires.free)
