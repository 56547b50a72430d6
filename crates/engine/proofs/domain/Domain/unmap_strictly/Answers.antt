use Rattle.std.proofs.Common.{◌≡◌, length, ap, arith, sym, subst, ◌∙◌}
use Rattle.dmatypes.specs.Page.{Range}
use Rattle.dmatypes.specs.Page.{levels}
use Rattle.iova.specs.Space.{Space, MayRetire}
use Rattle.tables.specs.Pool.{Pool, IsTree}
use Rattle.engine.specs.declared.record.Record.{Record}
use Rattle.engine.specs.Domains.{Domain}
use Rattle.engine.specs.Ending.{FreesEnded, Invalidates, UnmapsAlone, record_shown}
use Rattle.engine.specs.Ready.{IsFreeable}
use Rattle.engine.proofs.caches.WorkedOff.{done_then, sent_covers}
use Rattle.engine.proofs.flushes.MayRelease.{cut_freeable, ended_at_once}
use Rattle.engine.proofs.domain.Domain.unmap_strictly.Goals as goal

-- what was cut can be freed in the same space under another name
kept : (pool pool' : Pool) (h : Domain) (space : Space) (r : Record) (range : Range) → IsTree pool (levels h.width) h.root
    → UnmapsAlone pool h r pool' → r.range ≡ range → MayRetire h.space.pieces range → h.space ≡ space → IsFreeable pool' space r
kept pool pool' h space r range tree cuts same may is =
    subst (λ (s : Space). IsFreeable pool' s r) is
    (cut_freeable pool pool' h r tree cuts (subst (λ k. MayRetire h.space.pieces k) (sym same) may))

pub invalidate_pages-requires-clause-kept : goal.invalidate_pages-requires-clause-kept
invalidate_pages-requires-clause-kept c =
    kept _ _ _ _ _ _ c.requires.can.tree c.cut-ended.ensures.unmaps c.cut-ended.ensures.range c.requires.may.0
    (sym (ap (λ (d : Domain). d.space) (c.self.view_is ∙ c.cut-ended.ensures.same)))

pub free-requires-clause-can : goal.free-requires-clause-can
free-requires-clause-can c =
    kept _ _ _ _ _ _ c.requires.can.tree c.cut-ended.ensures.unmaps c.cut-ended.ensures.range c.requires.may.0
    (sym (ap (λ (d : Domain). d.space) (c.self.view_is ∙ c.cut-ended.ensures.same)))

pub free-requires-clause-invalidated : goal.free-requires-clause-invalidated
free-requires-clause-invalidated c = record {
  descriptor = c.invalidate_pages.ensures.0;
  covers = sent_covers c.args.id c.cut-ended.result c.invalidate_pages.ensures.0 c.invalidate_pages.ensures.1;
  number = c.invalidate_pages.new.self.sent;
  made = omega (arith, c.cut-ended.ensures.made, c.invalidate_pages.ensures.2.number);
  sent = omega arith;
  done = done_then _ _ _ c.invalidate_pages.ensures.2;
}

pub returns : goal.returns
returns c =
    let h : Domain = c.args.self.now in
    let is = c.self.view_is ∙ c.cut-ended.ensures.same in
    let frees : FreesEnded c.cut-ended.new.pool h.space c.cut-ended.result c.free.new.pool c.free.new.space =
    subst (λ (s : Space). FreesEnded c.cut-ended.new.pool s c.cut-ended.result c.free.new.pool c.free.new.space)
    (ap (λ (d : Domain). d.space) is) c.free.ensures in
    let w = ended_at_once c.args.pool.now c.cut-ended.new.pool c.free.new.pool h c.free.new.space c.cut-ended.result c.args.range
    c.cut-ended.ensures.range c.requires.may.0 c.cut-ended.ensures.unmaps frees in
    record {
      retired = c.cut-ended.result;
      of_range = c.cut-ended.ensures.range;
      descriptor = c.invalidate_pages.ensures.0;
      pool_between = c.cut-ended.new.pool;
      between = w.0;
      retires = w.1;
      made = c.cut-ended.ensures.made;
      sent = c.invalidate_pages.ensures.1;
      invalidates = subst (λ root. Invalidates c.args.iommu.now c.invalidate_pages.ensures.0
          (record_shown root c.args.range (length c.cut-ended.new.pool.free)) c.invalidate_pages.new.self)
          (ap (λ (d : Domain). d.root) is)
          (subst (λ range. Invalidates c.args.iommu.now c.invalidate_pages.ensures.0
          (record_shown c.self.inside.tree.root range (length c.cut-ended.new.pool.free)) c.invalidate_pages.new.self)
          c.cut-ended.ensures.range c.invalidate_pages.ensures.2);
      releases = w.2;
      same = ap (λ (d : Domain). record d { space = c.free.new.space }) is ∙ w.3;
    }
