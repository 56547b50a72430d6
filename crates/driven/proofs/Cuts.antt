-- The tree that an unmap cuts, from what becomes of the state.
use Rattle.std.proofs.Common.{◌≡◌, inl, inr, ℕ, ◌+◌, ◌-◌, ◌<◌, ◌≤◌, List, Some, refl, sym, ap, subst, arith}
use Rattle.dmatypes.specs.Page.{Range, levels, pages_end}
use Rattle.dmatypes.specs.declared.call.Mode.{Mode}
use Rattle.dmatypes.specs.declared.call.Mode.TheVariants.{Lazy, Strict}
use Rattle.iova.specs.Space.{IsSpace}
use Rattle.piece_tree.specs.declared.piece.PageState.TheVariants.{Live}
use Rattle.tables.specs.Changes.{KeepsSpellings, TakesAndGivesFrames, UnmapsPages}
use Rattle.tables.specs.Pool.{Pool}
use Rattle.tables.specs.Spelled.{AreSpelled}
use Rattle.moments.specs.Moments.{AreFreeZeroed}
use Rattle.engine.specs.declared.record.Record.{Record}
use Rattle.engine.specs.Domains.{Domain, Operands, domain_at}
use Rattle.engine.specs.Ending.{ByMode, MakesRoom, PutsOff, RetiresAndUnmaps, UnmapsStrictly}
use Rattle.engine.specs.State.{State, operands_in}
use Rattle.engine.proofs.domains.OneChanged.{both_there}
use Rattle.quiet.proofs.Changes.{space_end}
use Rattle.quiet.specs.Quiet.{IsSound}
use Rattle.driven.proofs.Changed.{Sound}

-- a tree lost the pages of the range, between pools with the words of before the call and of after it
pub record Cuts (m t : State) (h : Domain) (range : Range) : Type 0 where
  pub old : Pool
  pub new : Pool
  pub cut : List ℕ
  pub was : old.words ≡ m.pool.words
  pub is : new.words ≡ t.pool.words
  pub below : range.first + range.pages ≤ pages_end h.width
  pub sound : Sound old new (levels h.width) h.root range.first (range.first + range.pages) cut
  pub unmaps : UnmapsPages old new (levels h.width) h.root range.first (range.first + range.pages) cut

module _ (m t : State) (sound : IsSound m) (e : ℕ) (h : Domain) (here : domain_at m.domains e ≡ Some h) (range : Range)
    (some : 1 ≤ range.pages) where
  -- the domain when the tree loses the range: of its width and root
  at_h : (P : ℕ → ℕ → Type 0) (x : Domain) → x.width ≡ h.width → x.root ≡ h.root → P (levels x.width) x.root → P (levels h.width) h.root
  at_h P x wide top there = subst (λ n. P n h.root) (ap levels wide) (subst (λ n. P (levels x.width) n) top there)

  cuts_of : (p p' : Pool) (x b : Domain) (r : Record) → p.words ≡ m.pool.words → p'.words ≡ t.pool.words → x.width ≡ h.width
      → x.root ≡ h.root → AreFreeZeroed p → r.range ≡ range → x.space.last ≡ h.space.last → IsSpace x.space
      → RetiresAndUnmaps p x r p' b → Cuts m t h range
  cuts_of p p' x b r was is wide top zeroed pages last space retires =
      subst (λ y. Cuts m t h y) pages (record {
        old = p;
        new = p';
        cut = r.cut.frames;
        was = was;
        is = is;
        below = omega (arith, more, inside (r.range.first + r.range.pages - 1) (omega (arith, more)) (omega (arith, more)));
        sound = record {
          zeroed = zeroed;
          zeroed' = retires.is_pool.zeroed;
          before = before;
          after = at_h (λ l n. KeepsSpellings p p' l n) x wide top retires.spelled before;
          moves = at_h (λ l n. TakesAndGivesFrames p p' l n r.cut.frames) x wide top retires.moves;
          some = omega (arith, more);
        };
        unmaps = at_h (λ l n. UnmapsPages p p' l n r.range.first (r.range.first + r.range.pages) r.cut.frames) x wide top retires.unmaps;
      })
    where
      more : 1 ≤ r.range.pages
      more = subst (λ (y : Range). 1 ≤ y.pages) (sym pages) some

      before : AreSpelled p.words (levels h.width) h.root
      before =
          subst (λ ws. AreSpelled ws (levels h.width) h.root) (sym was)
          (both_there m.pool.words (domain_at m.domains e) (sound.of_world.0.domains e) h (sound.of_world.1.domains e) here).2.spelled

      inside : (q : ℕ) → r.range.first ≤ q → q < r.range.first + r.range.pages → q < pages_end h.width
      inside q from to =
          let v = both_there m.pool.words (domain_at m.domains e) (sound.of_world.0.domains e) h (sound.of_world.1.domains e) here in
          omega (
            arith,
            ap pages_end v.2.ids.width,
            last,
            v.2.pieces.whole,
            v.2.pieces.is_space.some,
            space_end x.space q Live space (retires.may.live q (from, to)),
          )

  own_space : IsSpace h.space
  own_space =
      (both_there m.pool.words (domain_at m.domains e) (sound.of_world.0.domains e) h (sound.of_world.1.domains e) here).2.pieces.is_space

  -- as the mode of its domain ends the range
  pub cuts : (released : ℕ) (new : Domain) (mode : Mode)
      → ByMode mode ((released ≡ 0) × UnmapsStrictly (operands_in m h) e range (operands_in t new))
      (PutsOff (operands_in m h) e range released (operands_in t new)) → Cuts m t h range
  cuts released new Strict does =
      let u = does.1 in
      cuts_of m.pool u.pool_between h u.between u.retired refl (sym u.releases.words) refl refl sound.of_world.1.frames.zeroed u.of_range
      refl own_space u.retires
  cuts released new Lazy does = by_room does.roomy does.room does.retires
    where
      by_room : (roomy : Operands) → MakesRoom (operands_in m h) e released roomy
          → RetiresAndUnmaps roomy.pool roomy.domain does.retired t.pool does.between → Cuts m t h range
      by_room roomy (inl has) retires =
          cuts_of m.pool t.pool h does.between does.retired refl refl refl refl sound.of_world.1.frames.zeroed does.of_range refl own_space
          (subst (λ (y : Operands). RetiresAndUnmaps y.pool y.domain does.retired t.pool does.between) has.same retires)
      by_room roomy (inr empties) retires =
          let z = empties.flushes in
          cuts_of roomy.pool t.pool roomy.domain does.between does.retired z.releases.words refl (ap (λ (y : Domain). y.width) z.same)
          (ap (λ (y : Domain). y.root) z.same) z.releases.zeroed does.of_range z.releases.last z.releases.is_space retires
