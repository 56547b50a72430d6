-- The empty struct is made, and its moments are picked as the clause names them. Assumes `Logic`.
use Rattle.std.proofs.Common.{[], ◌∷◌, ◌++◌, refl, take, w64}
use Rattle.std.proofs.raw_atomic.Walks.{proved}
use types.Kit.{‵, raw, ◌⊛◌, ◌$◌, ◌∵◌, !, qed, done, drop, keep, move, split, fjoin, suffices}
use types.Part.{agg}
use types.Run.{enter, returns, no_more}
use types.ByLocal.{alloc_all, pass_all, free_all, look_at, sets}
use denote.Builtin.{RefOf, u64, usize}
use denote.Exit.{yes}
use denote.RattleType.{owns}
use denote.Plain.{uint_vals, uint_Tells}
use denote.Ref.{shr_vals}
use denote.Signature.{Slot, plain, types_at}
use denote.Steps.{nothing}
use denote.Triple.Entry.{alive}
use denote.Triple.Walked.{says, Stays, stay_dropped, Goes-dropped, walk_of, ends_at}
use Rattle.std.specs.contracts.alloc.Global as Global
use Rattle.std.specs.contracts.impls.GlobalAllocator.TheImpl.{ghosts as allocator}
use Rattle.std.specs.contracts.vec.Vec as Vec
use Rattle.dmatypes.specs.contracts.page.Frame as Frame
use Rattle.tables.specs.Pool.{Moment}
use Rattle.tables.proofs.trails.Made.{empty, made}
use Rattle.tables.specs.contracts.trail.Trail as Trail
use Rattle.tables.specs.contracts.trail.Trail.and as f
use Rattle.tables.proofs.trail.Trail.and.Statement.{statement}
use Rattle.tables.proofs.trail.Trail.and.Code as code

abbrev trail : Slot 3
trail = RefOf (0 ∷ []) tt (plain (λ _. Trail.the_row)) (λ _. tt)

abbrev words : Slot 3
words = RefOf (1 ∷ []) tt (plain (λ _. Vec.the_row u64 Global.the_row allocator)) (λ _. tt)

abbrev slots : Slot 3
slots = RefOf (2 ∷ []) tt (plain (λ _. Vec.the_row Frame.the_row Global.the_row allocator)) (λ _. tt)

abbrev free : Slot 3
free = plain (λ _. usize)

abbrev stayed : Stays f.ended.signature.params f.ended.kept
stayed = (stay_dropped _ yes, (stay_dropped _ yes, (stay_dropped _ yes, (stay_dropped _ yes, tt))))

pub and_spec : {M : Type 1} → statement M
and_spec 𝓤 𝓛 𝓜 𝓡 wired =
    let c = f.clauses 𝓛 𝓜.mem 𝓡.returns in let W = walk_of 𝓛 f.ended stayed c in
    proved 𝓛 f.ended stayed c 𝓜 𝓡 (
      Goes-dropped 𝓛 3 trail yes (λ κs x w. refl),
      (
        Goes-dropped 𝓛 3 words yes (λ κs x w. refl),
        (Goes-dropped 𝓛 3 slots yes (λ κs x w. refl), (Goes-dropped 𝓛 3 free yes (λ κs x w. refl), tt)),
      ),
    )
    f.Key.name code.function (code.unfolded 𝓤 𝓛.H 𝓜 𝓡 wired)
    (λ κs. (shr_vals, (shr_vals, (shr_vals, (uint_vals w64, tt)))))
    (λ κs. ((λ r vs s. s.0), ((λ r vs s. s.0), ((λ r vs s. s.0), (uint_Tells w64, tt))))) (λ κs qs bounds a n are.
    let y : W.Ghost = ((κs, qs, bounds, a, (shr_vals a.0, (shr_vals a.1.0, (shr_vals a.1.1.0, (uint_vals w64 a.1.1.1.0, tt))))), n) in
    let moment : Moment = record { words = a.1.0.now.items; free = take a.1.1.1.0 a.1.1.0.now.items } in
    let picked : (Trail.the_row).Denot = record { moments = a.0.now.moments ++ moment ∷ [] } in
    qed 𝓛 ((raw (alive 𝓛 f.ended.signature κs qs) ⊛ ‵ (owns (types_at f.ended.signature.params κs) a y.0.4))
    ∷ raw ((c κs a).requires n) ∷ []) ∵
    keep ! (0 ∷ []) $ split ! $ move ! (1 ∷ []) $ drop ! $
    enter ! _ _ _ _ _ $ alloc_all ! (λ l.
    pass_all ! refl ((tt, tt), ((tt, tt), ((tt, tt), ((tt, record { fits = are.1.1.1.0.1 }), tt)))) $
    sets ! (agg ! (no_more !)) refl (tt, tt) $
    nothing ! $ made ! $ fjoin ! $
    returns ! (look_at ! 0 refl) $ free_all ! refl $
    suffices ! _ (ends_at 𝓛 f.ended stayed c y empty picked (tt, (tt, (tt, (tt, tt)))) (tt, (tt, (tt, (tt, tt))))) $ says ! refl $
    nothing ! $ nothing ! $ fjoin ! $ nothing ! $ fjoin ! $ nothing ! $ fjoin ! $ nothing ! $ fjoin ! $
    move ! (2 ∷ 0 ∷ 1 ∷ []) $ done !))
