-- An event more at the end of a history.
use Rattle.std.proofs.Common.{◌≡◌, Bool, ℕ, ◌+◌, ◌<◌, List, [], ◌∷◌, ◌++◌, length, refl, ap, sym, ◌∙◌, subst, arith, length-append}
use Rattle.dmatypes.specs.declared.reply.Event.{Event}
use Rattle.dmatypes.specs.World.{empty}
use Rattle.dmatypes.specs.History.{IsLegal, after}
use Rattle.dmatypes.proofs.histories.Entered.{after_from-push, IsLegalFrom-push}
use Rattle.engine.specs.Quarantine.{Quarantine}
use Rattle.engine.specs.State.{State}
use Rattle.engine.specs.Steps.{Does, Goes}
use Rattle.engine.specs.Whole.{IsWhole}
use Rattle.engine.proofs.states.Refused.{frames_kept}
use Rattle.ports.specs.Lawful.{IsLawfulAfter}
use Rattle.ports.specs.Steps.{AreLawful}
use Rattle.manager.specs.Kept.{Book, IsKept, end_of}

Goes-push : (m : State) (es : List Event) (s : State) (e : Event) (t : State) → Goes m es s → Does s e.call e.reply t
    → Goes m (es ++ e ∷ []) t
Goes-push m [] s e t same does = (t, (subst (λ (x : State). Does x e.call e.reply t) (sym same) does, refl))
Goes-push m (x ∷ es) s e t goes does = (goes.0, (goes.1.0, Goes-push goes.0 es s e t goes.1.1 does))

-- one call more is legal, and the state is then one of the world after it
pub push_legal : (frames room : ℕ) (mode : Bool) (most : ℕ) (a : Book) (e : Event) (t : State) → IsKept frames room mode most a
    → Does a.state e.call e.reply t
    → IsLegal frames (a.history ++ e ∷ []) × Quarantine t (after frames (a.history ++ e ∷ []))
push_legal frames room mode most a e t kept does =
    let both = does.steps (after frames a.history) kept.quarantine in (
      IsLegalFrom-push (empty frames) a.history e kept.legal both.0,
      rw (after_from-push (empty frames) a.history e) both.1,
    )

-- one call more keeps what a book keeps
pub IsKept-push : (frames room : ℕ) (mode : Bool) (most : ℕ) (a : Book) (e : Event) (t : State) (now : List Event) (last : List ℕ)
    → now ≡ a.history ++ e ∷ [] → IsKept frames room mode most a → length a.history < end_of room most a → Does a.state e.call e.reply t
    → IsWhole t.pool.frames t → AreLawful (IsLawfulAfter frames) now last
    → IsKept frames room mode most (record { history = now; state = t; last = last; handed = a.handed })
IsKept-push frames room mode most a e t now last is kept less does whole lawful =
    let both = does.steps (after frames a.history) kept.quarantine in
    let more : length now ≡ length a.history + 1 = ap length is ∙ length-append a.history (e ∷ []) in
    record {
      legal = rw is (IsLegalFrom-push (empty frames) a.history e kept.legal both.0);
      quarantine = rw is (rw (after_from-push (empty frames) a.history e) both.1);
      whole = subst (λ n. IsWhole n t) (sym (kept.whole.frames_are ∙ frames_kept a.state t e.call e.reply kept.whole.of_world does)) whole;
      goes = let g = kept.goes in (g.0, (g.1.0, rw is (Goes-push g.0 a.history a.state e t g.1.1 does)));
      begun = omega (arith, more, kept.begun);
      within = omega (arith, more, less);
      all_kept = kept.all_kept;
      room_within = kept.room_within;
      calls = omega (arith, more, kept.calls, does.calls);
      lawful = lawful;
    }
