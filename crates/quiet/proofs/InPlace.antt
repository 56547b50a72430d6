-- What is found where the tables lie in place, while a map or an unmap writes their words.
use Rattle.std.proofs.Common.{◌≡◌, ◌⊎◌, inl, inr, ℕ, ◌<◌, ◌≤◌, List, [], ◌++◌, Some, refl, sym, ap, subst, ◌∙◌, arith}
use Rattle.std.proofs.lemmas.List.{append-nil}
use Rattle.dmatypes.proofs.histories.Maps.{same_or_not}
use Rattle.dmatypes.specs.Conditions.{total_pages}
use Rattle.dmatypes.specs.Page.{Range, levels, range_at}
use Rattle.dmatypes.specs.declared.call.Call.{Call}
use Rattle.dmatypes.specs.declared.reply.Reply.{Reply}
use Rattle.dmatypes.specs.declared.reply.Reply.TheVariants.{Mapped, Unmapped}
use Rattle.vtdbits.specs.Entry.{look}
use Rattle.tables.specs.declared.entries.TheConstants.{TABLE_ENTRIES}
use Rattle.tables.specs.Pool.{Moment, memory, moment_of, word}
use Rattle.tables.specs.Spelled.{AreSpelled}
use Rattle.tables.specs.Tree.{root_states}
use Rattle.tables.specs.Trail.{FillsInOrder}
use Rattle.tables.proofs.walks.Agreeing.{to_agree}
use Rattle.tables.proofs.walks.Words.{memory_at}
use Rattle.moments.specs.Moments.{GoesDown, IsOldOrNewIn, in_place, words_at}
use Rattle.moments.proofs.InPlace.{in_place_at, in_place_old_or_new, unmap_steady}
use Rattle.moments.proofs.MapsInPlace.{map_steady, maps_in_place}
use Rattle.engine.proofs.domains.OneChanged.{both_there}
use Rattle.engine.specs.Domains.{Domain, domain_at}
use Rattle.engine.specs.Placing.{Placement, Places, range_of}
use Rattle.engine.specs.State.{State}
use Rattle.quiet.specs.Laws.{MapCallsInPlaceAreOldOrNew, UnmapCallsInPlaceAreOldOrNew}
use Rattle.quiet.specs.Quiet.{IsMapOrUnmap, IsSound}
use Rattle.quiet.proofs.Calls.{own_map}
use Rattle.quiet.proofs.Changes.{steady}
use Rattle.quiet.proofs.Every.{same_domain, written}
use Rattle.quiet.proofs.Unmapping.{Unmapping, own_tree}
use Rattle.quiet.proofs.Written.{IsOf, IsOut, Written, closes, maps, other_out, rests, takes, unmaps}

-- the words of a domain's tree spell its entries
pub spelled_in : (m : State) (e : ℕ) (k : Domain) → IsSound m → domain_at m.domains e ≡ Some k
    → AreSpelled m.pool.words (levels k.width) k.root
spelled_in m e k whole here =
    (both_there m.pool.words (domain_at m.domains e) (whole.of_world.0.domains e) k (whole.of_world.1.domains e) here).2.spelled

pub no_moments : (words : List ℕ) (j f i : ℕ) → word (words_at words [] j) f i ≡ word words f i
unfolding words_at
no_moments words j f i = refl

-- ---- a frame that the call leaves

-- the moments that the pool noted; at each of them such a frame is as before the call
pub record Noted (m t : State) (call : Call) (reply : Reply) (w : Written m t call reply) : Type 0 where
  pub moments : List Moment
  pub trail : t.pool.trail ≡ m.pool.trail ++ moments
  pub kept : (j f i : ℕ) → IsOut m t call reply w f → i < TABLE_ENTRIES
      → word (words_at m.pool.words moments j) f i ≡ word m.pool.words f i

module _ (m t : State) (call : Call) (reply : Reply) (whole : IsSound m) where
  abbrev pub noted : (w : Written m t call reply) → IsMapOrUnmap reply → Noted m t call reply w
  noted (rests same trail) given = record {
    moments = [];
    trail = trail ∙ sym (append-nil m.pool.trail);
    kept = λ j f i out inside. no_moments m.pool.words j f i;
  }
  noted (takes e is_reply same) given = absurd (subst IsMapOrUnmap is_reply given)
  noted (maps e k new at here some places) given =
      let order = places.order (spelled_in m e k whole here) in
      record {
        moments = order.moments;
        trail = order.trail;
        kept = λ j f i out inside. map_steady (moment_of m.pool) (moment_of t.pool) order.moments j f i order.through inside
            (places.moves.others f i inside out);
      }
  noted (unmaps e k address pages released here some is_call is_reply u) given =
      let order = u.retires.order in
      record {
        moments = order.moments;
        trail = u.ends ∙ order.trail ∙ ap (λ trail. trail ++ order.moments) u.begins;
        kept = λ j f i out inside. subst (λ ws. word (words_at ws order.moments j) f i ≡ word ws f i) u.was
            (unmap_steady (moment_of u.before) (moment_of u.after) order.moments j f i order.through inside (omega (arith, out))
            (u.retires.moves.others f i inside out));
      }
  noted (closes e k here is_reply gone ends) given = absurd (subst IsMapOrUnmap is_reply given)

-- ---- a page of a domain

module _ (m t : State) (call : Call) (reply : Reply) (whole : IsSound m) (d : ℕ) (h : Domain) (there : domain_at m.domains d ≡ Some h)
    (given : IsMapOrUnmap reply) where
  -- what a walk finds, meets and passes, whatever the moments at which it reads
  abbrev FindsAll : List Moment → Domain → Type 0
  FindsAll moments x =
      (moment : ℕ → ℕ) (page : ℕ)
      → IsOldOrNewIn m.pool.words t.pool.words (in_place m.pool.words moments moment) x.width x.root page

  -- what it finds if it reads each level no sooner than the level above
  abbrev FindsFrom : List ℕ → List ℕ → List Moment → Domain → Type 0
  FindsFrom old new moments x =
      (moment : ℕ → ℕ) (page : ℕ) → GoesDown moment
      → (root_states (in_place old moments moment) x.width x.root page ≡ root_states (memory old) x.width x.root page)
      ⊎ (root_states (in_place old moments moment) x.width x.root page ≡ root_states (memory new) x.width x.root page)

  abbrev Finds : List Moment → Domain → Type 0
  Finds moments x = FindsFrom m.pool.words t.pool.words moments x

  -- in a domain that the call isn't of
  other_finds : (w : Written m t call reply) → (IsOf m t call reply d h whole there w → ⊥)
      → FindsAll (noted m t call reply whole w given).moments h
  other_finds w ne moment page =
      steady m.pool.words t.pool.words (in_place m.pool.words n.moments moment) h.width h.root page
      (to_agree (memory m.pool.words) (in_place m.pool.words n.moments moment) (levels h.width) h.root
      (λ f some l i inside. in_place_at m.pool.words n.moments moment l f i
      ∙ ap (look l) (n.kept (moment l) f i (other_out m t call reply d h whole there w f ne (omega (arith, some))) inside)
      ∙ sym (memory_at m.pool.words l f i)))
    where
      n : Noted m t call reply w
      n = noted m t call reply whole w given

  -- after a map
  map_finds : (e : ℕ) (k new : Domain) (at : Placement) (here : domain_at m.domains e ≡ Some k) (some : 1 ≤ total_pages at.segments)
      (places : Places m.pool k at t.pool new) → FindsAll (places.order (spelled_in m e k whole here)).moments h
  map_finds e k new at here some places = elim (same_or_not d e) [
    | inl same ↦
        subst (λ (x : Domain). FindsAll order.moments x) (same_domain m d e h k there here same)
        (λ moment page. maps_in_place m.pool t.pool order k.width k.root (range_of at) _ moment page
        (own_map m t e k new at whole here some places))
    | inr ne ↦ other_finds (maps e k new at here some places) ne
  ]
    where
      order : FillsInOrder m.pool t.pool
      order = places.order (spelled_in m e k whole here)

  -- in the domain of an unmap
  own_finds : (e : ℕ) (k : Domain) (range : Range) (released : ℕ) → domain_at m.domains e ≡ Some k
      → (u : Unmapping m t k range released) → Finds u.retires.order.moments k
  own_finds e k range released here u =
      subst (λ ws. FindsFrom ws t.pool.words u.retires.order.moments k) u.was
      (subst (λ ws. FindsFrom u.before.words ws u.retires.order.moments k) u.is
      (λ moment page down. in_place_old_or_new u.before u.after u.retires.order k.width k.root moment page
      (own_tree m t e k whole here range released u)
      (subst (λ ws. AreSpelled ws (levels k.width) k.root) (sym u.was) (spelled_in m e k whole here)) down))

  -- after a call that is no unmap
  finds_all : (w : Written m t call reply) → ((released : ℕ) → reply ≡ Unmapped released → ⊥)
      → FindsAll (noted m t call reply whole w given).moments h
  finds_all (rests same trail) no_unmap = other_finds (rests same trail) (λ none. none)
  finds_all (takes e is_reply same) no_unmap = absurd (subst IsMapOrUnmap is_reply given)
  finds_all (maps e k new at here some places) no_unmap = map_finds e k new at here some places
  finds_all (unmaps e k address pages released here some is_call is_reply u) no_unmap = absurd (no_unmap released is_reply)
  finds_all (closes e k here is_reply gone ends) no_unmap = absurd (subst IsMapOrUnmap is_reply given)

  -- after any map or unmap
  finds : (w : Written m t call reply) → Finds (noted m t call reply whole w given).moments h
  finds (rests same trail) = λ moment page down. (other_finds (rests same trail) (λ none. none) moment page).found
  finds (takes e is_reply same) = absurd (subst IsMapOrUnmap is_reply given)
  finds (maps e k new at here some places) = λ moment page down. (map_finds e k new at here some places moment page).found
  finds (unmaps e k address pages released here some is_call is_reply u) = elim (same_or_not d e) [
    | inl same ↦
        subst (λ (x : Domain). Finds u.retires.order.moments x) (same_domain m d e h k there here same)
        (own_finds e k (range_at address pages) released here u)
    | inr ne ↦ λ moment page down.
        (other_finds (unmaps e k address pages released here some is_call is_reply u) ne moment page).found
  ]
  finds (closes e k here is_reply gone ends) = absurd (subst IsMapOrUnmap is_reply given)

no_unmap : (address released : ℕ) → Mapped address ≡ Unmapped released → ⊥
no_unmap address released e = cc

pub map_calls_old_or_new : MapCallsInPlaceAreOldOrNew
map_calls_old_or_new m t call address domain h whole does there =
    let w = written m t whole call (Mapped address) does does.becomes in
    let n = noted m t call (Mapped address) whole w tt in
    (n.moments, n.trail, finds_all m t call (Mapped address) whole domain h there tt w (no_unmap address))

pub unmap_calls_old_or_new : UnmapCallsInPlaceAreOldOrNew
unmap_calls_old_or_new m t call released domain h whole does there =
    let w = written m t whole call (Unmapped released) does does.becomes in
    let n = noted m t call (Unmapped released) whole w tt in
    (n.moments, n.trail, finds m t call (Unmapped released) whole domain h there tt w)
