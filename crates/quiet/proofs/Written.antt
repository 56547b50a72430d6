-- Which words a call writes: of tables of one tree, and of frames that are free when it does so.
use Rattle.std.proofs.Common.{◌≡◌, ◌≢◌, inl, inr, ⊎_elim, ℕ, ◌+◌, ◌-◌, ◌<◌, ◌≤◌, Some, None, sym, ap, ◌∙◌, arith, slice_set}
use Rattle.std.proofs.lemmas.Bool.{cases_lt}
use Rattle.dmatypes.proofs.histories.Maps.{same_or_not}
use Rattle.dmatypes.specs.Conditions.{total_pages}
use Rattle.dmatypes.specs.Page.{Range, levels, range_at}
use Rattle.dmatypes.specs.declared.call.Call.{Call}
use Rattle.dmatypes.specs.declared.call.Call.TheVariants as calls
use Rattle.dmatypes.specs.declared.limits.TheConstants.{MOST_DOMAINS}
use Rattle.dmatypes.specs.declared.reply.Reply.{Reply}
use Rattle.dmatypes.specs.declared.reply.Reply.TheVariants.{Done, Made, Unmapped}
use Rattle.tables.specs.declared.entries.TheConstants.{TABLE_ENTRIES}
use Rattle.tables.specs.Pool.{memory, occurs, word}
use Rattle.tables.specs.Tree.{sum_below, uses}
use Rattle.tables.proofs.sums.Firsts.{sum_below_two}
use Rattle.engine.specs.Domains.{Domain, domain_at, held_in}
use Rattle.engine.specs.Ending.{Closes}
use Rattle.engine.specs.Placing.{Placement, Places}
use Rattle.engine.specs.Quarantine.{owned}
use Rattle.engine.specs.State.{State, operands_in}
use Rattle.engine.proofs.domains.OneChanged.{domain_low}
use Rattle.engine.proofs.frames.Owners.{held_out}
use Rattle.quiet.proofs.Unmapping.{Unmapping}
use Rattle.quiet.specs.Quiet.{IsSound}

-- it writes none, or is a map, an unmap or a drop that was done; a new domain only takes a frame
pub data Written (m t : State) (call : Call) (reply : Reply) : Type 0 where
  rests : t.pool.words ≡ m.pool.words → t.pool.trail ≡ m.pool.trail → Written m t call reply
  takes : (e : ℕ) → reply ≡ Made e → t.pool.words ≡ m.pool.words → Written m t call reply
  maps : (e : ℕ) (k new : Domain) (at : Placement) → domain_at m.domains e ≡ Some k → 1 ≤ total_pages at.segments
      → Places m.pool k at t.pool new → Written m t call reply
  unmaps : (e : ℕ) (k : Domain) (address pages released : ℕ) → domain_at m.domains e ≡ Some k → 1 ≤ pages
      → call ≡ calls.Unmap e address pages → reply ≡ Unmapped released → Unmapping m t k (range_at address pages) released
      → Written m t call reply
  closes : (e : ℕ) (k : Domain) → domain_at m.domains e ≡ Some k → reply ≡ Done → t.domains ≡ slice_set m.domains (e - 1) None
      → Closes (operands_in m k) e t.pool t.iommu → Written m t call reply

-- ---- a frame that it leaves

module _ (m t : State) (call : Call) (reply : Reply) where
  -- the frame isn't one of the tree, nor free
  abbrev pub IsOut : Written m t call reply → ℕ → Type 0
  IsOut (rests same trail) f = Unit {0}
  IsOut (takes e is_reply same) f = Unit {0}
  IsOut (maps e k new at here some places) f = uses (memory m.pool.words) (levels k.width) k.root f + occurs f m.pool.free ≡ 0
  IsOut (unmaps e k address pages released here some is_call is_reply u) f =
      uses (memory u.before.words) (levels u.domain.width) u.domain.root f + occurs f u.before.free ≡ 0
  IsOut (closes e k here is_reply gone does) f = uses (memory m.pool.words) (levels k.width) k.root f ≡ 0

  -- so its words stay
  pub kept_word : (w : Written m t call reply) (f i : ℕ) → IsOut w f → i < TABLE_ENTRIES → word t.pool.words f i ≡ word m.pool.words f i
  kept_word (rests same trail) f i out inside = ap (λ ws. word ws f i) same
  kept_word (takes e is_reply same) f i out inside = ap (λ ws. word ws f i) same
  kept_word (maps e k new at here some places) f i out inside = places.moves.others f i inside out
  kept_word (unmaps e k address pages released here some is_call is_reply u) f i out inside =
      ap (λ ws. word ws f i) (sym u.is) ∙ u.retires.moves.others f i inside out ∙ ap (λ ws. word ws f i) u.was
  kept_word (closes e k here is_reply gone does) f i out inside =
      does.destroys.words f i inside
      (ap (λ ws. uses (memory ws) (levels does.flushed.domain.width) does.flushed.domain.root f) does.flushes.releases.words
      ∙ ap (λ (y : Domain). uses (memory m.pool.words) (levels y.width) y.root f) does.flushes.same ∙ out)
      ∙ ap (λ ws. word ws f i) does.flushes.releases.words

-- ---- a domain whose frames it leaves

module _ (m t : State) (call : Call) (reply : Reply) (d : ℕ) (h : Domain) (whole : IsSound m) (there : domain_at m.domains d ≡ Some h) where
  -- what one domain uses or holds, no other does, and it isn't free
  only_owner : (e : ℕ) (k : Domain) → domain_at m.domains e ≡ Some k → d ≢ e → (f : ℕ)
      → 0 < uses (memory m.pool.words) (levels h.width) h.root f + held_in h.records f
      → uses (memory m.pool.words) (levels k.width) k.root f + held_in k.records f + occurs f m.pool.free ≡ 0
  only_owner e k here ne f some =
      ⊎_elim
      (λ (less : f < m.pool.frames). omega (arith, whole.of_world.1.frames.once f less, two, own, other, some))
      (λ (past : m.pool.frames ≤ f). omega (arith, whole.of_world.1.frames.past f past, two, own, other, some))
      (cases_lt f m.pool.frames)
    where
      two : owned (memory m.pool.words) (domain_at m.domains e) f + owned (memory m.pool.words) (domain_at m.domains d) f
          ≤ sum_below (λ x. owned (memory m.pool.words) (domain_at m.domains x) f) (MOST_DOMAINS + 1)
      two = sum_below_two (λ x. owned (memory m.pool.words) (domain_at m.domains x) f) (MOST_DOMAINS + 1) e d
          (domain_low m.domains e k whole.places here) (domain_low m.domains d h whole.places there) ne

      own : owned (memory m.pool.words) (domain_at m.domains d) f
          ≡ uses (memory m.pool.words) (levels h.width) h.root f + held_in h.records f
      own = ap (λ o. owned (memory m.pool.words) o f) there

      other : owned (memory m.pool.words) (domain_at m.domains e) f
          ≡ uses (memory m.pool.words) (levels k.width) k.root f + held_in k.records f
      other = ap (λ o. owned (memory m.pool.words) o f) here

  -- the tree that an unmap changes has the frames of before the call
  same_uses : (k : Domain) (range : Range) (released : ℕ) (u : Unmapping m t k range released) (f : ℕ)
      → uses (memory u.before.words) (levels u.domain.width) u.domain.root f ≡ uses (memory m.pool.words) (levels k.width) k.root f
  same_uses k range released u f =
      ap (λ ws. uses (memory ws) (levels u.domain.width) u.domain.root f) u.was
      ∙ ap (λ n. uses (memory m.pool.words) (levels n) u.domain.root f) u.width
      ∙ ap (λ n. uses (memory m.pool.words) (levels k.width) n f) u.root

  -- the call is of this domain
  abbrev pub IsOf : Written m t call reply → Type 0
  IsOf (rests same trail) = ⊥
  IsOf (takes e is_reply same) = ⊥
  IsOf (maps e k new at here some places) = d ≡ e
  IsOf (unmaps e k address pages released here some is_call is_reply u) = d ≡ e
  IsOf (closes e k here is_reply gone does) = d ≡ e

  -- a table of the domain, where the call isn't of it
  pub other_out : (w : Written m t call reply) (f : ℕ) → (IsOf w → ⊥)
      → 0 < uses (memory m.pool.words) (levels h.width) h.root f + held_in h.records f → IsOut m t call reply w f
  other_out (rests same trail) f ne some = tt
  other_out (takes e is_reply same) f ne some = tt
  other_out (maps e k new at here one places) f ne some = let only = only_owner e k here ne f some in omega (arith, only)
  other_out (unmaps e k address pages released here one is_call is_reply u) f ne some =
      omega (arith, only_owner e k here ne f some, same_uses k (range_at address pages) released u f, u.few f)
  other_out (closes e k here is_reply gone does) f ne some = let only = only_owner e k here ne f some in omega (arith, only)

  -- what a record of it holds is of no tree, and not free
  record_out : (e : ℕ) (k : Domain) → domain_at m.domains e ≡ Some k → (f : ℕ) → 0 < held_in h.records f
      → uses (memory m.pool.words) (levels k.width) k.root f + occurs f m.pool.free ≡ 0
  record_out e k here f held =
      held_out m.pool (domain_at m.domains) e d k h whole.of_world.1.frames (domain_low m.domains e k whole.places here)
      (domain_low m.domains d h whole.places there) here there f held

  -- what a record of it holds, if the call isn't an unmap of the domain that releases records first
  pub held_frame_out : (w : Written m t call reply) (f : ℕ)
      → ((address pages released : ℕ) → call ≡ calls.Unmap d address pages → reply ≡ Unmapped released → released ≡ 0)
      → 0 < held_in h.records f → IsOut m t call reply w f
  held_frame_out (rests same trail) f keeps held = tt
  held_frame_out (takes e is_reply same) f keeps held = tt
  held_frame_out (maps e k new at here one places) f keeps held = record_out e k here f held
  held_frame_out (unmaps e k address pages released here one is_call is_reply u) f keeps held = elim (same_or_not d e) [
    | inl same ↦
        let none : released ≡ 0 =
        keeps address pages released (is_call ∙ ap (λ n. calls.Unmap n address pages) (sym same)) is_reply in
        omega (arith, record_out e k here f held, same_uses k (range_at address pages) released u f, u.none none f)
    | inr ne ↦ other_out (unmaps e k address pages released here one is_call is_reply u) f ne (omega (arith, held))
  ]
  held_frame_out (closes e k here is_reply gone does) f keeps held = let out = record_out e k here f held in omega (arith, out)
