-- What a unit finds in host memory while a call's words are brought there.
use Rattle.std.proofs.Common.{◌≡◌, ◌⊎◌, inl, inr, ⊎_elim, ℕ, ◌+◌, ◌<◌, ◌≤◌, false, cond, nat_lt, List, Option, None, Some, refl, sym, ap}
use Rattle.std.proofs.Common.{subst, ◌∙◌, arith}
use Rattle.std.proofs.lemmas.Bool.{cases_lt}
use Rattle.std.proofs.lemmas.Bool.Decides.{nat_tests}
use Rattle.std.proofs.lemmas.Option.{none-some, same_Some}
use Rattle.dmatypes.specs.Page.{levels, pages_end}
use Rattle.dmatypes.specs.declared.call.Call.{Call}
use Rattle.dmatypes.specs.declared.call.Call.TheVariants as calls
use Rattle.dmatypes.specs.declared.reply.Reply.{Reply}
use Rattle.dmatypes.specs.declared.reply.Reply.TheVariants.{Done}
use Rattle.dmatypes.specs.declared.width.Width.{Width}
use Rattle.tables.specs.Pool.{IsTree, Pool, memory, occurs}
use Rattle.tables.specs.Tree.{Memory, leaf_from, root_states, states, table_from, uses}
use Rattle.tables.proofs.walks.Steps.{found_used}
use Rattle.moments.specs.Moments.{IsOldOrNew, Reached, meanwhile, word_read}
use Rattle.engine.specs.Domains.{Domain, domain_at}
use Rattle.engine.specs.State.{Becomes, State}
use Rattle.engine.specs.Steps.{Does}
use Rattle.engine.proofs.domains.OneChanged.{domain_low}
use Rattle.engine.proofs.frames.Owners.{tree_of}
use Rattle.engine.proofs.states.Refused.{frames_kept}
use Rattle.quiet.specs.Quiet.{IsSound}
use Rattle.quiet.proofs.Every.{dropped}
use Rattle.quiet.proofs.Onward.{onward}
use Rattle.driven.proofs.Moments.{effects_old_or_new}
use Rattle.vtdm_c.specs.Base.{IsBase}
use Rattle.vtdm_c.specs.Hosts.{AreHosted, PassesTableFrames, leaf_of, seen, table_of, target_of}
use Rattle.vtdm_c.specs.Units.{FindsOldOrNew, UnitsFindHostFrames}
use Rattle.vtdm_c.proofs.Hosts.{pages_found, walks}

-- ---- a walk

-- no page is found beyond the width
beyond : (m : Memory) (width : Width) (root page : ℕ) → pages_end width ≤ page → root_states m width root page ≡ None
beyond m width root page far =
    let no : nat_lt page (pages_end width) ≡ false = grind (arith, nat_tests) in
    ap (λ b. cond b (states m (levels width) root page) None) no

-- what is seen meanwhile is seen in the words that are read
words_seen : (old new : List ℕ) (reached : Reached) → meanwhile old new reached ≡ seen (word_read old new reached)
unfolding meanwhile
words_seen old new reached = refl

module _ (frames base : ℕ) (old new : List ℕ) (reached : Reached) (hosted : ℕ → ℕ → ℕ → ℕ) (width : Width) (root page : ℕ)
    (is : IsBase frames base) (hosts : AreHosted frames base (word_read old new reached) hosted)
    (before : PassesTableFrames frames (memory old) (levels width) root page)
    (after : PassesTableFrames frames (memory new) (levels width) root page) (either : IsOldOrNew old new reached width root page) where
  -- it passes table frames, since it passed each before or passes it after
  passes : page < pages_end width → PassesTableFrames frames (seen (word_read old new reached)) (levels width) root page
  passes small =
      subst (λ m. PassesTableFrames frames m (levels width) root page) (words_seen old new reached)
      (λ w f found. elim (either.tables w f small found) [ inl was ↦ before w f was | inr now ↦ after w f now ])

  page_hosted : page < pages_end width
      → root_states (seen hosted) width (base + root) page ≡ target_of base (root_states (meanwhile old new reached) width root page)
  page_hosted small =
      subst (λ m. root_states (seen hosted) width (base + root) page ≡ target_of base (root_states m width root page))
      (sym (words_seen old new reached))
      (pages_found frames base (word_read old new reached) hosted width root page is hosts (passes small))

  leaf_hosted : page < pages_end width
      → leaf_from (seen hosted) (levels width) (base + root) page
      ≡ leaf_of base (leaf_from (meanwhile old new reached) (levels width) root page)
  leaf_hosted small =
      subst (λ m. leaf_from (seen hosted) (levels width) (base + root) page ≡ leaf_of base (leaf_from m (levels width) root page))
      (sym (words_seen old new reached))
      (walks frames base (word_read old new reached) hosted (levels width) root page is hosts (passes small)).0

  table_hosted : (level : ℕ) → page < pages_end width
      → table_from (seen hosted) (levels width) (base + root) page level
      ≡ table_of base (table_from (meanwhile old new reached) (levels width) root page level)
  table_hosted level small =
      subst
      (λ m. table_from (seen hosted) (levels width) (base + root) page level ≡ table_of base (table_from m (levels width) root page level))
      (sym (words_seen old new reached))
      ((walks frames base (word_read old new reached) hosted (levels width) root page is hosts (passes small)).1 level)

  -- a table that it passes by its host frame
  passed : (level frame : ℕ) → page < pages_end width → (o : Option ℕ)
      → table_from (meanwhile old new reached) (levels width) root page level ≡ o → table_of base o ≡ Some frame
      → (table_of base (table_from (memory old) (levels width) root page level) ≡ Some frame)
      ⊎ (table_of base (table_from (memory new) (levels width) root page level) ≡ Some frame)
  passed level frame small None at there = absurd (none-some frame there)
  passed level frame small (Some table) at there = elim (either.tables level table small at) [
    | inl was ↦ inl (ap (λ o. table_of base o) was ∙ there)
    | inr now ↦ inr (ap (λ o. table_of base o) now ∙ there)
  ]

  finds_old_or_new : FindsOldOrNew base old new (seen hosted) width root page
  finds_old_or_new = record {
    found =
        ⊎_elim
        (λ (small : page < pages_end width). elim either.found [
          | inl was ↦ inl (page_hosted small ∙ ap (λ o. target_of base o) was)
          | inr now ↦ inr (page_hosted small ∙ ap (λ o. target_of base o) now)
        ])
        (λ (far : pages_end width ≤ page).
        inl (beyond (seen hosted) width (base + root) page far
        ∙ sym (ap (λ o. target_of base o) (beyond (memory old) width root page far))))
        (cases_lt page (pages_end width));
    leaf = λ small. elim (either.leaf small) [
      | inl was ↦ inl (leaf_hosted small ∙ ap (λ o. leaf_of base o) was)
      | inr now ↦ inr (leaf_hosted small ∙ ap (λ o. leaf_of base o) now)
    ];
    tables = λ level frame small at. passed level frame small _ refl (sym (table_hosted level small) ∙ at);
  }

-- ---- the tree of a domain

-- what a walk passes in a tree of the pool is a table frame
in_tree : (pool : Pool) (level root page : ℕ) → IsTree pool level root → PassesTableFrames pool.frames (memory pool.words) level root page
in_tree pool level root page tree w f found =
    ⊎_elim (λ (low : f < pool.frames). low)
    (λ (past : pool.frames ≤ f).
    let used : 0 < uses (memory pool.words) level root f = found_used (memory pool.words) level root page w f found in
    let none : uses (memory pool.words) level root f + occurs f pool.free ≡ 0 = tree.within f past in
    absurd (omega (arith, used, none)))
    (cases_lt f pool.frames)

module _ (m t : State) (call : Call) (reply : Reply) (d : ℕ) (h h' : Domain) (sound : IsSound m) (does : Does m call reply t)
    (there : domain_at m.domains d ≡ Some h) (then : domain_at t.domains d ≡ Some h') where
  -- it wasn't dropped, since it is there after the call
  undropped : Becomes m (calls.Drop d) Done t → ⊥
  unfolding Becomes
  undropped (k, here, closes, is) = dropped m t d d h h' sound there refl (ap (λ (x : State). x.domains) is) then

  -- so it has the root and the width that it had
  same_tree : (h'.root ≡ h.root) × (h'.width ≡ h.width)
  same_tree =
      let o = onward m t d h sound there call reply does does.becomes (λ is done. undropped
      (subst (λ r. Becomes m (calls.Drop d) r t) done (subst (λ c. Becomes m c reply t) is does.becomes))) in
      let same : h' ≡ o.0 = same_Some h' o.0 (sym then ∙ o.1) in
      (ap (λ (y : Domain). y.root) same ∙ o.2.root, ap (λ (y : Domain). y.width) same ∙ o.2.width)

  passes_before : (page : ℕ) → PassesTableFrames m.pool.frames (memory m.pool.words) (levels h.width) h.root page
  passes_before page =
      in_tree m.pool (levels h.width) h.root page
      (tree_of m.pool (domain_at m.domains) d h sound.of_world.1.frames (domain_low m.domains d h sound.places there) there)

  passes_after : (page : ℕ) → PassesTableFrames m.pool.frames (memory t.pool.words) (levels h.width) h.root page
  passes_after page =
      let q = (does.steps sound.of_world.0 sound.of_world.1).1 in
      let tree : IsTree t.pool (levels h'.width) h'.root =
      tree_of t.pool (domain_at t.domains) d h' q.frames (domain_low m.domains d h sound.places there) then in
      subst (λ n. PassesTableFrames n (memory t.pool.words) (levels h.width) h.root page)
      (sym (frames_kept m t call reply sound.of_world does))
      (in_tree t.pool (levels h.width) h.root page
      (subst (λ w. IsTree t.pool (levels w) h.root) same_tree.1 (subst (λ r. IsTree t.pool (levels h'.width) r) same_tree.0 tree)))

pub units_find : UnitsFindHostFrames
units_find m t call reply effects domain h h' reached base hosted page sound does are there then keeps is hosts =
    finds_old_or_new m.pool.frames base m.pool.words t.pool.words reached hosted h.width h.root page is hosts
    (passes_before m t call reply domain h h' sound does there then page)
    (passes_after m t call reply domain h h' sound does there then page)
    (effects_old_or_new m t call reply effects domain h h' reached page sound does are there then keeps)
