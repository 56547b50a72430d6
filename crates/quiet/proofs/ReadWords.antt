-- Every word that a walk reads while a call is written spells what it sees there.
use Rattle.std.proofs.Common.{◌≡◌, ℕ, suc, ◌<◌, List, [], inl, inr, Some, refl, sym, ap, subst, ◌∙◌, arith}
use Rattle.dmatypes.specs.Page.{levels, pages_end}
use Rattle.dmatypes.specs.Step.{next}
use Rattle.dmatypes.specs.declared.call.Call.TheVariants as calls
use Rattle.dmatypes.specs.declared.reply.Reply.TheVariants.{Done}
use Rattle.vtdbits.specs.Entry.{Spells, look}
use Rattle.tables.proofs.walks.Agreeing.{table_agrees}
use Rattle.tables.proofs.walks.Onward.{index_lt}
use Rattle.tables.proofs.walks.Words.{memory_at}
use Rattle.tables.specs.Pool.{memory, word}
use Rattle.tables.specs.Spelled.{AreSpelled}
use Rattle.tables.specs.Tree.{index_in, table_from}
use Rattle.moments.specs.Moments.{Reached, ReadsSpelled, meanwhile, word_read}
use Rattle.moments.proofs.Between.{meanwhile_at}
use Rattle.moments.proofs.ReadWords.{by_reached, spelled_on, words_spelled}
use Rattle.engine.proofs.domains.OneChanged.{both_there}
use Rattle.engine.specs.Domains.{Domain, domain_at}
use Rattle.engine.specs.State.{Becomes, State}
use Rattle.quiet.specs.Laws.{CallsReadSpelledWords}
use Rattle.quiet.specs.Quiet.{IsSound}
use Rattle.quiet.proofs.Changes.{Change, Stays, agrees}
use Rattle.quiet.proofs.Every.{changes, dropped}
use Rattle.quiet.proofs.Onward.{onward}
use Rattle.quiet.proofs.WhatIsMet.{used_on}

module _ (old new : List ℕ) (h : Domain) (reached : Reached) (page : ℕ) (before : AreSpelled old (levels h.width) h.root)
    (after : AreSpelled new (levels h.width) h.root) (small : page < pages_end h.width) where
  stays_spelled : Stays old new h.width h.root → ReadsSpelled old new reached h.width h.root page
  stays_spelled stays l t at =
      let k : ℕ = index_in l page in
      let way : table_from (memory old) (levels h.width) h.root page (suc l) ≡ Some t =
      sym (table_agrees (memory old) (meanwhile old new reached) (levels h.width) h.root page (suc l)
      (agrees old new reached h.width h.root stays)) ∙ at in
      let same : word new t k ≡ word old t k =
      stays t k (used_on (memory old) (levels h.width) h.root page (suc l) t way) (index_lt l page) in
      let was : Spells (suc l) (word old t k) (look (suc l) (word old t k)) =
      subst (λ e. Spells (suc l) (word old t k) e) (memory_at old (suc l) t k)
      (spelled_on old (levels h.width) h.root page l t k before way (index_lt l page)) in
      subst (λ e. Spells (suc l) (word_read old new reached (suc l) t k) e) (sym (meanwhile_at old new reached (suc l) t k))
      (by_reached (reached (suc l) t k) (word new t k) (word old t k) (suc l)
      (subst (λ n. Spells (suc l) n (look (suc l) n)) (sym same) was) was)

  change_spelled : {P : Type 0} → Change P old new h.width h.root → ReadsSpelled old new reached h.width h.root page
  change_spelled (inl stays) = stays_spelled stays
  change_spelled (inr (inl (p, p', range, says, was, is, map))) =
      subst (λ ws. AreSpelled ws (levels h.width) h.root → ReadsSpelled ws new reached h.width h.root page) was
      (λ s. subst (λ ws. AreSpelled ws (levels h.width) h.root → ReadsSpelled p.words ws reached h.width h.root page) is
      (λ s'. words_spelled p p' h.width h.root range says [] reached page (inl map) s s' small) after) before
  change_spelled (inr (inr (by, (p, p', range, cut, was, is, unmap)))) =
      subst (λ ws. AreSpelled ws (levels h.width) h.root → ReadsSpelled ws new reached h.width h.root page) was
      (λ s. subst (λ ws. AreSpelled ws (levels h.width) h.root → ReadsSpelled p.words ws reached h.width h.root page) is
      (λ s'. words_spelled p p' h.width h.root range (λ _. Rattle.std.proofs.Common.None) cut reached page (inr unmap) s s' small) after)
      before

undropped : (m t : State) (d : ℕ) (h h' : Domain) → IsSound m → domain_at m.domains d ≡ Some h → domain_at t.domains d ≡ Some h'
    → Becomes m (calls.Drop d) Done t → ⊥
unfolding Becomes
undropped m t d h h' sound there then (k, here, closes, is) =
    dropped m t d d h h' sound there refl (ap (λ (x : State). x.domains) is) then

pub calls_read_spelled : CallsReadSpelledWords
calls_read_spelled m t call reply domain h h' reached page sound does there then small =
    let w = sound.of_world.0 in
    let q = sound.of_world.1 in
    let before = (both_there m.pool.words (domain_at m.domains domain) (w.domains domain) h (q.domains domain) there).2.spelled in
    let q' = (does.steps w q).1 in
    let after = (both_there t.pool.words (domain_at t.domains domain) ((next w call reply).domains domain) h' (q'.domains domain)
    then).2.spelled in
    let o = onward m t domain h sound there call reply does does.becomes
    (λ is done. undropped m t domain h h' sound there then
    (subst (λ r. Becomes m (calls.Drop domain) r t) done (subst (λ c. Becomes m c reply t) is does.becomes))) in
    let same : h' ≡ o.0 = Rattle.std.proofs.lemmas.Option.same_Some h' o.0 (sym then ∙ o.1) in
    let root : h'.root ≡ h.root = ap (λ (y : Domain). y.root) same ∙ o.2.root in
    let width : h'.width ≡ h.width = ap (λ (y : Domain). y.width) same ∙ o.2.width in
    let after' : AreSpelled t.pool.words (levels h.width) h.root =
    subst (λ n. AreSpelled t.pool.words (levels n) h.root) width
    (subst (λ n. AreSpelled t.pool.words (levels h'.width) n) root after) in
    change_spelled m.pool.words t.pool.words h reached page before after' small
    (changes m t domain h sound there call reply does does.becomes h' then)
