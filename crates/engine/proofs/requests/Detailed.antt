-- What an answer says besides its reply holds in each world of the state before the call.
use Rattle.std.proofs.Common.{◌≡◌, ℕ, List, Option, None, Some, Result, Ok, Err, IfOk, IsSomeAnd, refl, sym, subst, ◌∙◌}
use Rattle.dmatypes.specs.World.{World}
use Rattle.dmatypes.specs.World as world
use Rattle.dmatypes.specs.declared.call.Access.{Access}
use Rattle.dmatypes.specs.declared.call.Call.{Call}
use Rattle.dmatypes.specs.declared.call.Call.TheVariants as calls
use Rattle.dmatypes.specs.declared.call.Mode.{Mode}
use Rattle.dmatypes.specs.declared.call.Whim.{Whim}
use Rattle.dmatypes.specs.declared.refusal.Fault.{Fault}
use Rattle.dmatypes.specs.declared.refusal.Refusal.{Refusal}
use Rattle.dmatypes.specs.declared.reply.Reply.{Reply}
use Rattle.engine.specs.declared.answer.Detail.{Detail}
use Rattle.engine.specs.declared.answer.Detail.TheVariants as details
use Rattle.engine.specs.declared.answer.Unmapped as answer
use Rattle.engine.specs.Details.{hit_of, mode_by, request_detail, unmapped_detail}
use Rattle.engine.specs.Domains.{Domain, domain_at}
use Rattle.engine.specs.Hits.{IsNoRequest, IsNoUnmap, IsDetailIn, mode_of}
use Rattle.engine.specs.Quarantine.{MirrorsIfAny, Quarantine}
use Rattle.engine.specs.State.{State, unmapped_reply}
use Rattle.unit.specs.declared.hit.Hit.{Hit}

-- ---- an unmap

world_mode : (words : List ℕ) (h : Option Domain) (o : Option world.Domain) (mode : Mode) → MirrorsIfAny words h o → mode_of h ≡ Some mode
    → IsSomeAnd o (λ v. v.mode ≡ mode)
world_mode words None o mode both is = absurd cc
world_mode words (Some h) None mode both is = absurd both
world_mode words (Some h) (Some v) mode both is = (let same : h.mode ≡ mode = cc in sym both.ids.mode ∙ same)

unmapped_in : (m : State) (w : World) (domain address pages : ℕ) (result : Result answer.Unmapped Refusal) → Quarantine m w
    → IfOk result (λ unmapped. mode_of (domain_at m.domains domain) ≡ Some (mode_by unmapped))
    → IsDetailIn w (calls.Unmap domain address pages) (unmapped_reply result) (unmapped_detail result)
unfolding IsDetailIn
unmapped_in m w domain address pages (Ok unmapped) q is =
    (refl, world_mode m.pool.words (domain_at m.domains domain) (w.domains domain) (mode_by unmapped) (q.domains domain) is)
unmapped_in m w domain address pages (Err refusal) q is = λ unmapped same. cc

pub detail_of_unmap : (m : State) (call : Call) (domain address pages : ℕ) (result : Result answer.Unmapped Refusal)
    → call ≡ calls.Unmap domain address pages
    → IfOk result (λ unmapped. mode_of (domain_at m.domains domain) ≡ Some (mode_by unmapped))
    → (w : World) → Quarantine m w → IsDetailIn w call (unmapped_reply result) (unmapped_detail result)
detail_of_unmap m call domain address pages result same is w q =
    subst (λ (c : Call). IsDetailIn w c (unmapped_reply result) (unmapped_detail result)) (sym same)
    (unmapped_in m w domain address pages result q is)

-- ---- any other call

pub detail_of_other : (w : World) (call : Call) (reply : Reply) (detail : Detail) → IsNoUnmap call
    → ((unmapped : answer.Unmapped) → detail ≡ details.Unmapped unmapped → ⊥) → IsDetailIn w call reply detail
unfolding IsDetailIn
detail_of_other w (calls.Domain mode width) reply detail other none = none
detail_of_other w (calls.Drop domain) reply detail other none = none
detail_of_other w (calls.Attach device domain) reply detail other none = none
detail_of_other w (calls.Detach device) reply detail other none = none
detail_of_other w (calls.Map domain frame pages order rights) reply detail other none = none
detail_of_other w (calls.MapList domain order rights segments) reply detail other none = none
detail_of_other w (calls.Unmap domain address pages) reply detail other none = absurd (other domain address pages refl)
detail_of_other w (calls.Flush domain) reply detail other none = none
detail_of_other w (calls.Begin domain) reply detail other none = none
detail_of_other w calls.Unit reply detail other none = none
detail_of_other w (calls.Reap domain number) reply detail other none = none
detail_of_other w (calls.Dma device address access whim) reply detail other none = none
detail_of_other w (calls.Evict kind place) reply detail other none = none

-- what a request was answered says nothing of an unmap
pub request_unmaps_none : (result : Result (Result Hit Fault) Refusal) (unmapped : answer.Unmapped)
    → request_detail result ≡ details.Unmapped unmapped → ⊥
request_unmaps_none (Ok (Ok hit)) unmapped same = cc
request_unmaps_none (Ok (Err fault)) unmapped same = cc
request_unmaps_none (Err refusal) unmapped same = cc

-- and what became of an unmap's pages is no hit
pub unmap_hits_none : (result : Result answer.Unmapped Refusal) → hit_of (unmapped_detail result) ≡ None
unmap_hits_none (Ok unmapped) = refl
unmap_hits_none (Err refusal) = refl

-- a request is no unmap
pub request_is_no_unmap : {call : Call} {device address : ℕ} {access : Access} {whim : Whim}
    → call ≡ calls.Dma device address access whim → IsNoUnmap call
request_is_no_unmap is domain first pages same = let both = sym is ∙ same in cc

pub unmap_is_no_request : {call : Call} {domain address pages : ℕ} → call ≡ calls.Unmap domain address pages → IsNoRequest call
unmap_is_no_request is device at access whim same = let both = sym is ∙ same in cc
