-- By which images an agent may be opened anew.
use Rattle.std.proofs.Common.{◌≡◌, inl, inr, ℕ, Contains, Option, None, Some, Result, Ok, Err, refl}
use Rattle.grasp_types.specs.Prefix.{AddressBlock as Prefix}
use Rattle.grasp_types.specs.declared.address.Locator.{Locator}
use Rattle.grasp_types.specs.declared.reply.Reply.{Reply}
use Rattle.grasp_pool.specs.Functions.{add, each}
use Rattle.grasp_pool.specs.Holdings.{IsListed}
use Rattle.grasp_pool.specs.declared.image.PoolImage.{PoolImage}
use Rattle.grasp_pool.proofs.Equal.{add_members}
use Rattle.grasp_agent.specs.Kept.{IsKept, ActStands}
use Rattle.grasp_agent.specs.Laws.{IsPossible, by_return}
use Rattle.grasp_agent.specs.Reopening.{MayReopen}
use Rattle.grasp_agent.specs.Replies.{AgentEvent, wanted, returned, replied, after_event, after_reply, after_return, after_want, return_reply, want_reply}
use Rattle.grasp_agent.specs.States.{AgentState, accepted_by}
use Rattle.grasp_agent.specs.declared.act.Act.{Act}
use Rattle.grasp_agent.specs.declared.act.Act.TheVariants as act
use Rattle.grasp_agent.specs.declared.back.ReturnFault.{ReturnFault}
use Rattle.grasp_agent.specs.declared.want.WantFault.{WantFault}
use Rattle.grasp_agent.proofs.Keeping.{act_stands}
use Rattle.grasp_laws_agent.specs.Returns.{Leaves}
use Rattle.grasp_laws_agent.proofs.LawKept.{kept_event}
use Rattle.grasp_laws_agent.proofs.LawMoves.{moves_are_made}
use Rattle.grasp_laws_agent.proofs.LawReturns.{returns_are_answered}
use Rattle.grasp_laws_agent.proofs.LawStays.{nothing_else_moves}
use Rattle.grasp_store.specs.Images.{IsGoodImage, image_accepting, image_before, image_behind, image_of}
use Rattle.grasp_store.proofs.Images.{IsJoined, doubt_good, image_good, listed_joined}
use Rattle.grasp_laws_store.specs.Images.{ImagesReopen, AcceptingReopens, RepliesReopen, image_under}
use Rattle.grasp_laws_store.proofs.Passing.{Passes, loosens_passes, moves_pass, passes_reopen, reserves_passes, same_loosens}

-- ---- the images

-- an image that is kept of an agent: a pool can have it, its free prefixes are those of the agent's pool, and all that is listed there is in doubt
pub record IsKeptOf (s : AgentState) (image : PoolImage) : Type 0 where
  pub good : IsGoodImage image
  pub free : image.free ≡ s.pool.free
  pub listed : (p : Prefix) → IsListed s.pool p → Contains image.doubtful p

module _ (s : AgentState) (kept : IsKept s) where
  all_joined : IsJoined s.pool.reserved s.pool.doubtful (each add s.pool.reserved s.pool.doubtful)
  all_joined = listed_joined s.pool kept.pool

  pub behind_kept : IsKeptOf s (image_behind s)
  behind_kept = record { good = image_good s.pool kept.pool; free = refl; listed = λ p listed. (all_joined.members p).1 listed }

  pub before_kept : IsKeptOf s (image_before s)
  before_kept = of_act s.act refl
    where
      of_act : (o : Option Act) → s.act ≡ o → IsKeptOf s (image_accepting (accepted_by o) (image_of s.pool))
      of_act None is = behind_kept
      of_act (Some (act.Offer place h p)) is = behind_kept
      of_act (Some (act.Counter h n)) is = behind_kept
      of_act (Some (act.Decline h reason)) is = behind_kept
      of_act (Some (act.Accept h p)) is =
          let stands : ActStands s (act.Accept h p) = act_stands s (act.Accept h p) is kept
          in record {
            good = doubt_good s.pool kept.pool p stands.1 stands.2;
            free = refl;
            listed = λ q listed. (add_members p (each add s.pool.reserved s.pool.doubtful) q).1 (inl ((all_joined.members q).1 listed));
          }

  pub kept_reopens : (t : AgentState) (image : PoolImage) → IsKeptOf s image → Passes s t → MayReopen t image
  kept_reopens t image of passes = passes_reopen s t image of.good of.free of.listed passes

  itself : Passes s s
  itself = loosens_passes s s kept (same_loosens s.pool s.pool refl)

  pub behind_reopens : MayReopen s (image_behind s)
  behind_reopens = kept_reopens s (image_behind s) behind_kept itself

  pub before_reopens : MayReopen s (image_before s)
  before_reopens = kept_reopens s (image_before s) before_kept itself

pub images_reopen : ImagesReopen
images_reopen s kept = behind_reopens s kept

pub accepting_reopens : AcceptingReopens
accepting_reopens s kept = before_reopens s kept

-- ---- what happens to an agent

want_passes : (s : AgentState) (n longest : ℕ) (peer : Locator) (x : Result (Unit {0}) WantFault) → IsKept (after_want s n longest peer x) → Passes s (after_want s n longest peer x)
want_passes s n longest peer (Ok done) kept = loosens_passes s (after_want s n longest peer (Ok done)) kept (same_loosens s.pool s.pool refl)
want_passes s n longest peer (Err fault) kept = loosens_passes s s kept (same_loosens s.pool s.pool refl)

return_passes : (s : AgentState) (p : Prefix) (peer : Locator) (x : Result (Unit {0}) ReturnFault) → IsKept (after_return s p peer x) → Leaves s (after_return s p peer x) p peer x → Passes s (after_return s p peer x)
return_passes s p peer (Ok done) kept begun =
    reserves_passes s (after_return s p peer (Ok done)) s.pool p kept (same_loosens s.pool s.pool refl) begun.reserves (by_return _ begun.begun refl refl)
return_passes s p peer (Err fault) kept same = loosens_passes s s kept (same_loosens s.pool s.pool refl)

reply_passes : (s : AgentState) (r : Reply) → IsKept s → IsKept (after_reply s r) → Passes s (after_reply s r)
reply_passes s r kept kept_then = elim (nothing_else_moves s r) [
  | inl (m, happens) ↦ moves_pass s (after_reply s r) m kept_then (moves_are_made s r m kept happens)
  | inr nothing ↦ loosens_passes s (after_reply s r) kept_then (same_loosens s.pool (after_reply s r).pool nothing.pool)
]

event_passes : (s : AgentState) (e : AgentEvent) → IsKept s → IsPossible e → IsKept (after_event s e) → Passes s (after_event s e)
event_passes s (wanted n longest peer) kept possible kept_then = want_passes s n longest peer (want_reply s) kept_then
event_passes s (returned p peer) kept possible kept_then = return_passes s p peer (return_reply s p) kept_then ((returns_are_answered s p kept.pool possible).1 peer)
event_passes s (replied r) kept possible kept_then = reply_passes s r kept kept_then

under_kept : (s : AgentState) (e : AgentEvent) → IsKept s → IsKeptOf s (image_under s e)
under_kept s (wanted n longest peer) kept = behind_kept s kept
under_kept s (returned p peer) kept = behind_kept s kept
under_kept s (replied r) kept = before_kept s kept

pub replies_reopen : RepliesReopen
replies_reopen s e kept possible = kept_reopens s kept (after_event s e) (image_under s e) (under_kept s e kept) (event_passes s e kept possible (kept_event s e possible kept))
