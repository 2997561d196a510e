-- The step of an agent's own call.
use Rattle.std.proofs.Common.{◌≡◌, refl, sym, ap, ◌∙◌, subst, ℕ, ◌-◌, Bool, true, inl, inr, ◌⊎◌, slice_set, Option, None, Some}
use Rattle.std.proofs.lemmas.Bool.{true≢false}
use Rattle.std.proofs.lemmas.Option.{none-some}
use Rattle.grasp_agent.specs.Kept.{IsKept}
use Rattle.grasp_agent.specs.Replies.{after_reply}
use Rattle.grasp_agent.specs.States.{AgentState, is_returning, unsent_of}
use Rattle.grasp_agent.specs.declared.back.Return.{Return}
use Rattle.grasp_agent.specs.declared.duty.Duty.{Duty}
use Rattle.grasp_agent.specs.declared.duty.Duty.TheVariants as duty
use Rattle.grasp_laws_agent.proofs.LawMoves.{moves_are_made}
use Rattle.grasp_laws_agent.proofs.LawStays.{nothing_else_moves}
use Rattle.grasp_laws_agent.specs.Moves as move
use Rattle.grasp_laws_agent.specs.Moves.{Move, IsNext, Happens, Effect, NothingMoves}
use Rattle.grasp_model_node.specs.Step.{Coming, NodeStep}
use Rattle.grasp_types.specs.Prefix.{AddressBlock as Prefix}
use Rattle.grasp_types.specs.declared.reply.Reply.{Reply}
use Rattle.grasp_types.specs.declared.session.Handle.{Handle}
use Rattle.grasp_laws_network.proofs.Here.{visits_are_here}
use Rattle.grasp_laws_network.proofs.Others.{put_elsewhere}
use Rattle.grasp_laws_network.proofs.SameLives.{visit_lives}
use Rattle.grasp_laws_network.proofs.Staying.{put_here}
use Rattle.grasp_model_network.proofs.Facts.{agent_given}
use Rattle.grasp_model_network.specs.EventSteps.{agent_input, agent_visit, after_agent}
use Rattle.grasp_model_network.specs.Events.{Occurs, visit_of}
use Rattle.grasp_laws_network.specs.Keeping.{IsHere}
use Rattle.grasp_model_network.specs.Notes.{noted}
use Rattle.grasp_model_network.specs.Offers.{offers_after}
use Rattle.grasp_model_network.specs.Runs.{IsReached}
use Rattle.grasp_model_network.specs.Sending.{seat_with, stepped}
use Rattle.grasp_model_network.specs.Setting.{Setting, numbered}
use Rattle.grasp_model_network.specs.Visits.{Visit, Choice, MayCome, VisitStep}
use Rattle.grasp_model_network.specs.World.{Seat, WorldState, present_life, seat_at}
use Rattle.grasp_model_network.specs.declared.event.Event.TheVariants as event
use Rattle.grasp_laws_prefixes.proofs.AgentSteps.{AgentStep}
use Rattle.grasp_laws_prefixes.proofs.Places.{step_stays}
use Rattle.grasp_laws_prefixes.specs.Grounds.{Grounds}

-- ---- where a return is to be requested, nothing is decided

is_sent : (b : Option Return) (p : Prefix) → unsent_of b ≡ Some p → is_returning b ≡ true
is_sent None p e = absurd (none-some p e)
is_sent (Some z) p e = by_session z.session e where
  by_session : (o : Option Handle) → unsent_of (Some (record z { session = o })) ≡ Some p → is_returning (Some (record z { session = o })) ≡ true
  by_session None f = refl
  by_session (Some h) f = absurd (none-some p f)

none_decided : (a : AgentState) (r : Reply) (p : Prefix) → IsKept a → unsent_of a.back ≡ Some p → a.act ≡ None → (after_reply a r).act ≡ None
none_decided a r p kept unsent none = by_move (nothing_else_moves a r) where
  no_duty : (d : Duty) → IsNext a d → ⊥
  no_duty d n = true≢false (sym (is_sent a.back p unsent) ∙ n.sent)

  idle : (m : Move) → Happens a r m → Effect a m (after_reply a r) → (after_reply a r).act ≡ None
  idle (move.comes_in h) is e = e.3 ∙ none
  idle (move.starts h) is e = e.3 ∙ none
  idle (move.is_refused x) is e = e.3 ∙ none
  idle (move.considers h o) is e = absurd (no_duty (duty.Want h) is.0)
  idle (move.finishes h o) is e = e.3 ∙ none
  idle (move.hands h) is e = e.3 ∙ none
  idle (move.is_unsent x) is e = e.2 ∙ none
  idle (move.hears h o) is e = e.2 ∙ none
  idle (move.is_made c) is e = e.3
  idle (move.is_dropped c) is e = e.2
  idle (move.gives place g o) is e = absurd (no_duty (duty.Give place g.handle) is.0)
  idle (move.leaves place g o) is e = e.2 ∙ none

  by_move : ((m : Move) × Happens a r m) ⊎ NothingMoves a (after_reply a r) → (after_reply a r).act ≡ None
  by_move (inl m) = idle m.0 m.1 (moves_are_made a r m.0 kept m.1)
  by_move (inr n) = n.act ∙ none

-- ---- the step

agent_call : (s : Setting) (w : WorldState) (node : ℕ) (hold : Bool) (v : Visit) → visit_of s w (event.Agent node hold) ≡ Some v → v.input ≡ agent_input v.seat.agent
unfolding agent_visit
agent_call s w node hold v is = agent_given (present_life w node) v (seat_at w (present_life w node)) is

agent_seats : (w : WorldState) (v : Visit) (c : Choice) → (after_agent w v c).seats ≡ slice_set w.seats (v.node - 1) (seat_with c.after (after_reply v.seat.agent c.reply))
unfolding after_agent noted stepped
agent_seats w v c = refl

agent_offers : (w : WorldState) (v : Visit) (c : Choice) → (after_agent w v c).offers ≡ offers_after (after_agent w v c).streams w v c.after (after_reply v.seat.agent c.reply)
unfolding after_agent noted
agent_offers w v c = refl

agent_settled : (w : WorldState) (v : Visit) (c : Choice) → (after_agent w v c).settled ≡ w.settled
unfolding after_agent noted stepped
agent_settled w v c = refl

-- the call of a step, and what it leaves
pub record IsCall (w y : WorldState) (a : AgentStep w y) : Type 0 where
  pub now : ℕ
  pub coming : Coming
  pub reply : Reply
  pub agent_is : a.agent ≡ after_reply a.visit.seat.agent reply
  pub steps : NodeStep a.visit.seat.core now (agent_input a.visit.seat.agent) coming reply a.core

module _ (l : Grounds) (s : Setting) where
  pub own_step : (w : WorldState) (node : ℕ) (hold : Bool) (c : Choice) (v : Visit) → IsReached s w → Occurs s w (event.Agent node hold) c → visit_of s w (event.Agent node hold) ≡ Some v
      → (a : AgentStep w (after_agent w v c)) × IsCall w (after_agent w v c) a
  own_step w node hold c v r o is = (
    record {
      visit = v;
      core = c.after;
      agent = after_reply v.seat.agent c.reply;
      here = here.stands;
      present = l.present s w (event.Agent node hold) v r o.fit is;
      there = ap (λ xs. numbered xs v.node) (agent_seats w v c) ∙ put_here w.seats v.node v.seat new here.stands;
      others = λ n apart. ap (λ xs. numbered xs n) (agent_seats w v c) ∙ put_elsewhere w.seats v.node n new here.member.least apart;
      offers = agent_offers w v c;
      settled = agent_settled w v c;
      lives = visit_lives s w (event.Agent node hold) v c;
      streams = step_stays l.ready s w r (event.Agent node hold) v c is tt;
      moves = l.move s w r v.node v.seat here.stands v.now c.coming c.reply c.after called;
      alone = λ p unsent none. none_decided v.seat.agent c.reply p (l.kept s w r v.node v.seat here.stands) unsent none;
    },
    record { now = v.now; coming = c.coming; reply = c.reply; agent_is = refl; steps = called },
  ) where
    here : IsHere w v
    here = visits_are_here s w (event.Agent node hold) v is

    step : VisitStep v c
    step = subst (λ (x : Option Visit). MayCome x c) is o.comes

    called : NodeStep v.seat.core v.now (agent_input v.seat.agent) c.coming c.reply c.after
    called = subst (λ i. NodeStep v.seat.core v.now i c.coming c.reply c.after) (agent_call s w node hold v is) step.steps

    new : Seat
    new = seat_with c.after (after_reply v.seat.agent c.reply)
