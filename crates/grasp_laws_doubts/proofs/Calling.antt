-- The call of a node's agent of prefixes, and that of its doubter: what each changes.
use Rattle.std.proofs.Common.{◌≡◌, refl, sym, subst, arith, ℕ, ◌<◌, Bool, true, false, List, Option, None, Some, Ok}
use Rattle.grasp_agent.specs.Calls.{next_call, objective_name}
use Rattle.grasp_agent.specs.Replies.{after_reply}
use Rattle.grasp_doubter.specs.Calls as doubter
use Rattle.grasp_doubter.specs.Questions.{doubt_name}
use Rattle.grasp_doubter.specs.States.{DoubterState, duty_of}
use Rattle.grasp_doubter.specs.declared.asking.Ask.{Ask}
use Rattle.grasp_doubter.specs.declared.duty.DoubtAct.{DoubtAct}
use Rattle.grasp_doubter.specs.declared.duty.DoubtDuty.{DoubtDuty}
use Rattle.grasp_doubter.specs.declared.duty.DoubtDuty.TheVariants as duty
use Rattle.grasp_types.specs.declared.session.Handle.{Handle}
use Rattle.grasp_types.specs.declared.session.Outcome.{Outcome}
use Rattle.grasp_types.specs.declared.address.Address.{Address}
use Rattle.grasp_types.specs.declared.call.Call.{Call}
use Rattle.grasp_types.specs.declared.call.Call.TheVariants as call
use Rattle.grasp_types.specs.declared.objective.Objective.{Objective}
use Rattle.grasp_types.specs.declared.reply.ApiAnswer.{ApiAnswer}
use Rattle.grasp_types.specs.declared.reply.ApiAnswer.TheVariants as answer
use Rattle.grasp_types.specs.declared.reply.Reply.{Reply}
use Rattle.grasp_types.specs.declared.reply.Reply.TheVariants as reply
use Rattle.grasp_types.specs.declared.traffic.Input.TheVariants as input
use Rattle.grasp_session.specs.Transcript.{is_mine, outcome_of}
use Rattle.grasp_model_node.specs.Begin.{begin}
use Rattle.grasp_model_node.specs.BoundedNodes.{IsBoundedNode}
use Rattle.grasp_model_node.specs.Node.{NodeState}
use Rattle.grasp_model_node.specs.Step.{Calls, Coming, MayCall, NodeStep, after_call}
use Rattle.grasp_model_network.specs.EventSteps.{agent_input}
use Rattle.grasp_model_network.specs.Runs.{IsReached}
use Rattle.grasp_model_network.specs.Setting.{Setting}
use Rattle.grasp_model_network.specs.Visits.{Choice}
use Rattle.grasp_model_network.specs.World.{Seat, WorldState, seat_at}
use Rattle.grasp_laws_agents.specs.Calls.{CallsMean}
use Rattle.grasp_laws_agents.specs.Serving.{Serves}
use Rattle.grasp_laws_delivery.proofs.Worlds.{reached_in_order}
use Rattle.grasp_laws_node.proofs.Bounded.Nodes.{begin_kept}
use Rattle.grasp_laws_node.specs.Means.{ListenTells, PollFacts, Takes}
use Rattle.grasp_laws_owned.specs.Serving.{IsServing}
use Rattle.grasp_laws_doubts.proofs.Accepting.{agent_serves}
use Rattle.grasp_laws_doubts.proofs.Changing.{MadeStay, OwnChange, made_on, own_change, own_stay, stay_then}
use Rattle.grasp_laws_doubts.proofs.Quiet.{NodeStays, node_stays}
use Rattle.grasp_laws_doubts.specs.Grounds.{Grounds}
use Rattle.grasp_laws_doubts.specs.Standing.{ServesDoubts}

-- ---- a call of a doubter is one for its objective

duty_serves : (u : DoubtDuty) → IsServing doubt_name (doubter.duty_call u)
duty_serves duty.Listen = refl
duty_serves (duty.Ask h) = tt
duty_serves (duty.Answer place h) = tt

asking_serves : (k : Option Ask) (u : DoubtDuty) → IsServing doubt_name (doubter.asking_call k u)
asking_serves None u = duty_serves u
asking_serves (Some k) u = by_session k.session where
  by_session : (o : Option Handle) → IsServing doubt_name (doubter.asking_call (Some (record k { session = o })) u)
  by_session None = refl
  by_session (Some h) = duty_serves u

serving_serves : (a : Option DoubtAct) (k : Option Ask) (u : DoubtDuty) → IsServing doubt_name (doubter.serving_call a k u)
serving_serves None k u = asking_serves k u
serving_serves (Some a) k u = tt

pub doubter_serves : (d : DoubterState) → IsServing doubt_name (doubter.next_call d)
unfolding doubter.next_call
doubter_serves d = serving_serves d.act d.ask (duty_of d)

-- ---- a session that comes in

-- only listening tells of one, which was there and which no agent had taken
pub incoming_takes : (means : CallsMean) (asa : ℕ) (name : List ℕ) (n after : NodeState) → IsBoundedNode n → (c : Call) (h : Handle) (from : Address) (o : Objective) → IsServing name c
    → Calls n asa c (reply.Api (answer.Incoming h from o)) after → (objective : List ℕ) × Takes n asa objective h from o after
incoming_takes means asa name n after sound c h from o serves t = by_call c serves t.0 t.1 where
  by_call : (c : Call) → IsServing name c → MayCall n asa c (Ok (answer.Incoming h from o)) → after ≡ after_call n asa c (Ok (answer.Incoming h from o))
      → (objective : List ℕ) × Takes n asa objective h from o after
  by_call (call.RequestNegotiate objective value loops timeout dry peer) serves may same =
      let e = (means.requests n asa objective value loops timeout dry peer (answer.Incoming h from o) sound may).told in absurd (cc)
  by_call (call.ListenNegotiate objective) serves may same =
      (objective, subst (ListenTells n asa objective (answer.Incoming h from o)) (sym same) (means.listens n asa objective (answer.Incoming h from o) may).tells)
  by_call (call.NegotiateStep k value) serves may same = let e = (means.steps n asa k value (answer.Incoming h from o) sound may).done in absurd (cc)
  by_call (call.EndNegotiate k verdict) serves may same = let e = (means.ends n asa k verdict (answer.Incoming h from o) sound may).done in absurd (cc)
  by_call (call.Poll k) serves may same = absurd (by_outcome (outcome_of f.session.view) refl) where
    f : PollFacts n asa k (answer.Incoming h from o) (after_call n asa (call.Poll k) (Ok (answer.Incoming h from o)))
    f = means.polls n asa k (answer.Incoming h from o) may

    by_mine : (b : Bool) → is_mine f.session.view ≡ b → outcome_of f.session.view ≡ None → ⊥
    by_mine true m e = let g = (f.turn e m).0 in cc
    by_mine false m e = let g = (f.waiting e m).0 in cc

    by_outcome : (x : Option Outcome) → outcome_of f.session.view ≡ x → ⊥
    by_outcome None e = by_mine (is_mine f.session.view) refl e
    by_outcome (Some x) e = let g = (f.ended x e).0 in cc
  by_call _ serves may same = absurd serves

-- ---- the two calls

-- where the step of an agent's call for its objective has begun, the sessions change so
pub record IsCalled (asa : ℕ) (name : List ℕ) (n after : NodeState) (c : Call) (r : Reply) : Type 0 where
  pub now : ℕ
  pub sound : IsBoundedNode n
  pub sound_begun : IsBoundedNode (begin n now)
  pub serves : IsServing name c
  pub calls : Calls (begin n now) asa c r after
  pub change : OwnChange asa (begin n now) after c r
  pub stay : MadeStay asa n.sessions after.sessions

called : (l : Grounds) (asa : ℕ) (name : List ℕ) (n after : NodeState) (now : ℕ) (c : Call) (x : Coming) (r : Reply) → 0 < asa → IsBoundedNode n → IsServing name c → NodeStep n now (input.Api asa c) x r after
    → IsCalled asa name n after c r
called l asa name n after now c x r least sound serves step =
    let sound_begun = begin_kept n now sound in
    let change = own_change l.prefixes.means asa name (begin n now) after sound_begun c r serves step.acts in
    record {
      now = now;
      sound = sound;
      sound_begun = sound_begun;
      serves = serves;
      calls = step.acts;
      change = change;
      stay = stay_then asa n.sessions (begin n now).sessions after.sessions (made_on asa n.sessions (begin n now).sessions (l.begins asa name n now least).0) (own_stay asa (begin n now) after least c r change);
    }

module _ (l : Grounds) (s : Setting) (w : WorldState) (r : IsReached s w) (node : ℕ) (seat : Seat) (here : seat_at w node ≡ Some seat) (c : Choice) where
  pub sound_here : IsBoundedNode seat.core
  sound_here = ((reached_in_order l.prefixes.ties s w r).sound node seat here).0

  pub served_here : Serves seat.core seat.agent
  served_here = l.prefixes.serve s w r node seat here

  -- the agent of prefixes calls
  pub agent_called : NodeStep seat.core seat.core.reading (agent_input seat.agent) c.coming c.reply c.after → IsCalled 1 objective_name seat.core c.after (next_call seat.agent) c.reply
  agent_called step =
      called l 1 objective_name seat.core c.after seat.core.reading (next_call seat.agent) c.coming c.reply (omega arith) sound_here (agent_serves seat.agent served_here.stage)
      (subst (λ asa. NodeStep seat.core seat.core.reading (input.Api asa (next_call seat.agent)) c.coming c.reply c.after) served_here.number step)

  -- which leaves agent 2
  pub agent_leaves : ServesDoubts seat.core → NodeStep seat.core seat.core.reading (agent_input seat.agent) c.coming c.reply c.after → NodeStays seat.core c.after
  agent_leaves serves step =
      node_stays l seat.core c.after seat.core.reading (agent_input seat.agent) c.coming c.reply sound_here serves (λ e. absurd (let one : seat.agent.asa ≡ 1 = served_here.number in let two : seat.agent.asa ≡ 2 = e in omega (arith, one, two))) step

  -- its doubter calls
  pub doubter_called : (d : DoubterState) → NodeStep seat.core seat.core.reading (input.Api 2 (doubter.next_call d)) c.coming c.reply c.after → IsCalled 2 doubt_name seat.core c.after (doubter.next_call d) c.reply
  doubter_called d step = called l 2 doubt_name seat.core c.after seat.core.reading (doubter.next_call d) c.coming c.reply (omega arith) sound_here (doubter_serves d) step
