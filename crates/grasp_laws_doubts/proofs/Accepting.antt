-- What an agent of prefixes has accepted is remembered by the doubter of its node.
use Rattle.std.proofs.Common.{◌≡◌, ◌⊎◌, inl, inr, refl, sym, ap, ◌∙◌, subst, arith, ℕ, ◌≤◌, List, Contains, Option, None, Some}
use Rattle.std.proofs.lemmas.Option.{same_Some}
use Rattle.grasp_agent.specs.Calls.{act_call, asking_call, duty_call, next_call, objective_name, returning_call, serving_call}
use Rattle.grasp_agent.specs.Replies.{after_reply}
use Rattle.grasp_agent.specs.Values.{offered_in}
use Rattle.grasp_agent.specs.States.{AgentState, duty_of}
use Rattle.grasp_agent.specs.declared.act.Act.{Act}
use Rattle.grasp_agent.specs.declared.act.Act.TheVariants as act
use Rattle.grasp_agent.specs.declared.back.Return.{Return}
use Rattle.grasp_agent.specs.declared.duty.Duty.{Duty}
use Rattle.grasp_agent.specs.declared.duty.Duty.TheVariants as duty
use Rattle.grasp_agent.specs.declared.stage.Stage.{Stage}
use Rattle.grasp_agent.specs.declared.stage.Stage.TheVariants.{Serving}
use Rattle.grasp_agent.specs.declared.want.Want.{Want}
use Rattle.grasp_types.specs.Prefix.{AddressBlock as Prefix}
use Rattle.grasp_types.specs.declared.call.Call.TheVariants as call
use Rattle.grasp_types.specs.declared.objective.Objective.{Objective}
use Rattle.grasp_types.specs.declared.reply.ApiAnswer.TheVariants as answer
use Rattle.grasp_types.specs.declared.reply.Reply.TheVariants as reply
use Rattle.grasp_types.specs.declared.session.By.TheVariants.{Mine}
use Rattle.grasp_types.specs.declared.session.Handle.{Handle}
use Rattle.grasp_types.specs.declared.session.Outcome.TheVariants as outcome
use Rattle.grasp_types.specs.declared.session.Progress.TheVariants as progress
use Rattle.grasp_types.specs.declared.traffic.Input.TheVariants as input
use Rattle.grasp_session.specs.Sessions.{SessionState}
use Rattle.grasp_session.specs.Transcript.{outcome_of}
use Rattle.grasp_doubter.specs.Seeing.{after_saw}
use Rattle.grasp_doubter.specs.States.{DoubterState}
use Rattle.grasp_model_node.specs.Begin.{begin}
use Rattle.grasp_model_node.specs.BoundedNodes.{IsBoundedNode}
use Rattle.grasp_model_node.specs.Node.{NodeState}
use Rattle.grasp_model_node.specs.Step.{NodeStep}
use Rattle.grasp_model_network.specs.EventSteps.{after_agent, agent_input}
use Rattle.grasp_model_network.specs.Runs.{IsReached}
use Rattle.grasp_model_network.specs.Sending.{seat_with}
use Rattle.grasp_model_network.specs.Setting.{Setting, numbered}
use Rattle.grasp_model_network.specs.Visits.{Choice}
use Rattle.grasp_model_network.specs.World.{Seat, WorldState, present_life, seat_at}
use Rattle.grasp_model_doubts.specs.World.{with_doubter}
use Rattle.grasp_laws_agents.specs.Serving.{Serves}
use Rattle.grasp_laws_delivery.proofs.Worlds.{reached_in_order}
use Rattle.grasp_laws_network.proofs.Here.{numbered_within}
use Rattle.grasp_laws_owned.specs.Laws.{WasPolled}
use Rattle.grasp_laws_owned.specs.Serving.{IsServing}
use Rattle.grasp_laws_prefixes.proofs.Standing.{WorldGoesOn}
use Rattle.grasp_laws_doubts.proofs.Both.{agent_put, put_both, put_doubter}
use Rattle.grasp_laws_doubts.proofs.Parts.{agent_visit_of}
use Rattle.grasp_laws_doubts.proofs.Seeing.{saw_accepted, saw_keeps}
use Rattle.grasp_laws_doubts.proofs.Taking.{HasSeen}
use Rattle.grasp_laws_doubts.specs.Grounds.{Grounds}
use Rattle.grasp_laws_doubts.specs.Remembering.{AcceptedStand, Remembers, RemembersAll}

-- ---- a call of an agent of prefixes is one for its objective

duty_serves : (u : Duty) → IsServing objective_name (duty_call u)
duty_serves duty.Listen = refl
duty_serves (duty.Want h) = tt
duty_serves (duty.Return h) = tt
duty_serves (duty.Give place h) = tt

returning_serves : (b : Option Return) (u : Duty) → IsServing objective_name (returning_call b u)
returning_serves None u = duty_serves u
returning_serves (Some r) u = by_session r.session where
  by_session : (o : Option Handle) → IsServing objective_name (returning_call (Some (record r { session = o })) u)
  by_session None = refl
  by_session (Some h) = duty_serves u

asking_serves : (w : Option Want) (b : Option Return) (u : Duty) → IsServing objective_name (asking_call w b u)
asking_serves None b u = returning_serves b u
asking_serves (Some x) b u = by_session x.session where
  by_session : (o : Option Handle) → IsServing objective_name (asking_call (Some (record x { session = o })) b u)
  by_session None = refl
  by_session (Some h) = returning_serves b u

act_serves : (x : Act) → IsServing objective_name (act_call x)
act_serves (act.Offer place h p) = tt
act_serves (act.Counter h n) = tt
act_serves (act.Accept h p) = tt
act_serves (act.Decline h reason) = tt

serving_serves : (x : Option Act) (w : Option Want) (b : Option Return) (u : Duty) → IsServing objective_name (serving_call x w b u)
serving_serves None w b u = asking_serves w b u
serving_serves (Some x) w b u = act_serves x

pub agent_serves : (a : AgentState) → a.stage ≡ Serving → IsServing objective_name (next_call a)
unfolding next_call
agent_serves a e = subst (λ (g : Stage). IsServing objective_name (next_call (record a { stage = g }))) (sym e) (serving_serves a.act a.want a.back (duty_of a))

-- ---- a doubter that has what it had

seen_remembers : (d f : DoubterState) → HasSeen d f → (p : Prefix) → Remembers d p → Remembers f p
seen_remembers d f h p (inl c) = inl (subst (λ ps. Contains ps p) (sym h.accepted) c)
seen_remembers d f h p (inr l) = inr (h.lost ∙ l)

-- ---- each part of an event

-- where no agent of prefixes did anything
pub quiet_accepted : (w y : WorldState) (ds : List DoubterState) → WorldGoesOn w y → AcceptedStand w ds → AcceptedStand y ds
quiet_accepted w y ds g all node seat here d is u o p gone own out offer =
    let b = g.seats node seat here in all node b.0 b.1 d is u o p (b.2.sessions.left u own gone) own out offer

-- a doubter is another one, which has seen what it had
pub doubter_accepted : (w : WorldState) (ds : List DoubterState) (node : ℕ) (d f : DoubterState) → 1 ≤ node → numbered ds node ≡ Some d → HasSeen d f → AcceptedStand w ds → AcceptedStand w (with_doubter ds node f)
doubter_accepted w ds node d f least is seen all =
    put_doubter (λ n seat x. RemembersAll seat.core.sessions x) w ds node f least (λ seat here u o p gone own out offer. seen_remembers d f seen p (all node seat here d is u o p gone own out offer)) all

-- a call of an agent of prefixes
module _ (l : Grounds) (s : Setting) (w : WorldState) (ds : List DoubterState) (node : ℕ) (seat : Seat) (d : DoubterState) (c : Choice) (r : IsReached s w) (present : present_life w node ≡ node)
    (here : seat_at w node ≡ Some seat) (is : numbered ds node ≡ Some d) (step : NodeStep seat.core seat.core.reading (agent_input seat.agent) c.coming c.reply c.after) (all : AcceptedStand w ds) where
  served : Serves seat.core seat.agent
  served = l.prefixes.serve s w r node seat here

  sound : IsBoundedNode seat.core
  sound = ((reached_in_order l.prefixes.ties s w r).sound node seat here).0

  called : NodeStep seat.core seat.core.reading (input.Api 1 (next_call seat.agent)) c.coming c.reply c.after
  called = subst (λ asa. NodeStep seat.core seat.core.reading (input.Api asa (next_call seat.agent)) c.coming c.reply c.after) served.number step

  abbrev f : DoubterState
  f = after_saw d (after_reply seat.agent c.reply).pool (next_call seat.agent) c.reply

  polled : (u : SessionState) (o : Objective) (p : Prefix) → outcome_of u.view ≡ Some (outcome.Agreed Mine o) → offered_in o.value ≡ Some p
      → WasPolled (begin seat.core seat.core.reading) (next_call seat.agent) c.reply u → Remembers f p
  polled u o p out offer b =
      let same : b.outcome ≡ outcome.Agreed Mine o = same_Some b.outcome (outcome.Agreed Mine o) (sym b.ended ∙ out) in
      subst (λ q. Remembers (after_saw d (after_reply seat.agent c.reply).pool q c.reply) p) (sym b.polls)
      (subst (λ q. Remembers (after_saw d (after_reply seat.agent c.reply).pool (call.Poll b.handle) q) p) (sym (b.tells ∙ ap (λ e. reply.Api (answer.Polled (progress.Ended e))) same))
      (saw_accepted d (after_reply seat.agent c.reply).pool b.handle o p offer))

  own : RemembersAll c.after.sessions f
  own u o p gone mine out offer =
      by_case (l.leaves 1 objective_name seat.core c.after seat.core.reading (next_call seat.agent) c.coming c.reply (omega arith) sound (agent_serves seat.agent served.stage) called u mine gone) where
        by_case : Contains seat.core.sessions.gone u ⊎ WasPolled (begin seat.core seat.core.reading) (next_call seat.agent) c.reply u → Remembers f p
        by_case (inl before) = saw_keeps d (after_reply seat.agent c.reply).pool (next_call seat.agent) c.reply p (all node seat here d is u o p before mine out offer)
        by_case (inr b) = polled u o p out offer b

  pub agent_accepted : AcceptedStand (after_agent w (agent_visit_of w node seat) c) (with_doubter ds node f)
  agent_accepted =
      put_both (λ n z x. RemembersAll z.core.sessions x) w (after_agent w (agent_visit_of w node seat) c) ds node (seat_with c.after (after_reply seat.agent c.reply)) f
      (numbered_within w.seats node seat here).least (agent_put w node seat c present) own (λ n z apart at x it. all n z at x it)

-- where only agents and offers are others
pub same_cores_accepted : (w y : WorldState) (ds : List DoubterState) → ((node : ℕ) (new : Seat) → seat_at y node ≡ Some new → (seat : Seat) × (seat_at w node ≡ Some seat) × (new.core ≡ seat.core))
    → AcceptedStand w ds → AcceptedStand y ds
same_cores_accepted w y ds cores all node new there d is =
    let f = cores node new there in subst (λ (n : NodeState). RemembersAll n.sessions d) (sym f.2) (all node f.0 f.1 d is)
