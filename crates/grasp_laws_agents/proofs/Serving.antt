-- Each step leaves the objective of the agent of prefixes registered and listened for, and the agent serving.
use Rattle.std.proofs.Common.{◌≡◌, ◌≢◌, refl, sym, ap, ◌∙◌, subst, ℕ, true, false, None, Some, Result, Ok, Err}
use Rattle.std.proofs.lemmas.Bool.{false≢true}
use Rattle.grasp_laws_agent.proofs.LawCursors.{openings_go_on}
use Rattle.grasp_laws_agent.proofs.LawNext.{next_calls_are}
use Rattle.grasp_laws_agent.proofs.Retiring.{agents_retire}
use Rattle.grasp_agent.specs.Calls.{next_call, act_call, duty_call, objective_name, agent_name}
use Rattle.grasp_laws_agent.specs.Moves.{OpeningGoes}
use Rattle.grasp_laws_agent.specs.Next.{NextIs, opens, acts, requests, hands_back, does}
use Rattle.grasp_agent.specs.Replies as agent
use Rattle.grasp_agent.specs.Replies.{AgentEvent, after_reply, want_reply, after_want, return_reply, after_return, after_event}
use Rattle.grasp_agent.specs.Reopening.{retired}
use Rattle.grasp_agent.specs.States.{AgentState, is_open}
use Rattle.grasp_agent.specs.declared.act.Act.{Act}
use Rattle.grasp_agent.specs.declared.act.Act.TheVariants as act
use Rattle.grasp_agent.specs.declared.back.ReturnFault.{ReturnFault}
use Rattle.grasp_agent.specs.declared.duty.Duty.{Duty}
use Rattle.grasp_agent.specs.declared.duty.Duty.TheVariants as duty
use Rattle.grasp_agent.specs.declared.stage.Stage.TheVariants as stage
use Rattle.grasp_agent.specs.declared.want.WantFault.{WantFault}
use Rattle.grasp_laws_tables.proofs.LawOthers.{others_leave}
use Rattle.grasp_asa.specs.Answers.{names_of, listen_answer}
use Rattle.grasp_laws_tables.specs.Laws.{IsLeftByOthers}
use Rattle.grasp_laws_node.proofs.DatagramsAlone.{datagrams_leave}
use Rattle.grasp_laws_node.proofs.Bounded.Nodes.{nodes_kept, begin_kept}
use Rattle.grasp_laws_node.proofs.Remembered.{begun}
use Rattle.grasp_laws_node.proofs.StreamsAlone.{peers_leave}
use Rattle.grasp_model_node.specs.Begin.{begin, expired}
use Rattle.grasp_model_node.specs.Declines.{after_declines, declines_of}
use Rattle.grasp_model_node.specs.Draining.{after_drain}
use Rattle.grasp_model_node.specs.FloodCalls.{find_of}
use Rattle.grasp_model_node.specs.Moves.{with_reading, with_registrations, with_sessions, with_discoveries, with_floods, with_draw, begin_closing, dial_record, queue_up}
use Rattle.grasp_model_node.specs.Node.{NodeState}
use Rattle.grasp_model_node.specs.RegistryCalls.{declines_for, without_agent, without_objective, without_searches, with_mark}
use Rattle.grasp_model_node.specs.BoundedNodes.{IsBoundedNode}
use Rattle.grasp_model_node.specs.Step.{Coming, NodeStep, Calls, Drains, after_call}
use Rattle.grasp_model_node.specs.declared.plan.NodePlan.{NodePlan}
use Rattle.grasp_pool.specs.Holdings.{Holding}
use Rattle.grasp_session.specs.Sessions.{untaken_reply}
use Rattle.grasp_types.specs.declared.call.Call.{Call}
use Rattle.grasp_types.specs.declared.call.Call.TheVariants as call
use Rattle.grasp_types.specs.declared.reply.ApiAnswer.{ApiAnswer}
use Rattle.grasp_types.specs.declared.reply.Reply.{Reply}
use Rattle.grasp_types.specs.declared.reply.Reply.TheVariants as reply
use Rattle.grasp_types.specs.declared.traffic.Input.{Input}
use Rattle.grasp_types.specs.declared.traffic.Input.TheVariants as input
use Rattle.grasp_types.specs.Prefix.{AddressBlock as Prefix}
use Rattle.grasp_types.specs.declared.address.Locator.{Locator}
use Rattle.grasp_laws_network.proofs.EachNode.{first_is}
use Rattle.grasp_model_network.specs.EventSteps.{agent_input}
use Rattle.grasp_model_network.specs.Openings.{opened_seat, answered_seat}
use Rattle.grasp_laws_network.specs.Telling.{IsNoReply}
use Rattle.grasp_laws_agents.proofs.EachSeat.{Keeps, reached_seats}
use Rattle.grasp_laws_agents.proofs.Registering.{Has, as_before, listened_again, has_flags, has_listener, no_other}
use Rattle.grasp_laws_agents.proofs.SameRegistered.{declines_registered, withouts_registered, looked_registered, polling_registered, adopted_registered}
use Rattle.grasp_laws_agents.specs.Laws.{AgentsServe}
use Rattle.grasp_laws_agents.specs.Serving.{Serves}
use Rattle.grasp_laws_agents.specs.Staying.{IsOthers}

abbrev Holds : NodeState → Type 0
Holds n = Has objective_name n.registrations

-- ---- what is registered stays so

same_holds : (n m : NodeState) → m.registrations ≡ n.registrations → Holds n → Holds m
same_holds n m e h = subst (Has objective_name) (sym e) h

-- ---- the calls of others

module _ (n : NodeState) (asa : ℕ) (is : IsBoundedNode n) (other : asa ≢ 1) (h : Holds n) where
  left : IsLeftByOthers n.registrations 1
  left = others_leave n.registrations 1 is.registrations h.registered

  registered_others : (c : Call) (a : ApiAnswer) → Holds (after_call n asa c (Ok a))
  unfolding with_registrations with_sessions with_discoveries with_floods with_draw begin_closing dial_record queue_up
  registered_others (call.RegisterAsa name) a = as_before objective_name n.registrations _ (left.register_asa name) h
  registered_others call.DeregisterAsa a =
      subst (Has objective_name)
      (sym (withouts_registered 64 (without_searches (after_declines (without_agent n asa) (declines_for n.sessions (names_of n.registrations asa))) asa) asa
      ∙ declines_registered (without_agent n asa) (declines_for n.sessions (names_of n.registrations asa))))
      (as_before objective_name n.registrations _ (left.deregister_asa asa other) h)
  registered_others (call.RegisterObjective name flags) a = as_before objective_name n.registrations _ (left.register_objective asa name flags other) h
  registered_others (call.DeregisterObjective name) a =
      subst (Has objective_name) (sym (declines_registered (without_objective n asa name) (declines_of n.sessions name))) (as_before objective_name n.registrations _ (left.deregister_objective asa name other) h)
  registered_others (call.Discover name kind loops timeout) a = subst (Has objective_name) (sym (looked_registered n asa name kind loops timeout (find_of n asa name kind))) h
  registered_others (call.ListenNegotiate name) a =
      subst (Has objective_name) (sym (adopted_registered (with_mark n asa name true) asa (untaken_reply n.sessions name))) (as_before objective_name n.registrations _ (left.listen asa name true other) h)
  registered_others (call.StopListenNegotiate name) a =
      subst (Has objective_name) (sym (declines_registered (with_mark n asa name false) (declines_of n.sessions name))) (as_before objective_name n.registrations _ (left.listen asa name false other) h)
  registered_others (call.Poll handle) a = subst (Has objective_name) (sym (polling_registered n handle a)) h
  registered_others (call.ListenSynchronize name value) a = as_before objective_name n.registrations _ (left.offer asa name (Some value) other) h
  registered_others (call.StopListenSynchronize name) a = as_before objective_name n.registrations _ (left.offer asa name None other) h
  registered_others _ a = h

  calls_others : (after : NodeState) (c : Call) (r : Reply) → Calls n asa c r after → Holds after
  calls_others after c (reply.Api a) s = subst Holds (sym s.1) (registered_others c a)
  calls_others after c (reply.Refused refused) s = subst Holds (sym s.1) h
  calls_others after c _ s = absurd s

-- ---- all that isn't a call of agent 1

pub begin_holds : (n : NodeState) (now : ℕ) → Holds n → Holds (begin n now)
begin_holds n now h = same_holds n (begin n now) (begun n now).registrations h

drain_holds : (n after : NodeState) (max : ℕ) (r : Reply) → Holds n → Drains n max r after → Holds after
unfolding after_drain
drain_holds n after max (reply.Outputs outputs) h d = subst Holds (sym d.1) h
drain_holds n after max reply.OutOfMemory h d = subst Holds (sym d.1) h
drain_holds n after max _ h d = absurd d

pub others_hold : (n after : NodeState) (now : ℕ) (i : Input) (x : Coming) (r : Reply) → IsBoundedNode n → Holds n → IsOthers i → NodeStep n now i x r after → Holds after
others_hold n after now (input.Api asa c) x r is h o step = calls_others (begin n now) asa (begin_kept n now is) o (begin_holds n now h) after c r step.acts
others_hold n after now (input.Datagram link from bytes) x r is h o step = same_holds (begin n now) after (datagrams_leave n after now link from bytes x r step).registrations (begin_holds n now h)
others_hold n after now (input.Opened stream from) x r is h o step = same_holds (begin n now) after ((peers_leave n after now stream x r).0 from step).registrations (begin_holds n now h)
others_hold n after now (input.Bytes stream bytes) x r is h o step = same_holds (begin n now) after ((peers_leave n after now stream x r).1 bytes step).registrations (begin_holds n now h)
others_hold n after now (input.Closed stream) x r is h o step = same_holds (begin n now) after ((peers_leave n after now stream x r).2 step).registrations (begin_holds n now h)
others_hold n after now (input.Drain max) x r is h o step = drain_holds (begin n now) after max r (begin_holds n now h) step.acts

-- ---- the agent's own calls

-- the calls of an agent that serves
abbrev pub IsServing : Call → Type 0
IsServing (call.RequestNegotiate name value loops timeout dry peer) = name ≡ objective_name
IsServing (call.ListenNegotiate name) = name ≡ objective_name
IsServing (call.NegotiateStep handle value) = Unit {0}
IsServing (call.EndNegotiate handle verdict) = Unit {0}
IsServing (call.Poll handle) = Unit {0}
IsServing _ = ⊥

duty_serving : (d : Duty) → IsServing (duty_call d)
duty_serving duty.Listen = refl
duty_serving _ = tt

act_serving : (a : Act) → IsServing (act_call a)
act_serving (act.Offer place handle p) = tt
act_serving _ = tt

call_serving : (a : AgentState) → a.stage ≡ stage.Serving → (c : Call) → NextIs a c → IsServing c
call_serving a e _ (opens shut) = absurd (false≢true (sym shut ∙ ap is_open e))
call_serving a e _ (acts x serves is) = act_serving x
call_serving a e _ (requests w next is none) = refl
call_serving a e _ (hands_back v next is none) = refl
call_serving a e _ (does d next is) = duty_serving d

pub next_serving : (a : AgentState) → a.stage ≡ stage.Serving → IsServing (next_call a)
next_serving a e = call_serving a e (next_call a) (next_calls_are a)

own_registered : (n : NodeState) (asa : ℕ) (c : Call) (a : ApiAnswer) → IsServing c → Holds n → Holds (after_call n asa c (Ok a))
unfolding with_registrations with_sessions with_draw begin_closing dial_record queue_up
own_registered n asa (call.RequestNegotiate name value loops timeout dry peer) a s h = h
own_registered n asa (call.ListenNegotiate name) a s h =
    subst (Has objective_name) (sym (adopted_registered (with_mark n asa name true) asa (untaken_reply n.sessions name)))
    (subst (λ name. Has objective_name (with_mark n asa name true).registrations) (sym s) (listened_again objective_name n.registrations (listen_answer n.registrations asa objective_name) h))
own_registered n asa (call.NegotiateStep handle value) a s h = h
own_registered n asa (call.EndNegotiate handle verdict) a s h = h
own_registered n asa (call.Poll handle) a s h = subst (Has objective_name) (sym (polling_registered n handle a)) h
own_registered n asa _ a s h = absurd s

own_calls : (n after : NodeState) (asa : ℕ) (c : Call) (r : Reply) → IsServing c → Holds n → Calls n asa c r after → Holds after
own_calls n after asa c (reply.Api a) s h k = subst Holds (sym k.1) (own_registered n asa c a s h)
own_calls n after asa c (reply.Refused refused) s h k = subst Holds (sym k.1) h
own_calls n after asa c _ s h k = absurd k

-- ---- all of it

pub record IsServed (n : NodeState) (a : AgentState) : Type 0 where
  pub sound : IsBoundedNode n
  pub holds : Has objective_name n.registrations
  pub number : a.asa ≡ 1
  pub stage : a.stage ≡ stage.Serving

pub own_serves : (n after : NodeState) (a : AgentState) (now : ℕ) (x : Coming) (r : Reply) → IsServed n a → NodeStep n now (agent_input a) x r after → IsServed after (after_reply a r)
own_serves n after a now x r k step = by_opening (subst (OpeningGoes a r (after_reply a r)) k.stage (openings_go_on a r)) where
  by_opening : ((after_reply a r).stage ≡ stage.Serving) × ((after_reply a r).asa ≡ a.asa) → IsServed after (after_reply a r)
  by_opening o = record {
    sound = nodes_kept.1 n after now (agent_input a) x r k.sound step;
    holds = own_calls (begin n now) after a.asa (next_call a) r (next_serving a k.stage) (begin_holds n now k.holds) step.acts;
    number = o.1 ∙ k.number;
    stage = o.0;
  }

want_serves : (n : NodeState) (a : AgentState) (wanted longest : ℕ) (peer : Locator) (r : Result (Unit {0}) WantFault) → IsServed n a → IsServed n (after_want a wanted longest peer r)
want_serves n a wanted longest peer (Ok done) k = record { sound = k.sound; holds = k.holds; number = k.number; stage = k.stage }
want_serves n a wanted longest peer (Err fault) k = k

return_serves : (n : NodeState) (a : AgentState) (p : Prefix) (peer : Locator) (r : Result (Unit {0}) ReturnFault) → IsServed n a → IsServed n (after_return a p peer r)
return_serves n a p peer (Ok done) k = record { sound = k.sound; holds = k.holds; number = k.number; stage = k.stage }
return_serves n a p peer (Err fault) k = k

told_serves : (n : NodeState) (a : AgentState) (e : AgentEvent) → IsNoReply e → IsServed n a → IsServed n (after_event a e)
told_serves n a (agent.wanted wanted longest peer) other k = want_serves n a wanted longest peer (want_reply a) k
told_serves n a (agent.returned p peer) other k = return_serves n a p peer (return_reply a p) k
told_serves n a (agent.replied r) other k = absurd other

-- an agent at the end of its life has its number, and its opening calls are done
retired_serves : (n : NodeState) (a : AgentState) → IsServed n a → IsServed n (retired a)
retired_serves n a k = record {
  sound = k.sound;
  holds = k.holds;
  number = ap (λ (x : AgentState). x.asa) (agents_retire a).same ∙ k.number;
  stage = ap (λ (x : AgentState). x.stage) (agents_retire a).same ∙ k.stage;
}

-- ---- the beginning of a life

opened_holds : (plan : NodePlan) (h : Holding) → Has objective_name (opened_seat plan h).core.registrations
unfolding answered_seat opened_seat next_call agent_name objective_name after_reply begin expired with_reading with_registrations with_sessions with_discoveries with_floods begin_closing
opened_holds plan h = record {
  registered = refl;
  objective = record { owner = 1; name = objective_name; flags = 3; listening = true; offered = None };
  found = refl;
  flags = refl;
  listening = refl;
}

opened_number : (plan : NodePlan) (h : Holding) → (opened_seat plan h).agent.asa ≡ 1
unfolding answered_seat opened_seat next_call agent_name objective_name after_reply begin expired with_reading with_registrations with_sessions with_discoveries with_floods begin_closing
opened_number plan h = refl

opened_stage : (plan : NodePlan) (h : Holding) → (opened_seat plan h).agent.stage ≡ stage.Serving
unfolding answered_seat opened_seat next_call agent_name objective_name after_reply begin expired with_reading with_registrations with_sessions with_discoveries with_floods begin_closing
opened_stage plan h = refl

pub opened_serves : (plan : NodePlan) (h : Holding) → IsServed (opened_seat plan h).core (opened_seat plan h).agent
opened_serves plan h = record {
  sound = first_is (λ k n. IsBoundedNode n) 1 plan h (λ k n after now i x r. nodes_kept.1 n after now i x r) (nodes_kept.0 plan);
  holds = opened_holds plan h;
  number = opened_number plan h;
  stage = opened_stage plan h;
}

-- ---- networks

pub serving_kept : Keeps IsServed
serving_kept = record {
  others = λ n after a now i x r k o step. record {
    sound = nodes_kept.1 n after now i x r k.sound step;
    holds = others_hold n after now i x r k.sound k.holds o step;
    number = k.number;
    stage = k.stage;
  };
  own = own_serves;
  told = λ n a e possible other k. told_serves n a e other k;
  settles = λ n a p has k. record { sound = k.sound; holds = k.holds; number = k.number; stage = k.stage };
  retires = retired_serves;
  opens = λ plan h pool none. opened_serves plan h;
}

pub serves : (n : NodeState) (a : AgentState) → IsServed n a → Serves n a
serves n a k = record {
  number = k.number;
  stage = k.stage;
  registered = k.holds.registered;
  flags = has_flags objective_name n k.sound.registrations k.holds;
  listens = has_listener objective_name n k.sound.registrations k.holds;
  alone = no_other objective_name n k.sound.registrations k.holds;
}

pub agents_serve : AgentsServe
agents_serve s w r node seat here = serves seat.core seat.agent (reached_seats IsServed serving_kept s w r node seat here)
