-- Each step leaves the sessions of a node whose they may be.
use Rattle.std.proofs.Common.{◌≡◌, refl, sym, subst, arith, ℕ, ◌==◌, ◌&&◌, true, Option, None, Some, Result, Ok, Err, bytes_eq}
use Rattle.std.proofs.lemmas.Bool.{eqb-true, and_parts}
use Rattle.std.proofs.lemmas.Slice.Eq.{bytes_eq-Decides}
use Rattle.grasp_agent.specs.Calls.{next_call, objective_name, agent_name}
use Rattle.grasp_agent.specs.Replies.{after_reply}
use Rattle.grasp_agent.specs.States.{AgentState}
use Rattle.grasp_laws_node.proofs.DatagramsAlone.{datagrams_leave}
use Rattle.grasp_laws_node.proofs.Bounded.Nodes.{begin_kept}
use Rattle.grasp_model_node.specs.Begin.{begin, expired}
use Rattle.grasp_model_node.specs.Draining.{after_drain}
use Rattle.grasp_model_node.specs.Moves.{with_reading, with_registrations, with_sessions, with_discoveries, with_floods, with_draw, begin_closing, dial_record, queue_up}
use Rattle.grasp_model_node.specs.Node.{NodeState}
use Rattle.grasp_model_node.specs.SessionCalls.{after_polling, with_adopted, begun_by, requested, negotiated}
use Rattle.grasp_model_node.specs.RegistryCalls.{with_mark}
use Rattle.grasp_model_node.specs.Refusals.{early}
use Rattle.grasp_model_node.specs.Step.{Coming, NodeStep, MayCall, Calls, Drains, after_call}
use Rattle.grasp_model_node.specs.Tests.{act_tests}
use Rattle.grasp_model_node.specs.declared.plan.NodePlan.{NodePlan}
use Rattle.grasp_pool.specs.Holdings.{Holding}
use Rattle.grasp_model_network.specs.EventSteps.{agent_input}
use Rattle.grasp_model_network.specs.Openings.{opened_seat, answered_seat}
use Rattle.grasp_laws_session.proofs.Runs.{none_live}
use Rattle.grasp_laws_session.proofs.Streams.{is_least}
use Rattle.grasp_session.proofs.Tables.{state_slot}
use Rattle.grasp_session.specs.Sessions.{SessionState, no_sessions, with_owner, session_at, begun_state, start_reply, after_start, after_say, untaken_reply, after_adopt}
use Rattle.grasp_session.specs.Transcript.{Saying, SayStep, SayEnd, request_of}
use Rattle.grasp_session.specs.declared.answer.Act.{Act}
use Rattle.grasp_session.specs.declared.answer.Act.TheVariants as act
use Rattle.grasp_session.specs.declared.answer.SessionRefused.{SessionRefused}
use Rattle.grasp_types.specs.declared.address.Locator.{Locator}
use Rattle.grasp_types.specs.declared.call.Call.{Call}
use Rattle.grasp_types.specs.declared.call.Call.TheVariants as call
use Rattle.grasp_types.specs.declared.objective.Objective.{Objective}
use Rattle.grasp_types.specs.declared.reply.ApiAnswer.{ApiAnswer}
use Rattle.grasp_types.specs.declared.reply.ApiAnswer.TheVariants as answer
use Rattle.grasp_types.specs.declared.reply.Reply.{Reply}
use Rattle.grasp_types.specs.declared.reply.Reply.TheVariants as reply
use Rattle.grasp_types.specs.declared.session.Handle.{Handle}
use Rattle.grasp_types.specs.declared.session.Kind.TheVariants.{Negotiation}
use Rattle.grasp_types.specs.declared.session.Progress.TheVariants as progress
use Rattle.grasp_types.specs.declared.traffic.Input.{Input}
use Rattle.grasp_types.specs.declared.traffic.Input.TheVariants as input
use Rattle.grasp_laws_agents.proofs.EachSeat.{Keeps, reached_seats}
use Rattle.grasp_laws_agents.proofs.Hearing.{SameAt, begins, bytes_come, opening_comes, closing_comes}
use Rattle.grasp_laws_agents.proofs.OthersCalls.{others_call}
use Rattle.grasp_laws_agents.proofs.Owned.{IsClear, AreClear, clear_owned, Same, self, and_then, set_clear, one_clear, says_clear, leaves_clear}
use Rattle.grasp_laws_agents.proofs.Serving.{IsServed, IsServing, serving_kept, opened_serves, next_serving, begin_holds}
use Rattle.grasp_laws_agents.proofs.Tested.{none_of, acts_in, owner_is}
use Rattle.grasp_laws_agents.specs.Laws.{SessionsAreOwned, GoneSessionsAreOwned}
use Rattle.grasp_laws_agents.specs.Staying.{IsOthers}

-- ---- all that isn't a call of agent 1

drains_same : (n after : NodeState) (max : ℕ) (r : Reply) → Drains n max r after → SameAt n after
unfolding after_drain
drains_same n after max (reply.Outputs outputs) d = subst (SameAt n) (sym d.1) (self n.sessions)
drains_same n after max reply.OutOfMemory d = subst (SameAt n) (sym d.1) (self n.sessions)
drains_same n after max _ d = absurd d

pub others_same : (n after : NodeState) (a : AgentState) (now : ℕ) (i : Input) (x : Coming) (r : Reply) → IsServed n a → IsOthers i → NodeStep n now i x r after → SameAt n after
others_same n after a now i x r k o step = and_then n.sessions (begin n now).sessions after.sessions (begins n now) (by_input i o step) where
  by_input : (i : Input) → IsOthers i → NodeStep n now i x r after → SameAt (begin n now) after
  by_input (input.Api asa c) o t = others_call (begin n now) asa (begin_kept n now k.sound) o (begin_holds n now k.holds) after c r t.acts
  by_input (input.Datagram link from bytes) o t =
      subst (Same (begin n now).sessions) (sym (datagrams_leave n after now link from bytes x r t).sessions) (self (begin n now).sessions)
  by_input (input.Opened stream from) o t = subst (SameAt (begin n now)) (sym t.acts.1) (opening_comes (begin n now) stream from r)
  by_input (input.Bytes stream bytes) o t = bytes_come (begin n now) after stream bytes x r t.acts
  by_input (input.Closed stream) o t = subst (SameAt (begin n now)) (sym t.acts.1) (closing_comes (begin n now) stream)
  by_input (input.Drain max) o t = drains_same (begin n now) after max r t.acts

-- ---- the agent's own calls

module _ (n : NodeState) (k : AreClear n.sessions) where
  polls_clear : (h : Handle) (a : ApiAnswer) → AreClear (after_polling n h (Ok a)).sessions
  unfolding with_sessions
  polls_clear h (answer.Polled (progress.Ended outcome)) = leaves_clear n.sessions h (session_at n.sessions h) refl k
  polls_clear h _ = k

  begun_own : (timeout number : ℕ) (o : Objective) → o.name ≡ objective_name → IsClear (begun_state n.reading number (begun_by n 1 Negotiation timeout o))
  begun_own timeout number o e = record { owned = record { own = λ f. (refl, e); foreign = λ f g. absurd (g refl); untaken = λ f. refl }; unsaid = λ f. absurd (omega (arith, f)) }

  requests_clear : (timeout : ℕ) (o : Objective) (peer : Locator) → o.name ≡ objective_name → AreClear (requested n 1 Negotiation timeout o peer).sessions
  unfolding with_sessions with_draw dial_record queue_up
  requests_clear timeout o peer e = by_start (start_reply n.sessions) where
    by_start : (r : Result Handle SessionRefused) → AreClear (after_start n.sessions n.reading (begun_by n 1 Negotiation timeout o) r)
    by_start (Ok h) =
        let x : SessionState = begun_state n.reading h.number (begun_by n 1 Negotiation timeout o) in
        set_clear n.sessions h.number h.place n.sessions.gone (Some x) (λ y f. one_clear x y (begun_own timeout h.number o e) f) k.gone k
    by_start (Err refused) = k

  taken_clear : (h : Handle) (x : SessionState) → session_at n.sessions h ≡ Some x → x.owner ≡ 0 → (request_of x.view).name ≡ objective_name → AreClear (after_adopt n.sessions 1 h)
  taken_clear h x e free named =
      rw e
      (set_clear n.sessions n.sessions.made h.place n.sessions.gone (Some (with_owner x 1))
      (λ y f.
      one_clear (with_owner x 1) y
      (record {
        owned = record { own = λ i. ((k.live h.place x (state_slot n.sessions h x e)).owned.untaken free, named); foreign = λ i j. absurd (j refl); untaken = λ i. absurd (omega (arith, i)) };
        unsaid = λ i. absurd (omega (arith, i));
      }) f) k.gone k)

  adopts_clear : (o : Option Handle) → untaken_reply n.sessions objective_name ≡ o → AreClear (with_adopted (with_mark n 1 objective_name true) 1 o).sessions
  unfolding with_sessions with_registrations
  adopts_clear None e = k
  adopts_clear (Some h) e =
      let l = is_least n.sessions (λ y. (y.owner == 0) && bytes_eq (request_of y.view).name objective_name) h e in
      let q = and_parts (l.state.owner == 0) (bytes_eq (request_of l.state.view).name objective_name) l.passes in
      taken_clear h l.state l.at (eqb-true l.state.owner 0 q.0) ((bytes_eq-Decides (request_of l.state.view).name objective_name).0 q.1)

  -- what agent 1 says is in a session of its own
  said_clear : (h : Handle) (d : Act) (saying : Saying) → early (act_tests n 1 h d) ≡ Ok tt → AreClear (after_say n.sessions n.reading h saying)
  said_clear h d saying e =
      let o = acts_in n.sessions 1 h d (none_of (act_tests n 1 h d) e).session in
      says_clear n.sessions n.reading h saying (λ x f g. let own : x.owner ≡ 1 = owner_is n.sessions 1 h o x f in absurd (omega (arith, own, g))) k

  own_answered : (c : Call) (a : ApiAnswer) → IsServing c → MayCall n 1 c (Ok a) → AreClear (after_call n 1 c (Ok a)).sessions
  unfolding with_sessions begin_closing queue_up
  own_answered (call.RequestNegotiate name value loops timeout dry peer) a s m = requests_clear timeout (negotiated n 1 name value loops dry) peer s
  own_answered (call.ListenNegotiate name) a s m =
      subst (λ name. AreClear (with_adopted (with_mark n 1 name true) 1 (untaken_reply n.sessions name)).sessions) (sym s) (adopts_clear (untaken_reply n.sessions objective_name) refl)
  own_answered (call.NegotiateStep h value) a s m = said_clear h act.Step (SayStep value) m.0
  own_answered (call.EndNegotiate h verdict) a s m = said_clear h act.End (SayEnd verdict) m.0
  own_answered (call.Poll h) a s m = polls_clear h a
  own_answered _ a s m = absurd s

  own_clear : (after : NodeState) (c : Call) (r : Reply) → IsServing c → Calls n 1 c r after → AreClear after.sessions
  own_clear after c (reply.Api a) s t = subst (λ (m : NodeState). AreClear m.sessions) (sym t.1) (own_answered c a s t.0)
  own_clear after c (reply.Refused refused) s t = subst (λ (m : NodeState). AreClear m.sessions) (sym t.1) k
  own_clear after c _ s t = absurd t

-- ---- all of it

pub record IsOwning (n : NodeState) (a : AgentState) : Type 0 where
  pub served : IsServed n a
  pub clear : AreClear n.sessions

own_keeps : (n after : NodeState) (a : AgentState) (now : ℕ) (x : Coming) (r : Reply) → IsOwning n a → NodeStep n now (agent_input a) x r after → IsOwning after (after_reply a r)
own_keeps n after a now x r k step = record {
  served = serving_kept.own n after a now x r k.served step;
  clear = own_clear (begin n now) ((begins n now).clear k.clear) after (next_call a) r (next_serving a k.served.stage) (subst (λ asa. Calls (begin n now) asa (next_call a) r after) k.served.number step.acts);
}

opened_sessions : (plan : NodePlan) (h : Holding) → (opened_seat plan h).core.sessions ≡ no_sessions
unfolding answered_seat opened_seat next_call agent_name objective_name after_reply begin expired with_reading with_registrations with_sessions with_discoveries with_floods begin_closing
opened_sessions plan h = refl

nobody : AreClear no_sessions
nobody = record { live = λ place x at. absurd (none_live 64 place x at); gone = λ x i. absurd (omega (arith, i.1)) }

opened_owns : (plan : NodePlan) (h : Holding) → IsOwning (opened_seat plan h).core (opened_seat plan h).agent
opened_owns plan h = record { served = opened_serves plan h; clear = subst AreClear (sym (opened_sessions plan h)) nobody }

pub owning_kept : Keeps IsOwning
owning_kept = record {
  others = λ n after a now i x r k o step. record { served = serving_kept.others n after a now i x r k.served o step; clear = (others_same n after a now i x r k.served o step).clear k.clear };
  own = own_keeps;
  told = λ n a e possible other k. record { served = serving_kept.told n a e possible other k.served; clear = k.clear };
  settles = λ n a p has k. record { served = serving_kept.settles n a p has k.served; clear = k.clear };
  retires = λ n a k. record { served = serving_kept.retires n a k.served; clear = k.clear };
  opens = λ plan h pool none. opened_owns plan h;
}

pub sessions_owned : SessionsAreOwned
sessions_owned s w r node seat here = clear_owned seat.core.sessions (reached_seats IsOwning owning_kept s w r node seat here).clear

pub gone_owned : GoneSessionsAreOwned
gone_owned s w r node seat here = (reached_seats IsOwning owning_kept s w r node seat here).clear.gone
