-- What each agent of prefixes of a network offers stands as it is to, and what its next call makes of that.
use Rattle.std.proofs.Common.{◌≡◌, refl, sym, ap, ◌∙◌, subst, arith, ℕ, List, [], Contains, inl, inr, slice_get, Option, None, Some, Ok, Err, Result}
use Rattle.std.proofs.lemmas.Option.{none-some}
use Rattle.grasp_laws_agent.proofs.LawKept.{kept_event, kept_reply}
use Rattle.grasp_laws_agent.proofs.Retiring.{agents_retire, settling_keeps}
use Rattle.grasp_agent.specs.Calls.{next_call, agent_name, objective_name}
use Rattle.grasp_agent.specs.Kept.{IsKept}
use Rattle.grasp_agent.specs.Replies as agent
use Rattle.grasp_agent.specs.Replies.{AgentEvent, after_reply, want_reply, after_want, return_reply, after_return, after_event}
use Rattle.grasp_agent.specs.States.{AgentState, back_session, want_session}
use Rattle.grasp_agent.specs.declared.back.Return.{Return}
use Rattle.grasp_agent.specs.declared.back.ReturnFault.{ReturnFault}
use Rattle.grasp_agent.specs.declared.giving.Giving.{Giving}
use Rattle.grasp_agent.specs.declared.want.WantFault.{WantFault}
use Rattle.grasp_laws_node.proofs.Beginning.{drain_of_nothing}
use Rattle.grasp_laws_node.proofs.Bounded.Nodes.{nodes_kept, begin_kept}
use Rattle.grasp_model_node.specs.Begin.{begin, expired}
use Rattle.grasp_model_node.specs.Draining.{drained, after_drain}
use Rattle.grasp_model_node.specs.Moves.{with_reading, with_registrations, with_sessions, with_discoveries, with_floods, begin_closing}
use Rattle.grasp_model_node.specs.Node.{NodeState}
use Rattle.grasp_model_node.specs.BoundedNodes.{IsBoundedNode}
use Rattle.grasp_model_node.specs.Step.{Coming, NodeStep, Calls}
use Rattle.grasp_model_node.specs.declared.plan.NodePlan.{NodePlan}
use Rattle.grasp_laws_node.specs.Consistent.{IsConsistent, TiesAreKept}
use Rattle.grasp_laws_network.proofs.EachNode.{first_is}
use Rattle.grasp_model_network.specs.EventSteps.{agent_input}
use Rattle.grasp_model_network.specs.Runs.{IsReached}
use Rattle.grasp_model_network.specs.Openings.{answered_seat, opened_seat}
use Rattle.grasp_model_network.specs.Setting.{Setting}
use Rattle.grasp_model_network.specs.World.{Seat, WorldState}
use Rattle.grasp_pool.specs.Functions.{after_settle}
use Rattle.grasp_pool.specs.Holdings.{Holding}
use Rattle.grasp_laws_session.proofs.Made.{views_built}
use Rattle.grasp_laws_session.proofs.Runs.{none_live}
use Rattle.grasp_session.proofs.Tables.{state_slot}
use Rattle.grasp_session.specs.Messages.{Side}
use Rattle.grasp_session.specs.Runs.{WasMade}
use Rattle.grasp_session.specs.Sessions.{SessionState, Sessions, no_sessions, session_at}
use Rattle.grasp_types.specs.Prefix.{AddressBlock as Prefix}
use Rattle.grasp_types.specs.declared.address.Locator.{Locator}
use Rattle.grasp_types.specs.declared.reply.Reply.{Reply}
use Rattle.grasp_types.specs.declared.reply.Reply.TheVariants as reply
use Rattle.grasp_types.specs.declared.session.Handle.{Handle}
use Rattle.grasp_types.specs.declared.traffic.Input.TheVariants as input
use Rattle.grasp_laws_network.specs.Telling.{IsNoReply}
use Rattle.grasp_laws_agents.proofs.EachSeat.{Keeps, reached_seats}
use Rattle.grasp_laws_agents.proofs.Owning.{others_same}
use Rattle.grasp_laws_agents.proofs.Reserving.{opened_kept}
use Rattle.grasp_laws_agents.proofs.Retiring.{gives_with, gives_retired}
use Rattle.grasp_laws_agents.proofs.Serving.{IsServed, serving_kept, opened_serves}
use Rattle.grasp_laws_agents.specs.GoingOn.{OwnGoOn}
use Rattle.grasp_laws_agents.specs.Serving.{OfEachSeat}
use Rattle.grasp_laws_agents.proofs.Begun.{moves_before}
use Rattle.grasp_laws_agents.proofs.Calling.{called}
use Rattle.grasp_laws_agents.proofs.Going.{gives_on}
use Rattle.grasp_laws_agents.proofs.Standing.{same_has, Moved}
use Rattle.grasp_laws_agents.specs.Calls.{CallsMean}
use Rattle.grasp_laws_agents.specs.Giving.{IsOffersSession, of_entry, of_return, Gives}
use Rattle.grasp_laws_agents.specs.OfferLaws.{AgentMoves, AgentsGive, AgentsMove}

-- ---- what is so of a node and its agent

pub record IsGiving (n : NodeState) (a : AgentState) : Type 0 where
  pub served : IsServed n a
  pub tied : IsConsistent n
  pub kept : IsKept a
  pub gives : Gives n a

-- ---- a new want, and a new return

wants_given : (n : NodeState) (a : AgentState) (wanted longest : ℕ) (peer : Locator) (r : Result (Unit {0}) WantFault) → Gives n a → Gives n (after_want a wanted longest peer r)
wants_given n a wanted longest peer (Ok done) k = record {
  want = λ h e. none h e;
  entries = λ place g at. let s = k.entries place g at in record { session = s.session; own = s.own; offer = s.offer; accept = s.accept };
  back = k.back;
  apart = k.apart;
  kinds = k.kinds;
  live = λ h side x p own pending. same_has a (after_want a wanted longest peer (Ok done)) refl refl h side (k.live h side x p own pending);
} where
  none : {A : Type 0} (h : Handle) → None ≡ Some h → A
  none h e = absurd (cc)
wants_given n a wanted longest peer (Err refused) k = k

-- a return that isn't requested yet has no session
returns_given : (n : NodeState) (a : AgentState) (o : Option Return) (p : Prefix) (peer : Locator) → Gives n (record a { back = o }) → Gives n (after_return (record a { back = o }) p peer (return_reply (record a { back = o }) p))
returns_given n a (Some v) p peer k = k
returns_given n a None p peer k = by_reply (return_reply (record a { back = None }) p) where
  by_reply : (r : Result (Unit {0}) ReturnFault) → Gives n (after_return (record a { back = None }) p peer r)
  by_reply (Err refused) = k
  by_reply (Ok done) = record {
    want = λ h e. let s = k.want h e in record { session = s.session; own = s.own; accept = s.accept; asks = s.asks };
    entries = λ place g at. let s = k.entries place g at in record { session = s.session; own = s.own; offer = s.offer; accept = s.accept };
    back = λ v h is f. absurd (none-some h (ap back_session is ∙ f));
    apart = k.apart;
    kinds = k.kinds;
    live = λ h side x q own pending. by_session h side (k.live h side x q own pending);
  } where
    by_session : (h : Handle) (side : Side) → IsOffersSession (record a { back = None }) side h → IsOffersSession (after_return (record a { back = None }) p peer (Ok done)) side h
    by_session h side (of_entry far place g at same) = of_entry far place g at same
    by_session h side (of_return near v is f) = absurd (none-some v is)

told_given : (n : NodeState) (a : AgentState) (e : AgentEvent) → IsNoReply e → Gives n a → Gives n (after_event a e)
told_given n a (agent.wanted wanted longest peer) other k = wants_given n a wanted longest peer (want_reply a) k
told_given n a (agent.returned p peer) other k = returns_given n a a.back p peer k
told_given n a (agent.replied r) other k = absurd other

-- ---- the beginning of a life

record IsEmptySeat (s : Seat) : Type 0 where
  sessions : s.core.sessions ≡ no_sessions
  want : s.agent.want ≡ None
  back : s.agent.back ≡ None
  giving : s.agent.giving ≡ []

opened_empty : (plan : NodePlan) (h : Holding) → IsEmptySeat (opened_seat plan h)
unfolding answered_seat opened_seat next_call agent_name objective_name after_reply begin expired with_reading with_registrations with_sessions with_discoveries with_floods begin_closing
opened_empty plan h = record { sessions = refl; want = refl; back = refl; giving = refl }

empty_gives : (n : NodeState) (a : AgentState) → n.sessions ≡ no_sessions → a.want ≡ None → a.back ≡ None → a.giving ≡ [] → Gives n a
empty_gives n a z w b g = record {
  want = λ h e. no_want h (sym (ap want_session w) ∙ e);
  entries = λ place f at. nothing f (sym (ap (λ (l : List Giving). slice_get l place) g) ∙ at);
  back = λ r h is f. absurd (none-some r (sym b ∙ is));
  apart = λ i j f h at there same. nothing f (sym (ap (λ (l : List Giving). slice_get l i) g) ∙ at);
  kinds = λ x made owner. none_made x (subst (λ (y : Sessions). WasMade y x) z made);
  live = λ h side x p own pending. absurd (none_live 64 h.place x (state_slot no_sessions h x (subst (λ (y : Sessions). session_at y h ≡ Some x) z own.at)));
} where
  no_want : {A : Type 0} (h : Handle) → None ≡ Some h → A
  no_want h e = absurd (cc)

  nothing : {A : Type 0} (f : Giving) → None ≡ Some f → A
  nothing f e = absurd (cc)

  nobody : {A : Type 0} (x : SessionState) → Contains {X = SessionState} [] x → A
  nobody x (i, below, is) = absurd (omega (arith, below))

  none_made : {A : Type 0} (x : SessionState) → WasMade no_sessions x → A
  none_made x (inl i) = absurd (none_live 64 i.0 x i.1)
  none_made x (inr c) = nobody x c

opened_gives : (plan : NodePlan) (h : Holding) → Gives (opened_seat plan h).core (opened_seat plan h).agent
opened_gives plan h = let e = opened_empty plan h in empty_gives (opened_seat plan h).core (opened_seat plan h).agent e.sessions e.want e.back e.giving

opened_tied : TiesAreKept → (plan : NodePlan) (h : Holding) → IsConsistent (opened_seat plan h).core
opened_tied ties plan h =
    (first_is (λ k n. IsBoundedNode n × IsConsistent n) 1 plan h (λ k n after now i x r p step. (nodes_kept.1 n after now i x r p.0 step, ties.1 n after now i x r p.0 p.1 step))
    (nodes_kept.0 plan, ties.0 plan)).1

-- ---- a step

pub begin_tied : TiesAreKept → (n : NodeState) (now : ℕ) (x : Coming) → IsBoundedNode n → IsConsistent n → IsConsistent (begin n now)
begin_tied ties n now x k t =
    subst IsConsistent (drain_of_nothing n now)
    (ties.1 n (after_drain (begin n now) 0) now (input.Drain 0) x (reply.Outputs (drained (begin n now) 0)) k t (record { is_coming = tt; acts = (refl, refl) }))

module _ (ties : TiesAreKept) (means : CallsMean) (begins : (n : NodeState) (now : ℕ) → OwnGoOn n.sessions (begin n now).sessions) where
  -- the agent's own call
  own_moved : (n after : NodeState) (a : AgentState) (now : ℕ) (x : Coming) (r : Reply) → IsGiving n a → NodeStep n now (agent_input a) x r after → Moved (begin n now) after a (after_reply a r)
  own_moved n after a now x r k step =
      called means (begin n now) after a (begin_kept n now k.served.sound) (begin_tied ties n now x k.served.sound k.tied).fresh k.kept k.served.stage
      (gives_on n (begin n now) a (begins n now) k.gives) r (subst (λ asa. Calls (begin n now) asa (next_call a) r after) k.served.number step.acts)

  own_gives : (n after : NodeState) (a : AgentState) (now : ℕ) (x : Coming) (r : Reply) → IsGiving n a → NodeStep n now (agent_input a) x r after → IsGiving after (after_reply a r)
  own_gives n after a now x r k step = record {
    served = serving_kept.own n after a now x r k.served step;
    tied = ties.1 n after now (agent_input a) x r k.served.sound k.tied step;
    kept = kept_reply a r k.kept;
    gives = (own_moved n after a now x r k step).gives;
  }

  pub own_moves : (n after : NodeState) (a : AgentState) (now : ℕ) (x : Coming) (r : Reply) → IsGiving n a → NodeStep n now (agent_input a) x r after → AgentMoves n after a (after_reply a r)
  own_moves n after a now x r k step = moves_before n after now a (after_reply a r) k.served.sound (begins n now) (own_moved n after a now x r k step).moves

  giving_kept : Keeps IsGiving
  giving_kept = record {
    others = λ n after a now i x r k o step. record {
      served = serving_kept.others n after a now i x r k.served o step;
      tied = ties.1 n after now i x r k.served.sound k.tied step;
      kept = k.kept;
      gives = gives_on n after a (others_same n after a now i x r k.served o step).goes_on k.gives;
    };
    own = own_gives;
    told = λ n a e possible other k. record {
      served = serving_kept.told n a e possible other k.served;
      tied = k.tied;
      kept = kept_event a e possible k.kept;
      gives = told_given n a e other k.gives;
    };
    settles = λ n a p has k. record {
      served = serving_kept.settles n a p has k.served;
      tied = k.tied;
      kept = settling_keeps a p k.kept has;
      gives = gives_with n a (after_settle a.pool p) k.gives;
    };
    retires = λ n a k. record {
      served = serving_kept.retires n a k.served;
      tied = k.tied;
      kept = (agents_retire a).kept k.kept;
      gives = gives_retired n a (λ q x at. views_built n.sessions x k.served.sound.sessions (inl (q, at))) k.kept k.gives;
    };
    opens = λ plan h pool none. record {
      served = opened_serves plan h;
      tied = opened_tied ties plan h;
      kept = opened_kept plan h pool none;
      gives = opened_gives plan h;
    };
  }

  -- ---- networks

  reached_giving : (s : Setting) (w : WorldState) → IsReached s w → OfEachSeat IsGiving w
  reached_giving s w r = reached_seats IsGiving giving_kept s w r

  pub agents_give : AgentsGive
  agents_give s w r node seat here = (reached_giving s w r node seat here).gives

  pub agents_move : AgentsMove
  agents_move s w r node seat here now x q after step = own_moves seat.core after seat.agent now x q (reached_giving s w r node seat here) step
