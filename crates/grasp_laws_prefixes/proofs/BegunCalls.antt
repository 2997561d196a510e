-- The agent's own call where its step has begun, and who has accepted after it.
use Rattle.std.proofs.Common.{◌≡◌, sym, ap, ◌∙◌, subst, ℕ, inl, inr, ◌⊎◌, Some}
use Rattle.std.proofs.lemmas.Bool.{cases_eq}
use Rattle.std.proofs.lemmas.Option.{same_Some}
use Rattle.grasp_agent.specs.Calls.{next_call}
use Rattle.grasp_agent.specs.Kept.{IsKept}
use Rattle.grasp_laws_node.proofs.Bounded.Nodes.{begin_kept}
use Rattle.grasp_model_node.specs.Begin.{begin}
use Rattle.grasp_model_node.specs.Node.{NodeState}
use Rattle.grasp_model_node.specs.BoundedNodes.{IsBoundedNode}
use Rattle.grasp_model_node.specs.Step.{Calls}
use Rattle.grasp_laws_node.specs.Consistent.{IsConsistent}
use Rattle.grasp_session.specs.Messages.{Side}
use Rattle.grasp_model_network.specs.Runs.{IsReached}
use Rattle.grasp_model_network.specs.Sending.{seat_with}
use Rattle.grasp_model_network.specs.Setting.{Setting}
use Rattle.grasp_model_network.specs.Streams.{StreamState, end_at}
use Rattle.grasp_model_network.specs.World.{Seat, WorldState, seat_at, end_of}
use Rattle.grasp_laws_agents.specs.GoingOn.{OwnGoOn}
use Rattle.grasp_laws_agents.specs.Serving.{Serves}
use Rattle.grasp_laws_agents.proofs.Agents.{begin_tied}
use Rattle.grasp_laws_agents.proofs.Going.{gives_on}
use Rattle.grasp_laws_agents.specs.Giving.{Gives}
use Rattle.grasp_laws_delivery.proofs.Worlds.{reached_in_order}
use Rattle.grasp_laws_prefixes.proofs.AgentSteps.{AgentStep}
use Rattle.grasp_laws_prefixes.proofs.OwnSteps.{IsCall}
use Rattle.grasp_laws_prefixes.proofs.Speaking.{HasAccepted, NowAccepts, Spoke, accepted_back, spoke}
use Rattle.grasp_laws_prefixes.proofs.StillLive.{StillLive, still_live}
use Rattle.grasp_laws_prefixes.proofs.Staying.{GoneStay, gone_stay}
use Rattle.grasp_laws_prefixes.proofs.Talking.{AcceptedBy}
use Rattle.grasp_laws_prefixes.specs.Grounds.{Grounds}

-- the call, made where its step has begun
pub record IsBegun (w y : WorldState) (a : AgentStep w y) (c : IsCall w y a) : Type 0 where
  pub sound : IsBoundedNode a.visit.seat.core
  pub sound_begun : IsBoundedNode (begin a.visit.seat.core c.now)
  pub on : OwnGoOn a.visit.seat.core.sessions (begin a.visit.seat.core c.now).sessions
  pub kept : IsKept a.visit.seat.agent
  pub gives : Gives (begin a.visit.seat.core c.now) a.visit.seat.agent
  pub called : Calls (begin a.visit.seat.core c.now) 1 (next_call a.visit.seat.agent) c.reply a.core
  pub spoken : Spoke (begin a.visit.seat.core c.now) a.core a.visit.seat.agent c.reply
  pub stays : GoneStay (begin a.visit.seat.core c.now) a.core
  pub live : StillLive (begin a.visit.seat.core c.now) a.core

pub is_begun : (l : Grounds) → (s : Setting) (w y : WorldState) → IsReached s w → (a : AgentStep w y) (c : IsCall w y a) → IsBegun w y a c
is_begun l s w y r a c = record {
  sound = sound;
  sound_begun = begin_kept a.visit.seat.core c.now sound;
  on = l.goes_on.begins a.visit.seat.core c.now;
  kept = l.kept s w r a.visit.node a.visit.seat a.here;
  gives = gives_on a.visit.seat.core (begin a.visit.seat.core c.now) a.visit.seat.agent (l.goes_on.begins a.visit.seat.core c.now) (l.give s w r a.visit.node a.visit.seat a.here);
  called = called;
  spoken = spoke l.means (begin a.visit.seat.core c.now) a.core a.visit.seat.agent (begin_kept a.visit.seat.core c.now sound)
      (begin_tied l.ties a.visit.seat.core c.now c.coming sound tied).fresh served.stage c.reply called;
  live = still_live l.means (begin a.visit.seat.core c.now) a.core a.visit.seat.agent (begin_kept a.visit.seat.core c.now sound)
      (begin_tied l.ties a.visit.seat.core c.now c.coming sound tied).fresh served.stage c.reply called;
  stays = gone_stay l.means (begin a.visit.seat.core c.now) a.core a.visit.seat.agent (begin_kept a.visit.seat.core c.now sound) served.stage c.reply called;
} where
  sound : IsBoundedNode a.visit.seat.core
  sound = ((reached_in_order l.ties s w r).sound a.visit.node a.visit.seat a.here).0

  tied : IsConsistent a.visit.seat.core
  tied = ((reached_in_order l.ties s w r).sound a.visit.node a.visit.seat a.here).1

  served : Serves a.visit.seat.core a.visit.seat.agent
  served = l.serve s w r a.visit.node a.visit.seat a.here

  called : Calls (begin a.visit.seat.core c.now) 1 (next_call a.visit.seat.agent) c.reply a.core
  called = subst (λ asa. Calls (begin a.visit.seat.core c.now) asa (next_call a.visit.seat.agent) c.reply a.core) served.number c.steps.acts

module _ (w y : WorldState) (a : AgentStep w y) (c : IsCall w y a) where
  -- the node where the step has begun
  abbrev pub begun : NodeState
  begun = begin a.visit.seat.core c.now

  -- the agent has accepted at this side of the stream just now
  pub record AcceptsNow (side : Side) (u : StreamState) : Type 0 where
    pub stream : ℕ
    pub ends : end_at u side ≡ Some (end_of a.visit.node stream)
    pub accepts : NowAccepts begun a.core a.visit.seat.agent c.reply side stream

module _ (w y : WorldState) (a : AgentStep w y) (c : IsCall w y a) (b : IsBegun w y a c) where
  pub accepted_now : (side : Side) (u : StreamState) → AcceptedBy y side u → AcceptedBy w side u ⊎ AcceptsNow w y a c side u
  accepted_now side u e = by_node (cases_eq e.node a.visit.node) where
    new : Seat
    new = seat_with a.core a.agent

    by_node : (e.node ≡ a.visit.node) ⊎ (e.node ≡ a.visit.node → ⊥) → AcceptedBy w side u ⊎ AcceptsNow w y a c side u
    by_node (inr apart) = inl (record { node = e.node; seat = e.seat; here = sym (a.others e.node apart) ∙ e.here; stream = e.stream; ends = e.ends; accepted = e.accepted })
    by_node (inl same) = by_spoken (b.spoken side e.stream (subst (λ (z : Seat). HasAccepted z.core.sessions side e.stream) seat_is e.accepted)) where
      seat_is : e.seat ≡ seat_with a.core a.agent
      seat_is = same_Some e.seat (seat_with a.core a.agent) (sym e.here ∙ (ap (λ n. seat_at y n) same ∙ a.there))

      end_is : end_at u side ≡ Some (end_of a.visit.node e.stream)
      end_is = e.ends ∙ ap (λ n. Some (end_of n e.stream)) same

      by_spoken : HasAccepted (begun w y a c).sessions side e.stream ⊎ NowAccepts (begun w y a c) a.core a.visit.seat.agent c.reply side e.stream → AcceptedBy w side u ⊎ AcceptsNow w y a c side u
      by_spoken (inl before) = inl (record {
        node = a.visit.node;
        seat = a.visit.seat;
        here = a.here;
        stream = e.stream;
        ends = end_is;
        accepted = accepted_back a.visit.seat.core.sessions (begun w y a c).sessions b.on side e.stream before;
      })
      by_spoken (inr now) = inr (record { stream = e.stream; ends = end_is; accepts = now })
