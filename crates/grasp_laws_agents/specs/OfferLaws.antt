-- What the agent of prefixes at each node of every network that turns lead to offers, and what its next call makes of that.
use Rattle.std.specs.Prelude.{◌≡◌, ◌⊎◌, ℕ, Contains, None, Some}
use Rattle.grasp_agent.specs.Replies.{after_reply}
use Rattle.grasp_agent.specs.States.{AgentState, back_session, unsent_of}
use Rattle.grasp_agent.specs.declared.act.Act.TheVariants as act
use Rattle.grasp_model_node.specs.Node.{NodeState}
use Rattle.grasp_model_node.specs.Step.{Coming, NodeStep}
use Rattle.grasp_model_network.specs.EventSteps.{agent_input}
use Rattle.grasp_model_network.specs.Runs.{IsReached}
use Rattle.grasp_model_network.specs.Setting.{Setting}
use Rattle.grasp_model_network.specs.World.{Seat, WorldState, seat_at}
use Rattle.grasp_laws_agents.specs.Serving.{OfEachSeat}
use Rattle.grasp_pool.specs.Holdings.{IsFree}
use Rattle.grasp_session.specs.Messages.{Side, Near, Far, other}
use Rattle.grasp_session.specs.Sessions.{SessionState, session_at}
use Rattle.grasp_session.specs.Transcript.{SayEnd, having_said, peer_offer, refusal}
use Rattle.grasp_session.specs.declared.answer.Act.TheVariants as session_act
use Rattle.grasp_types.specs.Prefix.{AddressBlock as Prefix, span_of}
use Rattle.grasp_types.specs.declared.message.Verdict.TheVariants.{Accept}
use Rattle.grasp_types.specs.declared.reply.Reply.{Reply}
use Rattle.grasp_types.specs.declared.session.Handle.{Handle}
use Rattle.grasp_laws_agents.specs.Giving.{Gives, IsOpenOffer, IsOwnSession, IsUnaccepted, OffersIn, offered_by}

-- ---- what is so between calls

abbrev pub AgentsGive : Type 0
AgentsGive = (s : Setting) (w : WorldState) → IsReached s w → OfEachSeat Gives w

-- ---- what the agent's next call makes of it

-- the prefix, which the agent offers in this session, may go back: the session knows that it wasn't accepted
pub record MayGoBack (n : NodeState) (a : AgentState) (p : Prefix) : Type 0 where
  pub handle : Handle
  pub side : Side
  pub session : SessionState
  pub offers : OffersIn a side handle p
  pub own : IsOwnSession n.sessions handle side session
  pub unaccepted : IsUnaccepted session.view

-- the agent has accepted the prefix, the other end's last offer, in a session of which it is this side and where it might accept
pub record IsAcceptance (n after : NodeState) (a : AgentState) (p : Prefix) : Type 0 where
  pub handle : Handle
  pub side : Side
  pub session : SessionState
  pub now : ℕ
  pub act_is : a.act ≡ Some (act.Accept handle p)
  pub own : IsOwnSession n.sessions handle side session
  pub may : refusal session.view session_act.End ≡ None
  pub offer : offered_by (other side) (peer_offer session.view).value ≡ Some p
  pub said : (x : SessionState) × ((session_at after.sessions handle ≡ Some x) × (x.stream ≡ session.stream) × (x.view ≡ having_said session.view now (SayEnd Accept)))

-- the address is in a prefix that may go back, or that the agent has accepted, or that was to be returned and wasn't requested
abbrev pub FreedBy : NodeState → NodeState → AgentState → ℕ → Type 0
FreedBy n after a address =
    ((p : Prefix) × span_of p address × MayGoBack n a p)
    ⊎ (((p : Prefix) × span_of p address × IsAcceptance n after a p) ⊎ ((p : Prefix) × span_of p address × (unsent_of a.back ≡ Some p)))

-- what the agent offers in a session, of which it is this side, it offered there before; or it decided just now to give it, and its addresses
-- were all free but for those of what is given back; or this is the session of its return, which it requested just now
pub data WasOffered (n : NodeState) (a b : AgentState) (side : Side) (h : Handle) (p : Prefix) : Type 0 where
  was_there : OffersIn a side h p → WasOffered n a b side h p
  just_decided : side ≡ Far → (place : ℕ) → a.act ≡ None → b.act ≡ Some (act.Offer place h p)
      → (session : SessionState) → IsOwnSession n.sessions h Far session → IsUnaccepted session.view
      → ((address : ℕ) → span_of p address → IsFree a.pool address ⊎ ((q : Prefix) × span_of q address × MayGoBack n a q)) → WasOffered n a b side h p
  just_requested : side ≡ Near → unsent_of a.back ≡ Some p → back_session b.back ≡ Some h → WasOffered n a b side h p

-- a session that is no longer live, with this open offer, was gone before, or was one in which the agent offered the prefix, which is in doubt now
pub data WasOpen (n : NodeState) (a b : AgentState) (x : SessionState) (p : Prefix) : Type 0 where
  was_gone : Contains n.sessions.gone x → WasOpen n a b x p
  was_offer : (side : Side) (h : Handle) (session : SessionState) → OffersIn a side h p → session_at n.sessions h ≡ Some session
      → x.stream ≡ session.stream → Contains b.pool.doubtful p → WasOpen n a b x p

-- what the call leaves, what it frees, and what is reserved and in doubt then
pub record AgentMoves (n after : NodeState) (a b : AgentState) : Type 0 where
  -- a session of agent 1 that stays live stays on its stream
  pub streams : (h : Handle) (x y : SessionState) → session_at n.sessions h ≡ Some x → x.owner ≡ 1 → session_at after.sessions h ≡ Some y → y.stream ≡ x.stream
  pub freed : (address : ℕ) → IsFree b.pool address → IsFree a.pool address ⊎ FreedBy n after a address
  pub offered : (side : Side) (h : Handle) (p : Prefix) → OffersIn b side h p → WasOffered n a b side h p
  pub unsent : (p : Prefix) → unsent_of b.back ≡ Some p → unsent_of a.back ≡ Some p
  pub doubts : (x : SessionState) (p : Prefix) → Contains after.sessions.gone x → x.owner ≡ 1 → IsOpenOffer x.view p → WasOpen n a b x p
  pub keeps_doubts : (p : Prefix) → Contains a.pool.doubtful p → Contains b.pool.doubtful p
  pub reserved : (p : Prefix) → Contains b.pool.reserved p → Contains a.pool.reserved p ⊎ ((place : ℕ) × ((h : Handle) × (a.act ≡ None) × (b.act ≡ Some (act.Offer place h p))))
  pub doubtful : (p : Prefix) → Contains b.pool.doubtful p → Contains a.pool.doubtful p ⊎ Contains a.pool.reserved p

abbrev pub AgentsMove : Type 0
AgentsMove = (s : Setting) (w : WorldState) → IsReached s w → (node : ℕ) (seat : Seat) → seat_at w node ≡ Some seat
    → (now : ℕ) (x : Coming) (r : Reply) (after : NodeState) → NodeStep seat.core now (agent_input seat.agent) x r after → AgentMoves seat.core after seat.agent (after_reply seat.agent r)
