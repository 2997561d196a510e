-- For which stream a node has a prefix reserved or in doubt (RFC 8992, section 4.2).
use Rattle.std.specs.Prelude.{ℕ, ◌==◌, ◌&&◌, ◌||◌, not, Bool, List, [], ◌∷◌, ◌++◌, Option, None, Some, filter}
use Rattle.std.specs.List.{list_any}
use Rattle.grasp_agent.specs.States.{AgentState, unsent_of, back_session}
use Rattle.grasp_agent.specs.declared.act.Act.{Act}
use Rattle.grasp_agent.specs.declared.act.Act.TheVariants as act
use Rattle.grasp_model_node.specs.Node.{NodeState}
use Rattle.grasp_pool.specs.Holdings.{Holding}
use Rattle.grasp_session.specs.Sessions.{stream_reply}
use Rattle.grasp_types.specs.Prefix.{AddressBlock as Prefix}
use Rattle.grasp_types.specs.declared.session.Handle.{Handle}
use Rattle.grasp_model_network.specs.Streams.{StreamState, place_of_end}
use Rattle.grasp_model_network.specs.Visits.{Visit}
use Rattle.grasp_model_network.specs.World.{Offered, WorldState, end_of}

abbrev pub is_same_prefix : Prefix → Prefix → Bool
is_same_prefix p q = p.address == q.address && p.length == q.length

-- the pool has it reserved or in doubt
abbrev pub is_listed : Holding → Prefix → Bool
is_listed h p = list_any (is_same_prefix p) h.reserved || list_any (is_same_prefix p) h.doubtful

-- an offer of another node, or one that this node still has reserved or in doubt
abbrev pub is_kept : ℕ → Holding → Offered → Bool
is_kept node h o = not (o.node == node) || is_listed h o.prefix

-- an offer of this prefix by this node
abbrev pub is_offer_of : ℕ → Prefix → Offered → Bool
is_offer_of node p o = o.node == node && is_same_prefix p o.prefix

abbrev pub talk_on : List StreamState → Visit → Option ℕ → Option ℕ
talk_on ts v None = None
talk_on ts v (Some stream) = place_of_end ts (end_of v.node stream)

-- the place of the stream of a session of this node
abbrev pub talk_of_handle : List StreamState → Visit → NodeState → Handle → Option ℕ
talk_of_handle ts v n h = talk_on ts v (stream_reply n.sessions h)

-- the offers once this node has the prefix reserved for this stream, and for no other
abbrev pub put_offer : List Offered → ℕ → Prefix → Option ℕ → List Offered
put_offer offers node p talk = filter (λ o. not (is_offer_of node p o)) offers ++ record { node = node; prefix = p; talk = talk } ∷ []

-- what an agent has just begun to offer: the prefix, and the session in which it is offered
pub record JustOffered : Type 0 where
  pub prefix : Prefix
  pub handle : Handle

-- a return that was to be requested, and has this session now, offers its prefix there
abbrev pub just_handed : Option Prefix → Option Handle → Option JustOffered
just_handed None h = None
just_handed (Some p) None = None
just_handed (Some p) (Some h) = Some (record { prefix = p; handle = h })

-- an agent that had no act and has an offer as its act now has just decided it; and a return offers by its request
abbrev pub just_offered : AgentState → AgentState → Option JustOffered
just_offered a b = by_acts a.act b.act where
  by_acts : Option Act → Option Act → Option JustOffered
  by_acts None (Some (act.Offer place h p)) = Some (record { prefix = p; handle = h })
  by_acts _ _ = just_handed (unsent_of a.back) (back_session b.back)

-- what was just offered is reserved for the stream of its session
abbrev pub with_offer : List Offered → List StreamState → Visit → NodeState → Option JustOffered → List Offered
with_offer offers ts v n None = offers
with_offer offers ts v n (Some o) = put_offer offers v.node o.prefix (talk_of_handle ts v n o.handle)

-- after a step of the agent's node, with the streams, the node and the agent that there are then: what isn't reserved or in doubt any more
-- is forgotten, and what was just offered joins
unfoldable pub offers_after : List StreamState → WorldState → Visit → NodeState → AgentState → List Offered
offers_after ts w v n agent = with_offer (filter (is_kept v.node agent.pool) w.offers) ts v n (just_offered v.seat.agent agent)
