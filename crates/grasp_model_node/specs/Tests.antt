-- The tests of the refusals at a node, by their numbers.
use Rattle.std.specs.Prelude.{ℕ, ◌||◌, ◌&&◌, ◌==◌, Bool, true, false, not, nat_le, is_none, List, length, find, Option, None, Some, option_map, Result, Err}
use Rattle.grasp_asa.specs.Registrations.{is_registered, is_agent_name, is_taken, is_of, is_both_or_neither, is_dry_alone}
use Rattle.grasp_discovery.specs.Discoveries as discovery
use Rattle.grasp_flood.specs.Floods.{has_key}
use Rattle.grasp_flood.specs.Flood.{key_of}
use Rattle.grasp_session.specs.Sessions.{check_reply, session_owned}
use Rattle.grasp_session.specs.Sessions as session
use Rattle.grasp_session.specs.declared.answer.Act.{Act}
use Rattle.grasp_session.specs.declared.answer.SessionRefused.{SessionRefused}
use Rattle.grasp_session.specs.declared.answer.SessionRefused.TheVariants as refused
use Rattle.grasp_types.specs.Address.{is_dialable}
use Rattle.grasp_types.specs.Objective.{has_neg, has_synch, has_dry}
use Rattle.grasp_types.specs.declared.address.Address.{Address}
use Rattle.grasp_types.specs.declared.address.Locator.{Locator}
use Rattle.grasp_types.specs.declared.message.Message.{Message}
use Rattle.grasp_types.specs.declared.refusal.ApiRefused.{ApiRefused}
use Rattle.grasp_types.specs.declared.refusal.ApiRefused.TheVariants as api
use Rattle.grasp_types.specs.declared.session.Handle.{Handle}
use Rattle.grasp_model_node.specs.Node.{NodeState}
use Rattle.grasp_model_node.specs.Queue.{fits, has_room}
use Rattle.grasp_model_node.specs.Refusals.{Sending}
use Rattle.grasp_model_node.specs.Streams.{is_dialled_out}

-- 1: no registered agent has this number
abbrev pub no_asa : NodeState → ℕ → Bool
no_asa n asa = not (is_registered n.registrations asa)

-- 2: 32 agents are registered, or 4294967295 have been
abbrev pub asas_full : NodeState → Bool
asas_full n = nat_le 32 (length n.registrations.agents) || (n.registrations.made == 4294967295)

-- the flags of this agent's objective of this name
abbrev pub owned_flags : NodeState → ℕ → List ℕ → Option ℕ
owned_flags n asa name = option_map (λ o. o.flags) (find (is_of asa name) n.registrations.objectives)

-- 7: this agent hasn't registered the name
abbrev pub not_yours : NodeState → ℕ → List ℕ → Bool
not_yours n asa name = is_none (owned_flags n asa name)

abbrev pub lacks : (ℕ → Bool) → Option ℕ → Bool
lacks has None = true
lacks has (Some flags) = not (has flags)

-- 8: this agent's objective lacks F_NEG
abbrev pub not_negotiable : NodeState → ℕ → List ℕ → Bool
not_negotiable n asa name = lacks has_neg (owned_flags n asa name)

-- 9: this agent's objective lacks F_SYNCH
abbrev pub not_synchronizable : NodeState → ℕ → List ℕ → Bool
not_synchronizable n asa name = lacks has_synch (owned_flags n asa name)

-- 10: the request is dry, and the objective lacks F_NEG_DRY
abbrev pub not_dry : NodeState → ℕ → List ℕ → Bool → Bool
not_dry n asa name dry = dry && lacks has_dry (owned_flags n asa name)

-- 12 to 15: what a check of the session says
abbrev pub checked : Result (Unit {0}) SessionRefused → ApiRefused → Bool
checked (Err refused.NoSession) api.NoSession = true
checked (Err refused.NotYourTurn) api.NotYourTurn = true
checked (Err refused.LoopsSpent) api.LoopsSpent = true
checked (Err refused.WaitsSpent) api.WaitsSpent = true
checked _ _ = false

-- 16: no kept flood has this name and initiator
abbrev pub no_flood : NodeState → List ℕ → Address → Bool
no_flood n name initiator = not (has_key (key_of name initiator) n.floods.entries)

-- 19 and 20: the message doesn't fit, and the queue has no room for so many outputs
abbrev pub sending : NodeState → Message → ℕ → Sending
sending n m count = record { too_long = not (fits n.plan.limit m); outbox_full = not (has_room n.queue count) }

-- ---- the tests of each call

-- a call that asks for a registered agent alone
abbrev pub agent_tests : NodeState → ℕ → ApiRefused → Bool
agent_tests n asa api.NoAsa = no_asa n asa
agent_tests n asa _ = false

abbrev pub register_asa_tests : NodeState → List ℕ → ApiRefused → Bool
register_asa_tests n name api.AsasFull = asas_full n
register_asa_tests n name api.DuplicateAsa = is_agent_name n.registrations name
register_asa_tests n name _ = false

abbrev pub register_objective_tests : NodeState → ℕ → List ℕ → ℕ → ApiRefused → Bool
register_objective_tests n asa name flags api.NoAsa = no_asa n asa
register_objective_tests n asa name flags api.NotBoth = is_both_or_neither flags
register_objective_tests n asa name flags api.ObjectivesFull = nat_le 64 (length n.registrations.objectives)
register_objective_tests n asa name flags api.ObjectiveTaken = is_taken n.registrations name
register_objective_tests n asa name flags api.NotDry = is_dry_alone flags
register_objective_tests n asa name flags _ = false

-- what is done with an objective of the agent's, whatever its use
abbrev pub objective_tests : NodeState → ℕ → List ℕ → ApiRefused → Bool
objective_tests n asa name api.NoAsa = no_asa n asa
objective_tests n asa name api.NotYourObjective = not_yours n asa name
objective_tests n asa name _ = false

-- with one for negotiation
abbrev pub negotiation_tests : NodeState → ℕ → List ℕ → ApiRefused → Bool
negotiation_tests n asa name api.NoAsa = no_asa n asa
negotiation_tests n asa name api.NotYourObjective = not_yours n asa name
negotiation_tests n asa name api.NotNegotiable = not_negotiable n asa name
negotiation_tests n asa name _ = false

-- with one for synchronization
abbrev pub synchronization_tests : NodeState → ℕ → List ℕ → ApiRefused → Bool
synchronization_tests n asa name api.NoAsa = no_asa n asa
synchronization_tests n asa name api.NotYourObjective = not_yours n asa name
synchronization_tests n asa name api.NotSynchronizable = not_synchronizable n asa name
synchronization_tests n asa name _ = false

-- a request for negotiation
abbrev pub request_tests : NodeState → ℕ → List ℕ → Bool → Locator → ApiRefused → Bool
request_tests n asa name dry peer api.NoAsa = no_asa n asa
request_tests n asa name dry peer api.NotYourObjective = not_yours n asa name
request_tests n asa name dry peer api.NotNegotiable = not_negotiable n asa name
request_tests n asa name dry peer api.NotDry = not_dry n asa name dry
request_tests n asa name dry peer api.BadLocator = not (is_dialable peer)
request_tests n asa name dry peer api.SessionsFull = session.is_full n.sessions
request_tests n asa name dry peer api.StreamsFull = is_dialled_out n.streams
request_tests n asa name dry peer _ = false

-- a request for synchronization
abbrev pub synchronize_tests : NodeState → ℕ → List ℕ → Locator → ApiRefused → Bool
synchronize_tests n asa name peer api.NoAsa = no_asa n asa
synchronize_tests n asa name peer api.NotYourObjective = not_yours n asa name
synchronize_tests n asa name peer api.NotSynchronizable = not_synchronizable n asa name
synchronize_tests n asa name peer api.BadLocator = not (is_dialable peer)
synchronize_tests n asa name peer api.SessionsFull = session.is_full n.sessions
synchronize_tests n asa name peer api.StreamsFull = is_dialled_out n.streams
synchronize_tests n asa name peer _ = false

-- an act in a session
abbrev pub act_tests : NodeState → ℕ → Handle → Act → ApiRefused → Bool
act_tests n asa h act api.NoAsa = no_asa n asa
act_tests n asa h act api.NoSession = checked (check_reply n.sessions asa h act) api.NoSession
act_tests n asa h act api.NotYourTurn = checked (check_reply n.sessions asa h act) api.NotYourTurn
act_tests n asa h act api.LoopsSpent = checked (check_reply n.sessions asa h act) api.LoopsSpent
act_tests n asa h act api.WaitsSpent = checked (check_reply n.sessions asa h act) api.WaitsSpent
act_tests n asa h act _ = false

abbrev pub poll_tests : NodeState → ℕ → Handle → ApiRefused → Bool
poll_tests n asa h api.NoAsa = no_asa n asa
poll_tests n asa h api.NoSession = is_none (session_owned n.sessions asa h)
poll_tests n asa h _ = false

-- a search, where one is to begin
abbrev pub discover_tests : NodeState → ℕ → Bool → ApiRefused → Bool
discover_tests n asa begins api.NoAsa = no_asa n asa
discover_tests n asa begins api.SessionsFull = begins && discovery.is_full n.discoveries
discover_tests n asa begins _ = false

abbrev pub expire_flood_tests : NodeState → ℕ → List ℕ → Address → ApiRefused → Bool
expire_flood_tests n asa name initiator api.NoAsa = no_asa n asa
expire_flood_tests n asa name initiator api.NoFlood = no_flood n name initiator
expire_flood_tests n asa name initiator _ = false
