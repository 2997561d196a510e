-- The calls on agents and objectives (RFC 8991, section 2.3.3): what they answer, and the node after them.
use Rattle.std.specs.Prelude.{ℕ, zero, suc, ◌+◌, Bool, false, List, [], ◌∷◌, ◌++◌, Option, None, Some, Result}
use Rattle.grasp_asa.specs.Answers.{register_asa_answer, after_register_asa, deregister_asa_answer, after_deregister_asa, register_objective_answer, after_register_objective, deregister_objective_answer, after_deregister_objective, listen_answer, after_listen, offer_answer, after_offer, names_of}
use Rattle.grasp_cbor.specs.DataItem.{DataItem}
use Rattle.grasp_discovery.specs.Discoveries.{without_asa}
use Rattle.grasp_session.specs.Sessions.{Sessions, owner_reply, stream_reply, after_remove}
use Rattle.grasp_types.specs.declared.refusal.ApiRefused.{ApiRefused}
use Rattle.grasp_types.specs.declared.reply.ApiAnswer.{ApiAnswer}
use Rattle.grasp_types.specs.declared.reply.ApiAnswer.TheVariants.{Asa}
use Rattle.grasp_types.specs.declared.session.Handle.{Handle}
use Rattle.grasp_model_node.specs.Answered.{if_answered, IsDone, Is}
use Rattle.grasp_model_node.specs.Declines.{Declining, declines_of, after_declines}
use Rattle.grasp_model_node.specs.Moves.{with_registrations, with_sessions, with_discoveries, begin_closing}
use Rattle.grasp_model_node.specs.Node.{NodeState}
use Rattle.grasp_model_node.specs.Refusals.{MayAnswer, nothing_sent}
use Rattle.grasp_model_node.specs.Tests.{agent_tests, register_asa_tests, register_objective_tests, objective_tests, negotiation_tests, synchronization_tests}

-- ---- register_asa: the number of the new agent

abbrev pub MayRegisterAsa : NodeState → List ℕ → Result ApiAnswer ApiRefused → Type 0
MayRegisterAsa n name = MayAnswer (register_asa_tests n name) nothing_sent ⊥ (Is (Asa (n.registrations.made + 1)))

abbrev pub after_registering_asa : NodeState → List ℕ → Result ApiAnswer ApiRefused → NodeState
after_registering_asa n name = if_answered n (with_registrations n (after_register_asa n.registrations name (register_asa_answer n.registrations name)))

-- ---- register_objective

abbrev pub MayRegisterObjective : NodeState → ℕ → List ℕ → ℕ → Result ApiAnswer ApiRefused → Type 0
MayRegisterObjective n asa name flags = MayAnswer (register_objective_tests n asa name flags) nothing_sent ⊥ IsDone

abbrev pub after_registering_objective : NodeState → ℕ → List ℕ → ℕ → Result ApiAnswer ApiRefused → NodeState
after_registering_objective n asa name flags =
    if_answered n (with_registrations n (after_register_objective n.registrations asa name flags (register_objective_answer n.registrations asa name flags)))

-- ---- deregister_objective: its untaken sessions are declined

abbrev pub MayDeregisterObjective : NodeState → ℕ → List ℕ → Result ApiAnswer ApiRefused → Type 0
MayDeregisterObjective n asa name = MayAnswer (objective_tests n asa name) nothing_sent (Unit {0}) IsDone

abbrev pub without_objective : NodeState → ℕ → List ℕ → NodeState
without_objective n asa name = with_registrations n (after_deregister_objective n.registrations asa name (deregister_objective_answer n.registrations asa name))

abbrev pub after_deregistering_objective : NodeState → ℕ → List ℕ → Result ApiAnswer ApiRefused → NodeState
after_deregistering_objective n asa name = if_answered n (after_declines (without_objective n asa name) (declines_of n.sessions name))

-- ---- deregister_asa: the untaken sessions of its objectives are declined, in the order of their registration; its
-- searches and its sessions go, and the streams of these begin closing

abbrev pub declines_for : Sessions → List (List ℕ) → List Declining
declines_for z [] = []
declines_for z (name ∷ names) = declines_of z name ++ declines_for z names

abbrev pub MayDeregisterAsa : NodeState → ℕ → Result ApiAnswer ApiRefused → Type 0
MayDeregisterAsa n asa = MayAnswer (agent_tests n asa) nothing_sent (Unit {0}) IsDone

abbrev pub without_agent : NodeState → ℕ → NodeState
without_agent n asa = with_registrations n (after_deregister_asa n.registrations asa (deregister_asa_answer n.registrations asa))

abbrev pub without_searches : NodeState → ℕ → NodeState
without_searches n asa = with_discoveries n (without_asa n.discoveries asa)

abbrev pub close_stream : NodeState → Option ℕ → NodeState
close_stream n None = n
close_stream n (Some stream) = begin_closing n stream

abbrev pub without_session : NodeState → Option Handle → NodeState
without_session n None = n
without_session n (Some h) = close_stream (with_sessions n (after_remove n.sessions h)) (stream_reply n.sessions h)

-- so many sessions of this agent go, or all
unfoldable pub without_sessions : ℕ → NodeState → ℕ → NodeState
without_sessions zero n asa = n
without_sessions (suc k) n asa = without_session (without_sessions k n asa) (owner_reply (without_sessions k n asa).sessions asa)

abbrev pub after_deregistering_asa : NodeState → ℕ → Result ApiAnswer ApiRefused → NodeState
after_deregistering_asa n asa =
    if_answered n (without_sessions 64 (without_searches (after_declines (without_agent n asa) (declines_for n.sessions (names_of n.registrations asa))) asa) asa)

-- ---- stop_listen_negotiate: the untaken sessions of the objective are declined

abbrev pub with_mark : NodeState → ℕ → List ℕ → Bool → NodeState
with_mark n asa name on = with_registrations n (after_listen n.registrations name on (listen_answer n.registrations asa name))

abbrev pub MayStopListening : NodeState → ℕ → List ℕ → Result ApiAnswer ApiRefused → Type 0
MayStopListening n asa name = MayAnswer (negotiation_tests n asa name) nothing_sent (Unit {0}) IsDone

abbrev pub after_stopping : NodeState → ℕ → List ℕ → Result ApiAnswer ApiRefused → NodeState
after_stopping n asa name = if_answered n (after_declines (with_mark n asa name false) (declines_of n.sessions name))

-- ---- listen_synchronize and its end: the value that is offered, or none

abbrev pub MayOffer : NodeState → ℕ → List ℕ → Result ApiAnswer ApiRefused → Type 0
MayOffer n asa name = MayAnswer (synchronization_tests n asa name) nothing_sent ⊥ IsDone

abbrev pub after_offering : NodeState → ℕ → List ℕ → Option DataItem → Result ApiAnswer ApiRefused → NodeState
after_offering n asa name value = if_answered n (with_registrations n (after_offer n.registrations name value (offer_answer n.registrations asa name)))
