-- The agents of a node: the call that each makes next, and what its reply makes of it.
use Rattle.std.specs.Prelude.{◌≡◌, [], ◌∷◌}
use Rattle.grasp_agent.specs.Announcing.{beacon_call, after_beacon, reader_call, after_keep}
use Rattle.grasp_agent.specs.Calls.{next_call}
use Rattle.grasp_types.specs.declared.reply.Reply.{Reply}
use Rattle.grasp_types.specs.declared.traffic.Input.{Input}
use Rattle.grasp_types.specs.declared.traffic.Input.TheVariants as input
use Rattle.grasp_shared.specs.History.{History}
use Rattle.grasp_node_main.specs.Manager.{ready_manager, manager_after}
use Rattle.grasp_node_main.specs.declared.worker.Worker.{Worker}
use Rattle.grasp_node_main.specs.declared.worker.Worker.TheVariants.{Manager, Beacon, Reader}

-- before its turn the one that manages prefixes is given a want, where it takes one
abbrev pub ready_worker : Worker → Worker
ready_worker (Manager m) = Manager (ready_manager m)
ready_worker (Beacon b) = Beacon b
ready_worker (Reader r) = Reader r

-- the call of an agent that is ready, under the number by which the node knows it
abbrev pub call_of : Worker → Input
call_of (Manager m) = input.Api m.agent.asa (next_call m.agent)
call_of (Beacon b) = input.Api b.asa (beacon_call b)
call_of (Reader r) = input.Api r.asa (reader_call r)

-- after the reply to it
abbrev pub answered : Worker → Reply → Worker
answered (Manager m) reply = Manager (manager_after m reply)
answered (Beacon b) reply = Beacon (after_beacon b reply)
answered (Reader r) reply = Reader (after_keep r reply)

-- the call that an agent makes in its next turn, and the agent after the reply to it
abbrev pub next_input : Worker → Input
next_input w = call_of (ready_worker w)

abbrev pub after_turn : Worker → Reply → Worker
after_turn w reply = answered (ready_worker w) reply

-- the calls are the first that this agent makes, each by the replies before, and with the reading 0
abbrev pub AreCallsOf : Worker → History → Type 0
AreCallsOf w [] = Unit {0}
AreCallsOf w (e ∷ es) = (e.now ≡ 0) × (e.input ≡ next_input w) × AreCallsOf (after_turn w e.reply) es

-- the agent after these calls
abbrev pub after_calls : Worker → History → Worker
after_calls w [] = w
after_calls w (e ∷ es) = after_calls (after_turn w e.reply) es
