-- The opening of a node: the agent that manages prefixes makes its three opening calls (RFC 8992, section 4) before all else.
use Rattle.std.specs.Prelude.{ℕ, [], ◌∷◌}
use Rattle.grasp_agent.specs.Calls.{agent_name, objective_name}
use Rattle.grasp_agent.specs.States.{AgentState, first_agent}
use Rattle.grasp_agent.specs.declared.stage.Stage.TheVariants.{Serving}
use Rattle.grasp_pool.specs.Holdings.{Holding}
use Rattle.grasp_shared.specs.History.{Entry, History}
use Rattle.grasp_types.specs.declared.call.Call.{Call}
use Rattle.grasp_types.specs.declared.call.Call.TheVariants as call
use Rattle.grasp_types.specs.declared.reply.ApiAnswer.{ApiAnswer}
use Rattle.grasp_types.specs.declared.reply.ApiAnswer.TheVariants as answer
use Rattle.grasp_types.specs.declared.reply.Reply.TheVariants as reply
use Rattle.grasp_types.specs.declared.traffic.Input.TheVariants as input

-- a call of the first agent, under this number, at the reading 0, with its answer
abbrev pub opening_entry : ℕ → Call → ApiAnswer → Entry
opening_entry asa c a = record { caller = 1; now = 0; input = input.Api asa c; reply = reply.Api a }

-- the opening calls: the agent is agent 1, its objective is registered, and nothing has come for it yet
abbrev pub openings : History
openings =
    opening_entry 0 (call.RegisterAsa agent_name) (answer.Asa 1)
    ∷ opening_entry 1 (call.RegisterObjective objective_name 3) answer.Done
    ∷ opening_entry 1 (call.ListenNegotiate objective_name) answer.NotYet
    ∷ []

-- the agent after them
abbrev pub opened_agent : Holding → AgentState
opened_agent pool = record (first_agent pool) { asa = 1; stage = Serving }
