-- A node at the beginning of a life: nothing has happened in it, and its agent makes its opening calls (RFC 8992, section 4).
use Rattle.std.specs.Prelude.{List, [], ◌∷◌, Ok, fold}
use Rattle.grasp_agent.specs.Calls.{next_call}
use Rattle.grasp_agent.specs.Replies.{after_reply}
use Rattle.grasp_agent.specs.States.{first_agent}
use Rattle.grasp_model_node.specs.Begin.{begin}
use Rattle.grasp_model_node.specs.Node.{first_node}
use Rattle.grasp_model_node.specs.Step.{after_call}
use Rattle.grasp_model_node.specs.declared.plan.NodePlan.{NodePlan}
use Rattle.grasp_pool.specs.Functions.{pool_of}
use Rattle.grasp_pool.specs.Holdings.{Holding}
use Rattle.grasp_types.specs.declared.reply.ApiAnswer.{ApiAnswer}
use Rattle.grasp_types.specs.declared.reply.ApiAnswer.TheVariants as answer
use Rattle.grasp_types.specs.declared.reply.Reply.TheVariants as reply
use Rattle.grasp_model_network.specs.Sending.{seat_with}
use Rattle.grasp_model_network.specs.Setting.{Member}
use Rattle.grasp_model_network.specs.World.{Seat}

-- a node in which nothing has happened, and an agent that has made no call and has this pool
abbrev pub fresh_seat : NodePlan → Holding → Seat
fresh_seat plan h = record { core = first_node plan; agent = first_agent h }

-- the agent has made its next call, at reading 0, and this was answered
unfoldable pub answered_seat : Seat → ApiAnswer → Seat
answered_seat seat a = seat_with (after_call (begin seat.core 0) seat.agent.asa (next_call seat.agent) (Ok a)) (after_reply seat.agent (reply.Api a))

-- what the opening calls of an agent are answered: it is agent 1, its objective is registered, and nothing has come yet
abbrev pub opening_answers : List ApiAnswer
opening_answers = answer.Asa 1 ∷ answer.Done ∷ answer.NotYet ∷ []

-- a life that begins: a node whose agent has this pool and has made its opening calls
unfoldable pub opened_seat : NodePlan → Holding → Seat
opened_seat plan h = fold answered_seat (fresh_seat plan h) opening_answers

-- a member's first life begins with the pool of its roots
abbrev pub first_seat : Member → Seat
first_seat m = opened_seat m.plan (pool_of m.roots)
