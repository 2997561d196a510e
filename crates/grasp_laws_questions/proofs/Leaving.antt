-- A session of an agent of prefixes leaves by the agent's poll.
use Rattle.std.proofs.Common.{arith, subst}
use Rattle.grasp_agent.specs.Calls.{next_call, objective_name}
use Rattle.grasp_laws_agents.proofs.Serving as serving
use Rattle.grasp_laws_agents.proofs.Serving.{next_serving}
use Rattle.grasp_laws_agents.specs.Laws.{AgentsServe}
use Rattle.grasp_laws_agents.specs.Serving.{Serves}
use Rattle.grasp_laws_network.specs.Nodes.{NodesAreSound}
use Rattle.grasp_laws_owned.specs.Laws.{OwnersLeaveByPolls}
use Rattle.grasp_laws_owned.specs.Serving.{IsServing}
use Rattle.grasp_laws_questions.specs.Leaving.{AgentsLeaveByPolls}
use Rattle.grasp_model_node.specs.Step.{NodeStep}
use Rattle.grasp_types.specs.declared.call.Call.{Call}
use Rattle.grasp_types.specs.declared.call.Call.TheVariants as call
use Rattle.grasp_types.specs.declared.traffic.Input.TheVariants as input

-- the calls of an agent of prefixes that serves are those for PrefixManager
serving_so : (c : Call) → serving.IsServing c → IsServing objective_name c
serving_so (call.RequestNegotiate name value loops timeout dry peer) s = s
serving_so (call.ListenNegotiate name) s = s
serving_so (call.NegotiateStep handle value) s = tt
serving_so (call.EndNegotiate handle verdict) s = tt
serving_so (call.Poll handle) s = tt
serving_so _ s = absurd s

pub agents_leave_by_polls : AgentsServe → NodesAreSound → OwnersLeaveByPolls → AgentsLeaveByPolls
agents_leave_by_polls serves sound leave s w r node seat here now x reply after step =
    let k : Serves seat.core seat.agent = serves s w r node seat here in
    leave 1 objective_name seat.core after now (next_call seat.agent) x reply (omega arith) (sound.sound s w r node seat here) (serving_so (next_call seat.agent) (next_serving seat.agent k.stage))
    (subst (λ asa. NodeStep seat.core now (input.Api asa (next_call seat.agent)) x reply after) k.number step)
