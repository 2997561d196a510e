-- In the first network of a setting nothing was flooded, and a life begins with nothing of a flood.
use Rattle.std.proofs.Common.{◌≡◌, refl, subst, ℕ, ◌-◌, ◌==◌, Bool, true, false, cond, List, [], Some, None, map, slice_get}
use Rattle.std.proofs.lemmas.List.Elements.{All-nil}
use Rattle.std.proofs.lemmas.Option.{none-some}
use Rattle.grasp_model_node.specs.Begin.{begin}
use Rattle.grasp_model_node.specs.Node.{first_node}
use Rattle.grasp_model_node.specs.Step.{NodeStep}
use Rattle.grasp_laws_network.proofs.EachNode.{IsMade, is_made}
use Rattle.grasp_laws_network.proofs.Openings.{worlds_begin}
use Rattle.grasp_model_network.specs.EventSteps.{agent_input}
use Rattle.grasp_laws_network.specs.Laws.{OpeningsAreSteps}
use Rattle.grasp_laws_network.specs.Nodes.{OfEachNode}
use Rattle.grasp_model_network.specs.Runs.{first_world}
use Rattle.grasp_model_network.specs.Openings.{first_seat, opened_seat, fresh_seat, answered_seat}
use Rattle.grasp_model_network.specs.Setting.{Member, Setting, numbered}
use Rattle.grasp_model_network.specs.Visits.{no_choice}
use Rattle.grasp_model_network.specs.World.{Seat, FloodCall}
use Rattle.grasp_pool.specs.Functions.{pool_of}
use Rattle.grasp_pool.specs.Holdings.{Holding}
use Rattle.grasp_agent.specs.Calls.{next_call}
use Rattle.grasp_types.specs.declared.reply.ApiAnswer.{ApiAnswer}
use Rattle.grasp_types.specs.declared.reply.ApiAnswer.TheVariants as answer
use Rattle.grasp_types.specs.declared.reply.Reply.TheVariants as reply
use Rattle.grasp_laws_floods.proofs.AgentCalls.{agent_calls}
use Rattle.grasp_laws_floods.proofs.Inputs.{agent_made}
use Rattle.grasp_laws_floods.proofs.Made.{EntryMade, QueuedMade, ReadMade}
use Rattle.grasp_laws_floods.proofs.Nodes.{NodeMade, step_made}
use Rattle.grasp_laws_floods.proofs.Registries.{HasFlags}
use Rattle.grasp_laws_floods.proofs.Worlds.{SentMade, WorldMade}

-- ---- a life that begins

fresh_made : (ms : List Member) (calls : List FloodCall) (node : ℕ) (m : Member) → numbered ms node ≡ Some m → NodeMade ms calls node (first_node m.plan)
fresh_made ms calls node m found = record {
  tables = record { entries = All-nil (EntryMade ms calls); flags = All-nil HasFlags };
  queue = All-nil (QueuedMade ms calls);
  member = m;
  found = found;
  plan = refl;
}

-- the next call of its agent leaves it so
answered_made : (ms : List Member) (calls : List FloodCall) (node : ℕ) (seat : Seat) (a : ApiAnswer)
    → NodeStep seat.core 0 (agent_input seat.agent) no_choice.coming (reply.Api a) (answered_seat seat a).core → NodeMade ms calls node seat.core → NodeMade ms calls node (answered_seat seat a).core
answered_made ms calls node seat a step k =
    step_made ms calls node seat.core (answered_seat seat a).core 0 (agent_input seat.agent) no_choice.coming (reply.Api a) step
    (agent_made ms calls (begin seat.core 0) seat.agent.asa (next_call seat.agent) no_choice.coming (reply.Api a) (agent_calls seat.agent)) k

pub opened_made : (ms : List Member) (calls : List FloodCall) (node : ℕ) (m : Member) (h : Holding) → numbered ms node ≡ Some m → NodeMade ms calls node (opened_seat m.plan h).core
unfolding opened_seat
opened_made ms calls node m h found = opened (worlds_begin m.plan h no_choice.coming) where
  registered : Seat
  registered = answered_seat (fresh_seat m.plan h) (answer.Asa 1)

  declared : Seat
  declared = answered_seat registered answer.Done

  opened : OpeningsAreSteps m.plan h no_choice.coming → NodeMade ms calls node (answered_seat declared answer.NotYet).core
  opened o =
      answered_made ms calls node declared answer.NotYet o.listens
      (answered_made ms calls node registered answer.Done o.declares
      (answered_made ms calls node (fresh_seat m.plan h) (answer.Asa 1) o.registers (fresh_made ms calls node m found)))

-- ---- the first network

first_nodes : (s : Setting) → OfEachNode (NodeMade s.members []) (first_world s)
unfolding first_world
first_nodes s node seat found = by_zero (node == 0) refl where
  by_member : (node == 0) ≡ false → IsMade first_seat s.members (node - 1) seat → NodeMade s.members [] node seat.core
  by_member is m = subst (λ (x : Seat). NodeMade s.members [] node x.core) m.made (opened_made s.members [] node m.of (pool_of m.of.roots) (rw is m.stands))

  by_zero : (b : Bool) → (node == 0) ≡ b → NodeMade s.members [] node seat.core
  by_zero true is = absurd (none-some seat (subst (λ z. cond z None (slice_get (map first_seat s.members) (node - 1)) ≡ Some seat) is found))
  by_zero false is =
      by_member is
      (is_made first_seat s.members (node - 1) seat (subst (λ z. cond z None (slice_get (map first_seat s.members) (node - 1)) ≡ Some seat) is found))

pub first_world_made : (s : Setting) → WorldMade s.members (first_world s).flood_calls (first_world s)
unfolding first_world
first_world_made s = record { nodes = first_nodes s; sent = All-nil (SentMade s.members []); read = All-nil (ReadMade s.members []) }
