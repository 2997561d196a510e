-- Inside: the doubters of a network, and their opening calls, made one node after the other.
use Rattle.std.specs.Prelude.{◌≡◌, ℕ, ◌+◌, ◌≤◌, List, Some, fold, map}
use Rattle.grasp_doubter.specs.States.{DoubterState, first_doubter}
use Rattle.grasp_types.specs.declared.call.Call.{Call}
use Rattle.grasp_types.specs.declared.reply.ApiAnswer.{ApiAnswer}
use Rattle.grasp_model_network.specs.Events.{Occurs}
use Rattle.grasp_model_network.specs.Plans.{IsGoodPlan}
use Rattle.grasp_model_network.specs.Runs.{IsReached, first_world}
use Rattle.grasp_model_network.specs.Setting.{Setting, numbers_from, script_address, script_setting}
use Rattle.grasp_model_network.specs.World.{Seat, WorldState}
use Rattle.grasp_model_network.specs.declared.plan.WorldPlan.{WorldPlan}
use Rattle.grasp_model_doubts.specs.Openings.{OpeningCall, after_opening, after_opening_call, opening_choice, opening_event}
use Rattle.grasp_model_doubts.specs.World.{present_seat}
use Rattle.grasp_simulator.specs.Contract.{network_of}
use Rattle.grasp_simulator.specs.WorldStands.{WorldStands}
use Rattle.grasp_simulator.specs.declared.world.World.{World}
use Rattle.grasp_doubts.specs.Nodes.{network_at}

-- ---- the nodes, one after the other

-- the code stands for the network of the plan, in which nothing has happened
abbrev pub HasNetwork : WorldPlan → World → Type 0
HasNetwork p world = WorldStands world (network_of p)

-- the network once the doubters of so many members have made their opening calls
abbrev pub opened_to : Setting → ℕ → WorldState
opened_to s count = fold (after_opening s) (first_world s) (numbers_from 1 count)

-- the doubters of so many nodes, which have seen nothing
abbrev pub doubters_to : ℕ → List DoubterState
doubters_to count = map (λ k. first_doubter (script_address k)) (numbers_from 1 count)

-- the code stands for the network of the plan once the doubters of so many members have made their opening calls, and these are the doubters
pub record AreOpenedTo (p : WorldPlan) (count : ℕ) (world : World) (doubters : List DoubterState) : Type 0 where
  pub stands : WorldStands world (network_at (script_setting p) (opened_to (script_setting p) count))
  pub doubters_are : doubters ≡ doubters_to count

-- so it is of all of them
abbrev pub AreOpened : WorldPlan → World → List DoubterState → Type 0
AreOpened p world doubters = AreOpenedTo p p.nodes world doubters

-- ---- the calls of one node

-- the code stands for the network of a good plan, in which the doubters of so many members have made their opening calls, and there is a next node
pub record OpensNext (world : World) (p : WorldPlan) (count node : ℕ) : Type 0 where
  pub good : IsGoodPlan p
  pub stands : WorldStands world (network_at (script_setting p) (opened_to (script_setting p) count))
  pub next : node ≡ count + 1
  pub there : node ≤ p.nodes

pub record CanOpen (world : World) (node : ℕ) : Type 0 where
  pub plan : WorldPlan
  pub count : ℕ
  pub opens : OpensNext world plan count node

-- the code stands for the network once that node's doubter has made its opening calls too
abbrev pub OpensCalls : World → World → ℕ → Type 0
OpensCalls before after node = (p : WorldPlan) (count : ℕ) → OpensNext before p count node → WorldStands after (network_at (script_setting p) (opened_to (script_setting p) node))

-- ---- one of them

-- the code stands for a network to which turns lead, in which the call comes out with this answer
pub record MayCall (world : World) (s : Setting) (w : WorldState) (node : ℕ) (seat : Seat) (o : OpeningCall) : Type 0 where
  pub reached : IsReached s w
  pub stands : WorldStands world (network_at s w)
  pub here : present_seat w node ≡ Some seat
  pub occurs : Occurs s w (opening_event node o) (opening_choice seat o)

abbrev pub call_with : ℕ → Call → ApiAnswer → OpeningCall
call_with asa call answer = record { asa = asa; call = call; answer = answer }

pub record CanCall (world : World) (node asa : ℕ) (call : Call) : Type 0 where
  pub setting : Setting
  pub network : WorldState
  pub seat : Seat
  pub answer : ApiAnswer
  pub may : MayCall world setting network node seat (call_with asa call answer)

-- the code stands for the network after the call
abbrev pub MakesOpeningCall : World → World → ℕ → ℕ → Call → Type 0
MakesOpeningCall before after node asa call =
    (s : Setting) (w : WorldState) (seat : Seat) (answer : ApiAnswer) → MayCall before s w node seat (call_with asa call answer)
    → WorldStands after (network_at s (after_opening_call s node w (call_with asa call answer)))
