-- Calls of the agent of prefixes at a node, of which the node's doubter is told.
use Rattle.std.proofs.Common.{◌≡◌, sym, ◌∙◌, ap, ℕ, Bool, Option, Some, Ok, Err}
use Rattle.grasp_agent.specs.Calls.{next_call}
use Rattle.grasp_agent.specs.States.{AgentState}
use Rattle.grasp_doubter.specs.States.{DoubterState}
use Rattle.grasp_model_network.specs.Events.{after_event}
use Rattle.grasp_model_network.specs.Setting.{Setting}
use Rattle.grasp_model_network.specs.World.{Seat, WorldState}
use Rattle.grasp_model_network.specs.declared.event.Event.{Event}
use Rattle.grasp_model_network.specs.declared.event.Event.TheVariants as event
use Rattle.grasp_model_network.specs.declared.report.Report.{Report}
use Rattle.grasp_model_network.specs.declared.report.Report.TheVariants as report
use Rattle.grasp_model_network.specs.declared.report.WorldStop.{WorldStop}
use Rattle.grasp_model_doubts.specs.Steps.{after_plain, having_seen, seeing}
use Rattle.grasp_model_doubts.specs.World.{DoubtState, present_seat, with_doubter}
use Rattle.grasp_model_script_doubts.proofs.OneEvent.{agent_reported}
use Rattle.grasp_simulator.specs.Contract.{Reported}
use Rattle.grasp_simulator.specs.WorldStands.{HasNode, LendsAgent, WorldStands}
use Rattle.grasp_simulator.specs.WorldSteps.{IsAsked, Stepped}
use Rattle.grasp_simulator.specs.declared.world.World.{World}
use Rattle.grasp_doubts.specs.Nodes.{CallSeen, HasDoubter, NodeGoes, SeesCall, after_report, network_at}
use Rattle.grasp_doubts.proofs.Lending.{has_node, is_asked, is_lent, meets, there}

module _ (before after : World) (old new : DoubterState) (node : ℕ) (hold : Bool) where
  abbrev e : Event
  e = event.Agent node hold

  pub agent_asked : HasDoubter before old node → IsAsked before (event.Agent node hold)
  agent_asked has = is_asked before has.setting has.state.world e has.goes.stands has.goes.member

  module _ (s : Setting) (x : DoubtState) (g : NodeGoes before old s x node) (told : Report) (steps : Stepped before after (event.Agent node hold) (Ok told)) where
    pub agent_step : Reported (WorldStands after) s x.world (event.Agent node hold) told
    agent_step = steps (network_at s x.world) (meets before s x.world e g.stands g.member)

    abbrev w : WorldState
    w = after_event s x.world e agent_step.choice

    pub agent_node : HasNode after node
    agent_node = has_node after s w node agent_step.stands g.member

    module _ (agent : AgentState) (lends : LendsAgent after node agent) (sees : new ≡ after_report old agent.pool told) where
      first : (seat : Seat) × (present_seat x.world node ≡ Some seat)
      first = there before s x.world node g.stands g.member

      then : (seat : Seat) × (present_seat w node ≡ Some seat)
      then = there after s w node agent_step.stands g.member

      told_is : told ≡ report.Agent (next_call first.0.agent) agent_step.choice.reply
      told_is = agent_step.report_is ∙ agent_reported s x.world node first.0 first.1 hold agent_step.choice

      new_is : new ≡ seeing old (present_seat x.world node) (present_seat w node) agent_step.choice
      new_is =
          sees
          ∙ ap (λ (r : Report). after_report old agent.pool r) told_is
          ∙ ap (λ (a : AgentState). after_report old a.pool (report.Agent (next_call first.0.agent) agent_step.choice.reply)) (is_lent after s w node agent_step.stands g.member then.0 then.1 agent lends)
          ∙ sym (ap (λ (o : Option Seat). seeing old o (present_seat w node) agent_step.choice) first.1 ∙ ap (λ (o : Option Seat). seeing old (Some first.0) o agent_step.choice) then.1)

      doubters_are : (after_plain s x (event.Agent node hold) agent_step.choice).doubters ≡ with_doubter x.doubters node new
      unfolding after_plain
      doubters_are =
          ap (λ (o : Option DoubterState). having_seen x node agent_step.choice w o) g.here ∙ ap (λ (d : DoubterState). with_doubter x.doubters node d) (sym new_is)

      call_seen : CallSeen after new s x node hold told
      call_seen = record { choice = agent_step.choice; occurs = agent_step.occurs; report_is = agent_step.report_is; stands = agent_step.stands; doubters = doubters_are }

  pub node_then : HasDoubter before old node → (told : Report) → Stepped before after (event.Agent node hold) (Ok told) → HasNode after node
  node_then has told steps = agent_node has.setting has.state has.goes told steps

  pub sees_call : (told : Report) → Stepped before after (event.Agent node hold) (Ok told) → (agent : AgentState) → LendsAgent after node agent → new ≡ after_report old agent.pool told
      → SeesCall before after old new node hold (Ok told)
  sees_call told steps agent lends sees s x g = call_seen s x g told steps agent lends sees

  pub agent_stops : (why : WorldStop) → Stepped before after (event.Agent node hold) (Err why) → SeesCall before after old new node hold (Err why)
  agent_stops why steps s x g = (steps (network_at s x.world) (meets before s x.world e g.stands g.member)).may_stop
