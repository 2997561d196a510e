-- A node (RFC 8990, section 2): all that its answers depend on.
use Rattle.std.specs.Prelude.{ℕ, List, []}
use Rattle.grasp_asa.specs.Registrations.{Registrations}
use Rattle.grasp_asa.specs.Answers.{nothing_registered}
use Rattle.grasp_discovery.specs.Discoveries.{Discoveries, no_discoveries}
use Rattle.grasp_flood.specs.Floods.{Floods, no_floods}
use Rattle.grasp_session.specs.Sessions.{Sessions, no_sessions}
use Rattle.grasp_model_node.specs.Queue.{Queued}
use Rattle.grasp_model_node.specs.Streams.{StreamsState, no_streams}
use Rattle.grasp_model_node.specs.declared.plan.NodePlan.{NodePlan}

-- a node's state: its plan; the largest clock reading so far; agents and objectives; sessions; searches, cached locators and
-- remembered discoveries; floods; streams; what is queued; and how many words of its random stream were drawn
pub record NodeState : Type 0 where
  pub plan : NodePlan
  pub reading : ℕ
  pub registrations : Registrations
  pub sessions : Sessions
  pub discoveries : Discoveries
  pub floods : Floods
  pub streams : StreamsState
  pub queue : List Queued
  pub drawn : ℕ

-- nothing has happened yet
abbrev pub first_node : NodePlan → NodeState
first_node plan = record {
  plan = plan;
  reading = 0;
  registrations = nothing_registered;
  sessions = no_sessions;
  discoveries = no_discoveries;
  floods = no_floods;
  streams = no_streams;
  queue = [];
  drawn = 0;
}
