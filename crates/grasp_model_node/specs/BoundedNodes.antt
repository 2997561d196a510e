-- What is so of every node to which only steps lead: its lists stay within their limits, its sessions are those to which
-- calls of a table lead, and its numbers are its own.
use Rattle.std.specs.Prelude.{◌≡◌, ◌≤◌, ◌<◌, ◌^◌, ◌*◌, ◌%◌, ◌⊎◌, ℕ, length, All, AllPairs}
use Rattle.grasp_asa.specs.Registrations.{IsRegistry}
use Rattle.grasp_discovery.specs.Discoveries.{IsDiscoveries}
use Rattle.grasp_flood.specs.Floods.{IsFloods}
use Rattle.grasp_session.specs.Laws.{IsBounded}
use Rattle.grasp_session.specs.Runs.{Reached, WasMade}
use Rattle.grasp_session.specs.Says.{IsAt}
use Rattle.grasp_session.specs.Sessions.{SessionState}
use Rattle.grasp_session.specs.Transcript.{known, request_of}
use Rattle.grasp_types.specs.declared.reply.Reply.{Reply}
use Rattle.grasp_types.specs.declared.traffic.Input.{Input}
use Rattle.grasp_model_node.specs.Node.{NodeState, first_node}
use Rattle.grasp_model_node.specs.Step.{Coming, NodeStep}
use Rattle.grasp_model_node.specs.Streams.{StreamRecord}
use Rattle.grasp_model_node.specs.declared.plan.NodePlan.{NodePlan}

-- a number of a stream that a peer opened, or of one that this node dialled: it is odd, or below the next even one
abbrev pub IsGiven : ℕ → ℕ → Type 0
IsGiven dialled number = (number % 2 ≡ 1) ⊎ (number < 2 * dialled)

pub record IsBoundedNode (n : NodeState) : Type 0 where
  -- at most 32 agents and 64 objectives, and their numbers
  pub registrations : IsRegistry n.registrations
  -- calls of a table lead to the sessions: so at most 64 are live
  pub sessions : Reached n.sessions
  -- at most 64 searches, 128 entries of 8 locators, and 256 memories
  pub discoveries : IsDiscoveries n.discoveries
  -- at most 128 floods and 256 memories
  pub floods : IsFloods n.floods
  -- at most 64 records, with different numbers
  pub few_records : length n.streams.records ≤ 64
  pub apart : AllPairs (λ (x y : StreamRecord). ¬ (x.number ≡ y.number)) n.streams.records
  pub few_dialled : n.streams.dialled ≤ 2 ^ 62
  -- no record and no live session has the number of a stream that is still to be dialled
  pub records_given : All (λ (x : StreamRecord). IsGiven n.streams.dialled x.number) n.streams.records
  pub sessions_given : (place : ℕ) (x : SessionState) → IsAt n.sessions place x → IsGiven n.streams.dialled x.stream
  -- at most 256 outputs are queued
  pub few_queued : length n.queue ≤ 256

-- a node begins so, and each step leaves it so, whatever its agents and its peers do
abbrev pub NodesAreKept : Type 0
NodesAreKept = ((plan : NodePlan) → IsBoundedNode (first_node plan))
    × ((n after : NodeState) (now : ℕ) (i : Input) (x : Coming) (r : Reply) → IsBoundedNode n → NodeStep n now i x r after → IsBoundedNode after)

-- the steps of a negotiation that a session sent and kept are fewer than its request's loop count, and none where that
-- is 0, whatever the peers send
abbrev pub NodeStepsAreBounded : Type 0
NodeStepsAreBounded = (n : NodeState) → IsBoundedNode n → (x : SessionState) → WasMade n.sessions x → IsBounded (request_of x.view).loops (known x.view)
