-- What a request changes, by its parts.
use Rattle.std.proofs.Common.{◌≡◌, ℕ, ◌+◌, [], ◌∷◌, ◌++◌, Some, Result, refl, ◌∙◌}
use Rattle.grasp_session.specs.Sessions.{start_reply, after_start}
use Rattle.grasp_session.specs.Stands as session
use Rattle.grasp_session.specs.declared.answer.SessionRefused.{SessionRefused}
use Rattle.grasp_session.specs.declared.begin.Begin.{Begin}
use Rattle.grasp_session.specs.declared.table.Table.{Table}
use Rattle.grasp_types.specs.declared.address.Locator.{Locator}
use Rattle.grasp_types.specs.declared.message.Message.{Message}
use Rattle.grasp_types.specs.declared.objective.Objective.{Objective}
use Rattle.grasp_types.specs.declared.session.Handle.{Handle}
use Rattle.grasp_types.specs.declared.session.Kind.{Kind}
use Rattle.grasp_types.specs.declared.session.Kind.TheVariants.{Negotiation, Synchronization}
use Rattle.grasp_wire.specs.Cutter.{no_past}
use Rattle.grasp_model_node.specs.Draws.{next_session}
use Rattle.grasp_model_node.specs.Moves.{with_sessions, with_draw, dial_record, queue_up}
use Rattle.grasp_model_node.specs.Node.{NodeState}
use Rattle.grasp_core.specs.Outgoing.{asked, dialled}
use Rattle.grasp_model_node.specs.Queue.{send, dial}
use Rattle.grasp_model_node.specs.SessionCalls.{request_of, requested}
use Rattle.grasp_core.specs.Stands.{NodeStands, StreamsStand, QueueStands, DrawsStand}
use Rattle.grasp_model_node.specs.Streams.{next_stream, with_dialled}
use Rattle.grasp_core.specs.declared.draws.Draws.{Draws}
use Rattle.grasp_core.specs.declared.node_core.NodeCore.{NodeCore}
use Rattle.grasp_core.specs.declared.queue.Queue.{Queue}
use Rattle.grasp_core.specs.declared.streams.Streams.{Streams}

-- the code once it has dialled
abbrev pub core_with : NodeCore → Table → Streams → Queue → Draws → NodeCore
core_with core table streams queue draws = record core { table = table; streams = streams; queue = queue; draws = draws }

-- the code that has dialled stands for the node that has dialled
pub dialled_stands : (core : NodeCore) (n : NodeState) (asa timeout stream : ℕ) (peer : Locator) (m : Message) (begin : Begin) (r : Result Handle SessionRefused) (table : Table) (streams : Streams) (queue : Queue) (draws : Draws)
    → NodeStands core n
    → stream ≡ next_stream n.streams
    → begin ≡ asked asa timeout stream m
    → (r ≡ start_reply n.sessions) × session.Stands table (after_start n.sessions core.reading begin r)
    → StreamsStand streams (with_dialled n.streams (Some no_past))
    → streams.limit ≡ core.streams.limit
    → QueueStands queue (n.queue ++ dial stream peer ∷ send stream m ∷ [])
    → DrawsStand draws n.plan.seed (n.drawn + 1)
    → NodeStands (core_with core table streams queue draws) (dialled n asa timeout peer m)
unfolding with_sessions with_draw dial_record queue_up
dialled_stands core n asa timeout stream peer m begin r table streams queue draws h e b s st l q d = record {
  plan = h.plan;
  ways = h.ways;
  limit = l ∙ h.limit;
  reading = h.reading;
  registrations = h.registrations;
  sessions = rw (h.reading, b, e, s.0) at s.1;
  discoveries = h.discoveries;
  floods = h.floods;
  streams = st;
  queue = rw e at q;
  draws = d;
}

-- a request of each kind
pub requested_is : (n : NodeState) (asa : ℕ) (kind : Kind) (timeout : ℕ) (o : Objective) (peer : Locator) → dialled n asa timeout peer (request_of kind (next_session n) o) ≡ requested n asa kind timeout o peer
requested_is n asa Negotiation timeout o peer = refl
requested_is n asa Synchronization timeout o peer = refl
