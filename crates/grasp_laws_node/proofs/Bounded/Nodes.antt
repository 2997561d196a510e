-- Each step leaves a node's lists within their limits.
use Rattle.std.proofs.Common.{ℕ, arith}
use Rattle.grasp_laws_tables.proofs.LawKept.{registry_kept}
use Rattle.grasp_discovery.proofs.Soundness as discoveries
use Rattle.grasp_flood.proofs.Soundness as floods
use Rattle.grasp_laws_session.proofs.Made.{none_reached}
use Rattle.grasp_laws_session.proofs.Runs.{none_live}
use Rattle.grasp_types.specs.declared.reply.Reply.{Reply}
use Rattle.grasp_types.specs.declared.traffic.Input.{Input}
use Rattle.grasp_types.specs.declared.traffic.Input.TheVariants as input
use Rattle.grasp_model_node.specs.Begin.{expired, begin}
use Rattle.grasp_model_node.specs.BoundedNodes.{IsBoundedNode, IsGiven, NodesAreKept}
use Rattle.grasp_model_node.specs.Node.{NodeState, first_node}
use Rattle.grasp_model_node.specs.Step.{Coming, IsComing, Acts}
use Rattle.grasp_model_node.specs.declared.plan.NodePlan.{NodePlan}
use Rattle.grasp_laws_node.proofs.Bounded.Bytes.{added_are, record_given, given_by, moves_from}
use Rattle.grasp_laws_node.proofs.Walk.Declines.{SpeakOn}
use Rattle.grasp_laws_node.proofs.Walk.Moves.{begins, still}
use Rattle.grasp_laws_node.proofs.Walk.Steps.{expired_moves, begin_moves, turn_of, Tells, acts_moves}

-- ---- a node begins so

first_kept : (plan : NodePlan) → IsBoundedNode (first_node plan)
first_kept plan = record {
  registrations = registry_kept.first;
  sessions = none_reached;
  discoveries = discoveries.sound_none;
  floods = floods.sound_none;
  few_records = omega arith;
  apart = λ i j d h k. absurd (omega (arith, k));
  few_dialled = omega arith;
  records_given = λ i d h. absurd (omega (arith, h));
  sessions_given = λ place x at. absurd (none_live 64 place x at);
  few_queued = omega arith;
}

-- ---- the beginning of a step

pub expired_kept : (count : ℕ) (n : NodeState) → IsBoundedNode n → IsBoundedNode (expired count n)
expired_kept count n k = (moves_from n begins (expired count n) (expired_moves (given_by n.streams.dialled) n n count n still) k).0

pub begin_kept : (n : NodeState) (now : ℕ) → IsBoundedNode n → IsBoundedNode (begin n now)
begin_kept n now k = (moves_from n begins (begin n now) (begin_moves (given_by n.streams.dialled) n n now) k).0

-- ---- a step

-- the streams of sessions have numbers that are given
sessions_on : (n : NodeState) → IsBoundedNode n → SpeakOn (IsGiven n.streams.dialled) n.sessions
sessions_on n k = record { going = λ place x at goes. k.sessions_given place x at; untaken = λ place x at own. k.sessions_given place x at }

tells : (n after : NodeState) (i : Input) (x : Coming) (r : Reply) → IsBoundedNode n → Tells (given_by n.streams.dialled) n i x r after
tells n after (input.Api asa call) x r k = record { speak = sessions_on n k; say = λ saying is. tt; dials = λ more. tt }
tells n after (input.Datagram link from bytes) x r k = tt
tells n after (input.Opened stream from) x r k = λ taken. tt
tells n after (input.Bytes stream bytes) x r k = λ past e adds. record { stream_so = record_given n stream past k e; messages = added_are n.plan.limit past bytes x.added adds; past_so = λ waits. tt }
tells n after (input.Closed stream) x r k = tt
tells n after (input.Drain max) x r k = tt

pub acts_kept : (n after : NodeState) (i : Input) (x : Coming) (r : Reply) → IsBoundedNode n → IsComing n i x → Acts n i x r after → IsBoundedNode after
acts_kept n after i x r k c a = (moves_from n (turn_of i) after (acts_moves (given_by n.streams.dialled) n after i x r c (tells n after i x r k) a) k).0

pub nodes_kept : NodesAreKept
nodes_kept = (first_kept, λ n after now i x r k s. acts_kept (begin n now) after i x r (begin_kept n now k) s.is_coming s.acts)
