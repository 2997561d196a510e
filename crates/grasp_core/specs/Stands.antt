-- How the code stands for a node: what it keeps of each part.
use Rattle.std.specs.Prelude.{◌≡◌, ℕ, ◌+◌, ◌%◌, ◌^◌, List, map, Option, None, Some}
use Rattle.std.specs.List.{AllZip}
use Rattle.rand_chacha.specs.ChaCha.{ChaCha, key_of, word_at}
use Rattle.grasp_session.specs.Stands as session
use Rattle.grasp_types.specs.declared.traffic.Output.{Output}
use Rattle.grasp_wire.specs.Cutter.{Past}
use Rattle.grasp_wire.specs.Stands as cutter
use Rattle.grasp_wire.specs.declared.cutter.Cutter.{Cutter}
use Rattle.grasp_model_node.specs.Node.{NodeState}
use Rattle.grasp_model_node.specs.Queue.{Queued, output_of, all_ways}
use Rattle.grasp_model_node.specs.Streams.{StreamRecord, StreamsState, closing}
use Rattle.grasp_core.specs.declared.draws.Draws.{Draws}
use Rattle.grasp_core.specs.declared.node_core.NodeCore.{NodeCore}
use Rattle.grasp_core.specs.declared.streams.Stream.{Stream}
use Rattle.grasp_core.specs.declared.streams.Streams.{Streams}

-- ---- streams

-- the cutter saw this, and has no fault
pub record CutsOpen (limit : ℕ) (c : Cutter) (past : Past) : Type 0 where
  pub stands : cutter.Stands c past
  pub limit_is : cutter.cut_limit c ≡ limit
  pub no_fault : past.fault ≡ None

-- a stream has a cutter exactly until it begins closing
abbrev pub CutsAs : ℕ → Option Cutter → Option Past → Type 0
CutsAs limit None None = Unit {0}
CutsAs limit None (Some past) = ⊥
CutsAs limit (Some c) None = ⊥
CutsAs limit (Some c) (Some past) = CutsOpen limit c past

pub record StreamStands (limit : ℕ) (s : Stream) (x : StreamRecord) : Type 0 where
  pub number : s.number ≡ x.number
  pub from : s.from ≡ x.from
  pub cuts : CutsAs limit s.cutter x.past

pub record StreamsStand (streams : Streams) (s : StreamsState) : Type 0 where
  pub held : AllZip (StreamStands streams.limit) streams.held.items s.records
  pub dialled : streams.dialled ≡ s.dialled

-- Inside: the stream whose past was taken out counts as closing
abbrev pub after_take : StreamsState → ℕ → Option Past → StreamsState
after_take s stream None = s
after_take s stream (Some past) = closing s stream

-- streams, and the past of the one whose cutter is put back
pub record Putting : Type 0 where
  pub streams : StreamsState
  pub past : Past

-- ---- the queue

pub record QueueStands (outputs : List Output) (queue : List Queued) : Type 0 where
  pub outputs_are : outputs ≡ map output_of queue

-- ---- the random words

-- the generator behind the first words, of which so many were drawn and one more is kept
abbrev pub words_after : List ℕ → ℕ → ChaCha
words_after seed drawn = record { key = key_of seed; stream = 0; word_pos = (drawn + 1) % 2 ^ 68 }

pub record DrawsStand (draws : Draws) (seed : List ℕ) (drawn : ℕ) : Type 0 where
  pub next : draws.next ≡ word_at 10 (key_of seed) 0 (drawn % 2 ^ 68)
  pub words : draws.words ≡ words_after seed drawn

-- a seed, and how many words of it were drawn
pub record Drawing : Type 0 where
  pub seed : List ℕ
  pub drawn : ℕ

-- ---- a node

-- the code keeps what it needs of this node
pub record NodeStands (core : NodeCore) (n : NodeState) : Type 0 where
  pub plan : core.plan ≡ n.plan
  pub ways : core.ways.items ≡ all_ways n.plan.links
  pub limit : core.streams.limit ≡ n.plan.limit
  pub reading : core.reading ≡ n.reading
  pub registrations : core.registry ≡ n.registrations
  pub sessions : session.Stands core.table n.sessions
  pub discoveries : core.discovery ≡ n.discoveries
  pub floods : core.floods ≡ n.floods
  pub streams : StreamsStand core.streams n.streams
  pub queue : QueueStands core.queue n.queue
  pub draws : DrawsStand core.draws n.plan.seed n.drawn
