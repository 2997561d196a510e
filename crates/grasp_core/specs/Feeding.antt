-- Inside: how the messages of a piece are heard one after the other, and how that leaves the stream.
use Rattle.std.specs.Prelude.{◌≡◌, ◌+◌, ◌≤◌, ◌<◌, ℕ, true, false, List, ◌++◌, length, Option, Some, None}
use Rattle.grasp_types.specs.declared.message.Message.{Message}
use Rattle.grasp_wire.specs.Cutter.{Past, after_feed}
use Rattle.grasp_wire.specs.Stream.{Divides}
use Rattle.grasp_wire.specs.declared.cutter.Cutter.{Cutter}
use Rattle.grasp_model_node.specs.Bytes.{Added, hear_all, heard, most_bytes}
use Rattle.grasp_model_node.specs.Hear.{Heard, stays}
use Rattle.grasp_model_node.specs.Moves.{begin_closing}
use Rattle.grasp_model_node.specs.Node.{NodeState}
use Rattle.grasp_core.specs.Stands.{CutsOpen, NodeStands}
use Rattle.grasp_core.specs.declared.feeding.Ending.{Ending}
use Rattle.grasp_core.specs.declared.feeding.Ending.TheVariants as ending
use Rattle.grasp_core.specs.declared.feeding.Left.{Left}
use Rattle.grasp_core.specs.declared.feeding.Left.TheVariants as left
use Rattle.grasp_core.specs.declared.node_core.NodeCore.{NodeCore}

-- a node on which a stream counts as closing, what came on the stream, and what is added to it
pub record Feeding : Type 0 where
  pub node : NodeState
  pub past : Past
  pub added : Added

-- after these messages were given, too
abbrev pub having_given : Past → List Message → Past
having_given past ms = record past { given = past.given ++ ms }

-- what was fed divides so
abbrev pub DividesSo : Feeding → Type 0
DividesSo f = Divides f.past.fed f.node.plan.limit (f.past.given ++ f.added.messages) f.added.rest f.added.kind

-- ---- the messages

-- the messages were fed, and none of them was heard yet
pub record Hears (core : NodeCore) (c : Cutter) (f : Feeding) : Type 0 where
  pub stands : NodeStands core f.node
  pub cuts : CutsOpen f.node.plan.limit c f.past
  pub divides : DividesSo f

-- after these messages were heard
abbrev pub after_some : ℕ → Feeding → List Message → Heard
after_some stream f ms = hear_all stream ms (stays f.node)

-- after all messages were heard, and then a fault of the rest
abbrev pub after_all : ℕ → Feeding → Heard
after_all stream f = heard f.node stream f.added

-- some messages were heard, the others weren't given yet, and the stream is open
pub record HasHeard (stream : ℕ) (f : Feeding) (core : NodeCore) (c : Cutter) : Type 0 where
  pub some : List Message
  pub others : List Message
  pub parts : f.added.messages ≡ some ++ others
  pub opens : (after_some stream f some).is_open ≡ true
  pub stands : NodeStands core (after_some stream f some).node
  pub cuts : CutsOpen f.node.plan.limit c (having_given f.past some)
  pub divides : DividesSo f

-- all was heard, and the stream is open
pub record StaysOpen (stream : ℕ) (f : Feeding) (core : NodeCore) (c : Cutter) : Type 0 where
  pub opens : (after_all stream f).is_open ≡ true
  pub stands : NodeStands core (after_all stream f).node
  pub cuts : CutsOpen f.node.plan.limit c (having_given f.past f.added.messages)

-- all was heard, and the stream is closing
pub record IsShut (stream : ℕ) (f : Feeding) (core : NodeCore) : Type 0 where
  pub opens : (after_all stream f).is_open ≡ false
  pub stands : NodeStands core (after_all stream f).node

-- some messages were heard, and then memory was wanted
pub record HeardSome (stream : ℕ) (f : Feeding) (core : NodeCore) : Type 0 where
  pub some : List Message
  pub others : List Message
  pub parts : f.added.messages ≡ some ++ others
  pub opens : (after_some stream f some).is_open ≡ true
  pub stands : NodeStands core (after_some stream f some).node

abbrev pub Ended : ℕ → Feeding → NodeCore → Cutter → Ending → Type 0
Ended stream f core c ending.Open = StaysOpen stream f core c
Ended stream f core c ending.Shut = IsShut stream f core
Ended stream f core c ending.Starved = HeardSome stream f core

-- one more was heard, or all is over
abbrev pub AfterNext : ℕ → Feeding → NodeCore → Cutter → Option Ending → Type 0
AfterNext stream f core c None = HasHeard stream f core c
AfterNext stream f core c (Some e) = Ended stream f core c e

-- ---- the piece

-- the piece wasn't fed yet
pub record Feeds (core : NodeCore) (c : Cutter) (piece : List ℕ) (f : Feeding) : Type 0 where
  pub stands : NodeStands core f.node
  pub cuts : CutsOpen f.node.plan.limit c f.past
  pub divides : Divides (f.past.fed ++ piece) f.node.plan.limit (f.past.given ++ f.added.messages) f.added.rest f.added.kind

-- the piece is fed
abbrev pub with_piece : List ℕ → Feeding → Feeding
with_piece piece f = record f { past = after_feed f.past piece }

-- the stream has room for the piece
abbrev pub HasRoom : List ℕ → Feeding → Type 0
HasRoom piece f = length f.past.fed + length piece ≤ most_bytes

pub record LeftOpen (stream : ℕ) (piece : List ℕ) (f : Feeding) (core : NodeCore) (c : Cutter) : Type 0 where
  pub room : HasRoom piece f
  pub then : StaysOpen stream (with_piece piece f) core c

pub record LeftShut (stream : ℕ) (piece : List ℕ) (f : Feeding) (core : NodeCore) : Type 0 where
  pub room : HasRoom piece f
  pub then : IsShut stream (with_piece piece f) core

pub record LeftFull (piece : List ℕ) (f : Feeding) (core : NodeCore) : Type 0 where
  pub no_room : most_bytes < length f.past.fed + length piece
  pub stands : NodeStands core f.node

pub record LeftStarved (stream : ℕ) (piece : List ℕ) (f : Feeding) (core : NodeCore) : Type 0 where
  pub room : HasRoom piece f
  pub then : HeardSome stream (with_piece piece f) core

abbrev pub IsLeft : ℕ → List ℕ → Feeding → NodeCore → Left → Type 0
IsLeft stream piece f core (left.Open c) = LeftOpen stream piece f core c
IsLeft stream piece f core left.Shut = LeftShut stream piece f core
IsLeft stream piece f core left.TooLong = LeftFull piece f core
IsLeft stream piece f core left.Starved = LeftStarved stream piece f core

-- ---- the record of the stream

-- a node after the cutter of a stream, which stood for this past, was taken out
abbrev pub taken : NodeState → ℕ → Option Past → NodeState
taken n stream None = n
taken n stream (Some past) = begin_closing n stream

-- a node, and the past of the cutter that is put back
pub record Keeping : Type 0 where
  pub node : NodeState
  pub past : Past
