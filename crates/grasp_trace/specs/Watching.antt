-- Which directions of which streams are watched, each by a cutter.
use Rattle.std.specs.Prelude.{◌≡◌, ◌≢◌, ℕ, Bool, false, Option, None, Some, nat_eq, if◌then◌else◌}
use Rattle.indexmap.specs.IndexMap.{get}
use Rattle.grasp_wire.specs.Cutter.{no_past}
use Rattle.grasp_wire.specs.Stands.{Stands, cut_limit}
use Rattle.grasp_wire.specs.declared.cutter.Cutter.{Cutter}
use Rattle.grasp_trace.specs.declared.watched.Watched.{Watched}
use Rattle.grasp_trace.specs.declared.watched.Wires.{Wires}

-- the cutter of what is received on a stream (true) or sent on it (false), where that direction is watched
abbrev pub Cutters : Type 0
Cutters = Bool → ℕ → Option Cutter

-- the cutter of a direction of this stream, where that direction is watched
abbrev pub cutter_in : Bool → Option Wires → Option Cutter
cutter_in received None = None
cutter_in received (Some wires) = if received then wires.received else wires.sent

-- both directions of this stream, where the stream has begun and hasn't ended
abbrev pub wires_of : Watched → ℕ → Option Wires
wires_of watched stream = get nat_eq watched.streams stream

-- those of all streams
abbrev pub cutters_of : Watched → Cutters
cutters_of watched received stream = cutter_in received (wires_of watched stream)

-- nothing was fed, and a message has at most so many bytes
pub record IsNew (limit : ℕ) (cutter : Cutter) : Type 0 where
  pub stands : Stands cutter no_past
  pub limit_is : cut_limit cutter ≡ limit

-- there is a cutter that was fed nothing and whose messages have at most so many bytes
abbrev pub IsSomeNew : ℕ → Option Cutter → Type 0
IsSomeNew limit None = ⊥
IsSomeNew limit (Some cutter) = IsNew limit cutter

-- each direction is watched as before
abbrev pub AllStay : Cutters → Cutters → Type 0
AllStay old new = (received : Bool) (stream : ℕ) → new received stream ≡ old received stream

-- each direction of each other stream is watched as before
abbrev pub OthersStay : ℕ → Cutters → Cutters → Type 0
OthersStay stream old new = (received : Bool) (other : ℕ) → nat_eq stream other ≡ false → new received other ≡ old received other

-- each direction but this is watched as before
pub record ChangesAlone (received : Bool) (stream : ℕ) (old new : Cutters) : Type 0 where
  pub back : (other : Bool) → other ≢ received → new other stream ≡ old other stream
  pub others : OthersStay stream old new

-- Inside: this direction has this cutter now, and each other is watched as before
pub record Changes (received : Bool) (stream : ℕ) (now : Option Cutter) (old new : Cutters) : Type 0 where
  pub this : new received stream ≡ now
  pub alone : ChangesAlone received stream old new
