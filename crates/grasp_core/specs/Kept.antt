-- What the code keeps of bytes that came on a stream.
use Rattle.std.specs.Prelude.{ℕ, Option, None, Some}
use Rattle.grasp_wire.specs.Stands.{waiting_count}
use Rattle.grasp_wire.specs.declared.cutter.Cutter.{Cutter}
use Rattle.grasp_core.specs.declared.streams.Stream.{Stream}

-- Inside: how many bytes wait in a cutter, none where there is no cutter
abbrev pub kept_by : Option Cutter → ℕ
kept_by None = 0
kept_by (Some c) = waiting_count c

-- Inside: how many bytes wait on a stream
abbrev pub kept_on : Stream → ℕ
kept_on s = kept_by s.cutter
