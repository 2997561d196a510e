use Rattle.std.proofs.Common.{◌≡◌, ◌++◌, take, string_bytes}
use Rattle.grasp_node_main.specs.Lines.{crew_text}
use Rattle.grasp_node_main.specs.Runs.{workers_of}
use Rattle.grasp_node_main.proofs.lines.push_crew.Given as goal

abbrev pub invariant-loop-seat : goal.invariant-loop-seat
invariant-loop-seat l = string_bytes l.out ≡ string_bytes l.fn.out ++ crew_text (workers_of (take l.seat-index l.seats))
