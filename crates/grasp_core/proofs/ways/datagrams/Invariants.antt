use Rattle.std.proofs.Common.{◌≡◌, map, take}
use Rattle.grasp_types.specs.declared.traffic.Output.TheVariants as output
use Rattle.grasp_core.proofs.ways.datagrams.Given as goal

-- those along the ways before this one
abbrev pub invariant-loop-way : goal.invariant-loop-way
invariant-loop-way l = l.outputs.items ≡ map (λ way. output.Datagram way.link way.to l.bytes) (take l.way-index l.ways)
