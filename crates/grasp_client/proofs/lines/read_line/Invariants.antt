use Rattle.std.proofs.Common.{◌≤◌}
use Rattle.std.specs.Io.KnownBytes.{Consumes}
use Rattle.grasp_client.specs.Lines.{IsLine}
use Rattle.grasp_client.proofs.lines.read_line.Given as goal

-- what was read is the line so far
abbrev pub invariant-loop : goal.invariant-loop
invariant-loop g l = record {
  taken : Consumes (g.S.Source.left l.initial.source) (g.S.Source.left l.source) l.line.items;
  is_line : IsLine l.line.items;
  no_fall : g.S.Source.faults l.initial.source ≤ g.S.Source.faults l.source;
}
