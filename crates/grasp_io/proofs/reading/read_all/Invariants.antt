use Rattle.std.proofs.Common.{◌≤◌, ◌-◌, vec_len}
use Rattle.std.specs.Io.KnownBytes.{Consumes}
use Rattle.grasp_io.proofs.reading.read_all.Given as goal

-- what was read is the content so far
abbrev pub invariant-loop-content : goal.invariant-loop-content
invariant-loop-content g l = record {
  taken : Consumes (g.S.Source.left l.initial.source) (g.S.Source.left l.source) l.content.items;
  within : vec_len l.content ≤ l.limit;
  no_fall : g.S.Source.faults l.initial.source ≤ g.S.Source.faults l.source;
}

abbrev pub decreases-loop-content : goal.decreases-loop-content
decreases-loop-content g l = l.limit - vec_len l.content
