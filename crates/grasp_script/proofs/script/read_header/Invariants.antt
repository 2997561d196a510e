use Rattle.std.proofs.Common.{◌+◌, ◌≤◌, length}
use Rattle.grasp_script.specs.Reads.{SoFar, IsBehind}
use Rattle.grasp_script.proofs.script.read_header.Given as goal

abbrev pub invariant-loop-line : goal.invariant-loop-line
invariant-loop-line l = record {
  read : SoFar l.text l.rest l.plan l.number;
  room : l.number + length l.rest ≤ length l.text;
  behind : IsBehind l.text l.rest;
}

abbrev pub decreases-loop-line : goal.decreases-loop-line
decreases-loop-line l = length l.rest
