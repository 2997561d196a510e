use Rattle.std.proofs.Common.{◌-◌, ◌≤◌, length, take}
use Rattle.grasp_text.specs.Reading.{ArePlain}
use Rattle.grasp_text.proofs.texts.front_plain.Given as goal

abbrev pub invariant-loop-end : goal.invariant-loop-end
invariant-loop-end l = record {
  inside : l.end ≤ length l.bytes;
  plain : ArePlain (take l.end l.bytes);
}

abbrev pub decreases-loop-end : goal.decreases-loop-end
decreases-loop-end l = length l.bytes - l.end
