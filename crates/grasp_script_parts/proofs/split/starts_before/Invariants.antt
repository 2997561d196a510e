use Rattle.std.proofs.Common.{◌≡◌, ◌≤◌, ◌-◌, take}
use Rattle.grasp_script.specs.Scripts.{text_lines}
use Rattle.grasp_script_parts.specs.Starting.{has_start}
use Rattle.grasp_script_parts.proofs.split.starts_before.Given as goal

-- the lines that are left are looked at
abbrev pub invariant-loop-next : goal.invariant-loop-next
invariant-loop-next l = record {
  least : 1 ≤ l.next;
  same : has_start (take (l.number - 1) (text_lines l.text)) ≡ has_start (take (l.number - l.next) (text_lines l.rest));
}

abbrev pub decreases-loop-next : goal.decreases-loop-next
decreases-loop-next l = l.number - l.next
