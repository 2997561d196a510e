use Rattle.std.proofs.Common.{◌≡◌, ◌+◌, length}
use Rattle.grasp_script.specs.Scripts.{text_lines}
use Rattle.grasp_replay_main.proofs.lines.count_lines.Given as goal

abbrev pub invariant-loop-rest : goal.invariant-loop-rest
invariant-loop-rest l = l.count + length (text_lines l.rest) ≡ length (text_lines l.text)

abbrev pub decreases-loop-rest : goal.decreases-loop-rest
decreases-loop-rest l = length l.rest
