use Rattle.std.proofs.Common.{◌≡◌, length}
use Rattle.grasp_text.specs.Reading.{unescaped}
use Rattle.grasp_text.proofs.TextWords.{with_front}
use Rattle.grasp_text.proofs.texts.unescape.Given as goal

abbrev pub invariant-loop-rest : goal.invariant-loop-rest
invariant-loop-rest l = with_front l.bytes.items (unescaped l.rest) ≡ unescaped l.escaped

abbrev pub decreases-loop-rest : goal.decreases-loop-rest
decreases-loop-rest l = length l.rest
