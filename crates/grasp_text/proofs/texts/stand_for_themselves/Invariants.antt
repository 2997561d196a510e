use Rattle.std.proofs.Common.{take}
use Rattle.grasp_text.specs.Reading.{ArePlain}
use Rattle.grasp_text.proofs.texts.stand_for_themselves.Given as goal

abbrev pub invariant-loop-byte : goal.invariant-loop-byte
invariant-loop-byte l = ArePlain (take l.byte-index l.bytes)
