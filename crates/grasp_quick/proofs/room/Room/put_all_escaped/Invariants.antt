use Rattle.std.proofs.Common.{◌≡◌, ◌++◌, take}
use Rattle.grasp_text.specs.Line.{all_escaped}
use Rattle.grasp_quick.proofs.room.Room.put_all_escaped.Given as goal

abbrev pub invariant-loop-byte : goal.invariant-loop-byte
invariant-loop-byte l = l.self ≡ l.fn.self ++ all_escaped (take l.byte-index l.text)
