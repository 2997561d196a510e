use Rattle.std.proofs.Common.{◌≡◌, None, take}
use Rattle.grasp_simulator.specs.Remembering.{last_note}
use Rattle.grasp_simulator.proofs.notes.Notes.last.Given as goal

abbrev pub invariant-loop-note : goal.invariant-loop-note
invariant-loop-note l = l.found ≡ last_note l.node l.prefix (take l.note-index l.self.offers.items) None
