use Rattle.std.proofs.Common.{◌≡◌, length, drop}
use Rattle.grasp_simulator.proofs.HandsOver.{AllHanding}
use Rattle.grasp_simulator.proofs.world.World.hand_over.Given as goal

-- what is left is to be sent yet
abbrev pub invariant-loop-output : goal.invariant-loop-output
invariant-loop-output l = record {
  hands : AllHanding l.fn.self l.self l.node l.life l.outputs (drop l.output-index l.outputs);
  count : length l.self.seats.items ≡ length l.fn.self.seats.items;
  notes : l.self.notes ≡ l.fn.self.notes;
}
