use Rattle.std.proofs.Common.{◌≡◌}
use Rattle.grasp_shared.proofs.shared.Shared.call.Given as goal

abbrev pub invariant-loop : goal.invariant-loop
invariant-loop g l = (l.pass.seat.table_id ≡ l.initial.pass.seat.table_id) × (l.pass.seat.me ≡ l.initial.pass.seat.me) × (l.input ≡ l.initial.input)
