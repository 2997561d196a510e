use Rattle.std.proofs.Common.{◌≡◌}
use Rattle.grasp_shared.proofs.shared.Shared.root_call.Given as goal

abbrev pub invariant-loop : goal.invariant-loop
invariant-loop g l = (l.root.seat.table_id ≡ l.initial.root.seat.table_id) × (l.root.seat.me ≡ l.initial.root.seat.me) × (l.root.out ≡ l.initial.root.out) × (l.input ≡ l.initial.input)
