use Rattle.std.proofs.Common.{ℕ, List, ◌∷◌, ap, sym, ◌∙◌}
use Rattle.atomic_table.specs.Table.{rest}
use Rattle.grasp_core.specs.declared.node_core.NodeCore.{NodeCore}
use Rattle.grasp_shared.proofs.Turns.{went_on}
use Rattle.grasp_shared.proofs.shared.Shared.step.Goals as goal

pub slot_mut-core-requires : goal.slot_mut-core-requires
slot_mut-core-requires c = let h = c.requires.held in (c.requires.own, (h.0, h.1 ∙ ap (λ (l : List (ℕ × NodeCore)). (0, h.0) ∷ rest l) (sym h.1)))

pub returns-clause-stepped : goal.returns-clause-stepped
returns-clause-stepped c = went_on c.args.seat.now.me _ _ _ _ c.requires.held.1 c.slot_mut-core.ensures.value c.step_core.ensures
