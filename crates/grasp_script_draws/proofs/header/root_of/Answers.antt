use Rattle.std.proofs.Common.{subst, sym}
use Rattle.std.proofs.Common.{ℕ, ◌+◌, ◌*◌, ◌%◌, ◌^◌}
use Rattle.grasp_types.specs.Prefix.{IsPrefix}
use Rattle.grasp_script_draws.proofs.Rooting.{root_valid}
use Rattle.grasp_script_draws.proofs.header.root_of.Goals as goal

pub unreachable-requires : goal.unreachable-requires
unreachable-requires c = c.in-None.ensures.none (subst (λ (n : ℕ). IsPrefix ((137456629760 + n) * 2 ^ 88 % 2 ^ 128) 40) (sym c.from.ensures) (root_valid c.args.node c.requires))
