use Rattle.std.proofs.Common.{◌≡◌, Result, Err, sym, subst}
use Rattle.grasp_pool.specs.Answers.{IsRootFault}
use Rattle.grasp_config.specs.Config.{AreRoots}
use Rattle.grasp_config.specs.Faults.{IfBadConfig}
use Rattle.grasp_config.specs.declared.fault.ConfigFault.{ConfigFault}
use Rattle.grasp_config.specs.declared.fault.ConfigKey.TheVariants as key
use Rattle.grasp_config.proofs.GoodRoots.{refused_roots}
use Rattle.grasp_config.proofs.lists.open_pool.Goals.{in-Ok, in-Err}
use Rattle.grasp_config.proofs.lists.open_pool.Goals as goal

abbrev told : goal.Joined-open-2 → Result (Unit {0}) ConfigFault → Type 0
told c result = IfBadConfig result (λ k. (k ≡ key.Roots) × (¬ AreRoots c.args.roots.now))

pub returns-clause-bad : goal.returns-clause-bad
returns-clause-bad c = elim c.match-open.branch [
  | in-Ok w ↦ subst (told c) (sym w.result-is) tt
  | in-Err w ↦
      let refused : IsRootFault c.args.roots.now w.in-Err.fault = w.in-Err.ensures.opened in
      subst (told c) (sym w.result-is) (subst (λ f. told c (Err f)) (sym w.fault_of.ensures) (refused_roots c.args.roots.now w.in-Err.fault refused))
]
