use Rattle.std.proofs.Common.{◌≡◌, ◌∙◌, subst, List}
use Rattle.grasp_pool.specs.Answers.{IsRootFault}
use Rattle.grasp_pool.specs.declared.roots.RootPrefix.{RootPrefix}
use Rattle.grasp_model_network.specs.Setting.{script_roots}
use Rattle.grasp_simulator.proofs.NodeRoots.{no_fault}
use Rattle.grasp_simulator.proofs.opening.open_agent.Goals as goal

pub unreachable-requires : goal.unreachable-requires
unreachable-requires c =
    let p = c.args.plan.now in
    let same : c.deref.result.now ≡ script_roots p.roots c.args.node = c.deref.ensures.value ∙ c.in_ok-roots.ensures in
    let fault : IsRootFault (script_roots p.roots c.args.node) c.in-Err.fault = subst (λ (roots : List RootPrefix). IsRootFault roots c.in-Err.fault) same c.in-Err.ensures.opened in
    c.in_default.not-OutOfMemory (no_fault p c.args.node c.requires c.in-Err.fault fault)
