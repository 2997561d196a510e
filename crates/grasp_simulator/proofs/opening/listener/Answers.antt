use Rattle.std.proofs.Common.{◌≡◌, ◌∙◌, sym, ap, ◌+◌, true, false}
use Rattle.grasp_types.specs.Same.{same_locator}
use Rattle.grasp_model_network.specs.Setting.{script_locator}
use Rattle.grasp_simulator.proofs.Listeners.{looked_on, looked_here, looked_all}
use Rattle.grasp_simulator.proofs.opening.listener.Goals as goal

pub loop-before-preserved : goal.loop-before-preserved
loop-before-preserved c =
    let before = c.loop-before.before in
    let other : same_locator c.args.to.now (script_locator (before + 1)) ≡ false = ap (same_locator c.args.to.now) (sym c.locator_of.ensures) ∙ (sym c.eq.ensures ∙ c.if-eq.false) in
    c.loop-before.invariant ∙ looked_on c.args.nodes before c.args.to.now c.loop-before-test.true other

pub returns-then-eq : goal.returns-then-eq
returns-then-eq c =
    let before = c.loop-before.before in
    let is : same_locator c.args.to.now (script_locator (before + 1)) ≡ true = ap (same_locator c.args.to.now) (sym c.locator_of.ensures) ∙ (sym c.eq.ensures ∙ c.if-eq.true) in
    sym (c.loop-before.invariant ∙ looked_here c.args.nodes before c.args.to.now c.loop-before-test.true is)

pub returns : goal.returns
returns c = sym (c.loop-before.invariant ∙ looked_all c.args.nodes c.loop-before.before c.args.to.now c.loop-before-test.false)
