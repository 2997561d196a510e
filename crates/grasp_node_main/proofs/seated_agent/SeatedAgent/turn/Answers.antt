use Rattle.std.proofs.Common.{refl, ap, ◌∙◌}
use Rattle.grasp_node_main.specs.Workers.{answered}
use Rattle.grasp_node_main.specs.declared.seated_agent.SeatedAgent.{SeatedAgent}
use Rattle.grasp_node_main.proofs.Seating.{going_stopped, goes_stopped, goes_called}
use Rattle.grasp_node_main.proofs.seated_agent.SeatedAgent.turn.Goals as goal

pub returns-then-self : goal.returns-then-self
returns-then-self g c = goes_stopped c.args.shared.now c.args.self.now c.args.self.now c.requires refl c.if-self.true (λ e. refl)

pub call-requires : goal.call-requires
call-requires g c = record { pass = c.requires.pass; is = c.next.ensures.pass ∙ c.requires.is; own = c.requires.own }

pub returns-in-Ok : goal.returns-in-Ok
returns-in-Ok g c =
    let e = c.in-Ok.ensures in
    goes_called c.args.shared.now c.args.self.now c.next.new.self c.call.new.self c.in-Ok.input c.call.ensures e.pass e.call c.if-self.false
    (λ r is. is ∙ ap (λ (s : SeatedAgent). answered s.worker r) e.ready)

pub returns-in-Err : goal.returns-in-Err
returns-in-Err g c = goes_stopped c.args.shared.now c.args.self.now _ c.requires c.next.ensures.pass refl (λ e. absurd (going_stopped c.args.self.now c.if-self.false e))
