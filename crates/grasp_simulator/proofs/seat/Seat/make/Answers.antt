use Rattle.std.proofs.Common.{refl, sym, ap, ◌∙◌}
use Rattle.grasp_agent.specs.Replies.{after_reply}
use Rattle.grasp_agent.specs.States.{AgentState}
use Rattle.grasp_simulator.proofs.SeatCalls.{agent_steps}
use Rattle.grasp_simulator.proofs.seat.Seat.make.Goals as goal

pub returns-clause-steps : goal.returns-clause-steps
returns-clause-steps c =
    let old = c.args.self.now in
    let mid = c.step-reply.new.self in
    agent_steps old mid (record { life = mid.life; core = mid.core; agent = c.take.new.self }) c.asa-asa.result c.args.call.now c.in_ok-made.made c.step-reply.result
    c.requires c.in_ok-made.ensures c.asa-asa.ensures c.step-reply.ensures.steps (sym c.is_starved.ensures ∙ c.if-is_starved.false) refl c.take.ensures.reply

pub returns-clause-agent : goal.returns-clause-agent
returns-clause-agent c = c.take.ensures.reply ∙ ap (λ (a : AgentState). after_reply a c.step-reply.result) c.step-reply.ensures.agent
