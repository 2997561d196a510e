use Rattle.std.proofs.Common.{◌∙◌}
use Rattle.grasp_doubts.proofs.DoubterCalls.{call_asked, call_node, call_starved, call_stops, can_settle, is_reply, makes_call}
use Rattle.grasp_doubts.proofs.calling.call_doubter.Goals as goal

pub returns-in_default : goal.returns-in_default
returns-in_default c = call_starved c.calls_fit.ensures c.args.world.now c.args.doubter.now c.args.node c.args.world.now c.args.doubter.now

pub returns-in_default-copy : goal.returns-in_default-copy
returns-in_default-copy c = call_starved c.calls_fit.ensures c.args.world.now c.args.doubter.now c.args.node c.args.world.now c.args.doubter.now

pub step-requires : goal.step-requires
step-requires c = call_asked c.calls_fit.ensures c.args.world.now c.args.doubter.now c.args.node c.in-Ok-copy.made (c.in-Ok-copy.ensures ∙ c.in-Ok.ensures) c.requires

pub reply_of-reply-requires : goal.reply_of-reply-requires
reply_of-reply-requires c =
    is_reply c.calls_fit.ensures c.args.world.now c.args.doubter.now c.args.node c.in-Ok-copy.made (c.in-Ok-copy.ensures ∙ c.in-Ok.ensures) c.step.new.self c.in-Ok-step.told c.in-Ok-step.ensures c.requires

pub agent-requires : goal.agent-requires
agent-requires c =
    call_node c.calls_fit.ensures c.args.world.now c.args.doubter.now c.args.node c.in-Ok-copy.made (c.in-Ok-copy.ensures ∙ c.in-Ok.ensures) c.step.new.self c.in-Ok-step.told c.in-Ok-step.ensures c.requires

pub settle_where-requires : goal.settle_where-requires
settle_where-requires c =
    can_settle c.calls_fit.ensures c.args.world.now c.args.doubter.now c.args.node c.in-Ok-copy.made (c.in-Ok-copy.ensures ∙ c.in-Ok.ensures) c.step.new.self c.in-Ok-step.told c.in-Ok-step.ensures
    c.reply_of-reply.result c.reply_of-reply.ensures c.agent.result.now c.agent.ensures c.take-settled.new.self c.settlings_are_of_dead.ensures c.requires c.take-settled.result c.take-settled.ensures

pub returns-in-Ok-step : goal.returns-in-Ok-step
returns-in-Ok-step c =
    makes_call c.calls_fit.ensures c.args.world.now c.args.doubter.now c.args.node c.in-Ok-copy.made (c.in-Ok-copy.ensures ∙ c.in-Ok.ensures) c.step.new.self c.in-Ok-step.told c.in-Ok-step.ensures
    c.reply_of-reply.result c.reply_of-reply.ensures c.agent.result.now c.agent.ensures c.take-settled.new.self c.settlings_are_of_dead.ensures c.take-settled.result c.take-settled.ensures
    c.settle_where.new.world c.in-Ok.call c.in-Ok.ensures c.settle_where.ensures

pub returns-in-Err : goal.returns-in-Err
returns-in-Err c =
    call_stops c.calls_fit.ensures c.args.world.now c.args.doubter.now c.args.node c.in-Ok-copy.made (c.in-Ok-copy.ensures ∙ c.in-Ok.ensures) c.step.new.self c.step.new.self c.args.doubter.now
    c.in-Err.stop c.in-Err.ensures
