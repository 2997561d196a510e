use Rattle.std.proofs.Common.{rules, ◌<◌, ◌≤◌}
use Rattle.grasp_audit.proofs.Turning.{turns_not, turns_nothing, turns_so}
use Rattle.grasp_audit.proofs.clocks.turn_clock.Goals as goal

pub returns-in-Ok : goal.returns-in-Ok
returns-in-Ok c =
    let less : c.now-own.result < c.args.line.now.now = search rules in
    turns_so c.args.world.now c.args.line.now c.requires c.now-own.result c.node.result.now c.node.ensures c.now-own.ensures c.step.new.self c.in-Ok.report c.turned.result c.turned.ensures less c.in-Ok.ensures

pub returns-in-Err : goal.returns-in-Err
returns-in-Err c =
    turns_not c.args.world.now c.args.line.now c.requires c.now-own.result c.node.result.now c.node.ensures c.now-own.ensures c.step.new.self c.in-Err.stop c.stop_fault.result c.in-Err.ensures c.stop_fault.ensures

pub returns-else-own-line : goal.returns-else-own-line
returns-else-own-line c =
    let most : c.args.line.now.now ≤ c.now-own.result = search rules in
    turns_nothing c.args.world.now c.args.line.now c.requires c.now-own.result c.node.result.now c.node.ensures c.now-own.ensures most
