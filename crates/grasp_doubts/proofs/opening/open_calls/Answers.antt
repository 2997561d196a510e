use Rattle.grasp_doubts.proofs.Openings.{can_declare, can_listen, can_register, on_ok, opens_calls}
use Rattle.grasp_doubts.proofs.opening.open_calls.Goals as goal

pub open_call-requires : goal.open_call-requires
open_call-requires c = can_register c.questions_begin.ensures c.args.world.now c.args.node c.in_ok-agent_name.field-0 c.in_ok-agent_name.ensures c.requires

pub open_call-requires-2 : goal.open_call-requires-2
open_call-requires-2 c =
    can_declare c.questions_begin.ensures c.args.world.now c.args.node c.in_ok-agent_name.field-0 c.in_ok-agent_name.ensures c.open_call.new.world c.in_ok-open_call.ensures
    c.in_ok-objective_name.field-0 c.in_ok-objective_name.ensures c.requires

pub open_call-requires-3 : goal.open_call-requires-3
open_call-requires-3 c =
    can_listen c.questions_begin.ensures c.args.world.now c.args.node c.in_ok-agent_name.field-0 c.in_ok-agent_name.ensures c.open_call.new.world c.in_ok-open_call.ensures
    c.in_ok-objective_name.field-0 c.in_ok-objective_name.ensures c.open_call-2.new.world c.in_ok-open_call-2.ensures c.in_ok-objective_name-2.field-0 c.in_ok-objective_name-2.ensures c.requires

pub returns : goal.returns
returns c =
    on_ok c.open_call-3.result
    (opens_calls c.questions_begin.ensures c.args.world.now c.args.node c.in_ok-agent_name.field-0 c.in_ok-agent_name.ensures c.open_call.new.world c.in_ok-open_call.ensures
    c.in_ok-objective_name.field-0 c.in_ok-objective_name.ensures c.open_call-2.new.world c.in_ok-open_call-2.ensures c.in_ok-objective_name-2.field-0 c.in_ok-objective_name-2.ensures
    c.open_call-3.new.world) c.open_call-3.ensures
