use Rattle.std.proofs.Common.{sym, subst, IfOk, OnErr}
use Rattle.grasp_cbor.proofs.Facts.Options.{on_err}
use Rattle.grasp_model_network.specs.Events.{AreLengths}
use Rattle.grasp_model_network.specs.declared.event.Event.{Event}
use Rattle.grasp_model_network.specs.declared.event.Event.TheVariants as event
use Rattle.grasp_model_network.specs.declared.report.Report.TheVariants as report
use Rattle.grasp_simulator.proofs.DrainGoes.{drain_runs}
use Rattle.grasp_simulator.proofs.Starving.{agent_starves, call_starves, drain_starves}
use Rattle.grasp_simulator.proofs.Stops.{asked_node, asked_of}
use Rattle.grasp_simulator.specs.WorldSteps.{IsAsked, Runs, MayStarve}
use Rattle.grasp_simulator.proofs.world.World.run.Goals as goal

pub clock-requires : goal.clock-requires
clock-requires c =
    let e : Event = event.Clock c.in-Clock.node c.in-Clock.millis in
    asked_node c.args.self.now e c.in-Clock.node (subst (IsAsked c.args.self.now) c.in-Clock.is c.requires.asked) c.requires.goes (λ s w fit. fit)

pub want-requires-clause-node : goal.want-requires-clause-node
want-requires-clause-node c =
    let e : Event = event.Want c.in-Want.node c.in-Want.length c.in-Want.longest c.in-Want.peer in
    asked_node c.args.self.now e c.in-Want.node (subst (IsAsked c.args.self.now) c.in-Want.is c.requires.asked) c.requires.goes (λ s w fit. fit.0)

pub want-requires-clause-lengths : goal.want-requires-clause-lengths
want-requires-clause-lengths c =
    let e : Event = event.Want c.in-Want.node c.in-Want.length c.in-Want.longest c.in-Want.peer in
    asked_of c.args.self.now e (AreLengths c.in-Want.length c.in-Want.longest) (subst (IsAsked c.args.self.now) c.in-Want.is c.requires.asked) c.requires.goes (λ s w fit. fit.2)

pub hand_back-requires : goal.hand_back-requires
hand_back-requires c =
    let e : Event = event.Return c.in-Return.node c.in-Return.prefix c.in-Return.peer in
    asked_node c.args.self.now e c.in-Return.node (subst (IsAsked c.args.self.now) c.in-Return.is c.requires.asked) c.requires.goes (λ s w fit. fit.0)

pub call-requires : goal.call-requires
call-requires c =
    let e : Event = event.Api c.in-Api.node c.in-Api.asa c.in-Api.call c.in-Api.hold in
    asked_node c.args.self.now e c.in-Api.node (subst (IsAsked c.args.self.now) c.in-Api.is c.requires.asked) c.requires.goes (λ s w fit. fit.0)

pub send-requires : goal.send-requires
send-requires c =
    let e : Event = event.Drain c.in-Drain.node c.in-Drain.max in
    asked_node c.args.self.now e c.in-Drain.node (subst (IsAsked c.args.self.now) c.in-Drain.is c.requires.asked) c.requires.goes (λ s w fit. fit)

pub returns-in-Clock-clause-runs : goal.returns-in-Clock-clause-runs
returns-in-Clock-clause-runs c = subst (λ (e : Event). Runs c.args.self.now c.clock.new.self e (report.Reading c.clock.result)) (sym c.in-Clock.is) c.clock.ensures.runs

pub returns-in-Want-clause-runs : goal.returns-in-Want-clause-runs
returns-in-Want-clause-runs c = subst (λ (e : Event). Runs c.args.self.now c.want.new.self e (report.Want c.want.result)) (sym c.in-Want.is) c.want.ensures.runs

pub returns-in-Return-clause-runs : goal.returns-in-Return-clause-runs
returns-in-Return-clause-runs c = subst (λ (e : Event). Runs c.args.self.now c.hand_back.new.self e (report.Return c.hand_back.result)) (sym c.in-Return.is) c.hand_back.ensures.runs

pub returns-in-Api-clause-runs : goal.returns-in-Api-clause-runs
returns-in-Api-clause-runs c = subst (λ (e : Event). IfOk c.call.result (λ report. Runs c.args.self.now c.call.new.self e report)) (sym c.in-Api.is) c.call.ensures.runs

pub returns-in_ok-send-in-Drain-clause-runs : goal.returns-in_ok-send-in-Drain-clause-runs
returns-in_ok-send-in-Drain-clause-runs c =
    subst (λ (e : Event). Runs c.args.self.now c.send.new.self e (report.Sent c.in_ok-send-in-Drain.field-0)) (sym c.in-Drain.is) (drain_runs c.args.self.now c.send.new.self c.in-Drain.node c.in-Drain.max c.in_ok-send-in-Drain.field-0 c.send.ensures.notes c.in_ok-send-in-Drain.ensures.sends)

pub returns-in-Arrive-clause-runs : goal.returns-in-Arrive-clause-runs
returns-in-Arrive-clause-runs c = subst (λ (e : Event). IfOk c.arrive.result (λ report. Runs c.args.self.now c.arrive.new.self e report)) (sym c.in-Arrive.is) c.arrive.ensures.runs

pub returns-in-Bytes-clause-runs : goal.returns-in-Bytes-clause-runs
returns-in-Bytes-clause-runs c = subst (λ (e : Event). IfOk c.bytes.result (λ report. Runs c.args.self.now c.bytes.new.self e report)) (sym c.in-Bytes.is) c.bytes.ensures.runs

pub returns-in-Cut-clause-runs : goal.returns-in-Cut-clause-runs
returns-in-Cut-clause-runs c = subst (λ (e : Event). IfOk c.cut.result (λ report. Runs c.args.self.now c.cut.new.self e report)) (sym c.in-Cut.is) c.cut.ensures.runs

pub call_own-requires : goal.call_own-requires
call_own-requires c =
    let e : Event = event.Agent c.in-Agent.node c.in-Agent.hold in
    asked_node c.args.self.now e c.in-Agent.node (subst (IsAsked c.args.self.now) c.in-Agent.is c.requires.asked) c.requires.goes (λ s w fit. fit)

pub returns-in-Agent-clause-runs : goal.returns-in-Agent-clause-runs
returns-in-Agent-clause-runs c = subst (λ (e : Event). IfOk c.call_own.result (λ report. Runs c.args.self.now c.call_own.new.self e report)) (sym c.in-Agent.is) c.call_own.ensures.runs

pub returns-in-Datagram-clause-runs : goal.returns-in-Datagram-clause-runs
returns-in-Datagram-clause-runs c = subst (λ (e : Event). IfOk c.datagram.result (λ report. Runs c.args.self.now c.datagram.new.self e report)) (sym c.in-Datagram.is) c.datagram.ensures.runs

-- ---- want of memory

pub returns-in-Api-clause-wanted : goal.returns-in-Api-clause-wanted
returns-in-Api-clause-wanted c =
    subst (λ (e : Event). OnErr c.call.result (MayStarve c.args.self.now e)) (sym c.in-Api.is) (on_err c.call.result (call_starves c.args.self.now c.in-Api.node c.in-Api.asa c.in-Api.call c.in-Api.hold))

pub returns-in-Agent-clause-wanted : goal.returns-in-Agent-clause-wanted
returns-in-Agent-clause-wanted c =
    subst (λ (e : Event). OnErr c.call_own.result (MayStarve c.args.self.now e)) (sym c.in-Agent.is) (on_err c.call_own.result (agent_starves c.args.self.now c.in-Agent.node c.in-Agent.hold))

pub returns-in_err-send-in-Drain-clause-wanted : goal.returns-in_err-send-in-Drain-clause-wanted
returns-in_err-send-in-Drain-clause-wanted c =
    subst (λ (e : Event). OnErr c.from_residual.result (MayStarve c.args.self.now e)) (sym c.in-Drain.is) (on_err c.from_residual.result (drain_starves c.args.self.now c.in-Drain.node c.in-Drain.max))

pub returns-in-Arrive-clause-wanted : goal.returns-in-Arrive-clause-wanted
returns-in-Arrive-clause-wanted c = subst (λ (e : Event). OnErr c.arrive.result (MayStarve c.args.self.now e)) (sym c.in-Arrive.is) c.arrive.ensures.wanted

pub returns-in-Bytes-clause-wanted : goal.returns-in-Bytes-clause-wanted
returns-in-Bytes-clause-wanted c = subst (λ (e : Event). OnErr c.bytes.result (MayStarve c.args.self.now e)) (sym c.in-Bytes.is) c.bytes.ensures.wanted

pub returns-in-Cut-clause-wanted : goal.returns-in-Cut-clause-wanted
returns-in-Cut-clause-wanted c = subst (λ (e : Event). OnErr c.cut.result (MayStarve c.args.self.now e)) (sym c.in-Cut.is) c.cut.ensures.wanted

pub returns-in-Datagram-clause-wanted : goal.returns-in-Datagram-clause-wanted
returns-in-Datagram-clause-wanted c = subst (λ (e : Event). OnErr c.datagram.result (MayStarve c.args.self.now e)) (sym c.in-Datagram.is) c.datagram.ensures.wanted
