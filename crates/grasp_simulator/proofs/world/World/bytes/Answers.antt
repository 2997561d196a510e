use Rattle.std.proofs.Common.{◌∙◌, sym, subst}
use Rattle.grasp_cbor.proofs.Facts.Options.{on_err}
use Rattle.grasp_cbor.specs.Bytes.{AllBytes}
use Rattle.grasp_simulator.proofs.SidesGo.{no_bytes, unseated_bytes, bytes_run, bytes_starve}
use Rattle.grasp_simulator.proofs.world.World.bytes.Goals as goal

-- the bytes reach no side of a stream
pub returns-in_default-clause-runs : goal.returns-in_default-clause-runs
returns-in_default-clause-runs c = no_bytes c.args.self.now c.args.stream c.args.far c.args.count c.args.hold (sym c.side.ensures ∙ c.in_default.is)

-- the life of the side has no node
pub returns-in_default-owner-clause-runs : goal.returns-in_default-owner-clause-runs
returns-in_default-owner-clause-runs c =
    unseated_bytes c.streams_are_ready.ensures c.args.self.now c.args.stream c.args.far c.args.count c.args.hold c.in-Some.end (sym c.side.ensures ∙ c.in-Some.is) (sym c.owner.ensures ∙ c.in_default-owner.is)

pub returns-clause-runs : goal.returns-clause-runs
returns-clause-runs c =
    bytes_run c.streams_are_ready.ensures c.steps_are_present.ensures c.args.self.now c.send_behind.new.self c.args.stream c.args.far c.args.count c.args.hold c.in-Some.end c.in-Some-owner.node c.in_ok-bytes.bytes c.deliver.new.self c.from.result
    c.index_mut.result.now c.step-reply.new.self c.step-reply.result (sym c.side.ensures ∙ c.in-Some.is) (sym c.owner.ensures ∙ c.in-Some-owner.is) (c.in_ok-bytes.ensures ∙ c.piece-next.ensures)
    (subst AllBytes (sym c.in_ok-bytes.ensures) c.are_bytes.ensures) c.deliver.ensures c.step-reply.ensures.life c.from.ensures c.index_mut.ensures.value c.step-reply.ensures.steps (sym c.is_starved.ensures ∙ c.if-is_starved.false)
    c.in_ok-send_behind.ensures.notes c.in_ok-send_behind.ensures.sends

-- ---- want of memory

pub returns-in_err-bytes-clause-wanted : goal.returns-in_err-bytes-clause-wanted
returns-in_err-bytes-clause-wanted c =
    on_err c.from_residual.result
    (bytes_starve c.streams_are_ready.ensures c.args.self.now c.args.stream c.args.far c.args.count c.args.hold c.in-Some.end c.in-Some-owner.node (sym c.side.ensures ∙ c.in-Some.is) (sym c.owner.ensures ∙ c.in-Some-owner.is))

pub returns-then-is_starved-clause-wanted : goal.returns-then-is_starved-clause-wanted
returns-then-is_starved-clause-wanted c =
    bytes_starve c.streams_are_ready.ensures c.args.self.now c.args.stream c.args.far c.args.count c.args.hold c.in-Some.end c.in-Some-owner.node (sym c.side.ensures ∙ c.in-Some.is) (sym c.owner.ensures ∙ c.in-Some-owner.is)

pub returns-in_err-send_behind-clause-wanted : goal.returns-in_err-send_behind-clause-wanted
returns-in_err-send_behind-clause-wanted c =
    on_err c.from_residual-in_err-send_behind.result
    (bytes_starve c.streams_are_ready.ensures c.args.self.now c.args.stream c.args.far c.args.count c.args.hold c.in-Some.end c.in-Some-owner.node (sym c.side.ensures ∙ c.in-Some.is) (sym c.owner.ensures ∙ c.in-Some-owner.is))
