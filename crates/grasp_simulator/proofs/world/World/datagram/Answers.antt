use Rattle.std.proofs.Common.{rules, ◌≡◌, refl, sym, ◌∙◌, length, None}
use Rattle.grasp_cbor.proofs.Facts.Options.{on_err}
use Rattle.grasp_model_network.specs.Plans.{IsNode}
use Rattle.grasp_model_network.specs.Setting.{numbered}
use Rattle.grasp_simulator.proofs.DatagramsGo.{datagram_runs, datagram_starves, no_datagram, unseated_datagram}
use Rattle.grasp_simulator.proofs.world.World.datagram.Goals as goal

-- the datagram wasn't sent
pub returns-in_default-clause-runs : goal.returns-in_default-clause-runs
returns-in_default-clause-runs c =
    let got : numbered c.args.self.now.parcels c.args.index ≡ None = search rules in
    no_datagram c.args.self.now c.args.index c.args.hold got

-- the node isn't there
pub returns-then-not-has-clause-runs : goal.returns-then-not-has-clause-runs
returns-then-not-has-clause-runs c =
    let parcel = c.in-Some.parcel.now in
    let none : IsNode (length c.args.self.now.seats.items) parcel.receiver → ⊥ = search rules in
    unseated_datagram c.args.self.now c.args.index c.args.hold parcel parcel.receiver (sym c.in-Some.ensures) refl none

pub returns-clause-runs : goal.returns-clause-runs
returns-clause-runs c =
    let parcel = c.in-Some.parcel.now in
    let there : IsNode (length c.args.self.now.seats.items) parcel.receiver = search rules in
    datagram_runs c.streams_are_ready.ensures c.args.self.now c.send_behind.new.self c.args.index c.args.hold parcel parcel.receiver parcel.link parcel.from c.in_ok-bytes.bytes c.from.result c.index_mut.result.now c.step-reply.new.self c.step-reply.result
    (sym c.in-Some.ensures) refl refl refl c.in_ok-bytes.ensures c.are_octets.ensures there c.step-reply.ensures.life c.from.ensures c.index_mut.ensures.value c.step-reply.ensures.steps
    (sym c.is_starved.ensures ∙ c.if-is_starved.false) c.in_ok-send_behind.ensures.notes c.in_ok-send_behind.ensures.sends

-- ---- want of memory

pub returns-in_err-bytes-clause-wanted : goal.returns-in_err-bytes-clause-wanted
returns-in_err-bytes-clause-wanted c =
    on_err c.from_residual.result (datagram_starves c.args.self.now c.args.index c.args.hold c.in-Some.parcel.now (sym c.in-Some.ensures) (c.has.ensures.0 c.if-not-has.false))

pub returns-then-is_starved-clause-wanted : goal.returns-then-is_starved-clause-wanted
returns-then-is_starved-clause-wanted c =
    datagram_starves c.args.self.now c.args.index c.args.hold c.in-Some.parcel.now (sym c.in-Some.ensures) (c.has.ensures.0 c.if-not-has.false)

pub returns-in_err-send_behind-clause-wanted : goal.returns-in_err-send_behind-clause-wanted
returns-in_err-send_behind-clause-wanted c =
    on_err c.from_residual-in_err-send_behind.result (datagram_starves c.args.self.now c.args.index c.args.hold c.in-Some.parcel.now (sym c.in-Some.ensures) (c.has.ensures.0 c.if-not-has.false))
