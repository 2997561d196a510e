use Rattle.grasp_model_network.specs.Plans.{IsNode}
use Rattle.grasp_simulator.proofs.Presence.{life_read}
use Rattle.std.proofs.Common.{rules, ◌∙◌, sym, subst, ◌≡◌, ℕ, length}
use Rattle.grasp_cbor.proofs.Facts.Options.{on_err}
use Rattle.grasp_simulator.specs.Arriving.{Opens, is_taken}
use Rattle.grasp_simulator.proofs.ArrivesGo.{arrival_starves, arrive_runs, no_arrival, unseated_arrival}
use Rattle.grasp_simulator.proofs.world.World.arrive.Goals as goal

-- the stream doesn't wait to be opened at a node
pub returns-in_default-clause-runs : goal.returns-in_default-clause-runs
returns-in_default-clause-runs c = no_arrival c.args.self.now c.args.stream c.args.hold (sym c.waiting_at.ensures ∙ c.in_default.is)

-- the node isn't there
pub returns-then-not-has-clause-runs : goal.returns-then-not-has-clause-runs
returns-then-not-has-clause-runs c =
    unseated_arrival c.streams_are_ready.ensures c.args.self.now c.args.stream c.args.hold c.in-Some.waiting (sym c.waiting_at.ensures ∙ c.in-Some.is) (search rules)

pub returns-clause-runs : goal.returns-clause-runs
returns-clause-runs c =
    let self = c.args.self.now in
    let own = c.index_mut.result.now in
    let node = c.in-Some.waiting.node in
    let there : IsNode (length self.seats.items) node = c.has.ensures.0 (search rules) in
    let read : c.index.result.now.life ≡ c.index_mut.result.now.life = life_read self node c.from.result c.from-2.result c.index.result.now c.index_mut.result.now there c.from.ensures c.index.ensures c.from-2.ensures c.index_mut.ensures.value in
    arrive_runs c.streams_are_ready.ensures self c.send_behind.new.self c.args.stream c.args.hold c.in-Some.waiting c.far_number-number.result c.address_of-from.result c.«open».new.self c.from-2.result own c.step-reply.new.self c.step-reply.result
    (sym c.waiting_at.ensures ∙ c.in-Some.is) c.far_number-number.ensures c.address_of-from.ensures
    (subst (λ (n : ℕ). Opens self.streams c.«open».new.self c.args.stream n (is_taken c.step-reply.result)) read (subst (Opens self.streams c.«open».new.self c.args.stream c.index.result.now.life) c.is_taken.ensures c.«open».ensures))
    there c.step-reply.ensures.life c.from-2.ensures c.index_mut.ensures.value c.step-reply.ensures.steps (sym c.is_starved.ensures ∙ c.if-is_starved.false)
    c.in_ok-send_behind.ensures.notes c.in_ok-send_behind.ensures.sends

-- ---- want of memory

pub returns-then-is_starved-clause-wanted : goal.returns-then-is_starved-clause-wanted
returns-then-is_starved-clause-wanted c = arrival_starves c.streams_are_ready.ensures c.args.self.now c.args.stream c.args.hold c.in-Some.waiting (sym c.waiting_at.ensures ∙ c.in-Some.is) (search rules)

pub returns-in_err-send_behind-clause-wanted : goal.returns-in_err-send_behind-clause-wanted
returns-in_err-send_behind-clause-wanted c =
    on_err c.from_residual.result (arrival_starves c.streams_are_ready.ensures c.args.self.now c.args.stream c.args.hold c.in-Some.waiting (sym c.waiting_at.ensures ∙ c.in-Some.is) (search rules))
