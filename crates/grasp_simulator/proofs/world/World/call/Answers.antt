use Rattle.grasp_simulator.specs.Remembering.{end_in}
use Rattle.grasp_simulator.specs.PlacesStand.{places_in}
use Rattle.grasp_simulator.proofs.Presence.{life_read}
use Rattle.std.proofs.Common.{◌∙◌, sym, ◌≡◌, ap, ◌++◌, map, option_to_list, ℕ}
use Rattle.grasp_simulator.proofs.CallsGo.{call_runs}
use Rattle.grasp_simulator.proofs.world.World.call.Goals as goal

pub returns-clause-runs : goal.returns-clause-runs
returns-clause-runs c =
    let self = c.args.self.now in
    let own = c.index_mut.result.now in
    let r = c.call_step-reply.result.0 in
    let read : c.index.result.now.life ≡ c.index_mut.result.now.life = life_read self c.args.node c.from.result c.from-2.result c.index.result.now c.index_mut.result.now c.requires c.from.ensures c.index.ensures c.from-2.ensures c.index_mut.ensures.value in
    call_runs c.streams_are_ready.ensures self c.send_behind.new.self c.args.node c.args.asa c.args.call c.args.hold c.from-2.result own c.call_step-reply.new.self c.note.new.self c.accept.new.self r c.call_step-reply.result.1
    c.call_step-reply.ensures.life c.from-2.ensures c.index_mut.ensures.value c.call_step-reply.ensures.steps (sym c.is_starved.ensures ∙ c.if-is_starved.false)
    (c.in_ok-note.ensures ∙ ap (λ (n : ℕ). self.places.given ++ places_in n r) read)
    c.in_ok-accept.ensures.offers
    (c.in_ok-accept.ensures.accepted ∙ ap (λ (n : ℕ). self.notes.accepted ++ map (end_in n) (option_to_list c.call_step-reply.result.1)) read)
    c.in_ok-send_behind.ensures.notes c.in_ok-send_behind.ensures.sends
