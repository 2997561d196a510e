use Rattle.grasp_simulator.specs.declared.stream.LifeEnd.{LifeEnd}
use Rattle.grasp_simulator.specs.declared.notes.OfferNote.{OfferNote}
use Rattle.grasp_simulator.specs.Remembering.{end_in, note_with}
use Rattle.grasp_simulator.specs.PlacesStand.{places_in}
use Rattle.std.proofs.Common.{◌≡◌, ap, ◌++◌, map, option_to_list, ℕ, List, ◌∙◌, Option, option_map}
use Rattle.grasp_simulator.proofs.Presence.{life_read}
use Rattle.grasp_simulator.proofs.CallsGo.{agent_runs}
use Rattle.grasp_simulator.proofs.world.World.call_own.Goals as goal

pub returns-clause-runs : goal.returns-clause-runs
returns-clause-runs c =
    let self = c.args.self.now in
    let own = c.index_mut.result.now in
    let made = c.in_ok-made.made in
    let read : c.index.result.now.life ≡ c.index_mut.result.now.life = life_read self c.args.node c.from.result c.from-2.result c.index.result.now c.index_mut.result.now c.requires c.from.ensures c.index.ensures c.from-2.ensures c.index_mut.ensures.value in
    agent_runs c.streams_are_ready.ensures self c.send_behind.new.self c.args.node c.args.hold c.from-2.result own c.own_step.new.self c.note.new.self c.accept.new.self made
    c.in_ok-made.ensures.life c.from-2.ensures c.index_mut.ensures.value c.in_ok-made.ensures.steps
    (c.in_ok-note.ensures ∙ ap (λ (n : ℕ). self.places.given ++ places_in n made.reply) read)
    (c.in_ok-accept.ensures.offers ∙ (c.in_ok-offer.ensures.offers ∙ ap (λ (o : Option OfferNote). self.notes.offers.items ++ option_to_list o) (c.note_of.ensures ∙ ap (λ (n : ℕ). option_map (note_with c.args.node n) made.begun) read)))
    (c.in_ok-accept.ensures.accepted ∙ (ap (λ (l : List LifeEnd). l ++ map (end_in c.index.result.now.life) (option_to_list made.accepted)) c.in_ok-offer.ensures.accepted ∙ ap (λ (n : ℕ). self.notes.accepted ++ map (end_in n) (option_to_list made.accepted)) read))
    c.in_ok-send_behind.ensures.notes c.in_ok-send_behind.ensures.sends
