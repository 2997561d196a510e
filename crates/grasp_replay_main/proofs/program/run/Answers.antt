use Rattle.grasp_replay_main.proofs.Outcomes.{draw_made, gen_made}
use Rattle.grasp_replay_main.proofs.program.run.Goals as goal

pub returns-in-Show-clause-made : goal.returns-in-Show-clause-made
returns-in-Show-clause-made g c = rw c.in-Show.is (rw c.in-Show.is at c.read_and_write.ensures.made)

pub returns-in-Gen-clause-made : goal.returns-in-Gen-clause-made
returns-in-Gen-clause-made g c =
    let before = g.K.Sink.written c.args.sink.now in
    let after = g.K.Sink.written c.generate.new.sink in
    rw c.in-Gen.is (gen_made c.in-Gen.number 2048 before after c.generate.result c.generate.ensures.ended c.generate.ensures.done)

pub returns-in-Draw-clause-made : goal.returns-in-Draw-clause-made
returns-in-Draw-clause-made g c =
    let before = g.K.Sink.written c.args.sink.now in
    let after = g.K.Sink.written c.draw.new.sink in
    rw c.in-Draw.is (draw_made c.in-Draw.number 2048 before after c.draw.result c.draw.ensures.ended c.draw.ensures.done)
