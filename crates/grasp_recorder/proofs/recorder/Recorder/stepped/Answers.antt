use Rattle.grasp_recorder.proofs.Steps.{drains_taken, held_asked, held_nothing, held_stopped, reads_taken, taken_recorded, taken_some}
use Rattle.grasp_recorder.proofs.recorder.Recorder.stepped.Goals as goal

pub step-requires : goal.step-requires
step-requires c = held_asked c.args.self.now c.args.world.now c.args.event c.undrained.result c.requires.can c.undrained.ensures

pub brought-known-requires : goal.brought-known-requires
brought-known-requires c =
    taken_some c.args.self.now c.args.world.now c.step.new.self c.args.event c.undrained.result c.in-Ok.report c.in-Some.answer c.args.taken c.requires.step c.requires.can c.undrained.ensures c.in-Ok.ensures c.in-Some.ensures c.requires.taken

pub reading-now-requires : goal.reading-now-requires
reading-now-requires c =
    reads_taken c.args.self.now c.args.world.now c.step.new.self c.args.event c.undrained.result c.in-Ok.report c.in-Some.answer c.args.taken c.requires.step c.requires.can c.undrained.ensures c.in-Ok.ensures c.in-Some.ensures c.requires.taken
    c.brought-known.result c.brought-known.ensures

pub step_told-requires : goal.step_told-requires
step_told-requires c = λ drained.
    drains_taken c.args.self.now c.args.world.now c.step.new.self c.args.event c.undrained.result c.in-Ok.report c.in-Some.answer c.args.taken c.requires.step c.requires.can c.undrained.ensures c.in-Ok.ensures c.in-Some.ensures c.requires.taken
    c.brought-known.result c.brought-known.ensures

pub returns-in-Some : goal.returns-in-Some
returns-in-Some c =
    taken_recorded c.args.self.now c.args.world.now c.step.new.self c.args.event c.undrained.result c.in-Ok.report c.in-Some.answer c.args.taken c.requires.step c.requires.can c.undrained.ensures c.in-Ok.ensures c.in-Some.ensures c.requires.taken
    c.brought-known.result c.brought-known.ensures c.steps_are_present.ensures c.step_told.new.world c.reading-now.result c.is_drained-drained.result c.step_told.result c.reading-now.ensures c.is_drained-drained.ensures c.step_told.ensures

pub returns-in-None : goal.returns-in-None
returns-in-None c = held_nothing c.args.self.now c.args.world.now c.step.new.self c.args.event c.undrained.result c.in-Ok.report _ c.requires.step c.undrained.ensures c.in-Ok.ensures c.in-None.ensures c.new.ensures

pub returns-in-Err : goal.returns-in-Err
returns-in-Err c = held_stopped c.args.self.now c.args.world.now c.step.new.self c.args.event c.undrained.result c.in-Err.stop c.undrained.ensures c.in-Err.ensures
