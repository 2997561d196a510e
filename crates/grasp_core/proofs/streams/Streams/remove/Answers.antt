use Rattle.std.proofs.Common.{◌∙◌, sym, refl}
use Rattle.grasp_core.proofs.StreamRecords.{none_removed, some_removed}
use Rattle.grasp_core.proofs.streams.Streams.remove.Goals as goal

pub returns-in-Some-clause-removes : goal.returns-in-Some-clause-removes
returns-in-Some-clause-removes c s h =
    some_removed c.args.stream c.args.self.now (record c.args.self.now { held = c.remove-stream.new.self }) s c.in-Some.i h (sym c.in-Some.is ∙ c.place.ensures) c.remove-stream.ensures.items refl refl

pub returns-in-None-clause-removes : goal.returns-in-None-clause-removes
returns-in-None-clause-removes c s h = none_removed c.args.stream c.args.self.now s h (sym c.in-None.is ∙ c.place.ensures)
