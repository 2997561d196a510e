use Rattle.std.proofs.Common.{◌∙◌, sym}
use Rattle.grasp_core.proofs.StreamRecords.{none_cut, none_taken, some_cut, taken_at}
use Rattle.grasp_core.proofs.streams.Streams.take.Goals as goal

pub returns-in-Some-clause-cutter : goal.returns-in-Some-clause-cutter
returns-in-Some-clause-cutter c s h =
    some_cut c.args.stream c.args.self.now s c.in-Some.i c.index_mut.result.now c.take_cutter.result h (sym c.in-Some.is ∙ c.place.ensures) c.index_mut.ensures.value c.take_cutter.ensures.cutter

pub returns-in-Some-clause-rest : goal.returns-in-Some-clause-rest
returns-in-Some-clause-rest c s h =
    taken_at c.args.stream c.args.self.now s c.in-Some.i c.index_mut.result.now c.take_cutter.new.stream h (sym c.in-Some.is ∙ c.place.ensures) c.index_mut.ensures.value c.take_cutter.ensures.rest

pub returns-in-None-clause-cutter : goal.returns-in-None-clause-cutter
returns-in-None-clause-cutter c s h = none_cut c.args.stream c.args.self.now s h (sym c.in-None.is ∙ c.place.ensures)

pub returns-in-None-clause-rest : goal.returns-in-None-clause-rest
returns-in-None-clause-rest c s h = none_taken c.args.stream c.args.self.now s h (sym c.in-None.is ∙ c.place.ensures)
