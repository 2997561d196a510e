use Rattle.std.proofs.Common.{◌∙◌, sym, None}
use Rattle.grasp_core.proofs.StreamRecords.{none_set, shut_at}
use Rattle.grasp_core.proofs.streams.Streams.close.Goals as goal

pub returns-in-Some-clause-closes : goal.returns-in-Some-clause-closes
returns-in-Some-clause-closes c s h = shut_at c.args.stream c.args.self.now s c.in-Some.i c.index_mut.result.now c.shut.new.stream h (sym c.in-Some.is ∙ c.place.ensures) c.index_mut.ensures.value c.shut.ensures

pub returns-in-None-clause-closes : goal.returns-in-None-clause-closes
returns-in-None-clause-closes c s h = none_set c.args.stream None c.args.self.now s h (sym c.in-None.is ∙ c.place.ensures)
