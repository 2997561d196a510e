use Rattle.std.proofs.Common.{◌∙◌, sym, Some}
use Rattle.grasp_core.proofs.StreamRecords.{none_set, put_at}
use Rattle.grasp_core.proofs.streams.Streams.put.Goals as goal

pub returns-in-Some-clause-puts : goal.returns-in-Some-clause-puts
returns-in-Some-clause-puts c x h k =
    put_at c.args.stream x.past c.args.self.now x.streams c.in-Some.i c.index_mut.result.now c.put_cutter.new.stream c.args.cutter h k (sym c.in-Some.is ∙ c.place.ensures) c.index_mut.ensures.value c.put_cutter.ensures

pub returns-in-None-clause-puts : goal.returns-in-None-clause-puts
returns-in-None-clause-puts c x h k = none_set c.args.stream (Some x.past) c.args.self.now x.streams h (sym c.in-None.is ∙ c.place.ensures)
