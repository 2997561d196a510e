use Rattle.std.proofs.Common.{◌∙◌, sym}
use Rattle.grasp_core.proofs.StreamRecords.{none_opener, some_opener}
use Rattle.grasp_core.proofs.streams.Streams.opener.Goals as goal

pub returns-in-Some : goal.returns-in-Some
returns-in-Some c s h = some_opener c.args.stream c.args.self.now s c.in-Some.i c.index.result.now h (sym c.in-Some.is ∙ c.place.ensures) c.index.ensures

pub returns-in-None : goal.returns-in-None
returns-in-None c s h = none_opener c.args.stream c.args.self.now s h (sym c.in-None.is ∙ c.place.ensures)
