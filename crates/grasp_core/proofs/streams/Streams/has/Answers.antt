use Rattle.std.proofs.Common.{◌∙◌, ap, is_some}
use Rattle.grasp_core.proofs.StreamRecords.{zip_place}
use Rattle.grasp_core.proofs.streams.Streams.has.Goals as goal

pub returns : goal.returns
returns c s h = c.is_some.ensures ∙ ap is_some (c.place.ensures ∙ zip_place c.args.stream c.args.self.now.limit c.args.self.now.held.items s.records h.held)
