use Rattle.std.proofs.Common.{refl}
use Rattle.grasp_core.proofs.Recorded.{recorded}
use Rattle.grasp_core.proofs.streams.Streams.record_closing.Goals as goal

pub returns-clause-stands : goal.returns-clause-stands
returns-clause-stands c = λ s h. recorded c.args.self.now _ s h refl c.in-Ok.ensures.items refl
