use Rattle.grasp_cbor.proofs.Levels.{length-levels_in}
use Rattle.grasp_cbor.proofs.walker.Walk.first_fault.Goals as goal

pub returns-in-None : goal.returns-in-None
returns-in-None c = rw (c.in-None.is, length-levels_in c.args.self.now.depth c.args.self.now.levels, ← c.may_break.ensures) c.start_fault.ensures
