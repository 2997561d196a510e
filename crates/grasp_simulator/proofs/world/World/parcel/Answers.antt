use Rattle.std.proofs.Common.{option_map}
use Rattle.grasp_simulator.proofs.Lent.{parcel_lent}
use Rattle.grasp_simulator.proofs.world.World.parcel.Goals as goal

pub returns : goal.returns
returns c = parcel_lent c.args.self.now c.args.index (option_map (λ code. code.now) c.parcel_at.result) c.parcel_at.ensures
