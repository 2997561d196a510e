use Rattle.grasp_core.proofs.SomethingComes.{something_comes, one_comes}
use Rattle.grasp_core.proofs.comings.something_comes.Goals as goal

pub returns : goal.returns
returns c = record { some = something_comes; one = one_comes }
