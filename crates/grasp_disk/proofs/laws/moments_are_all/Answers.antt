use Rattle.std.specs.Prelude.{IsTrue}
use Rattle.grasp_disk.proofs.Moments.{moments_behind, behind_moments}
use Rattle.grasp_disk.proofs.laws.moments_are_all.Goals as goal

pub returns : goal.returns
returns c = λ s made test. (moments_behind s (λ content. IsTrue (test content)) made, behind_moments s (λ content. IsTrue (test content)) made)
