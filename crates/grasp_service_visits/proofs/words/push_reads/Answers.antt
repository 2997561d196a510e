use Rattle.grasp_service_visits.proofs.Shown.{shows_on}
use Rattle.grasp_service_visits.proofs.words.push_reads.Goals as goal

pub loop-servant-preserved : goal.loop-servant-preserved
loop-servant-preserved c = shows_on _ _ _ c.loop-servant.invariant c.in_ok-push_reads_of.ensures
