use Rattle.grasp_service_visits.proofs.Shown.{shows_on}
use Rattle.grasp_service_visits.proofs.words.push_counters.Goals as goal

pub loop-name-preserved : goal.loop-name-preserved
loop-name-preserved c = shows_on _ _ _ c.loop-name.invariant c.in_ok-push_counter.ensures
