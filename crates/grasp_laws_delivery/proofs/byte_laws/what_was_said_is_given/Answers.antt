use Rattle.grasp_laws_delivery.proofs.FitNetworks.{said_fits}
use Rattle.grasp_laws_delivery.proofs.Given.{given_first, added_next}
use Rattle.grasp_laws_delivery.proofs.byte_laws.what_was_said_is_given.Goals as goal

pub returns : goal.returns
returns c = record {
  given = λ s w r. given_first c.streams_are_ready.ensures s w r (said_fits s w r);
  added = λ s w r. added_next c.streams_are_ready.ensures s w r (said_fits s w r);
}
