use Rattle.grasp_laws_delivery.proofs.Said.Networks.{said_is_sent_or_queued}
use Rattle.grasp_laws_delivery.proofs.byte_laws.what_is_said_is_sent_or_queued.Goals as goal

pub returns : goal.returns
returns c = said_is_sent_or_queued c.streams_are_ready.ensures
