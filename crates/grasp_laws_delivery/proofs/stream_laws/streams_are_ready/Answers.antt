use Rattle.grasp_laws_delivery.proofs.StreamsReady.{streams_ready}
use Rattle.grasp_laws_delivery.proofs.stream_laws.streams_are_ready.Goals as goal

pub returns : goal.returns
returns c = streams_ready c.ties_are_kept.ensures
