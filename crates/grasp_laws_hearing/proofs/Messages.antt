-- What one message does that comes on an open stream.
use Rattle.grasp_laws_hearing.proofs.First.{hears_first}
use Rattle.grasp_laws_hearing.proofs.Later.{hears_later}
use Rattle.grasp_laws_hearing.specs.Messages.{MessagesAreHeard}

pub messages_are_heard : MessagesAreHeard
messages_are_heard n stream m k = record { later = λ place x is. hears_later n stream place x m k is; first = λ none. hears_first n stream m k none }
