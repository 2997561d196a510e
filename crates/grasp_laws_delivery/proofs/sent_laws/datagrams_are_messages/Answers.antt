use Rattle.grasp_laws_delivery.proofs.SentBytes as lemmas
use Rattle.grasp_laws_delivery.proofs.sent_laws.datagrams_are_messages.Goals as goal

pub returns : goal.returns
returns c = lemmas.datagrams_are_messages
