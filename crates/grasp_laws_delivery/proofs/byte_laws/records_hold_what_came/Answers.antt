use Rattle.grasp_laws_delivery.proofs.Heard.Networks as lemmas
use Rattle.grasp_laws_delivery.proofs.byte_laws.records_hold_what_came.Goals as goal

pub returns : goal.returns
returns c = lemmas.records_hold_what_came c.streams_are_ready.ensures
