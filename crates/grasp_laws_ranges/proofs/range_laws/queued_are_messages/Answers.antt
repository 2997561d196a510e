use Rattle.grasp_laws_ranges.proofs.Messages as lemmas
use Rattle.grasp_laws_ranges.proofs.range_laws.queued_are_messages.Goals as goal

pub returns : goal.returns
returns c = lemmas.queued_are_messages
