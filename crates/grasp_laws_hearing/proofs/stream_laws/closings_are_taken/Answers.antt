use Rattle.grasp_laws_hearing.proofs.Streams as lemmas
use Rattle.grasp_laws_hearing.proofs.stream_laws.closings_are_taken.Goals as goal

pub returns : goal.returns
returns c = lemmas.closings_are_taken
