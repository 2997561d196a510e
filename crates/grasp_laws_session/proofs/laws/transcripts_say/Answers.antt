use Rattle.grasp_laws_session.proofs.InWords.{turns_parity, deadlines_largest}
use Rattle.grasp_laws_session.proofs.laws.transcripts_say.Goals as goal

pub returns : goal.returns
returns c = record { turn = turns_parity; deadline = deadlines_largest }
