use Rattle.grasp_laws_session.proofs.Standing.{known_holds}
use Rattle.grasp_laws_session.proofs.Turns.{turns_hold, offers_hold}
use Rattle.grasp_laws_session.proofs.laws.turns_hold.Goals as goal

pub returns : goal.returns
returns c = record { turn = turns_hold; known = known_holds; offer = offers_hold }
