use Rattle.grasp_laws_lives.proofs.Courses as lemmas
use Rattle.grasp_laws_lives.proofs.lives_laws.lives_take_turns.Goals as goal

pub returns : goal.returns
returns c = lemmas.lives_take_turns c.members_take_turns.ensures
