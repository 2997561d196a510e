use Rattle.grasp_session.proofs.Ending.{end_keeps}
use Rattle.grasp_session.proofs.session.Session.end.Goals as goal

pub returns-clause-kept : goal.returns-clause-kept
returns-clause-kept c = λ x e k. end_keeps c.args.self.now c.finish.new.self x c.args.now c.args.verdict c.args.ending c.finish.ensures c.requires e k
