use Rattle.grasp_laws_session.proofs.Ends.{views, unseen}
use Rattle.grasp_laws_session.proofs.laws.views_trail.Goals as goal

pub returns : goal.returns
returns c = record { views = views; unseen = unseen }
