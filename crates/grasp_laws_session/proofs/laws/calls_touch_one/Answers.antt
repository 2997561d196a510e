use Rattle.grasp_laws_session.proofs.Made.{calls_touch_one, live_first, views_built}
use Rattle.grasp_laws_session.proofs.laws.calls_touch_one.Goals as goal

pub returns : goal.returns
returns c = record { one = calls_touch_one; stream = live_first; built = views_built }
