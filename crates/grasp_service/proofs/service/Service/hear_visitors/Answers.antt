use Rattle.std.proofs.Common.{refl}
use Rattle.grasp_service.proofs.Following.{visitors_heard}
use Rattle.grasp_service.proofs.service.Service.hear_visitors.Goals as goal

pub returns : goal.returns
returns g c = visitors_heard _ _ _ _ _ _ _ _ _ _ _ _ _ _ c.in_ok-some.ensures c.in_ok-tend_seats.ensures refl refl c.keep_staying.ensures refl
