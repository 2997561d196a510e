use Rattle.std.proofs.Common.{◌≡◌, ◌+◌, ◌-◌, ◌^◌, arith}
use Rattle.std.specs.Prelude.{min}
use Rattle.grasp_service_visits.proofs.Requests.{awaits_made}
use Rattle.grasp_service_visits.proofs.calling.await_call.Goals as goal

pub returns : goal.returns
returns c =
    let e : c.saturating_add-until.result ≡ min (c.args.now + c.args.millis) (2 ^ 64 - 1) = omega arith in
    awaits_made _ _ _ _ _ _ _ _ _ _ _ _ c.in_ok-reply.ensures e c.wait_or_tell.ensures
