use Rattle.std.proofs.Common.{refl}
use Rattle.grasp_replay_main.proofs.Settling.{resolve_stopped}
use Rattle.grasp_replay_main.proofs.resolve.resolve.Goals as goal

pub returns-in-Err-TooMuch-clause-stopped : goal.returns-in-Err-TooMuch-clause-stopped
returns-in-Err-TooMuch-clause-stopped g c = λ e.
    let law = c.each_doubt_is_resolved.ensures in
    let script = c.in_ok-script.script in
    resolve_stopped law c.args.input.now script.plan script.lines c.in_ok-script.ensures.found _ _
    ((rw c.in-Err-TooMuch.field-0-is at c.in-Err-TooMuch.ensures.stopped) refl)
