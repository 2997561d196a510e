use Rattle.std.proofs.Common.{[], ◌∷◌}
use Rattle.grasp_cbor.proofs.Facts.Options.{on_ok}
use Rattle.grasp_script_draws.specs.Generator.{want_line, agent_line, arrive_line, far_line}
use Rattle.grasp_script_draws.proofs.LinesWritten.{lines_pushed}
use Rattle.grasp_script_draws.proofs.rounds.push_request.Goals as goal

pub returns : goal.returns
returns c =
    let d = c.args.draws.now in
    let r = c.args.round in
    on_ok c.push_bytes.result c.push_bytes.ensures (λ e.
    lines_pushed _ _ _ (want_line d.asking d.length d.asked ∷ []) (agent_line d.asking ∷ arrive_line r ∷ far_line r ∷ []) c.in_ok-push_line.ensures
    (lines_pushed _ _ _ (agent_line d.asking ∷ []) (arrive_line r ∷ far_line r ∷ []) c.in_ok-push_line-2.ensures
    (lines_pushed _ _ _ (arrive_line r ∷ []) (far_line r ∷ []) c.in_ok-push_line-3.ensures e)))
