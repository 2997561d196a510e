use Rattle.std.proofs.Common.{[], ◌∷◌, ◌++◌}
use Rattle.grasp_cbor.proofs.Facts.Options.{on_ok}
use Rattle.grasp_script_draws.specs.Generator.{agent_lines, far_line, near_line}
use Rattle.grasp_script_draws.proofs.LinesWritten.{lines_pushed}
use Rattle.grasp_script_draws.proofs.rounds.push_bargain.Goals as goal

pub returns : goal.returns
returns c =
    let d = c.args.draws.now in
    let r = c.args.round in
    let last = agent_lines 3 d.asked ++ near_line r ∷ [] in
    let middle = agent_lines 3 d.asking ++ far_line r ∷ last in
    on_ok c.push_bytes-3.result c.push_bytes-3.ensures (λ e.
    lines_pushed _ _ _ (agent_lines 3 d.asked) (near_line r ∷ middle) c.in_ok-push_agents.ensures
    (lines_pushed _ _ _ (near_line r ∷ []) middle c.in_ok-push_bytes.ensures
    (lines_pushed _ _ _ (agent_lines 3 d.asking) (far_line r ∷ last) c.in_ok-push_agents-2.ensures
    (lines_pushed _ _ _ (far_line r ∷ []) last c.in_ok-push_bytes-2.ensures
    (lines_pushed _ _ _ (agent_lines 3 d.asked) (near_line r ∷ []) c.in_ok-push_agents-3.ensures e)))))
