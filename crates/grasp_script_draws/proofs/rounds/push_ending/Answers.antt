use Rattle.std.proofs.Common.{[], ◌∷◌, ◌++◌, ◌*◌}
use Rattle.grasp_cbor.proofs.Facts.Options.{on_ok}
use Rattle.grasp_script_draws.specs.Generator.{agent_lines, last_line, clock_line}
use Rattle.grasp_script_draws.proofs.LinesWritten.{lines_pushed}
use Rattle.grasp_script_draws.proofs.rounds.push_ending.Goals as goal

pub returns : goal.returns
returns c =
    let d = c.args.draws.now in
    let r = c.args.round in
    let last = agent_lines 2 d.asked ++ clock_line d.asked (100 * r) ∷ [] in
    on_ok c.push_line.result c.push_line.ensures (λ e.
    lines_pushed _ _ _ (agent_lines 5 d.asking) (last_line r d.chance ∷ last) c.in_ok-push_agents.ensures
    (lines_pushed _ _ _ (last_line r d.chance ∷ []) last c.in_ok-push_last.ensures
    (lines_pushed _ _ _ (agent_lines 2 d.asked) (clock_line d.asked (100 * r) ∷ []) c.in_ok-push_agents-2.ensures e)))
