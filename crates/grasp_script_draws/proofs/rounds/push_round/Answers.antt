use Rattle.std.proofs.Common.{◌++◌}
use Rattle.grasp_cbor.proofs.Facts.Options.{on_ok}
use Rattle.grasp_script_draws.specs.Drawing.{drawn_of}
use Rattle.grasp_script_draws.specs.Generator.{request_lines, bargain_lines, ending_lines, round_lines}
use Rattle.grasp_script_draws.proofs.LinesWritten.{lines_pushed}
use Rattle.grasp_script_draws.proofs.rounds.push_round.Goals as goal

pub returns : goal.returns
unfolding round_lines
returns c =
    let d = drawn_of c.args.draws.now in
    let r = c.args.round in
    on_ok c.push_ending.result c.push_ending.ensures (λ e.
    lines_pushed _ _ _ (request_lines r d) (bargain_lines r d ++ ending_lines r d) c.in_ok-push_request.ensures
    (lines_pushed _ _ _ (bargain_lines r d) (ending_lines r d) c.in_ok-push_bargain.ensures e))
