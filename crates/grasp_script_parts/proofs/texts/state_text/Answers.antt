use Rattle.std.proofs.Common.{rules, ◌≡◌}
use Rattle.grasp_text.specs.Words.{spaced}
use Rattle.grasp_script.specs.Reports.{state_words}
use Rattle.grasp_script_parts.proofs.texts.state_text.Goals as goal

pub returns : goal.returns
returns c =
    let is : c.as_str.result.now ≡ spaced (state_words c.args.agent.now.pool) = search rules in
    c.unspaced.ensures (state_words c.args.agent.now.pool) is
