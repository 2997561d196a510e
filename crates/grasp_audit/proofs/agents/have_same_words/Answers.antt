use Rattle.std.proofs.Common.{rules, ◌≡◌}
use Rattle.grasp_script.specs.Calls.{call_words}
use Rattle.grasp_text.specs.Words.{spaced}
use Rattle.grasp_audit.proofs.Comparing.{same_calls}
use Rattle.grasp_audit.proofs.agents.have_same_words.Goals as goal

pub returns : goal.returns
returns c =
    let first : c.as_bytes.result.now ≡ spaced (call_words c.args.one.now) = search rules in
    let second : c.as_bytes-2.result.now ≡ spaced (call_words c.args.other.now) = search rules in
    same_calls c.args.one.now c.args.other.now c.as_bytes.result.now c.as_bytes-2.result.now c.are_same.result c.call_fits.ensures c.call_fits-2.ensures first second c.are_same.ensures
