use Rattle.std.proofs.Common.{◌∙◌}
use Rattle.grasp_runner.proofs.NumberedTexts.{no_bad_line, read_drawn}
use Rattle.grasp_runner.proofs.drawn.drawn_script.Goals as goal

pub returns-in-Ok : goal.returns-in-Ok
returns-in-Ok c = read_drawn c.args.number c.bytes.result.now c.in-Ok.script (c.bytes.ensures ∙ c.in_ok-text.ensures) c.in-Ok.ensures.found

pub unreachable-requires : goal.unreachable-requires
unreachable-requires c =
    no_bad_line c.drawn_texts_are_scripts.ensures c.args.number c.bytes.result.now (c.bytes.ensures ∙ c.in_ok-text.ensures) (rw c.in-Err-BadScript.field-0-is at c.in-Err-BadScript.ensures.none)
