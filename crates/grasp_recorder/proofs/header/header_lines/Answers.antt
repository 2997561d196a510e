use Rattle.grasp_recorder.proofs.Headers.{header_whole, header_within}
use Rattle.grasp_recorder.proofs.header.header_lines.Goals as goal

pub returns-in-Ok-clause-whole : goal.returns-in-Ok-clause-whole
returns-in-Ok-clause-whole c = header_whole c.args.text.now _ c.args.script.now.plan c.in-Ok.head.plan c.args.script.now.lines c.in-Ok.head.lines c.requires c.in-Ok.ensures.read

pub returns-in-Ok-clause-within : goal.returns-in-Ok-clause-within
returns-in-Ok-clause-within c = header_within c.args.text.now _ c.in-Ok.head.plan c.in-Ok.head.lines c.in-Ok.ensures.read

pub unreachable-requires : goal.unreachable-requires
unreachable-requires c = (rw c.in-Err-BadScript.field-0-is at c.in-Err-BadScript.ensures.none) c.args.script.now.plan c.args.script.now.lines c.requires
