use Rattle.grasp_runner.proofs.Ends.{nothing_front}
use Rattle.grasp_recorder.proofs.Headers.{header_front, header_put, no_stop}
use Rattle.grasp_recorder.proofs.header.write_header.Goals as goal

pub returns-in-Ok-clause-passed : goal.returns-in-Ok-clause-passed
returns-in-Ok-clause-passed g c = header_put c.args.text.now c.args.script.now.lines c.in-Ok.count _ _ _ c.put_lines.result c.in-Ok.ensures.whole c.put_lines.ensures.passed

pub returns-in-Ok-clause-front : goal.returns-in-Ok-clause-front
returns-in-Ok-clause-front g c = header_front c.args.text.now c.args.script.now.lines c.in-Ok.count _ _ c.put_lines.result c.in-Ok.ensures.whole c.put_lines.ensures.front

pub returns-in-Ok-clause-stop : goal.returns-in-Ok-clause-stop
returns-in-Ok-clause-stop g c = no_stop c.put_lines.result c.put_lines.ensures.stop

pub returns-in-Err-clause-front : goal.returns-in-Err-clause-front
returns-in-Err-clause-front g c = nothing_front _ _
