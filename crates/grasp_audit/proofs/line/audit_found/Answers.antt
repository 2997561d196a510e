use Rattle.std.proofs.Common.{rules, arith, ◌≡◌, Bool, false, subst}
use Rattle.grasp_audit.specs.Lines.{TellsInTime}
use Rattle.grasp_audit.proofs.ReadLines.{fails_late}
use Rattle.grasp_audit.proofs.line.audit_found.Goals as goal

pub returns-else-is_in_time : goal.returns-else-is_in_time
returns-else-is_in_time c =
    let no : c.is_in_time.result ≡ false = search rules in
    fails_late c.args.world.now c.args.nodes c.args.text.now c.args.line.now c.requires c.record_lines_mean_one_thing.ensures (omega arith)
    (subst (λ (b : Bool). TellsInTime c.args.world.now c.args.line.now b) no c.is_in_time.ensures)
