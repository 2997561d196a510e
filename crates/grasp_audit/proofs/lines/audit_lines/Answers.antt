use Rattle.std.proofs.Common.{rules, arith, ◌≡◌, length, sym, subst, Err}
use Rattle.grasp_model_audit.specs.declared.verdict.AuditFault.{AuditFault}
use Rattle.grasp_audit.specs.Rest.{AuditsLines}
use Rattle.grasp_audit.proofs.Behind.{all_held, begins, goes_so, one_fails, one_holds}
use Rattle.grasp_audit.proofs.Heading.{no_bytes}
use Rattle.grasp_audit.proofs.lines.audit_lines.Goals as goal

pub loop-rest-init : goal.loop-rest-init
loop-rest-init c = record { so = begins c.args.world.now c.args.nodes c.args.text.now c.args.number; room = omega arith }

pub audit_line-requires : goal.audit_line-requires
audit_line-requires c = goes_so c.args.world.now c.loop-rest.world c.args.nodes c.args.text.now c.loop-rest.rest.now c.args.number c.loop-rest.last c.loop-rest.invariant.so c.requires.goes

pub loop-rest-preserved : goal.loop-rest-preserved
loop-rest-preserved c =
    let less = c.split_line.ensures.less in record {
      so = one_holds c.args.world.now c.loop-rest.world c.args.nodes c.args.text.now c.loop-rest.rest.now c.args.number c.loop-rest.last c.loop-rest.invariant.so
          c.split_line.result.0.now c.split_line.result.1.now c.split_line.ensures.first c.audit_line.new.world c.in-Ok.ensures;
      room = omega (arith, c.loop-rest.invariant.room, less);
    }

pub returns-in-Err : goal.returns-in-Err
returns-in-Err c =
    subst (λ (f : AuditFault). AuditsLines c.args.world.now c.args.nodes c.args.text.now c.args.number (Err f)) (sym c.fault_at.ensures)
    (one_fails c.args.world.now c.loop-rest.world c.args.nodes c.args.text.now c.loop-rest.rest.now c.args.number c.loop-rest.last c.loop-rest.invariant.so
    c.split_line.result.0.now c.split_line.result.1.now c.split_line.ensures.first c.audit_line.new.world c.in-Err.fault c.in-Err.ensures)

pub returns : goal.returns
returns c =
    let none : length c.loop-rest.rest.now ≡ 0 = search rules in
    all_held c.args.world.now c.loop-rest.world c.args.nodes c.args.text.now c.loop-rest.rest.now c.args.number c.loop-rest.last c.loop-rest.invariant.so (no_bytes c.loop-rest.rest.now none)
