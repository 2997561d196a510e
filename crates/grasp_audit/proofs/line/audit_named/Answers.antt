use Rattle.std.proofs.Common.{rules, ◌≡◌, Bool, true, false, subst}
use Rattle.grasp_audit.specs.Lines.{TellsAgent}
use Rattle.grasp_audit.proofs.Asking.{fails_unasked}
use Rattle.grasp_audit.proofs.line.audit_named.Goals as goal

pub audit_asked-requires : goal.audit_asked-requires
audit_asked-requires c =
    let is : c.in-Ok.yes ≡ true = search rules in
    record { named = c.requires; tells = subst (λ (b : Bool). TellsAgent c.args.world.now c.args.line.now b) is c.in-Ok.ensures }

pub returns-else-yes : goal.returns-else-yes
returns-else-yes c =
    let is : c.in-Ok.yes ≡ false = search rules in
    fails_unasked c.args.world.now c.args.nodes c.args.text.now c.args.line.now c.args.event c.requires (subst (λ (b : Bool). TellsAgent c.args.world.now c.args.line.now b) is c.in-Ok.ensures)
