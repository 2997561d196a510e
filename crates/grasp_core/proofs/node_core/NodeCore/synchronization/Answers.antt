use Rattle.grasp_core.proofs.Heard.{not_synch, no_value}
use Rattle.grasp_core.proofs.node_core.NodeCore.synchronization.Goals as goal

pub returns-then-not-has_synch-clause-ok : goal.returns-then-not-has_synch-clause-ok
returns-then-not-has_synch-clause-ok c = λ n h.
    not_synch c.decline.new.self n c.args.stream c.args.session c.args.objective c.has_synch.result c.has_synch.ensures c.if-not-has_synch.true (c.in_ok-decline.ensures.ok n h)

pub returns-in_ok-decline-in-Ok-None-clause-ok : goal.returns-in_ok-decline-in-Ok-None-clause-ok
returns-in_ok-decline-in-Ok-None-clause-ok c = λ n h.
    no_value c.decline-in-Ok-None.new.self n c.args.stream c.args.session c.args.objective c.args.self.now.registry (rw c.in-Ok-None.field-0-is at c.in-Ok-None.ensures.offered) h.registrations (c.in_ok-decline-in-Ok-None.ensures.ok n h)
