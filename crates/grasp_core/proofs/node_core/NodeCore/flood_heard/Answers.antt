use Rattle.std.proofs.lemmas.Bool.{lt-leb}
use Rattle.grasp_model_node.specs.Datagrams.{loops_of}
use Rattle.grasp_core.proofs.Came.{kept_few}
use Rattle.grasp_core.proofs.Heard.{on_ok}
use Rattle.grasp_core.proofs.node_core.NodeCore.flood_heard.Goals as goal

pub returns-then-loops-lt2-clause-ok : goal.returns-then-loops-lt2-clause-ok
returns-then-loops-lt2-clause-ok c =
    on_ok c.keep_only.result (λ f n h. kept_few _ n c.args.link c.args.session c.args.initiator c.args.ttl c.args.parts.now _ (lt-leb 2 (loops_of c.args.parts.now) (rw c.loops_of-loops.ensures at c.if-loops-lt2.true)) (f n h)) c.keep_only.ensures.ok
