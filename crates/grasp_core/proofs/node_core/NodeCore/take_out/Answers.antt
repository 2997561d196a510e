use Rattle.std.proofs.Common.{ℕ, subst}
use Rattle.grasp_core.proofs.TakenPieces.{takes_out}
use Rattle.grasp_core.specs.Stands.{CutsAs}
use Rattle.grasp_model_node.specs.Streams.{past_of}
use Rattle.grasp_core.proofs.node_core.NodeCore.take_out.Goals as goal

pub returns-clause-cutter : goal.returns-clause-cutter
returns-clause-cutter c n h = subst (λ (l : ℕ). CutsAs l c.take.result (past_of n.streams c.args.stream)) h.limit (c.take.ensures.cutter n.streams h.streams)

pub returns-clause-then : goal.returns-clause-then
returns-clause-then c n h = takes_out c.args.self.now n c.take.new.self c.args.stream h c.take.ensures.limit c.take.ensures.rest
