use Rattle.grasp_wire.specs.Cutter.{Past}
use Rattle.grasp_wire.specs.Stands.{Stands, waiting_count}
use Rattle.grasp_trace.specs.Messages.{telling, HasTold}
use Rattle.grasp_trace.specs.Trace.{page_sheet}
use Rattle.grasp_trace.proofs.page.Page.tell_all.Given as goal

abbrev pub invariant-loop-waits : goal.invariant-loop-waits
invariant-loop-waits g l =
    (past : Past) → Stands l.fn.cutter past → HasTold l.what l.stream (telling past l.fn.cutter (page_sheet g.K.Sink.written g.K.Sink.faults l.fn.self)) l.cutter (page_sheet g.K.Sink.written g.K.Sink.faults l.self)

abbrev pub decreases-loop-waits : goal.decreases-loop-waits
decreases-loop-waits g l = waiting_count l.cutter
