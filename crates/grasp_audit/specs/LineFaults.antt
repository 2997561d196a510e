-- Inside: why a line fails, as an audit tells it.
use Rattle.std.specs.Prelude.{ℕ, Bool, true, false, Result, Ok, Err}
use Rattle.grasp_cbor.specs.declared.memory.OutOfMemory.{OutOfMemory}
use Rattle.grasp_model_network.specs.declared.report.WorldStop.{WorldStop}
use Rattle.grasp_model_network.specs.declared.report.WorldStop.TheVariants as stop
use Rattle.grasp_model_audit.specs.declared.verdict.AuditFault.{AuditFault}
use Rattle.grasp_model_audit.specs.declared.verdict.AuditFault.TheVariants as audit
use Rattle.grasp_audit.specs.declared.fault.LineFault.{LineFault}
use Rattle.grasp_audit.specs.declared.fault.LineFault.TheVariants as fault

-- what a stop of the audit's own network comes to
abbrev pub stopped_by : WorldStop → LineFault
stopped_by stop.TooMuch = fault.TooMuch
stopped_by stop.OutOfMemory = fault.OutOfMemory

-- whether it is told so, or want of memory
abbrev pub told_of : Result Bool OutOfMemory → Result Bool LineFault
told_of (Ok is_so) = Ok is_so
told_of (Err e) = Err fault.OutOfMemory

-- a line is to be answered as it says
abbrev pub verdict_of : Result Bool LineFault → Result (Unit {0}) LineFault
verdict_of (Ok true) = Ok tt
verdict_of (Ok false) = Err fault.NotStep
verdict_of (Err f) = Err f

-- the fault of a text whose line of this number fails so
abbrev pub fault_at : LineFault → ℕ → AuditFault
fault_at fault.BadRecord line = audit.BadRecord line
fault_at fault.NotSent line = audit.NotSent line
fault_at fault.NotAgent line = audit.NotAgent line
fault_at fault.TooMuch line = audit.TooMuch
fault_at fault.NotStep line = audit.NotStep line
fault_at fault.OutOfMemory line = audit.OutOfMemory
