-- What is written of what comes and what goes.
use Rattle.std.specs.Prelude.{◌≡◌, ℕ, true, false, List, codes}
use Rattle.grasp_io.specs.declared.links.Asked.{Asked}
use Rattle.grasp_io.specs.declared.links.Asked.TheVariants.{Got, Nothing, OutOfMemory}
use Rattle.grasp_io.specs.declared.links.Sent.{Sent}
use Rattle.grasp_io.specs.declared.links.Sent.TheVariants as sent
use Rattle.grasp_types.specs.declared.traffic.Input.{Input}
use Rattle.grasp_types.specs.declared.traffic.Input.TheVariants.{Api, Datagram, Opened, Bytes, Closed, Drain}
use Rattle.grasp_types.specs.declared.traffic.Output.{Output}
use Rattle.grasp_types.specs.declared.traffic.Output.TheVariants as out
use Rattle.grasp_trace.specs.Lines.{IsDatagramLine, opening_line, dial_line, closing_line}
use Rattle.grasp_trace.specs.Messages.{TellsPiece, Begins, Ends}
use Rattle.grasp_trace.specs.Sheet.{IsQuiet, TellsOne}
use Rattle.grasp_trace.specs.Trace.{Trace}
use Rattle.grasp_trace.specs.Watching.{AllStay, ChangesAlone}

-- what became of an output
abbrev pub sent_word : Sent → List ℕ
sent_word sent.Sent = codes "sent"
sent_word sent.Lost = codes "lost"
sent_word sent.Failed = codes "failed"

-- a line tells the input, or one each message of a stream; calls and drains have none
abbrev pub TellsInput : Input → Trace → Trace → Type 0
TellsInput (Api asa call) old new = IsQuiet old.sheet new.sheet
TellsInput (Datagram link from bytes) old new = TellsOne (IsDatagramLine (codes "received") link from bytes) old.sheet new.sheet
TellsInput (Opened stream from) old new = TellsOne (λ line. line ≡ opening_line stream from) old.sheet new.sheet
TellsInput (Bytes stream bytes) old new = TellsPiece (codes "received") true stream bytes old new
TellsInput (Closed stream) old new = TellsOne (λ line. line ≡ closing_line (codes "received") stream) old.sheet new.sheet
TellsInput (Drain max) old new = IsQuiet old.sheet new.sheet

-- a stream is watched from its opening to its end
abbrev pub WatchesInput : Input → Trace → Trace → Type 0
WatchesInput (Api asa call) old new = AllStay old.cutters new.cutters
WatchesInput (Datagram link from bytes) old new = AllStay old.cutters new.cutters
WatchesInput (Opened stream from) old new = Begins stream old new
WatchesInput (Bytes stream bytes) old new = ChangesAlone true stream old.cutters new.cutters
WatchesInput (Closed stream) old new = Ends stream old new
WatchesInput (Drain max) old new = AllStay old.cutters new.cutters

-- a line tells the output and what became of it, or one each message of a stream
abbrev pub TellsOutput : Output → Sent → Trace → Trace → Type 0
TellsOutput (out.Datagram link to bytes) end old new = TellsOne (IsDatagramLine (sent_word end) link to bytes) old.sheet new.sheet
TellsOutput (out.Dial stream to) end old new = TellsOne (λ line. line ≡ dial_line (sent_word end) stream to) old.sheet new.sheet
TellsOutput (out.Send stream bytes) end old new = TellsPiece (sent_word end) false stream bytes old new
TellsOutput (out.Close stream) end old new = TellsOne (λ line. line ≡ closing_line (sent_word end) stream) old.sheet new.sheet

-- a stream is watched from its dial to its end
abbrev pub WatchesOutput : Output → Trace → Trace → Type 0
WatchesOutput (out.Datagram link to bytes) old new = AllStay old.cutters new.cutters
WatchesOutput (out.Dial stream to) old new = Begins stream old new
WatchesOutput (out.Send stream bytes) old new = ChangesAlone false stream old.cutters new.cutters
WatchesOutput (out.Close stream) old new = Ends stream old new

-- what was given is told; nothing is where nothing was given
abbrev pub TellsAsked : Asked → Trace → Trace → Type 0
TellsAsked (Got input) old new = TellsInput input old new
TellsAsked Nothing old new = IsQuiet old.sheet new.sheet
TellsAsked OutOfMemory old new = IsQuiet old.sheet new.sheet

-- after an input that was given, a stream is watched from its opening to its end; where none was given, each is watched as before
abbrev pub WatchesAsked : Asked → Trace → Trace → Type 0
WatchesAsked (Got input) old new = WatchesInput input old new
WatchesAsked Nothing old new = AllStay old.cutters new.cutters
WatchesAsked OutOfMemory old new = AllStay old.cutters new.cutters
