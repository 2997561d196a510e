-- What is written of the messages on streams.
use Rattle.std.specs.Prelude.{◌≡◌, ◌⊎◌, ℕ, Bool, List, [], ◌∷◌, ◌++◌, Option, None, Some, Result, Ok, Err, if◌then◌else◌}
use Rattle.grasp_types.specs.declared.message.Message.{Message}
use Rattle.grasp_wire.specs.Cutter.{Past, after_feed, AnswersNext}
use Rattle.grasp_wire.specs.Stands.{Stands, cut_limit}
use Rattle.grasp_wire.specs.declared.cutter.Cutter.{Cutter}
use Rattle.grasp_wire.specs.declared.fault.CutFault.{CutFault}
use Rattle.grasp_wire.specs.declared.fault.CutFault.TheVariants.{Malformed, NotText, TooDeep, TooLong, NotMessage, OutOfMemory}
use Rattle.grasp_trace.specs.Lines.{most_bytes, message_line, fault_line}
use Rattle.grasp_trace.specs.Sheet.{Sheet, NeverFalls, Tells, IsLeftOut, IsQuiet}
use Rattle.grasp_trace.specs.Trace.{Trace}
use Rattle.grasp_trace.specs.Watching.{IsSomeNew, OthersStay}

-- each message is told, one after the other
abbrev pub TellsMessages : List ℕ → ℕ → List Message → Sheet → Sheet → Type 0
TellsMessages what stream [] old new = IsQuiet old new
TellsMessages what stream (m ∷ ms) old new = (mid : Sheet) × Tells (message_line what stream m) old mid × TellsMessages what stream ms mid new

-- the place of a fault, where it has one
abbrev pub place_in : CutFault → Option ℕ
place_in (Malformed at) = Some at
place_in (NotText at) = Some at
place_in (TooDeep at) = Some at
place_in (TooLong at) = Some at
place_in (NotMessage at) = Some at
place_in OutOfMemory = None

-- a line tells a fault at this place; where there is none, memory was wanted, and a line is left out
abbrev pub TellsFault : List ℕ → ℕ → Option ℕ → Sheet → Sheet → Type 0
TellsFault what stream None old new = IsLeftOut old new
TellsFault what stream (Some place) old new = Tells (fault_line what stream place) old new

-- what ends the messages: nothing is told where more bytes are waited for, else a fault
abbrev pub TellsLast : List ℕ → ℕ → Result (Option Message) CutFault → Sheet → Sheet → Type 0
TellsLast what stream (Ok (Some message)) old new = ⊥
TellsLast what stream (Ok None) old new = IsQuiet old new
TellsLast what stream (Err fault) old new = TellsFault what stream (place_in fault) old new

-- after these messages were given, too
abbrev pub with_given : Past → List Message → Past
with_given past messages = record past { given = past.given ++ messages }

-- a cutter of this limit saw this
pub record IsCutter (limit : ℕ) (past : Past) (cutter : Cutter) : Type 0 where
  pub stands : Stands cutter past
  pub limit_is : cut_limit cutter ≡ limit

-- how the direction is watched from then on: with a fault it isn't
abbrev pub GoesOn : ℕ → Past → Result (Option Message) CutFault → Option Cutter → Type 0
GoesOn limit past (Ok found) None = ⊥
GoesOn limit past (Ok found) (Some cutter) = IsCutter limit past cutter
GoesOn limit past (Err fault) left = left ≡ None

-- the messages that are whole are told, then what ends them: these are the answers of a cutter that saw this
pub record TellsCut (what : List ℕ) (stream limit : ℕ) (past : Past) (left : Option Cutter) (old new : Sheet) : Type 0 where
  pub messages : List Message
  pub last : Result (Option Message) CutFault
  pub mid : Sheet
  pub tells : TellsMessages what stream messages old mid
  pub answers : AnswersNext limit (with_given past messages) past.fault last
  pub ends : TellsLast what stream last mid new
  pub goes_on : GoesOn limit (with_given past messages) last left

-- Inside: the same, where it is answered whether the cutter waits for more bytes
abbrev pub IsAnswered : List ℕ → ℕ → ℕ → Past → Bool → Cutter → Sheet → Sheet → Type 0
IsAnswered what stream limit past waits cutter old new = TellsCut what stream limit past (if waits then Some cutter else None) old new

-- the past of a direction and its limit, and what stood written when its messages began to be told
pub record Telling : Type 0 where
  pub past : Past
  pub limit : ℕ
  pub begun : Sheet

-- before the first message
abbrev pub telling : Past → Cutter → Sheet → Telling
telling past cutter begun = record { past = past; limit = cut_limit cutter; begun = begun }

-- Inside: some messages were told, and no more were given
pub record HasTold (what : List ℕ) (stream : ℕ) (t : Telling) (cutter : Cutter) (new : Sheet) : Type 0 where
  pub messages : List Message
  pub tells : TellsMessages what stream messages t.begun new
  pub stands : Stands cutter (with_given t.past messages)
  pub limit_is : cut_limit cutter ≡ t.limit

-- Inside: one more was told, or it is answered whether the cutter waits
abbrev pub AfterNext : List ℕ → ℕ → Telling → Cutter → Option Bool → Sheet → Type 0
AfterNext what stream t cutter None new = HasTold what stream t cutter new
AfterNext what stream t cutter (Some waits) new = IsAnswered what stream t.limit t.past waits cutter t.begun new

-- there was no room for a piece of a stream: a line is left out, and the direction isn't watched any more
pub record IsDropped (left : Option Cutter) (old new : Sheet) : Type 0 where
  pub left_out : IsLeftOut old new
  pub none : left ≡ None

-- a piece is fed and what is whole with it is told, unless there was no room
abbrev pub TellsFed : List ℕ → ℕ → ℕ → Past → List ℕ → Option Cutter → Sheet → Sheet → Type 0
TellsFed what stream limit past piece left old new = TellsCut what stream limit (after_feed past piece) left old new ⊎ IsDropped left old new

-- what is told of a piece of a direction with this cutter; nothing where it has none
abbrev pub TellsWith : List ℕ → ℕ → List ℕ → Option Cutter → Option Cutter → Sheet → Sheet → Type 0
TellsWith what stream piece None left old new = IsQuiet old new × (left ≡ None)
TellsWith what stream piece (Some cutter) left old new = (past : Past) → Stands cutter past → TellsFed what stream (cut_limit cutter) past piece left old new

-- what is told of a piece that is received on a stream (true) or sent on it (false)
abbrev pub TellsPiece : List ℕ → Bool → ℕ → List ℕ → Trace → Trace → Type 0
TellsPiece what received stream piece old new = TellsWith what stream piece (old.cutters received stream) (new.cutters received stream) old.sheet new.sheet

-- one line was left out on the way
pub record LeavesOut (old new : Sheet) : Type 0 where
  pub mid : Sheet
  pub left_out : IsLeftOut old mid
  pub never_falls : NeverFalls mid new

-- both directions of a stream are watched from their first byte; or, out of memory, neither is, and a line is left out
pub record Begins (stream : ℕ) (old new : Trace) : Type 0 where
  pub begins : ((received : Bool) → IsSomeNew most_bytes (new.cutters received stream)) ⊎ (((received : Bool) → new.cutters received stream ≡ None) × LeavesOut old.sheet new.sheet)
  pub others : OthersStay stream old.cutters new.cutters

-- a stream isn't watched any more
pub record Ends (stream : ℕ) (old new : Trace) : Type 0 where
  pub ends : (received : Bool) → new.cutters received stream ≡ None
  pub others : OthersStay stream old.cutters new.cutters
