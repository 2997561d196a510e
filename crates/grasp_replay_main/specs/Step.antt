-- Inside: what one step of `show` does.
use Rattle.std.specs.Prelude.{◌≡◌, ◌+◌, ◌<◌, ◌≤◌, ℕ, List, ◌++◌, Option, Some, Result, Ok, Err, length, take, ⊤}
use Rattle.grasp_io.specs.Known.{AppendsFront, Passes}
use Rattle.grasp_types.specs.declared.message.Message.{Message}
use Rattle.grasp_wire.specs.declared.fault.CutFault.{CutFault}
use Rattle.grasp_wire.specs.declared.fault.CutFault.TheVariants.{Malformed, NotText, TooDeep, TooLong, NotMessage, OutOfMemory}
use Rattle.grasp_wire.specs.Stream.{RestKind, IsRest}
use Rattle.grasp_wire.specs.Wire.{AreWireForms}
use Rattle.grasp_replay_main.specs.Show.{shown, rest_finding}
use Rattle.grasp_replay_main.specs.declared.exit.Finding.{Finding}
use Rattle.grasp_replay_main.specs.declared.show.Step.{Step}
use Rattle.grasp_replay_main.specs.declared.show.Step.TheVariants.{Line, Fault}
use Rattle.grasp_replay_main.specs.declared.unfinished.Unfinished.{Unfinished}

-- the place of a fault
abbrev pub place_of : CutFault → ℕ
place_of (Malformed at) = at
place_of (NotText at) = at
place_of (TooDeep at) = at
place_of (TooLong at) = at
place_of (NotMessage at) = at
place_of OutOfMemory = 0

-- a fault of a rest, as the stream has it in which so many bytes stand before
abbrev pub moved : ℕ → CutFault → CutFault
moved before (Malformed at) = Malformed (before + at)
moved before (NotText at) = NotText (before + at)
moved before (TooDeep at) = TooDeep (before + at)
moved before (TooLong at) = TooLong (before + at)
moved before (NotMessage at) = NotMessage (before + at)
moved before OutOfMemory = OutOfMemory

-- the bytes are wire forms of messages, of whose lines a prefix was written and the rest is held
pub record HasShown (limit : ℕ) (front : List ℕ) (start now : Option (List ℕ)) (held : List ℕ) : Type 0 where
  pub messages : List Message
  pub forms : AreWireForms messages front limit
  pub passes : Passes start now held (shown messages)

-- the same, and the rest that follows begins with no message and has this finding
pub record HasShownTo (limit : ℕ) (front rest : List ℕ) (start now : Option (List ℕ)) (held : List ℕ) (finding : Finding) : Type 0 where
  pub so_far : HasShown limit front start now held
  pub kind : RestKind
  pub kind_is : IsRest rest limit kind
  pub finding_is : Some finding ≡ rest_finding (length front) rest kind

-- the stream begins with wire forms of messages, of whose lines a prefix was written
pub record BeginsToShow (limit : ℕ) (stream : List ℕ) (start now : Option (List ℕ)) : Type 0 where
  pub messages : List Message
  pub front : List ℕ
  pub rest : List ℕ
  pub forms : AreWireForms messages front limit
  pub parts : stream ≡ front ++ rest
  pub written : AppendsFront start now (shown messages)

-- what one step came to, at this rest behind these bytes
abbrev pub Steps : ℕ → List ℕ → List ℕ → Option (List ℕ) → Option (List ℕ) → List ℕ → Result Step Unfinished → Type 0
Steps limit front rest start now held (Ok (Line used)) = HasShown limit (front ++ take used rest) start now held
Steps limit front rest start now held (Ok (Fault finding)) = HasShownTo limit front rest start now held finding
Steps limit front rest start now held (Err e) = BeginsToShow limit (front ++ rest) start now

-- a message has bytes, and no more than there are
abbrev pub IsInside : ℕ → Step → Type 0
IsInside count (Line used) = (0 < used) × (used ≤ count)
IsInside count (Fault finding) = ⊤
