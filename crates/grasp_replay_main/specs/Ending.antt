-- How the program ends: the number that it exits with, and the line that it prints on standard error.
use Rattle.std.specs.Prelude.{ℕ, List, [], ◌∷◌, ◌++◌, Option, None, Some, codes, decimal}
use Rattle.grasp_text.specs.Words.{spaced}
use Rattle.grasp_wire.specs.declared.fault.CutFault.{CutFault}
use Rattle.grasp_wire.specs.declared.fault.CutFault.TheVariants as cut
use Rattle.grasp_replay_main.specs.declared.exit.Finding.{Finding}
use Rattle.grasp_replay_main.specs.declared.exit.Finding.TheVariants as finding
use Rattle.grasp_replay_main.specs.declared.exit.Status.{Status}
use Rattle.grasp_replay_main.specs.declared.exit.Status.TheVariants as status
use Rattle.grasp_replay_main.specs.declared.exit.Status.TheVariants.{Ok, Usage, BadScript, ReadFault, WriteFault, OutOfMemory, TooLarge}

abbrev pub number_of : Status → ℕ
number_of Ok = 0
number_of (status.Finding f) = 1
number_of Usage = 2
number_of (BadScript line) = 3
number_of ReadFault = 4
number_of WriteFault = 5
number_of OutOfMemory = 6
number_of TooLarge = 7

-- a text, and a number behind one blank
abbrev pub numbered : List ℕ → ℕ → List ℕ
numbered text n = text ++ spaced (decimal n ∷ [])

abbrev pub cut_line : CutFault → List ℕ
cut_line (cut.Malformed at) = numbered (codes "malformed at") at
cut_line (cut.NotText at) = numbered (codes "not text at") at
cut_line (cut.TooDeep at) = numbered (codes "too deep at") at
cut_line (cut.TooLong at) = numbered (codes "too long at") at
cut_line (cut.NotMessage at) = numbered (codes "not a message at") at
cut_line cut.OutOfMemory = codes "out of memory"

abbrev pub finding_line : Finding → List ℕ
finding_line (finding.Cut fault) = cut_line fault
finding_line (finding.Truncated at) = numbered (codes "truncated at") at
finding_line (finding.BadText line at) = numbered (numbered (codes "bad text in line") line ++ codes " at") at
finding_line (finding.TooLong line) = numbered (codes "too long in line") line
finding_line (finding.BadRecord line) = numbered (codes "not a record in line") line
finding_line (finding.NotSent line) = numbered (codes "not sent in line") line
finding_line (finding.NotAgent line) = numbered (codes "not the agent's call in line") line
finding_line (finding.NotStep line) = numbered (codes "not the step in line") line

-- the line without a line end; nothing where all went well
abbrev pub fault_line_of : Status → List ℕ
fault_line_of Ok = []
fault_line_of (status.Finding f) = finding_line f
fault_line_of Usage = codes "usage: grasp_replay show|pack|replay|gen N|draw N|resolve|keep|record|audit"
fault_line_of (BadScript line) = numbered (codes "bad script in line") line
fault_line_of ReadFault = codes "read fault"
fault_line_of WriteFault = codes "write fault"
fault_line_of OutOfMemory = codes "out of memory"
fault_line_of TooLarge = codes "too large"

-- Inside: the status with this finding, or with none
abbrev pub status_of : Option Finding → Status
status_of None = Ok
status_of (Some f) = status.Finding f

-- the input was surely read whole before the program ended so
abbrev pub IsAfterInput : Status → Type 0
IsAfterInput Ok = Unit {0}
IsAfterInput (status.Finding f) = Unit {0}
IsAfterInput (BadScript line) = Unit {0}
IsAfterInput WriteFault = Unit {0}
IsAfterInput Usage = ⊥
IsAfterInput ReadFault = ⊥
IsAfterInput OutOfMemory = ⊥
IsAfterInput TooLarge = ⊥
