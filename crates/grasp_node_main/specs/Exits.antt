-- How the program ends: the number that it exits with, and the line that it prints on standard error.
use Rattle.std.specs.Prelude.{◌≡◌, ◌⊎◌, ℕ, List, [], ◌++◌, codes}
use Rattle.grasp_config.specs.Faults.{key_word}
use Rattle.grasp_config.specs.declared.fault.ConfigKey.{ConfigKey}
use Rattle.grasp_node_main.specs.declared.exit.Status.{Status}
use Rattle.grasp_node_main.specs.declared.exit.Status.TheVariants.{Ok, Usage, BadConfig, ReadFault, WriteFault, OutOfMemory, TooLarge, LinkFault}

abbrev pub number_of : Status → ℕ
number_of Ok = 0
number_of Usage = 2
number_of (BadConfig key) = 3
number_of ReadFault = 4
number_of WriteFault = 5
number_of OutOfMemory = 6
number_of TooLarge = 7
number_of LinkFault = 8

-- the line without a line end; nothing where all went well
abbrev pub fault_line_of : Status → List ℕ
fault_line_of Ok = []
fault_line_of Usage = codes "usage: grasp_node run FILE"
fault_line_of (BadConfig key) = codes "bad config: " ++ key_word key
fault_line_of ReadFault = codes "read fault"
fault_line_of WriteFault = codes "write fault"
fault_line_of OutOfMemory = codes "out of memory"
fault_line_of TooLarge = codes "too large"
fault_line_of LinkFault = codes "link fault"

-- each status is told by its own line, and by its own number but for the key that is bad
pub record StatusesAreTold : Type 0 where
  pub line : (a b : Status) → fault_line_of a ≡ fault_line_of b → a ≡ b
  pub number : (a b : Status) → number_of a ≡ number_of b → (a ≡ b) ⊎ ((j k : ConfigKey) × (a ≡ BadConfig j) × (b ≡ BadConfig k))
