-- A question of a doubter.
use Rattle.std.specs.Prelude.{ℕ, ◌≡◌, Bool, true, false, if◌then◌else◌, Option, Some, None, is_none, Result, Ok, Err}
use Rattle.std.specs.List.{list_any}
use Rattle.grasp_types.specs.Prefix.{AddressBlock as Prefix}
use Rattle.grasp_types.specs.declared.address.Address.{Address}
use Rattle.grasp_types.specs.declared.address.Locator.{Locator}
use Rattle.grasp_pool.specs.Holdings.{Holding}
use Rattle.grasp_doubter.specs.Seeing.{sent_to}
use Rattle.grasp_doubter.specs.States.{DoubterState, is_prefix}
use Rattle.grasp_doubter.specs.declared.asking.Ask.{Ask}
use Rattle.grasp_doubter.specs.declared.asking.AskFault.{AskFault}
use Rattle.grasp_doubter.specs.declared.asking.AskFault.TheVariants as fault

-- the prefix is in doubt
abbrev pub is_doubtful : Holding → Prefix → Bool
is_doubtful h p = list_any (is_prefix p) h.doubtful

abbrev pub fault_of_sent : Option Address → Result (Unit {0}) AskFault
fault_of_sent None = Err fault.NotGiven
fault_of_sent (Some a) = Ok tt

-- one question at a time, of a prefix in doubt that a step has offered
abbrev pub ask_reply : DoubterState → Holding → Prefix → Result (Unit {0}) AskFault
ask_reply d h p = by_ask d.ask where
  by_ask : Option Ask → Result (Unit {0}) AskFault
  by_ask None = if is_doubtful h p then fault_of_sent (sent_to d.offered p) else Err fault.NotDoubtful
  by_ask (Some k) = Err (fault.Busy k.prefix)

abbrev pub asking_of : DoubterState → Prefix → Locator → Option Address → DoubterState
asking_of d p peer None = d
asking_of d p peer (Some a) = record d { ask = Some (record { prefix = p; address = a; peer = peer; session = None }) }

-- a question that is taken is asked of the node to which the prefix was offered, and isn't requested yet
abbrev pub after_ask : DoubterState → Prefix → Locator → Result (Unit {0}) AskFault → DoubterState
after_ask d p peer (Ok done) = asking_of d p peer (sent_to d.offered p)
after_ask d p peer (Err f) = d
