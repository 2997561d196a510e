-- What an event makes of a network of doubters.
use Rattle.std.specs.Prelude.{ℕ, false, List, Option, None, Some, Result, Ok, Err}
use Rattle.grasp_agent.specs.Calls.{next_call}
use Rattle.grasp_types.specs.Prefix.{AddressBlock as Prefix}
use Rattle.grasp_types.specs.declared.address.Locator.{Locator}
use Rattle.grasp_doubter.specs.Asking.{after_ask, ask_reply}
use Rattle.grasp_doubter.specs.Calls as doubter
use Rattle.grasp_doubter.specs.Replies.{Taken, after_take, taking}
use Rattle.grasp_doubter.specs.Seeing.{after_saw}
use Rattle.grasp_doubter.specs.States.{DoubterState}
use Rattle.grasp_doubter.specs.declared.asking.AskFault.{AskFault}
use Rattle.grasp_doubter.specs.declared.asking.AskFault.TheVariants as fault
use Rattle.grasp_model_network.specs.Events.{after_event}
use Rattle.grasp_model_network.specs.Setting.{Setting, numbered}
use Rattle.grasp_model_network.specs.Settling.{after_settle}
use Rattle.grasp_model_network.specs.Visits.{Choice}
use Rattle.grasp_model_network.specs.World.{Seat, WorldState}
use Rattle.grasp_model_network.specs.declared.event.Event.{Event}
use Rattle.grasp_model_network.specs.declared.event.Event.TheVariants as event
use Rattle.grasp_model_doubts.specs.World.{DoubtState, present_seat, with_doubter}

-- ---- a plain event: the doubter of a node is told each call that the node's agent of prefixes makes

-- the agent made its call before, took the reply, and stands as it does after
abbrev pub seeing : DoubterState → Option Seat → Option Seat → Choice → DoubterState
seeing d None after c = d
seeing d (Some before) None c = d
seeing d (Some before) (Some after) c = after_saw d after.agent.pool (next_call before.agent) c.reply

abbrev pub having_seen : DoubtState → ℕ → Choice → WorldState → Option DoubterState → List DoubterState
having_seen x node c w None = x.doubters
having_seen x node c w (Some d) = with_doubter x.doubters node (seeing d (present_seat x.world node) (present_seat w node) c)

-- the doubters after an event that leads to this network
abbrev pub doubters_after : DoubtState → Event → Choice → WorldState → List DoubterState
doubters_after x (event.Agent node hold) c w = having_seen x node c w (numbered x.doubters node)
doubters_after x _ c w = x.doubters

unfoldable pub after_plain : Setting → DoubtState → Event → Choice → DoubtState
after_plain s x e c = record { world = after_event s x.world e c; doubters = doubters_after x e c (after_event s x.world e c) }

-- ---- the next call of a member's doubter

-- it is an event of the network: a call of agent 2
abbrev pub doubter_event : DoubterState → ℕ → Event
doubter_event d node = event.Api node 2 (doubter.next_call d) false

-- the network after the call
abbrev pub after_doubter_call : Setting → WorldState → ℕ → DoubterState → Choice → WorldState
after_doubter_call s w node d c = after_event s w (doubter_event d node) c

abbrev pub taken_beside : Option Seat → DoubterState → Choice → Taken
taken_beside None d c = taking d
taken_beside (Some seat) d c = after_take d seat.agent c.reply

-- what the reply makes of the doubter, beside the agent of prefixes as it is then, and which prefix it settles
abbrev pub taken_at : Setting → WorldState → ℕ → DoubterState → Choice → Taken
taken_at s w node d c = taken_beside (present_seat (after_doubter_call s w node d c) node) d c

-- where there is a prefix to settle, the member settles it
abbrev pub settled_where : WorldState → ℕ → Option Prefix → WorldState
settled_where w node None = w
settled_where w node (Some p) = after_settle w node p

abbrev pub doubter_called : Setting → DoubtState → ℕ → Choice → Option DoubterState → DoubtState
doubter_called s x node c None = x
doubter_called s x node c (Some d) = record {
  world = settled_where (after_doubter_call s x.world node d c) node (taken_at s x.world node d c).settled;
  doubters = with_doubter x.doubters node (taken_at s x.world node d c).after;
}

unfoldable pub after_doubter : Setting → DoubtState → ℕ → Choice → DoubtState
after_doubter s x node c = doubter_called s x node c (numbered x.doubters node)

-- ---- a question that a member's doubter is to ask: it is no step of the node

-- what it is answered, where the member has a doubter
abbrev pub asking_answer : Option DoubterState → Option Seat → Prefix → Result (Unit {0}) AskFault
asking_answer None seat p = Err fault.NotDoubtful
asking_answer (Some d) None p = Err fault.NotDoubtful
asking_answer (Some d) (Some seat) p = ask_reply d seat.agent.pool p

abbrev pub asking_reply : DoubtState → ℕ → Prefix → Result (Unit {0}) AskFault
asking_reply x node p = asking_answer (numbered x.doubters node) (present_seat x.world node) p

abbrev pub doubter_asking : List DoubterState → ℕ → Prefix → Option Locator → Result (Unit {0}) AskFault → Option DoubterState → List DoubterState
doubter_asking ds node p peer r None = ds
doubter_asking ds node p None r (Some d) = ds
doubter_asking ds node p (Some peer) r (Some d) = with_doubter ds node (after_ask d p peer r)

-- it asks at the locator of the peer
unfoldable pub after_asking : Setting → DoubtState → ℕ → Prefix → ℕ → DoubtState
after_asking s x node p peer = record x { doubters = doubter_asking x.doubters node p (numbered s.peers peer) (asking_reply x node p) (numbered x.doubters node) }
