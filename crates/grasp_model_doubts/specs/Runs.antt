-- Runs of a network of doubters, and the networks that they lead to.
use Rattle.std.specs.Prelude.{◌≡◌, ℕ, List, [], ◌∷◌, ◌++◌}
use Rattle.grasp_types.specs.declared.address.Address.{Address}
use Rattle.grasp_model_network.specs.GoodSetting.{IsGoodSetting}
use Rattle.grasp_model_network.specs.Setting.{Setting}
use Rattle.grasp_model_network.specs.Turns.{TakenTurn}
use Rattle.grasp_model_network.specs.Visits.{Choice}
use Rattle.grasp_model_network.specs.World.{WorldState}
use Rattle.grasp_model_doubts.specs.Events.{DoubtOccurs, doubt_event, doubt_report, networks_within, turns_of_event}
use Rattle.grasp_model_doubts.specs.Openings.{first_doubts}
use Rattle.grasp_model_doubts.specs.World.{DoubtState}
use Rattle.grasp_model_doubts.specs.declared.event.DoubtEvent.{DoubtEvent}
use Rattle.grasp_model_doubts.specs.declared.report.DoubtReport.{DoubtReport}

-- an event, and how the step in it came out
pub record DoubtTurn : Type 0 where
  pub event : DoubtEvent
  pub choice : Choice

-- the events may come out so, one after the other from here on
unfoldable pub AreDoubtTurns : Setting → DoubtState → List DoubtTurn → Type 0
AreDoubtTurns s x [] = Unit {0}
AreDoubtTurns s x (t ∷ ts) = DoubtOccurs s x t.event t.choice × AreDoubtTurns s (doubt_event s x t.event t.choice) ts

-- the last of the states
unfoldable pub doubted : Setting → DoubtState → List DoubtTurn → DoubtState
doubted s x [] = x
doubted s x (t ∷ ts) = doubted s (doubt_event s x t.event t.choice) ts

-- the states of the run: this one, and the one after each event
unfoldable pub doubt_states : Setting → DoubtState → List DoubtTurn → List DoubtState
doubt_states s x [] = x ∷ []
doubt_states s x (t ∷ ts) = x ∷ doubt_states s (doubt_event s x t.event t.choice) ts

-- the networks of the run: this one, that before each settling, and the one after each event
unfoldable pub doubt_networks : Setting → DoubtState → List DoubtTurn → List WorldState
doubt_networks s x [] = x.world ∷ []
doubt_networks s x (t ∷ ts) = x.world ∷ (networks_within s x t.event t.choice ++ doubt_networks s (doubt_event s x t.event t.choice) ts)

-- the turns of the network that the run comes to
unfoldable pub turns_of : Setting → DoubtState → List DoubtTurn → List TakenTurn
turns_of s x [] = []
turns_of s x (t ∷ ts) = turns_of_event s x t.event t.choice ++ turns_of s (doubt_event s x t.event t.choice) ts

-- what is reported of each event
unfoldable pub doubt_reports : Setting → DoubtState → List DoubtTurn → List DoubtReport
doubt_reports s x [] = []
doubt_reports s x (t ∷ ts) = doubt_report s x t.event t.choice ∷ doubt_reports s (doubt_event s x t.event t.choice) ts

-- a node at which a stream arrives is told the address of the node that dialled it
abbrev pub IsToldOpeners : Setting → Type 0
IsToldOpeners s = (k : ℕ) (a : Address) → s.arrives_from k a ≡ a

-- events lead to it from the first network of doubters, in a good setting in which openers are told
pub record IsDoubted (s : Setting) (x : DoubtState) : Type 0 where
  pub good : IsGoodSetting s
  pub told : IsToldOpeners s
  pub turns : List DoubtTurn
  pub run : AreDoubtTurns s (first_doubts s) turns
  pub last : x ≡ doubted s (first_doubts s) turns
