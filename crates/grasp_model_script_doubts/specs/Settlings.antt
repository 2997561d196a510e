-- The prefixes that doubters settle in a run: whether each is one that is accepted never.
use Rattle.std.specs.Prelude.{ℕ, List, [], ◌∷◌, Option, None, Some}
use Rattle.grasp_doubter.specs.States.{DoubterState}
use Rattle.grasp_types.specs.Prefix.{AddressBlock as Prefix}
use Rattle.grasp_model_network.specs.Setting.{Setting, numbered}
use Rattle.grasp_model_network.specs.Settling.{IsDead}
use Rattle.grasp_model_network.specs.Visits.{Choice}
use Rattle.grasp_model_network.specs.World.{WorldState}
use Rattle.grasp_model_doubts.specs.Events.{doubt_event}
use Rattle.grasp_model_doubts.specs.Runs.{DoubtTurn}
use Rattle.grasp_model_doubts.specs.Steps.{after_doubter_call, taken_at}
use Rattle.grasp_model_doubts.specs.World.{DoubtState}
use Rattle.grasp_model_doubts.specs.declared.event.DoubtEvent.{DoubtEvent}
use Rattle.grasp_model_doubts.specs.declared.event.DoubtEvent.TheVariants as doubt

-- where the member settles a prefix, it is dead in this network
abbrev pub IsDeadWhere : WorldState → ℕ → Option Prefix → Type 0
IsDeadWhere w node None = Unit {0}
IsDeadWhere w node (Some p) = IsDead w node p

-- what the reply to a doubter's call settles is dead when the call is over
abbrev pub CallSettlesDead : Setting → WorldState → ℕ → Choice → Option DoubterState → Type 0
CallSettlesDead s w node c None = Unit {0}
CallSettlesDead s w node c (Some d) = IsDeadWhere (after_doubter_call s w node d c) node (taken_at s w node d c).settled

-- so it is with the event, where it is a doubter's call
abbrev pub EventSettlesDead : Setting → DoubtState → DoubtEvent → Choice → Type 0
EventSettlesDead s x (doubt.Doubter node) c = CallSettlesDead s x.world node c (numbered x.doubters node)
EventSettlesDead s x _ c = Unit {0}

-- and with each event of a run
unfoldable pub AllSettleDead : Setting → DoubtState → List DoubtTurn → Type 0
AllSettleDead s x [] = Unit {0}
AllSettleDead s x (t ∷ ts) = EventSettlesDead s x t.event t.choice × AllSettleDead s (doubt_event s x t.event t.choice) ts
