-- What happens in a network, one thing after the other: an event, a settling or a restart.
use Rattle.std.specs.Prelude.{List, [], ◌∷◌}
use Rattle.grasp_model_network.specs.Events.{Occurs, after_event}
use Rattle.grasp_model_network.specs.Restarting.{MayRestart, after_restart}
use Rattle.grasp_model_network.specs.Setting.{Setting}
use Rattle.grasp_model_network.specs.Settling.{IsDead, after_settle}
use Rattle.grasp_model_network.specs.Visits.{Choice}
use Rattle.grasp_model_network.specs.World.{WorldState}
use Rattle.grasp_model_network.specs.declared.turn.Turn.{Turn}
use Rattle.grasp_model_network.specs.declared.turn.Turn.TheVariants as turn

-- the turn may be taken, and may come out so
abbrev pub IsTurn : Setting → WorldState → Turn → Choice → Type 0
IsTurn s w (turn.Event e) c = Occurs s w e c
IsTurn s w (turn.Settle node prefix) c = IsDead w node prefix
IsTurn s w (turn.Restart node image) c = MayRestart s w node image

-- the network after the turn
abbrev pub after_turn : Setting → WorldState → Turn → Choice → WorldState
after_turn s w (turn.Event e) c = after_event s w e c
after_turn s w (turn.Settle node prefix) c = after_settle w node prefix
after_turn s w (turn.Restart node image) c = after_restart s w node image

-- a turn, and how its step came out where it makes one
pub record TakenTurn : Type 0 where
  pub turn : Turn
  pub choice : Choice

-- the turns may be taken, and may come out so, one after the other from this world on
unfoldable pub AreTurns : Setting → WorldState → List TakenTurn → Type 0
AreTurns s w [] = Unit {0}
AreTurns s w (t ∷ ts) = IsTurn s w t.turn t.choice × AreTurns s (after_turn s w t.turn t.choice) ts

-- the last of the worlds
unfoldable pub world_turned : Setting → WorldState → List TakenTurn → WorldState
world_turned s w [] = w
world_turned s w (t ∷ ts) = world_turned s (after_turn s w t.turn t.choice) ts
