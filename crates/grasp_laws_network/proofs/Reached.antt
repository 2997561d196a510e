-- What is so of the first network of a setting, and stays so at each turn, is so of every network that turns lead to.
use Rattle.std.proofs.Common.{sym, subst, List, [], ◌∷◌}
use Rattle.grasp_laws_network.specs.Lives.{TurnsKeep}
use Rattle.grasp_model_network.specs.Events.{Occurs, after_event}
use Rattle.grasp_model_network.specs.Runs.{Happening, IsRun, IsReached, first_world, world_after}
use Rattle.grasp_model_network.specs.Setting.{Setting}
use Rattle.grasp_model_network.specs.Turns.{IsTurn, after_turn, TakenTurn, AreTurns, world_turned}
use Rattle.grasp_model_network.specs.Visits.{Choice}
use Rattle.grasp_model_network.specs.World.{WorldState}
use Rattle.grasp_model_network.specs.declared.event.Event.{Event}
use Rattle.grasp_model_network.specs.declared.turn.Turn.{Turn}
use Rattle.grasp_model_network.specs.declared.turn.Turn.TheVariants as turn

-- ---- runs of events

pub run_keeps : (s : Setting) (P : WorldState → Type 0) → ((w : WorldState) (e : Event) (c : Choice) → Occurs s w e c → P w → P (after_event s w e c))
    → (hs : List Happening) (w : WorldState) → IsRun s w hs → P w → P (world_after s w hs)
unfolding IsRun world_after
run_keeps s P each [] w run p = p
run_keeps s P each (h ∷ hs) w run p = run_keeps s P each hs (after_event s w h.event h.choice) run.1 (each w h.event h.choice run.0 p)

-- ---- turns

-- what each kind of turn keeps, a turn keeps
pub turn_keeps : (s : Setting) (P : WorldState → Type 0) (w : WorldState) (t : Turn) (c : Choice) → TurnsKeep s P → IsTurn s w t c → P w → P (after_turn s w t c)
turn_keeps s P w (turn.Event e) c keep is p = keep.events w e c is p
turn_keeps s P w (turn.Settle node prefix) c keep is p = keep.settles w node prefix is p
turn_keeps s P w (turn.Restart node image) c keep is p = keep.restarts w node image is p

pub turned_keeps : (s : Setting) (P : WorldState → Type 0) → TurnsKeep s P → (ts : List TakenTurn) (w : WorldState) → AreTurns s w ts → P w → P (world_turned s w ts)
unfolding AreTurns world_turned
turned_keeps s P keep [] w run p = p
turned_keeps s P keep (t ∷ ts) w run p =
    turned_keeps s P keep ts (after_turn s w t.turn t.choice) run.1 (turn_keeps s P w t.turn t.choice keep run.0 p)

pub reached_keeps : (s : Setting) (P : WorldState → Type 0) → P (first_world s) → TurnsKeep s P → (w : WorldState) → IsReached s w → P w
reached_keeps s P first keep w r = subst P (sym r.last) (turned_keeps s P keep r.turns (first_world s) r.run first)
