-- A prefix that a node settles.
use Rattle.std.proofs.Common.{◌≡◌, refl, sym, subst, ℕ, Option, None, Some, Result, Ok, Err}
use Rattle.grasp_types.specs.Prefix.{AddressBlock as Prefix}
use Rattle.grasp_model_network.specs.Setting.{Setting}
use Rattle.grasp_model_network.specs.World.{WorldState}
use Rattle.grasp_model_network.specs.declared.report.Report.{Report}
use Rattle.grasp_model_network.specs.declared.report.WorldStop.{WorldStop}
use Rattle.grasp_model_network.specs.declared.turn.Turn.TheVariants as turn
use Rattle.grasp_simulator.specs.Contract.{MeetsTurn}
use Rattle.grasp_simulator.specs.WorldStands.{WorldStands}
use Rattle.grasp_simulator.specs.WorldSteps.{IsAskedFor, Turned}
use Rattle.grasp_simulator.specs.declared.world.World.{World}
use Rattle.grasp_doubts.specs.Nodes.{CanSettle, CanSettleWhere, MaySettle, Settles, SettlesWhere, network_at}

module _ (before after : World) (node : ℕ) (p : Prefix) where
  may_turn : (s : Setting) (w : WorldState) → MaySettle before s w node p → MeetsTurn (WorldStands before) (network_at s w) (turn.Settle node p)
  may_turn s w m = record { stands = m.stands; fit = m.dead }

  pub settle_asked : CanSettle before node p → IsAskedFor before (turn.Settle node p)
  settle_asked can = record { network = network_at can.setting can.network; meets = may_turn can.setting can.network can.may }

  -- nothing stops it
  pub settle_goes : CanSettle before node p → (why : WorldStop) → Turned before after (turn.Settle node p) (Err why) → ⊥
  settle_goes can why turns = (turns (network_at can.setting can.network) (may_turn can.setting can.network can.may)).may_stop

  pub settles : (r : Result Report WorldStop) → Turned before after (turn.Settle node p) r → Settles before after node p
  settles (Ok told) turns s w m = (turns (network_at s w) (may_turn s w m)).stands
  settles (Err why) turns s w m = absurd (turns (network_at s w) (may_turn s w m)).may_stop

pub can_settle_some : (world : World) (node : ℕ) (o : Option Prefix) (p : Prefix) → o ≡ Some p → CanSettleWhere world node o → CanSettle world node p
can_settle_some world node o p is can = subst (λ (q : Option Prefix). CanSettleWhere world node q) is can

pub settles_some : (before after : World) (node : ℕ) (o : Option Prefix) (p : Prefix) → o ≡ Some p → Settles before after node p → SettlesWhere before after node o
settles_some before after node o p is settles = subst (λ (q : Option Prefix). SettlesWhere before after node q) (sym is) settles

pub settles_none : (world : World) (node : ℕ) (o : Option Prefix) → o ≡ None → SettlesWhere world world node o
settles_none world node o none = subst (λ (q : Option Prefix). SettlesWhere world world node q) (sym none) refl
