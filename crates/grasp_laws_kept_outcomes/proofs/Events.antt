-- Each event and each crash comes out, or sends too much.
use Rattle.std.proofs.Common.{◌⊎◌, inl, inr, ℕ, Bool, true, false}
use Rattle.grasp_laws_outcomes.proofs.Events.{events_come_out}
use Rattle.grasp_laws_outcomes.specs.Events.{ComesOut}
use Rattle.grasp_model_kept.specs.Crashing.{CallOccurs, CallOverflows, is_cut}
use Rattle.grasp_model_kept.specs.Runs.{KeptOverflows}
use Rattle.grasp_model_kept.specs.declared.event.KeptEvent.TheVariants as kept
use Rattle.grasp_model_network.specs.Events.{Overflows}
use Rattle.grasp_model_network.specs.Runs.{IsReached}
use Rattle.grasp_model_network.specs.Setting.{Setting}
use Rattle.grasp_model_network.specs.Visits.{Choice, no_choice}
use Rattle.grasp_model_network.specs.World.{WorldState}
use Rattle.grasp_model_network.specs.declared.event.Event.TheVariants as event
use Rattle.grasp_laws_kept_outcomes.specs.Events.{KeptComesOut, KeptEventsComeOut}

-- the agent's call comes out where it is made
record CallComes (s : Setting) (w : WorldState) (node : ℕ) (cut : Bool) : Type 0 where
  choice : Choice
  occurs : CallOccurs s w node choice cut

call_comes : (s : Setting) (w : WorldState) (node : ℕ) (cut : Bool) → IsReached s w → ComesOut s w (event.Agent node false) ⊎ Overflows s w (event.Agent node false) → CallComes s w node cut ⊎ CallOverflows s w node cut
call_comes s w node true r comes = inl (record { choice = no_choice; occurs = tt })
call_comes s w node false r (inl c) = inl (record { choice = c.choice; occurs = c.occurs })
call_comes s w node false r (inr o) = inr o

pub kept_events_come_out : KeptEventsComeOut
kept_events_come_out s k (kept.Plain e) r fit = by (events_come_out s k.world e r fit) where
  by : ComesOut s k.world e ⊎ Overflows s k.world e → KeptComesOut s k (kept.Plain e) ⊎ KeptOverflows s k (kept.Plain e)
  by (inl c) = inl (record { choice = c.choice; occurs = c.occurs })
  by (inr o) = inr o
kept_events_come_out s k (kept.Crash node calls left) r fit = by (call_comes s k.world node (is_cut k node calls) r (events_come_out s k.world (event.Agent node false) r fit)) where
  by : CallComes s k.world node (is_cut k node calls) ⊎ CallOverflows s k.world node (is_cut k node calls) → KeptComesOut s k (kept.Crash node calls left) ⊎ KeptOverflows s k (kept.Crash node calls left)
  by (inl c) = inl (record { choice = c.choice; occurs = (fit, c.occurs) })
  by (inr o) = inr o
