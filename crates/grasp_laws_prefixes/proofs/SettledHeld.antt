-- A settling gives its prefix back to the life that settles it.
use Rattle.std.proofs.Common.{inr}
use Rattle.grasp_agent.specs.Replies.{after_settling}
use Rattle.grasp_model_network.specs.Sending.{seat_with}
use Rattle.grasp_model_network.specs.Settling.{after_settle}
use Rattle.grasp_laws_network.proofs.Settled.{Settling, settling_is}
use Rattle.grasp_laws_prefixes.proofs.SettleKeeps.{settles}
use Rattle.grasp_laws_prefixes.specs.Grounds.{Grounds}
use Rattle.grasp_laws_prefixes.specs.Settled.{SettledAreHeld}

pub settled_are_held : Grounds → SettledAreHeld
settled_are_held l s w r node p d a span = record {
  seat = seat_with t.seat.core (after_settling t.seat.agent p);
  here = t.own;
  free = ((settles l s w (after_settle w node p) node p r t).free a).1 (inr span);
} where
  t : Settling w node p (after_settle w node p)
  t = settling_is w node p d
