-- Each event comes out, or sends too much.
use Rattle.std.proofs.Common.{◌≡◌, ◌⊎◌, inl, inr, sym, subst, arith, ℕ, List, length, Option, Some}
use Rattle.grasp_doubter.specs.States.{DoubterState}
use Rattle.grasp_laws_doubts.proofs.Doubted.{DoubtersStand}
use Rattle.grasp_laws_doubts.proofs.Reached.{FirstStands, doubted_stands}
use Rattle.grasp_laws_doubts.specs.Grounds.{Grounds}
use Rattle.grasp_laws_network.proofs.Lists.{numbered_there}
use Rattle.grasp_laws_outcomes.proofs.Events.{events_come_out}
use Rattle.grasp_laws_outcomes.specs.Events.{ComesOut}
use Rattle.grasp_model_doubts.specs.Events.{CallMayStop, CallOccurs, DoubtMayStop}
use Rattle.grasp_model_doubts.specs.Steps.{doubter_event}
use Rattle.grasp_model_doubts.specs.declared.event.DoubtEvent.TheVariants as doubt
use Rattle.grasp_model_network.specs.Events.{IsFit, Overflows}
use Rattle.grasp_model_network.specs.Plans.{IsNode}
use Rattle.grasp_model_network.specs.Runs.{IsReached}
use Rattle.grasp_model_network.specs.Setting.{Setting, numbered}
use Rattle.grasp_model_network.specs.Visits.{Choice, no_choice}
use Rattle.grasp_model_network.specs.World.{WorldState}
use Rattle.grasp_model_network.specs.declared.report.WorldStop.TheVariants.{TooMuch}
use Rattle.grasp_laws_doubt_outcomes.proofs.Calls.{call_is}
use Rattle.grasp_laws_doubt_outcomes.specs.Events.{DoubtComesOut, DoubtEventsComeOut}

-- the call of a doubter comes out
pub record CallComes (s : Setting) (w : WorldState) (node : ℕ) (o : Option DoubterState) : Type 0 where
  pub choice : Choice
  pub occurs : CallOccurs s w node choice o

module _ (l : Grounds) (s : Setting) (w : WorldState) (ds : List DoubterState) (r : IsReached s w) (all : DoubtersStand s w ds) (node : ℕ) (member : IsNode (length s.members) node) where
  -- each member has a doubter
  there : (d : DoubterState) × (numbered ds node ≡ Some d)
  there = numbered_there ds node (subst (λ n. IsNode n node) (sym all.count) member)

  fits : IsFit s w (doubter_event there.0 node)
  fits = (member, λ same. absurd (omega (arith, same)), call_is l s w ds r all node member there.0 there.1)

  pub call_comes : CallComes s w node (numbered ds node) ⊎ CallMayStop s w node TooMuch (numbered ds node)
  call_comes = subst (λ (o : Option DoubterState). CallComes s w node o ⊎ CallMayStop s w node TooMuch o) (sym there.1) (by (events_come_out s w (doubter_event there.0 node) r fits)) where
    by : ComesOut s w (doubter_event there.0 node) ⊎ Overflows s w (doubter_event there.0 node) → CallComes s w node (Some there.0) ⊎ CallMayStop s w node TooMuch (Some there.0)
    by (inl c) = inl (record { choice = c.choice; occurs = c.occurs })
    by (inr o) = inr o

pub doubt_events_come_out : Grounds → FirstStands → DoubtEventsComeOut
doubt_events_come_out l first s x (doubt.Plain e) h fit = by (events_come_out s x.world e (doubted_stands l first s x h).0 fit.0) where
  by : ComesOut s x.world e ⊎ Overflows s x.world e → DoubtComesOut s x (doubt.Plain e) ⊎ DoubtMayStop s x (doubt.Plain e) TooMuch
  by (inl c) = inl (record { choice = c.choice; occurs = (c.occurs, fit.1) })
  by (inr o) = inr o
doubt_events_come_out l first s x (doubt.Doubter node) h fit = let f = doubted_stands l first s x h in by (call_comes l s x.world x.doubters f.0 f.1 node fit) where
  by : CallComes s x.world node (numbered x.doubters node) ⊎ CallMayStop s x.world node TooMuch (numbered x.doubters node) → DoubtComesOut s x (doubt.Doubter node) ⊎ DoubtMayStop s x (doubt.Doubter node) TooMuch
  by (inl c) = inl (record { choice = c.choice; occurs = c.occurs })
  by (inr o) = inr o
doubt_events_come_out l first s x (doubt.Ask node p peer) h fit = inl (record { choice = no_choice; occurs = fit })
