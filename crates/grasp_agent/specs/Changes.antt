-- What a reply changes in the pool of an agent of PrefixManager.
use Rattle.std.specs.Prelude.{if◌then◌else◌, slice_get, Option, Some, None}
use Rattle.grasp_types.specs.Prefix.{AddressBlock as Prefix}
use Rattle.grasp_types.specs.declared.refusal.ApiRefused.{ApiRefused}
use Rattle.grasp_types.specs.declared.reply.Reply.{Reply}
use Rattle.grasp_types.specs.declared.session.By.TheVariants.{Theirs}
use Rattle.grasp_types.specs.declared.session.Outcome.{Outcome}
use Rattle.grasp_types.specs.declared.session.Outcome.TheVariants as outcome
use Rattle.grasp_types.specs.declared.session.Progress.{Progress}
use Rattle.grasp_types.specs.declared.session.Progress.TheVariants as progress
use Rattle.grasp_agent.specs.Kept.{returned}
use Rattle.grasp_agent.specs.Replies.{is_again, refused_in, answer_in, is_done, progress_in}
use Rattle.grasp_agent.specs.States.{AgentState, is_open, is_asking, is_returning, duty_of}
use Rattle.grasp_agent.specs.declared.act.Act.{Act}
use Rattle.grasp_agent.specs.declared.act.Act.TheVariants as act
use Rattle.grasp_agent.specs.declared.change.PoolChange.{PoolChange}
use Rattle.grasp_agent.specs.declared.change.PoolChange.TheVariants.{Stays, Gained, Given, Back, Doubted, Decided}
use Rattle.grasp_agent.specs.declared.duty.Duty.{Duty}
use Rattle.grasp_agent.specs.declared.duty.Duty.TheVariants as duty
use Rattle.grasp_agent.specs.declared.giving.Giving.{Giving}

-- a prefix that wasn't offered goes back
abbrev pub back_change : Option Prefix → PoolChange
back_change None = Stays
back_change (Some p) = Back p

-- the refusal of an act gives back the prefix that it would have offered
abbrev pub dropping_change : Act → PoolChange
dropping_change (act.Offer place handle p) = Back p
dropping_change _ = Stays

-- an acceptance that is done gains its prefix
abbrev pub doing_change : Act → PoolChange
doing_change (act.Accept handle p) = Gained p
doing_change _ = Stays

abbrev pub act_change : Act → Reply → PoolChange
act_change a r = by_refusal (refused_in r) where
  by_refusal : Option ApiRefused → PoolChange
  by_refusal (Some refused) = dropping_change a
  by_refusal None = if is_done (answer_in r) then doing_change a else Stays

-- a return whose request was refused was never offered
abbrev pub returning_change : Option Prefix → Reply → PoolChange
returning_change p r = by_refusal (refused_in r) where
  by_refusal : Option ApiRefused → PoolChange
  by_refusal (Some refused) = back_change p
  by_refusal None = Stays

-- what becomes of an offer when its session ends: the peer's acceptance gives it, the peer's decline frees it, and all else leaves it in doubt
abbrev pub settled_change : Prefix → Outcome → PoolChange
settled_change p (outcome.Agreed Theirs o) = Given p
settled_change p (outcome.Declined Theirs reason) = Back p
settled_change p _ = Doubted p

abbrev pub settling_change : Option Prefix → Outcome → PoolChange
settling_change None e = Stays
settling_change (Some p) e = settled_change p e

-- the session of a return stands so
abbrev pub heard_change : Option Prefix → Option Progress → PoolChange
heard_change p (Some (progress.Ended e)) = settling_change p e
heard_change p _ = Stays

-- a giving session stands so
abbrev pub give_change : Option Giving → Option Progress → PoolChange
give_change (Some g) (Some (progress.Turn o)) = Decided g.offer
give_change (Some g) (Some (progress.Ended e)) = settling_change g.offer e
give_change _ _ = Stays

abbrev pub duty_change : AgentState → Duty → Reply → PoolChange
duty_change s duty.Listen r = Stays
duty_change s (duty.Want h) r = Stays
duty_change s (duty.Return h) r = heard_change (returned s.back) (progress_in (answer_in r))
duty_change s (duty.Give place h) r = give_change (slice_get s.giving place) (progress_in (answer_in r))

abbrev pub serving_change : AgentState → Option Act → Reply → PoolChange
serving_change s (Some a) r = act_change a r
serving_change s None r = if is_asking s.want then Stays else (if is_returning s.back then returning_change (returned s.back) r else duty_change s (duty_of s) r)

-- what the reply to the call that was next changes in the pool
unfoldable pub change_of : AgentState → Reply → PoolChange
change_of s r = if is_again r then Stays else (if is_open s.stage then serving_change s s.act r else Stays)
