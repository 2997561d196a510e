-- The crew of a node that serves: the agent of prefixes, then the beacons, then the readers. As callers they are 1 and up, in this order.
use Rattle.std.specs.Prelude.{ℕ, Bool, true, false}
use Rattle.grasp_types.specs.declared.reply.Reply.{Reply}
use Rattle.grasp_types.specs.declared.traffic.Input.{Input}
use Rattle.grasp_crew.specs.Herald.{herald_nudge, herald_told, herald_due, herald_call, herald_after, herald_woken}
use Rattle.grasp_crew.specs.Listener.{listener_call, listener_after, listener_woken}
use Rattle.grasp_crew.specs.Nudges.{Nudge, still}
use Rattle.grasp_crew.specs.Steward.{steward_nudge, steward_told, steward_due, steward_call, steward_after, steward_woken}
use Rattle.grasp_crew.specs.declared.servant.Servant.{Servant}
use Rattle.grasp_crew.specs.declared.servant.Servant.TheVariants.{Steward, Herald, Listener}

-- it manages prefixes
abbrev pub is_steward : Servant → Bool
is_steward (Steward m) = true
is_steward (Herald h) = false
is_steward (Listener l) = false

-- so many calls open it: the agent of prefixes registers itself and its objective and listens, a beacon offers its value in place of that, and a
-- reader registers itself
abbrev pub opening_count : Servant → ℕ
opening_count (Steward m) = 3
opening_count (Herald h) = 3
opening_count (Listener l) = 1

-- what is due to be told to an agent at this reading
abbrev pub nudge_of : ℕ → Servant → Nudge
nudge_of now (Steward m) = steward_nudge now m
nudge_of now (Herald h) = herald_nudge now h
nudge_of now (Listener l) = still

-- the agent once it was told
abbrev pub nudged : Servant → Nudge → Servant
nudged (Steward m) n = Steward (steward_told m n)
nudged (Herald h) n = Herald (herald_told h n)
nudged (Listener l) n = Listener l

-- a call of it is due
abbrev pub is_due : Servant → Bool
is_due (Steward m) = steward_due m
is_due (Herald h) = herald_due h
is_due (Listener l) = l.awake

-- its call, under the number by which the node knows it
abbrev pub call_of : Servant → Input
call_of (Steward m) = steward_call m
call_of (Herald h) = herald_call h
call_of (Listener l) = listener_call l

-- after the reply to it, at this reading
abbrev pub after_call : ℕ → Servant → Reply → Servant
after_call now (Steward m) r = Steward (steward_after now m r)
after_call now (Herald h) r = Herald (herald_after now h r)
after_call now (Listener l) r = Listener (listener_after l r)

-- something came that may tell it something
abbrev pub woken : Servant → Servant
woken (Steward m) = Steward (steward_woken m)
woken (Herald h) = Herald (herald_woken h)
woken (Listener l) = Listener (listener_woken l)
