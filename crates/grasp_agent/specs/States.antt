-- An agent of PrefixManager: what it holds, what it wants, and to whom it gives.
use Rattle.std.specs.Prelude.{ℕ, ◌+◌, ◌-◌, ◌==◌, Bool, true, false, if◌then◌else◌, List, [], length, slice_get, Option, Some, None}
use Rattle.grasp_types.specs.Prefix.{AddressBlock as Prefix}
use Rattle.grasp_types.specs.declared.session.Handle.{Handle}
use Rattle.grasp_pool.specs.Holdings.{Holding}
use Rattle.grasp_agent.specs.declared.act.Act.{Act}
use Rattle.grasp_agent.specs.declared.act.Act.TheVariants as act
use Rattle.grasp_agent.specs.declared.back.Return.{Return}
use Rattle.grasp_agent.specs.declared.duty.Duty.{Duty}
use Rattle.grasp_agent.specs.declared.duty.Duty.TheVariants as duty
use Rattle.grasp_agent.specs.declared.giving.Giving.{Giving}
use Rattle.grasp_agent.specs.declared.stage.Stage.{Stage}
use Rattle.grasp_agent.specs.declared.stage.Stage.TheVariants.{Registering, Declaring, Opening, Serving}
use Rattle.grasp_agent.specs.declared.want.Want.{Want}
use Rattle.grasp_agent.specs.declared.want.WantEnd.{WantEnd}

-- an agent: its pool, its number (0 until it is registered), how far its opening calls are, the want and the return that aren't finished, the sessions in which
-- it gives, in the order in which they were taken, the act that was decided and isn't done, the duty that is next, and how the last want ended
pub record AgentState : Type 0 where
  pub pool : Holding
  pub asa : ℕ
  pub stage : Stage
  pub want : Option Want
  pub back : Option Return
  pub giving : List Giving
  pub act : Option Act
  pub cursor : ℕ
  pub last : Option WantEnd

-- an agent that has made no call
abbrev pub first_agent : Holding → AgentState
first_agent h = record { pool = h; asa = 0; stage = Registering; want = None; back = None; giving = []; act = None; cursor = 0; last = None }

-- the opening calls are done
abbrev pub is_open : Stage → Bool
is_open Registering = false
is_open Declaring = false
is_open Opening = false
is_open Serving = true

-- the session of the want, where it was requested
abbrev pub want_session : Option Want → Option Handle
want_session None = None
want_session (Some w) = w.session

-- the length that is wanted
abbrev pub want_length : Option Want → Option ℕ
want_length None = None
want_length (Some w) = Some w.length

-- the agent has a want that it hasn't requested yet
abbrev pub is_asking : Option Want → Bool
is_asking None = false
is_asking (Some w) = by_session w.session where
  by_session : Option Handle → Bool
  by_session None = true
  by_session (Some h) = false

-- the session of the return, where it was requested
abbrev pub back_session : Option Return → Option Handle
back_session None = None
back_session (Some r) = r.session

-- the prefix of a return that wasn't requested
abbrev pub unsent_of : Option Return → Option Prefix
unsent_of None = None
unsent_of (Some r) = by_session r.session where
  by_session : Option Handle → Option Prefix
  by_session None = Some r.prefix
  by_session (Some h) = None

-- there is a return, and it wasn't requested
abbrev pub is_returning : Option Return → Bool
is_returning None = false
is_returning (Some r) = by_session r.session where
  by_session : Option Handle → Bool
  by_session None = true
  by_session (Some h) = false

-- the prefix that an act accepts
abbrev pub accept_of : Act → Option Prefix
accept_of (act.Accept handle p) = Some p
accept_of _ = None

abbrev pub accepted_by : Option Act → Option Prefix
accepted_by None = None
accepted_by (Some a) = accept_of a

-- the prefix that an act offers
abbrev pub offer_of : Act → Option Prefix
offer_of (act.Offer place handle p) = Some p
offer_of _ = None

abbrev pub offered_by : Option Act → Option Prefix
offered_by None = None
offered_by (Some a) = offer_of a

-- one duty for a session
abbrev pub one_of : Option Handle → ℕ
one_of None = 0
one_of (Some h) = 1

-- how many duties stand before the giving sessions: to listen, the want's session, and that of the return
abbrev pub duties_before : Option Handle → Option Handle → ℕ
duties_before want back = 1 + (one_of want + one_of back)

-- how many duties there are
abbrev pub duties : AgentState → ℕ
duties s = duties_before (want_session s.want) (back_session s.back) + length s.giving

-- the giving session at this place, as a duty
abbrev pub giving_duty : List Giving → ℕ → Duty
giving_duty giving place = by_entry (slice_get giving place) where
  by_entry : Option Giving → Duty
  by_entry None = duty.Listen
  by_entry (Some g) = duty.Give place g.handle

-- the return's session comes before those in which the agent gives
abbrev pub back_duty : Option Handle → List Giving → ℕ → Duty
back_duty None giving place = giving_duty giving place
back_duty (Some h) giving place = if place == 0 then duty.Return h else giving_duty giving (place - 1)

-- the want's session comes before both
abbrev pub want_duty : Option Handle → Option Handle → List Giving → ℕ → Duty
want_duty None back giving place = back_duty back giving place
want_duty (Some h) back giving place = if place == 0 then duty.Want h else back_duty back giving (place - 1)

-- the duty at this place: the first is to listen
abbrev pub duty_at : Option Handle → Option Handle → List Giving → ℕ → Duty
duty_at want back giving place = if place == 0 then duty.Listen else want_duty want back giving (place - 1)

-- the duty that is next
abbrev pub duty_of : AgentState → Duty
duty_of s = duty_at (want_session s.want) (back_session s.back) s.giving s.cursor
