-- An agent of PrefixDoubt: what it has seen of the agent of prefixes at its node, what it asks, and whom it answers.
use Rattle.std.specs.Prelude.{ℕ, ◌+◌, ◌-◌, ◌==◌, ◌&&◌, Bool, true, false, if◌then◌else◌, List, [], length, slice_get, Option, Some, None}
use Rattle.grasp_types.specs.Prefix.{AddressBlock as Prefix}
use Rattle.grasp_types.specs.declared.address.Address.{Address}
use Rattle.grasp_types.specs.declared.session.Handle.{Handle}
use Rattle.grasp_doubter.specs.declared.asking.Ask.{Ask}
use Rattle.grasp_doubter.specs.declared.duty.DoubtAct.{DoubtAct}
use Rattle.grasp_doubter.specs.declared.duty.DoubtDuty.{DoubtDuty}
use Rattle.grasp_doubter.specs.declared.duty.DoubtDuty.TheVariants as duty
use Rattle.grasp_doubter.specs.declared.seen.Opener.{Opener}
use Rattle.grasp_doubter.specs.declared.seen.Sent.{Sent}

-- the address of its node; who opened each giving session; to whom each prefix was offered since it was last reserved; what was accepted, at most
-- 1024 prefixes, and whether there were more; the question that isn't finished; the sessions of the questions that came, in order; the answer that
-- isn't given; and the duty that is next
pub record DoubterState : Type 0 where
  pub address : Address
  pub openers : List Opener
  pub offered : List Sent
  pub accepted : List Prefix
  pub lost : Bool
  pub ask : Option Ask
  pub answering : List Handle
  pub act : Option DoubtAct
  pub cursor : ℕ

-- a doubter that has seen nothing and made no call
abbrev pub first_doubter : Address → DoubterState
first_doubter a = record { address = a; openers = []; offered = []; accepted = []; lost = false; ask = None; answering = []; act = None; cursor = 0 }

-- the two are one prefix
abbrev pub is_prefix : Prefix → Prefix → Bool
is_prefix p q = p.address == q.address && p.length == q.length

-- the two name one session: a number is never given again
abbrev pub is_session : Handle → Handle → Bool
is_session h k = h.number == k.number

-- the session of the question, where it was requested
abbrev pub ask_session : Option Ask → Option Handle
ask_session None = None
ask_session (Some k) = k.session

-- there is a question that wasn't requested
abbrev pub is_unasked : Option Ask → Bool
is_unasked None = false
is_unasked (Some k) = by_session k.session where
  by_session : Option Handle → Bool
  by_session None = true
  by_session (Some h) = false

-- one duty for a session
abbrev pub one_for : Option Handle → ℕ
one_for None = 0
one_for (Some h) = 1

-- how many duties there are: to listen, the session of its question, and those in which it answers
abbrev pub duties : DoubterState → ℕ
duties d = (1 + one_for (ask_session d.ask)) + length d.answering

-- the answering session at this place, as a duty
abbrev pub answering_duty : List Handle → ℕ → DoubtDuty
answering_duty hs place = by_entry (slice_get hs place) where
  by_entry : Option Handle → DoubtDuty
  by_entry None = duty.Listen
  by_entry (Some h) = duty.Answer place h

-- the session of its question comes before those in which it answers
abbrev pub asking_duty : Option Handle → List Handle → ℕ → DoubtDuty
asking_duty None hs place = answering_duty hs place
asking_duty (Some h) hs place = if place == 0 then duty.Ask h else answering_duty hs (place - 1)

-- the duty at this place: the first is to listen
abbrev pub duty_at : Option Handle → List Handle → ℕ → DoubtDuty
duty_at asked hs place = if place == 0 then duty.Listen else asking_duty asked hs (place - 1)

-- the duty that is next
abbrev pub duty_of : DoubterState → DoubtDuty
duty_of d = duty_at (ask_session d.ask) d.answering d.cursor
