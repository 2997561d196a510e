-- A beacon as it serves: it floods its value again and again (RFC 8990, section 2.5.6.2). The pauses are this project's own.
use Rattle.std.specs.Prelude.{ℕ, ◌+◌, ◌-◌, ◌*◌, ◌^◌, ◌==◌, ◌&&◌, min, nat_le, nat_lt, is_some, if◌then◌else◌, Bool, true, false, List, Option, None, Some}
use Rattle.grasp_agent.specs.Announcing.{BeaconState, first_beacon, beacon_call, after_beacon, flooding_again}
use Rattle.grasp_agent.specs.Replies.{answer_in, asa_in, is_done}
use Rattle.grasp_cbor.specs.DataItem.{DataItem}
use Rattle.grasp_types.specs.declared.reply.Reply.{Reply}
use Rattle.grasp_types.specs.declared.traffic.Input.{Input}
use Rattle.grasp_types.specs.declared.traffic.Input.TheVariants as input
use Rattle.grasp_crew.specs.Nudges.{Nudge, still, wanted, again}

-- the beacon; how many calls it makes until it rests; whether one is due; the reading of its next flood, the pause behind that one, and the longest pause
pub record HeraldState : Type 0 where
  pub beacon : BeaconState
  pub left : ℕ
  pub awake : Bool
  pub next : ℕ
  pub pause : ℕ
  pub every : ℕ

-- the first pause, in milliseconds
abbrev pub first_pause : ℕ
first_pause = 1000

-- a beacon that has made no call: it registers itself and its objective, offers its value, and floods it
abbrev pub first_herald : ℕ → List ℕ → DataItem → ℕ → ℕ → ℕ → HeraldState
first_herald number name value ttl loops every = record { beacon = first_beacon number name value ttl loops; left = 4; awake = true; next = 0; pause = first_pause; every = every }

-- one that rests floods again, once the reading has come
abbrev pub herald_nudge : ℕ → HeraldState → Nudge
herald_nudge now h = if h.left == 0 && nat_le h.next now then again else still

abbrev pub herald_told : HeraldState → Nudge → HeraldState
herald_told h still = h
herald_told h (wanted place w) = h
herald_told h again = record h { beacon = flooding_again h.beacon; left = 1; awake = true }

-- a call is due until it rests, or one moved it no further
abbrev pub herald_due : HeraldState → Bool
herald_due h = h.awake && nat_lt 0 h.left

abbrev pub herald_call : HeraldState → Input
herald_call h = input.Api h.beacon.asa (beacon_call h.beacon)

-- the reply moves a beacon on
abbrev pub is_moving : Reply → Bool
is_moving r = if is_some (asa_in (answer_in r)) then true else is_done (answer_in r)

-- one that floods rests until a pause has passed, and the pause behind that is twice as long, up to the longest
abbrev pub rested : ℕ → HeraldState → HeraldState
rested now h = if h.left == 1 then record h { left = 0; next = min (now + h.pause) (2 ^ 64 - 1); pause = min (2 * h.pause) h.every } else record h { left = h.left - 1 }

abbrev pub herald_with : ℕ → HeraldState → Bool → BeaconState → HeraldState
herald_with now h true b = rested now (record h { beacon = b; awake = true })
herald_with now h false b = record h { beacon = b; awake = false }

-- after the reply to its call, at this reading
unfoldable pub herald_after : ℕ → HeraldState → Reply → HeraldState
herald_after now h r = herald_with now h (is_moving r) (after_beacon h.beacon r)

-- a call that wasn't done is made again
abbrev pub herald_woken : HeraldState → HeraldState
herald_woken h = record h { awake = true }
