-- When a want is given to the agent of prefixes, and when it is given again (RFC 8992, section 4.1). The pauses are this project's own.
use Rattle.std.specs.Prelude.{ℕ, ◌+◌, ◌-◌, ◌*◌, ◌/◌, ◌^◌, ◌&&◌, min, nat_le, not, position, Bool, true, false, List, Option, None, Some}
use Rattle.grasp_agent.specs.declared.want.WantEnd.{WantEnd}
use Rattle.grasp_agent.specs.declared.want.WantEnd.TheVariants as end
use Rattle.grasp_io.specs.Memory.{one_more}
use Rattle.grasp_types.specs.declared.refusal.ApiRefused.{ApiRefused}
use Rattle.grasp_types.specs.declared.refusal.ApiRefused.TheVariants as refusal
use Rattle.grasp_crew.specs.declared.trying.Pace.{Pace}
use Rattle.grasp_crew.specs.declared.trying.Trying.{Trying}

-- a want that was never given, and may be at once
abbrev pub untried : Pace → Trying
untried p = record { count = 0; end = None; dropped = false; next = 0; pause = p.first }

-- its peer can be asked
abbrev pub is_reachable : ApiRefused → Bool
is_reachable refusal.BadLocator = false
is_reachable _ = true

-- after a try that ended so a want is tried again: not where a prefix is held, or its peer can't be asked
abbrev pub is_unmet : Option WantEnd → Bool
is_unmet None = true
is_unmet (Some (end.Held p)) = false
is_unmet (Some (end.Refused r)) = is_reachable r
is_unmet (Some end.Declined) = true
is_unmet (Some end.TimedOut) = true
is_unmet (Some end.Broken) = true
is_unmet (Some end.OutOfMemory) = true
is_unmet (Some end.Invalid) = true
is_unmet (Some end.Empty) = true

-- the want is still to be met
abbrev pub is_open : Trying → Bool
is_open t = not t.dropped && is_unmet t.end

-- it may be given at this reading
abbrev pub is_ripe : ℕ → Trying → Bool
is_ripe now t = is_open t && nat_le t.next now

-- the place of the first that may
abbrev pub ripe_place : ℕ → List Trying → Option ℕ
ripe_place now ts = position (is_ripe now) ts

-- once more it was given
abbrev pub given : Trying → Trying
given t = record t { count = one_more t.count }

-- a pause with the salt of the node, so that nodes that begin together don't ask together
abbrev pub salted : Pace → ℕ → ℕ
salted p pause = pause + pause * p.salt / 512

-- a try ended so at this reading: the next one comes after a pause, and the pause behind that is twice as long, up to the longest
abbrev pub tried : ℕ → Pace → Option WantEnd → Trying → Trying
tried now p e t = record t { end = e; next = min (now + salted p t.pause) (2 ^ 64 - 1); pause = min (2 * t.pause) p.most }

-- it is taken back
abbrev pub dropped : Trying → Trying
dropped t = record t { dropped = true }
