-- How the sides of streams stand after each event: a stream is opened or turned away as the node replies, a side that is told that its stream is
-- closed is so from then on, and nothing else changes a side (RFC 8990, section 2.5.5).
use Rattle.std.specs.Prelude.{◌≡◌, ◌≢◌, ◌⊎◌, ◌≤◌, ℕ, None, Some, length, slice_get}
use Rattle.grasp_model_network.specs.Events.{Occurs, visit_of, after_event}
use Rattle.grasp_model_network.specs.Runs.{IsReached}
use Rattle.grasp_model_network.specs.Setting.{Setting}
use Rattle.grasp_model_network.specs.Streams.{StreamState, not_yet, lives, turned_away, told_closed, side_at}
use Rattle.grasp_model_network.specs.Visits.{Visit, Choice}
use Rattle.grasp_model_network.specs.World.{WorldState}
use Rattle.grasp_model_network.specs.declared.event.Event.{Event}
use Rattle.grasp_model_network.specs.declared.event.Event.TheVariants as event
use Rattle.grasp_session.specs.Messages.{Side, other}
use Rattle.grasp_types.specs.declared.reply.Reply.{Reply}
use Rattle.grasp_types.specs.declared.reply.Reply.TheVariants as reply
use Rattle.grasp_laws_events.specs.Steps.{far_or_near}

-- both sides stand as they did
pub record StandsSame (t u : StreamState) : Type 0 where
  pub near_side : u.near_side ≡ t.near_side
  pub far_side : u.far_side ≡ t.far_side
  pub far : u.far ≡ t.far

-- the stream of this number was opened at this life, under the number with which it arrives there: it was turned away where the reply says so,
-- and lives where it was taken
pub record StandsOpened (s : Setting) (life k : ℕ) (r : Reply) (t u : StreamState) : Type 0 where
  pub near_side : u.near_side ≡ t.near_side
  pub far : u.far ≡ Some (record { node = life; number = s.arrives_as life k })
  pub replied : ((r ≡ reply.Turned) × (u.far_side ≡ turned_away)) ⊎ ((r ≡ reply.Taken) × (u.far_side ≡ lives))

-- this side was told that the stream is closed, and the other one stands as it did
pub record StandsTold (side : Side) (t u : StreamState) : Type 0 where
  pub told : side_at u side ≡ told_closed
  pub rest : side_at u (other side) ≡ side_at t (other side)
  pub far : u.far ≡ t.far

-- what an event makes of a stream that was there
abbrev pub StandsAfter : Setting → Event → Visit → Choice → StreamState → StreamState → Type 0
StandsAfter s (event.Arrive k hold) v c t u = (t.number ≡ Some k → StandsOpened s v.node k c.reply t u) × (t.number ≢ Some k → StandsSame t u)
StandsAfter s (event.Cut k far hold) v c t u = (t.number ≡ Some k → StandsTold (far_or_near far) t u) × (t.number ≢ Some k → StandsSame t u)
StandsAfter s e v c t u = StandsSame t u

pub record SidesStandSo : Type 0 where
  -- each stream stays where it was
  pub each : (s : Setting) (w : WorldState) (e : Event) (c : Choice) (v : Visit) → IsReached s w → Occurs s w e c → visit_of s w e ≡ Some v
      → (place : ℕ) (t : StreamState) → slice_get w.streams place ≡ Some t
      → (u : StreamState) × (slice_get (after_event s w e c).streams place ≡ Some u) × StandsAfter s e v c t u
  -- one that is new has a near side that lives, and a far one that isn't opened
  pub new : (s : Setting) (w : WorldState) (e : Event) (c : Choice) (place : ℕ) (u : StreamState) → length w.streams ≤ place
      → slice_get (after_event s w e c).streams place ≡ Some u → (u.near_side ≡ lives) × (u.far_side ≡ not_yet) × (u.far ≡ None)
  -- an event that makes no step changes no stream
  pub stepless : (s : Setting) (w : WorldState) (e : Event) (c : Choice) → visit_of s w e ≡ None → (after_event s w e c).streams ≡ w.streams
