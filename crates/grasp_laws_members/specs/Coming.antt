-- What a network can give a member: all that its events bring there, so that what is asked of the world outside isn't too much.
use Rattle.std.specs.Prelude.{◌≡◌, ℕ, Bool, true, false, Some}
use Rattle.grasp_laws_members.specs.Courses.{MayBe, after_moment, at_node}
use Rattle.grasp_laws_members.specs.Acts.{Taken}
use Rattle.grasp_laws_members.specs.Giving.{Gives}
use Rattle.grasp_model_network.specs.Setting.{Setting, member_at, numbered}
use Rattle.grasp_model_network.specs.StreamChanges.{side_named}
use Rattle.grasp_model_network.specs.Streams.{StreamState, end_at, is_reached, is_waiting, next_bytes, side_at, stream_numbered}
use Rattle.grasp_model_network.specs.World.{Seat, SentDatagram, WorldState, end_of, is_too_much, present_life, seat_at}
use Rattle.grasp_model_network.specs.declared.event.Event.{Event}
use Rattle.grasp_model_network.specs.declared.event.Event.TheVariants as event
use Rattle.grasp_model_node.specs.Queue.{encoding}
use Rattle.grasp_session.specs.Messages.{other}
use Rattle.grasp_types.specs.declared.traffic.Input.TheVariants as input

pub record GivesWhatComes : Type 0 where
  -- each datagram that was sent to it
  pub datagrams : (s : Setting) (w : WorldState) (own : Bool) (index : ℕ) (d : SentDatagram) → numbered w.datagrams index ≡ Some d
      → Gives s w d.route.receiver own (input.Datagram d.route.link d.route.from (encoding d.message)) (event.Datagram index true)
  -- each stream that was dialled to it and waits
  pub arrivals : (s : Setting) (w : WorldState) (node : ℕ) (own : Bool) (k : ℕ) (t : StreamState) (near : Seat) → stream_numbered w.streams k ≡ Some t
      → is_waiting t.far_side ≡ true → member_at s t.to ≡ Some node → seat_at w t.near.node ≡ Some near
      → Gives s w node own (input.Opened (s.arrives_as (present_life w node) k) (s.arrives_from k near.core.plan.address)) (event.Arrive k true)
  -- so many of the next bytes, or all, on each side of a stream that lives there
  pub pieces : (s : Setting) (w : WorldState) (node : ℕ) (own : Bool) (k stream count : ℕ) (far : Bool) (t : StreamState) → stream_numbered w.streams k ≡ Some t
      → is_reached (side_at t (side_named far)) ≡ true → end_at t (side_named far) ≡ Some (end_of (present_life w node) stream)
      → Gives s w node own (input.Bytes stream (next_bytes t (other (side_named far)) count)) (event.Bytes k far count true)
  -- and its closing
  pub closings : (s : Setting) (w : WorldState) (node : ℕ) (own : Bool) (k stream : ℕ) (far : Bool) (t : StreamState) → stream_numbered w.streams k ≡ Some t
      → is_reached (side_at t (side_named far)) ≡ true → end_at t (side_named far) ≡ Some (end_of (present_life w node) stream)
      → Gives s w node own (input.Closed stream) (event.Cut k far true)
  pub drains : (s : Setting) (w : WorldState) (node : ℕ) (own : Bool) (max : ℕ) → Gives s w node own (input.Drain max) (event.Drain node max)
  -- what it can give a member that runs may come, unless more is sent than may be
  pub moments : (runs : ℕ → Bool) (s : Setting) (w : WorldState) (node : ℕ) (x : Taken) (e : Event) → runs node ≡ true → Gives s w node x.own x.input e
      → is_too_much (after_moment s w (at_node node x e)) ≡ false → MayBe runs s w (at_node node x e)
