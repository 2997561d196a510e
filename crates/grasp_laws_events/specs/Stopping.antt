-- Why an event may stop a network, and how much is sent in one that goes on. The limit is this project's own.
use Rattle.std.specs.Prelude.{◌≡◌, ◌≤◌, ◌<◌, ◌+◌, ℕ, None, length, sum_by}
use Rattle.grasp_types.specs.Prefix.{AddressBlock as Prefix}
use Rattle.grasp_model_network.specs.Events.{MayStop, visit_of, after_event}
use Rattle.grasp_model_network.specs.Runs.{IsReached}
use Rattle.grasp_model_network.specs.Setting.{Setting}
use Rattle.grasp_model_network.specs.Visits.{Choice, MayCome}
use Rattle.grasp_model_network.specs.World.{WorldState}
use Rattle.grasp_model_network.specs.declared.event.Event.{Event}
use Rattle.grasp_model_network.specs.declared.event.Event.TheVariants as event
use Rattle.grasp_model_network.specs.declared.report.WorldStop.TheVariants as stop
use Rattle.grasp_model_node.specs.Queue.{encoding}
use Rattle.grasp_wire.specs.Laws.{encoded}

-- the bytes of all datagrams that were sent, and of what both sides of each stream sent
abbrev pub all_bytes : WorldState → ℕ
all_bytes w =
    sum_by (λ d. length (encoding d.message)) w.datagrams
    + sum_by (λ t. length (encoded t.from_near.sent) + length (encoded t.from_far.sent)) w.streams

-- the event may come out so that the datagrams and streams that were sent have more than 256 MiB
abbrev pub SendsMore : Setting → WorldState → Event → Type 0
SendsMore s w e = (c : Choice) × MayCome (visit_of s w e) c × (268435456 < all_bytes (after_event s w e c))

pub record StopsHaveCauses : Type 0 where
  -- a network is stopped for too much exactly where more than that was sent
  pub too_much : (s : Setting) (w : WorldState) (e : Event) → IsReached s w → MayStop s w e stop.TooMuch → SendsMore s w e
  pub more : (s : Setting) (w : WorldState) (e : Event) → IsReached s w → SendsMore s w e → MayStop s w e stop.TooMuch
  -- in one that goes on no more was sent
  pub enough : (s : Setting) (w : WorldState) → IsReached s w → all_bytes w ≤ 268435456
  -- a clock, a want and a return stop none for want of memory, and no event does that makes no step
  pub clocks : (s : Setting) (w : WorldState) (node millis : ℕ) → ¬ MayStop s w (event.Clock node millis) stop.OutOfMemory
  pub wants : (s : Setting) (w : WorldState) (node wanted longest peer : ℕ) → ¬ MayStop s w (event.Want node wanted longest peer) stop.OutOfMemory
  pub returns : (s : Setting) (w : WorldState) (node : ℕ) (p : Prefix) (peer : ℕ) → ¬ MayStop s w (event.Return node p peer) stop.OutOfMemory
  pub stepless : (s : Setting) (w : WorldState) (e : Event) → visit_of s w e ≡ None → ¬ MayStop s w e stop.OutOfMemory
