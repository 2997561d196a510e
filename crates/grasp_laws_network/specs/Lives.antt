-- The lives of the nodes: each is a seat of its own, and a restart adds one (RFC 8992, section 4.1).
use Rattle.std.specs.Prelude.{◌≡◌, ℕ, List, [], false, length, None, Some}
use Rattle.grasp_agent.specs.States.{unsent_of}
use Rattle.grasp_model_network.specs.Events.{Occurs, after_event}
use Rattle.grasp_model_network.specs.Plans.{IsNode}
use Rattle.grasp_model_network.specs.Restarting.{MayRestart, after_restart}
use Rattle.grasp_laws_network.specs.Keeping.{IsLonger}
use Rattle.grasp_model_network.specs.Runs.{Happening, IsReached, world_after}
use Rattle.grasp_model_network.specs.Setting.{Setting, numbered}
use Rattle.grasp_model_network.specs.Settling.{IsDead, after_settle}
use Rattle.grasp_model_network.specs.Turns.{after_turn}
use Rattle.grasp_model_network.specs.Visits.{Choice}
use Rattle.grasp_model_network.specs.World.{Seat, WorldState, present_life, member_of, is_present, seat_at}
use Rattle.grasp_model_network.specs.declared.event.Event.{Event}
use Rattle.grasp_model_network.specs.declared.turn.Turn.{Turn}
use Rattle.grasp_pool.specs.declared.image.PoolImage.{PoolImage}
use Rattle.grasp_types.specs.Prefix.{AddressBlock as Prefix}

-- ---- what turns keep

-- an event, a settling and a restart each keep it
pub record TurnsKeep (s : Setting) (P : WorldState → Type 0) : Type 0 where
  pub events : (w : WorldState) (e : Event) (c : Choice) → Occurs s w e c → P w → P (after_event s w e c)
  pub settles : (w : WorldState) (node : ℕ) (p : Prefix) → IsDead w node p → P w → P (after_settle w node p)
  pub restarts : (w : WorldState) (node : ℕ) (image : PoolImage) → MayRestart s w node image → P w → P (after_restart s w node image)

-- ---- the lives of a network

pub record LivesStand (s : Setting) (w : WorldState) : Type 0 where
  -- of each life it is known whose it is: a member's
  pub count : length w.lives ≡ length w.seats
  pub members : (life node : ℕ) → numbered w.lives life ≡ Some node → IsNode (length s.members) node
  -- each member has a present life, which is its own
  pub present : (node : ℕ) → IsNode (length s.members) node → IsNode (length w.seats) (present_life w node)
  pub own : (node : ℕ) → IsNode (length s.members) node → member_of w (present_life w node) ≡ node
  -- one that has ended holds nothing, and has no act to do and no return to request
  pub free : (life : ℕ) (seat : Seat) → seat_at w life ≡ Some seat → is_present w life ≡ false → seat.agent.pool.free ≡ []
  pub act : (life : ℕ) (seat : Seat) → seat_at w life ≡ Some seat → is_present w life ≡ false → seat.agent.act ≡ None
  pub back : (life : ℕ) (seat : Seat) → seat_at w life ≡ Some seat → is_present w life ≡ false → unsent_of seat.agent.back ≡ None

abbrev pub LivesAreKept : Type 0
LivesAreKept = (s : Setting) (w : WorldState) → IsReached s w → LivesStand s w

-- ---- what events leave

-- no event begins a life or settles anything, and so no run does
pub record EventsKeepLives : Type 0 where
  pub lives : (s : Setting) (w : WorldState) (e : Event) (c : Choice) → (after_event s w e c).lives ≡ w.lives
  pub settled : (s : Setting) (w : WorldState) (e : Event) (c : Choice) → (after_event s w e c).settled ≡ w.settled
  pub run_lives : (s : Setting) (w : WorldState) (hs : List Happening) → (world_after s w hs).lives ≡ w.lives
  pub run_settled : (s : Setting) (w : WorldState) (hs : List Happening) → (world_after s w hs).settled ≡ w.settled

-- what a turn settled stays settled
abbrev pub SettledStay : Type 0
SettledStay = (s : Setting) (w : WorldState) (t : Turn) (c : Choice) → IsLonger w.settled (after_turn s w t c).settled
