-- A node begins anew: when it may, and the network after it (RFC 8992, sections 4.1 and 4.2). Each life of a node is a seat of its own, so
-- that a restart adds one, and rewrites nothing of what was.
use Rattle.std.specs.Prelude.{◌≡◌, ◌-◌, ◌==◌, ◌&&◌, ◌||◌, ◌++◌, ◌∷◌, [], ℕ, Bool, true, false, Option, None, Some, filter, map, slice_set}
use Rattle.grasp_agent.specs.Reopening.{retired, MayReopen}
use Rattle.grasp_pool.specs.Functions.{pool_of_image}
use Rattle.grasp_pool.specs.declared.image.PoolImage.{PoolImage}
use Rattle.grasp_session.specs.Messages.{Side, Near, Far}
use Rattle.grasp_model_network.specs.Offers.{is_kept}
use Rattle.grasp_model_network.specs.Openings.{opened_seat}
use Rattle.grasp_model_network.specs.Sending.{seat_with}
use Rattle.grasp_model_network.specs.Setting.{Member, Setting, member_at, numbered}
use Rattle.grasp_model_network.specs.Streams.{StreamEnd, StreamState, is_number, is_waiting, told_closed, with_side}
use Rattle.grasp_model_network.specs.World.{Seat, WorldState, present_life, seat_at}

-- the member may begin anew by this image of a pool
pub record MayRestart (s : Setting) (w : WorldState) (node : ℕ) (image : PoolImage) : Type 0 where
  pub member : Member
  pub found : numbered s.members node ≡ Some member
  pub seat : Seat
  pub here : seat_at w (present_life w node) ≡ Some seat
  pub image_is : MayReopen seat.agent image

-- ---- the streams

-- the end is one of this life
abbrev pub is_of_life : ℕ → Option StreamEnd → Bool
is_of_life life None = false
is_of_life life (Some e) = e.node == life

-- the stream goes to this member, and wasn't opened there
abbrev pub waits_for : Setting → ℕ → StreamState → Bool
waits_for s node t = is_waiting t.far_side && is_number node (member_at s t.to)

-- the side is told that the stream is closed, where it is to be
abbrev pub told_if : Bool → Side → StreamState → StreamState
told_if true side t = with_side told_closed t side
told_if false side t = t

-- the sides of the life that ends are told that the stream is closed, and so is the far side of a stream that goes to its member and wasn't
-- opened there, whether its dial was sent or not
abbrev pub told_at : Setting → ℕ → ℕ → StreamState → StreamState
told_at s node life t = told_if (is_of_life life t.far || waits_for s node t) Far (told_if (t.near.node == life) Near t)

-- ---- the network after it

-- the life that ends has nothing to offer and holds nothing, and another one begins with the image; what was offered stays with the life
-- that offered it
abbrev pub restarted : Setting → WorldState → ℕ → ℕ → PoolImage → Seat → Member → WorldState
restarted s w node life image seat m = record w {
  seats = slice_set w.seats (life - 1) (seat_with seat.core (retired seat.agent)) ++ opened_seat m.plan (pool_of_image image) ∷ [];
  lives = w.lives ++ node ∷ [];
  streams = map (told_at s node life) w.streams;
  offers = filter (is_kept life (retired seat.agent).pool) w.offers;
}

abbrev pub restarted_by : Setting → WorldState → ℕ → PoolImage → Option Seat → Option Member → WorldState
restarted_by s w node image (Some seat) (Some m) = restarted s w node (present_life w node) image seat m
restarted_by s w node image (Some seat) None = w
restarted_by s w node image None (Some m) = w
restarted_by s w node image None None = w

-- the network once this member has begun anew by this image
unfoldable pub after_restart : Setting → WorldState → ℕ → PoolImage → WorldState
after_restart s w node image = restarted_by s w node image (seat_at w (present_life w node)) (numbered s.members node)
