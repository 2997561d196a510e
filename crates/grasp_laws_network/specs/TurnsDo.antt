-- What a restart and a settling do to a network, and that they do nothing else (RFC 8992, sections 4.1 and 4.2).
use Rattle.std.specs.Prelude.{◌≡◌, ◌≢◌, ◌↔◌, ℕ, ◌+◌, true, [], ◌∷◌, ◌++◌, length, Contains, Some, slice_get}
use Rattle.grasp_agent.specs.Reopening.{retired}
use Rattle.grasp_agent.specs.Replies.{after_settling}
use Rattle.grasp_pool.specs.Functions.{pool_of_image}
use Rattle.grasp_pool.specs.Holdings.{IsListed}
use Rattle.grasp_pool.specs.declared.image.PoolImage.{PoolImage}
use Rattle.grasp_session.specs.Messages.{Side, Near, Far}
use Rattle.grasp_types.specs.Prefix.{AddressBlock as Prefix}
use Rattle.grasp_model_network.specs.Openings.{opened_seat}
use Rattle.grasp_model_network.specs.Plans.{IsNode}
use Rattle.grasp_model_network.specs.Restarting.{MayRestart, after_restart}
use Rattle.grasp_model_network.specs.Runs.{IsReached}
use Rattle.grasp_model_network.specs.Setting.{Member, Setting, numbered, member_at}
use Rattle.grasp_model_network.specs.Settling.{IsDead, after_settle}
use Rattle.grasp_model_network.specs.Streams.{StreamEnd, StreamState, told_closed, is_waiting, end_at, side_at}
use Rattle.grasp_model_network.specs.World.{Offered, Seat, WorldState, present_life, member_of, seat_at}

-- from the first network to the second no datagram, dial or byte is sent, and nothing is noted of a reply
pub record SendsNothing (w x : WorldState) : Type 0 where
  pub datagrams : x.datagrams ≡ w.datagrams
  pub dials : x.dials ≡ w.dials
  pub byte_count : x.byte_count ≡ w.byte_count
  pub flood_calls : x.flood_calls ≡ w.flood_calls
  pub floods_read : x.floods_read ≡ w.floods_read
  pub searches : x.searches ≡ w.searches
  pub answers : x.answers ≡ w.answers
  pub handles : x.handles ≡ w.handles

-- ---- a restart

-- this side of the stream has its end in this life
pub record HasEndIn (life : ℕ) (t : StreamState) (side : Side) : Type 0 where
  pub end : StreamEnd
  pub is : end_at t side ≡ Some end
  pub node : end.node ≡ life

-- the side is the far one of a stream that goes to this member, and waits to be opened
abbrev pub WaitsForMember : Setting → ℕ → StreamState → Side → Type 0
WaitsForMember s node t Near = ⊥
WaitsForMember s node t Far = (is_waiting t.far_side ≡ true) × (member_at s t.to ≡ Some node)

-- the second stream is the first one after a restart of this member, whose life ends
pub record StreamAfter (s : Setting) (node life : ℕ) (t u : StreamState) : Type 0 where
  -- it has its ends and its number, and what was said, sent and delivered stays so
  pub near : u.near ≡ t.near
  pub to : u.to ≡ t.to
  pub number : u.number ≡ t.number
  pub far : u.far ≡ t.far
  pub from_near : u.from_near ≡ t.from_near
  pub from_far : u.from_far ≡ t.from_far
  pub said : u.said ≡ t.said
  -- each side that has its end in the life is told that it is closed, and so is one that waits for the member
  pub ended : (side : Side) → HasEndIn life t side → side_at u side ≡ told_closed
  pub waited : (side : Side) → WaitsForMember s node t side → side_at u side ≡ told_closed
  -- each other side stands as it did
  pub others : (side : Side) → ¬ HasEndIn life t side → ¬ WaitsForMember s node t side → side_at u side ≡ side_at t side

-- the second network is the first one once this member has begun anew by this image
pub record RestartDoes (s : Setting) (w : WorldState) (node : ℕ) (image : PoolImage) (x : WorldState) : Type 0 where
  -- one life joins those that were there: the member's present one, which begins as each life does, with the image's pool
  pub lives : x.lives ≡ w.lives ++ node ∷ []
  pub count : length x.seats ≡ length w.seats + 1
  pub new : present_life x node ≡ length w.seats + 1
  pub begun : (m : Member) → numbered s.members node ≡ Some m → seat_at x (present_life x node) ≡ Some (opened_seat m.plan (pool_of_image image))
  -- in the life that ends, which was its present one, its node stays, and its agent is as it is at its end
  pub ended : (seat : Seat) → seat_at w (present_life w node) ≡ Some seat → seat_at x (present_life w node) ≡ Some (record seat { agent = retired seat.agent })
  -- every other life is as it was
  pub others : (life : ℕ) → life ≢ present_life w node → IsNode (length w.seats) life → seat_at x life ≡ seat_at w life
  -- each stream is where it was, and there are no more of them; none waits for the member
  pub stream_count : length x.streams ≡ length w.streams
  pub streams : (place : ℕ) (t : StreamState) → slice_get w.streams place ≡ Some t
      → (u : StreamState) × (slice_get x.streams place ≡ Some u) × StreamAfter s node (present_life w node) t u
  pub unwaited : (place : ℕ) (u : StreamState) → slice_get x.streams place ≡ Some u → is_waiting u.far_side ≡ true → ¬ (member_at s u.to ≡ Some node)
  -- the offers are the same, but for those of the life that ends which it was to offer and hadn't offered
  pub offers : (seat : Seat) → seat_at w (present_life w node) ≡ Some seat → (o : Offered)
      → Contains x.offers o ↔ (Contains w.offers o × (o.node ≡ present_life w node → IsListed (retired seat.agent).pool o.prefix))
  -- all else is the same
  pub settled : x.settled ≡ w.settled
  pub sent : SendsNothing w x

-- a member that may begin anew changes the network exactly so
abbrev pub RestartsBeginAnew : Type 0
RestartsBeginAnew = (s : Setting) (w : WorldState) (node : ℕ) (image : PoolImage) → IsReached s w → MayRestart s w node image
    → RestartDoes s w node image (after_restart s w node image)

-- ---- a settling

-- an offer of this prefix by this member, in the life that made it
pub record IsOfferBy (w : WorldState) (node : ℕ) (p : Prefix) (o : Offered) : Type 0 where
  pub listed : Contains w.offers o
  pub member : member_of w o.node ≡ node
  pub prefix : o.prefix ≡ p

-- the second network is the first one once this member has settled this prefix
pub record SettlingDoes (w : WorldState) (node : ℕ) (p : Prefix) (x : WorldState) : Type 0 where
  -- in its present life the node stays, and the agent has settled the prefix
  pub own : (seat : Seat) → seat_at w (present_life w node) ≡ Some seat → seat_at x (present_life w node) ≡ Some (record seat { agent = after_settling seat.agent p })
  -- every other life is as it was
  pub others : (life : ℕ) → life ≢ present_life w node → seat_at x life ≡ seat_at w life
  pub lives : x.lives ≡ w.lives
  -- an offer of the prefix by the member was listed: no offer of the prefix by its life is listed any more, and every other one is. It is
  -- the last of the settled ones
  pub offer : Offered
  pub found : IsOfferBy w node p offer
  pub offers : (o : Offered) → Contains x.offers o ↔ (Contains w.offers o × (¬ ((o.node ≡ offer.node) × (o.prefix ≡ p))))
  pub settled : x.settled ≡ w.settled ++ offer ∷ []
  -- all else is the same
  pub streams : x.streams ≡ w.streams
  pub sent : SendsNothing w x

-- a prefix that may be settled is free again then, and nothing else changes
abbrev pub SettlingsFree : Type 0
SettlingsFree = (w : WorldState) (node : ℕ) (p : Prefix) → IsDead w node p → SettlingDoes w node p (after_settle w node p)
