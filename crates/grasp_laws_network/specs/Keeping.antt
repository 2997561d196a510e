-- What each event and each other turn leaves as it is, and what it only adds to.
use Rattle.std.specs.Prelude.{◌≡◌, ◌≢◌, ◌≤◌, ℕ, List, [], ◌∷◌, ◌++◌, length, Some, None, Option}
use Rattle.grasp_agent.specs.declared.back.Return.{Return}
use Rattle.grasp_agent.specs.declared.want.Want.{Want}
use Rattle.grasp_model_node.specs.Divided.{IsDivided, HasBytes}
use Rattle.grasp_pool.specs.Holdings.{Holding}
use Rattle.grasp_session.specs.Conversation.{Said}
use Rattle.grasp_types.specs.Prefix.{AddressBlock as Prefix}
use Rattle.grasp_types.specs.declared.traffic.Input.{Input}
use Rattle.grasp_types.specs.declared.traffic.Input.TheVariants as input
use Rattle.grasp_model_network.specs.Events.{IsLife, visit_of, after_event, Occurs}
use Rattle.grasp_model_network.specs.Reports.{report_of}
use Rattle.grasp_model_network.specs.Runs.{IsReached}
use Rattle.grasp_model_network.specs.Sending.{gained}
use Rattle.grasp_model_network.specs.Setting.{Setting}
use Rattle.grasp_model_network.specs.Streams.{Direction, StreamState}
use Rattle.grasp_model_network.specs.Turns.{after_turn}
use Rattle.grasp_model_network.specs.Visits.{Visit, Choice, VisitStep}
use Rattle.grasp_model_network.specs.World.{Seat, WorldState, present_life, seat_at, bytes_sent}
use Rattle.grasp_model_network.specs.declared.event.Event.{Event}
use Rattle.grasp_model_network.specs.declared.event.Event.TheVariants as event
use Rattle.grasp_model_network.specs.declared.turn.Turn.{Turn}

-- ---- nodes

-- the life of a visit is one of a node, and stands as the visit says
pub record IsHere (w : WorldState) (v : Visit) : Type 0 where
  pub member : IsLife w v.node
  pub stands : seat_at w v.node ≡ Some v.seat

-- an event makes its step in a life that is there
abbrev pub VisitsAreHere : Type 0
VisitsAreHere = (s : Setting) (w : WorldState) (e : Event) (v : Visit) → visit_of s w e ≡ Some v → IsHere w v

-- no event begins a life or takes one away, and of each it is known whose it is
pub record SeatsStay : Type 0 where
  pub each : (s : Setting) (w : WorldState) (e : Event) (c : Choice) → length (after_event s w e c).seats ≡ length w.seats
  pub all : (s : Setting) (w : WorldState) → IsReached s w → length w.seats ≡ length w.lives

-- ---- wants

-- two networks are the same but for the want of the agent of this life
pub record WantChanges (w x : WorldState) (node : ℕ) : Type 0 where
  pub others : (n : ℕ) → n ≢ node → seat_at x n ≡ seat_at w n
  pub own : (seat : Seat) → seat_at w node ≡ Some seat → (want : Option Want) × (seat_at x node ≡ Some (record seat { agent = record seat.agent { want = want } }))
  pub rest : x ≡ record w { seats = x.seats }

-- a want changes the want of its node's agent, in the present life, and nothing else
abbrev pub WantsChangeWants : Type 0
WantsChangeWants = (s : Setting) (w : WorldState) (node wanted longest peer : ℕ) (c : Choice)
    → WantChanges w (after_event s w (event.Want node wanted longest peer) c) (present_life w node)

-- ---- returns

-- two networks are the same but for the return and the pool of the agent of this life, and for the offers
pub record ReturnChanges (w x : WorldState) (node : ℕ) : Type 0 where
  pub others : (n : ℕ) → n ≢ node → seat_at x n ≡ seat_at w n
  pub own : (seat : Seat) → seat_at w node ≡ Some seat
      → (pool : Holding) × ((back : Option Return) × (seat_at x node ≡ Some (record seat { agent = record seat.agent { pool = pool; back = back } })))
  pub rest : x ≡ record w { seats = x.seats; offers = x.offers }

-- a return changes the return and the pool of its node's agent, in the present life, and the offers, and nothing else
abbrev pub ReturnsChangeReturns : Type 0
ReturnsChangeReturns = (s : Setting) (w : WorldState) (node peer : ℕ) (p : Prefix) (c : Choice)
    → ReturnChanges w (after_event s w (event.Return node p peer) c) (present_life w node)

-- ---- what is queued

-- no other input than a drain takes anything from the queue, and one of nothing doesn't
abbrev pub TakesNothing : Input → Type 0
TakesNothing (input.Api asa call) = Unit {0}
TakesNothing (input.Datagram link from bytes) = Unit {0}
TakesNothing (input.Opened stream from) = Unit {0}
TakesNothing (input.Bytes stream bytes) = Unit {0}
TakesNothing (input.Closed stream) = Unit {0}
TakesNothing (input.Drain max) = max ≡ 0

-- what was queued stays so, and what the step queues stands behind it
abbrev pub QueuesGrow : Type 0
QueuesGrow = (v : Visit) (c : Choice) → TakesNothing v.input → VisitStep v c → c.after.queue ≡ v.seat.core.queue ++ gained v.seat.core c.after

-- ---- one outcome

-- the node of the visit has waiting on its open streams what came on them, and what the visit brings is bytes
pub record IsFedVisit (v : Visit) : Type 0 where
  pub node : IsDivided v.seat.core
  pub bytes : HasBytes v.input

abbrev pub IsFedWhere : Option Visit → Type 0
IsFedWhere None = Unit {0}
IsFedWhere (Some v) = IsFedVisit v

-- with either choice the event is reported the same, and leads to the same network
pub record IsSameOutcome (s : Setting) (w : WorldState) (e : Event) (c d : Choice) : Type 0 where
  pub report : report_of s w e c ≡ report_of s w e d
  pub after : after_event s w e c ≡ after_event s w e d

-- an event comes out in one way: what comes with it is determined, and so are the reply and the node after, where there is memory
abbrev pub OutcomesAgree : Type 0
OutcomesAgree = (s : Setting) (w : WorldState) (e : Event) (c d : Choice) → IsFedWhere (visit_of s w e) → Occurs s w e c → Occurs s w e d → IsSameOutcome s w e c d

-- ---- what was sent

-- the list has what it had, and perhaps more behind it
abbrev pub IsLonger : {A : Type 0} → List A → List A → Type 0
IsLonger {A} xs ys = (more : List A) × (ys ≡ xs ++ more)

-- more was sent in this direction, or the same, and more of it was delivered, or the same
pub record DirectionGrows (d f : Direction) : Type 0 where
  pub sent : IsLonger d.sent f.sent
  pub delivered : d.delivered ≤ f.delivered

-- the second is the same stream as the first, and as much or more of it was said, sent and delivered
pub record StreamGrows (t u : StreamState) : Type 0 where
  pub near : u.near ≡ t.near
  pub to : u.to ≡ t.to
  pub said : (newer : List Said) × (u.said ≡ newer ++ t.said)
  pub from_near : DirectionGrows t.from_near u.from_near
  pub from_far : DirectionGrows t.from_far u.from_far

-- each stream is where it was, and perhaps there are more behind them
abbrev pub StreamsGrow : List StreamState → List StreamState → Type 0
StreamsGrow [] us = Unit {0}
StreamsGrow (t ∷ ts) [] = ⊥
StreamsGrow (t ∷ ts) (u ∷ us) = StreamGrows t u × StreamsGrow ts us

-- what was sent and what is remembered of it stays, and perhaps there is more
pub record WorldGrows (w x : WorldState) : Type 0 where
  pub datagrams : IsLonger w.datagrams x.datagrams
  pub streams : StreamsGrow w.streams x.streams
  pub dials : w.dials ≤ x.dials
  pub byte_count : w.byte_count ≤ x.byte_count
  pub flood_calls : IsLonger w.flood_calls x.flood_calls
  pub floods_read : IsLonger w.floods_read x.floods_read
  pub searches : IsLonger w.searches x.searches
  pub answers : IsLonger w.answers x.answers
  pub handles : IsLonger w.handles x.handles

-- no event takes anything back
abbrev pub WhatWasSentStays : Type 0
WhatWasSentStays = (s : Setting) (w : WorldState) (e : Event) (c : Choice) → WorldGrows w (after_event s w e c)

-- and no other turn does
abbrev pub WhatWasSentStaysOverTurns : Type 0
WhatWasSentStaysOverTurns = (s : Setting) (w : WorldState) (t : Turn) (c : Choice) → WorldGrows w (after_turn s w t c)

-- ---- how much was sent

abbrev pub IsCounted : WorldState → Type 0
IsCounted w = w.byte_count ≡ bytes_sent w

-- the count is that of the bytes of all datagrams and streams that were sent
pub record BytesAreCounted : Type 0 where
  pub each : (s : Setting) (w : WorldState) (e : Event) (c : Choice) → IsCounted w → IsCounted (after_event s w e c)
  pub all : (s : Setting) (w : WorldState) → IsReached s w → IsCounted w
