-- Where the datagrams of a node go: to the neighbours that its plan has on its links, and to nobody else (RFC 8990, sections 2.5.4 and 2.5.6.2).
use Rattle.std.specs.Prelude.{◌≡◌, ℕ, List, [], ◌∷◌, ◌++◌, Some, take, slice_get}
use Rattle.grasp_model_network.specs.Events.{Occurs, visit_of, after_event}
use Rattle.grasp_model_network.specs.GoodSetting.{IsGoodSetting}
use Rattle.grasp_model_network.specs.Routes.{Route, route_of}
use Rattle.grasp_model_network.specs.Runs.{IsReached}
use Rattle.grasp_model_network.specs.Setting.{Member, Setting, numbered}
use Rattle.grasp_model_network.specs.Visits.{Visit, Choice}
use Rattle.grasp_model_network.specs.World.{SentDatagram, WorldState, member_of}
use Rattle.grasp_model_network.specs.declared.event.Event.{Event}
use Rattle.grasp_model_network.specs.declared.event.Event.TheVariants as event
use Rattle.grasp_model_node.specs.Queue.{Queued, datagram, dial, send}
use Rattle.grasp_types.specs.declared.links.Neighbour.{Neighbour}
use Rattle.grasp_laws_events.specs.Steps.{SendsNothingBehind}

-- ---- ways

-- the member's plan has this neighbour, of this number on its link of this number
pub record HasNeighbour (m : Member) (link to : ℕ) (x : Neighbour) : Type 0 where
  pub neighbours : List Neighbour
  pub on : slice_get m.plan.links link ≡ Some neighbours
  pub at : slice_get neighbours to ≡ Some x

-- the way leads from the sender to the member that has this neighbour's address and listens at its locator. There the sender is the neighbour
-- from whom the datagram comes, on the link on which it does
pub record LeadsTo (s : Setting) (sender : Member) (x : Neighbour) (r : Route) : Type 0 where
  pub receiver : Member
  pub found : numbered s.members r.receiver ≡ Some receiver
  pub address : x.address ≡ receiver.plan.address
  pub locator : x.locator ≡ receiver.plan.locator
  pub back : Neighbour
  pub from : HasNeighbour receiver r.link r.from back
  pub back_address : back.address ≡ sender.plan.address
  pub back_locator : back.locator ≡ sender.plan.locator

-- a way leads to each neighbour of a member, and each way of the member leads to one
pub record WaysLead (s : Setting) (node : ℕ) (m : Member) : Type 0 where
  pub each : (link to : ℕ) (x : Neighbour) → HasNeighbour m link to x → (r : Route) × (route_of s node link to ≡ Some r) × LeadsTo s m x r
  pub only : (link to : ℕ) (r : Route) → route_of s node link to ≡ Some r → (x : Neighbour) × HasNeighbour m link to x × LeadsTo s m x r

abbrev pub WaysLeadToNeighbours : Type 0
WaysLeadToNeighbours = (s : Setting) (node : ℕ) (m : Member) → IsGoodSetting s → numbered s.members node ≡ Some m → WaysLead s node m

-- ---- what is sent along them

-- of these queued outputs of a member each datagram is sent, in order: its message goes along the way to the neighbour for which it was queued
abbrev pub AreSentAlong : Setting → ℕ → List Queued → List SentDatagram → Type 0
AreSentAlong s member [] ds = ds ≡ []
AreSentAlong s member (datagram link to m ∷ qs) ds =
    (r : Route) × (route_of s member link to ≡ Some r)
    × ((rest : List SentDatagram) × (ds ≡ record { route = r; message = m } ∷ rest) × AreSentAlong s member qs rest)
AreSentAlong s member (dial stream to ∷ qs) ds = AreSentAlong s member qs ds
AreSentAlong s member (send stream m ∷ qs) ds = AreSentAlong s member qs ds

pub record DatagramsAreSent : Type 0 where
  -- a drain sends each datagram that it gives, behind all that were sent before
  pub drains : (s : Setting) (w : WorldState) (node max : ℕ) (c : Choice) (v : Visit) → IsReached s w → Occurs s w (event.Drain node max) c
      → visit_of s w (event.Drain node max) ≡ Some v
      → (more : List SentDatagram) × ((after_event s w (event.Drain node max) c).datagrams ≡ w.datagrams ++ more)
      × AreSentAlong s (member_of w v.node) (take max v.seat.core.queue) more
  -- no other event sends one, but for the drain behind it
  pub others : (s : Setting) (w : WorldState) (e : Event) (c : Choice) → SendsNothingBehind e → ((node max : ℕ) → ¬ (e ≡ event.Drain node max))
      → (after_event s w e c).datagrams ≡ w.datagrams
