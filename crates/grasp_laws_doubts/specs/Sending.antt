-- To whom the prefixes were offered that a node has reserved or in doubt, as its doubter keeps it (RFC 8992, section 4.2).
use Rattle.std.specs.Prelude.{◌≡◌, ℕ, List, Contains, Some, slice_get}
use Rattle.grasp_agent.specs.States.{offered_by}
use Rattle.grasp_doubter.specs.States.{DoubterState}
use Rattle.grasp_doubter.specs.declared.seen.Sent.{Sent}
use Rattle.grasp_pool.specs.Holdings.{IsListed}
use Rattle.grasp_session.specs.Messages.{Near}
use Rattle.grasp_model_network.specs.Accepting.{taking_side}
use Rattle.grasp_model_network.specs.Streams.{StreamState}
use Rattle.grasp_model_network.specs.World.{Seat, WorldState, end_of}
use Rattle.grasp_laws_prefixes.specs.Apart.{offer_on}
use Rattle.grasp_laws_doubts.specs.Opening.{IsDialledBy}
use Rattle.grasp_laws_doubts.specs.Standing.{OfEachDoubter}

-- the prefix is listed for a stream that was opened at this node and dialled by a node of this address, which was offered it there
pub record IsOfferedTo (w : WorldState) (node : ℕ) (x : Sent) : Type 0 where
  pub place : ℕ
  pub talk : StreamState
  pub stands : slice_get w.streams place ≡ Some talk
  pub listed : Contains w.offers (offer_on node x.prefix place)
  pub stream : ℕ
  pub far : talk.far ≡ Some (end_of node stream)
  pub takes : taking_side talk ≡ Near
  pub by : IsDialledBy w talk x.address

-- the node has the prefix reserved or in doubt, and it was offered so, but while an offer of it is decided and not yet made
pub record SentStands (w : WorldState) (node : ℕ) (seat : Seat) (x : Sent) : Type 0 where
  pub aside : IsListed seat.agent.pool x.prefix
  pub offered : (offered_by seat.agent.act ≡ Some x.prefix → ⊥) → IsOfferedTo w node x

-- so it is with what each doubter keeps
abbrev pub SentStand : WorldState → List DoubterState → Type 0
SentStand w ds = OfEachDoubter (λ node seat d. (x : Sent) → Contains d.offered x → SentStands w node seat x) w ds
