-- A prefix in doubt is settled: when it may be, and the network after it (RFC 8992, sections 4.1 and 4.2). No node sends or hears anything then.
use Rattle.std.specs.Prelude.{◌≡◌, ◌==◌, ◌&&◌, ◌++◌, ◌∷◌, [], ℕ, Bool, true, false, not, Contains, Option, None, Some, filter, find, slice_get}
use Rattle.grasp_agent.specs.Replies.{after_settling}
use Rattle.grasp_session.specs.Messages.{Near}
use Rattle.grasp_session.specs.Says.{IsAt}
use Rattle.grasp_session.specs.Sessions.{SessionState}
use Rattle.grasp_session.specs.Transcript.{outcome_of}
use Rattle.grasp_types.specs.Prefix.{AddressBlock as Prefix}
use Rattle.grasp_model_network.specs.Accepting.{taking_side, is_accepted}
use Rattle.grasp_model_network.specs.Offers.{is_same_prefix}
use Rattle.grasp_model_network.specs.Sending.{seat_with}
use Rattle.grasp_model_network.specs.Streams.{StreamState}
use Rattle.grasp_model_network.specs.World.{Offered, Seat, WorldState, present_life, is_present, member_of, seat_at, with_seat}

-- ---- when a prefix may be settled

-- the offer of this prefix by this member, in any of its lives: a law says that there is at most one
abbrev pub offer_by : WorldState → ℕ → Prefix → Option Offered
offer_by w node p = find (λ o. member_of w o.node == node && is_same_prefix p o.prefix) w.offers

-- the side that dialled may still act: its life is the present one, and a live session on the stream has no outcome
pub record IsAsking (w : WorldState) (t : StreamState) : Type 0 where
  pub present : is_present w t.near.node ≡ true
  pub seat : Seat
  pub here : seat_at w t.near.node ≡ Some seat
  pub place : ℕ
  pub session : SessionState
  pub at : IsAt seat.core.sessions place session
  pub stream : session.stream ≡ t.near.number
  pub going : outcome_of session.view ≡ None

-- the side that dialled is the taking one, has said no acceptance, and can't say one any more
pub record NeverAccepts (w : WorldState) (t : StreamState) : Type 0 where
  pub takes : taking_side t ≡ Near
  pub unaccepted : is_accepted t ≡ false
  pub over : ¬ IsAsking w t

-- the prefix may be settled at this member: its present life has it in doubt, it was offered on a stream, and is never accepted there
pub record IsDead (w : WorldState) (node : ℕ) (p : Prefix) : Type 0 where
  pub seat : Seat
  pub here : seat_at w (present_life w node) ≡ Some seat
  pub doubtful : Contains seat.agent.pool.doubtful p
  pub offer : Offered
  pub found : offer_by w node p ≡ Some offer
  pub place : ℕ
  pub on : offer.talk ≡ Some place
  pub talk : StreamState
  pub stands : slice_get w.streams place ≡ Some talk
  pub never : NeverAccepts w talk

-- ---- the network after it

-- an offer of another prefix, or by another life
abbrev pub is_other : Offered → Offered → Bool
is_other o x = not (o.node == x.node && is_same_prefix o.prefix x.prefix)

-- the prefix is free again at this life of its node, and its offer is a settled one
abbrev pub settled_by : WorldState → ℕ → Prefix → Option Seat → Option Offered → WorldState
settled_by w life p (Some seat) (Some o) = record (with_seat w life (seat_with seat.core (after_settling seat.agent p))) {
  offers = filter (is_other o) w.offers;
  settled = w.settled ++ o ∷ [];
}
settled_by w life p (Some seat) None = w
settled_by w life p None (Some o) = w
settled_by w life p None None = w

-- the network once this member's present life has settled the prefix
unfoldable pub after_settle : WorldState → ℕ → Prefix → WorldState
after_settle w node p = settled_by w (present_life w node) p (seat_at w (present_life w node)) (offer_by w node p)
