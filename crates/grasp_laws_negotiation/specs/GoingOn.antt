-- What an event does to a negotiation: some moves of its two ends lead from the talk that it is to the talk that it is then. Other turns do
-- nothing to it.
use Rattle.std.specs.Prelude.{◌≡◌, ◌↔◌, ℕ, List, Some, slice_get}
use Rattle.grasp_model_network.specs.Events.{Occurs, after_event}
use Rattle.grasp_model_network.specs.Restarting.{MayRestart, after_restart}
use Rattle.grasp_model_network.specs.Runs.{IsReached}
use Rattle.grasp_model_network.specs.Setting.{Setting}
use Rattle.grasp_model_network.specs.Settling.{IsDead, after_settle}
use Rattle.grasp_model_network.specs.Streams.{StreamState}
use Rattle.grasp_model_network.specs.Visits.{Choice}
use Rattle.grasp_model_network.specs.World.{WorldState}
use Rattle.grasp_model_network.specs.declared.event.Event.{Event}
use Rattle.grasp_pool.specs.declared.image.PoolImage.{PoolImage}
use Rattle.grasp_session.specs.Conversation.{strip, spoken, turn}
use Rattle.grasp_session.specs.Messages.{Side}
use Rattle.grasp_session.specs.Talk.{Move, run}
use Rattle.grasp_session.specs.Transcript.{Transcript, known}
use Rattle.grasp_types.specs.Prefix.{AddressBlock as Prefix}
use Rattle.grasp_laws_negotiation.specs.Knowing.{Saw}
use Rattle.grasp_laws_negotiation.specs.Negotiations.{IsNegotiation, IsTalk}

-- a stream, as it is in this network and as it is in a later one
pub record GoesOn (w y : WorldState) (t u : StreamState) : Type 0 where
  pub before : IsTalk w t
  pub after : IsTalk y u
  pub moves : List Move
  pub ran : after.talk ≡ run before.talk moves

-- P holds of each negotiation over each event of a network that turns lead to: of its stream before the event and after it
abbrev pub OverEachEvent : (WorldState → WorldState → StreamState → StreamState → Type 0) → Type 0
OverEachEvent P = (s : Setting) (w : WorldState) (e : Event) (c : Choice) → IsReached s w → Occurs s w e c → (place : ℕ) (t u : StreamState) → slice_get w.streams place ≡ Some t
    → slice_get (after_event s w e c).streams place ≡ Some u → IsNegotiation t → P w (after_event s w e c) t u

abbrev pub NegotiationsGoOn : Type 0
NegotiationsGoOn = OverEachEvent GoesOn

-- a side says nothing on the stream between these two states of it
abbrev pub SaysNothing : StreamState → StreamState → Side → Type 0
SaysNothing t u side = spoken side u.said ≡ spoken side t.said

-- while the turn is a side's, and it says nothing, nothing is said but what is invalid, and it learns nothing
pub record TurnStays (w y : WorldState) (t u : StreamState) : Type 0 where
  pub said : (side : Side) → turn (strip t.said) ≡ side → SaysNothing t u side → strip u.said ≡ strip t.said
  pub known_still : (side : Side) (v x : Transcript) → Saw w t side v → Saw y u side x → turn (known v) ≡ side → SaysNothing t u side → known x ≡ known v

abbrev pub TurnsStay : Type 0
TurnsStay = OverEachEvent TurnStays

-- ---- other turns

-- nothing was said between these two states of the stream, and each side saw what it had seen
pub record IsLeft (w y : WorldState) (t u : StreamState) : Type 0 where
  pub said : u.said ≡ t.said
  pub saw : (side : Side) (v : Transcript) → Saw w t side v ↔ Saw y u side v

abbrev pub StreamsAreLeft : WorldState → WorldState → Type 0
StreamsAreLeft w y = (place : ℕ) (t u : StreamState) → slice_get w.streams place ≡ Some t → slice_get y.streams place ≡ Some u → IsLeft w y t u

-- a settling and a restart leave each stream so, in every network
pub record TurnsLeaveNegotiations : Type 0 where
  pub settles : (w : WorldState) (node : ℕ) (p : Prefix) → IsDead w node p → StreamsAreLeft w (after_settle w node p)
  pub restarts : (s : Setting) (w : WorldState) (node : ℕ) (image : PoolImage) → MayRestart s w node image → StreamsAreLeft w (after_restart s w node image)
