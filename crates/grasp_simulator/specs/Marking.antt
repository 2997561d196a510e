-- How the code knows which streams whose dial is queued arrive nowhere.
use Rattle.std.specs.Prelude.{◌≡◌, ℕ, ◌==◌, ◌&&◌, ◌/◌, ◌%◌, Bool, true, if◌then◌else◌, List, None, Some, nat_lt, slice_get, unwrap_or}
use Rattle.std.specs.List.{list_any}
use Rattle.grasp_types.specs.declared.address.Locator.{Locator}
use Rattle.grasp_model_network.specs.Setting.{numbered}
use Rattle.grasp_model_network.specs.Streams.{StreamEnd, StreamState, is_number}
use Rattle.grasp_model_network.specs.World.{last_life}
use Rattle.grasp_simulator.specs.Listening.{listener_from}
use Rattle.grasp_simulator.specs.StreamsStand.{Queueing}
use Rattle.grasp_simulator.specs.declared.marks.Mark.{Mark}

-- the stream of this near end was dialled when the node of the mark had begun anew
abbrev pub is_below : StreamEnd → Mark → Bool
is_below e m = m.life == e.node && nat_lt (e.number / 2) m.dialled

-- and it goes to that node, among so many
abbrev pub matches : StreamEnd → ℕ → Locator → Mark → Bool
matches e nodes to m = m.life == e.node && (nat_lt (e.number / 2) m.dialled && is_number m.node (listener_from 1 nodes to))

abbrev pub is_marked : List Mark → ℕ → StreamEnd → Locator → Bool
is_marked marks nodes e to = list_any (matches e nodes to) marks

-- whose life it is, among these lives, and whether it is its member's present one
abbrev pub is_here : List ℕ → ℕ → Bool
is_here lives life = last_life 1 lives (unwrap_or (numbered lives life) 0) 1 == life

-- how a stream whose dial is queued begins once that is sent: the far side is told that it is closed where a mark says so. The dials of a
-- life that has ended are never sent
abbrev pub begins_as : List ℕ → List Mark → ℕ → Queueing
begins_as lives marks nodes e to = if is_here lives e.node then Some (is_marked marks nodes e to) else None

-- a stream was dialled from this end
pub record WasDialled (ts : List StreamState) (e : StreamEnd) : Type 0 where
  pub place : ℕ
  pub talk : StreamState
  pub stands : slice_get ts place ≡ Some talk
  pub near : talk.near ≡ e

-- from each end of which a mark speaks a stream was dialled
abbrev pub MarksStand : List Mark → List StreamState → Type 0
MarksStand marks ts = (e : StreamEnd) → e.number % 2 ≡ 0 → list_any (is_below e) marks ≡ true → WasDialled ts e
