-- What a node was told at the opening of its streams (RFC 8990, section 2.5.5).
use Rattle.std.specs.Prelude.{◌≡◌, ℕ, ◌%◌, Option, None, Some, slice_get}
use Rattle.grasp_model_network.specs.Setting.{Setting}
use Rattle.grasp_model_network.specs.Streams.{StreamEnd, StreamState}
use Rattle.grasp_model_network.specs.World.{Seat, WorldState, seat_at}
use Rattle.grasp_model_node.specs.Streams.{StreamRecord}
use Rattle.grasp_types.specs.declared.address.Address.{Address}

-- a stream of this number has an even one, where the node dialled it, and else P holds of its number and the address that was told at its opening
abbrev pub ToldBy : (ℕ → Address → Type 0) → ℕ → Option Address → Type 0
ToldBy P number None = number % 2 ≡ 0
ToldBy P number (Some a) = P number a

abbrev pub RecordTold : (ℕ → Address → Type 0) → StreamRecord → Type 0
RecordTold P x = ToldBy P x.number x.from

-- a stream of this number was opened at this end, and dialled by a node whose address is told there as this one
pub record IsOpener (s : Setting) (w : WorldState) (e : StreamEnd) (a : Address) : Type 0 where
  pub place : ℕ
  pub talk : StreamState
  pub stands : slice_get w.streams place ≡ Some talk
  pub opened : talk.far ≡ Some e
  pub number : ℕ
  pub arrives : e.number ≡ s.arrives_as e.node number
  pub dialler : Seat
  pub dialled : seat_at w talk.near.node ≡ Some dialler
  pub told : a ≡ s.arrives_from number dialler.core.plan.address
