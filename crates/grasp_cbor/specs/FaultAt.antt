-- Where and how bytes stop being the beginning of an item.
use Rattle.std.specs.Prelude.{ℕ, ◌+◌, ◌<◌, List, length, take, slice_index}
use Rattle.grasp_cbor.specs.declared.walker.FaultName.{FaultName}
use Rattle.grasp_cbor.specs.CanGoOn.{IsItem, CanGoOn}
use Rattle.grasp_cbor.specs.Front.{Spot, Front, IsNamed}

-- The bytes before this place can go on to an item, and with the byte at this place they neither can nor
-- are one (RFC 8949, section 1.2 and appendix F). Its fault is named by what the byte would be there.
pub record FaultAt (bytes : List ℕ) (place : ℕ) (name : FaultName) : Type 0 where
  pub inside : place < length bytes
  pub before : CanGoOn (take place bytes)
  pub not_open : ¬ CanGoOn (take (place + 1) bytes)
  pub not_whole : ¬ IsItem 16 (take (place + 1) bytes)
  pub spot : Spot
  pub front : Front (take place bytes) spot
  pub named : IsNamed spot (slice_index bytes place) name
