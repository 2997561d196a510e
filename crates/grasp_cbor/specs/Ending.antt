-- How reading the one item that begins some bytes ends, within a limit on its length.
use Rattle.std.specs.Prelude.{ℕ, ◌<◌, ◌≤◌, List, length, take}
use Rattle.grasp_cbor.specs.declared.walker.FaultName.{FaultName}
use Rattle.grasp_cbor.specs.DataItem.{DataItem}
use Rattle.grasp_cbor.specs.Encodes.{Encodes}
use Rattle.grasp_cbor.specs.CanGoOn.{CanGoOn}
use Rattle.grasp_cbor.specs.FaultAt.{FaultAt}

-- the four endings: an item and its length, the beginning of one, too long for one, or a fault and its place
pub data Ending : Type 0 where
  whole : DataItem → ℕ → Ending
  partial : Ending
  too_long : Ending
  faulty : FaultName → ℕ → Ending

-- the first so many bytes, at most limit, encode the item
pub record IsWhole (bytes : List ℕ) (limit : ℕ) (item : DataItem) (used : ℕ) : Type 0 where
  pub encodes : Encodes item (take used bytes)
  pub inside : used ≤ length bytes
  pub within : used ≤ limit

-- the bytes are fewer than limit and can go on to an item
pub record IsPartial (bytes : List ℕ) (limit : ℕ) : Type 0 where
  pub short : length bytes < limit
  pub can_go_on : CanGoOn bytes

-- the item is too long: there are at least limit bytes, and the first limit of them can still go on to an item
pub record IsTooLong (bytes : List ℕ) (limit : ℕ) : Type 0 where
  pub long : limit ≤ length bytes
  pub can_go_on : CanGoOn (take limit bytes)

-- the bytes have this fault at this place, which is below limit
pub record IsFaulty (bytes : List ℕ) (limit : ℕ) (name : FaultName) (place : ℕ) : Type 0 where
  pub below : place < limit
  pub fault : FaultAt bytes place name

-- reading these bytes ends so
abbrev pub IsEnding : List ℕ → ℕ → Ending → Type 0
IsEnding bytes limit (whole item used) = IsWhole bytes limit item used
IsEnding bytes limit partial = IsPartial bytes limit
IsEnding bytes limit too_long = IsTooLong bytes limit
IsEnding bytes limit (faulty name place) = IsFaulty bytes limit name place
