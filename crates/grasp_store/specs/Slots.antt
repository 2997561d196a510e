-- Two slots on a disk. Each has a gate, which is open where its byte is 1, and behind it a number, two counts, and the prefixes of an image. This
-- layout is this project's own.
use Rattle.std.specs.Prelude.{ℕ, zero, suc, ◌+◌, ◌*◌, ◌<◌, ◌^◌, ◌==◌, if◌then◌else◌, List, [], ◌∷◌, ◌++◌, length, take, drop, slice_index_or, Option, None, Some}
use Rattle.std.specs.List.{AllByRecursion}
use Rattle.std.specs.Int.{w16, w64, w128, to_be_bytes, from_be_bytes}
use Rattle.grasp_disk.specs.Calls.{piece}
use Rattle.grasp_types.specs.Prefix.{AddressBlock as Prefix}
use Rattle.grasp_pool.specs.Listings.{all_of}
use Rattle.grasp_pool.specs.declared.image.PoolImage.{PoolImage}
use Rattle.grasp_store.specs.declared.place.Place.{Place}
use Rattle.grasp_store.specs.declared.place.Place.TheVariants.{First, Second}

-- what a slot holds: an image, and a number, which rises with each save
pub record Saved : Type 0 where
  pub number : ℕ
  pub image : PoolImage

-- ---- what stands behind a gate

-- a prefix takes 17 bytes: its length, and its address, the most significant byte first
abbrev pub prefix_bytes : Prefix → List ℕ
prefix_bytes p = p.length ∷ to_be_bytes w128 p.address

-- those of each, one behind the other
unfoldable pub all_prefix_bytes : List Prefix → List ℕ
all_prefix_bytes [] = []
all_prefix_bytes (p ∷ ps) = prefix_bytes p ++ all_prefix_bytes ps

-- the number in 8 bytes, the counts of the free and the doubtful prefixes in 2 bytes each, the most significant byte first, and then the
-- free and the doubtful prefixes
unfoldable pub body_of : Saved → List ℕ
body_of x =
    to_be_bytes w64 x.number
    ++ (to_be_bytes w16 (length x.image.free)
    ++ (to_be_bytes w16 (length x.image.doubtful) ++ (all_prefix_bytes x.image.free ++ all_prefix_bytes x.image.doubtful)))

-- so many prefixes that stand at the front of the bytes
unfoldable pub prefixes_in : ℕ → List ℕ → List Prefix
prefixes_in zero bytes = []
prefixes_in (suc n) bytes = record { address = from_be_bytes w128 (take 16 (drop 1 bytes)); length = slice_index_or bytes 0 0 } ∷ prefixes_in n (drop 17 bytes)

-- the number that stands there
abbrev pub number_at : List ℕ → ℕ
number_at bytes = from_be_bytes w64 (take 8 bytes)

-- how many free prefixes are told
abbrev pub free_count : List ℕ → ℕ
free_count bytes = from_be_bytes w16 (take 2 (drop 8 bytes))

-- how many doubtful prefixes are told
abbrev pub doubtful_count : List ℕ → ℕ
doubtful_count bytes = from_be_bytes w16 (take 2 (drop 10 bytes))

-- what these bytes hold, whatever they are
unfoldable pub saved_in : List ℕ → Saved
saved_in bytes = record {
  number = number_at bytes;
  image = record {
    free = prefixes_in (free_count bytes) (drop 12 bytes);
    doubtful = prefixes_in (doubtful_count bytes) (drop (12 + 17 * free_count bytes) bytes);
  };
}

-- each part fits its bytes
pub record Fits (x : Saved) : Type 0 where
  pub number : x.number < 2 ^ 64
  pub free : length x.image.free < 2 ^ 16
  pub doubtful : length x.image.doubtful < 2 ^ 16
  pub prefixes : AllByRecursion (λ p. (p.length < 2 ^ 8) × (p.address < 2 ^ 128)) (all_of x.image)

-- ---- slots

-- where a slot's gate stands
abbrev pub gate_of : Place → ℕ
gate_of First = 0
gate_of Second = 70000

-- the other one
abbrev pub other : Place → Place
other First = Second
other Second = First

-- how many bytes a slot has: its gate, and behind it 12 bytes and those of 4096 prefixes
abbrev pub slot_size : ℕ
slot_size = 69645

-- Inside: those behind the gate
abbrev pub body_size : ℕ
body_size = 69644

-- what a slot of these bytes holds, where its gate is open
unfoldable pub slot_of : List ℕ → Option Saved
slot_of slot = if slice_index_or slot 0 0 == 1 then Some (saved_in (drop 1 slot)) else None

-- what a slot of a disk holds, where its gate is open
abbrev pub slot_in : List ℕ → Place → Option Saved
slot_in bytes place = slot_of (piece bytes (gate_of place) slot_size)
