-- Inside: the prefixes that stand in a slot, by their places.
use Rattle.std.specs.Prelude.{ℕ, ◌+◌, ◌*◌, ◌<◌, List, take, drop, slice_index_or}
use Rattle.std.specs.Int.{w128, from_be_bytes}
use Rattle.grasp_types.specs.Prefix.{AddressBlock as Prefix}
use Rattle.grasp_pool.specs.Spans.{Apart, IsValid}

-- what stands at this byte, as a prefix
abbrev pub entry_from : List ℕ → ℕ → Prefix
entry_from bytes at = record { address = from_be_bytes w128 (take 16 (drop (at + 1) bytes)); length = slice_index_or bytes at 0 }

-- the entry at this place
unfoldable pub entry_in : List ℕ → ℕ → Prefix
entry_in bytes i = entry_from bytes (12 + 17 * i)

-- the entries at these places are prefixes
abbrev pub EntriesValid : List ℕ → ℕ → ℕ → Type 0
EntriesValid bytes from count = (k : ℕ) → k < count → IsValid (entry_in bytes (from + k))

-- each of the first entries is apart from p
abbrev pub EntriesApart : List ℕ → Prefix → ℕ → Type 0
EntriesApart bytes p count = (k : ℕ) → k < count → Apart (entry_in bytes k) p

-- the first entries are prefixes, of which no two overlap
pub record EntriesDisjoint (bytes : List ℕ) (count : ℕ) : Type 0 where
  pub valid : (k : ℕ) → k < count → IsValid (entry_in bytes k)
  pub apart : (k : ℕ) → k < count → EntriesApart bytes (entry_in bytes k) k
