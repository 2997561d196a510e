-- The streams of a node: what came on each, until it begins closing.
use Rattle.std.specs.Prelude.{ℕ, ◌+◌, ◌*◌, ◌==◌, ◌^◌, Bool, ◌||◌, nat_le, is_some, is_none, List, [], ◌∷◌, ◌++◌, length, map, filter, position, remove, slice_get, slice_set, Option, None, Some, if◌then◌else◌}
use Rattle.grasp_types.specs.declared.address.Address.{Address}
use Rattle.grasp_wire.specs.Cutter.{Past, no_past}

-- a stream that has a record: its number, the address that was told at its opening where a peer opened it, and, until it
-- begins closing, the bytes that came and the messages that they were cut into
pub record StreamRecord : Type 0 where
  pub number : ℕ
  pub from : Option Address
  pub past : Option Past

-- the records in the order in which they were made, and how many streams this node dialled
pub record StreamsState : Type 0 where
  pub records : List StreamRecord
  pub dialled : ℕ

abbrev pub no_streams : StreamsState
no_streams = record { records = []; dialled = 0 }

-- how many streams have a record at most
abbrev pub most_streams : ℕ
most_streams = 64

abbrev pub is_stream : ℕ → StreamRecord → Bool
is_stream stream x = x.number == stream

-- the place of the record of this number
abbrev pub place_of : ℕ → List StreamRecord → Option ℕ
place_of stream xs = position (is_stream stream) xs

-- a record has this number
abbrev pub has_record : StreamsState → ℕ → Bool
has_record s stream = is_some (place_of stream s.records)

abbrev pub at_place : List StreamRecord → Option ℕ → Option StreamRecord
at_place xs None = None
at_place xs (Some i) = slice_get xs i

-- the record of this number
abbrev pub record_of : StreamsState → ℕ → Option StreamRecord
record_of s stream = at_place s.records (place_of stream s.records)

abbrev pub past_in : Option StreamRecord → Option Past
past_in None = None
past_in (Some x) = x.past

-- what came on this stream, where it has a record and isn't closing
abbrev pub past_of : StreamsState → ℕ → Option Past
past_of s stream = past_in (record_of s stream)

abbrev pub from_in : Option StreamRecord → Option Address
from_in None = None
from_in (Some x) = x.from

-- the address that was told at the opening of this stream, where a peer opened it
abbrev pub opener_of : StreamsState → ℕ → Option Address
opener_of s stream = from_in (record_of s stream)

abbrev pub put_past : Option Past → List StreamRecord → ℕ → Option StreamRecord → List StreamRecord
put_past past xs i None = xs
put_past past xs i (Some x) = slice_set xs i (record x { past = past })

abbrev pub set_past : Option Past → List StreamRecord → Option ℕ → List StreamRecord
set_past past xs None = xs
set_past past xs (Some i) = put_past past xs i (slice_get xs i)

-- what came on this stream is this now; with none the stream begins closing
abbrev pub with_past : StreamsState → ℕ → Option Past → StreamsState
with_past s stream past = record s { records = set_past past s.records (place_of stream s.records) }

-- the stream begins closing: what comes on it from now on is ignored
abbrev pub closing : StreamsState → ℕ → StreamsState
closing s stream = with_past s stream None

abbrev pub remove_place : List StreamRecord → Option ℕ → List StreamRecord
remove_place xs None = xs
remove_place xs (Some i) = remove xs i

-- without the record of this number
abbrev pub without : StreamsState → ℕ → StreamsState
without s stream = record s { records = remove_place s.records (place_of stream s.records) }

-- with one more record, the last
abbrev pub with_record : StreamsState → StreamRecord → StreamsState
with_record s x = record s { records = s.records ++ x ∷ [] }

-- a peer opened this stream
abbrev pub with_opened : StreamsState → ℕ → Address → StreamsState
with_opened s stream from = with_record s (record { number = stream; from = Some from; past = Some no_past })

-- as many records as there may be
abbrev pub is_full : StreamsState → Bool
is_full s = nat_le most_streams (length s.records)

-- no further stream can be dialled: 64 have a record, or 2 ^ 62 were dialled
abbrev pub is_dialled_out : StreamsState → Bool
is_dialled_out s = is_full s || nat_le (2 ^ 62) s.dialled

-- the number of the next stream that this node dials: 0, 2, 4 and so on
abbrev pub next_stream : StreamsState → ℕ
next_stream s = 2 * s.dialled

-- this node dialled the next stream, and this came on it; with none the stream is closing from the start
abbrev pub with_dialled : StreamsState → Option Past → StreamsState
with_dialled s past = record {
  records = s.records ++ record { number = next_stream s; from = None; past = past } ∷ [];
  dialled = s.dialled + 1;
}

-- the numbers in rising order, with one more put in its place
abbrev pub put_number : ℕ → List ℕ → List ℕ
put_number n [] = n ∷ []
put_number n (m ∷ ms) = if nat_le n m then n ∷ m ∷ ms else m ∷ put_number n ms

abbrev pub rising : List ℕ → List ℕ
rising [] = []
rising (n ∷ ns) = put_number n (rising ns)

-- the numbers of the streams that are closing, in rising order
abbrev pub closing_numbers : StreamsState → List ℕ
closing_numbers s = rising (map (λ x. x.number) (filter (λ x. is_none x.past) s.records))
