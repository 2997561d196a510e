-- The walker's step, as a function of data.
use Rattle.std.specs.Prelude.{ℕ, zero, suc, ◌+◌, ◌-◌, ◌*◌, ◌/◌, ◌%◌, ◌^◌, Bool, ◌&&◌, nat_lt, nat_le, ◌==◌, List, [], ◌∷◌, ◌++◌, length, get_or, Option, Some, None, if◌then◌else◌}
use Rattle.grasp_cbor.specs.Major.{major_of}
use Rattle.grasp_cbor.specs.Utf8.{ready, owed_after, can_end}
use Rattle.grasp_cbor.specs.Front.{Body, nothing, some_bytes, some_text, some_parts, body_of, can_break, Spot, starts, starts_chunk, after_simple, in_text, elsewhere, start_name, chunk_name}
use Rattle.grasp_cbor.specs.declared.utf8.Owed.{Owed}
use Rattle.grasp_cbor.specs.declared.heads.StringKind.{StringKind}
use Rattle.grasp_cbor.specs.declared.heads.StringKind.TheVariants.{Bytes, Text}
use Rattle.grasp_cbor.specs.declared.heads.Major.{Major}
use Rattle.grasp_cbor.specs.declared.heads.Major.TheVariants.{Unsigned, Negative, ByteString, TextString, Array, Map, Tag, Simple}
use Rattle.grasp_cbor.specs.declared.walker.FaultName.{FaultName}
use Rattle.grasp_cbor.specs.declared.walker.FaultName.TheVariants.{Malformed, NotText}
use Rattle.grasp_cbor.specs.declared.walker.Level.{Level}
use Rattle.grasp_cbor.specs.declared.walker.Level.TheVariants.{Parts, Items, Keys, Values}
use Rattle.grasp_cbor.specs.declared.walker.Stage.{Stage}
use Rattle.grasp_cbor.specs.declared.walker.Stage.TheVariants.{Beginning, Heading, InBytes, InText}

-- Inside: the levels that are open, the string of indefinite length in the innermost, and what the next byte belongs to; or an
-- item is whole; or the byte is bad
pub data Move : Type 0 where
  goes : List Level → Option StringKind → Stage → Move
  whole : Move
  bad : FaultName → Move

-- Inside: what a level waits for after one more part, or none where it has them all
abbrev pub level_after : Level → Option Level
level_after (Parts left) = if nat_lt 1 left then Some (Parts (left - 1)) else None
level_after Items = Some Items
level_after Keys = Some Values
level_after Values = Some Keys

-- Inside: what comes next inside these levels: the next part of this one where it waits for one, else what is given
abbrev pub waits : Option Level → List Level → Move → Move
waits (Some level) levels rest = goes (level ∷ levels) None Beginning
waits None levels rest = rest

-- Inside: an item has ended inside these levels
abbrev pub finished : List Level → Move
finished [] = whole
finished (level ∷ levels) = waits (level_after level) levels (finished levels)

-- Inside: an item, or a chunk of a string of indefinite length, has ended
abbrev pub ended : List Level → Option StringKind → Move
ended levels None = finished levels
ended levels (Some kind) = goes levels (Some kind) Beginning

-- Inside: a break ends the string, or else the innermost level
abbrev pub broken : List Level → Option StringKind → Move
broken levels (Some kind) = finished levels
broken [] None = whole
broken (level ∷ levels) None = finished levels

-- Inside: what comes behind a whole head: the bytes of a string, the parts of an item, or what follows where there are none
abbrev pub after_head : List Level → Option StringKind → Body → Move
after_head levels string nothing = ended levels string
after_head levels string (some_bytes n) = if nat_lt 0 n then goes levels string (InBytes n) else ended levels string
after_head levels string (some_text n) = if nat_lt 0 n then goes levels string (InText ready n) else ended levels string
after_head levels string (some_parts n) = if nat_lt 0 n then goes (Parts n ∷ levels) string Beginning else ended levels string

-- Inside: an initial byte of indefinite length, or a break
abbrev pub opened : List Level → Option StringKind → Major → Move
opened levels string ByteString = goes levels (Some Bytes) Beginning
opened levels string TextString = goes levels (Some Text) Beginning
opened levels string Array = goes (Items ∷ levels) string Beginning
opened levels string Map = goes (Keys ∷ levels) string Beginning
opened levels string Unsigned = broken levels string
opened levels string Negative = broken levels string
opened levels string Tag = broken levels string
opened levels string Simple = broken levels string

-- Inside: how many bytes of a head follow its first one
abbrev pub width_of : ℕ → ℕ
width_of info = if info == 24 then 1 else (if info == 25 then 2 else (if info == 26 then 4 else 8))

-- Inside: what an initial byte without a fault begins: a whole head, a longer one, or one of indefinite length
abbrev pub heads : List Level → Option StringKind → Major → ℕ → Move
heads levels string major info =
    if nat_lt info 24 then after_head levels string (body_of major info)
    else (if info == 31 then opened levels string major else goes levels string (Heading major (info == 24) 0 (width_of info)))

-- Inside: what an initial byte begins, or its fault
abbrev pub started : List Level → Option StringKind → Option FaultName → ℕ → ℕ → Move
started levels string (Some name) major info = bad name
started levels string None major info = heads levels string (major_of major) info

-- Inside: the fault of an initial byte there
abbrev pub first_name : List Level → Option StringKind → ℕ → ℕ → Option FaultName
first_name levels None major info = start_name (length levels) (can_break levels) major info
first_name levels (Some kind) major info = chunk_name kind major info

abbrev pub is_simple : Major → Bool
is_simple Simple = 1 == 1
is_simple Unsigned = 0 == 1
is_simple Negative = 0 == 1
is_simple ByteString = 0 == 1
is_simple TextString = 0 == 1
is_simple Array = 0 == 1
is_simple Map = 0 == 1
is_simple Tag = 0 == 1

-- Inside: the number with one more byte, below 2 ^ 64
abbrev pub shifted : ℕ → ℕ → ℕ
shifted value byte = (value * 256) % 2 ^ 64 + byte

-- Inside: what comes behind a byte of a text with so many bytes left, by what UTF-8 still owes
abbrev pub texts : List Level → Option StringKind → Option Owed → ℕ → Move
texts levels string None left = bad NotText
texts levels string (Some o) left = if nat_le o.need (left - 1) then (if nat_lt 1 left then goes levels string (InText o (left - 1)) else ended levels string) else bad NotText

-- Inside: where a byte leads
abbrev pub step : List Level → Option StringKind → Stage → ℕ → Move
step levels string Beginning byte = started levels string (first_name levels string (byte / 32) (byte % 32)) (byte / 32) (byte % 32)
step levels string (Heading major short value left) byte =
    if (is_simple major && short) && nat_lt byte 32 then bad Malformed
    else (if nat_lt 1 left then goes levels string (Heading major short (shifted value byte) (left - 1)) else after_head levels string (body_of major (shifted value byte)))
step levels string (InBytes left) byte = if nat_lt 1 left then goes levels string (InBytes (left - 1)) else ended levels string
step levels string (InText owed left) byte = texts levels string (owed_after owed byte) left

-- the innermost of so many levels first
abbrev pub levels_in : ℕ → List Level → List Level
levels_in zero xs = []
levels_in (suc d) xs = get_or xs d (Parts 0) ∷ levels_in d xs

-- the fault of the byte that would stand at this spot
abbrev pub name_of : Spot → ℕ → Option FaultName
name_of (starts inside breaks) byte = start_name inside breaks (byte / 32) (byte % 32)
name_of (starts_chunk kind) byte = chunk_name kind (byte / 32) (byte % 32)
name_of after_simple byte = if nat_lt byte 32 then Some Malformed else None
name_of (in_text content left) byte = if can_end (content ++ byte ∷ []) (left - 1) then None else Some NotText
name_of elsewhere byte = None
