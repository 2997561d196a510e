-- The beginnings of items that aren't whole, and what their next byte would be.
use Rattle.std.specs.Prelude.{◌≡◌, ◌≢◌, ℕ, ◌+◌, ◌-◌, ◌*◌, ◌/◌, ◌%◌, ◌<◌, ◌≤◌, Bool, true, false, not, ◌&&◌, ◌||◌, nat_lt, nat_le, ◌==◌, List, [], ◌∷◌, ◌++◌, length, Option, Some, None, if◌then◌else◌}
use Rattle.grasp_cbor.specs.Bytes.{joined}
use Rattle.grasp_cbor.specs.Head.{HeadSize, direct, one_byte, two_bytes, four_bytes, eight_bytes, argument_limit, sized_head}
use Rattle.grasp_cbor.specs.CanGoOn.{AreItems}
use Rattle.grasp_cbor.specs.Encodes.{string_major, AreChunks}
use Rattle.grasp_cbor.specs.Utf8.{CanEnd}
use Rattle.grasp_cbor.specs.Major.{major_number}
use Rattle.grasp_cbor.specs.declared.heads.StringKind.{StringKind}
use Rattle.grasp_cbor.specs.declared.heads.Major.{Major}
use Rattle.grasp_cbor.specs.declared.heads.Major.TheVariants.{Unsigned, Negative, ByteString, TextString, Array, Map, Tag, Simple}
use Rattle.grasp_cbor.specs.declared.walker.Level.{Level}
use Rattle.grasp_cbor.specs.declared.walker.Level.TheVariants.{Parts, Items, Keys, Values}
use Rattle.grasp_cbor.specs.declared.walker.FaultName.{FaultName}
use Rattle.grasp_cbor.specs.declared.walker.FaultName.TheVariants.{Malformed, TooDeep, NotText}

-- what comes after a head of definite length
pub data Body : Type 0 where
  nothing : Body
  some_bytes : ℕ → Body
  some_text : ℕ → Body
  some_parts : ℕ → Body

abbrev pub body_of : Major → ℕ → Body
body_of Unsigned n = nothing
body_of Negative n = nothing
body_of ByteString n = some_bytes n
body_of TextString n = some_text n
body_of Array n = some_parts n
body_of Map n = some_parts (2 * n)
body_of Tag n = some_parts 1
body_of Simple n = nothing

-- a simple value has one form
abbrev pub IsSimpleHead : HeadSize → ℕ → Type 0
IsSimpleHead direct n = Unit {0}
IsSimpleHead one_byte n = 32 ≤ n
IsSimpleHead two_bytes n = Unit {0}
IsSimpleHead four_bytes n = Unit {0}
IsSimpleHead eight_bytes n = Unit {0}

abbrev pub IsFine : Major → HeadSize → ℕ → Type 0
IsFine Unsigned size n = Unit {0}
IsFine Negative size n = Unit {0}
IsFine ByteString size n = Unit {0}
IsFine TextString size n = Unit {0}
IsFine Array size n = Unit {0}
IsFine Map size n = Unit {0}
IsFine Tag size n = Unit {0}
IsFine Simple size n = IsSimpleHead size n

-- a head of definite length that may begin an item
pub record IsHeadOf (major : Major) (n : ℕ) (s : List ℕ) : Type 0 where
  pub size : HeadSize
  pub fits : n < argument_limit size
  pub fine : IsFine major size n
  pub form : s ≡ sized_head size (major_number major) n

-- a head of a list, a map or a tag of so many parts
pub record OpensParts (count : ℕ) (s : List ℕ) : Type 0 where
  pub major : Major
  pub n : ℕ
  pub head : IsHeadOf major n s
  pub counted : body_of major n ≡ some_parts count

-- What opens a level, and how many parts it can have then: one that counts its parts still waits for some, and a map of
-- indefinite length waits for a key after whole pairs, and for a value in between (RFC 8949, section 3.2.2).
abbrev pub Opens : Level → ℕ → List ℕ → Type 0
Opens (Parts left) count s = (0 < left) × OpensParts (count + left) s
Opens Items count s = s ≡ 159 ∷ []
Opens Keys count s = (s ≡ 191 ∷ []) × (pairs : ℕ) × (count ≡ 2 * pairs)
Opens Values count s = (s ≡ 191 ∷ []) × (pairs : ℕ) × (count ≡ 2 * pairs + 1)

-- a list, a map or a tag with some of its parts, the next of which may begin now
pub record HasParts (depth : ℕ) (level : Level) (s : List ℕ) : Type 0 where
  pub opening : List ℕ
  pub parts : List (List ℕ)
  pub opens : Opens level (length parts) opening
  pub each : AreItems depth parts
  pub form : s ≡ opening ++ joined parts

-- Between the parts of lists, maps and tags, the innermost first: what each still waits for.
-- An item that begins here may be so deep.
abbrev pub Inside : ℕ → List Level → List ℕ → Type 0
Inside depth [] s = (depth ≡ 16) × (s ≡ [])
Inside depth (level ∷ levels) s = (outer own : List ℕ) × Inside (depth + 1) levels outer × HasParts depth level own × (s ≡ outer ++ own)

-- between the chunks of a string of indefinite length, where one is open (RFC 8949, section 3.2.3)
abbrev pub InString : Option StringKind → List ℕ → Type 0
InString None s = s ≡ []
InString (Some kind) s = (chunks : List (List ℕ)) × (body : List ℕ) × AreChunks kind chunks body × (s ≡ (32 * string_major kind + 31) ∷ body)

-- what may begin there: a string of indefinite length has chunks of its own kind alone
abbrev pub MayBegin : Option StringKind → Major → Type 0
MayBegin None major = Unit {0}
MayBegin (Some kind) major = major_number major ≡ string_major kind

-- what the next byte would be
pub data Spot : Type 0 where
  -- the next byte starts an item inside so many lists, maps and tags, or is a break where one may stand
  starts : ℕ → Bool → Spot
  -- the next byte starts a chunk of a string of this kind, or is the break that ends the string
  starts_chunk : StringKind → Spot
  -- the next byte is the second byte of a simple value
  after_simple : Spot
  -- the next byte stands in a text, or in a chunk of one, after these bytes, with so many left
  in_text : List ℕ → ℕ → Spot
  elsewhere : Spot

-- a break may stand where a list of indefinite length, or a map of indefinite length after whole pairs, is the innermost
abbrev pub can_break : List Level → Bool
can_break [] = false
can_break (Parts left ∷ levels) = false
can_break (Items ∷ levels) = true
can_break (Keys ∷ levels) = true
can_break (Values ∷ levels) = false

-- the spot of the first byte of an item or of a chunk
abbrev pub first_spot : Option StringKind → List Level → Spot
first_spot None levels = starts (length levels) (can_break levels)
first_spot (Some kind) levels = starts_chunk kind

-- a body that has parts has room for them: they may be at least one level deep
abbrev pub HasRoom : ℕ → Body → Type 0
HasRoom depth nothing = Unit {0}
HasRoom depth (some_bytes n) = Unit {0}
HasRoom depth (some_text n) = Unit {0}
HasRoom depth (some_parts n) = 0 < depth

-- the front of a head of definite length
pub record IsCutHead (string : Option StringKind) (depth : ℕ) (s : List ℕ) : Type 0 where
  pub major : Major
  pub size : HeadSize
  pub n : ℕ
  pub first : ℕ
  pub got : List ℕ
  pub next : ℕ
  pub more : List ℕ
  pub fits : n < argument_limit size
  pub form : s ≡ first ∷ got
  pub whole : sized_head size (major_number major) n ≡ (first ∷ got) ++ next ∷ more
  pub room : HasRoom depth (body_of major n)
  pub may : MayBegin string major

-- a head of bytes or of a text, and fewer bytes than it says
pub record IsCutString (string : Option StringKind) (major : Major) (content : List ℕ) (left : ℕ) (s : List ℕ) : Type 0 where
  pub opening : List ℕ
  pub head : IsHeadOf major (length content + left) opening
  pub some : 0 < left
  pub form : s ≡ opening ++ content
  pub may : MayBegin string major

-- the front of an item, or of a chunk, that has begun inside these levels and may be so deep
pub data IsCut (string : Option StringKind) (levels : List Level) (depth : ℕ) (s : List ℕ) : Spot → Type 0 where
  at_start : s ≡ [] → IsCut string levels depth s (first_spot string levels)
  at_simple : s ≡ 248 ∷ [] → MayBegin string Simple → IsCut string levels depth s after_simple
  at_head : IsCutHead string depth s → s ≢ 248 ∷ [] → IsCut string levels depth s elsewhere
  at_bytes : (content : List ℕ) (left : ℕ) → IsCutString string ByteString content left s → IsCut string levels depth s elsewhere
  at_text : (content : List ℕ) (left : ℕ) → IsCutString string TextString content left s → CanEnd content left → IsCut string levels depth s (in_text content left)

-- the bytes are the front of an item, and the next byte stands at this spot
pub record Front (s : List ℕ) (spot : Spot) : Type 0 where
  pub depth : ℕ
  pub levels : List Level
  pub string : Option StringKind
  pub outer : List ℕ
  pub opened : List ℕ
  pub cut : List ℕ
  pub inside : Inside depth levels outer
  pub between : InString string opened
  pub begun : IsCut string levels depth cut spot
  pub form : s ≡ outer ++ (opened ++ cut)

-- The fault of an initial byte inside so many arrays, maps and tags, where a break may stand or not (RFC 8949, sections 3
-- and 3.2).
unfoldable pub start_name : ℕ → Bool → ℕ → ℕ → Option FaultName
start_name inside breaks major info =
    if (nat_lt 27 info && nat_lt info 31) || (info == 31 && ((nat_lt major 2 || major == 6) || (major == 7 && not breaks))) then Some Malformed
    else (if (nat_lt 3 major && nat_lt major 7) && nat_le 16 inside then Some TooDeep else None)

-- the fault of an initial byte inside a string of indefinite length: a chunk has the string's own major type and a definite
-- length (RFC 8949, section 3.2.3)
unfoldable pub chunk_name : StringKind → ℕ → ℕ → Option FaultName
chunk_name kind major info = if (major == string_major kind && nat_lt info 28) || (major == 7 && info == 31) then None else Some Malformed

-- the byte that would stand at this spot has this fault: no item begins with what is there then
abbrev pub IsNamed : Spot → ℕ → FaultName → Type 0
IsNamed (starts inside breaks) byte name = start_name inside breaks (byte / 32) (byte % 32) ≡ Some name
IsNamed (starts_chunk kind) byte name = chunk_name kind (byte / 32) (byte % 32) ≡ Some name
IsNamed after_simple byte name = (byte < 32) × (name ≡ Malformed)
IsNamed (in_text content left) byte name = (¬ CanEnd (content ++ byte ∷ []) (left - 1)) × (name ≡ NotText)
IsNamed elsewhere byte name = ⊥
