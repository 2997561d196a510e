-- Where the walker stands after the bytes that it took.
use Rattle.std.specs.Prelude.{◌≡◌, ℕ, ◌+◌, ◌*◌, ◌<◌, ◌≤◌, Bool, ◌&&◌, true, false, List, [], ◌∷◌, ◌++◌, length, Option, Some, if◌then◌else◌}
use Rattle.grasp_cbor.specs.Head.{HeadSize, direct, one_byte, two_bytes, four_bytes, eight_bytes}
use Rattle.grasp_cbor.specs.Utf8.{ready, owed_of}
use Rattle.grasp_cbor.specs.Major.{major_number}
use Rattle.grasp_cbor.specs.Front.{Inside, InString, MayBegin, IsCutString, Spot, first_spot, after_simple, in_text, elsewhere}
use Rattle.grasp_cbor.specs.Bytes.{AllBytes}
use Rattle.grasp_cbor.specs.Step.{is_simple}
use Rattle.grasp_cbor.specs.declared.utf8.Owed.{Owed}
use Rattle.grasp_cbor.specs.declared.heads.StringKind.{StringKind}
use Rattle.grasp_cbor.specs.declared.heads.Major.{Major}
use Rattle.grasp_cbor.specs.declared.heads.Major.TheVariants.{ByteString, TextString}
use Rattle.grasp_cbor.specs.declared.walker.Level.{Level}
use Rattle.grasp_cbor.specs.declared.walker.Stage.{Stage}
use Rattle.grasp_cbor.specs.declared.walker.Stage.TheVariants.{Beginning, Heading, InBytes, InText}

-- the low bits of the first byte of a head, and how many bytes follow
abbrev pub info_of : HeadSize → ℕ → ℕ
info_of direct n = n
info_of one_byte n = 24
info_of two_bytes n = 25
info_of four_bytes n = 26
info_of eight_bytes n = 27

abbrev pub argument_width : HeadSize → ℕ
argument_width direct = 0
argument_width one_byte = 1
argument_width two_bytes = 2
argument_width four_bytes = 4
argument_width eight_bytes = 8

abbrev pub is_one : HeadSize → Bool
is_one direct = false
is_one one_byte = true
is_one two_bytes = false
is_one four_bytes = false
is_one eight_bytes = false

-- the number of bytes, most significant first
abbrev pub number_from : ℕ → List ℕ → ℕ
number_from v [] = v
number_from v (b ∷ bs) = number_from (v * 256 + b) bs

pub record IsHeading (string : Option StringKind) (depth : ℕ) (major : Major) (short : Bool) (value left : ℕ) (s : List ℕ) : Type 0 where
  pub size : HeadSize
  pub got : List ℕ
  pub short_is : short ≡ is_one size
  pub form : s ≡ (32 * major_number major + info_of size 0) ∷ got
  pub bytes : AllBytes got
  pub value_is : value ≡ number_from 0 got
  pub some : 0 < left
  pub all : length got + left ≡ argument_width size
  pub room : 3 < major_number major → major_number major < 7 → 0 < depth
  pub may : MayBegin string major

pub record IsInText (string : Option StringKind) (owed : Owed) (left : ℕ) (s content : List ℕ) : Type 0 where
  pub cut : IsCutString string TextString content left s
  pub owes : owed_of (Some ready) content ≡ Some owed
  pub enough : owed.need ≤ left

-- the bytes of the item or the chunk that has begun last, and where the next one stands
abbrev pub At : Option StringKind → List Level → ℕ → Stage → List ℕ → Spot → Type 0
At string levels depth Beginning s spot = (s ≡ []) × (spot ≡ first_spot string levels)
At string levels depth (Heading major short value left) s spot = IsHeading string depth major short value left s × (spot ≡ (if is_simple major && short then after_simple else elsewhere))
At string levels depth (InBytes left) s spot = (content : List ℕ) × IsCutString string ByteString content left s × (spot ≡ elsewhere)
At string levels depth (InText owed left) s spot = (content : List ℕ) × IsInText string owed left s content × (spot ≡ in_text content left)

pub record StandsAt (levels : List Level) (string : Option StringKind) (stage : Stage) (s : List ℕ) (spot : Spot) : Type 0 where
  pub depth : ℕ
  pub outer : List ℕ
  pub opened : List ℕ
  pub cut : List ℕ
  pub inside : Inside depth levels outer
  pub between : InString string opened
  pub at : At string levels depth stage cut spot
  pub form : s ≡ outer ++ (opened ++ cut)
