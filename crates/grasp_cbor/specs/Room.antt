-- Inside: how many levels what was begun takes.
use Rattle.std.specs.Prelude.{ℕ}
use Rattle.grasp_cbor.specs.declared.heads.Major.{Major}
use Rattle.grasp_cbor.specs.declared.heads.Major.TheVariants.{Unsigned, Negative, ByteString, TextString, Array, Map, Tag, Simple}
use Rattle.grasp_cbor.specs.declared.walker.Stage.{Stage}
use Rattle.grasp_cbor.specs.declared.walker.Stage.TheVariants.{Beginning, Heading, InBytes, InText}

abbrev pub levels_of : Major → ℕ
levels_of Unsigned = 0
levels_of Negative = 0
levels_of ByteString = 0
levels_of TextString = 0
levels_of Array = 1
levels_of Map = 1
levels_of Tag = 1
levels_of Simple = 0

abbrev pub levels_at : Stage → ℕ
levels_at Beginning = 0
levels_at (Heading major short value left) = levels_of major
levels_at (InBytes left) = 0
levels_at (InText owed left) = 0
