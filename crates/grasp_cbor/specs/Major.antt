-- Major types (RFC 8949, section 3.1).
use Rattle.std.specs.Prelude.{ℕ, ◌==◌, if◌then◌else◌}
use Rattle.grasp_cbor.specs.declared.heads.Major.{Major}
use Rattle.grasp_cbor.specs.declared.heads.Major.TheVariants.{Unsigned, Negative, ByteString, TextString, Array, Map, Tag, Simple}

-- the number of a major type
abbrev pub major_number : Major → ℕ
major_number Unsigned = 0
major_number Negative = 1
major_number ByteString = 2
major_number TextString = 3
major_number Array = 4
major_number Map = 5
major_number Tag = 6
major_number Simple = 7

-- the major type of a number below 8
unfoldable pub major_of : ℕ → Major
major_of k = if k == 0 then Unsigned else (if k == 1 then Negative else (if k == 2 then ByteString else (if k == 3 then TextString else (if k == 4 then Array else (if k == 5 then Map else (if k == 6 then Tag else Simple))))))
