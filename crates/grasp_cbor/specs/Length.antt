-- How many bytes a head has.
use Rattle.std.specs.Prelude.{ℕ, length}
use Rattle.grasp_cbor.specs.Head.{shortest_head}

-- how many bytes the shortest head of an argument has, whatever its major type (RFC 8949, section 3)
unfoldable pub head_length : ℕ → ℕ
head_length n = length (shortest_head 0 n)
