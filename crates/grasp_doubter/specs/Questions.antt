-- The value of PrefixDoubt: the address of the node that is asked, and the prefix that it is asked of. Name and values are this project's own.
use Rattle.std.specs.Prelude.{ℕ, ◌+◌, ◌==◌, if◌then◌else◌, List, [], ◌∷◌, length, slice_get, Option, Some, None, codes}
use Rattle.std.specs.Int.{to_be_bytes, from_be_bytes, w32, w128}
use Rattle.grasp_cbor.specs.DataItem.{DataItem, unsigned, byte_string, array_of}
use Rattle.grasp_types.specs.Address.{address_item}
use Rattle.grasp_types.specs.Prefix.{AddressBlock as Prefix}
use Rattle.grasp_types.specs.declared.address.Address.{Address}
use Rattle.grasp_types.specs.declared.address.Address.TheVariants.{V4, V6}
use Rattle.grasp_agent.specs.Values.{address_in, bytes_in, length_in, number_in, parts_in, prefix_in}
use Rattle.grasp_doubter.specs.declared.question.Question.{Question}

-- the name of the agent
unfoldable pub doubter_name : List ℕ
doubter_name = codes "prefix doubt"

-- the name of its objective
unfoldable pub doubt_name : List ℕ
doubt_name = codes "PrefixDoubt"

-- what a question is declined with
unfoldable pub unknown_text : List ℕ
unknown_text = codes "unknown"

-- the value that asks the node of this address of this prefix
abbrev pub question_value : Address → Prefix → DataItem
question_value a p = array_of (address_item a ∷ unsigned p.length ∷ byte_string (to_be_bytes w128 p.address) ∷ [])

-- the address of 4 or 16 bytes, the most significant first
abbrev pub node_in : Option (List ℕ) → Option Address
node_in None = None
node_in (Some bs) = if length bs == 4 then Some (V4 (from_be_bytes w32 bs)) else (if length bs == 16 then Some (V6 (from_be_bytes w128 bs)) else None)

-- the prefix whose length stands at this place, and whose 16 bytes stand behind it
abbrev pub prefix_from : List DataItem → ℕ → Option Prefix
prefix_from parts place = prefix_in (length_in (number_in (slice_get parts place))) (address_in (bytes_in (slice_get parts (place + 1))))

-- the question of this address and this prefix, where both are there
abbrev pub question_of : Option Address → Option Prefix → Option Question
question_of None p = None
question_of (Some a) None = None
question_of (Some a) (Some p) = Some (record { address = a; prefix = p })

-- the question that a value is
unfoldable pub question_in : Option DataItem → Option Question
question_in value = by_parts (parts_in value) where
  by_parts : Option (List DataItem) → Option Question
  by_parts None = None
  by_parts (Some parts) = if length parts == 3 then question_of (node_in (bytes_in (slice_get parts 0))) (prefix_from parts 1) else None
