-- Objectives as data items, and their ranges.
use Rattle.std.specs.Prelude.{ℕ, Bool, not, if◌then◌else◌, ◌==◌, ◌+◌, bit_and, ◌<◌, ◌≤◌, ◌^◌, List, [], ◌∷◌, Option, Some, None, IfSome}
use Rattle.std.specs.Str.{IsUtf8}
use Rattle.grasp_cbor.specs.DataItem.{DataItem, unsigned, text_string, array_of, depth_of}
use Rattle.grasp_cbor.specs.Encodable.{IsEncodable}
use Rattle.grasp_types.specs.declared.objective.Objective.{Objective}
use Rattle.grasp_types.specs.declared.session.Kind.{Kind}
use Rattle.grasp_types.specs.declared.session.Kind.TheVariants.{Negotiation, Synchronization}

-- F_DISC, F_NEG, F_SYNCH and F_NEG_DRY, of the values 1, 2, 4 and 8 (RFC 8990, section 2.10.2)
abbrev pub has_disc : ℕ → Bool
has_disc flags = not (bit_and flags 1 == 0)

abbrev pub has_neg : ℕ → Bool
has_neg flags = not (bit_and flags 2 == 0)

abbrev pub has_synch : ℕ → Bool
has_synch flags = not (bit_and flags 4 == 0)

abbrev pub has_dry : ℕ → Bool
has_dry flags = not (bit_and flags 8 == 0)

-- the flag of this use is set
abbrev pub has_kind : ℕ → Kind → Bool
has_kind flags Negotiation = has_neg flags
has_kind flags Synchronization = has_synch flags

-- the other flags as they are, and F_NEG_DRY exactly where it is asked for
abbrev pub dry_flags : ℕ → Bool → ℕ
dry_flags flags dry = bit_and flags 7 + (if dry then 8 else 0)

-- the item, where it is there
abbrev pub optional : Option DataItem → List DataItem
optional None = []
optional (Some item) = item ∷ []

-- name, flags, loop count, and the value, where it is there (RFC 8990, section 2.10.1)
abbrev pub objective_item : Objective → DataItem
objective_item o = array_of (text_string o.name ∷ unsigned o.flags ∷ unsigned o.loops ∷ optional o.value)

-- an item that nests at most 13 deep and whose numbers are in range, as a value and as what an M_INVALID tells
pub record IsValue (item : DataItem) : Type 0 where
  pub within : depth_of item ≤ 13
  pub encodable : IsEncodable item

-- the name is UTF-8, the numbers are within their ranges, and the value is one
pub record IsObjective (o : Objective) : Type 0 where
  pub name : IsUtf8 o.name
  pub flags : o.flags ≤ 15
  pub loops : o.loops < 2 ^ 8
  pub value : IfSome o.value IsValue
