-- What a discovery message or a flood is known by.
use Rattle.std.specs.Prelude.{ℕ}
use Rattle.grasp_types.specs.declared.address.Address.{Address}
use Rattle.grasp_types.specs.declared.origin.Origin.{Origin}

-- the origin of this number and this initiator (RFC 8990, section 2.7)
abbrev pub origin_of : ℕ → Address → Origin
origin_of number node = record { session = number; initiator = node }
