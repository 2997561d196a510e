-- When two keys are one.
use Rattle.std.specs.Prelude.{ℕ, Bool, List}
use Rattle.grasp_types.specs.declared.address.Address.{Address}
use Rattle.grasp_flood.specs.declared.keys.FloodKey.{FloodKey}
use Rattle.grasp_flood.specs.contracts.keys.FloodKeyPartialEq.TheImpl.{ghosts}

-- what `==` answers at two keys: name and initiator are one
abbrev pub same_key : FloodKey → FloodKey → Bool
same_key = ghosts.eq

-- the key of this name and this initiator
abbrev pub key_of : List ℕ → Address → FloodKey
key_of text node = record { name = text; initiator = node }
