-- What `==` answers, and that it is whether the two are one value.
use Rattle.std.specs.Prelude.{◌≡◌, Bool}
use Rattle.std.specs.Bool.{Decides}
use Rattle.grasp_types.specs.declared.address.Address.{Address}
use Rattle.grasp_types.specs.declared.address.Locator.{Locator}
use Rattle.grasp_types.specs.declared.origin.Origin.{Origin}
use Rattle.grasp_types.specs.contracts.address.AddressPartialEq.TheImpl as address
use Rattle.grasp_types.specs.contracts.address.LocatorPartialEq.TheImpl as locator
use Rattle.grasp_types.specs.contracts.origin.OriginPartialEq.TheImpl as origin

-- what `==` answers at two addresses
abbrev pub same_address : Address → Address → Bool
same_address = address.ghosts.eq

-- what `==` answers at two locators; a name's bytes are compared as they are (RFC 8990, section 2.9.5)
abbrev pub same_locator : Locator → Locator → Bool
same_locator = locator.ghosts.eq

-- what `==` answers at two origins
abbrev pub same_origin : Origin → Origin → Bool
same_origin = origin.ghosts.eq

-- two addresses, two locators and two origins are equal exactly where they are one value
pub record EqualIsSame : Type 0 where
  pub address : (a b : Address) → Decides (same_address a b) (a ≡ b)
  pub locator : (a b : Locator) → Decides (same_locator a b) (a ≡ b)
  pub origin : (a b : Origin) → Decides (same_origin a b) (a ≡ b)
