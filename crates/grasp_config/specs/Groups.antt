-- Inside: the groups in which the keys of a configuration are read.
use Rattle.std.specs.Prelude.{◌≡◌, List, [], ◌∷◌, Some}
use Rattle.toml.specs.Data.{Members}
use Rattle.grasp_config.specs.Config.{AreRoots}
use Rattle.grasp_config.specs.Keys.{address_in, listen_in, turns_in, wait_in, size_in, roots_in, links_in, wants_in, beacons_in, readers_in}
use Rattle.grasp_config.specs.declared.fault.ConfigKey.{ConfigKey}
use Rattle.grasp_config.specs.declared.fault.ConfigKey.TheVariants.{Address, Listen, Turns, Wait, Size, Roots, Link, Want, Beacon, Reader}
use Rattle.grasp_config.specs.declared.read.Basics.{Basics}
use Rattle.grasp_config.specs.declared.read.Places.{Places}
use Rattle.grasp_config.specs.declared.read.Agents.{Agents}

abbrev pub basic_keys : List ConfigKey
basic_keys = Address ∷ Listen ∷ Turns ∷ Wait ∷ Size ∷ []

pub record AreBasics (table : Members) (basics : Basics) : Type 0 where
  pub address : address_in table ≡ Some basics.address
  pub listen : listen_in table ≡ Some basics.listen
  pub turns : turns_in table ≡ Some basics.turns
  pub wait : wait_in table ≡ Some basics.wait
  pub size : size_in table ≡ Some basics.size

abbrev pub place_keys : List ConfigKey
place_keys = Roots ∷ Link ∷ []

pub record ArePlaces (table : Members) (places : Places) : Type 0 where
  pub roots : roots_in table ≡ Some places.roots
  pub opens : AreRoots places.roots
  pub links : links_in table ≡ Some places.links

abbrev pub agent_keys : List ConfigKey
agent_keys = Want ∷ Beacon ∷ Reader ∷ []

pub record AreAgents (table : Members) (agents : Agents) : Type 0 where
  pub wants : wants_in table ≡ Some agents.wants
  pub beacons : beacons_in table ≡ Some agents.beacons
  pub readers : readers_in table ≡ Some agents.readers
