-- The keys of a configuration: what each is read as, or none where it is bad.
use Rattle.std.specs.Prelude.{ℕ, ◌+◌, nat_lt, if◌then◌else◌, Bool, List, [], length, Option, Some, None, codes}
use Rattle.toml.specs.Data.{Data, Members, as_str, get_member}
use Rattle.grasp_cbor.specs.DataItem.{DataItem}
use Rattle.grasp_pool.specs.declared.roots.RootPrefix.{RootPrefix}
use Rattle.grasp_text.specs.Reading.{address_of, value_of}
use Rattle.grasp_types.specs.declared.address.Address.{Address}
use Rattle.grasp_types.specs.declared.address.Locator.{Locator}
use Rattle.grasp_types.specs.declared.links.Neighbour.{Neighbour as Peer}
use Rattle.grasp_config.specs.Table.{◌>>=◌, number_in, text_at, number_at, or_absent, list_of, at_most, table_of, has_only}
use Rattle.grasp_config.specs.Words.{endpoint_of, root_of}
use Rattle.grasp_config.specs.Parts.{keys_of}
use Rattle.grasp_config.specs.declared.table.Part.TheVariants.{Top, Link, Neighbour, Want, Beacon, Reader}
use Rattle.grasp_config.specs.declared.config.WantConfig.{WantConfig}
use Rattle.grasp_config.specs.declared.config.BeaconConfig.{BeaconConfig}

-- the address of the node: 8 or 32 digits
abbrev pub address_in : Members → Option Address
address_in table = text_at (codes "address") table >>= address_of

-- where it listens: `ADDRESS:PORT`
abbrev pub listen_in : Members → Option Locator
listen_in table = text_at (codes "listen") table >>= endpoint_of

-- how many turns it makes
abbrev pub turns_in : Members → Option ℕ
turns_in table = number_at 1 1000000 (codes "turns") table

-- the milliseconds for one ask, 10 where they are absent
abbrev pub wait_in : Members → Option ℕ
wait_in table = or_absent 10 (number_in 0 1000) (get_member (codes "wait") table)

-- the most bytes of a message, 2048 where they are absent
abbrev pub size_in : Members → Option ℕ
size_in table = or_absent 2048 (number_in 2048 65535) (get_member (codes "size") table)

-- the roots of its pool: texts `ADDRESS/LENGTH`
abbrev pub root_value : Data → Option RootPrefix
root_value value = as_str value >>= root_of

abbrev pub roots_in : Members → Option (List RootPrefix)
roots_in table = or_absent [] (list_of root_value) (get_member (codes "roots") table)

-- a neighbour: its address, and `ADDRESS:PORT`, at which it listens
unfoldable pub neighbour_of : Data → Option Peer
neighbour_of value = do
  table ← table_of (keys_of Neighbour) value
  address ← text_at (codes "address") table >>= address_of
  locator ← text_at (codes "at") table >>= endpoint_of
  Some (record { address = address; locator = locator })

-- a link: at most 16 neighbours
abbrev pub neighbours_of : Data → Option (List Peer)
neighbours_of value = list_of neighbour_of value >>= at_most 16

unfoldable pub link_of : Data → Option (List Peer)
link_of value = table_of (keys_of Link) value >>= λ table. get_member (codes "neighbour") table >>= neighbours_of

-- at most 16 links
abbrev pub links_of : Data → Option (List (List Peer))
links_of value = list_of link_of value >>= at_most 16

abbrev pub links_in : Members → Option (List (List Peer))
links_in table = or_absent [] links_of (get_member (codes "link") table)

-- a prefix that is wanted of a peer: of this length, or of a greater one up to the longest
unfoldable pub want_of : Data → Option WantConfig
want_of value = do
  table ← table_of (keys_of Want) value
  length ← number_at 1 128 (codes "length") table
  longest ← number_at length 128 (codes "longest") table
  peer ← text_at (codes "peer") table >>= endpoint_of
  Some (record { length = length; longest = longest; peer = peer })

abbrev pub wants_in : Members → Option (List WantConfig)
wants_in table = or_absent [] (list_of want_of) (get_member (codes "want") table)

-- an objective that is announced: its name, how long its value is kept, how far it goes, and the value
abbrev pub value_in : Members → Option DataItem
value_in table = text_at (codes "value") table >>= value_of

unfoldable pub beacon_in : Members → Option BeaconConfig
beacon_in table = do
  name ← text_at (codes "name") table
  ttl ← number_at 0 4294967295 (codes "ttl") table
  loops ← number_at 0 255 (codes "loops") table
  item ← value_in table
  Some (record { name = name; value = item; ttl = ttl; loops = loops })

abbrev pub beacon_of : Data → Option BeaconConfig
beacon_of value = table_of (keys_of Beacon) value >>= beacon_in

abbrev pub beacons_in : Members → Option (List BeaconConfig)
beacons_in table = or_absent [] (list_of beacon_of) (get_member (codes "beacon") table)

-- the name of an objective that is read
unfoldable pub reader_of : Data → Option (List ℕ)
reader_of value = table_of (keys_of Reader) value >>= text_at (codes "name")

-- readers, of which there are at most 7 together with so many beacons
abbrev pub few_with : Option (List BeaconConfig) → List (List ℕ) → Option (List (List ℕ))
few_with None readers = Some readers
few_with (Some beacons) readers = if nat_lt 7 (length beacons + length readers) then None else Some readers

abbrev pub readers_in : Members → Option (List (List ℕ))
readers_in table = or_absent [] (list_of reader_of) (get_member (codes "reader") table) >>= few_with (beacons_in table)

-- the table has no other keys than those of a configuration
abbrev pub is_known : Members → Bool
is_known table = has_only (keys_of Top) table
